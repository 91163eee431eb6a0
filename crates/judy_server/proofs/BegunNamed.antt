-- A service that has begun with records has the arrays that they tell, name by name.
use Rattle.std.proofs.Common.{◌≡◌, ℕ, List, Option, Some, None, refl, sym, ◌∙◌, ap}
use Rattle.judy_journal.specs.Replays.{RecordsTellAll}
use Rattle.judy_model.specs.Tenant.{no_arrays}
use Rattle.judy_table.specs.Tenants.{place_of}
use Rattle.judy_tenants.specs.Held.{states_of}
use Rattle.judy_server.specs.Crashes.{HasBegunWith}
use Rattle.judy_server.specs.Named.{arrays_at, arrays_named}
use Rattle.judy_server.specs.Tally.{Tallied, is_among}
use Rattle.judy_server.proofs.Naming.{after_steps, steps_named}
use Rattle.judy_server.proofs.Replayed.{PlaysNamed, replayed-named}
use Rattle.judy_server.proofs.lemmas.Begun.{place, states-after, states-free, tenants}

module _ (records : List (List ℕ)) (service : Tallied) (h : HasBegunWith records service) where
  -- each name has the arrays that the records tell
  pub begun-named : RecordsTellAll → (name : List ℕ) → arrays_named service name ≡ after_steps no_arrays (steps_named name records)
  begun-named all name = ap (λ ts. arrays_at (states_of service.held) (place_of name ts)) (tenants records service h) ∙ by (place_of name h.first.held.tenants) refl
    where
      run : PlaysNamed h.free records h.played
      run = replayed-named all records h.free h.played h.lifted.sound h.are

      by : (o : Option ℕ) → place_of name h.first.held.tenants ≡ o
          → arrays_at (states_of service.held) (place_of name h.first.held.tenants) ≡ after_steps no_arrays (steps_named name records)
      by (Some t) e =
          ap (arrays_at (states_of service.held)) e
          ∙ states-after records service h t
          ∙ run.named name t (place records service h name ∙ e)
          ∙ ap (λ s. after_steps s (steps_named name records)) (states-free records service h t)
      by None e =
          ap (arrays_at (states_of service.held)) e
          ∙ sym (run.nameless name no_arrays (place records service h name ∙ e) (λ no. refl) (ap (λ names. is_among names name) h.limited.nobody_absent))
