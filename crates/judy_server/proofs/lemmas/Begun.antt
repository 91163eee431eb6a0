-- A service that has begun with records: they were played without its quotas, and then its table was put in force.
--     begun-table     the table is that of the first service
--     states-after    each place has the arrays that it had after the records
use Rattle.std.proofs.Common.{◌≡◌, ◌||◌, ℕ, true, List, [], ◌∷◌, refl, sym, ◌∙◌, ap, subst}
use Rattle.std.specs.List.{AllByRecursion}
use Rattle.std.proofs.lemmas.Bool.{and_from}
use Rattle.judy_model.specs.Tenant.{no_arrays}
use Rattle.judy_table.specs.declared.tenant.Tenant.{Tenant}
use Rattle.judy_table.specs.Seats.{AreRows, has_name, seated}
use Rattle.judy_table.specs.Tenants.{is_vacant, place_of}
use Rattle.judy_table.specs.Unlimited.{unlimited}
use Rattle.judy_table.proofs.lemmas.Unlimited.{seated-unlimited, unlimited-kept, unlimited-place, unlimited-rows}
use Rattle.judy_tenants.specs.Held.{Held, IsSoundService, states_of}
use Rattle.judy_server.specs.Crashes.{HasBegunWith}
use Rattle.judy_server.specs.Reloads.{has_all, is_kept}
use Rattle.judy_server.specs.Tally.{Tallied}
use Rattle.judy_server.proofs.Tables.{KeepsTable, replayed-table}
use Rattle.judy_server.proofs.lemmas.Keeping.{place-stays}

-- a table has all tenants of these rows
all-kept : (table rows : List Tenant) → AllByRecursion (λ r. (is_vacant r || has_name r.name table) ≡ true) rows → has_all rows table ≡ true
all-kept table [] h = refl
all-kept table (r ∷ rows) h = and_from (is_kept table r) (has_all rows table) h.0 (all-kept table rows h.1)

-- the table is that of the first service
pub record IsBegun (first service : Tallied) : Type 0 where
  pub sound : IsSoundService service.held
  pub rows : AreRows service.held.tenants
  pub tenants : service.held.tenants ≡ first.held.tenants

module _ (records : List (List ℕ)) (service : Tallied) (h : HasBegunWith records service) where
  abbrev pub first : Held
  first = h.first.held

  pub known : AreRows first.tenants
  known = h.new.3.rows

  pub tenants-free : h.free.held.tenants ≡ unlimited first.tenants
  tenants-free = ap (λ (t : Tallied). t.held.tenants) h.lifted.now

  table : KeepsTable h.free h.played
  table = replayed-table records h.free h.played h.lifted.sound h.are

  tenants-played : h.played.held.tenants ≡ unlimited first.tenants
  tenants-played = table.tenants ∙ tenants-free

  seats : h.limited.mid.tenants ≡ first.tenants
  seats = h.limited.tenants
      ∙ ap (λ rows. seated rows h.table) tenants-played
      ∙ ap (seated (unlimited first.tenants)) h.lifted.table_is
      ∙ seated-unlimited first.tenants known

  pub tenants : service.held.tenants ≡ first.tenants
  tenants = ap (λ (x : Held). x.tenants) h.limited.held ∙ seats

  pub begun-table : IsBegun h.first service
  begun-table = record { sound = h.limited.sound; rows = h.limited.rows; tenants = tenants }

  pub states-free : (t : ℕ) → states_of h.free.held t ≡ no_arrays
  states-free t = ap (λ (x : Tallied). states_of x.held t) h.lifted.now ∙ h.new.3.states t

  pub place : (name : List ℕ) → place_of name h.free.held.tenants ≡ place_of name first.tenants
  place name = ap (place_of name) tenants-free ∙ unlimited-place name first.tenants

  rows-played : AreRows h.played.held.tenants
  rows-played = subst AreRows (sym tenants-played) (unlimited-rows first.tenants known)

  kept : has_all h.played.held.tenants h.table ≡ true
  kept = ap (λ rows. has_all rows h.table) tenants-played
      ∙ ap (has_all (unlimited first.tenants)) h.lifted.table_is
      ∙ all-kept first.tenants (unlimited first.tenants) (unlimited-kept first.tenants first.tenants (λ name e. e))

  pub states-after : (t : ℕ) → states_of service.held t ≡ states_of h.played.held t
  states-after t =
      ap (λ (x : Held). states_of x t) h.limited.held
      ∙ (place-stays h.table h.played.held h.limited.mid table.sound rows-played h.limited.tenants h.limited.changed kept t _ refl).0
