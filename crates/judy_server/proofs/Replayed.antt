-- What records make of the arrays of a tenant when they are played again.
--     plays-named       one record makes of the arrays of each name what it tells
--     replayed-named    so do records
--     begun-named       a service that has begun with records has the arrays that they tell
use Rattle.std.proofs.Common.{◌≡◌, ℕ, Bool, true, false, not, cond, List, [], ◌∷◌, ◌++◌, Option, Some, None, Result, Ok, Err}
use Rattle.std.proofs.Common.{inl, refl, sym, ◌∙◌, ap, subst, get_or, append-nil}
use Rattle.std.proofs.lemmas.List.{get_or-map}
use Rattle.std.proofs.lemmas.List.Quantifiers.{position-Some}
use Rattle.std.specs.Prelude.{◌||◌, MatchBool}
use Rattle.std.specs.Str.{bytes_eq}
use Rattle.std.proofs.lemmas.Slice.Eq.{bytes_eq-Decides}
use Rattle.judy_journal.specs.declared.replays.Unplayed.{Unplayed}
use Rattle.judy_journal.specs.declared.replays.Unplayed.TheVariants as unplayed
use Rattle.judy_journal.specs.Leaving.{gone_in}
use Rattle.judy_journal.specs.Replays.{AreRecords, HaveAnswered, Places, RecordsTellAll, Told, event_at, event_for, event_told, told}
use Rattle.judy_journal.proofs.lemmas.ReplayLemmas.{asked_again, outcome_is}
use Rattle.judy_model.specs.declared.replies.Reply.{Reply}
use Rattle.judy_model.specs.Speakers.{Event}
use Rattle.judy_model.specs.Tenant.{State, no_arrays}
use Rattle.judy_table.specs.declared.tenant.Tenant.{Tenant}
use Rattle.judy_table.specs.Tenants.{place_of, vacant}
use Rattle.judy_tenants.specs.Held.{IsSoundService, quotas_of, states_of}
use Rattle.judy_server.specs.Replays.{AreReplayed, HaveLeft, IsMadeAgain, IsPassedOver, Plays, PlaysAs, PlaysChange, changing, marks_of, places_in}
use Rattle.judy_server.specs.Tally.{Tallied, can_note, is_among, with_absent, with_name, without_names}
use Rattle.judy_server.proofs.Naming.{Step, after_steps, after_steps-append, calls-are-steps, none-told, steps-append, steps_named, steps_of}
use Rattle.judy_server.proofs.lemmas.Crashes.{named-by-place}

-- ---- names among others

differs : (a b : List ℕ) → (a ≡ b → ⊥) → bytes_eq a b ≡ false
differs a b other = by (bytes_eq a b) refl
  where
    by : (t : Bool) → bytes_eq a b ≡ t → bytes_eq a b ≡ false
    by false e = e
    by true e = absurd (other ((bytes_eq-Decides a b).0 e))

-- a name behind others is among them
pushed : (names : List (List ℕ)) (name : List ℕ) → is_among (names ++ name ∷ []) name ≡ true
pushed [] name = ap (λ b. b || false) ((bytes_eq-Decides name name).1 refl)
pushed (n ∷ names) name = ap (λ b. bytes_eq n name || b) (pushed names name) ∙ always (bytes_eq n name)
  where
    always : (b : Bool) → (b || true) ≡ true
    always true = refl
    always false = refl

-- another name behind them changes nothing
beside : (names : List (List ℕ)) (other name : List ℕ) → bytes_eq other name ≡ false → is_among (names ++ other ∷ []) name ≡ is_among names name
beside [] other name apart = ap (λ b. b || false) apart
beside (n ∷ names) other name apart = ap (λ b. bytes_eq n name || b) (beside names other name apart)

noted : (absent : List (List ℕ)) (name : List ℕ) → is_among (with_name absent name) name ≡ true
noted absent name = by (is_among absent name) refl
  where
    by : (b : Bool) → is_among absent name ≡ b → is_among (cond b absent (absent ++ name ∷ [])) name ≡ true
    by true e = e
    by false e = pushed absent name

noted-beside : (absent : List (List ℕ)) (other name : List ℕ) → bytes_eq other name ≡ false → is_among (with_name absent other) name ≡ is_among absent name
noted-beside absent other name apart = by (is_among absent other)
  where
    by : (b : Bool) → is_among (cond b absent (absent ++ other ∷ [])) name ≡ is_among absent name
    by true = refl
    by false = beside absent other name apart

-- a name that did not leave is among the others as before
kept : (left absent : List (List ℕ)) (name : List ℕ) → is_among left name ≡ false → is_among (without_names absent left) name ≡ is_among absent name
kept left [] name stays = refl
kept left (n ∷ absent) name stays = by (kept left absent name stays) (is_among left n) refl (bytes_eq n name) refl
  where
    by : is_among (without_names absent left) name ≡ is_among absent name → (gone : Bool) → is_among left n ≡ gone → (same : Bool) → bytes_eq n name ≡ same
        → is_among (cond (not gone) (n ∷ without_names absent left) (without_names absent left)) name ≡ (bytes_eq n name || is_among absent name)
    by more false e same f = ap (λ b. bytes_eq n name || b) more
    by more true e false f = more ∙ sym (ap (λ b. b || is_among absent name) f)
    by more true e true f = let wrong : true ≡ false = sym e ∙ ap (is_among left) ((bytes_eq-Decides n name).0 f) ∙ stays in cc

-- ---- one record

-- a name that is noted as absent may have any arrays, and any other has none
abbrev pub IsAccounted : List ℕ → Tallied → State → Type 0
IsAccounted name s arrays = is_among s.tally.absent name ≡ false → arrays ≡ no_arrays

-- records make of the arrays of each name what they tell
pub record PlaysNamed (old : Tallied) (records : List (List ℕ)) (new : Tallied) : Type 0 where
  pub tenants : new.held.tenants ≡ old.held.tenants
  pub sound : IsSoundService new.held
  pub named : (name : List ℕ) (t : ℕ) → place_of name old.held.tenants ≡ Some t
      → states_of new.held t ≡ after_steps (states_of old.held t) (steps_named name records)
  pub nameless : (name : List ℕ) (arrays : State) → place_of name old.held.tenants ≡ None → IsAccounted name old arrays
      → IsAccounted name new (after_steps arrays (steps_named name records))

-- a name that leads to a place is another one than a name that leads nowhere
apart : (places : Places) (a b : List ℕ) (t : ℕ) → places a ≡ Some t → places b ≡ None → a ≡ b → ⊥
apart places a b t here none same = let no : Some t ≡ None = sym here ∙ ap places same ∙ none in cc

-- the steps of one record
only : (name bytes : List ℕ) → steps_named name (bytes ∷ []) ≡ steps_of name (told bytes) (gone_in bytes)
only name bytes = append-nil (steps_of name (told bytes) (gone_in bytes))

-- whether the row at the place that a name leads to is marked
row-marked : (rows : List Tenant) (names : List (List ℕ)) (t : ℕ) (name : List ℕ) → place_of name rows ≡ Some t
    → get_or (marks_of names rows) t false ≡ is_among names name
row-marked rows names t name found =
    let at = position-Some (λ (r : Tenant). bytes_eq r.name name) rows t vacant found in
    get_or-map (λ (r : Tenant). is_among names r.name) rows t vacant false at.0
    ∙ ap (is_among names) ((bytes_eq-Decides (get_or rows t vacant).name name).0 at.1)

-- a change was made again
module _ (all : RecordsTellAll) (old new : Tallied) (sound : IsSoundService old.held) (bytes : List ℕ) (change : Told) (is : told bytes ≡ Some change) where
  abbrev places : Places
  places = places_in old

  made-named : (u : ℕ) → places change.name ≡ Some u → IsMadeAgain old (changing u change.call) (Ok tt) new → PlaysNamed old (bytes ∷ []) new
  made-named u at h = record {
    tenants = h.made.keeps.tenants;
    sound = h.made.sound;
    named = λ name t found.
        all (states_of old.held) (states_of new.held) ps places (bytes ∷ []) run are t name (named-by-place old.held.tenants t name found)
        ∙ sym (calls-are-steps places ps (bytes ∷ []) are name (states_of old.held t));
    nameless = λ name arrays none accounted e.
        ap (after_steps arrays) (none-told places ps (bytes ∷ []) are name none)
        ∙ accounted (ap (λ y. is_among y.absent name) (sym h.made.tally) ∙ e);
  }
    where
      event : Event
      event = changing u change.call

      ps : List (Event × Reply)
      ps = (event, h.reply) ∷ []

      asked : event_told places bytes ≡ Ok event
      asked = ap (event_for places) is ∙ ap (event_at change.call) at

      are : AreRecords places ps (bytes ∷ [])
      are =
          let (same, turns) = asked_again places bytes event asked in
          inl (bytes, [], refl, asked ∙ ap Ok (sym same), turns, outcome_is h.reply (sym h.result_is), refl)

      run : HaveAnswered (states_of old.held) ps (states_of new.held)
      run = (
        states_of new.held,
        record {
          quotas = quotas_of old.held.tenants;
          now = states_of old.held;
          same = λ t. refl;
          form = sound.form;
          served = h.made.called.served;
        },
        λ t. refl,
      )

  -- of a name that no tenant has nothing was played
  passed-named : places change.name ≡ None → IsPassedOver old change.name (Ok tt) new → PlaysNamed old (bytes ∷ []) new
  passed-named none h = by (can_note old.tally.absent change.name) h
    where
      other : (name : List ℕ) → bytes_eq change.name name ≡ false → steps_named name (bytes ∷ []) ≡ []
      other name e =
          only name bytes
          ∙ ap (λ o. steps_of name o (gone_in bytes)) is
          ∙ ap (λ b. cond b (Step.Called change.call ∷ []) []) e

      later : new ≡ record old { tally = with_absent change.name old.tally } → PlaysNamed old (bytes ∷ []) new
      later now = record {
        tenants = ap (λ (s : Tallied). s.held.tenants) now;
        sound = subst (λ (s : Tallied). IsSoundService s.held) (sym now) sound;
        named = λ name t found.
            ap (λ (s : Tallied). states_of s.held t) now
            ∙ sym (ap (after_steps (states_of old.held t)) (other name (differs change.name name (λ same. apart places name change.name t found none (sym same)))));
        nameless = λ name arrays gone accounted e. nameless name arrays accounted (ap (λ (s : Tallied). is_among s.tally.absent name) (sym now) ∙ e) (bytes_eq change.name name) refl;
      }
        where
          nameless : (name : List ℕ) (arrays : State) → IsAccounted name old arrays → is_among (with_name old.tally.absent change.name) name ≡ false
              → (b : Bool) → bytes_eq change.name name ≡ b → after_steps arrays (steps_named name (bytes ∷ [])) ≡ no_arrays
          nameless name arrays accounted e false f =
              ap (after_steps arrays) (other name f) ∙ accounted (sym (noted-beside old.tally.absent change.name name f) ∙ e)
          nameless name arrays accounted e true f =
              let there : is_among (with_name old.tally.absent change.name) name ≡ true
              = ap (is_among (with_name old.tally.absent change.name)) (sym ((bytes_eq-Decides change.name name).0 f)) ∙ noted old.tally.absent change.name in
              let no : true ≡ false = sym there ∙ e in cc

      by : (b : Bool) → MatchBool b ((◌≡◌ {A = Result (Unit {0}) Unplayed} (Ok (tt {0})) (Ok (tt {0}))) × (new ≡ record old { tally = with_absent change.name old.tally }))
          ((◌≡◌ {A = Result (Unit {0}) Unplayed} (Ok (tt {0})) (Err unplayed.Tenant)) × (new ≡ old)) → PlaysNamed old (bytes ∷ []) new
      by true (_, now) = later now
      by false (wrong, _) = cc

  change-named : (o : Option ℕ) → places change.name ≡ o → PlaysChange change o old (Ok tt) new → PlaysNamed old (bytes ∷ []) new
  change-named None none h = passed-named none h
  change-named (Some u) at h = made-named u at h

-- the tenants that a record names left
left-named : (old new : Tallied) (bytes : List ℕ) (names : List (List ℕ)) → told bytes ≡ None → gone_in bytes ≡ Some names
    → HaveLeft old names new → PlaysNamed old (bytes ∷ []) new
left-named old new bytes names none gone h = record {
  tenants = h.held.tenants;
  sound = h.sound;
  named = λ name t found. named name t (row-marked old.held.tenants names t name found) (is_among names name) refl;
  nameless = λ name arrays nowhere accounted e. nameless name arrays accounted (ap (λ y. is_among y.absent name) (sym h.tally) ∙ e) (is_among names name) refl;
}
  where
    steps : (name : List ℕ) (b : Bool) → is_among names name ≡ b → steps_named name (bytes ∷ []) ≡ cond b (Step.Left ∷ []) []
    steps name b e =
        only name bytes
        ∙ ap (λ o. steps_of name o (gone_in bytes)) none
        ∙ ap (steps_of name None) gone
        ∙ ap (λ x. cond x (Step.Left ∷ []) []) e

    named : (name : List ℕ) (t : ℕ) → get_or (marks_of names old.held.tenants) t false ≡ is_among names name → (b : Bool) → is_among names name ≡ b
        → states_of new.held t ≡ after_steps (states_of old.held t) (steps_named name (bytes ∷ []))
    named name t marked true e = h.held.freed t (marked ∙ e) ∙ sym (ap (after_steps (states_of old.held t)) (steps name true e))
    named name t marked false e = (h.held.stays t (marked ∙ e)).0 ∙ sym (ap (after_steps (states_of old.held t)) (steps name false e))

    nameless : (name : List ℕ) (arrays : State) → IsAccounted name old arrays → is_among (without_names old.tally.absent names) name ≡ false
        → (b : Bool) → is_among names name ≡ b → after_steps arrays (steps_named name (bytes ∷ [])) ≡ no_arrays
    nameless name arrays accounted e true f = ap (after_steps arrays) (steps name true f)
    nameless name arrays accounted e false f =
        ap (after_steps arrays) (steps name false f) ∙ accounted (sym (kept names old.tally.absent name f) ∙ e)

pub plays-named : RecordsTellAll → (bytes : List ℕ) (old new : Tallied) → IsSoundService old.held → Plays bytes old (Ok tt) new → PlaysNamed old (bytes ∷ []) new
plays-named all bytes old new sound h = by (told bytes) refl (gone_in bytes) refl h
  where
    by : (o : Option Told) → told bytes ≡ o → (left : Option (List (List ℕ))) → gone_in bytes ≡ left → PlaysAs o left old (Ok tt) new
        → PlaysNamed old (bytes ∷ []) new
    by (Some change) is left gone plays = change-named all old new sound bytes change is (places_in old change.name) refl plays
    by None is (Some names) gone (_, left) = left-named old new bytes names is gone left
    by None is None gone (wrong, _) = cc

-- ---- records

pub replayed-named : RecordsTellAll → (records : List (List ℕ)) (old new : Tallied) → IsSoundService old.held → AreReplayed old records new
    → PlaysNamed old records new
replayed-named all [] old new sound same = record {
  tenants = ap (λ (s : Tallied). s.held.tenants) same;
  sound = subst (λ (s : Tallied). IsSoundService s.held) (sym same) sound;
  named = λ name t found. ap (λ (s : Tallied). states_of s.held t) same;
  nameless = λ name arrays none accounted e. accounted (ap (λ (s : Tallied). is_among s.tally.absent name) (sym same) ∙ e);
}
replayed-named all (bytes ∷ records) old new sound (mid, first, rest) =
    let one = plays-named all bytes old mid sound first in
    let more : PlaysNamed mid records new = replayed-named all records mid new one.sound rest in
    let split : (name : List ℕ) (s : State) → after_steps s (steps_named name (bytes ∷ records)) ≡ after_steps (after_steps s (steps_named name (bytes ∷ []))) (steps_named name records)
    = λ name s. ap (after_steps s) (steps-append name (bytes ∷ []) records) ∙ after_steps-append s (steps_named name (bytes ∷ [])) (steps_named name records) in
    record {
      tenants = more.tenants ∙ one.tenants;
      sound = more.sound;
      named = λ name t found.
          more.named name t (ap (place_of name) one.tenants ∙ found)
          ∙ ap (λ s. after_steps s (steps_named name records)) (one.named name t found)
          ∙ sym (split name (states_of old.held t));
      nameless = λ name arrays none accounted e.
          split name arrays
          ∙ more.nameless name (after_steps arrays (steps_named name (bytes ∷ []))) (ap (place_of name) one.tenants ∙ none)
          (one.nameless name arrays none accounted) e;
    }
