-- What a new table makes of the arrays of each name, and what the record of those that left tells of it.
--     among-lacking     a name is among those that a table lacks if the rows have it and the table does not
--     changed-named     a table makes of the arrays of each name what the record of its leavers tells
--     HasLasted         what a story leaves as it was
--     story-named       a story makes of the arrays of each name what its records tell
use Rattle.std.proofs.Common.{◌≡◌, ◌≢◌, ◌<◌, ◌==◌, ℕ, Bool, true, false, not, cond, List, [], ◌∷◌, length, map, Option, Some, None}
use Rattle.std.proofs.Common.{inl, inr, refl, sym, ◌∙◌, ap, subst, get_or, arith, append-nil, lt-ltb, suc, ◌⊎◌, ◌+◌, zero}
use Rattle.std.specs.Prelude.{◌||◌, ◌&&◌, filter, slice_get}
use Rattle.std.specs.List.{AllByRecursion, list_all, list_any, position_or_len}
use Rattle.std.specs.Str.{bytes_eq}
use Rattle.std.proofs.lemmas.Bool.{and_from, and_parts, eqb-true}
use Rattle.std.proofs.lemmas.List.Elements.{recursion_from_All}
use Rattle.std.proofs.lemmas.List.Quantifiers.{position-Some}
use Rattle.std.proofs.lemmas.Option.{slice_get-get_or}
use Rattle.std.proofs.lemmas.Slice.Eq.{bytes_eq-Decides}
use Rattle.judy_journal.specs.Leaving.{gone_in, gone_records, gone_request}
use Rattle.judy_journal.specs.Journals.{record_of}
use Rattle.judy_journal.specs.Replays.{RecordsTellAll, told}
use Rattle.judy_journal.proofs.lemmas.LeavingLemmas.{gone_is_read, gone_tells_no_call}
use Rattle.judy_model.specs.Grammar.{is_name}
use Rattle.judy_model.specs.Tenant.{State}
use Rattle.judy_many.specs.Statuses.{Lasts}
use Rattle.judy_many.specs.Stories.{Story, recorded_in}
use Rattle.judy_many.specs.Stories.Moment.{Changed, Did, Ran}
use Rattle.judy_many.specs.Sessions.{records_in}
use Rattle.judy_table.specs.declared.tenant.Tenant.{Tenant}
use Rattle.judy_table.specs.Seats.{AreRows, IsSpelled, has_name, seat_of, seated}
use Rattle.judy_table.specs.Tenants.{is_vacant, place_of, read_table, vacant}
use Rattle.judy_table.proofs.lemmas.Freezes.{freeze-place}
use Rattle.judy_table.proofs.lemmas.Seats.{has-place, keeps-place, no-place, seat-name}
use Rattle.judy_tenants.specs.Changes.{HasChanged, has_tenant}
use Rattle.judy_tenants.specs.Held.{Held, IsSoundService, states_of}
use Rattle.judy_tenants.proofs.lemmas.Changed.{gone-named, new-has-none, stays-named}
use Rattle.judy_server.specs.Named.{arrays_at, arrays_named}
use Rattle.judy_server.specs.Orders.{Freeze, order_in}
use Rattle.judy_server.specs.Reloads.{IsReload, KeepsRest, is_kept, lacking, leavers, leavers_by, leavers_for}
use Rattle.judy_server.specs.Rules.{server_rules}
use Rattle.judy_server.specs.Tally.{Tallied, is_among}
use Rattle.judy_server.proofs.Naming.{Step, after_steps, after_steps-append, steps-append, steps_named, steps_of, turns-named}
use Rattle.judy_server.proofs.lemmas.Keeping.{tenant-of}
use Rattle.judy_server.proofs.lemmas.Orders.{reload-seated, rows-are}
use Rattle.judy_server.proofs.lemmas.Space.{rows-stay, sound-turns}

-- ---- names of rows

-- a row with this name, which is not empty, has a tenant
filled : (name : List ℕ) → name ≢ [] → (length name == 0) ≡ false
filled [] some = absurd (some refl)
filled (b ∷ name) some = none (length (b ∷ name) == 0) refl
  where
    none : (t : Bool) → (length (b ∷ name) == 0) ≡ t → t ≡ false
    none true is = let wrong = eqb-true (length (b ∷ name)) 0 is in cc
    none false is = refl

-- a name that leads to a place is that of some row, and one that leads nowhere is not
has-place-of : (rows : List Tenant) (name : List ℕ) (t : ℕ) → place_of name rows ≡ Some t → has_name name rows ≡ true
has-place-of rows name t found =
    let at = position-Some (λ (r : Tenant). bytes_eq r.name name) rows t vacant found in there rows t at.0 at.1
  where
    there : (rows : List Tenant) (t : ℕ) → t < length rows → bytes_eq (get_or rows t vacant).name name ≡ true → has_name name rows ≡ true
    there [] t less is = absurd (omega (arith, less))
    there (r ∷ rows) zero less is = ap (λ b. b || has_name name rows) is
    there (r ∷ rows) (suc t) less is = ap (λ b. bytes_eq r.name name || b) (there rows t (omega (arith, less)) is) ∙ always (bytes_eq r.name name)
      where
        always : (b : Bool) → (b || true) ≡ true
        always true = refl
        always false = refl

-- a row that passes comes before the end
any-within : {X : Type 0} (p : X → Bool) (xs : List X) → list_any p xs ≡ true → position_or_len p xs < length xs
any-within p [] h = cc
any-within p (x ∷ xs) h = by (any-within p xs) (p x) h
  where
    by : (list_any p xs ≡ true → position_or_len p xs < length xs) → (b : Bool) → (b || list_any p xs) ≡ true
        → cond (not b) (1 + position_or_len p xs) 0 < suc (length xs)
    by more true h = omega arith
    by more false h = let rest = more h in omega (arith, rest)

-- a name leads to a place of a row that has it, or nowhere, and then no row has it
place-or-none : (rows : List Tenant) (name : List ℕ)
    → ((t : ℕ) × (place_of name rows ≡ Some t) × (has_name name rows ≡ true)) ⊎ ((place_of name rows ≡ None) × (has_name name rows ≡ false))
place-or-none rows name = by (place_of name rows) refl
  where
    none : (b : Bool) → has_name name rows ≡ b → place_of name rows ≡ None → has_name name rows ≡ false
    none false h e = h
    none true h e =
        let inside = any-within (λ (r : Tenant). bytes_eq r.name name) rows h in
        let found : place_of name rows ≡ Some (position_or_len (λ (r : Tenant). bytes_eq r.name name) rows)
        = ap (λ b. cond b (Some (position_or_len (λ (r : Tenant). bytes_eq r.name name) rows)) None) (lt-ltb _ (length rows) inside) in
        let wrong = sym found ∙ e in cc

    by : (o : Option ℕ) → place_of name rows ≡ o
        → ((t : ℕ) × (place_of name rows ≡ Some t) × (has_name name rows ≡ true)) ⊎ ((place_of name rows ≡ None) × (has_name name rows ≡ false))
    by (Some t) e = inl (t, e, has-place-of rows name t e)
    by None e = inr (e, none (has_name name rows) refl e)

-- the row at the place that a name leads to
row-there : (rows : List Tenant) (name : List ℕ) → name ≢ [] → (t : ℕ) → place_of name rows ≡ Some t
    → (r : Tenant) × (slice_get rows t ≡ Some r) × (r.name ≡ name) × (is_vacant r ≡ false)
row-there rows name some t found =
    let at = position-Some (λ (r : Tenant). bytes_eq r.name name) rows t vacant found in
    let same = (bytes_eq-Decides (get_or rows t vacant).name name).0 at.1 in
    (get_or rows t vacant, slice_get-get_or rows t vacant at.0, same, ap (λ (n : List ℕ). length n == 0) same ∙ filled name some)

-- ---- who is lacking

-- a name is among those that a table lacks if the rows have it and the table does not
among-lacking : (rows table : List Tenant) (name : List ℕ) → name ≢ []
    → is_among (lacking rows table) name ≡ (has_name name rows && not (has_name name table))
among-lacking [] table name some = refl
among-lacking (r ∷ rows) table name some = by (among-lacking rows table name some) (is_vacant r) refl (has_name r.name table) refl (bytes_eq r.name name) refl
  where
    nothing : (b : Bool) → (b && false) ≡ false
    nothing true = refl
    nothing false = refl

    by : is_among (lacking rows table) name ≡ (has_name name rows && not (has_name name table)) → (v : Bool) → is_vacant r ≡ v → (h : Bool) → has_name r.name table ≡ h → (same : Bool) → bytes_eq r.name name ≡ same
        → is_among (map (λ (row : Tenant). row.name) (cond (not (v || h)) (r ∷ filter (λ row. not (is_kept table row)) rows) (filter (λ row. not (is_kept table row)) rows))) name
        ≡ ((same || has_name name rows) && not (has_name name table))
    by more true v h e false s = more
    by more false v true e false s = more
    by more false v false e false s = ap (λ b. b || is_among (lacking rows table) name) s ∙ more
    by more true v h e true s =
        let same = (bytes_eq-Decides r.name name).0 s in
        let wrong : true ≡ false = sym v ∙ ap (λ (n : List ℕ). length n == 0) same ∙ filled name some in cc
    by more false v true e true s =
        let same = (bytes_eq-Decides r.name name).0 s in
        let there : has_name name table ≡ true = ap (λ n. has_name n table) (sym same) ∙ e in
        more ∙ ap (λ b. has_name name rows && not b) there ∙ nothing (has_name name rows) ∙ sym (ap not there)
    by more false v false e true s =
        let same = (bytes_eq-Decides r.name name).0 s in
        ap (λ b. b || is_among (lacking rows table) name) s ∙ sym (ap not (ap (λ n. has_name n table) (sym same) ∙ e))

-- all of them are names
pub lacking-good : (rows table : List Tenant) → AllByRecursion IsSpelled rows → list_all is_name (lacking rows table) ≡ true
lacking-good [] table spelled = refl
lacking-good (r ∷ rows) table spelled = by (lacking-good rows table spelled.1) (is_kept table r) refl
  where
    no-tenant : (v h : Bool) → (v || h) ≡ false → v ≡ false
    no-tenant true h e = cc
    no-tenant false h e = refl

    by : list_all is_name (lacking rows table) ≡ true → (b : Bool) → is_kept table r ≡ b
        → list_all is_name (map (λ (row : Tenant). row.name) (cond (not b) (r ∷ filter (λ row. not (is_kept table row)) rows) (filter (λ row. not (is_kept table row)) rows))) ≡ true
    by more true e = more
    by more false e = and_from (is_name r.name) (list_all is_name (lacking rows table)) (spelled.0 (no-tenant (is_vacant r) (has_name r.name table) e)) more

-- ---- the record

-- what the record of tenants that left tells of a name
gone-steps : (left : List (List ℕ)) → list_all is_name left ≡ true → (name : List ℕ)
    → steps_named name (gone_records left) ≡ cond (is_among left name) (Step.Left ∷ []) []
gone-steps [] good name = refl
gone-steps (first ∷ others) good name =
    let (one, rest) = and_parts (is_name first) (list_all is_name others) good in
    append-nil (steps_of name (told (record_of first (gone_request others))) (gone_in (record_of first (gone_request others))))
    ∙ ap (λ o. steps_of name o (gone_in (record_of first (gone_request others)))) (gone_tells_no_call first others one rest)
    ∙ ap (steps_of name None) (gone_is_read first others one rest)

-- ---- a new table

-- a row with this name at some place
has-at : (rows : List Tenant) (p : ℕ) (r : Tenant) (name : List ℕ) → slice_get rows p ≡ Some r → r.name ≡ name → has_name name rows ≡ true
has-at [] p r name here same = cc
has-at (x ∷ rows) zero r name here same =
    let first : x ≡ r = cc in ap (λ b. b || has_name name rows) ((bytes_eq-Decides x.name name).1 (ap (λ (u : Tenant). u.name) first ∙ same))
has-at (x ∷ rows) (suc p) r name here same = ap (λ b. bytes_eq x.name name || b) (has-at rows p r name here same) ∙ always (bytes_eq x.name name)
  where
    always : (b : Bool) → (b || true) ≡ true
    always true = refl
    always false = refl

-- what is gone, and what stays
abbrev steps-of : Bool → List Step
steps-of gone = cond gone (Step.Left ∷ []) []

module _ (table : List Tenant) (before after : Tallied) (seats : after.held.tenants ≡ seated before.held.tenants table)
    (changed : HasChanged before.held after.held) (name : List ℕ) (some : name ≢ []) where
  abbrev rows : List Tenant
  rows = before.held.tenants

  -- the place of a name that is new had no tenant
  was-free : has_name name rows ≡ false → (p : ℕ) → place_of name after.held.tenants ≡ Some p → has_tenant rows p ≡ false
  was-free absent p found = by (slice_get rows p) refl
    where
      there : (r : Tenant) → slice_get rows p ≡ Some r → (h : Bool) → has_name r.name table ≡ h → is_vacant r ≡ false → ⊥
      there r here true h v =
          let (row, is, named, filled) = row-there after.held.tenants name some p found in
          let seat = (stays-named table before.held after.held seats changed p r here v h).0 in
          let same : row ≡ seat_of r table = let one : Some row ≡ Some (seat_of r table) = sym is ∙ seat in cc in
          let has = has-at rows p r name here (sym (seat-name r table h) ∙ ap (λ (u : Tenant). u.name) (sym same) ∙ named) in
          let wrong : true ≡ false = sym has ∙ absent in cc
      there r here false h v =
          let (row, is, named, filled) = row-there after.held.tenants name some p found in
          let empty = (gone-named table before.held after.held seats changed p r here v h).0 in
          let same : row ≡ vacant = let one : Some row ≡ Some vacant = sym is ∙ empty in cc in
          some (sym named ∙ ap (λ (u : Tenant). u.name) same)

      row : (r : Tenant) → slice_get rows p ≡ Some r → (v : Bool) → is_vacant r ≡ v → has_tenant rows p ≡ false
      row r here true v = tenant-of rows p (Some r) here ∙ ap not v
      row r here false v = absurd (there r here (has_name r.name table) refl v)

      by : (o : Option Tenant) → slice_get rows p ≡ o → has_tenant rows p ≡ false
      by None here = tenant-of rows p None here
      by (Some r) here = row r here (is_vacant r) refl

  -- where the name leads afterwards, and what is there
  leads : (o : Option ℕ) → place_of name (seated rows table) ≡ o → arrays_named after name ≡ arrays_at (states_of after.held) o
  leads o e = ap (arrays_at (states_of after.held)) (ap (place_of name) seats ∙ e)

  was : (o : Option ℕ) → place_of name rows ≡ o → arrays_named before name ≡ arrays_at (states_of before.held) o
  was o e = ap (arrays_at (states_of before.held)) e

  gone : (b : Bool) → (has_name name rows && not (has_name name table)) ≡ b → (s : State)
      → after_steps s (steps-of (is_among (lacking rows table) name)) ≡ after_steps s (steps-of b)
  gone b e s = ap (λ x. after_steps s (steps-of x)) (among-lacking rows table name some ∙ e)

  table-named : arrays_named after name ≡ after_steps (arrays_named before name) (steps-of (is_among (lacking rows table) name))
  table-named = by (place-or-none rows name) (has_name name table) refl
    where
      by : ((t : ℕ) × (place_of name rows ≡ Some t) × (has_name name rows ≡ true)) ⊎ ((place_of name rows ≡ None) × (has_name name rows ≡ false))
          → (h : Bool) → has_name name table ≡ h
          → arrays_named after name ≡ after_steps (arrays_named before name) (steps-of (is_among (lacking rows table) name))
      by (inl (t, found, has)) true h =
          let (r, here, named, v) = row-there rows name some t found in
          leads (Some t) (keeps-place name rows table some has h ∙ found)
          ∙ (stays-named table before.held after.held seats changed t r here v (ap (λ n. has_name n table) named ∙ h)).1
          ∙ sym (was (Some t) found)
          ∙ sym (gone false (ap (λ b. b && not (has_name name table)) has ∙ ap not h) (arrays_named before name))
      by (inl (t, found, has)) false h =
          leads None (no-place name rows table some h)
          ∙ sym (gone true (ap (λ b. b && not (has_name name table)) has ∙ ap not h) (arrays_named before name))
      by (inr (none, absent)) true h =
          let (p, found, row) = has-place name rows table some h in
          leads (Some p) found
          ∙ new-has-none table before.held after.held seats changed p (was-free absent p (ap (place_of name) seats ∙ found))
          ∙ sym (was None none)
          ∙ sym (gone false (ap (λ b. b && not (has_name name table)) absent) (arrays_named before name))
      by (inr (none, absent)) false h =
          leads None (no-place name rows table some h)
          ∙ sym (was None none)
          ∙ sym (gone false (ap (λ b. b && not (has_name name table)) absent) (arrays_named before name))

-- a text that was put in force makes of the arrays of each name what the record of those that left tells
pub changed-named : (before after : Tallied) (text : List ℕ) (left : List (List ℕ)) → AreRows before.held.tenants → IsReload before text after
    → left ≡ leavers before.held.tenants text → (name : List ℕ) → name ≢ []
    → arrays_named after name ≡ after_steps (arrays_named before name) (steps_named name (gone_records left))
unfolding leavers
changed-named before after text left rows step is name some =
    by (order_in text) refl ∙ sym (ap (λ l. after_steps (arrays_named before name) (steps_named name (gone_records l))) is)
  where
    Makes : List (List ℕ) → Type 0
    Makes l = arrays_named after name ≡ after_steps (arrays_named before name) (steps_named name (gone_records l))

    ordered : (order : Freeze) → order_in text ≡ Some order → KeepsRest (Some order) before.held after.held → Makes []
    ordered order e only =
        ap (λ (h : Held). arrays_at (states_of h) (place_of name h.tenants)) only
        ∙ ap (λ ts. arrays_at (states_of before.held) (place_of name ts)) (step.tenants ∙ rows-are before.held.tenants text (Some order) e)
        ∙ ap (arrays_at (states_of before.held)) (freeze-place order.name order.frozen name before.held.tenants)

    seats : order_in text ≡ None → Makes (leavers_by before.held.tenants (read_table text))
    seats e =
        let (table, reads, tenants) = reload-seated before text after e step in
        table-named table before after tenants step.held name some
        ∙ sym (ap (after_steps (arrays_named before name))
        (gone-steps (lacking before.held.tenants table) (lacking-good before.held.tenants table (recursion_from_All IsSpelled before.held.tenants rows.spelled)) name))
        ∙ sym (ap (λ r. after_steps (arrays_named before name) (steps_named name (gone_records (leavers_by before.held.tenants r)))) reads)

    by : (o : Option Freeze) → order_in text ≡ o → Makes (leavers_for before.held.tenants text (order_in text))
    by (Some order) e =
        subst (λ o. Makes (leavers_for before.held.tenants text o)) (sym e) (ordered order e (subst (λ o. KeepsRest o before.held after.held) e step.only))
    by None e = subst (λ o. Makes (leavers_for before.held.tenants text o)) (sym e) (seats e)

-- ---- a story

-- what a story leaves as it was
pub record HasLasted (after : Tallied) : Type 0 where
  pub sound : IsSoundService after.held
  pub rows : AreRows after.held.tenants

pub lasting : (story : Story) (before after : Tallied) → IsSoundService before.held → AreRows before.held.tenants
    → Lasts server_rules true before story after → HasLasted after
lasting [] before after sound known same = record {
  sound = subst (λ (x : Tallied). IsSoundService x.held) (sym same) sound;
  rows = subst (λ (x : Tallied). AreRows x.held.tenants) (sym same) known;
}
lasting (Did a ∷ story) before after sound known h = lasting story before after sound known h
lasting (Ran n turns ∷ story) before after sound known (mid, run, rest) =
    lasting story mid after (sound-turns turns before mid sound run).sound (subst AreRows (sym (rows-stay turns before mid run)) known) rest
lasting (Changed text left ∷ story) before after sound known (mid, step, keeps, rest) = lasting story mid after step.sound step.rows rest

-- its records tell the arrays of each name
pub story-named : RecordsTellAll → (story : Story) (before after : Tallied) → IsSoundService before.held → AreRows before.held.tenants
    → Lasts server_rules true before story after → (name : List ℕ) → name ≢ []
    → arrays_named after name ≡ after_steps (arrays_named before name) (steps_named name (recorded_in story))
story-named all [] before after sound known same name some = ap (λ (x : Tallied). arrays_named x name) same
story-named all (Did a ∷ story) before after sound known h name some = story-named all story before after sound known h name some
story-named all (Ran n turns ∷ story) before after sound known (mid, run, rest) name some =
    story-named all story mid after (sound-turns turns before mid sound run).sound (subst AreRows (sym (rows-stay turns before mid run)) known) rest name some
    ∙ ap (λ s. after_steps s (steps_named name (recorded_in story))) (turns-named all turns before mid sound known run name)
    ∙ sym (ap (after_steps (arrays_named before name)) (steps-append name (records_in turns) (recorded_in story))
    ∙ after_steps-append (arrays_named before name) (steps_named name (records_in turns)) (steps_named name (recorded_in story)))
story-named all (Changed text left ∷ story) before after sound known (mid, step, keeps, rest) name some =
    story-named all story mid after step.sound step.rows rest name some
    ∙ ap (λ s. after_steps s (steps_named name (recorded_in story))) (changed-named before mid text left known step (keeps.0 refl) name some)
    ∙ sym (ap (after_steps (arrays_named before name)) (steps-append name (gone_records left) (recorded_in story))
    ∙ after_steps-append (arrays_named before name) (steps_named name (gone_records left)) (steps_named name (recorded_in story)))
