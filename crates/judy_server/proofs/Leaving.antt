-- The tenants that a record names left.
--     mark-at            the mark of a place
--     marks-next         one more mark
--     marks-all          all of them
--     mark-known         a mark is that of a place of the table
--     freed-by-marks     arrays were freed by marks that are alike
--     none-first         a list without a first name is empty
use Rattle.std.proofs.Common.{◌≡◌, ◌∙◌, ◌<◌, ◌≤◌, ◌+◌, ◌&&◌, ℕ, zero, suc, Bool, true, false, List, [], ◌∷◌, Some, None, ap, arith, get_or, length, map, nat_lt, refl, sym}
use Rattle.std.proofs.Math.ListN.{set}
use Rattle.std.proofs.lemmas.List.{length-map}
use Rattle.std.specs.Prelude.{slice_get}
use Rattle.judy_table.specs.declared.tenant.Tenant.{Tenant}
use Rattle.judy_tenants.proofs.lemmas.Marks.{marked-last, marked-more}
use Rattle.judy_tenants.specs.Changes.{HasFreed}
use Rattle.judy_tenants.specs.Held.{Held}
use Rattle.judy_server.specs.Replays.{marks_of}
use Rattle.judy_server.specs.Tally.{is_among}

-- the mark of a place tells whether its name is among these
pub mark-at : (names : List (List ℕ)) (rows : List Tenant) (t : ℕ) (name : List ℕ) → slice_get (map (λ (r : Tenant). r.name) rows) t ≡ Some name
    → get_or (marks_of names rows) t false ≡ is_among names name
mark-at names [] t name h = cc
mark-at names (r ∷ rows) zero name h = let is : r.name ≡ name = cc in ap (is_among names) is
mark-at names (r ∷ rows) (suc t) name h = mark-at names rows t name h

-- one more mark
pub marks-next : (names : List (List ℕ)) (rows : List Tenant) (marks : List Bool) (place : ℕ) (name : List ℕ) (has : Bool)
    → slice_get (map (λ (r : Tenant). r.name) rows) place ≡ Some name → has ≡ is_among names name → place < length marks
    → ((t : ℕ) → get_or marks t false ≡ (nat_lt t place && get_or (marks_of names rows) t false))
    → (t : ℕ) → get_or (set marks place has) t false ≡ (nat_lt t (place + 1) && get_or (marks_of names rows) t false)
marks-next names rows marks place name has named is inside done t =
    ap (λ b. get_or (set marks place b) t false) (is ∙ sym (mark-at names rows place name named))
    ∙ marked-more marks place (λ u. get_or (marks_of names rows) u false) inside done t

-- all of them
pub marks-all : (names : List (List ℕ)) (rows : List Tenant) (marks : List Bool) (place : ℕ) → length rows ≤ place
    → ((t : ℕ) → get_or marks t false ≡ (nat_lt t place && get_or (marks_of names rows) t false))
    → (t : ℕ) → get_or marks t false ≡ get_or (marks_of names rows) t false
marks-all names rows marks place past done =
    let long = length-map rows (λ (r : Tenant). is_among names r.name) in
    marked-last marks (marks_of names rows) place (omega (arith, long, past)) done

-- a place that is marked has a row
pub mark-known : (names : List (List ℕ)) (rows : List Tenant) (t : ℕ) → get_or (marks_of names rows) t false ≡ true → t < length rows
mark-known names [] t h = absurd (never h)
  where
    never : false ≡ true → ⊥
    never e = cc
mark-known names (r ∷ rows) zero h = omega arith
mark-known names (r ∷ rows) (suc t) h = let next = mark-known names rows t h in omega (arith, next)

-- what was freed, by other marks that are alike
pub freed-by-marks : {old new : Held} (xs ys : List Bool) → ((t : ℕ) → get_or xs t false ≡ get_or ys t false) → HasFreed xs old new
    → HasFreed ys old new
freed-by-marks xs ys alike freed = record {
  tenants = freed.tenants;
  freed = λ t h. freed.freed t (alike t ∙ h);
  stays = λ t h. freed.stays t (alike t ∙ h);
  refusals = freed.refusals;
  unplaced = freed.unplaced;
  region = freed.region;
  reserved = freed.reserved;
  peak = freed.peak;
  start = freed.start;
  room = freed.room;
  granted = freed.granted;
}

-- where there is no first name there is none
pub none-first : (names : List (List ℕ)) → slice_get names 0 ≡ None → names ≡ []
none-first [] h = refl
none-first (name ∷ names) h = cc
