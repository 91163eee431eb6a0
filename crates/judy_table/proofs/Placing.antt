-- The rows after a table is read: their names, their number, and what holds of each.
--     same-name, other-name      two names that are or are not equal
--     row-named, row-absent      the row of a name
--     place-here, place-absent   its place
--     has-placed, has-fresh      which names the rows have afterwards
--     row-placed, row-fresh      the row of a name afterwards
--     distinct-placed            no two rows have one name
--     length-placed, few-placed  how many rows there are
--     named-placed               how many tenants
use Rattle.std.proofs.Common.{◌≡◌, ◌≢◌, ℕ, Option, suc, ◌+◌, ◌-◌, ◌≤◌, ◌<◌, ◌==◌, ◌&&◌, ◌||◌, Bool, true, false, not, cond, List, [], ◌∷◌, length, Some, None}
use Rattle.std.proofs.Common.{ap, ap₂, sym, ◌∙◌, refl, get_or, drop, count_by, slice_get, option_map, nat_lt, arith}
use Rattle.std.proofs.Common.{lt-ltb, le-ltb, ltb-true, ltb-false}
use Rattle.std.proofs.lemmas.Bool.{eqb-true, or_parts, or_right, and_parts, and_from, false_from_ne_true, not-true, not-false}
use Rattle.std.proofs.lemmas.Bool.{not_from_false, both_ways}
use Rattle.std.proofs.lemmas.List.{nil_from_length}
use Rattle.std.proofs.lemmas.List.Sums.{sum_by-cons}
use Rattle.std.proofs.lemmas.Slice.Eq.{bytes_eq-Decides}
use Rattle.std.specs.List.{AllByRecursion, position_or_len}
use Rattle.std.specs.Str.{bytes_eq}
use Rattle.judy_table.specs.declared.tenant.Tenant.{Tenant}
use Rattle.judy_table.specs.Tenants.{is_vacant, vacant, place_of}
use Rattle.judy_table.specs.Seats.{has_name, row_of, keeping, seat_of, is_fresh, fresh_in, placed, seated, named, are_distinct}

-- ---- names

pub same-name : (a b : List ℕ) → bytes_eq a b ≡ true → a ≡ b
same-name a b h = (bytes_eq-Decides a b).0 h

pub one-name : (a b : List ℕ) → a ≡ b → bytes_eq a b ≡ true
one-name a b h = (bytes_eq-Decides a b).1 h

pub other-name : (a b : List ℕ) → a ≢ b → bytes_eq a b ≡ false
other-name a b h = false_from_ne_true (bytes_eq a b) (λ e. h (same-name a b e))

-- a vacant row has no name
pub vacant-name : (t : Tenant) → is_vacant t ≡ true → t.name ≡ []
vacant-name t h = nil_from_length t.name (eqb-true (length t.name) 0 h)

-- a row without a name is vacant
pub unnamed-vacant : (t : Tenant) → t.name ≡ [] → is_vacant t ≡ true
unnamed-vacant t h = ap (λ (n : List ℕ). length n == 0) h

-- a tenant has a name
pub tenant-name : (t : Tenant) → is_vacant t ≡ false → t.name ≢ []
tenant-name t h e = both_ways (is_vacant t) h (unnamed-vacant t e)

-- a row without a name has no other name
pub vacant-other : (t : Tenant) (name : List ℕ) → name ≢ [] → is_vacant t ≡ true → bytes_eq t.name name ≡ false
vacant-other t name n h = other-name t.name name (λ e. n (sym e ∙ vacant-name t h))

-- ---- the row of a name

pub row-named : (name : List ℕ) (ts : List Tenant) → has_name name ts ≡ true → (row_of name ts).name ≡ name
row-named name [] h = cc
row-named name (t ∷ ts) h = by (row-named name ts) (bytes_eq t.name name) refl h
  where
    by : (has_name name ts ≡ true → (row_of name ts).name ≡ name) → (b : Bool) → bytes_eq t.name name ≡ b → (b || has_name name ts) ≡ true
        → (cond b t (row_of name ts)).name ≡ name
    by rest true e g = same-name t.name name e
    by rest false e g = rest g

pub row-absent : (name : List ℕ) (ts : List Tenant) → has_name name ts ≡ false → row_of name ts ≡ vacant
row-absent name [] h = refl
row-absent name (t ∷ ts) h = by (row-absent name ts) (bytes_eq t.name name) h
  where
    by : (has_name name ts ≡ false → row_of name ts ≡ vacant) → (b : Bool) → (b || has_name name ts) ≡ false → cond b t (row_of name ts) ≡ vacant
    by rest true g = cc
    by rest false g = rest g

-- a row of a name is vacant exactly if there is none
pub row-vacant : (name : List ℕ) (ts : List Tenant) → name ≢ [] → is_vacant (row_of name ts) ≡ not (has_name name ts)
row-vacant name ts n = by (has_name name ts) refl
  where
    by : (b : Bool) → has_name name ts ≡ b → is_vacant (row_of name ts) ≡ not b
    by true h = false_from_ne_true (is_vacant (row_of name ts)) (λ v. n (sym (row-named name ts h) ∙ vacant-name (row_of name ts) v))
    by false h = ap is_vacant (row-absent name ts h)

-- the row of a name has another name only if that one is the same
pub row-other : (r name : List ℕ) (ts : List Tenant) → name ≢ [] → bytes_eq r name ≡ false → bytes_eq (row_of r ts).name name ≡ false
row-other r name ts n h = by (has_name r ts) refl
  where
    by : (b : Bool) → has_name r ts ≡ b → bytes_eq (row_of r ts).name name ≡ false
    by true g = ap (λ x. bytes_eq x name) (row-named r ts g) ∙ h
    by false g = ap (λ (t : Tenant). bytes_eq t.name name) (row-absent r ts g) ∙ other-name [] name (λ e. n (sym e))

-- ---- the row of a tenant that stays, with its freeze

pub keeping-name : (frozen : Option (List ℕ)) (t : Tenant) → (keeping frozen t).name ≡ t.name
keeping-name frozen t = by (is_vacant t)
  where
    by : (b : Bool) → (cond b t (record t { frozen = frozen })).name ≡ t.name
    by true = refl
    by false = refl

pub keeping-vacant : (frozen : Option (List ℕ)) (t : Tenant) → is_vacant (keeping frozen t) ≡ is_vacant t
keeping-vacant frozen t = ap (λ (n : List ℕ). length n == 0) (keeping-name frozen t)

pub seat-named : (r : Tenant) (table : List Tenant) → has_name r.name table ≡ true → (seat_of r table).name ≡ r.name
seat-named r table h = keeping-name r.frozen (row_of r.name table) ∙ row-named r.name table h

pub seat-absent : (r : Tenant) (table : List Tenant) → has_name r.name table ≡ false → seat_of r table ≡ vacant
seat-absent r table h = ap (keeping r.frozen) (row-absent r.name table h)

-- it is vacant exactly if there is none
pub seat-vacant : (r : Tenant) (table : List Tenant) → r.name ≢ [] → is_vacant (seat_of r table) ≡ not (has_name r.name table)
seat-vacant r table n = keeping-vacant r.frozen (row_of r.name table) ∙ row-vacant r.name table n

-- it has another name only if that one is the same
pub seat-other : (r : Tenant) (name : List ℕ) (table : List Tenant) → name ≢ [] → bytes_eq r.name name ≡ false
    → bytes_eq (seat_of r table).name name ≡ false
seat-other r name table n h = ap (λ m. bytes_eq m name) (keeping-name r.frozen (row_of r.name table)) ∙ row-other r.name name table n h

-- what holds of each row and of a vacant one holds of the row of a name
pub row-each : (P : Tenant → Type 0) → P vacant → (name : List ℕ) (ts : List Tenant) → AllByRecursion P ts → P (row_of name ts)
row-each P v name [] h = v
row-each P v name (t ∷ ts) h = by (row-each P v name ts h.1) (bytes_eq t.name name)
  where
    by : P (row_of name ts) → (b : Bool) → P (cond b t (row_of name ts))
    by rest true = h.0
    by rest false = rest

-- ---- its place

-- the place of a name, row by row
pub place-more : (name : List ℕ) (t : Tenant) (ts : List Tenant)
    → place_of name (t ∷ ts) ≡ cond (bytes_eq t.name name) (Some 0) (option_map suc (place_of name ts))
place-more name t ts = by (bytes_eq t.name name)
  where
    n : ℕ
    n = length ts

    k : ℕ
    k = position_or_len (λ u. bytes_eq u.name name) ts

    on : (b : Bool) → nat_lt k n ≡ b → cond (nat_lt (1 + k) (suc n)) (Some (1 + k)) None ≡ option_map suc (cond b (Some k) None)
    on true h =
        let less : k < n = ltb-true k n h in
        let more : 1 + k < suc n = omega arith in
        let one : 1 + k ≡ suc k = omega arith in
        ap (λ b. cond b (Some (1 + k)) None) (lt-ltb (1 + k) (suc n) more) ∙ ap Some one
    on false h =
        let least : n ≤ k = ltb-false k n h in
        let more : suc n ≤ 1 + k = omega arith in
        ap (λ b. cond b (Some (1 + k)) None) (le-ltb (1 + k) (suc n) more)

    by : (b : Bool) → cond (nat_lt (cond (not b) (1 + k) 0) (suc n)) (Some (cond (not b) (1 + k) 0)) None
        ≡ cond b (Some 0) (option_map suc (cond (nat_lt k n) (Some k) None))
    by true = let more : 0 < suc n = omega arith in ap (λ b. cond b (Some 0) None) (lt-ltb 0 (suc n) more)
    by false = on (nat_lt k n) refl

pub place-absent : (name : List ℕ) (ts : List Tenant) → has_name name ts ≡ false → place_of name ts ≡ None
place-absent name [] h = refl
place-absent name (t ∷ ts) h =
    let parts = or_parts (bytes_eq t.name name) (has_name name ts) h in
    place-more name t ts ∙ ap (λ b. cond b (Some 0) (option_map suc (place_of name ts))) parts.0 ∙ ap (option_map suc) (place-absent name ts parts.1)

pub place-here : (name : List ℕ) (ts : List Tenant) → has_name name ts ≡ true
    → (p : ℕ) × (place_of name ts ≡ Some p) × (slice_get ts p ≡ Some (row_of name ts))
place-here name [] h = cc
place-here name (t ∷ ts) h = by (place-here name ts) (bytes_eq t.name name) refl h
  where
    by : (has_name name ts ≡ true → (p : ℕ) × (place_of name ts ≡ Some p) × (slice_get ts p ≡ Some (row_of name ts)))
        → (b : Bool) → bytes_eq t.name name ≡ b → (b || has_name name ts) ≡ true
        → (p : ℕ) × (place_of name (t ∷ ts) ≡ Some p) × (slice_get (t ∷ ts) p ≡ Some (cond b t (row_of name ts)))
    by rest true e g = (0, place-more name t ts ∙ ap (λ b. cond b (Some 0) (option_map suc (place_of name ts))) e, refl)
    by rest false e g =
        let (p, is, there) = rest g in
        (suc p, place-more name t ts ∙ ap (λ b. cond b (Some 0) (option_map suc (place_of name ts))) e ∙ ap (option_map suc) is, there)

-- ---- the fresh tenants

-- each of them has a name that no row has
pub fresh-are-fresh : (rows table : List Tenant) → AllByRecursion (λ t. is_fresh rows t ≡ true) (fresh_in rows table)
fresh-are-fresh rows [] = tt
fresh-are-fresh rows (t ∷ ts) = by (fresh-are-fresh rows ts) (is_fresh rows t) refl
  where
    by : AllByRecursion (λ u. is_fresh rows u ≡ true) (fresh_in rows ts) → (b : Bool) → is_fresh rows t ≡ b
        → AllByRecursion (λ u. is_fresh rows u ≡ true) (cond b (t ∷ fresh_in rows ts) (fresh_in rows ts))
    by rest true e = (e, rest)
    by rest false e = rest

-- what holds of each row of a table holds of each fresh one
pub fresh-each : (P : Tenant → Type 0) (rows table : List Tenant) → AllByRecursion P table → AllByRecursion P (fresh_in rows table)
fresh-each P rows [] h = tt
fresh-each P rows (t ∷ ts) h = by (fresh-each P rows ts h.1) (is_fresh rows t)
  where
    by : AllByRecursion P (fresh_in rows ts) → (b : Bool) → AllByRecursion P (cond b (t ∷ fresh_in rows ts) (fresh_in rows ts))
    by rest true = (h.0, rest)
    by rest false = rest

-- a tenant whose name a row has is not fresh
stale : (rows : List Tenant) (t : Tenant) (name : List ℕ) → has_name name rows ≡ true → bytes_eq t.name name ≡ true → is_fresh rows t ≡ false
stale rows t name h e =
    let has : has_name t.name rows ≡ true = ap (λ n. has_name n rows) (same-name t.name name e) ∙ h in
    ap (λ b. not (is_vacant t) && not b) has ∙ never (not (is_vacant t))
  where
    never : (b : Bool) → (b && false) ≡ false
    never true = refl
    never false = refl

-- a tenant whose name no row has is fresh
novel : (rows : List Tenant) (t : Tenant) (name : List ℕ) → name ≢ [] → has_name name rows ≡ false → bytes_eq t.name name ≡ true → is_fresh rows t ≡ true
novel rows t name n h e =
    let same = same-name t.name name e in
    and_from (not (is_vacant t)) (not (has_name t.name rows))
    (not_from_false (is_vacant t) (false_from_ne_true (is_vacant t) (λ v. n (sym same ∙ vacant-name t v))))
    (not_from_false (has_name t.name rows) (ap (λ m. has_name m rows) same ∙ h))

-- a name of a row is not fresh
pub has-fresh-old : (name : List ℕ) (rows table : List Tenant) → has_name name rows ≡ true → has_name name (fresh_in rows table) ≡ false
has-fresh-old name rows [] h = refl
has-fresh-old name rows (t ∷ ts) h = by (has-fresh-old name rows ts h) (bytes_eq t.name name) refl (is_fresh rows t) refl
  where
    by : has_name name (fresh_in rows ts) ≡ false → (e : Bool) → bytes_eq t.name name ≡ e → (b : Bool) → is_fresh rows t ≡ b
        → has_name name (cond b (t ∷ fresh_in rows ts) (fresh_in rows ts)) ≡ false
    by rest true p true q = absurd (both_ways (is_fresh rows t) (stale rows t name h p) q)
    by rest true p false q = rest
    by rest false p true q = ap (λ b. b || has_name name (fresh_in rows ts)) p ∙ rest
    by rest false p false q = rest

-- the row of another name is the same among the fresh tenants
pub row-fresh : (name : List ℕ) (rows table : List Tenant) → name ≢ [] → has_name name rows ≡ false → row_of name (fresh_in rows table) ≡ row_of name table
row-fresh name rows [] n h = refl
row-fresh name rows (t ∷ ts) n h = by (row-fresh name rows ts n h) (bytes_eq t.name name) refl (is_fresh rows t) refl
  where
    by : row_of name (fresh_in rows ts) ≡ row_of name ts → (e : Bool) → bytes_eq t.name name ≡ e → (b : Bool) → is_fresh rows t ≡ b
        → row_of name (cond b (t ∷ fresh_in rows ts) (fresh_in rows ts)) ≡ cond e t (row_of name ts)
    by rest true p true q = ap (λ b. cond b t (row_of name (fresh_in rows ts))) p
    by rest true p false q = absurd (both_ways (is_fresh rows t) q (novel rows t name n h p))
    by rest false p true q = ap (λ b. cond b t (row_of name (fresh_in rows ts))) p ∙ rest
    by rest false p false q = rest

-- it is there if it is in the table
pub has-fresh-new : (name : List ℕ) (rows table : List Tenant) → name ≢ [] → has_name name rows ≡ false
    → has_name name (fresh_in rows table) ≡ has_name name table
has-fresh-new name rows [] n h = refl
has-fresh-new name rows (t ∷ ts) n h = by (has-fresh-new name rows ts n h) (bytes_eq t.name name) refl (is_fresh rows t) refl
  where
    by : has_name name (fresh_in rows ts) ≡ has_name name ts → (e : Bool) → bytes_eq t.name name ≡ e → (b : Bool) → is_fresh rows t ≡ b
        → has_name name (cond b (t ∷ fresh_in rows ts) (fresh_in rows ts)) ≡ (e || has_name name ts)
    by rest true p true q = ap (λ b. b || has_name name (fresh_in rows ts)) p
    by rest true p false q = absurd (both_ways (is_fresh rows t) q (novel rows t name n h p))
    by rest false p true q = ap (λ b. b || has_name name (fresh_in rows ts)) p ∙ rest
    by rest false p false q = rest

-- a name that a table has not is not among the fresh tenants
pub has-fresh-none : (name : List ℕ) (rows table : List Tenant) → has_name name table ≡ false → has_name name (fresh_in rows table) ≡ false
has-fresh-none name rows [] h = refl
has-fresh-none name rows (t ∷ ts) h =
    let parts = or_parts (bytes_eq t.name name) (has_name name ts) h in by (has-fresh-none name rows ts parts.1) parts.0 (is_fresh rows t)
  where
    by : has_name name (fresh_in rows ts) ≡ false → bytes_eq t.name name ≡ false → (b : Bool)
        → has_name name (cond b (t ∷ fresh_in rows ts) (fresh_in rows ts)) ≡ false
    by rest p true = ap (λ b. b || has_name name (fresh_in rows ts)) p ∙ rest
    by rest p false = rest

-- no two of them have one name
pub distinct-fresh : (rows table : List Tenant) → are_distinct table ≡ true → are_distinct (fresh_in rows table) ≡ true
distinct-fresh rows [] h = refl
distinct-fresh rows (t ∷ ts) h =
    let parts = and_parts (is_vacant t || not (has_name t.name ts)) (are_distinct ts) h in
    by (distinct-fresh rows ts parts.1) parts.0 (is_fresh rows t)
  where
    alone : (v : Bool) → (v || not (has_name t.name ts)) ≡ true → (v || not (has_name t.name (fresh_in rows ts))) ≡ true
    alone true g = refl
    alone false g = not_from_false (has_name t.name (fresh_in rows ts))
        (has-fresh-none t.name rows ts (not-true (has_name t.name ts) g))

    by : are_distinct (fresh_in rows ts) ≡ true → (is_vacant t || not (has_name t.name ts)) ≡ true → (b : Bool)
        → are_distinct (cond b (t ∷ fresh_in rows ts) (fresh_in rows ts)) ≡ true
    by rest p true =
        and_from (is_vacant t || not (has_name t.name (fresh_in rows ts))) (are_distinct (fresh_in rows ts)) (alone (is_vacant t) p) rest
    by rest p false = rest

-- ---- all rows after the table is read

-- what holds of the table's rows, whatever their freezes, of the fresh tenants and of a vacant row holds of each
pub placed-each : (P : Tenant → Type 0) → ((frozen : Option (List ℕ)) (t : Tenant) → P t → P (keeping frozen t)) → (table : List Tenant)
    → P vacant → AllByRecursion P table → (rows fresh : List Tenant) → AllByRecursion P fresh → AllByRecursion P (placed table rows fresh)
placed-each P k table v h [] fresh f = f
placed-each P k table v h (r ∷ rows) fresh f = by (placed-each P k table v h rows) (is_vacant r) fresh f
  where
    by : ((gs : List Tenant) → AllByRecursion P gs → AllByRecursion P (placed table rows gs)) → (b : Bool) (fs : List Tenant) → AllByRecursion P fs
        → AllByRecursion P (cond b (get_or fs 0 vacant ∷ placed table rows (drop 1 fs)) (seat_of r table ∷ placed table rows fs))
    by rest true [] g = (v, rest [] tt)
    by rest true (t ∷ ts) g = (g.0, rest ts g.1)
    by rest false fs g = (k r.frozen (row_of r.name table) (row-each P v r.name table h), rest fs g)

-- the names that they have
pub has-placed : (name : List ℕ) (table rows fresh : List Tenant) → name ≢ []
    → has_name name (placed table rows fresh) ≡ ((has_name name rows && has_name name table) || has_name name fresh)
has-placed name table [] fresh n = refl
has-placed name table (r ∷ rows) fresh n = by (λ fs. has-placed name table rows fs n) (is_vacant r) refl fresh
  where
    later : (e x y z : Bool) → (e || ((x && y) || z)) ≡ ((x && y) || (e || z))
    later true true true z = refl
    later true true false z = refl
    later true false y z = refl
    later false x y z = refl

    merged : (e x y z : Bool) → ((e && y) || ((x && y) || z)) ≡ (((e || x) && y) || z)
    merged true true true z = refl
    merged true true false z = refl
    merged true false true z = refl
    merged true false false z = refl
    merged false x y z = refl

    apart : is_vacant r ≡ true → bytes_eq r.name name ≡ false
    apart = vacant-other r name n

    here : (e : Bool) → bytes_eq r.name name ≡ e → bytes_eq (seat_of r table).name name ≡ (e && has_name name table)
    here false p = seat-other r name table n p
    here true p = ap (λ m. bytes_eq m name) (keeping-name r.frozen (row_of r.name table)) ∙ at (has_name name table) refl
      where
        at : (b : Bool) → has_name name table ≡ b → bytes_eq (row_of r.name table).name name ≡ b
        at true q = one-name (row_of r.name table).name name
            (ap (λ m. (row_of m table).name) (same-name r.name name p) ∙ row-named name table q)
        at false q = ap (λ m. bytes_eq (row_of m table).name name) (same-name r.name name p)
            ∙ ap (λ (t : Tenant). bytes_eq t.name name) (row-absent name table q) ∙ other-name [] name (λ e. n (sym e))

    Names : List Tenant → Type 0
    Names fs = has_name name (placed table rows fs) ≡ ((has_name name rows && has_name name table) || has_name name fs)

    by : ((fs : List Tenant) → Names fs) → (b : Bool) → is_vacant r ≡ b → (fs : List Tenant)
        → has_name name (cond b (get_or fs 0 vacant ∷ placed table rows (drop 1 fs)) (seat_of r table ∷ placed table rows fs))
        ≡ (((bytes_eq r.name name || has_name name rows) && has_name name table) || has_name name fs)
    by rest true v [] =
        ap (λ b. b || has_name name (placed table rows [])) (other-name [] name (λ e. n (sym e)))
        ∙ rest []
        ∙ ap (λ b. ((b || has_name name rows) && has_name name table) || false) (sym (apart v))
    by rest true v (t ∷ ts) =
        ap (λ b. bytes_eq t.name name || b) (rest ts)
        ∙ later (bytes_eq t.name name) (has_name name rows) (has_name name table) (has_name name ts)
        ∙ ap (λ b. ((b || has_name name rows) && has_name name table) || (bytes_eq t.name name || has_name name ts)) (sym (apart v))
    by rest false v fs =
        ap₂ (λ a b. a || b) (here (bytes_eq r.name name) refl) (rest fs)
        ∙ merged (bytes_eq r.name name) (has_name name rows) (has_name name table) (has_name name fs)

-- a name that no row had is that of a fresh tenant
pub row-placed-new : (name : List ℕ) (table rows fresh : List Tenant) → name ≢ [] → has_name name rows ≡ false
    → row_of name (placed table rows fresh) ≡ row_of name fresh
row-placed-new name table [] fresh n h = refl
row-placed-new name table (r ∷ rows) fresh n h =
    let parts = or_parts (bytes_eq r.name name) (has_name name rows) h in
    by (λ fs. row-placed-new name table rows fs n parts.1) parts.0 (is_vacant r) fresh
  where
    by : ((fs : List Tenant) → row_of name (placed table rows fs) ≡ row_of name fs) → bytes_eq r.name name ≡ false → (b : Bool) (fs : List Tenant)
        → row_of name (cond b (get_or fs 0 vacant ∷ placed table rows (drop 1 fs)) (seat_of r table ∷ placed table rows fs)) ≡ row_of name fs
    by rest p true [] =
        ap (λ b. cond b vacant (row_of name (placed table rows []))) (other-name [] name (λ e. n (sym e)))
        ∙ rest []
    by rest p true (t ∷ ts) = ap (cond (bytes_eq t.name name) t) (rest ts)
    by rest p false fs =
        ap (λ b. cond b (seat_of r table) (row_of name (placed table rows fs))) (seat-other r name table n p)
        ∙ rest fs

-- a name that a row had has the table's row, with the freeze of that row
pub row-placed-old : (name : List ℕ) (table rows fresh : List Tenant) → name ≢ [] → has_name name rows ≡ true → has_name name fresh ≡ false
    → row_of name (placed table rows fresh) ≡ keeping (row_of name rows).frozen (row_of name table)
row-placed-old name table [] fresh n h f = cc
row-placed-old name table (r ∷ rows) fresh n h f =
    by (λ fs. row-placed-old name table rows fs n) (bytes_eq r.name name) refl h (is_vacant r) refl fresh f
  where
    -- the row that the name had, by whether it is the first
    before : Bool → Tenant
    before e = cond e r (row_of name rows)

    Goal : Bool → Bool → List Tenant → Type 0
    Goal e b fs =
        row_of name (cond b (get_or fs 0 vacant ∷ placed table rows (drop 1 fs)) (seat_of r table ∷ placed table rows fs))
        ≡ keeping (before e).frozen (row_of name table)

    own : (fs : List Tenant) → bytes_eq r.name name ≡ true → has_name name fs ≡ false → (b : Bool) → has_name name table ≡ b
        → row_of name (seat_of r table ∷ placed table rows fs) ≡ keeping r.frozen (row_of name table)
    own fs e g true q =
        ap (λ m. row_of name (keeping r.frozen (row_of m table) ∷ placed table rows fs)) (same-name r.name name e)
        ∙ ap (λ b. cond b (keeping r.frozen (row_of name table)) (row_of name (placed table rows fs)))
        (one-name (keeping r.frozen (row_of name table)).name name (keeping-name r.frozen (row_of name table) ∙ row-named name table q))
    own fs e g false q =
        ap (λ m. row_of name (keeping r.frozen (row_of m table) ∷ placed table rows fs)) (same-name r.name name e)
        ∙ ap (λ (t : Tenant). row_of name (keeping r.frozen t ∷ placed table rows fs)) (row-absent name table q)
        ∙ ap (λ b. cond b vacant (row_of name (placed table rows fs))) (other-name [] name (λ i. n (sym i)))
        ∙ row-absent name (placed table rows fs) (has-placed name table rows fs n
        ∙ ap₂ (λ x y. (has_name name rows && x) || y) q g ∙ nothing (has_name name rows))
        ∙ sym (ap (keeping r.frozen) (row-absent name table q))
      where
        nothing : (b : Bool) → ((b && false) || false) ≡ false
        nothing true = refl
        nothing false = refl

    by : ((fs : List Tenant) → has_name name rows ≡ true → has_name name fs ≡ false
        → row_of name (placed table rows fs) ≡ keeping (row_of name rows).frozen (row_of name table))
        → (e : Bool) → bytes_eq r.name name ≡ e → (e || has_name name rows) ≡ true → (b : Bool) → is_vacant r ≡ b
        → (fs : List Tenant) → has_name name fs ≡ false → Goal e b fs
    by rest true p q true v fs g = absurd (both_ways (bytes_eq r.name name) (vacant-other r name n v) p)
    by rest true p q false v fs g = own fs p g (has_name name table) refl
    by rest false p q true v [] g =
        ap (λ b. cond b vacant (row_of name (placed table rows []))) (other-name [] name (λ i. n (sym i)))
        ∙ rest [] q g
    by rest false p q true v (t ∷ ts) g =
        let parts = or_parts (bytes_eq t.name name) (has_name name ts) g in
        ap (λ b. cond b t (row_of name (placed table rows ts))) parts.0 ∙ rest ts q parts.1
    by rest false p q false v fs g =
        ap (λ b. cond b (seat_of r table) (row_of name (placed table rows fs))) (seat-other r name table n p)
        ∙ rest fs q g

-- a name that a row had and the table has keeps its place
pub place-kept : (name : List ℕ) (table rows fresh : List Tenant) → name ≢ [] → has_name name rows ≡ true → has_name name table ≡ true
    → has_name name fresh ≡ false → place_of name (placed table rows fresh) ≡ place_of name rows
place-kept name table [] fresh n h t f = cc
place-kept name table (r ∷ rows) fresh n h there f =
    by (λ fs q. place-kept name table rows fs n q there) (bytes_eq r.name name) refl h (is_vacant r) refl fresh f
  where
    next : (a : Tenant) (ts : List Tenant) → bytes_eq a.name name ≡ false → place_of name (a ∷ ts) ≡ option_map suc (place_of name ts)
    next a ts p = place-more name a ts ∙ ap (λ b. cond b (Some 0) (option_map suc (place_of name ts))) p

    first : (a : Tenant) (ts : List Tenant) → bytes_eq a.name name ≡ true → place_of name (a ∷ ts) ≡ Some 0
    first a ts p = place-more name a ts ∙ ap (λ b. cond b (Some 0) (option_map suc (place_of name ts))) p

    by : ((fs : List Tenant) → has_name name rows ≡ true → has_name name fs ≡ false → place_of name (placed table rows fs) ≡ place_of name rows)
        → (e : Bool) → bytes_eq r.name name ≡ e → (e || has_name name rows) ≡ true → (b : Bool) → is_vacant r ≡ b
        → (fs : List Tenant) → has_name name fs ≡ false
        → place_of name (cond b (get_or fs 0 vacant ∷ placed table rows (drop 1 fs)) (seat_of r table ∷ placed table rows fs))
        ≡ place_of name (r ∷ rows)
    by rest true p q true v fs g = absurd (both_ways (bytes_eq r.name name) (vacant-other r name n v) p)
    by rest true p q false v fs g =
        first (seat_of r table) (placed table rows fs) (one-name (seat_of r table).name name
        (keeping-name r.frozen (row_of r.name table) ∙ ap (λ m. (row_of m table).name) (same-name r.name name p) ∙ row-named name table there))
        ∙ sym (first r rows p)
    by rest false p q true v [] g =
        next vacant (placed table rows []) (other-name [] name (λ i. n (sym i)))
        ∙ ap (option_map suc) (rest [] q g) ∙ sym (next r rows p)
    by rest false p q true v (t ∷ ts) g =
        let parts = or_parts (bytes_eq t.name name) (has_name name ts) g in
        next t (placed table rows ts) parts.0 ∙ ap (option_map suc) (rest ts q parts.1) ∙ sym (next r rows p)
    by rest false p q false v fs g =
        next (seat_of r table) (placed table rows fs) (seat-other r name table n p)
        ∙ ap (option_map suc) (rest fs q g) ∙ sym (next r rows p)

-- ---- no two tenants have one name

-- no fresh tenant has a row's name
abbrev pub Apart : List Tenant → List Tenant → Type 0
Apart rows fresh = (name : List ℕ) → name ≢ [] → has_name name rows ≡ true → has_name name fresh ≡ false

apart-tail : (r : Tenant) (rows fresh : List Tenant) → Apart (r ∷ rows) fresh → Apart rows fresh
apart-tail r rows fresh a name n h = a name n (or_right (bytes_eq r.name name) (has_name name rows) h)

apart-rest : (t : Tenant) (rows fresh : List Tenant) → Apart rows (t ∷ fresh) → Apart rows fresh
apart-rest t rows fresh a name n h = (or_parts (bytes_eq t.name name) (has_name name fresh) (a name n h)).1

pub distinct-placed : (table rows fresh : List Tenant) → are_distinct rows ≡ true → are_distinct fresh ≡ true → Apart rows fresh
    → are_distinct (placed table rows fresh) ≡ true
distinct-placed table [] fresh d f a = f
distinct-placed table (r ∷ rows) fresh d f a =
    let parts = and_parts (is_vacant r || not (has_name r.name rows)) (are_distinct rows) d in
    by (λ fs. distinct-placed table rows fs parts.1) (is_vacant r) refl parts.0 fresh f a
  where
    both : (t : Tenant) (ts : List Tenant) → (is_vacant t ≡ false → has_name t.name ts ≡ false) → are_distinct ts ≡ true → are_distinct (t ∷ ts) ≡ true
    both t ts h g = and_from (is_vacant t || not (has_name t.name ts)) (are_distinct ts) (one (is_vacant t) refl) g
      where
        one : (b : Bool) → is_vacant t ≡ b → (b || not (has_name t.name ts)) ≡ true
        one true e = refl
        one false e = not_from_false (has_name t.name ts) (h e)

    none : (x y z : Bool) → x ≡ false → z ≡ false → ((x && y) || z) ≡ false
    none true y z p q = cc
    none false y z p q = q

    absent : (t : Tenant) (fs : List Tenant) → is_vacant t ≡ false → has_name t.name rows ≡ false → has_name t.name fs ≡ false
        → has_name t.name (placed table rows fs) ≡ false
    absent t fs v p q =
        has-placed t.name table rows fs (tenant-name t v) ∙ none (has_name t.name rows) (has_name t.name table) (has_name t.name fs) p q

    not-in : (t : Tenant) (fs : List Tenant) → Apart (r ∷ rows) (t ∷ fs) → is_vacant t ≡ false → has_name t.name rows ≡ false
    not-in t fs g v = false_from_ne_true (has_name t.name rows) (λ h.
        both_ways (has_name t.name (t ∷ fs)) (g t.name (tenant-name t v) (or_right (bytes_eq r.name t.name) (has_name t.name rows) h))
        (or_first (one-name t.name t.name refl)))
      where
        or_first : bytes_eq t.name t.name ≡ true → (bytes_eq t.name t.name || has_name t.name fs) ≡ true
        or_first e = ap (λ b. b || has_name t.name fs) e

    own : (fs : List Tenant) → is_vacant r ≡ false → not (has_name r.name rows) ≡ true → Apart (r ∷ rows) fs
        → is_vacant (seat_of r table) ≡ false → has_name (seat_of r table).name (placed table rows fs) ≡ false
    own fs v p g w =
        let there : has_name r.name table ≡ true =
        not-false (has_name r.name table) (sym (seat-vacant r table (tenant-name r v)) ∙ w) in
        ap (λ m. has_name m (placed table rows fs)) (seat-named r table there)
        ∙ absent r fs v (not-true (has_name r.name rows) p) (g r.name (tenant-name r v) (ap (λ b. b || has_name r.name rows) (one-name r.name r.name refl)))

    by : ((fs : List Tenant) → are_distinct fs ≡ true → Apart rows fs → are_distinct (placed table rows fs) ≡ true)
        → (b : Bool) → is_vacant r ≡ b → (b || not (has_name r.name rows)) ≡ true → (fs : List Tenant)
        → are_distinct fs ≡ true → Apart (r ∷ rows) fs
        → are_distinct (cond b (get_or fs 0 vacant ∷ placed table rows (drop 1 fs)) (seat_of r table ∷ placed table rows fs)) ≡ true
    by rest true v p [] f g = rest [] f (apart-tail r rows [] g)
    by rest true v p (t ∷ ts) f g =
        let fs = and_parts (is_vacant t || not (has_name t.name ts)) (are_distinct ts) f in
        both t (placed table rows ts) (λ w. absent t ts w (not-in t ts g w) (alone t ts w fs.0))
        (rest ts fs.1 (apart-rest t rows ts (apart-tail r rows (t ∷ ts) g)))
      where
        alone : (t : Tenant) (ts : List Tenant) → is_vacant t ≡ false → (is_vacant t || not (has_name t.name ts)) ≡ true → has_name t.name ts ≡ false
        alone t ts w h = not-true (has_name t.name ts) (sym (ap (λ b. b || not (has_name t.name ts)) w) ∙ h)
    by rest false v p fs f g =
        both (seat_of r table) (placed table rows fs) (own fs v p g) (rest fs f (apart-tail r rows fs g))

-- ---- how many rows there are

-- how many rows are vacant
abbrev pub spare : List Tenant → ℕ
spare ts = count_by is_vacant ts

-- a row has a tenant or is vacant
pub all-rows : (ts : List Tenant) → length ts ≡ named ts + spare ts
all-rows [] = refl
all-rows (t ∷ ts) =
    let a = sum_by-cons (λ u. cond (not (is_vacant u)) 1 0) t ts in
    let b = sum_by-cons (λ u. cond (is_vacant u) 1 0) t ts in
    let more = all-rows ts in
    let one : ◌≡◌ {A = ℕ} 1 (cond (not (is_vacant t)) 1 0 + cond (is_vacant t) 1 0) = either (is_vacant t) in
    omega (arith, a, b, more, one)
  where
    either : (b : Bool) → ◌≡◌ {A = ℕ} 1 (cond (not b) 1 0 + cond b 1 0)
    either true = refl
    either false = refl

pub length-placed : (table rows fresh : List Tenant) → length (placed table rows fresh) ≡ length rows + (length fresh - spare rows)
length-placed table [] fresh = omega arith
length-placed table (r ∷ rows) fresh = by (length-placed table rows) (is_vacant r) fresh (sum_by-cons (λ u. cond (is_vacant u) 1 0) r rows)
  where
    by : ((fs : List Tenant) → length (placed table rows fs) ≡ length rows + (length fs - spare rows)) → (b : Bool) (fs : List Tenant)
        → spare (r ∷ rows) ≡ cond {A = ℕ} b 1 0 + spare rows
        → length (cond b (get_or fs 0 vacant ∷ placed table rows (drop 1 fs)) (seat_of r table ∷ placed table rows fs))
        ≡ suc (length rows) + (length fs - spare (r ∷ rows))
    by rest true [] e = let more = rest [] in omega (arith, e, more)
    by rest true (t ∷ ts) e = let more = rest ts in omega (arith, e, more)
    by rest false fs e = let more = rest fs in omega (arith, e, more)

-- if there are few rows and few tenants, there are few rows afterwards
pub few-placed : (table rows fresh : List Tenant) → length rows ≤ 128 → named rows ≤ 64 → length fresh ≤ 64 → length (placed table rows fresh) ≤ 128
few-placed table rows fresh few tenants new =
    let total = length-placed table rows fresh in let all = all-rows rows in omega (arith, total, all, few, tenants, new)

-- ---- how many tenants

-- how many rows have a tenant whose name is in the table
abbrev pub kept : List Tenant → List Tenant → ℕ
kept rows table = count_by (λ r. not (is_vacant r) && has_name r.name table) rows

abbrev pub all-named : List Tenant → Type 0
all-named ts = AllByRecursion (λ t. is_vacant t ≡ false) ts

named-all : (ts : List Tenant) → all-named ts → named ts ≡ length ts
named-all [] h = refl
named-all (t ∷ ts) h =
    let a = sum_by-cons (λ u. cond (not (is_vacant u)) 1 0) t ts in
    let one : ◌≡◌ {A = ℕ} (cond (not (is_vacant t)) 1 0) 1 = ap (λ b. cond (not b) 1 0) h.0 in
    let more = named-all ts h.1 in omega (arith, a, one, more)

pub named-placed : (table rows fresh : List Tenant) → all-named fresh → named (placed table rows fresh) ≡ kept rows table + length fresh
named-placed table [] fresh f = let all = named-all fresh f in omega (arith, all)
named-placed table (r ∷ rows) fresh f = by (named-placed table rows) (is_vacant r) refl fresh f (sum_by-cons (λ u. cond (not (is_vacant u) && has_name u.name table) 1 0) r rows)
  where
    count : (t : Tenant) (ts : List Tenant) → named (t ∷ ts) ≡ cond {A = ℕ} (not (is_vacant t)) 1 0 + named ts
    count t ts = sum_by-cons (λ u. cond (not (is_vacant u)) 1 0) t ts

    own : is_vacant r ≡ false → ◌≡◌ {A = ℕ} (cond (not (is_vacant (seat_of r table))) 1 0) (cond (not (is_vacant r) && has_name r.name table) 1 0)
    own v =
        ap (λ b. cond (not b) 1 0) (seat-vacant r table (tenant-name r v)) ∙ twice (has_name r.name table)
        ∙ ap (λ b. cond (not b && has_name r.name table) 1 0) (sym v)
      where
        twice : (b : Bool) → ◌≡◌ {A = ℕ} (cond (not (not b)) 1 0) (cond (true && b) 1 0)
        twice true = refl
        twice false = refl

    by : ((fs : List Tenant) → all-named fs → named (placed table rows fs) ≡ kept rows table + length fs)
        → (b : Bool) → is_vacant r ≡ b → (fs : List Tenant) → all-named fs
        → kept (r ∷ rows) table ≡ cond {A = ℕ} (not (is_vacant r) && has_name r.name table) 1 0 + kept rows table
        → named (cond b (get_or fs 0 vacant ∷ placed table rows (drop 1 fs)) (seat_of r table ∷ placed table rows fs))
        ≡ kept (r ∷ rows) table + length fs
    by rest true v [] g e =
        let none : ◌≡◌ {A = ℕ} (cond (not (is_vacant r) && has_name r.name table) 1 0) 0 = ap (λ b. cond (not b && has_name r.name table) 1 0) v in
        let c = count vacant (placed table rows []) in
        let zero_of : ◌≡◌ {A = ℕ} (cond (not (is_vacant vacant)) 1 0) 0 = refl in
        let more = rest [] tt in omega (arith, e, none, c, zero_of, more)
    by rest true v (t ∷ ts) g e =
        let none : ◌≡◌ {A = ℕ} (cond (not (is_vacant r) && has_name r.name table) 1 0) 0 = ap (λ b. cond (not b && has_name r.name table) 1 0) v in
        let c = count t (placed table rows ts) in
        let one : ◌≡◌ {A = ℕ} (cond (not (is_vacant t)) 1 0) 1 = ap (λ b. cond (not b) 1 0) g.0 in
        let more = rest ts g.1 in omega (arith, e, none, c, one, more)
    by rest false v fs g e =
        let c = count (seat_of r table) (placed table rows fs) in
        let o = own v in
        let more = rest fs g in omega (arith, e, c, o, more)

-- how many tenants of the table have a row's name
abbrev pub taken : List Tenant → List Tenant → ℕ
taken rows table = count_by (λ t. not (is_vacant t) && has_name t.name rows) table

-- a tenant of the table is fresh, or has a row's name
taken-or-fresh : (rows table : List Tenant) → named table ≡ taken rows table + length (fresh_in rows table)
taken-or-fresh rows [] = refl
taken-or-fresh rows (t ∷ ts) =
    let a = sum_by-cons (λ u. cond (not (is_vacant u)) 1 0) t ts in
    let b = sum_by-cons (λ u. cond (not (is_vacant u) && has_name u.name rows) 1 0) t ts in
    let c : length (fresh_in rows (t ∷ ts)) ≡ cond {A = ℕ} (is_fresh rows t) 1 0 + length (fresh_in rows ts) = longer (is_fresh rows t) in
    let one : ◌≡◌ {A = ℕ} (cond (not (is_vacant t)) 1 0) (cond (not (is_vacant t) && has_name t.name rows) 1 0 + cond (is_fresh rows t) 1 0) =
    either (not (is_vacant t)) (has_name t.name rows) in
    let more = taken-or-fresh rows ts in omega (arith, a, b, c, one, more)
  where
    either : (v h : Bool) → ◌≡◌ {A = ℕ} (cond v 1 0) (cond (v && h) 1 0 + cond (v && not h) 1 0)
    either true true = refl
    either true false = refl
    either false h = refl

    longer : (b : Bool) → length (cond b (t ∷ fresh_in rows ts) (fresh_in rows ts)) ≡ cond {A = ℕ} b 1 0 + length (fresh_in rows ts)
    longer true = omega arith
    longer false = omega arith

-- one more row takes no fewer of them
taken-more : (r : Tenant) (rows table : List Tenant) → taken rows table ≤ taken (r ∷ rows) table
taken-more r rows [] = omega arith
taken-more r rows (t ∷ ts) =
    let a = sum_by-cons (λ u. cond (not (is_vacant u) && has_name u.name rows) 1 0) t ts in
    let b = sum_by-cons (λ u. cond (not (is_vacant u) && has_name u.name (r ∷ rows)) 1 0) t ts in
    let more = taken-more r rows ts in
    let one = either (not (is_vacant t)) (bytes_eq r.name t.name) (has_name t.name rows) in omega (arith, a, b, more, one)
  where
    either : (v e h : Bool) → ◌≤◌ (cond (v && h) 1 0) (cond (v && (e || h)) 1 0)
    either true true true = omega arith
    either true true false = omega arith
    either true false h = omega arith
    either false e h = omega arith

-- a row with a name that no other row has, and that is in the table, takes one more
taken-one : (r : Tenant) (rows table : List Tenant) → is_vacant r ≡ false → has_name r.name rows ≡ false → has_name r.name table ≡ true
    → 1 + taken rows table ≤ taken (r ∷ rows) table
taken-one r rows [] v h g = cc
taken-one r rows (t ∷ ts) v h g = by (taken-one r rows ts v h) (bytes_eq t.name r.name) refl g
  where
    a : taken rows (t ∷ ts) ≡ cond {A = ℕ} (not (is_vacant t) && has_name t.name rows) 1 0 + taken rows ts
    a = sum_by-cons (λ u. cond (not (is_vacant u) && has_name u.name rows) 1 0) t ts

    b : taken (r ∷ rows) (t ∷ ts) ≡ cond {A = ℕ} (not (is_vacant t) && has_name t.name (r ∷ rows)) 1 0 + taken (r ∷ rows) ts
    b = sum_by-cons (λ u. cond (not (is_vacant u) && has_name u.name (r ∷ rows)) 1 0) t ts

    either : (v e h : Bool) → ◌≤◌ (cond (v && h) 1 0) (cond (v && (e || h)) 1 0)
    either true true true = omega arith
    either true true false = omega arith
    either true false h = omega arith
    either false e h = omega arith

    by : (has_name r.name ts ≡ true → 1 + taken rows ts ≤ taken (r ∷ rows) ts)
        → (e : Bool) → bytes_eq t.name r.name ≡ e → (e || has_name r.name ts) ≡ true → 1 + taken rows (t ∷ ts) ≤ taken (r ∷ rows) (t ∷ ts)
    by rest true e q =
        let same = same-name t.name r.name e in
        let live : is_vacant t ≡ false = false_from_ne_true (is_vacant t) (λ w. tenant-name r v (sym same ∙ vacant-name t w)) in
        let before : ◌≡◌ {A = ℕ} (cond (not (is_vacant t) && has_name t.name rows) 1 0) 0 =
        ap (λ n. cond (not (is_vacant t) && has_name n rows) 1 0) same ∙ ap (λ x. cond (not (is_vacant t) && x) 1 0) h ∙ none (is_vacant t) in
        let after : ◌≡◌ {A = ℕ} (cond (not (is_vacant t) && has_name t.name (r ∷ rows)) 1 0) 1 =
        ap (λ x. cond (not x && has_name t.name (r ∷ rows)) 1 0) live
        ∙ ap (λ x. cond (x || has_name t.name rows) 1 0) (one-name r.name t.name (sym same)) in
        let more = taken-more r rows ts in omega (arith, a, b, before, after, more)
      where
        none : (x : Bool) → ◌≡◌ {A = ℕ} (cond (not x && false) 1 0) 0
        none true = refl
        none false = refl
    by rest false e q =
        let more = rest q in
        let one = either (not (is_vacant t)) (bytes_eq r.name t.name) (has_name t.name rows) in omega (arith, a, b, more, one)

-- the rows whose names are in the table are no more than the table's tenants whose names are rows'
kept-taken : (rows table : List Tenant) → are_distinct rows ≡ true → kept rows table ≤ taken rows table
kept-taken [] table d = omega arith
kept-taken (r ∷ rows) table d =
    let parts = and_parts (is_vacant r || not (has_name r.name rows)) (are_distinct rows) d in
    by (is_vacant r) refl parts.0 (has_name r.name table) refl (kept-taken rows table parts.1)
  where
    a : kept (r ∷ rows) table ≡ cond {A = ℕ} (not (is_vacant r) && has_name r.name table) 1 0 + kept rows table
    a = sum_by-cons (λ u. cond (not (is_vacant u) && has_name u.name table) 1 0) r rows

    by : (v : Bool) → is_vacant r ≡ v → (v || not (has_name r.name rows)) ≡ true → (h : Bool) → has_name r.name table ≡ h
        → kept rows table ≤ taken rows table → kept (r ∷ rows) table ≤ taken (r ∷ rows) table
    by true v p h q more =
        let none : ◌≡◌ {A = ℕ} (cond (not (is_vacant r) && has_name r.name table) 1 0) 0 = ap (λ b. cond (not b && has_name r.name table) 1 0) v in
        let wider = taken-more r rows table in omega (arith, a, none, more, wider)
    by false v p true q more =
        let one : ◌≡◌ {A = ℕ} (cond (not (is_vacant r) && has_name r.name table) 1 0) 1 =
        ap₂ (λ x y. cond (not x && y) 1 0) v q in
        let wider = taken-one r rows table v (not-true (has_name r.name rows) p) q in omega (arith, a, one, more, wider)
    by false v p false q more =
        let none : ◌≡◌ {A = ℕ} (cond (not (is_vacant r) && has_name r.name table) 1 0) 0 =
        ap₂ (λ x y. cond (not x && y) 1 0) v q in
        let wider = taken-more r rows table in omega (arith, a, none, more, wider)

-- fresh tenants have names
pub fresh-named : (rows table : List Tenant) → all-named (fresh_in rows table)
fresh-named rows table = weaker (fresh_in rows table) (fresh-are-fresh rows table)
  where
    weaker : (ts : List Tenant) → AllByRecursion (λ t. is_fresh rows t ≡ true) ts → all-named ts
    weaker [] h = tt
    weaker (t ∷ ts) h = (not-true (is_vacant t) (and_parts (not (is_vacant t)) (not (has_name t.name rows)) h.0).0, weaker ts h.1)

-- the rows have no more tenants than the table
pub named-seated : (rows table : List Tenant) → are_distinct rows ≡ true → named (seated rows table) ≤ named table
named-seated rows table d =
    let a = named-placed table rows (fresh_in rows table) (fresh-named rows table) in
    let b = kept-taken rows table d in let c = taken-or-fresh rows table in omega (arith, a, b, c)

-- there are no more fresh tenants than tenants
pub few-fresh : (rows table : List Tenant) → length (fresh_in rows table) ≤ named table
few-fresh rows table = let c = taken-or-fresh rows table in omega (arith, c)
