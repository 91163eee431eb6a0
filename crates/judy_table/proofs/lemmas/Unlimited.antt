-- Rows without quotas.
--     unlimited-name      they have the same names
--     unlimited-vacant    the same places are vacant
--     unlimited-place     each name has the same place
--     unlimited-kept      each name is one of the rows
--     unlimited-rows      what holds of every table's rows holds of them
--     seated-unlimited    when the rows themselves are put in force again, they are as they were
use Rattle.std.proofs.Common.{◌≡◌, ◌≢◌, ◌≤◌, ◌+◌, ◌&&◌, ◌||◌, ◌==◌, ℕ, suc, Bool, true, false, not, cond, List, [], ◌∷◌, length, Some}
use Rattle.std.proofs.Common.{ap, ap₂, sym, ◌∙◌, refl, subst, option_map, arith}
use Rattle.std.proofs.lemmas.Bool.{and_parts, or_right, both_ways, not-true}
use Rattle.std.proofs.lemmas.List.{length-map}
use Rattle.std.proofs.lemmas.List.Elements.{All-from_recursion, recursion_from_All}
use Rattle.std.proofs.lemmas.List.Sums.{sum_by-cons}
use Rattle.std.specs.List.{AllByRecursion}
use Rattle.std.specs.Str.{bytes_eq}
use Rattle.judy_model.specs.Grammar.{is_name}
use Rattle.judy_table.specs.declared.table.TheConstants.{TENANTS_LIMIT, ROWS_LIMIT}
use Rattle.judy_table.specs.declared.tenant.Tenant.{Tenant}
use Rattle.judy_table.specs.Tenants.{is_vacant, vacant, place_of, IsLimited}
use Rattle.judy_table.specs.Seats.{has_name, row_of, keeping, is_fresh, fresh_in, placed, seated, named, are_distinct, AreRows, IsSpelled}
use Rattle.judy_table.specs.Unlimited.{most_quota, unlimited_row, unlimited}
use Rattle.judy_table.proofs.Placing.{one-name, other-name, tenant-name, vacant-other, place-more}
use Rattle.judy_table.proofs.lemmas.Seats.{keeping-own}

-- ---- one row

pub unlimited-name : (t : Tenant) → (unlimited_row t).name ≡ t.name
unlimited-name t = by (is_vacant t)
  where
    by : (b : Bool) → (cond b t (record t { quota = most_quota })).name ≡ t.name
    by true = refl
    by false = refl

pub unlimited-vacant : (t : Tenant) → is_vacant (unlimited_row t) ≡ is_vacant t
unlimited-vacant t = ap (λ (n : List ℕ). length n == 0) (unlimited-name t)

unlimited-frozen : (t : Tenant) → (unlimited_row t).frozen ≡ t.frozen
unlimited-frozen t = by (is_vacant t)
  where
    by : (b : Bool) → (cond b t (record t { quota = most_quota })).frozen ≡ t.frozen
    by true = refl
    by false = refl

limited-row : (t : Tenant) → IsLimited t → IsLimited (unlimited_row t)
limited-row t h = by (is_vacant t)
  where
    by : (b : Bool) → IsLimited (cond b t (record t { quota = most_quota }))
    by true = h
    by false = record { entries = omega arith; pieces = omega arith }

spelled-row : (t : Tenant) → IsSpelled t → IsSpelled (unlimited_row t)
spelled-row t h = λ v. ap is_name (unlimited-name t) ∙ h (sym (unlimited-vacant t) ∙ v)

-- all vacant rows are alike
abbrev IsAlike : Tenant → Type 0
IsAlike t = is_vacant t ≡ true → t ≡ vacant

alike-row : (t : Tenant) → IsAlike t → IsAlike (unlimited_row t)
alike-row t h = λ v.
    let empty : is_vacant t ≡ true = sym (unlimited-vacant t) ∙ v in
    ap (λ b. cond b t (record t { quota = most_quota })) empty ∙ h empty

-- ---- all rows

unlimited-has : (name : List ℕ) (rows : List Tenant) → has_name name (unlimited rows) ≡ has_name name rows
unlimited-has name [] = refl
unlimited-has name (t ∷ ts) = ap₂ (λ a b. a || b) (ap (λ n. bytes_eq n name) (unlimited-name t)) (unlimited-has name ts)

unlimited-count : (rows : List Tenant) → named (unlimited rows) ≡ named rows
unlimited-count [] = refl
unlimited-count (t ∷ ts) =
    sum_by-cons (λ (u : Tenant). cond (not (is_vacant u)) 1 0) (unlimited_row t) (unlimited ts)
    ∙ ap₂ (λ v n. cond (not v) 1 0 + n) (unlimited-vacant t) (unlimited-count ts)
    ∙ sym (sum_by-cons (λ (u : Tenant). cond (not (is_vacant u)) 1 0) t ts)

unlimited-distinct : (rows : List Tenant) → are_distinct (unlimited rows) ≡ are_distinct rows
unlimited-distinct [] = refl
unlimited-distinct (t ∷ ts) =
    ap₂ (λ a b. a && b)
    (ap₂ (λ v h. v || not h) (unlimited-vacant t) (ap (λ n. has_name n (unlimited ts)) (unlimited-name t) ∙ unlimited-has t.name ts))
    (unlimited-distinct ts)

each-unlimited : (P : Tenant → Type 0) → ((t : Tenant) → P t → P (unlimited_row t)) → (rows : List Tenant) → AllByRecursion P rows
    → AllByRecursion P (unlimited rows)
each-unlimited P f [] h = tt
each-unlimited P f (t ∷ ts) h = (f t h.0, each-unlimited P f ts h.1)

-- what holds of every table's rows holds of them
pub unlimited-rows : (rows : List Tenant) → AreRows rows → AreRows (unlimited rows)
unlimited-rows rows r = record {
  few = subst (λ n. n ≤ ROWS_LIMIT) (sym (length-map rows unlimited_row)) r.few;
  few_named = subst (λ n. n ≤ TENANTS_LIMIT) (sym (unlimited-count rows)) r.few_named;
  limited = All-from_recursion IsLimited (unlimited rows) (each-unlimited IsLimited limited-row rows (recursion_from_All IsLimited rows r.limited));
  spelled = All-from_recursion IsSpelled (unlimited rows) (each-unlimited IsSpelled spelled-row rows (recursion_from_All IsSpelled rows r.spelled));
  empty = All-from_recursion IsAlike (unlimited rows) (each-unlimited IsAlike alike-row rows (recursion_from_All IsAlike rows r.empty));
  distinct = unlimited-distinct rows ∙ r.distinct;
}

-- each name has the same place
pub unlimited-place : (name : List ℕ) (rows : List Tenant) → place_of name (unlimited rows) ≡ place_of name rows
unlimited-place name [] = refl
unlimited-place name (t ∷ ts) =
    place-more name (unlimited_row t) (unlimited ts)
    ∙ ap₂ (λ n o. cond (bytes_eq n name) (Some 0) (option_map suc o)) (unlimited-name t) (unlimited-place name ts)
    ∙ sym (place-more name t ts)

-- ---- the rows themselves are put in force again

-- the names of the first are names of the second
abbrev pub AreAmong : List Tenant → List Tenant → Type 0
AreAmong ts rows = (name : List ℕ) → has_name name ts ≡ true → has_name name rows ≡ true

has-first : (t : Tenant) (ts : List Tenant) → has_name t.name (t ∷ ts) ≡ true
has-first t ts = ap (λ b. b || has_name t.name ts) (one-name t.name t.name refl)

among-rest : (t : Tenant) (ts rows : List Tenant) → AreAmong (t ∷ ts) rows → AreAmong ts rows
among-rest t ts rows h name e = h name (or_right (bytes_eq t.name name) (has_name name ts) e)

-- each name is one of the rows
pub unlimited-kept : (ts rows : List Tenant) → AreAmong ts rows → AllByRecursion (λ r. (is_vacant r || has_name r.name rows) ≡ true) (unlimited ts)
unlimited-kept [] rows h = tt
unlimited-kept (t ∷ ts) rows h = (
  or_right (is_vacant (unlimited_row t)) (has_name (unlimited_row t).name rows)
      (ap (λ n. has_name n rows) (unlimited-name t) ∙ h t.name (has-first t ts)),
  unlimited-kept ts rows (among-rest t ts rows h),
)

none-fresh : (ts rows : List Tenant) → AreAmong ts rows → fresh_in (unlimited rows) ts ≡ []
none-fresh [] rows h = refl
none-fresh (t ∷ ts) rows h =
    ap (λ b. cond b (t ∷ fresh_in (unlimited rows) ts) (fresh_in (unlimited rows) ts)) stale
    ∙ none-fresh ts rows (among-rest t ts rows h)
  where
    never : (b : Bool) → (b && false) ≡ false
    never true = refl
    never false = refl

    stale : is_fresh (unlimited rows) t ≡ false
    stale = ap (λ b. not (is_vacant t) && not b) (unlimited-has t.name rows ∙ h t.name (has-first t ts)) ∙ never (not (is_vacant t))

-- another name comes after a row that has its own
apart-first : (t : Tenant) (ts : List Tenant) (name : List ℕ) → name ≢ [] → (is_vacant t || not (has_name t.name ts)) ≡ true
    → has_name name ts ≡ true → bytes_eq t.name name ≡ false
apart-first t ts name n d h = by (is_vacant t) refl d
  where
    by : (b : Bool) → is_vacant t ≡ b → (b || not (has_name t.name ts)) ≡ true → bytes_eq t.name name ≡ false
    by true v e = vacant-other t name n v
    by false v e = other-name t.name name (λ same. both_ways (has_name t.name ts) (not-true (has_name t.name ts) e) (ap (λ m. has_name m ts) same ∙ h))

-- the row of a tenant's name is its own
abbrev IsOwn : List Tenant → Tenant → Type 0
IsOwn rows t = is_vacant t ≡ false → row_of t.name rows ≡ t

own-rows : (rows ts : List Tenant) → ((name : List ℕ) → name ≢ [] → has_name name ts ≡ true → row_of name rows ≡ row_of name ts)
    → are_distinct ts ≡ true → AllByRecursion (IsOwn rows) ts
own-rows rows [] h d = tt
own-rows rows (t ∷ ts) h d =
    let parts = and_parts (is_vacant t || not (has_name t.name ts)) (are_distinct ts) d in (
      λ v. h t.name (tenant-name t v) (has-first t ts) ∙ ap (λ b. cond b t (row_of t.name ts)) (one-name t.name t.name refl),
      own-rows rows ts
          (λ name n e. h name n (or_right (bytes_eq t.name name) (has_name name ts) e)
          ∙ ap (λ b. cond b t (row_of name ts)) (apart-first t ts name n parts.0 e))
          parts.1,
    )

placed-own : (rows ts : List Tenant) → AllByRecursion IsAlike ts → AllByRecursion (IsOwn rows) ts → placed rows (unlimited ts) [] ≡ ts
placed-own rows [] e o = refl
placed-own rows (t ∷ ts) e o =
    ap₂ (λ (n : List ℕ) (b : Bool).
    cond b (vacant ∷ placed rows (unlimited ts) []) (keeping (unlimited_row t).frozen (row_of n rows) ∷ placed rows (unlimited ts) []))
    (unlimited-name t) (unlimited-vacant t)
    ∙ by (placed-own rows ts e.1 o.1) (is_vacant t) refl
  where
    by : placed rows (unlimited ts) [] ≡ ts → (b : Bool) → is_vacant t ≡ b
        → cond b (vacant ∷ placed rows (unlimited ts) []) (keeping (unlimited_row t).frozen (row_of t.name rows) ∷ placed rows (unlimited ts) []) ≡ t ∷ ts
    by rest true v = ap₂ (λ (x : Tenant) xs. x ∷ xs) (sym (e.0 v)) rest
    by rest false v =
        ap₂ (λ (x : Tenant) xs. x ∷ xs)
        (ap (keeping (unlimited_row t).frozen) (o.0 v) ∙ keeping-own (unlimited_row t).frozen t (sym (unlimited-frozen t))) rest

-- they are as they were
pub seated-unlimited : (rows : List Tenant) → AreRows rows → seated (unlimited rows) rows ≡ rows
seated-unlimited rows r =
    ap (placed rows (unlimited rows)) (none-fresh rows rows (λ name e. e))
    ∙ placed-own rows rows (recursion_from_All IsAlike rows r.empty) (own-rows rows rows (λ name n e. refl) r.distinct)
