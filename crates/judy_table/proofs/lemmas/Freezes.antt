-- A tenant is frozen or thawed: what stays, and what a log-in gives.
--     freeze-name      a row keeps its name
--     freeze-vacant    so it is vacant as before
--     freeze-quota     and its quota
--     freeze-rows      what holds of every table's rows holds of them
--     freeze-at        the row at a place
--     freeze-names     each place has the same name
--     freeze-place     each name has the same place
--     freeze-none      nothing changes if no row has the tenant
--     frozen-right     what a log-in gives while the tenant is frozen
--     thawed-right     and after it is thawed
--     other-right      a log-in of another tenant gives what it gave
use Rattle.std.proofs.Common.{◌≡◌, ◌≢◌, ◌≤◌, ◌+◌, ◌&&◌, ◌||◌, ◌==◌, ℕ, suc, Bool, true, false, not, cond, List, [], ◌∷◌, length, Option, Some, None}
use Rattle.std.proofs.Common.{ap, ap₂, sym, ◌∙◌, refl, subst, option_map, slice_get, if◌then◌else◌}
use Rattle.std.specs.Prelude.{map, unwrap_or}
use Rattle.std.proofs.lemmas.Bool.{or_parts, and_from, not_from_false, false_from_ne_true}
use Rattle.std.proofs.lemmas.List.{length-map}
use Rattle.std.proofs.lemmas.List.Elements.{All-from_recursion, recursion_from_All}
use Rattle.std.proofs.lemmas.List.Sums.{sum_by-cons}
use Rattle.std.proofs.lemmas.Option.{slice_get-map}
use Rattle.std.specs.List.{AllByRecursion}
use Rattle.std.specs.Str.{bytes_eq}
use Rattle.sha2.specs.Sha256.{sha256}
use Rattle.judy_model.specs.Grammar.{is_name}
use Rattle.judy_model.specs.declared.quotas.Right.TheVariants.{Change, Look, Frozen}
use Rattle.judy_table.specs.declared.table.TheConstants.{TENANTS_LIMIT, ROWS_LIMIT}
use Rattle.judy_table.specs.declared.tenant.Tenant.{Tenant}
use Rattle.judy_table.specs.Tenants.{is_vacant, vacant, place_of, owns, may_change, is_kept_out, may_look, right_of, IsLimited}
use Rattle.judy_table.specs.Freezes.{is_tenant_of, has_tenant_of, frozen_row, with_freeze}
use Rattle.judy_table.specs.Seats.{has_name, row_of, named, name_at, are_distinct, right_in, AreRows, IsSpelled}
use Rattle.judy_table.proofs.Placing.{one-name, vacant-name, row-named, place-more}
use Rattle.judy_table.proofs.lemmas.Seats.{right-of-row}

-- ---- one row

module _ (name : List ℕ) (frozen : Option (List ℕ)) where
  pub freeze-name : (t : Tenant) → (frozen_row name frozen t).name ≡ t.name
  freeze-name t = by (is_tenant_of name t)
    where
      by : (b : Bool) → (cond b (record t { frozen = frozen }) t).name ≡ t.name
      by true = refl
      by false = refl

  pub freeze-vacant : (t : Tenant) → is_vacant (frozen_row name frozen t) ≡ is_vacant t
  freeze-vacant t = ap (λ (n : List ℕ). length n == 0) (freeze-name t)

  pub freeze-quota : (t : Tenant) → (frozen_row name frozen t).quota ≡ t.quota
  freeze-quota t = by (is_tenant_of name t)
    where
      by : (b : Bool) → (cond b (record t { frozen = frozen }) t).quota ≡ t.quota
      by true = refl
      by false = refl

  limited-row : (t : Tenant) → IsLimited t → IsLimited (frozen_row name frozen t)
  limited-row t h = by (is_tenant_of name t)
    where
      by : (b : Bool) → IsLimited (cond b (record t { frozen = frozen }) t)
      by true = record { entries = h.entries; pieces = h.pieces }
      by false = h

  spelled-row : (t : Tenant) → IsSpelled t → IsSpelled (frozen_row name frozen t)
  spelled-row t h = λ v. ap is_name (freeze-name t) ∙ h (sym (freeze-vacant t) ∙ v)

  -- all vacant rows are alike
  abbrev IsAlike : Tenant → Type 0
  IsAlike t = is_vacant t ≡ true → t ≡ vacant

  alike-row : (t : Tenant) → IsAlike t → IsAlike (frozen_row name frozen t)
  alike-row t h = λ v.
      let empty : is_vacant t ≡ true = sym (freeze-vacant t) ∙ v in
      ap (λ b. cond (not b && bytes_eq t.name name) (record t { frozen = frozen }) t) empty ∙ h empty

  -- ---- all rows

  freeze-has : (n : List ℕ) (rows : List Tenant) → has_name n (with_freeze name frozen rows) ≡ has_name n rows
  freeze-has n [] = refl
  freeze-has n (t ∷ ts) = ap₂ (λ a b. a || b) (ap (λ m. bytes_eq m n) (freeze-name t)) (freeze-has n ts)

  freeze-count : (rows : List Tenant) → named (with_freeze name frozen rows) ≡ named rows
  freeze-count [] = refl
  freeze-count (t ∷ ts) =
      sum_by-cons (λ (u : Tenant). cond (not (is_vacant u)) 1 0) (frozen_row name frozen t) (with_freeze name frozen ts)
      ∙ ap₂ (λ v n. cond (not v) 1 0 + n) (freeze-vacant t) (freeze-count ts)
      ∙ sym (sum_by-cons (λ (u : Tenant). cond (not (is_vacant u)) 1 0) t ts)

  freeze-distinct : (rows : List Tenant) → are_distinct (with_freeze name frozen rows) ≡ are_distinct rows
  freeze-distinct [] = refl
  freeze-distinct (t ∷ ts) =
      ap₂ (λ a b. a && b)
      (ap₂ (λ v h. v || not h) (freeze-vacant t) (ap (λ n. has_name n (with_freeze name frozen ts)) (freeze-name t) ∙ freeze-has t.name ts))
      (freeze-distinct ts)

  each-row : (P : Tenant → Type 0) → ((t : Tenant) → P t → P (frozen_row name frozen t)) → (rows : List Tenant) → AllByRecursion P rows
      → AllByRecursion P (with_freeze name frozen rows)
  each-row P f [] h = tt
  each-row P f (t ∷ ts) h = (f t h.0, each-row P f ts h.1)

  -- what holds of every table's rows holds of them
  pub freeze-rows : (rows : List Tenant) → AreRows rows → AreRows (with_freeze name frozen rows)
  freeze-rows rows r = record {
    few = subst (λ n. n ≤ ROWS_LIMIT) (sym (length-map rows (frozen_row name frozen))) r.few;
    few_named = subst (λ n. n ≤ TENANTS_LIMIT) (sym (freeze-count rows)) r.few_named;
    limited = All-from_recursion IsLimited (with_freeze name frozen rows) (each-row IsLimited limited-row rows (recursion_from_All IsLimited rows r.limited));
    spelled = All-from_recursion IsSpelled (with_freeze name frozen rows) (each-row IsSpelled spelled-row rows (recursion_from_All IsSpelled rows r.spelled));
    empty = All-from_recursion IsAlike (with_freeze name frozen rows) (each-row IsAlike alike-row rows (recursion_from_All IsAlike rows r.empty));
    distinct = freeze-distinct rows ∙ r.distinct;
  }

  -- the row at a place
  pub freeze-at : (rows : List Tenant) (p : ℕ) → slice_get (with_freeze name frozen rows) p ≡ option_map (frozen_row name frozen) (slice_get rows p)
  freeze-at rows p = slice_get-map (frozen_row name frozen) rows p

  same-names : (rows : List Tenant) → map (λ (t : Tenant). t.name) (with_freeze name frozen rows) ≡ map (λ (t : Tenant). t.name) rows
  same-names [] = refl
  same-names (t ∷ ts) = ap₂ (λ (n : List ℕ) ns. n ∷ ns) (freeze-name t) (same-names ts)

  -- each place has the same name
  pub freeze-names : (rows : List Tenant) (p : ℕ) → name_at (with_freeze name frozen rows) p ≡ name_at rows p
  freeze-names rows p = ap (λ ns. unwrap_or (slice_get ns p) []) (same-names rows)

  -- each name has the same place
  pub freeze-place : (n : List ℕ) (rows : List Tenant) → place_of n (with_freeze name frozen rows) ≡ place_of n rows
  freeze-place n [] = refl
  freeze-place n (t ∷ ts) =
      place-more n (frozen_row name frozen t) (with_freeze name frozen ts)
      ∙ ap₂ (λ m o. cond (bytes_eq m n) (Some 0) (option_map suc o)) (freeze-name t) (freeze-place n ts)
      ∙ sym (place-more n t ts)

  -- nothing changes if no row has the tenant
  pub freeze-none : (rows : List Tenant) → has_tenant_of name rows ≡ false → with_freeze name frozen rows ≡ rows
  freeze-none [] h = refl
  freeze-none (t ∷ ts) h =
      let parts = or_parts (is_tenant_of name t) (has_tenant_of name ts) h in
      ap₂ (λ (u : Tenant) us. u ∷ us) (ap (λ b. cond b (record t { frozen = frozen }) t) parts.0) (freeze-none ts parts.1)

  -- ---- log-ins

  -- the row of a name
  freeze-row : (n : List ℕ) (rows : List Tenant) → row_of n (with_freeze name frozen rows) ≡ frozen_row name frozen (row_of n rows)
  freeze-row n [] = refl
  freeze-row n (t ∷ ts) =
      ap₂ (λ m u. cond (bytes_eq m n) (frozen_row name frozen t) u) (freeze-name t) (freeze-row n ts) ∙ by (bytes_eq t.name n)
    where
      by : (b : Bool) → cond b (frozen_row name frozen t) (frozen_row name frozen (row_of n ts)) ≡ frozen_row name frozen (cond b t (row_of n ts))
      by true = refl
      by false = refl

  -- a log-in of another tenant gives what it gave
  pub other-right : (n token : List ℕ) (rows : List Tenant) → bytes_eq (row_of n rows).name name ≡ false
      → right_in n token (with_freeze name frozen rows) ≡ right_in n token rows
  other-right n token rows h =
      right-of-row n token (with_freeze name frozen rows)
      ∙ ap (right_of (sha256 token)) (freeze-row n rows ∙ ap (λ b. cond b (record (row_of n rows) { frozen = frozen }) (row_of n rows)) (never (is_vacant (row_of n rows))))
      ∙ sym (right-of-row n token rows)
    where
      never : (v : Bool) → (not v && bytes_eq (row_of n rows).name name) ≡ false
      never true = refl
      never false = h

  -- a log-in of the tenant gives the right by its row with this freeze
  own-right : (token : List ℕ) (rows : List Tenant) → name ≢ [] → has_name name rows ≡ true
      → right_in name token (with_freeze name frozen rows) ≡ right_of (sha256 token) (record (row_of name rows) { frozen = frozen })
  own-right token rows n h =
      right-of-row name token (with_freeze name frozen rows)
      ∙ ap (right_of (sha256 token)) (freeze-row name rows ∙ ap (λ b. cond b (record (row_of name rows) { frozen = frozen }) (row_of name rows)) mine)
    where
      own : (row_of name rows).name ≡ name
      own = row-named name rows h

      mine : is_tenant_of name (row_of name rows) ≡ true
      mine =
          and_from (not (is_vacant (row_of name rows))) (bytes_eq (row_of name rows).name name)
          (not_from_false (is_vacant (row_of name rows))
          (false_from_ne_true (is_vacant (row_of name rows)) (λ v. n (sym own ∙ vacant-name (row_of name rows) v))))
          (one-name (row_of name rows).name name own)

-- its row has a tenant
has-tenant : (name : List ℕ) (rows : List Tenant) → name ≢ [] → has_name name rows ≡ true → is_vacant (row_of name rows) ≡ false
has-tenant name rows n h =
    false_from_ne_true (is_vacant (row_of name rows)) (λ v. n (sym (row-named name rows h) ∙ vacant-name (row_of name rows) v))

-- the right that a token with this SHA-256 has, where the row has a tenant
live-right : (shown : List ℕ) (t : Tenant) → is_vacant t ≡ false → right_of shown t
    ≡ (if may_change shown t then Some Change else if is_kept_out shown t then Some Frozen else if may_look shown t then Some Look else None)
live-right shown t v =
    ap
    (λ b. if b then None
    else if may_change shown t then Some Change
    else if is_kept_out shown t then Some Frozen
    else if may_look shown t then Some Look
    else None)
    v

-- While the tenant is frozen, the token of the freeze gives the right to change, its own token and its
-- old one give that of a frozen tenant, and its read-only tokens give that to look.
pub frozen-right : (name digest token : List ℕ) (rows : List Tenant) → name ≢ [] → has_name name rows ≡ true
    → right_in name token (with_freeze name (Some digest) rows)
    ≡ (if bytes_eq digest (sha256 token) then Some Change
    else if owns (sha256 token) (row_of name rows) then Some Frozen
    else if may_look (sha256 token) (row_of name rows) then Some Look
    else None)
frozen-right name digest token rows n h =
    own-right name (Some digest) token rows n h
    ∙ live-right (sha256 token) (record (row_of name rows) { frozen = Some digest }) (has-tenant name rows n h)

-- After it is thawed, its tokens give what its table gives them.
pub thawed-right : (name token : List ℕ) (rows : List Tenant) → name ≢ [] → has_name name rows ≡ true
    → right_in name token (with_freeze name None rows)
    ≡ (if owns (sha256 token) (row_of name rows) then Some Change
    else if may_look (sha256 token) (row_of name rows) then Some Look
    else None)
thawed-right name token rows n h =
    own-right name None token rows n h ∙ live-right (sha256 token) (record (row_of name rows) { frozen = None }) (has-tenant name rows n h)
