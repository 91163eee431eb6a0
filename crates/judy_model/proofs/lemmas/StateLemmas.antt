-- A tenant's arrays by name, and their numbers of entries.
use Rattle.std.proofs.Common.{◌≡◌, ℕ, ◌+◌, Bool, true, false, not, cond, ◌&&◌, List, [], ◌∷◌, length, refl, sym, ◌∙◌, ap, subst, arith, Some, None}
use Rattle.std.specs.Prelude.{filter, unwrap_or, sum_by}
use Rattle.std.specs.declared.cmp.Ordering.{Ordering}
use Rattle.std.specs.declared.cmp.Ordering.TheVariants.{Less, Equal, Greater}
use Rattle.std.specs.Ordering.{eq_by_cmp, is_eq, is_lt}
use Rattle.std.proofs.lemmas.List.Sums.{sum_by-cons}
use Rattle.std.specs.Cmp.{IsTotalOrder, tied_itself}
use Rattle.std.specs.Cmp.Lexicographic.{nat_list_cmp_total}
use Rattle.std.specs.FinMap.{find, put, is_sorted, slice_cmp-IsAntisymmetric, nat_cmp-IsAntisymmetric}
use Rattle.std.specs.FinMap.Entries.{find-put, find-where_key, by_order, below_all}
use Rattle.judy_model.specs.Contents.{Entries, string_order}
use Rattle.judy_model.specs.Pieces.{pieces_of}
use Rattle.judy_model.specs.Tenant.{Arrays, content_of, with_content, entries_in, pieces_in}
use Rattle.judy_model.proofs.lemmas.TestLemmas.{is_Less}
pub use Rattle.judy_model.proofs.lemmas.TestLemmas.{and_left, and_right, is_Equal}

-- a name equals itself
pub same_name : (a : List ℕ) → eq_by_cmp string_order a a ≡ true
same_name a = ap is_eq (tied_itself nat_list_cmp_total a)

-- names that compare equal are equal
pub equal_names : (a b : List ℕ) → string_order a b ≡ Equal → a ≡ b
equal_names a b e = slice_cmp-IsAntisymmetric nat_cmp-IsAntisymmetric a b e

module _ {K : Type 0} where
  -- the array that was written has the new content
  pub content_of-with_content_same : (arrays : Arrays K) (name : List ℕ) (l : Entries K) → content_of (with_content arrays name l) name ≡ l
  content_of-with_content_same arrays name [] =
      let gone : find string_order name (filter (λ a. not (eq_by_cmp string_order name a.0)) arrays) ≡ cond
      (not (eq_by_cmp string_order name name)) (find string_order name arrays) None
      = find-where_key string_order (λ n. not (eq_by_cmp string_order name n)) name
      (λ x e. ap (λ n. not (eq_by_cmp string_order name n)) (sym (equal_names name x e))) arrays in
      rw (gone, same_name) refl
  content_of-with_content_same arrays name (e ∷ es) =
      rw (find-put string_order nat_list_cmp_total name name (e ∷ es) arrays, same_name) refl

  -- the other arrays are unchanged
  pub content_of-with_content_other : (arrays : Arrays K) (name other : List ℕ) (l : Entries K) → eq_by_cmp string_order other name ≡ false
      → eq_by_cmp string_order name other ≡ false → content_of (with_content arrays name l) other ≡ content_of arrays other
  content_of-with_content_other arrays name other [] apart apart' =
      let kept : find string_order other (filter (λ a. not (eq_by_cmp string_order name a.0)) arrays) ≡ cond
      (not (eq_by_cmp string_order name other)) (find string_order other arrays) None
      = find-where_key string_order (λ n. not (eq_by_cmp string_order name n)) other
      (λ x e. ap (λ n. not (eq_by_cmp string_order name n)) (sym (equal_names other x e))) arrays in
      rw (kept, apart') refl
  content_of-with_content_other arrays name other (e ∷ es) apart apart' =
      rw (find-put string_order nat_list_cmp_total other name (e ∷ es) arrays, apart) refl

module _ {K X : Type 0} (order : K → K → Ordering) (o : IsTotalOrder order) where
  -- a key below all others is not among them
  pub not_found : (x : K) (more : List (K × X)) → below_all order x more ≡ true → find order x more ≡ None
  not_found x [] h = refl
  not_found x (a ∷ more) h =
      let less : order x a.0 ≡ Less = is_Less (order x a.0) (and_left (is_lt (order x a.0)) _ h) in
      ap (λ r. cond (is_eq r) (Some a.1) (find order x more)) less ∙ not_found x more (and_right (is_lt (order x a.0)) _ h)

  -- a lower key is below them too
  pub below_less : (x y : K) (more : List (K × X)) → order x y ≡ Less → below_all order y more ≡ true → below_all order x more ≡ true
  below_less x y [] p h = refl
  below_less x y (a ∷ more) p h =
      let less : order y a.0 ≡ Less = is_Less (order y a.0) (and_left (is_lt (order y a.0)) _ h) in
      let also : order x a.0 ≡ Less = o.trans x y a.0 p less in
      ap (λ r. is_lt r && below_all order x more) also ∙ below_less x y more p (and_right (is_lt (order y a.0)) _ h)

-- a measure of arrays, 0 for an empty one, added up
module _ {K : Type 0} (size : Entries K → ℕ) (empty : size [] ≡ 0) where
  -- the sum over all arrays
  abbrev pub total : Arrays K → ℕ
  total arrays = sum_by (λ a. size a.1) arrays

  -- one more array
  total-cons : (a : List ℕ × Entries K) (more : Arrays K) → total (a ∷ more) ≡ size a.1 + total more
  total-cons a more = sum_by-cons (λ x. size x.1) a more

  -- an array inserted in front, replaced, or inserted further on
  put_total : (r : Ordering) (name : List ℕ) (l : Entries K) (a : List ℕ × Entries K) (more : Arrays K) → string_order name a.0 ≡ r
      → (string_order name a.0 ≡ Less → find string_order name more ≡ None)
      → total (put string_order name l more) + size (content_of more name) ≡ total more + size l
      → total (by_order r ((name, l) ∷ a ∷ more) ((a.0, l) ∷ more) (a ∷ put string_order name l more)) + size
      (unwrap_or (cond (is_eq r) (Some a.1) (find string_order name more)) [])
      ≡ total (a ∷ more) + size l
  put_total Less name l a more is missing rest =
      let none : find string_order name more ≡ None = missing is in
      let nothing : size (content_of more name) ≡ 0 = ap (λ o. size (unwrap_or o [])) none ∙ empty in
      omega (arith, total-cons (name, l) (a ∷ more), nothing)
  put_total Equal name l a more is missing rest = omega (arith, total-cons (a.0, l) more, total-cons a more)
  put_total Greater name l a more is missing rest = omega (arith, total-cons a (put string_order name l more), total-cons a more, rest)

  -- an array inserted or replaced
  total-put : (arrays : Arrays K) (name : List ℕ) (l : Entries K) → is_sorted string_order arrays ≡ true
      → total (put string_order name l arrays) + size (content_of arrays name) ≡ total arrays + size l
  total-put [] name l sorted = omega (arith, total-cons (name, l) [], empty)
  total-put (a ∷ more) name l sorted =
      put_total (string_order name a.0) name l a more refl
      (λ less. not_found string_order nat_list_cmp_total name more (below_less string_order nat_list_cmp_total name a.0 more less
      (and_left (below_all string_order a.0 more) _ sorted)))
      (total-put more name l (and_right (below_all string_order a.0 more) _ sorted))

  -- the first array is removed, or one further on
  filter_total : (b : Bool) (name : List ℕ) (a : List ℕ × Entries K) (more rest : Arrays K)
      → (b ≡ true → find string_order name more ≡ None) → total rest + size (content_of more name) ≡ total more
      → total (cond (not b) (a ∷ rest) rest) + size (unwrap_or (cond b (Some a.1) (find string_order name more)) []) ≡ total (a ∷ more)
  filter_total true name a more rest missing h =
      let none : find string_order name more ≡ None = missing refl in
      let nothing : size (content_of more name) ≡ 0 = ap (λ o. size (unwrap_or o [])) none ∙ empty in
      omega (arith, total-cons a more, h, nothing)
  filter_total false name a more rest missing h = omega (arith, total-cons a more, total-cons a rest, h)

  -- an array removed
  total-filter : (arrays : Arrays K) (name : List ℕ) → is_sorted string_order arrays ≡ true
      → total (filter (λ a. not (eq_by_cmp string_order name a.0)) arrays) + size (content_of arrays name) ≡ total arrays
  total-filter [] name sorted = omega (arith, empty)
  total-filter (a ∷ more) name sorted =
      filter_total (eq_by_cmp string_order name a.0) name a more (filter (λ x. not (eq_by_cmp string_order name x.0)) more)
      (λ same. not_found string_order nat_list_cmp_total name more (subst (λ n. below_all string_order n more ≡ true)
      (sym (equal_names name a.0 (is_Equal (string_order name a.0) same)))
      (and_left (below_all string_order a.0 more) _ sorted)))
      (total-filter more name (and_right (below_all string_order a.0 more) _ sorted))

  -- writing an array changes the sum by as much as the array's own measure
  pub total-with_content : (arrays : Arrays K) (name : List ℕ) (l : Entries K) → is_sorted string_order arrays ≡ true
      → total (with_content arrays name l) + size (content_of arrays name) ≡ total arrays + size l
  total-with_content arrays name [] sorted = omega (arith, total-filter arrays name sorted, empty)
  total-with_content arrays name (e ∷ es) sorted = total-put arrays name (e ∷ es) sorted

-- writing an array changes the number of entries by the same amount
pub entries_in-with_content : {K : Type 0} (arrays : Arrays K) (name : List ℕ) (l : Entries K) → is_sorted string_order arrays ≡ true
    → entries_in (with_content arrays name l) + length (content_of arrays name) ≡ entries_in arrays + length l
entries_in-with_content arrays name l sorted = total-with_content length refl arrays name l sorted

-- writing an array changes the number of pieces by the same amount
pub pieces_in-with_content : {K : Type 0} (size : K → ℕ) (arrays : Arrays K) (name : List ℕ) (l : Entries K) → is_sorted string_order arrays ≡ true
    → pieces_in size (with_content arrays name l) + pieces_of size (content_of arrays name) ≡ pieces_in size arrays + pieces_of size l
pieces_in-with_content size arrays name l sorted = total-with_content (pieces_of size) refl arrays name l sorted
