-- The number of pieces, as entries are added and removed.
use Rattle.std.proofs.Common.{◌≡◌, ℕ, ◌+◌, Bool, true, false, not, cond, [], ◌∷◌, length, refl, sym, ap, subst, arith, Some, None}
use Rattle.std.specs.Prelude.{is_some}
use Rattle.std.specs.declared.cmp.Ordering.{Ordering}
use Rattle.std.specs.declared.cmp.Ordering.TheVariants.{Less, Equal, Greater}
use Rattle.std.specs.Ordering.{eq_by_cmp, is_eq}
use Rattle.std.specs.Cmp.{IsTotalOrder}
use Rattle.std.specs.FinMap.{find, put, is_sorted, IsAntisymmetric}
use Rattle.std.specs.FinMap.Entries.{by_order, below_all}
use Rattle.std.proofs.lemmas.List.Sums.{sum_by-cons}
use Rattle.judy_model.specs.Contents.{Order, Entries, has_key, with_entry, without_key}
use Rattle.judy_model.specs.Pieces.{word_pieces, pieces_of}
use Rattle.judy_model.proofs.lemmas.TestLemmas.{and_left, and_right, is_Equal}
use Rattle.judy_model.proofs.lemmas.StateLemmas.{not_found, below_less}

-- an array of words has as many pieces as entries
pub pieces_of-words : (l : Entries ℕ) → pieces_of word_pieces l ≡ length l
pieces_of-words [] = refl
pieces_of-words (e ∷ es) = let more = sum_by-cons (λ (x : ℕ × ℕ). word_pieces x.0) e es in let rest = pieces_of-words es in omega (arith, more, rest)

module _ {K : Type 0} (order : Order K) (o : IsTotalOrder order) (same : IsAntisymmetric order) (size : K → ℕ) where
  -- one more entry
  pieces_of-cons : (e : K × ℕ) (es : Entries K) → pieces_of size (e ∷ es) ≡ size e.0 + pieces_of size es
  pieces_of-cons e es = sum_by-cons (λ x. size x.0) e es

  -- a value at a present key keeps the pieces; one at a new key adds the key's pieces
  pub pieces_of-with_entry : (l : Entries K) (k : K) (v : ℕ) → is_sorted order l ≡ true
      → pieces_of size (with_entry order l k v) ≡ cond (has_key order l k) (pieces_of size l) (pieces_of size l + size k)
  pieces_of-with_entry [] k v h = let one = pieces_of-cons (k, v) [] in omega (arith, one)
  pieces_of-with_entry (e ∷ es) k v h = by (order k e.0) refl (pieces_of-with_entry es k v (and_right (below_all order e.0 es) _ h))
    where
      more : (b : Bool) → pieces_of size (put order k v es) ≡ cond b (pieces_of size es) (pieces_of size es + size k)
          → pieces_of size (e ∷ put order k v es) ≡ cond b (pieces_of size (e ∷ es)) (pieces_of size (e ∷ es) + size k)
      more true rest = let a = pieces_of-cons e (put order k v es) in let b = pieces_of-cons e es in omega (arith, a, b, rest)
      more false rest = let a = pieces_of-cons e (put order k v es) in let b = pieces_of-cons e es in omega (arith, a, b, rest)

      by : (r : Ordering) → order k e.0 ≡ r → pieces_of size (put order k v es) ≡ cond (has_key order es k) (pieces_of size es) (pieces_of size es + size k)
          → pieces_of size (by_order r ((k, v) ∷ e ∷ es) ((e.0, v) ∷ es) (e ∷ put order k v es))
          ≡ cond (is_some (cond (is_eq r) (Some e.1) (find order k es))) (pieces_of size (e ∷ es)) (pieces_of size (e ∷ es) + size k)
      by Less is rest =
          let none : find order k es ≡ None = not_found order o k es (below_less order o k e.0 es is (and_left (below_all order e.0 es) _ h)) in
          let a = pieces_of-cons (k, v) (e ∷ es) in
          rw none (omega (arith, a))
      by Equal is rest = let a = pieces_of-cons (e.0, v) es in let b = pieces_of-cons e es in omega (arith, a, b)
      by Greater is rest = more (has_key order es k) rest

  -- removing a key subtracts its pieces
  pub pieces_of-without_key : (l : Entries K) (k : K) → is_sorted order l ≡ true
      → pieces_of size (without_key order l k) + cond (has_key order l k) (size k) 0 ≡ pieces_of size l
  pieces_of-without_key [] k h = refl
  pieces_of-without_key (e ∷ es) k h = by (eq_by_cmp order k e.0) refl (pieces_of-without_key es k (and_right (below_all order e.0 es) _ h))
    where
      more : (n : ℕ) → pieces_of size (without_key order es k) + n ≡ pieces_of size es → pieces_of size
          (e ∷ without_key order es k) + n ≡ pieces_of size (e ∷ es)
      more n rest = let a = pieces_of-cons e (without_key order es k) in let b = pieces_of-cons e es in omega (arith, a, b, rest)

      by : (b : Bool) → eq_by_cmp order k e.0 ≡ b → pieces_of size (without_key order es k) + cond (has_key order es k) (size k) 0 ≡ pieces_of size es
          → pieces_of size (cond (not b) (e ∷ without_key order es k) (without_key order es k)) + cond
          (is_some (cond b (Some e.1) (find order k es))) (size k) 0 ≡ pieces_of size (e ∷ es)
      by true tie rest =
          let key : k ≡ e.0 = same k e.0 (is_Equal (order k e.0) tie) in
          let gone : below_all order k es ≡ true = subst (λ x. below_all order x es ≡ true) (sym key) (and_left (below_all order e.0 es) _ h) in
          let none : has_key order es k ≡ false = ap is_some (not_found order o k es gone) in
          let left : pieces_of size (without_key order es k) + 0 ≡ pieces_of size es =
          subst (λ b. pieces_of size (without_key order es k) + cond b (size k) 0 ≡ pieces_of size es) none rest in
          let b = pieces_of-cons e es in
          let also : size k ≡ size e.0 = ap size key in
          omega (arith, left, b, also)
      by false tie rest = more (cond (has_key order es k) (size k) 0) rest
