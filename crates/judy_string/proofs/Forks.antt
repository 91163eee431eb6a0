-- Two strings in a new array: side by side under two words, or going on together under one.
use Rattle.std.proofs.Common.{◌≡◌, ◌≢◌, ℕ, zero, suc, ◌<◌, ◌≤◌, true, false, List, [], ◌∷◌, ◌++◌, take, drop, length, ap, sym, ◌∙◌, refl, subst, arith}
use Rattle.std.specs.Prelude.{nat_lt}
use Rattle.std.proofs.lemmas.Bool.Decides.{nat_tests}
use Rattle.judy_arena.specs.Blocks.{Blocks}
use Rattle.judy_arena.specs.Frame.{Frame}
use Rattle.judy_model.specs.Contents.{string_order, word_order, has_key, with_entry}
use Rattle.judy_tree.specs.Root.{entries}
use Rattle.judy_packing.specs.Packing.{pack, word_bytes, IsString}
use Rattle.judy_string.specs.Strings.{Strings, IsChanged, nested_content_at, nested_numbers_at, IsNestedAt}
use Rattle.judy_packing.proofs.lemmas.Packs.{bytes-pack, take-drop, short-take}
use Rattle.judy_string.proofs.Maps.{none-entries}
use Rattle.judy_string.proofs.Levels.{zero-array}
use Rattle.judy_string.proofs.Frames.{undone}
use Rattle.judy_string.proofs.Splits.{changes-join}

one_of : (r : ℕ) (a : Blocks) (s : List ℕ) (v : ℕ) → with_entry string_order (nested_content_at (suc r) a 0) s v ≡ (s, v) ∷ []
one_of r a s v = ap (λ l. with_entry string_order l s v) (zero-array r a).1

-- ---- the same first word

front : (s t : List ℕ) → IsString s → IsString t → pack s ≡ pack t → take 8 s ≡ take 8 t
front s t is it e = sym (bytes-pack 8 s is) ∙ ap word_bytes e ∙ bytes-pack 8 t it

few_taken : (s : List ℕ) → length s < 8 → length (take 8 s) < 8
few_taken s h = omega (arith, at_most 8 s)
  where
    at_most : (n : ℕ) (s : List ℕ) → length (take n s) ≤ length s
    at_most zero s = omega arith
    at_most (suc n) [] = omega arith
    at_most (suc n) (c ∷ s) = let h = at_most n s in omega arith

same_short : (s t : List ℕ) → IsString s → IsString t → pack s ≡ pack t → length s < 8 → s ≡ t
same_short s t is it e h =
    let f = front s t is it e in
    sym (short-take 8 s (few_taken s h)) ∙ f ∙ short-take 8 t (subst (λ l. length l < 8) f (few_taken s h))

pub goes-on : (s t : List ℕ) → IsString s → IsString t → pack s ≡ pack t → s ≢ t → 8 ≤ length s
goes-on s t is it e ne = elim (nat_lt (length s) 8) as (λ b. nat_lt (length s) 8 ≡ b → 8 ≤ length s) [
  | true ↦ λ i. absurd (ne (same_short s t is it e (lt (length s) i)))
  | false ↦ λ i. ge (length s) i
] refl
  where
    lt : (n : ℕ) → nat_lt n 8 ≡ true → n < 8
    lt n h = grind (arith, nat_tests)

    ge : (n : ℕ) → nat_lt n 8 ≡ false → 8 ≤ n
    ge n h = grind (arith, nat_tests)

pub rests-differ : (s t : List ℕ) → IsString s → IsString t → pack s ≡ pack t → s ≢ t → drop 8 s ≢ drop 8 t
rests-differ s t is it e ne k = ne (sym (take-drop 8 s) ∙ ap (λ l. l ++ drop 8 s) (front s t is it e) ∙ ap (λ l. take 8 t ++ l) k ∙ take-drop 8 t)

-- the second hangs beside the first
pub both-hang : (r : ℕ) (a b c : Blocks) (x y : ℕ) (t s : List ℕ) (v u : ℕ)
    → IsChanged (suc r) a b 0 x (with_entry string_order (nested_content_at (suc r) a 0) t v)
    → IsChanged (suc r) b c x y (with_entry string_order (nested_content_at (suc r) b x) s u)
    → IsChanged (suc r) a c 0 y (with_entry string_order ((t, v) ∷ []) s u)
both-hang r a b c x y t s v u f g =
    subst (IsChanged (suc r) a c 0 y) (ap (λ l. with_entry string_order l s u) (f.content ∙ one_of r a t v))
    (changes-join (suc r) a b c 0 x y (with_entry string_order (nested_content_at (suc r) a 0) t v) (with_entry string_order (nested_content_at
    (suc r) b x) s u) f g)

pub nothing-there : (r : ℕ) (a : Blocks) → IsNestedAt (suc r) a 0
nothing-there r a = (zero-array r a).0

pub no-word : (a : Blocks) (k : ℕ) → has_key word_order (entries true a 0) k ≡ false
no-word a k = ap (λ es. has_key word_order es k) (none-entries true a 0 refl)

-- what was built is taken down
pub built-undone : (m : ℕ) (a b c d : Blocks) (x : ℕ) (l : Strings) → IsChanged (suc m) a b 0 x l → c ≡ b → Frame c d (nested_numbers_at (suc m) c x) [] → d ≡ a
built-undone m a b c d x l ch e gone =
    undone a b d (nested_numbers_at (suc m) b x) (subst (λ o. Frame a b o (nested_numbers_at (suc m) b x)) (zero-array m a).2 ch.frame)
    (subst (λ z. Frame z d (nested_numbers_at (suc m) z x) []) e gone)
