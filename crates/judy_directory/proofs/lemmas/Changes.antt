-- One array of a shelf changes.
use Rattle.std.proofs.Common.{◌≡◌, ◌≢◌, ℕ, Bool, true, false, cond, List, ◌==◌, Option, Some, None, is_some, ap, sym, ◌∙◌, refl, subst}
use Rattle.std.specs.Prelude.{unwrap_or}
use Rattle.std.specs.Ordering.{eq_by_cmp}
use Rattle.std.specs.Cmp.{IsTotalOrder}
use Rattle.std.specs.Cmp.Lexicographic.{nat_list_cmp_total}
use Rattle.std.specs.FinMap.{get, insert, remove, get-insert, get-remove}
use Rattle.judy_arena.specs.Blocks.{Blocks, block, is_live}
use Rattle.judy_arena.specs.Frame.{holds, Frame, AreApart}
use Rattle.judy_arena.proofs.lemmas.BlockLaws.{same_test}
use Rattle.judy_model.specs.Contents.{string_order}
use Rattle.judy_model.proofs.lemmas.TestLemmas.{not_both}
use Rattle.judy_model.proofs.lemmas.EntryLemmas.{same_string, string_is}
use Rattle.judy_directory.specs.Places.{Stand, at, nothing, some_stand, with_place}
use Rattle.judy_directory.specs.Shelf.{Places, IsShelf, AreKept}

-- any two keys compare, and keys that compare equal are equal
pub total : IsTotalOrder string_order
total = nat_list_cmp_total

-- two choices by the same test are one choice
cond_cond : {A : Type 0} (b : Bool) (x y : Option A) (t : Bool) (z : Option A) → cond t (cond b x z) (cond b y z) ≡ cond b (cond t x y) z
cond_cond true x y t z = refl
cond_cond false x y true z = refl
cond_cond false x y false z = refl

-- a function of a choice is a choice of its results
ap_cond : {A B : Type 0} (f : A → B) (t : Bool) (x y : A) → f (cond t x y) ≡ cond t (f x) (f y)
ap_cond f true x y = refl
ap_cond f false x y = refl

-- the root of an optional place
pub root_back : (p : Stand) → (unwrap_or (some_stand p) nothing).root ≡ p.root
root_back p = elim (p.root == 0) as (λ t. (p.root == 0) ≡ t → (unwrap_or (cond t None (Some p)) nothing).root ≡ p.root) [
  | true ↦ λ e. sym (same_test p.root 0 e)
  | false ↦ λ e. refl
] refl

-- the place at a key after one place was written
pub get-with_place : (d : Places) (k : List ℕ) (p : Stand) (q : List ℕ) → get (with_place d k p) q ≡ cond (eq_by_cmp string_order q k) (some_stand p) (get d q)
get-with_place d k p q =
    ap_cond (λ m. get m q) (p.root == 0) (remove d k) (insert d k p)
    ∙ ap (λ x. cond (p.root == 0) x (get (insert d k p) q)) (get-remove total d k q)
    ∙ ap (cond (p.root == 0) (cond (eq_by_cmp string_order q k) None (get d q))) (get-insert total d k p q)
    ∙ cond_cond (eq_by_cmp string_order q k) None (Some p) (p.root == 0) (get d q)

-- the written key has the new place
pub at_key : (d : Places) (k : List ℕ) (p : Stand) (m : List ℕ) → eq_by_cmp string_order m k ≡ true → at (with_place d k p) m ≡ unwrap_or (some_stand p) nothing
at_key d k p m e = ap (λ g. unwrap_or g nothing) (get-with_place d k p m) ∙ ap (λ r. unwrap_or (cond r (some_stand p) (get d m)) nothing) e

-- another key keeps its place
pub at_other : (d : Places) (k : List ℕ) (p : Stand) (m : List ℕ) → eq_by_cmp string_order m k ≡ false → at (with_place d k p) m ≡ at d m
at_other d k p m e = ap (λ g. unwrap_or g nothing) (get-with_place d k p m) ∙ ap (λ r. unwrap_or (cond r (some_stand p) (get d m)) nothing) e

module _ (Sound : List ℕ → Blocks → Stand → Type 0) (numbers : List ℕ → Blocks → ℕ → List ℕ) (Same : List ℕ → Blocks → Blocks → ℕ
    → Type 0) (laws : AreKept Sound numbers Same) where
  -- the array at one key changes, within its frame
  module _ (a b : Blocks) (d : Places) (k : List ℕ) (p : Stand) (s : IsShelf Sound numbers Same a d) (t : Sound k b p)
      (f : Frame a b (numbers k a (at d k).root) (numbers k b p.root)) where
    -- every other array is unchanged, and has no block of the new array
    pub other : (m : List ℕ) → eq_by_cmp string_order m k ≡ false
        → Sound m b (at d m) × (numbers m b (at d m).root ≡ numbers m a (at d m).root) × AreApart (numbers m a (at d m).root)
        (numbers k b p.root) × Same m a b (at d m).root
    other m e = laws.stays m a b (numbers k a (at d k).root) (numbers k b p.root) (at d m) f (s.sound m) (λ q h.
        elim (holds q (numbers k a (at d k).root)) as (λ r. holds q (numbers k a (at d k).root) ≡ r → r ≡ false) [
          | true ↦ λ i. absurd (not_both (eq_by_cmp string_order m k) (string_is m k (s.apart m k q h i)) e)
          | false ↦ λ i. refl
        ] refl)

    -- the root at the key is the new one
    root_at_key : (m : List ℕ) → eq_by_cmp string_order m k ≡ true → (at (with_place d k p) m).root ≡ p.root
    root_at_key m e = ap (λ z. z.root) (at_key d k p m e) ∙ root_back p

    -- the written place is sound
    new_at_key : Sound k b (unwrap_or (some_stand p) nothing)
    new_at_key = elim (p.root == 0) as (λ r. (p.root == 0) ≡ r → Sound k b (unwrap_or (cond r None (Some p)) nothing)) [
      | true ↦ λ e. (laws.none k b).0
      | false ↦ λ e. t
    ] refl

    -- each place leads to a sound array
    new_sound : (m : List ℕ) → Sound m b (at (with_place d k p) m)
    new_sound m = elim (eq_by_cmp string_order m k) as (λ r. eq_by_cmp string_order m k ≡ r → Sound m b (at (with_place d k p) m)) [
      | true ↦ λ e. subst (Sound m b) (sym (at_key d k p m e)) (subst (λ z. Sound z b (unwrap_or (some_stand p) nothing)) (sym (same_string m k e)) new_at_key)
      | false ↦ λ e. subst (Sound m b) (sym (at_other d k p m e)) (other m e).0
    ] refl

    -- a place that is present after the change does not have the empty reference
    some_is : (r : Bool) (g : Option Stand) → is_some (cond r (some_stand p) g) ≡ true
        → (is_some g ≡ true → (unwrap_or g nothing).root ≢ 0) → (unwrap_or (cond r (some_stand p) g) nothing).root ≢ 0
    some_is true g h filled z =
        let e : p.root ≡ 0 = sym (root_back p) ∙ z in
        let n : is_some (some_stand p) ≡ false = ap (λ w. is_some (cond (w == 0) None (Some p))) e in
        not_both (is_some (some_stand p)) h n
    some_is false g h filled z = filled h z

    -- no place has the empty reference
    new_filled : (m : List ℕ) → is_some (get (with_place d k p) m) ≡ true → (at (with_place d k p) m).root ≢ 0
    new_filled m h z =
        some_is (eq_by_cmp string_order m k) (get d m) (ap is_some (sym (get-with_place d k p m)) ∙ h) (s.filled m)
        (ap (λ g. (unwrap_or g nothing).root) (sym (get-with_place d k p m)) ∙ z)

    -- the array that a block belongs to after the change
    belongs : (m : List ℕ) (q : ℕ) → holds q (numbers m b (at (with_place d k p) m).root) ≡ true → (r : Bool) → eq_by_cmp string_order m k ≡ r
        → cond r (holds q (numbers k b p.root)) (holds q (numbers m a (at d m).root)) ≡ true
    belongs m q h true e = ap (λ z. holds q (numbers z b p.root)) (sym (same_string m k e)) ∙ ap (λ w. holds q (numbers m b w)) (sym (root_at_key m e)) ∙ h
    belongs m q h false e = ap (holds q) (sym (other m e).1) ∙ ap (λ z. holds q (numbers m b z.root)) (sym (at_other d k p m e)) ∙ h

    -- two keys that have a block in common are equal
    two : (m n : List ℕ) (q : ℕ) (x y : Bool) → eq_by_cmp string_order m k ≡ x → eq_by_cmp string_order n k ≡ y
        → cond x (holds q (numbers k b p.root)) (holds q (numbers m a (at d m).root)) ≡ true
        → cond y (holds q (numbers k b p.root)) (holds q (numbers n a (at d n).root)) ≡ true → m ≡ n
    two m n q true true e i g h = same_string m k e ∙ sym (same_string n k i)
    two m n q true false e i g h = absurd (not_both (holds q (numbers k b p.root)) g ((other n i).2 q h))
    two m n q false true e i g h = absurd (not_both (holds q (numbers k b p.root)) h ((other m e).2 q g))
    two m n q false false e i g h = s.apart m n q g h

    -- two places that share a block are equal
    new_apart : (m n : List ℕ) (q : ℕ) → holds q (numbers m b (at (with_place d k p) m).root) ≡ true
        → holds q (numbers n b (at (with_place d k p) n).root) ≡ true → m ≡ n
    new_apart m n q g h =
        two m n q (eq_by_cmp string_order m k) (eq_by_cmp string_order n k) refl refl
        (belongs m q g (eq_by_cmp string_order m k) refl) (belongs n q h (eq_by_cmp string_order n k) refl)

    -- every live block belongs to a place
    new_whole : (q : ℕ) → is_live b q ≡ true → (m : List ℕ) × (holds q (numbers m b (at (with_place d k p) m).root) ≡ true)
    new_whole q live = elim (holds q (numbers k b p.root)) as (λ r. holds q (numbers k b p.root) ≡ r → (m : List ℕ)
        × (holds q (numbers m b (at (with_place d k p) m).root) ≡ true)) [
          | true ↦ λ e. (k, ap (λ w. holds q (numbers k b w)) (root_at_key k (string_is k k refl)) ∙ e)
          | false ↦ λ e. old_one e (holds q (numbers k a (at d k).root)) refl
        ] refl
      where
        old_one : holds q (numbers k b p.root) ≡ false → (r : Bool) → holds q (numbers k a (at d k).root) ≡ r → (m : List ℕ)
            × (holds q (numbers m b (at (with_place d k p) m).root) ≡ true)
        old_one e true i = absurd (not_both (is_live b q) live (ap is_some (f.outside q e ∙ ap (λ r. cond r None (block a q)) i)))
        old_one e false i =
            let was : is_live a q ≡ true = ap is_some (sym (f.outside q e ∙ ap (λ r. cond r None (block a q)) i)) ∙ live in
            let w = s.whole q was in
            let apart : eq_by_cmp string_order w.0 k ≡ false = elim (eq_by_cmp string_order w.0 k) as (λ r. eq_by_cmp string_order w.0 k ≡ r → r ≡ false) [
              | true ↦ λ j. absurd (not_both (holds q (numbers k a (at d k).root)) (ap (λ z. holds q (numbers z a (at d z).root)) (sym
                  (same_string w.0 k j)) ∙ w.1) i)
              | false ↦ λ j. refl
            ] refl in
            (w.0, ap (λ z. holds q (numbers w.0 b z.root)) (at_other d k p w.0 apart) ∙ ap (holds q) (other w.0 apart).1 ∙ w.1)

    -- the places and the blocks after the change are a shelf
    pub shelf-changed : IsShelf Sound numbers Same b (with_place d k p)
    shelf-changed = record { sound = new_sound; filled = new_filled; apart = new_apart; whole = new_whole }
