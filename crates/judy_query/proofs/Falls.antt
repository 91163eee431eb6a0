-- Gaps downwards: the words from d to x are keys, and the one before d, if there is one, is none.
use Rattle.std.proofs.Common.{◌≡◌, ◌≢◌, ℕ, ◌+◌, ◌-◌, ◌<◌, ◌≤◌, Bool, true, false, cond, ◌&&◌, [], ◌∷◌, Option, Some, None}
use Rattle.std.proofs.Common.{is_some, ap, sym, ◌∙◌, refl, subst, arith}
use Rattle.std.specs.Prelude.{nat_lt, nat_le}
use Rattle.std.specs.Ordering.{eq_by_cmp}
use Rattle.std.specs.FinMap.{find, nat_cmp-IsAntisymmetric}
use Rattle.std.specs.FinMap.Entries.{find-where_key}
use Rattle.std.proofs.lemmas.Bool.Decides.{nat_tests}
use Rattle.std.proofs.lemmas.Bool.{false≢true as not_true}
use Rattle.judy_model.specs.Contents.{Entries, IsRising, word_order, has_key, within}
use Rattle.judy_model.specs.Gaps.{last_empty, IsLastEmpty}
use Rattle.judy_model.proofs.lemmas.GapLemmas.{AtLeast, rising_of, rising_kept, le_of}
use Rattle.judy_model.proofs.lemmas.GapsBelow.{last_empty-IsLastEmpty}
use Rattle.judy_model.proofs.lemmas.WordLemmas.{le-test}
use Rattle.judy_tree.specs.Each.{Each}
use Rattle.judy_query.proofs.Gaps.{full}
use Rattle.judy_tree.proofs.lemmas.Joins.{other_word}

pub record Fall (l : Entries ℕ) (x d : ℕ) : Type 0 where
  pub upto : d ≤ x + 1
  pub run : (y : ℕ) → d ≤ y → y ≤ x → has_key word_order l y ≡ true
  pub absent : (e : ℕ) → d ≡ e + 1 → has_key word_order l e ≡ false

-- none stands for the words all down to 0
abbrev pub down_of : Option ℕ → ℕ
down_of None = 0
down_of (Some e) = e + 1

-- there is one
fall-one : (l : Entries ℕ) (x d e : ℕ) → Fall l x d → Fall l x e → d ≡ e
fall-one l x d e g h = by (nat_lt d e) (nat_lt e d) refl refl
  where
    less : (a b : ℕ) → nat_lt a b ≡ true → a < b
    less a b h = grind (arith, nat_tests)

    more : (a b : ℕ) → nat_lt a b ≡ false → b ≤ a
    more a b h = grind (arith, nat_tests)

    clash : (a b : ℕ) → a < b → Fall l x a → Fall l x b → ⊥
    clash a b i f s = let u = s.upto in not_true (sym (s.absent (b - 1) (omega arith)) ∙ f.run (b - 1) (omega arith) (omega arith))

    by : (s t : Bool) → nat_lt d e ≡ s → nat_lt e d ≡ t → d ≡ e
    by true t i j = absurd (clash d e (less d e i) g h)
    by false true i j = absurd (clash e d (less e d j) h g)
    by false false i j = let m = more d e i in let n = more e d j in omega arith

-- the entries from a to b
module _ (a b : ℕ) where
  within-key : (l : Entries ℕ) (y : ℕ) → a ≤ y → y ≤ b → has_key word_order (within l a b) y ≡ has_key word_order l y
  within-key l y h k =
      ap is_some (find-where_key word_order (λ k. nat_le a k && nat_le k b) y
      (λ z e. ap (λ k. nat_le a k && nat_le k b) (sym (nat_cmp-IsAntisymmetric y z e))) l
      ∙ ap (λ t. cond (t && nat_le y b) (find word_order y l) None) (le-test a y h) ∙ ap (λ t. cond t (find word_order y l) None) (le-test y b k))

  under : (l : Entries ℕ) → Each (λ e. e.0 < b + 1) (within l a b)
  under [] = tt
  under (e ∷ l) = by (nat_le a e.0) (nat_le e.0 b) refl (under l)
    where
      by : (s t : Bool) → nat_le e.0 b ≡ t → Each (λ e. e.0 < b + 1) (within l a b) → Each (λ e. e.0 < b + 1) (cond (s && t) (e ∷ within l a b) (within l a b))
      by true true j r = (let i = le_of e.0 b j in omega arith, r)
      by true false j r = r
      by false t j r = r

  over : (l : Entries ℕ) → has_key word_order l a ≡ false → AtLeast (a + 1) (within l a b)
  over [] h = tt
  over (e ∷ l) h = by (nat_le a e.0) (nat_le e.0 b) (eq_by_cmp word_order a e.0) refl refl h (λ i. over l i)
    where
      strict : (a m : ℕ) → a ≤ m → a ≢ m → a + 1 ≤ m
      strict a m i n = grind arith

      by : (s t u : Bool) → nat_le a e.0 ≡ s → eq_by_cmp word_order a e.0 ≡ u → is_some (cond u (Some e.1) (find word_order a l))
          ≡ false → (has_key word_order l a ≡ false → AtLeast (a + 1) (within l a b)) → AtLeast (a + 1)
          (cond (s && t) (e ∷ within l a b) (within l a b))
      by s t true i j k r = absurd (not_true (sym k))
      by true true false i j k r = (strict a e.0 (le_of a e.0 i) (other_word a e.0 j), r k)
      by true false false i j k r = r k
      by false t false i j k r = r k

at-zero : (l : Entries ℕ) → AtLeast 0 l
at-zero [] = tt
at-zero (e ∷ l) = (omega arith, at-zero l)

pub answer-fall : (l : Entries ℕ) (x : ℕ) (o : Option ℕ) → IsRising word_order l → o ≡ last_empty l x → Fall l x (down_of o)
answer-fall l x o w h = by o (subst (IsLastEmpty l x) (sym h) (last_empty-IsLastEmpty l x w))
  where
    by : (o : Option ℕ) → IsLastEmpty l x o → Fall l x (down_of o)
    by (Some e) i = record {
      upto = let u = i.0 in omega arith;
      run = λ y j k. sym (within-key e x l y (omega arith) k) ∙ full (within l e x) (e + 1) (x + 1) y
          (rising_kept (λ k. nat_le e k.0 && nat_le k.0 x) l (rising_of l w)) (over e x l i.1) (under e x l)
          (let c = i.2 in let u = i.0 in omega arith) j (omega arith);
      absent = λ d j. subst (λ z. has_key word_order l z ≡ false) (let s : e ≡ d = omega arith in s) i.1;
    }
    by None i = record {
      upto = omega arith;
      run = λ y j k. sym (within-key 0 x l y j k) ∙ full (within l 0 x) 0 (x + 1) y
          (rising_kept (λ k. nat_le 0 k.0 && nat_le k.0 x) l (rising_of l w)) (at-zero (within l 0 x)) (under 0 x l)
          (let c = i in omega arith) j (omega arith);
      absent = λ d j. absurd (omega arith);
    }

pub fall-answer : (l : Entries ℕ) (x : ℕ) (o : Option ℕ) → IsRising word_order l → Fall l x (down_of o) → o ≡ last_empty l x
fall-answer l x o w h = same o (last_empty l x) (fall-one l x (down_of o) (down_of (last_empty l x)) h (answer-fall l x (last_empty l x) w refl))
  where
    same : (o q : Option ℕ) → down_of o ≡ down_of q → o ≡ q
    same None None e = refl
    same None (Some d) e = absurd (omega arith)
    same (Some d) None e = absurd (omega arith)
    same (Some d) (Some c) e = ap Some (let s : d ≡ c = omega arith in s)
