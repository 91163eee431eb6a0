-- The absent word that a search finds, told word by word, is the one of the definitions.
use Rattle.std.proofs.Common.{◌≡◌, ℕ, zero, suc, ◌+◌, ◌-◌, ◌<◌, ◌≤◌, ◌^◌, true, false, Option, Some, None, inl, inr, ap, sym, ◌∙◌, refl, arith}
use Rattle.std.proofs.lemmas.Bool.{cases_lt}
use Rattle.judy_model.specs.Contents.{Entries, IsWordArray, word_order, has_key, count, max_word}
use Rattle.judy_model.specs.Gaps.{IsFirstEmpty, IsLastEmpty, first_empty, last_empty}
use Rattle.judy_model.proofs.lemmas.GapLemmas.{rising_of}
use Rattle.judy_model.proofs.lemmas.GapLaws.{gaps_are_found, fewer, absent_top, absent_bottom}

-- the answer is the least absent word from x on; there is none where all words from x on are
-- present
abbrev pub IsFirstGap : Entries ℕ → ℕ → Option ℕ → Type 0
IsFirstGap l x None = (k : ℕ) → x ≤ k → k < 2 ^ 64 → has_key word_order l k ≡ true
IsFirstGap l x (Some e) = (x ≤ e) × (e < 2 ^ 64) × (has_key word_order l e ≡ false) × ((k : ℕ) → x ≤ k → k < e → has_key word_order l k ≡ true)

-- the answer is the greatest absent word up to x; there is none where all words up to x are present
abbrev pub IsLastGap : Entries ℕ → ℕ → Option ℕ → Type 0
IsLastGap l x None = (k : ℕ) → k ≤ x → has_key word_order l k ≡ true
IsLastGap l x (Some e) = (e ≤ x) × (has_key word_order l e ≡ false) × ((k : ℕ) → e < k → k ≤ x → has_key word_order l k ≡ true)

both : (l : Entries ℕ) (k : ℕ) → has_key word_order l k ≡ true → has_key word_order l k ≡ false → ⊥
both l k h g = let z : true ≡ false = sym h ∙ g in cc

module _ (l : Entries ℕ) (words : IsWordArray l) (x : ℕ) (fits : x < 2 ^ 64) where
  later : (e r : ℕ) → x ≤ r → r < e → has_key word_order l r ≡ false → has_key word_order l e ≡ false → count l x e ≡ e - x → ⊥
  later zero r a b c d n = absurd (omega arith)
  later (suc e) r a b c d n =
      let g : e + 1 ≡ suc e = omega arith in
      let top = absent_top l x e (ap (has_key word_order l) g ∙ d) in
      let same : count l x (suc e) ≡ count l x e = ap (count l x) (sym g) ∙ top in
      let few = fewer l x e r (rising_of l words.0) a (omega arith) c in
      omega (arith, same, few)

  pub first-gap : (o : Option ℕ) → IsFirstGap l x o → o ≡ first_empty l x
  first-gap o gap = by o (first_empty l x) gap (gaps_are_found l x words (omega arith)).0
    where
      by : (o q : Option ℕ) → IsFirstGap l x o → IsFirstEmpty l x q → o ≡ q
      by None None g h = refl
      by None (Some e) g h = absurd (both l e (g e h.0 (omega (arith, h.1))) h.2)
      by (Some r) None g h = absurd (let few = fewer l x max_word r (rising_of l words.0) g.0 (omega (arith, g.1)) g.2 in omega (arith, few, h))
      by (Some r) (Some e) g h = elim (cases_lt e r) [
        | inl lt ↦ absurd (both l e (g.3 e h.0 lt) h.2)
        | inr ge ↦ elim (cases_lt r e) [
          | inl lt ↦ absurd (later e r g.0 lt g.2 h.2 h.3)
          | inr le ↦ let same : r ≡ e = omega arith in ap (λ m. Some m) same
        ]
      ]

  earlier : (e r : ℕ) → e < r → r ≤ x → has_key word_order l r ≡ false → has_key word_order l e ≡ false → count l e x ≡ x - e → ⊥
  earlier e r a b c d n =
      let bottom = absent_bottom l e x d in
      let few = fewer l (e + 1) x r (rising_of l words.0) (omega arith) b c in
      omega (arith, bottom, few)

  pub last-gap : (o : Option ℕ) → IsLastGap l x o → o ≡ last_empty l x
  last-gap o gap = by o (last_empty l x) gap (gaps_are_found l x words (omega arith)).1
    where
      by : (o q : Option ℕ) → IsLastGap l x o → IsLastEmpty l x q → o ≡ q
      by None None g h = refl
      by None (Some e) g h = absurd (both l e (g e h.0) h.1)
      by (Some r) None g h = absurd (let few = fewer l 0 x r (rising_of l words.0) (omega arith) g.0 g.1 in omega (arith, few, h))
      by (Some r) (Some e) g h = elim (cases_lt r e) [
        | inl lt ↦ absurd (both l e (g.2 e lt h.0) h.1)
        | inr ge ↦ elim (cases_lt e r) [
          | inl lt ↦ absurd (earlier e r lt g.0 g.1 h.1 h.2)
          | inr le ↦ let same : r ≡ e = omega arith in ap (λ m. Some m) same
        ]
      ]
