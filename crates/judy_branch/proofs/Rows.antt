-- The children of bytes that follow one another, in one stretch of a branch's block.
use Rattle.std.proofs.Common.{◌≡◌, ◌≢◌, ℕ, zero, suc, ◌+◌, ◌-◌, ◌<◌, ◌≤◌, true, false, cond, not, ◌==◌, List, [], take, drop}
use Rattle.std.proofs.Common.{length, get_or, Some, None, ap, sym, ◌∙◌, refl, subst, arith, inl, inr, length-drop}
use Rattle.std.specs.List.{list_all}
use Rattle.std.proofs.lemmas.Bool.{cases_lt}
use Rattle.std.proofs.lemmas.List.{get_or-take, get_or-drop, length-take-le}
use Rattle.judy_refs.specs.References.{is_reference}
use Rattle.judy_bitmap.specs.ByteSets.{members, is_member, below}
use Rattle.judy_model.specs.Contents.{word_order, value_of}
use Rattle.judy_model.proofs.lemmas.TestLemmas.{and_left}
use Rattle.judy_branch.specs.declared.shape.Shape.{Shape}
use Rattle.judy_branch.specs.declared.shape.Shape.TheVariants.{Bitmap, Full}
use Rattle.judy_branch.specs.Children.{child_bytes, refs_in, bitmap_in, children_in, start, is_child_entry, IsLaid}
use Rattle.judy_branch.specs.Found.{IsThere, IsMissing}
use Rattle.judy_branch.specs.Rows.{IsChildRow, child_of}
use Rattle.judy_branch.proofs.Branches.{found-reference}
use Rattle.judy_branch.proofs.Finding.{there-member, missing-member, there-missing}
use Rattle.judy_branch.proofs.Nearest.{rise}
use Rattle.judy_branch.proofs.Shapes.{IsPaired, bitmap-paired, value-there, value-missing, full-value}
use Rattle.judy_branch.proofs.Spans.{byte-at}

-- the n bytes from the one at place p on follow one another
pub record Follows (ks : List ℕ) (k p n : ℕ) : Type 0 where
  pub below : (j : ℕ) → j < p → get_or ks j 0 < k
  pub within : p + n ≤ length ks
  pub each : (i : ℕ) → i < n → get_or ks (p + i) 0 ≡ k + i

-- one byte follows itself
pub follows-one : (ks : List ℕ) (k p n : ℕ) → n ≡ 1 → IsThere ks k p → Follows ks k p n
follows-one ks k p n one t =
    let i = t.inside in
    record {
      below = t.below;
      within = omega arith;
      each = λ i h. let h0 = t.here in let e : p + i ≡ p = omega arith in let f = ap (λ x. get_or ks x 0) e in omega arith;
    }

-- and one more byte
pub follows-more : (ks : List ℕ) (k p n m : ℕ) → m ≡ n + 1 → Follows ks k p n → p + n < length ks → get_or ks (p + n) 0 ≡ k + n → Follows ks k p m
follows-more ks k p n m more f l e = record {
  below = f.below;
  within = omega arith;
  each = λ i h. elim (cases_lt i n) [ inl lt ↦ f.each i lt | inr ge ↦ let q : p + i ≡ p + n = omega arith in let s = ap (λ x. get_or ks x 0) q in omega arith ];
}

under : (ks : List ℕ) (k p n : ℕ) → Follows ks k p n → (i : ℕ) → i ≤ n → (j : ℕ) → j < p + i → get_or ks j 0 < k + i
under ks k p n f i h j l = elim (cases_lt j p) [
  | inl lt ↦ let b = f.below j lt in omega arith
  | inr ge ↦
      let e : p + (j - p) ≡ j = omega arith in
      let s = f.each (j - p) (omega arith) in
      let t = ap (λ x. get_or ks x 0) e in
      omega arith
]

module _ (shape : Shape) (ws : List ℕ) (laid : IsLaid shape ws) (paired : IsPaired shape ws) (k p : ℕ) where
  -- no byte, no child
  pub row-none : k < 256 → IsMissing (child_bytes shape ws) k p → IsChildRow (children_in shape ws) k []
  row-none small m =
      let z : k + 0 ≡ k = omega arith in
      record {
        within = omega arith;
        each = λ i h. absurd (omega arith);
        after = λ _. ap (λ x. value_of word_order (children_in shape ws) x) z ∙ value-missing shape ws laid paired k p m;
      }

  -- the references of bytes that follow one another, up to one that does not
  pub row-some : (n : ℕ) → 0 < n → Follows (child_bytes shape ws) k p n
      → (p + n < length (child_bytes shape ws) → get_or (child_bytes shape ws) (p + n) 0 ≢ k + n) → start shape + (p + n) ≤ length ws
      → IsChildRow (children_in shape ws) k (take n (drop (start shape + p) ws))
  row-some n some f stop room =
      let ks : List ℕ = child_bytes shape ws in
      let m = paired.many in
      let s = paired.same in
      let w = f.within in
      let last : get_or ks (p + (n - 1)) 0 ≡ k + (n - 1) = f.each (n - 1) (omega arith) in
      let byte : get_or ks (p + (n - 1)) 0 < 256 = byte-at ks (refs_in shape ws) (p + (n - 1)) (omega arith) (omega arith)
      (subst (λ es. list_all is_child_entry es ≡ true) paired.are laid.sound) in
      let d = length-drop (start shape + p) ws in
      let len : length (take n (drop (start shape + p) ws)) ≡ n = length-take-le n (drop (start shape + p) ws) (omega arith) in
      record {
        within = omega arith;
        each = λ i h. one i (omega arith);
        after = λ h. ap (λ x. value_of word_order (children_in shape ws) (k + x)) len ∙ value-missing shape ws laid paired (k + n) (p + n) (record {
          within = w;
          below = under ks k p n f n (omega arith);
          above = λ l. let ne = stop l in
              let r = rise shape ws laid paired 0 0 (p + (n - 1)) (p + n) (omega arith) l in above (get_or ks (p + (n - 1)) 0)
              (get_or ks (p + n) 0) last r ne;
        });
      }
    where
      above : (a b : ℕ) → a ≡ k + (n - 1) → a < b → b ≢ k + n → k + n < b
      above a b e l ne = omega arith

      one : (i : ℕ) → i < n → value_of word_order (children_in shape ws) (k + i) ≡ child_of (get_or (take n (drop (start shape + p) ws)) i 0)
      one i h =
          let wi = f.within in
          let at : start shape + p + i ≡ start shape + (p + i) = omega arith in
          let read : get_or (take n (drop (start shape + p) ws)) i 0 ≡ get_or ws (start shape + (p + i)) 0 = get_or-take n
          (drop (start shape + p) ws) i 0 h ∙ get_or-drop (start shape + p) ws i 0 ∙ ap (λ x. get_or ws x 0) at in
          let v : value_of word_order (children_in shape ws) (k + i) ≡ Some (get_or ws (start shape + (p + i)) 0) = value-there
          shape ws laid paired (k + i) (p + i)
          (record { inside = omega arith; below = under (child_bytes shape ws) k p n f i (omega arith); here = f.each i h }) in
          let w : ℕ = get_or ws (start shape + (p + i)) 0 in
          let some : not (w == 0) ≡ true = and_left (not (w == 0)) (is_reference w) (found-reference shape ws (k + i) w laid v) in
          v ∙ sym (ap child_of read ∙ chosen w (w == 0) some)
        where
          chosen : (w : ℕ) (t : _) → not t ≡ true → cond t None (Some w) ≡ Some w
          chosen w true h = cc
          chosen w false h = refl

-- in a bitmap branch, members that follow one another
pub follows-members : (ws : List ℕ) (laid : IsLaid Bitmap ws) (k p e : ℕ) → IsThere (child_bytes Bitmap ws) k p → e ≤ 256
    → ((b : ℕ) → k ≤ b → b < e → is_member (members (bitmap_in ws)) b ≡ true)
    → (n : ℕ) → k + (n + 1) ≤ e → Follows (child_bytes Bitmap ws) k p (n + 1)
unfolding child_bytes
follows-members ws laid k p e t small all zero h = follows-one (child_bytes Bitmap ws) k p 1 refl t
follows-members ws laid k p e t small all (suc n) h =
    let ks : List ℕ = child_bytes Bitmap ws in
    let f : Follows ks k p (n + 1) = follows-members ws laid k p e t small all n (omega arith) in
    let r : ℕ = length (below (members (bitmap_in ws)) (k + (n + 1))) in
    let u : IsThere ks (k + (n + 1)) r = there-member (bitmap_in ws) (k + (n + 1)) (omega arith) (all (k + (n + 1)) (omega arith) (omega arith)) in
    let here = u.here in
    let inside = u.inside in
    let same : r ≡ p + (n + 1) = elim (cases_lt r (p + (n + 1))) [
      | inl lt ↦ absurd (let b = under ks k p (n + 1) f (n + 1) (omega arith) r lt in omega arith)
      | inr ge ↦ elim (cases_lt (p + (n + 1)) r) [
        | inl lt ↦ absurd (let b = u.below (p + (n + 1)) lt in
            let c = rise Bitmap ws laid (bitmap-paired ws laid) 0 0 (p + n) (p + (n + 1)) (omega arith) (omega arith) in
            let d = f.each n (omega arith) in omega arith)
        | inr le ↦ omega arith
      ]
    ] in
    follows-more ks k p (n + 1) (suc n + 1) (omega arith) f (omega arith) (ap (λ x. get_or ks x 0) (sym same) ∙ here)

-- the row of a bitmap branch, up to the first byte that is no member
module _ (ws : List ℕ) (laid : IsLaid Bitmap ws) (k p e : ℕ) (t : IsThere (members (bitmap_in ws)) k p) (from : k ≤ e)
    (within : e ≤ 256) (all : (b : ℕ) → k ≤ b → b < e → is_member (members (bitmap_in ws)) b ≡ true)
    (stop : e < 256 → is_member (members (bitmap_in ws)) e ≡ false) where
  -- the end is no byte of the branch
  not-end : (r : ℕ) → IsThere (members (bitmap_in ws)) e r → ⊥
  unfolding child_bytes
  not-end r u =
      let i = u.inside in
      let h = u.here in
      let m = (bitmap-paired ws laid).many in
      let s = (bitmap-paired ws laid).same in
      let small : get_or (members (bitmap_in ws)) r 0 < 256 = byte-at (child_bytes Bitmap ws) (refs_in Bitmap ws) r (omega arith)
      (omega arith) (subst (λ es. list_all is_child_entry es ≡ true) (bitmap-paired ws laid).are laid.sound) in
      let low : e < 256 = omega arith in
      there-missing (members (bitmap_in ws)) e r (length (below (members (bitmap_in ws)) e)) u (missing-member (bitmap_in ws) e low (stop low))

  past : k < e
  past = elim (cases_lt k e) [
    | inl lt ↦ lt
    | inr ge ↦ let same : k ≡ e = omega arith in absurd
        (not-end p (subst (λ x. IsThere (members (bitmap_in ws)) x p) same t))
  ]

  follows : Follows (child_bytes Bitmap ws) k p (e - k)
  unfolding child_bytes
  follows =
      let lt : k < e = past in
      let n : (e - k - 1) + 1 ≡ e - k = omega arith in
      subst (Follows (child_bytes Bitmap ws) k p) n (follows-members ws laid k p e t within all (e - k - 1) (omega arith))

  pub bitmap-room : 7 + (p + (e - k)) ≤ length ws
  bitmap-room =
      let w = follows.within in
      let m = (bitmap-paired ws laid).many in
      let r = laid.room in
      omega arith

  pub bitmap-row : IsChildRow (children_in Bitmap ws) k (take (e - k) (drop (7 + p) ws))
  unfolding child_bytes
  bitmap-row =
      let lt : k < e = past in
      let f = follows in
      let n : k + (e - k) ≡ e = omega arith in
      row-some Bitmap ws laid (bitmap-paired ws laid) k p (e - k) (omega arith) f
      (λ l h. not-end (p + (e - k)) (record {
        inside = l;
        below = λ j i. let u = under (child_bytes Bitmap ws) k p (e - k) f (e - k) (omega arith) j i in omega arith;
        here = h ∙ n;
      })) bitmap-room

-- in a full branch all words from the byte's on
pub row-full : (ws : List ℕ) (k n : ℕ) → k + n ≡ 256 → 259 ≤ length ws → IsChildRow (children_in Full ws) k (take n (drop (3 + k) ws))
row-full ws k n all room =
    let d = length-drop (3 + k) ws in
    let len : length (take n (drop (3 + k) ws)) ≡ n = length-take-le n (drop (3 + k) ws) (omega arith) in
    record {
      within = omega arith;
      each = λ i h.
          let at : 3 + (k + i) ≡ 3 + k + i = omega arith in
          full-value ws (k + i) (omega arith)
          ∙ sym (ap child_of (get_or-take n (drop (3 + k) ws) i 0 (omega arith) ∙ get_or-drop (3 + k) ws i 0
          ∙ ap (λ x. get_or ws x 0) (sym at)));
      after = λ h. absurd (omega arith);
    }
