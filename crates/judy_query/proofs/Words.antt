-- The words of a branch's children, read one by one.
use Rattle.std.proofs.Common.{◌≡◌, ℕ, zero, suc, ◌+◌, ◌<◌, ◌≤◌, Bool, true, false, cond, not, ◌==◌, List, [], ◌∷◌, ◌++◌, drop, take}
use Rattle.std.proofs.Common.{length, get_or, IsTrue, ap, sym, ◌∙◌, refl, subst, arith, drop-cons, eq-eqb, ne_eqb, append-nil, append_assoc}
use Rattle.judy_arena.specs.Blocks.{Blocks}
use Rattle.judy_refs.specs.References.{is_reference}
use Rattle.judy_model.specs.Contents.{Entries}
use Rattle.std.specs.Prelude.{filter}
use Rattle.judy_branch.specs.Branch.{branch_view}
use Rattle.judy_branch.specs.Slots.{some_words, child_words}
use Rattle.judy_tree.specs.Each.{Each}
use Rattle.judy_tree.specs.Nodes.{joined, head_at, is_branch, IsKid, depth}
use Rattle.judy_tree.specs.Root.{IsRoot, entries}
use Rattle.judy_tree.proofs.lemmas.BranchLaws.{IsPlace}
use Rattle.judy_tree.proofs.lemmas.Joins.{each-both}
use Rattle.judy_tree.proofs.lemmas.Trees.{root-top}

-- the join over words
abbrev pub over : (ℕ → Entries ℕ) → List ℕ → Entries ℕ
over f [] = []
over f (w ∷ ws) = f w ++ over f ws

joined-over : (f : ℕ → Entries ℕ) (cs : Entries ℕ) → joined f cs ≡ over f (child_words cs)
joined-over f [] = refl
joined-over f (c ∷ cs) = ap (λ l. f c.1 ++ l) (joined-over f cs)

more : (i : ℕ) → suc i ≡ i + 1
more i = omega arith

-- a word that is 0 is passed over, and another one is the next
pub skip : (ws : List ℕ) (i : ℕ) → i < length ws → get_or ws i 0 ≡ 0 → some_words (drop i ws) ≡ some_words (drop (i + 1) ws)
skip ws i h z =
    ap (λ l. some_words l) (drop-cons ws i 0 h)
    ∙ ap (λ t. cond (not t) (get_or ws i 0 ∷ some_words (drop (suc i) ws)) (some_words (drop (suc i) ws))) (eq-eqb (get_or ws i 0) 0 z)
    ∙ ap (λ k. some_words (drop k ws)) (more i)

pub step : (ws : List ℕ) (i : ℕ) → i < length ws → (get_or ws i 0 ≡ 0 → ⊥) → some_words (drop i ws) ≡ get_or ws i 0 ∷ some_words (drop (i + 1) ws)
step ws i h n =
    ap (λ l. some_words l) (drop-cons ws i 0 h)
    ∙ ap (λ t. cond (not t) (get_or ws i 0 ∷ some_words (drop (suc i) ws)) (some_words (drop (suc i) ws))) (ne_eqb (get_or ws i 0) 0 n)
    ∙ ap (λ k. get_or ws i 0 ∷ some_words (drop k ws)) (more i)

each-words : (P : ℕ → Type 0) (cs : Entries ℕ) → Each (λ c. P c.1) cs → Each P (child_words cs)
each-words P [] h = tt
each-words P (c ∷ cs) h = (h.0, each-words P cs h.1)

each-at : (P : ℕ → Type 0) (ws : List ℕ) (i : ℕ) → Each P (some_words ws) → i < length ws → (get_or ws i 0 ≡ 0 → ⊥) → P (get_or ws i 0)
each-at P [] i h l n = absurd (omega arith)
each-at P (w ∷ ws) zero h l n = (subst (λ t. Each P (cond (not t) (w ∷ some_words ws) (some_words ws))) (ne_eqb w 0 n) h).0
each-at P (w ∷ ws) (suc i) h l n =
    each-at P ws i (elim (w == 0) as (λ t. Each P (cond (not t) (w ∷ some_words ws) (some_words ws)) → Each P (some_words ws))
    [ true ↦ λ g. g | false ↦ λ g. g.1 ] h) (omega arith) n

-- what is known of a child's word
pub record IsBelow (v : Bool) (b : Blocks) (w k : ℕ) : Type 0 where
  pub sound : IsRoot v b k
  pub deeper : (branch_view b w).level < depth b k
  pub reference : IsTrue (is_reference k)

each-filter : (P : ℕ × ℕ → Type 0) (p : ℕ × ℕ → Bool) (cs : Entries ℕ) → Each P cs → Each P (filter p cs)
each-filter P p [] h = tt
each-filter P p (c ∷ cs) h =
    let r = each-filter P p cs h.1 in
    elim (p c) as (λ t. Each P (cond t (c ∷ filter p cs) (filter p cs))) [ true ↦ (h.0, r) | false ↦ r ]

module _ (v : Bool) (b : Blocks) (w : ℕ) (is : is_branch w ≡ true) (root : IsRoot v b w) where
  kids-below : Each (λ c. IsBelow v b w c.1) (branch_view b w).children
  kids-below = each-both (λ c. IsKid (branch_view b w).level (head_at (branch_view b w).level (branch_view b w).prefix + c.0)
      (IsRoot v b) (entries v b) (depth b) c.1) IsPlace (λ c. IsBelow v b w c.1) (branch_view b w).children
      (λ c i p. record { sound = i.sound; deeper = i.deeper; reference = p.reference }) (root-top v b w is root).over.kids (root-top v b w is root).view.places

  module _ (ws : List ℕ) (e : some_words ws ≡ child_words (branch_view b w).children) where
    pub kid-at : (i : ℕ) → i < length ws → (get_or ws i 0 ≡ 0 → ⊥) → IsBelow v b w (get_or ws i 0)
    kid-at i h n = each-at (IsBelow v b w) ws i
        (subst (λ l. Each (IsBelow v b w) l) (sym e) (each-words (IsBelow v b w) (branch_view b w).children kids-below)) h n

    -- the content, word by word
    pub content-over : entries v b w ≡ over (entries v b) (some_words ws)
    content-over = (root-top v b w is root).content ∙ joined-over (entries v b) (branch_view b w).children ∙ ap (over (entries v b)) (sym e)

  -- the same of some of the children
  module _ (p : ℕ × ℕ → Bool) (ws : List ℕ) (e : some_words ws ≡ child_words (filter p (branch_view b w).children)) where
    pub kid-in : (i : ℕ) → i < length ws → (get_or ws i 0 ≡ 0 → ⊥) → IsBelow v b w (get_or ws i 0)
    kid-in i h n =
        each-at (IsBelow v b w) ws i
        (subst (λ l. Each (IsBelow v b w) l) (sym e) (each-words (IsBelow v b w) (filter p (branch_view b w).children)
        (each-filter (λ c. IsBelow v b w c.1) p (branch_view b w).children kids-below))) h n

    pub joined-some : joined (entries v b) (filter p (branch_view b w).children) ≡ over (entries v b) (some_words ws)
    joined-some = joined-over (entries v b) (filter p (branch_view b w).children) ∙ ap (over (entries v b)) (sym e)

-- past the end there is none
pub gone : (ws : List ℕ) (i : ℕ) → length ws ≤ i → drop i ws ≡ []
gone [] zero h = refl
gone [] (suc i) h = refl
gone (w ∷ ws) zero h = absurd (omega arith)
gone (w ∷ ws) (suc i) h = gone ws i (omega arith)

-- up to a place, the keys of the last word come last
pub front-step : (f : ℕ → Entries ℕ) (ws : List ℕ) (i : ℕ) → i < length ws → (get_or ws i 0 ≡ 0 → ⊥)
    → over f (some_words (take (suc i) ws)) ≡ over f (some_words (take i ws)) ++ f (get_or ws i 0)
front-step f [] i h n = absurd (omega arith)
front-step f (w ∷ ws) zero h n = ap (λ t. over f (cond (not t) (w ∷ []) [])) (ne_eqb w 0 n) ∙ append-nil (f w)
front-step f (w ∷ ws) (suc i) h n =
    let r = front-step f ws i (omega arith) n in
    let after = some_words (take (suc i) ws) in
    let front = some_words (take i ws) in
    elim (w == 0) as (λ t. over f (cond (not t) (w ∷ after) after) ≡ over f (cond (not t) (w ∷ front) front) ++ f (get_or ws i 0)) [
      | true ↦ r
      | false ↦ ap (λ l. f w ++ l) r ∙ sym (append_assoc (f w) (over f front) (f (get_or ws i 0)))
    ]
