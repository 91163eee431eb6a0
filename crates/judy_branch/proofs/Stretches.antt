-- The words of a branch's children stand in one stretch of its block.
use Rattle.std.proofs.Common.{◌≡◌, ℕ, suc, ◌+◌, true, false, cond, not, ◌==◌, nat_lt, List, [], ◌∷◌, take, drop, length, ◌-◌, IsTrue, ap, sym, ◌∙◌, refl, arith}
use Rattle.std.specs.List.{list_all}
use Rattle.judy_refs.specs.References.{is_reference}
use Rattle.judy_model.specs.Contents.{Entries, pairs}
use Rattle.judy_model.proofs.lemmas.TestLemmas.{and_right, and_left}
use Rattle.judy_branch.specs.declared.shape.Shape.{Shape}
use Rattle.judy_branch.specs.declared.shape.Shape.TheVariants.{Full}
use Rattle.judy_branch.specs.Children.{numbered, child_bytes, refs_in, children_in, count_in, start, is_child, is_child_entry}
use Rattle.judy_branch.specs.Slots.{some_words, child_words}
use Rattle.judy_branch.proofs.Shapes.{IsPaired}

pairs-words : (ks vs : List ℕ) → length ks ≡ length vs → child_words (pairs ks vs) ≡ vs
pairs-words [] [] h = refl
pairs-words [] (v ∷ vs) h = absurd (omega arith)
pairs-words (k ∷ ks) [] h = absurd (omega arith)
pairs-words (k ∷ ks) (v ∷ vs) h = ap (λ l. v ∷ l) (pairs-words ks vs (omega arith))

numbered-words : (k : ℕ) (ws : List ℕ) → child_words (numbered k ws) ≡ some_words ws
numbered-words k [] = refl
numbered-words k (w ∷ ws) =
    let rest = numbered-words (suc k) ws in
    elim (w == 0) as (λ t. child_words (cond t (numbered (suc k) ws) ((k, w) ∷ numbered (suc k) ws)) ≡ cond (not t) (w ∷ some_words ws) (some_words ws)) [
      | true ↦ rest
      | false ↦ ap (λ l. w ∷ l) rest
    ]

-- no child's word is 0
pub all-some : (es : Entries ℕ) → list_all is_child_entry es ≡ true → some_words (child_words es) ≡ child_words es
all-some [] h = refl
all-some (e ∷ es) h =
    let some : not (e.1 == 0) ≡ true = and_left (not (e.1 == 0)) (is_reference e.1)
    (and_right (nat_lt e.0 256) (is_child e.1) (and_left (is_child_entry e) (list_all is_child_entry es) h)) in
    ap (λ t. cond t (e.1 ∷ some_words (child_words es)) (some_words (child_words es))) some
    ∙ ap (λ l. e.1 ∷ l) (all-some es (and_right (is_child_entry e) (list_all is_child_entry es) h))

-- in a linear and a bitmap branch they are the references
pub paired-slots : (shape : Shape) (ws : List ℕ) → IsPaired shape ws → IsTrue (list_all is_child_entry (children_in shape ws))
    → (r : List ℕ) → r ≡ refs_in shape ws → some_words r ≡ child_words (children_in shape ws)
paired-slots shape ws paired sound r e =
    let words : child_words (children_in shape ws) ≡ refs_in shape ws = ap (λ es. child_words es) paired.are ∙ pairs-words
    (child_bytes shape ws) (refs_in shape ws) (paired.many ∙ sym paired.same) in
    ap (λ l. some_words l) (e ∙ sym words) ∙ all-some (children_in shape ws) sound

-- in a full one a word for each byte, 0 where there is no child
pub full-slots : (ws r : List ℕ) → r ≡ take 256 (drop 3 ws) → some_words r ≡ child_words (children_in Full ws)
unfolding children_in
full-slots ws r e = ap (λ l. some_words l) e ∙ sym (numbered-words 0 (take 256 (drop 3 ws)))

-- the stretch that is read
pub stretch : (shape : Shape) (ws : List ℕ) (n : ℕ) → n ≡ count_in ws → take n (drop (start shape) ws) ≡ refs_in shape ws
unfolding refs_in
stretch shape ws n e = ap (λ n. take n (drop (start shape) ws)) e

pub less : (a n : ℕ) → a + n - a ≡ n
less a n = omega arith
