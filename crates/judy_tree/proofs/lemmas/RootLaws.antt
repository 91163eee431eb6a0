-- What callers know of an array, for every layout of its blocks.
use Rattle.std.proofs.Common.{◌≡◌, ℕ, ◌<◌, Bool, true, false, ◌==◌, [], ◌∷◌, length, ap, sym, ◌∙◌, refl, subst, arith}
use Rattle.std.specs.List.{list_all}
use Rattle.judy_arena.specs.Blocks.{Blocks}
use Rattle.judy_arena.specs.Frame.{holds, Frame}
use Rattle.judy_arena.specs.Totals.{are_distinct}
use Rattle.judy_model.specs.Contents.{Entries, IsWordArray, HasWordValues}
use Rattle.judy_tree.specs.Nodes.{is_branch}
use Rattle.judy_tree.specs.Root.{IsRoot, entries, numbers, HasRootSpace}
use Rattle.judy_tree.specs.Changes.{RootBecomes}
use Rattle.judy_tree.specs.Calls.{NodeGrows}
use Rattle.judy_tree.proofs.lemmas.Unchanged.{absent-new}
use Rattle.judy_tree.proofs.Space.{root-space, root-least}
use Rattle.judy_arena.specs.Blocks.{ArenaState}
use Rattle.judy_arena.specs.Totals.{words_over}
use Rattle.judy_model.specs.Contents.{word_order, value_of, has_key, with_entry}
use Rattle.std.proofs.Common.{unwrap_or, ◌+◌, ◌*◌, ◌≤◌}
use Rattle.judy_tree.specs.Laws.{OthersStay, OwnBlocksTell, BlocksAreLive, ContentIsSound, OnlyNothingIsEmpty, BlocksAreFew}
use Rattle.judy_tree.specs.Laws.{BlocksAreSmall, NothingChanges, RootsAreReferences}
use Rattle.std.proofs.Common.{◌||◌, ◌&&◌}
use Rattle.std.proofs.lemmas.Bool.Decides.{nat_tests}
use Rattle.std.specs.Prelude.{nat_le, nat_lt}
use Rattle.std.proofs.Math.Bool.{or-true}
use Rattle.judy_refs.specs.References.{kind_part, is_reference}
use Rattle.judy_tree.proofs.LeafLaws.{leaf-none, leaf-empty, leaf-reference}
use Rattle.judy_tree.proofs.lemmas.BranchLaws.{branch-most}
use Rattle.judy_tree.proofs.lemmas.Trees.{root-kept, root-framed, numbers-live, numbers-once, root-words, root-values}
use Rattle.judy_tree.proofs.lemmas.Trees.{root-zeros, leaf-root, root-leaf, leaf-content, root-stays, root-top}
use Rattle.judy_tree.proofs.lemmas.Counts.{root-few, root-low, few-blocks}
use Rattle.judy_tree.proofs.Steps.{root-some, nothing}

-- an array is determined by its own blocks
pub own-blocks-tell : OwnBlocksTell
own-blocks-tell v here there w l ns same s =
    let k = root-kept v here there w s.sound (λ q h. same q (sym (ap (holds q) s.blocks) ∙ h)) in
    record { sound = k.root; content = k.content ∙ s.content; blocks = k.blocks ∙ s.blocks }

-- an array stays over a change of another
pub others-stay : OthersStay
others-stay v before after old new w l ns f s apart =
    let k = root-framed v before after old new w f s.sound (λ q h. apart q (sym (ap (holds q) s.blocks) ∙ h)) in
    (record { sound = k.kept.root; content = k.kept.content ∙ s.content; blocks = k.kept.blocks ∙ s.blocks }, λ q h. k.apart q (ap (holds q) s.blocks ∙ h))

-- the blocks of an array are live, each once
pub blocks-are-live : BlocksAreLive
blocks-are-live v b w l ns s = (λ q h. numbers-live v b w q s.sound (ap (holds q) s.blocks ∙ h), sym (ap are_distinct s.blocks) ∙ numbers-once v b w s.sound)

zero_values : (v : Bool) (b : Blocks) (w : ℕ) → IsRoot v b w → v ≡ false → list_all (λ e. e.1 == 0) (entries v b w) ≡ true
zero_values true b w root e = cc
zero_values false b w root e = root-zeros b w root

few : (v : Bool) (b : Blocks) (w : ℕ) → IsRoot v b w → length (entries v b w) < 18446744073709551616
few v b w root = let f = root-few v b w root in omega arith

-- the entries of an array are sound
pub content-is-sound : ContentIsSound
content-is-sound v b w l ns s = (
  subst IsWordArray s.content (root-words v b w s.sound),
  subst HasWordValues s.content (root-values v b w s.sound),
  λ e. sym (ap (list_all (λ e. e.1 == 0)) s.content) ∙ zero_values v b w s.sound e,
  subst (λ l. length l < 18446744073709551616) s.content (few v b w s.sound),
)

-- the empty array
pub none-root : (v : Bool) (b : Blocks) (w : ℕ) → w ≡ 0 → IsRoot v b w
none-root v b w z = subst (IsRoot v b) (sym z) (leaf-root v b 0 (leaf-none v b).0)

no_entries : (v : Bool) (b : Blocks) (w : ℕ) → IsRoot v b w → entries v b w ≡ [] → w ≡ 0
no_entries v b w root h =
    elim (is_branch w) as (λ t. is_branch w ≡ t → w ≡ 0) [
      | true ↦ λ e. let n = root-some v b w e root in let z = ap length h in absurd (omega arith)
      | false ↦ λ e. leaf-empty v b w (root-leaf v b w e root) (sym (leaf-content v b w e) ∙ h)
    ] refl

-- an array is empty if and only if its reference is the empty reference
pub only-nothing-is-empty : OnlyNothingIsEmpty
only-nothing-is-empty v b =
    (record { sound = none-root v b 0 refl; content = (nothing v b 0 refl).0; blocks = (nothing v b 0 refl).1 }, λ w ns s. no_entries v b w s.sound s.content)

-- an array stays the same if no block changes
pub stays : (v : Bool) (old new : ArenaState) (w : ℕ) (l : Entries ℕ) → new.blocks ≡ old.blocks → IsRoot v old.blocks w
    → entries v old.blocks w ≡ l → RootBecomes v old w new w l
stays v old new w l same root is = record {
  root = subst (λ b. IsRoot v b w) (sym same) root;
  content = ap (λ b. entries v b w) same ∙ is;
  frame = subst (λ b. Frame old.blocks b (numbers old.blocks w) (numbers b w)) (sym same) (root-stays v old.blocks w root);
}

-- an absent key was inserted with its value
pub came : (v : Bool) (old new : ArenaState) (w x key value : ℕ) → has_key word_order (entries v old.blocks w) key ≡ false → NodeGrows v old w new x key value
    → RootBecomes v old w new x (with_entry word_order (entries v old.blocks w) key (unwrap_or (value_of word_order (entries v old.blocks w) key) value))
came v old new w x key value absent g = subst (RootBecomes v old w new x) (absent-new (entries v old.blocks w) key value absent) g.array

-- an array with no entry is the empty one, which has no block
pub has-space : (v : Bool) (b : Blocks) (w : ℕ) → IsRoot v b w → HasRootSpace v b w
has-space v b w root = record {
  none = λ h. ap (words_over b) (nothing v b w (no_entries v b w root (no_items (entries v b w) h))).1;
  some = root-space v b w root;
}
  where
    no_items : (l : Entries ℕ) → length l ≡ 0 → l ≡ []
    no_items [] h = refl
    no_items (e ∷ l) h = absurd (omega arith)

-- ---- laws

pub blocks-are-few : BlocksAreFew
blocks-are-few v b w l ns s = (
  λ q h. root-low v b w q s.sound (ap (holds q) s.blocks ∙ h),
  subst (λ ms. length l ≤ 256 * length ms) s.blocks (subst (λ m. length m ≤ 256 * length (numbers b w)) s.content (few-blocks v b w s.sound)),
)

pub blocks-are-small : BlocksAreSmall
blocks-are-small v b w l ns s = (
  λ q h. root-least v b w q s.sound (ap (holds q) s.blocks ∙ h),
  λ some. subst (λ ms. words_over b ms + 8 ≤ 12 * length l) s.blocks
      (subst (λ m. words_over b (numbers b w) + 8 ≤ 12 * length m) s.content (root-space v b w s.sound (subst (λ m. 0 < length m) (sym s.content) some))),
)

pub nothing-changes : NothingChanges
nothing-changes v old new w l ns same s = (stays v old new w l same s.sound s.content, ap (λ b. numbers b w) same ∙ s.blocks)

-- the kinds of branches
branch_reference : (w : ℕ) → nat_lt 3 (kind_part w) ≡ true → kind_part w ≤ 6 → is_reference w ≡ true
branch_reference w low high = ap (λ t. (w == 0) || t) (within (kind_part w) low high) ∙ or-true (w == 0)
  where
    one : (k : ℕ) → nat_lt 3 k ≡ true → nat_le 1 k ≡ true
    one k h = grind (arith, nat_tests)

    eight : (k : ℕ) → k ≤ 6 → nat_le k 8 ≡ true
    eight k h = grind (arith, nat_tests)

    within : (k : ℕ) → nat_lt 3 k ≡ true → k ≤ 6 → (nat_le 1 k && nat_le k 8) ≡ true
    within k l h = ap (λ t. t && nat_le k 8) (one k l) ∙ eight k h

leaf_most : (k : ℕ) → nat_lt 3 k ≡ false → k ≤ 6
leaf_most k h = let n : k ≤ 3 = small k h in omega arith
  where
    small : (k : ℕ) → nat_lt 3 k ≡ false → k ≤ 3
    small k h = grind (arith, nat_tests)

pub roots-are-references : RootsAreReferences
roots-are-references v b w l ns s =
    elim (is_branch w) as (λ t. is_branch w ≡ t → (is_reference w ≡ true) × (kind_part w ≤ 6)) [
      | true ↦ λ e. let branch = (root-top v b w e s.sound).branch in (branch_reference w e (branch-most b w branch), branch-most b w branch)
      | false ↦ λ e. (leaf-reference v b w (root-leaf v b w e s.sound), leaf_most (kind_part w) e)
    ] refl
