-- What a layer of strings needs of a JudyL, from judy_tree's laws alone.
use Rattle.std.proofs.lemmas.Bool.Decides.{nat_tests}
use Rattle.std.specs.Prelude.{nat_le}
use Rattle.std.proofs.Common.{◌≡◌, ℕ, ◌+◌, ◌*◌, ◌<◌, ◌≤◌, length, Bool, true, false, ◌&&◌, ◌||◌, ◌==◌, [], ap, sym, ◌∙◌, refl, subst, arith}
use Rattle.judy_arena.specs.Blocks.{Blocks, block, is_live, words_of}
use Rattle.judy_arena.specs.Frame.{holds}
use Rattle.judy_refs.specs.References.{kind_part, is_reference}
use Rattle.judy_arena.specs.Totals.{words_over}
use Rattle.judy_model.specs.Contents.{HasWordValues}
use Rattle.judy_tree.specs.Root.{IsRoot, entries, numbers, Spells}
use Rattle.judy_tree.proofs.lemmas.RootLaws.{own-blocks-tell, blocks-are-live, content-is-sound, only-nothing-is-empty}
use Rattle.judy_tree.proofs.lemmas.RootLaws.{roots-are-references, blocks-are-few, blocks-are-small}
use Rattle.judy_string.specs.Suffixes.{is_suffix}

itself : (v : Bool) (b : Blocks) (w : ℕ) → IsRoot v b w → Spells v b w (entries v b w) (numbers b w)
itself v b w h = record { sound = h; content = refl; blocks = refl }

pub root-values : (b : Blocks) (w : ℕ) → IsRoot true b w → HasWordValues (entries true b w)
root-values b w h = (content-is-sound true b w (entries true b w) (numbers b w) (itself true b w h)).1

pub root-kept : (v : Bool) (a : Blocks) (w : ℕ) → IsRoot v a w → (c : Blocks) → ((q : ℕ) → holds q (numbers a w) ≡ true → block c q ≡ block a q)
    → IsRoot v c w × (entries v c w ≡ entries v a w) × (numbers c w ≡ numbers a w)
root-kept v a w h c same = let s = own-blocks-tell v a c w (entries v a w) (numbers a w) same (itself v a w h) in (s.sound, s.content, s.blocks)

pub numbers-live : (v : Bool) (b : Blocks) (w : ℕ) → IsRoot v b w → (q : ℕ) → holds q (numbers b w) ≡ true → is_live b q ≡ true
numbers-live v b w h q i = (blocks-are-live v b w (entries v b w) (numbers b w) (itself v b w h)).0 q i

nothing : (v : Bool) (b : Blocks) (w : ℕ) → w ≡ 0 → Spells v b w [] []
nothing v b w e = subst (λ x. Spells v b x [] []) (sym e) (only-nothing-is-empty v b).0

pub none-entries : (v : Bool) (b : Blocks) (w : ℕ) → w ≡ 0 → entries v b w ≡ []
none-entries v b w e = (nothing v b w e).content

pub none-numbers : (v : Bool) (b : Blocks) (w : ℕ) → w ≡ 0 → numbers b w ≡ []
none-numbers v b w e = (nothing v b w e).blocks

pub no-entries : (v : Bool) (b : Blocks) (w : ℕ) → IsRoot v b w → entries v b w ≡ [] → w ≡ 0
no-entries v b w h e = (only-nothing-is-empty v b).1 w (numbers b w) (record { sound = h; content = e; blocks = refl })

-- the root of a word array is a reference to a leaf or a branch, and so to no suffix
pub map-kind : (b : Blocks) (w : ℕ) → IsRoot true b w → is_suffix w ≡ false
map-kind b w h = no_seven (kind_part w) (roots-are-references true b w (entries true b w) (numbers b w) (itself true b w h)).1
  where
    no_seven : (k : ℕ) → k ≤ 6 → (k == 7) ≡ false
    no_seven k few = grind (arith, nat_tests)

is_one : (w : ℕ) → (nat_le 1 (kind_part w) && nat_le (kind_part w) 8) ≡ true → is_reference w ≡ true
is_one w h = ap (λ t. (w == 0) || t) h ∙ or_true (w == 0)
  where
    or_true : (t : Bool) → (t || true) ≡ true
    or_true true = refl
    or_true false = refl

pub suffix-reference : (w : ℕ) → is_suffix w ≡ true → is_reference w ≡ true
suffix-reference w h = is_one w (ap (λ z. nat_le 1 z && nat_le z 8) (same_number (kind_part w) 7 h))
  where
    same_number : (q n : ℕ) → (q == n) ≡ true → q ≡ n
    same_number q n e = grind (arith, nat_tests)

pub map-reference : (b : Blocks) (w : ℕ) → IsRoot true b w → is_reference w ≡ true
map-reference b w h = (roots-are-references true b w (entries true b w) (numbers b w) (itself true b w h)).0

-- the numbers of an array's blocks are below 2^32, and it has few entries a block
pub numbers-low : (b : Blocks) (w : ℕ) → IsRoot true b w → (q : ℕ) → holds q (numbers b w) ≡ true → q < 4294967296
numbers-low b w h q i = (blocks-are-few true b w (entries true b w) (numbers b w) (itself true b w h)).0 q i

pub entries-few : (b : Blocks) (w : ℕ) → IsRoot true b w → length (entries true b w) ≤ 33554432 * length (numbers b w)
entries-few b w h = let few = (blocks-are-few true b w (entries true b w) (numbers b w) (itself true b w h)).1 in omega (arith, few)

-- each block has at least 4 words, and together they have few
pub own-least : (b : Blocks) (w : ℕ) → IsRoot true b w → (q : ℕ) → holds q (numbers b w) ≡ true → 4 ≤ length (words_of b q)
own-least b w h = (blocks-are-small true b w (entries true b w) (numbers b w) (itself true b w h)).0

pub own-space : (b : Blocks) (w : ℕ) → IsRoot true b w → 0 < length (entries true b w) → words_over b (numbers b w) + 8 ≤ 12 * length (entries true b w)
own-space b w h = (blocks-are-small true b w (entries true b w) (numbers b w) (itself true b w h)).1
