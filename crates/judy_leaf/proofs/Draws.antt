-- What calls that change leaves take from the machine.
use Rattle.std.proofs.Common.{◌≡◌, ◌+◌, ◌<◌, ◌≤◌, ℕ, Some, length, ap, arith}
use Rattle.std.proofs.lemmas.List.{length-replicate}
use Rattle.judy_arena.specs.Blocks.{Blocks, ArenaState, words_of, zeros}
use Rattle.judy_arena.specs.Draws.{DrawsBlock}
use Rattle.judy_refs.specs.References.{block_of}
use Rattle.judy_arena.proofs.lemmas.DrawLaws.{drew-block}
use Rattle.judy_leaf.specs.Leaf.{leaf_size, size_by}
use Rattle.judy_leaf.specs.Calls.{DrawsFor}

-- the words of the block of a leaf
pub size-at : (b : Blocks) (w n : ℕ) → block_of w ≡ Some n → leaf_size b w ≡ length (words_of b n)
size-at b w n is = ap (size_by b) is

-- a call that leaves what was taken
pub drew-none : (old new : ArenaState) (from to : ℕ) → new.region ≡ old.region → to ≤ from → DrawsFor old new from to
drew-none old new from to same less = record {
  inside = λ _. same;
  outside = λ more. absurd (omega (arith, more, less));
}

-- a call that takes a block of r words, more than the leaf had
pub drew : (old new : ArenaState) (from to r : ℕ) → to ≡ r → from < r → (r ≤ old.ready → new.region ≡ old.region)
    → (old.ready < r → new.region ≡ old.region + 512) → DrawsFor old new from to
drew old new from to r is more reuse growth = record {
  inside = λ h. absurd (omega (arith, is, more, h));
  outside = λ _. drew-block old new to r is reuse growth;
}

-- a new leaf where there was none
pub drew-first : (old new : ArenaState) (to : ℕ) → DrawsBlock old new to → DrawsFor old new 0 to
drew-first old new to block = record {
  inside = λ h. block.reuse (omega (arith, h));
  outside = λ _. block;
}

-- how many zeros there are
pub zero-words : (n : ℕ) → length (zeros n) ≡ n
unfolding zeros
zero-words n = length-replicate n 0
