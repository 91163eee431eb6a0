use Rattle.std.proofs.Common.{◌≡◌, ◌*◌, ◌++◌, take}
use Rattle.judy_string.specs.Suffixes.{suffix_string, suffix_words}
use Rattle.judy_string.proofs.suffix.read.Given as goal

abbrev pub invariant-loop-j : goal.invariant-loop-j
invariant-loop-j l = l.buffer.items ≡ l.fn.buffer.items ++ take (8 * l.j) (suffix_string (suffix_words l.arena.blocks l.fn.reference))
