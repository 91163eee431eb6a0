use Rattle.std.proofs.Common.{◌≡◌, ◌++◌, take}
use Rattle.judy_packing.specs.Packing.{word_bytes}
use Rattle.judy_string.proofs.search.push_word.Given as goal

abbrev pub invariant-loop-i : goal.invariant-loop-i
invariant-loop-i l = l.buffer.items ≡ l.fn.buffer.items ++ take l.i (word_bytes l.word)
