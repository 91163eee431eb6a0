use Rattle.std.proofs.Common.{◌≡◌, ℕ, ◌<◌}
use Rattle.judy_tree.specs.Nodes.{head_at}
use Rattle.judy_tree.proofs.fork.difference.Given as goal

abbrev pub invariant-loop-level : goal.invariant-loop-level
invariant-loop-level l = (m : ℕ) → m < l.level → head_at m l.fn.a ≡ head_at m l.fn.b
