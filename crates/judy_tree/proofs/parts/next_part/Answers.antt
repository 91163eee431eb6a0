use Rattle.std.proofs.Common.{◌<◌, ℕ, ap, sym, ◌∙◌, nat_le, arith}
use Rattle.std.specs.Ordering.{nat_cmp, is_ge}
use Rattle.std.proofs.lemmas.List.Elements.{filter_agree}
use Rattle.judy_model.specs.Contents.{head_of}
use Rattle.judy_model.proofs.lemmas.WordLemmas.{is_ge-words}
use Rattle.judy_branch.specs.Branch.{branch_view}
use Rattle.judy_tree.proofs.lemmas.BranchLaws.{branch-sound, IsPlace}
use Rattle.judy_tree.proofs.lemmas.Clearing.{from-past}
use Rattle.judy_tree.proofs.lemmas.Joins.{each-weaker}
use Rattle.judy_tree.proofs.parts.next_part.Goals as goal

pub returns-then-low-gt255 : goal.returns-then-low-gt255
returns-then-low-gt255 c = sym (ap head_of (from-past c.args.low (branch_view c.args.arena.now.blocks c.args.branch).children (omega arith)
    (each-weaker IsPlace (λ k. k.0 < 256) (branch_view c.args.arena.now.blocks c.args.branch).children (λ k p. p.byte)
    (branch-sound c.args.arena.now.blocks c.args.branch c.requires.branch).places)))

pub returns : goal.returns
returns c = c.next_child.ensures ∙ ap head_of (filter_agree (λ (e : ℕ × ℕ). is_ge (nat_cmp e.0 c.args.low)) (λ e. nat_le c.args.low e.0)
    (λ e. is_ge-words e.0 c.args.low) (branch_view c.args.arena.now.blocks c.args.branch).children)
