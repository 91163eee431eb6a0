use Rattle.std.proofs.Common.{◌≡◌, take, length, nat_lt}
use Rattle.std.specs.Prelude.{filter}
use Rattle.judy_branch.specs.Children.{children_in}
use Rattle.judy_branch.proofs.change.gather_each.Given as goal

abbrev pub invariant-loop-at : goal.invariant-loop-at
invariant-loop-at l = record {
  count : l.count ≡ length (filter (λ e. nat_lt e.0 l.at) (children_in l.shape l.words));
  all : take l.count l.list ≡ filter (λ e. nat_lt e.0 l.at) (children_in l.shape l.words);
}
