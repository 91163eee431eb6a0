use Rattle.std.proofs.Common.{refl, sym, subst, true}
use Rattle.judy_arena.specs.Frame.{Frame}
use Rattle.judy_tree.specs.Root.{numbers}
use Rattle.judy_tree.proofs.Steps.{nothing}
use Rattle.judy_tree.proofs.lemmas.RootLaws.{none-root, has-space}
use Rattle.judy_tree.proofs.root.Root.clear.Goals as goal

pub returns-clause-array : goal.returns-clause-array
returns-clause-array g c = record {
  root = none-root _ c.clear.new.arena.blocks 0 refl;
  content = (nothing _ c.clear.new.arena.blocks 0 refl).0;
  frame = subst (Frame c.args.arena.now.blocks c.clear.new.arena.blocks
      (numbers c.args.arena.now.blocks c.args.self.now.reference)) (sym (nothing true c.clear.new.arena.blocks 0 refl).1)
      c.clear.ensures.frame;
}

pub returns-clause-space : goal.returns-clause-space
returns-clause-space g c = has-space _ c.clear.new.arena.blocks 0 (none-root _ c.clear.new.arena.blocks 0 refl)
