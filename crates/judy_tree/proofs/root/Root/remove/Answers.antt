use Rattle.std.proofs.Common.{refl}
use Rattle.judy_tree.specs.Root.{entries}
use Rattle.judy_tree.proofs.Steps.{no-value}
use Rattle.judy_tree.proofs.lemmas.RootLaws.{stays, has-space}
use Rattle.judy_model.proofs.lemmas.EntryLemmas.{no-key}
use Rattle.judy_tree.proofs.root.Root.remove.Goals as goal

pub returns-in-Absent-clause-array : goal.returns-in-Absent-clause-array
returns-in-Absent-clause-array g c =
    let l = entries _ c.args.arena.now.blocks c.args.self.now.reference in
    stays _ c.args.arena.now c.remove.new.arena c.args.self.now.reference _ c.in-Absent.ensures.removal.1.blocks c.requires
    (no-key l c.args.key (no-value l c.args.key c.in-Absent.ensures.removal.0))

pub returns-in-Absent-clause-space : goal.returns-in-Absent-clause-space
returns-in-Absent-clause-space g c =
    has-space _ c.remove.new.arena.blocks c.args.self.now.reference
    (stays _ c.args.arena.now c.remove.new.arena c.args.self.now.reference _ c.in-Absent.ensures.removal.1.blocks c.requires refl).root

pub returns-in-Left-clause-space : goal.returns-in-Left-clause-space
returns-in-Left-clause-space g c = has-space _ c.remove.new.arena.blocks c.in-Left.left c.in-Left.ensures.removal.1.array.root

pub returns-in-Emptied-clause-space : goal.returns-in-Emptied-clause-space
returns-in-Emptied-clause-space g c = has-space _ c.remove.new.arena.blocks 0 c.in-Emptied.ensures.removal.1.array.root
