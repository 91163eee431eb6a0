use Rattle.judy_tree.proofs.lemmas.RootLaws.{has-space}
use Rattle.judy_tree.proofs.Insertions.{root-puts, root-present, root-refused}
use Rattle.judy_tree.proofs.root.Root.insert_given.Goals as goal

pub returns-in-Done-clause-array : goal.returns-in-Done-clause-array
returns-in-Done-clause-array g c = root-puts _ c.args.arena.now c.insert.new.arena c.args.self.now.reference c.args.key c.args.value c.requires.root
    c.in-Done.root c.in-Done.ensures.insertion.0 c.in-Done.ensures.insertion.1

pub returns-in-Done-clause-space : goal.returns-in-Done-clause-space
returns-in-Done-clause-space g c = has-space _ c.insert.new.arena.blocks c.in-Done.root
    (root-puts _ c.args.arena.now c.insert.new.arena c.args.self.now.reference c.args.key c.args.value c.requires.root
    c.in-Done.root c.in-Done.ensures.insertion.0 c.in-Done.ensures.insertion.1).root

pub returns-in-Present-clause-array : goal.returns-in-Present-clause-array
returns-in-Present-clause-array g c = root-present _ c.args.arena.now c.insert.new.arena c.args.self.now.reference c.args.key c.args.value c.requires.root
    c.in-Present.found c.in-Present.ensures.insertion.0 c.in-Present.ensures.insertion.1.blocks

pub returns-in-Present-clause-space : goal.returns-in-Present-clause-space
returns-in-Present-clause-space g c = has-space _ c.insert.new.arena.blocks c.args.self.now.reference
    (root-present _ c.args.arena.now c.insert.new.arena c.args.self.now.reference c.args.key c.args.value c.requires.root
    c.in-Present.found c.in-Present.ensures.insertion.0 c.in-Present.ensures.insertion.1.blocks).root

pub returns-in-NoMemory-clause-array : goal.returns-in-NoMemory-clause-array
returns-in-NoMemory-clause-array g c = root-refused _ c.args.arena.now c.insert.new.arena c.args.self.now.reference c.args.key c.args.value c.requires.root
    c.in-NoMemory.ensures.insertion.1.blocks

pub returns-in-NoMemory-clause-space : goal.returns-in-NoMemory-clause-space
returns-in-NoMemory-clause-space g c = has-space _ c.insert.new.arena.blocks c.args.self.now.reference
    (root-refused _ c.args.arena.now c.insert.new.arena c.args.self.now.reference c.args.key c.args.value c.requires.root
    c.in-NoMemory.ensures.insertion.1.blocks).root
