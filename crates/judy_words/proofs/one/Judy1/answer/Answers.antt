use Rattle.std.proofs.Common.{false, refl}
use Rattle.judy_words.proofs.one.Judy1.answer.Goals as goal

pub returns-in_default-clause-array : goal.returns-in_default-clause-array
returns-in_default-clause-array c = record {
  sound = c.requires;
  frame = (c.nothing_changes.ensures false c.args.arena.now c.args.arena.now c.args.self.now _ _ refl
      (record { sound = c.requires; content = refl; blocks = refl })).0.frame;
}

pub returns-in_default-clause-space : goal.returns-in_default-clause-space
returns-in_default-clause-space c = c.roots_have_space.ensures false c.args.arena.now.blocks c.args.self.now c.requires
