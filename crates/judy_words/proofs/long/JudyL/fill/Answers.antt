use Rattle.std.proofs.Common.{true, refl}
use Rattle.judy_words.proofs.long.JudyL.fill.Goals as goal

pub returns-in_default-clause-array : goal.returns-in_default-clause-array
returns-in_default-clause-array c = record {
  sound = c.requires;
  frame = (c.nothing_changes.ensures true c.args.arena.now c.args.arena.now c.args.self.now _ _ refl
      (record { sound = c.requires; content = refl; blocks = refl })).0.frame;
}
