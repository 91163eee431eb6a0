use Rattle.std.proofs.Common.{true, refl}
use Rattle.judy_words.proofs.long.JudyL.delete_if.Goals as goal

pub returns-else-found-value-clause-array : goal.returns-else-found-value-clause-array
returns-else-found-value-clause-array c = record {
  sound = c.requires;
  frame = (c.nothing_changes.ensures true c.args.arena.now c.args.arena.now c.args.self.now _ _ refl
      (record { sound = c.requires; content = refl; blocks = refl })).0.frame;
}

pub returns-in-None-clause-array : goal.returns-in-None-clause-array
returns-in-None-clause-array c = record {
  sound = c.requires;
  frame = (c.nothing_changes.ensures true c.args.arena.now c.args.arena.now c.args.self.now _ _ refl
      (record { sound = c.requires; content = refl; blocks = refl })).0.frame;
}
