use Rattle.std.proofs.Common.{false, refl}
use Rattle.judy_words.proofs.one.Judy1.pop.Goals as goal

pub returns-in_err-index-clause-array : goal.returns-in_err-index-clause-array
returns-in_err-index-clause-array c = record {
  sound = c.requires;
  frame = (c.nothing_changes.ensures false c.args.arena.now c.args.arena.now c.args.self.now _ _ refl
      (record { sound = c.requires; content = refl; blocks = refl })).0.frame;
}

pub returns-then-index-last-clause-array : goal.returns-then-index-last-clause-array
returns-then-index-last-clause-array c = record {
  sound = c.requires;
  frame = (c.nothing_changes.ensures false c.args.arena.now c.args.arena.now c.args.self.now _ _ refl
      (record { sound = c.requires; content = refl; blocks = refl })).0.frame;
}
