use Rattle.std.proofs.Common.{◌≡◌, refl}
use Rattle.judy_string.proofs.WalkKeys.{key_found}
use Rattle.judy_string.proofs.array.JudySL.walk.Goals as goal

pub list-count-requires-clause-key : goal.list-count-requires-clause-key
list-count-requires-clause-key c =
    key_found c.args.arena.now.blocks c.args.self.now c.args.search c.args.key.now _ _ _ c.requires.array.node refl c.find-start.ensures
