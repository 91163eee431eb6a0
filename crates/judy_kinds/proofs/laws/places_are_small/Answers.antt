use Rattle.judy_kinds.proofs.Small.{places-are-small}
use Rattle.judy_kinds.proofs.laws.places_are_small.Goals as goal

pub returns : goal.returns
returns c =
    places-are-small c.blocks_are_live.ensures c.blocks_are_small.ensures c.blocks_are_few.ensures c.roots_have_space.ensures
    c.blocks_are_live-2.ensures c.space_is_bounded.ensures c.blocks_are_live-3.ensures c.space_is_bounded-2.ensures
