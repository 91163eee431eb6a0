use Rattle.std.proofs.Common.{arith}
use Rattle.judy_region.proofs.Between.{copied-up, copied-down}
use Rattle.judy_region.proofs.chunk.copy_between.Goals as goal

pub returns-then-source-target : goal.returns-then-source-target
returns-then-source-target c =
    copied-up c.args.chunks.now c.split_at_mut-low.result.0.now c.split_at_mut-low.result.1.now c.index-low-source.result
    c.index-high-0.result c.part.result.now c.write.new.self c.args.source c.args.i c.args.target c.args.at c.args.len
    c.split_at_mut-low.ensures.value c.split_at_mut-low.ensures.front_len c.if-source-target.true c.requires.source_ends
    c.requires.target_there c.part.ensures c.write.ensures

pub returns-else-source-target : goal.returns-else-source-target
returns-else-source-target c =
    copied-down c.args.chunks.now c.split_at_mut-low-else-source-target.result.0.now
    c.split_at_mut-low-else-source-target.result.1.now c.index-high-0-else-source-target.result c.index-low-target.result
    c.part-else-source-target.result.now c.write-else-source-target.new.self c.args.source c.args.i c.args.target c.args.at c.args.len
    c.split_at_mut-low-else-source-target.ensures.value c.split_at_mut-low-else-source-target.ensures.front_len
    (let o = c.requires.other in let f = c.if-source-target.false in grind (arith, o, f)) c.requires.source_ends
    c.requires.source_there c.part-else-source-target.ensures c.write-else-source-target.ensures
