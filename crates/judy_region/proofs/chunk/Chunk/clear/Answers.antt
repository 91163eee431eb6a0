use Rattle.std.proofs.Common.{◌≡◌, ap, ◌∙◌, arith, length, take, drop, ◌-◌, ◌+◌}
use lib.Seq.{paste}
use Rattle.judy_region.specs.Flat.{zeros}
use Rattle.judy_region.proofs.lemmas.Flat.{length-zeros, zeros-replicate}
use Rattle.judy_region.proofs.lemmas.Parts.{part_long, with_part_by}
use Rattle.judy_region.proofs.chunk.Chunk.clear.Goals as goal

pub returns : goal.returns
returns c =
    let m : c.args.at + c.args.len - c.args.at ≡ c.args.len = omega arith in
    let e = ap length c.part_mut.ensures.value ∙ ap (λ k. length (take k (drop c.args.at c.args.self.now))) m
    ∙ part_long c.args.self.now c.args.at c.args.len c.requires in
    let left : c.fill.new.self ≡ zeros c.args.len = c.fill.ensures.after (λ y h. h) ∙ zeros-replicate _ _ e in
    let z = ap length left ∙ length-zeros c.args.len in
    with_part_by c.args.self.now c.args.at c.args.len c.fill.new.self c.requires z ∙ ap (λ v. paste c.args.self.now c.args.at v c.args.len) left
