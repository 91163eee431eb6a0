use Rattle.std.proofs.Common.{rules, ap, ◌∙◌, arith, ◌%◌, []}
use lib.Seq.{paste}
use Rattle.judy_region.specs.Flat.{zeros}
use Rattle.judy_region.proofs.lemmas.Flat.{length-zeros}
use Rattle.judy_region.proofs.Places.{Wrote, in_chunk, wrote}
use Rattle.judy_region.proofs.Region.clear.Goals as goal

pub index_mut-requires : goal.index_mut-requires
index_mut-requires c = let t = (in_chunk _ _ c.args.place c.self.invariant.0 c.self.view_is c.args.len c.requires []).chunk in search rules

pub clear-requires : goal.clear-requires
clear-requires c = let t = (in_chunk _ _ c.args.place c.self.invariant.0 c.self.view_is c.args.len c.requires
    c.index_mut.result.now).ends in rw c.index_mut.ensures.value t

done : (c : goal.After-self-1) → Wrote c.self.inside.chunks.items c.args.self.now c.args.place c.self.invariant.0 c.self.view_is
    c.clear.new.self (paste c.args.self.now c.args.place (zeros c.args.len) c.args.len)
done c = let e = length-zeros c.args.len in wrote _ _ c.args.place c.self.invariant.0 c.self.view_is c.args.len c.requires
    (zeros c.args.len) c.index_mut.result.now c.clear.new.self (omega (arith, e))
    (c.clear.ensures ∙ ap (λ v. paste v (c.args.place % 65536) (zeros c.args.len) c.args.len) c.index_mut.ensures.value)

pub invariant_of-self : goal.invariant_of-self
invariant_of-self c = let k = (done c).count in let m = c.self.invariant.1 in ((done c).after, omega (arith, k, m))

pub returns : goal.returns
returns c = (done c).view
