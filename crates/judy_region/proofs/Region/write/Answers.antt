use Rattle.std.proofs.Common.{rules, ap, ◌∙◌, arith, length, ◌%◌, []}
use lib.Seq.{paste}
use Rattle.judy_region.proofs.Places.{Wrote, in_chunk, wrote}
use Rattle.judy_region.proofs.Region.write.Goals as goal

pub index_mut-requires : goal.index_mut-requires
index_mut-requires c = let t = (in_chunk _ _ c.args.place c.self.invariant.0 c.self.view_is (length c.args.source.now) c.requires []).chunk in search rules

pub write-requires : goal.write-requires
write-requires c = let t = (in_chunk _ _ c.args.place c.self.invariant.0 c.self.view_is (length c.args.source.now) c.requires
    c.index_mut.result.now).ends in rw c.index_mut.ensures.value t

done : (c : goal.After-self-1) → Wrote c.self.inside.chunks.items c.args.self.now c.args.place c.self.invariant.0 c.self.view_is
    c.write.new.self (paste c.args.self.now c.args.place c.args.source.now (length c.args.source.now))
done c = wrote _ _ c.args.place c.self.invariant.0 c.self.view_is (length c.args.source.now) c.requires c.args.source.now
    c.index_mut.result.now c.write.new.self (omega arith)
    (c.write.ensures ∙ ap (λ v. paste v (c.args.place % 65536) c.args.source.now (length c.args.source.now)) c.index_mut.ensures.value)

pub invariant_of-self : goal.invariant_of-self
invariant_of-self c = let k = (done c).count in let m = c.self.invariant.1 in ((done c).after, omega (arith, k, m))

pub returns : goal.returns
returns c = (done c).view
