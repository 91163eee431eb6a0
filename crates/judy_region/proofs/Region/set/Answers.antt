use Rattle.std.proofs.Common.{arith, rules, ap, ◌∙◌, set, ◌%◌, []}
use Rattle.judy_region.proofs.Places.{Wrote, there, wrote-word}
use Rattle.judy_region.proofs.Region.set.Goals as goal

pub index_mut-requires : goal.index_mut-requires
index_mut-requires c = let t = (there _ _ c.args.place c.self.invariant.0 c.self.view_is [] c.requires).chunk in search rules

pub set-requires : goal.set-requires
set-requires c = let t = (there _ _ c.args.place c.self.invariant.0 c.self.view_is c.index_mut.result.now c.requires).place in rw c.index_mut.ensures.value t

done : (c : goal.After-self-1) → Wrote c.self.inside.chunks.items c.args.self.now c.args.place c.self.invariant.0 c.self.view_is
    c.set.new.self (set c.args.self.now c.args.place c.args.word)
done c = wrote-word _ _ c.args.place c.self.invariant.0 c.self.view_is c.args.word c.index_mut.result.now c.set.new.self
    c.requires (c.set.ensures ∙ ap (λ v. set v (c.args.place % 65536) c.args.word) c.index_mut.ensures.value)

pub invariant_of-self : goal.invariant_of-self
invariant_of-self c = let k = (done c).count in let m = c.self.invariant.1 in ((done c).after, omega (arith, k, m))

pub returns : goal.returns
returns c = (done c).view
