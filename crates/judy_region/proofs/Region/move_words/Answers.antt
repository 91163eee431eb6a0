use Rattle.std.proofs.Common.{arith, rules, ap, sym, ◌∙◌, get_or, drop, ◌/◌, ◌%◌, []}
use lib.Seq.{paste}
use Rattle.judy_region.proofs.Places.{Wrote, in_chunk, wrote-moved}
use Rattle.judy_region.proofs.Region.move_words.Goals as goal

pub index_mut-requires : goal.index_mut-requires
index_mut-requires c = let t = (in_chunk _ _ c.args.to c.self.invariant.0 c.self.view_is c.args.len c.requires.target []).chunk in search rules

pub move_words-requires-clause-source : goal.move_words-requires-clause-source
move_words-requires-clause-source c = let t = (in_chunk _ _ c.args.from c.self.invariant.0 c.self.view_is c.args.len
    c.requires.source c.index_mut.result.now).ends in rw (c.index_mut.ensures.value, ← c.requires.one) t

pub move_words-requires-clause-target : goal.move_words-requires-clause-target
move_words-requires-clause-target c = let t = (in_chunk _ _ c.args.to c.self.invariant.0 c.self.view_is c.args.len
    c.requires.target c.index_mut.result.now).ends in rw c.index_mut.ensures.value t

done : (c : goal.After-self-1) → Wrote c.self.inside.chunks.items c.args.self.now c.args.to c.self.invariant.0 c.self.view_is
    c.move_words.new.self (paste c.args.self.now c.args.to (drop c.args.from c.args.self.now) c.args.len)
done c = wrote-moved _ _ c.args.to c.self.invariant.0 c.self.view_is c.args.len c.requires.target c.args.from c.requires.source
    c.index_mut.result.now c.move_words.new.self
    (c.move_words.ensures ∙ ap (λ v. paste v (c.args.to % 65536) (drop (c.args.from % 65536) v) c.args.len) c.index_mut.ensures.value
    ∙ ap (λ q. paste (get_or c.self.inside.chunks.items (c.args.to / 65536) c.index_mut.result.now) (c.args.to % 65536)
    (drop (c.args.from % 65536) (get_or c.self.inside.chunks.items q c.index_mut.result.now)) c.args.len) (sym c.requires.one))

pub invariant_of-self : goal.invariant_of-self
invariant_of-self c = let k = (done c).count in let m = c.self.invariant.1 in ((done c).after, omega (arith, k, m))

pub returns : goal.returns
returns c = (done c).view
