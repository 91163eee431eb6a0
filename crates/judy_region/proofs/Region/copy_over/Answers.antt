use Rattle.std.proofs.Common.{arith, rules, ◌≡◌, ap, ◌∙◌, length, length-set, get_or, set, drop, ◌/◌, ◌%◌, [], refl}
use lib.Seq.{paste}
use Rattle.std.proofs.lemmas.List.{with_items_is}
use Rattle.std.specs.Vec.{with_items}
use Rattle.judy_region.proofs.Places.{Wrote, in_chunk, flat, wrote-moved}
use Rattle.judy_region.proofs.Region.copy_over.Goals as goal

pub copy_between-requires-clause-source_there : goal.copy_between-requires-clause-source_there
copy_between-requires-clause-source_there c = let t = (in_chunk _ _ c.args.from c.self.invariant.0 c.self.view_is c.args.len
    c.requires.source []).chunk in rw c.as_mut_slice-chunks.ensures.value t

pub copy_between-requires-clause-target_there : goal.copy_between-requires-clause-target_there
copy_between-requires-clause-target_there c = let t = (in_chunk _ _ c.args.to c.self.invariant.0 c.self.view_is c.args.len
    c.requires.target []).chunk in rw c.as_mut_slice-chunks.ensures.value t

pub copy_between-requires-clause-source_ends : goal.copy_between-requires-clause-source_ends
copy_between-requires-clause-source_ends c = let t = (in_chunk _ _ c.args.from c.self.invariant.0 c.self.view_is c.args.len
    c.requires.source []).ends in rw c.as_mut_slice-chunks.ensures.value t

pub copy_between-requires-clause-target_ends : goal.copy_between-requires-clause-target_ends
copy_between-requires-clause-target_ends c = let t = (in_chunk _ _ c.args.to c.self.invariant.0 c.self.view_is c.args.len
    c.requires.target []).ends in rw c.as_mut_slice-chunks.ensures.value t

-- the chunks as they are left
left : (c : goal.After-self-1) → (with_items c.self.inside.chunks c.copy_between.new.chunks).items ≡ set c.self.inside.chunks.items (c.args.to / 65536)
    (paste (get_or c.self.inside.chunks.items (c.args.to / 65536) []) (c.args.to % 65536)
    (drop (c.args.from % 65536) (get_or c.self.inside.chunks.items (c.args.from / 65536) [])) c.args.len)
left c =
    let e = c.copy_between.ensures
    ∙ ap (λ v. set v (c.args.to / 65536) (paste (get_or v (c.args.to / 65536) []) (c.args.to % 65536)
    (drop (c.args.from % 65536) (get_or v (c.args.from / 65536) [])) c.args.len)) c.as_mut_slice-chunks.ensures.value in
    let n = ap length e ∙ length-set _ _ _ in
    with_items_is c.self.inside.chunks c.copy_between.new.chunks (search rules) ∙ e

done : (c : goal.After-self-1) → Wrote c.self.inside.chunks.items c.args.self.now c.args.to c.self.invariant.0 c.self.view_is
    (paste (get_or c.self.inside.chunks.items (c.args.to / 65536) []) (c.args.to % 65536)
    (drop (c.args.from % 65536) (get_or c.self.inside.chunks.items (c.args.from / 65536) [])) c.args.len)
    (paste c.args.self.now c.args.to (drop c.args.from c.args.self.now) c.args.len)
done c = wrote-moved _ _ c.args.to c.self.invariant.0 c.self.view_is c.args.len c.requires.target c.args.from c.requires.source [] _ refl

pub invariant_of-self : goal.invariant_of-self
invariant_of-self c = let e = ap length (left c) in let k = (done c).count in let m = c.self.invariant.1 in (rw (left c) (done c).after, omega (arith, e, k, m))

pub returns : goal.returns
returns c = ap flat (left c) ∙ (done c).view
