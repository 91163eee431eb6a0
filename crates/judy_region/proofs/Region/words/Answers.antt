use Rattle.std.proofs.Common.{rules, ◌≡◌, ap, ◌∙◌, arith, take, drop, ◌%◌, ◌-◌, ◌+◌, []}
use Rattle.judy_region.proofs.Places.{in_chunk, part_of}
use Rattle.judy_region.proofs.Region.words.Goals as goal

pub index-requires : goal.index-requires
index-requires c = let t = (in_chunk _ _ c.args.place c.self.invariant.0 c.self.view_is c.args.len c.requires []).chunk in search rules

pub part-requires : goal.part-requires
part-requires c = let t = (in_chunk _ _ c.args.place c.self.invariant.0 c.self.view_is c.args.len c.requires c.index.result.now).ends in rw c.index.ensures t

pub returns : goal.returns
returns c =
    let n : c.args.place % 65536 + c.args.len - c.args.place % 65536 ≡ c.args.len = omega arith in
    let m : c.args.place + c.args.len - c.args.place ≡ c.args.len = omega arith in
    c.part.ensures ∙ rw (n, m) (ap (λ v. take c.args.len (drop (c.args.place % 65536) v)) c.index.ensures ∙ part_of _ _
    c.args.place c.self.invariant.0 c.self.view_is c.args.len c.requires c.index.result.now)
