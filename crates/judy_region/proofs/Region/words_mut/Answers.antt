use Rattle.std.proofs.Common.{rules, ◌≡◌, ap, ◌∙◌, arith, take, drop, ◌%◌, ◌-◌, ◌+◌, [], refl}
use Rattle.judy_region.specs.Parts.{with_part}
use Rattle.judy_region.proofs.Places.{in_chunk, part_of, lent}
use Rattle.judy_region.proofs.Region.words_mut.Goals as goal

pub index_mut-requires : goal.index_mut-requires
index_mut-requires c = let t = (in_chunk _ _ c.args.place c.self.invariant.0 c.self.view_is c.args.len c.requires []).chunk in search rules

pub part_mut-requires : goal.part_mut-requires
part_mut-requires c = let t = (in_chunk _ _ c.args.place c.self.invariant.0 c.self.view_is c.args.len c.requires
    c.index_mut.result.now).ends in rw c.index_mut.ensures.value t

pub invariant_of-self-lent : goal.invariant_of-self-lent
invariant_of-self-lent c = λ w.
    let left = lent _ _ c.args.place c.self.invariant.0 c.self.view_is c.args.len c.requires w c.index_mut.result.now _
    (ap (λ v. with_part v (c.args.place % 65536) c.args.len w) c.index_mut.ensures.value) in
    let k = left.count in let m = c.self.invariant.1 in (left.after, omega (arith, k, m))

pub returns : goal.returns
returns c =
    let n : c.args.place % 65536 + c.args.len - c.args.place % 65536 ≡ c.args.len = omega arith in
    let m : c.args.place + c.args.len - c.args.place ≡ c.args.len = omega arith in (
      (
        refl,
        λ w. (lent _ _ c.args.place c.self.invariant.0 c.self.view_is c.args.len c.requires w c.index_mut.result.now _
            (ap (λ v. with_part v (c.args.place % 65536) c.args.len w) c.index_mut.ensures.value)).view,
      ),
      record {
        lends = tt;
        value = c.part_mut.ensures.value ∙ rw (n, m) (ap (λ v. take c.args.len (drop (c.args.place % 65536) v))
            c.index_mut.ensures.value ∙ part_of _ _ c.args.place c.self.invariant.0 c.self.view_is c.args.len c.requires
            c.index_mut.result.now);
      },
    )
