use Rattle.std.proofs.Common.{rules, ap, ◌∙◌, get_or, ◌%◌, []}
use Rattle.judy_region.proofs.Places.{there, word}
use Rattle.judy_region.proofs.Region.get.Goals as goal

pub index-requires : goal.index-requires
index-requires c = let t = (there _ _ c.args.place c.self.invariant.0 c.self.view_is [] c.requires).chunk in search rules

pub get-requires : goal.get-requires
get-requires c = let t = (there _ _ c.args.place c.self.invariant.0 c.self.view_is c.index.result.now c.requires).place in rw c.index.ensures t

pub returns : goal.returns
returns c = c.get.ensures ∙ ap (λ v. get_or v (c.args.place % 65536) 0) c.index.ensures ∙ word _ _ c.args.place c.self.invariant.0
    c.self.view_is c.index.result.now c.requires
