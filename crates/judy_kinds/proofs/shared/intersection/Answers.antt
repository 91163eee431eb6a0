use Rattle.std.proofs.Common.{◌∙◌, ap}
use Rattle.judy_model.specs.Intersections.{intersect, intersection_reply}
use Rattle.judy_words.specs.OneArrays.{one_in}
use Rattle.judy_kinds.proofs.shared.intersection.Goals as goal

pub returns : goal.returns
returns c =
    let b = c.args.arena.now.blocks in
    c.intersection.ensures
    ∙ ap (λ w. intersection_reply (intersect (one_in b w) (one_in b c.from_reference.result) c.args.x c.args.most)) c.from_reference-set.ensures
    ∙ ap (λ w. intersection_reply (intersect (one_in b c.args.set) (one_in b w) c.args.x c.args.most)) c.from_reference.ensures
