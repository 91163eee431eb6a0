use Rattle.std.proofs.Common.{◌∙◌, ap, refl}
use Rattle.judy_upkeep.specs.Output.{with_record}
use Rattle.judy_upkeep.proofs.Added.{added}
use Rattle.judy_upkeep.proofs.output.Output.add.Goals as goal

pub returns : goal.returns
returns g c =
    added c.args.tenant.now c.args.request.now c.args.self.now c.make_room.new.self _ c.in_ok-make_room.ensures
    (c.add.ensures ∙ ap (λ w. with_record w c.args.tenant.now c.args.request.now) c.deref_mut.ensures.value) refl
