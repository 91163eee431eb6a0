use Rattle.std.proofs.Common.{subst}
use Rattle.judy_tenants.specs.Held.{Held, IsSoundService}
use Rattle.judy_tenants.proofs.Sound.{seen-sound}
use Rattle.judy_tenants.proofs.service.Service.is_at_all_times.Goals as goal

pub returns : goal.returns
returns g c =
    subst (λ (h : Held). IsSoundService h) c.self.view_is
    (seen-sound (c.kinds_are_lawful.ensures g.H.KeyHash.hashed) c.places_are_small.ensures c.sizes_add_up_over_the_numbers.ensures
    c.contents_are_in_form.ensures
    c.self.inside.table c.self.inside.stock c.self.invariant.0 c.the_region_is_bounded.ensures.sum
    c.the_region_is_bounded.ensures.live c.the_region_is_bounded.ensures.bound c.self.invariant.1 c.there_is_room.ensures)
