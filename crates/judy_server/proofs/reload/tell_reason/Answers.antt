use Rattle.std.proofs.Common.{subst, refl}
use Rattle.judy_server.specs.Told.{Tells}
use Rattle.judy_server.proofs.reload.tell_reason.Goals as goal

pub returns : goal.returns
returns g c = (
  c.tell.new.told.items,
  c.tell.ensures,
  (
    c.tell-2.new.told.items,
    subst (λ name. Tells name c.tell.new.told.items c.tell-2.new.told.items) c.name_of.ensures c.tell-2.ensures,
    (c.tell-3.new.told.items, c.tell-3.ensures, refl),
  ),
)
