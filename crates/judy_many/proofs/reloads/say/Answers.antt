use Rattle.std.proofs.Common.{[], ◌∷◌}
use Rattle.judy_many.specs.Nets.Act.{Replied, Warned}
use Rattle.judy_many.proofs.Living.{then_log}
use Rattle.judy_many.proofs.reloads.say.Goals as goal

pub returns : goal.returns
returns g c = record {
  order = c.args.order;
  reply = c.reply_line.result.items;
  line = c.told_line.result.items;
  replied = c.reply_line.ensures;
  told = c.told_line.ensures;
  last = then_log (g.N.Network.log c.args.network.now) _ _ (Replied c.reply_line.result.items ∷ []) (Warned c.told_line.result.items ∷ [])
      (rw c.as_slice.ensures.value at c.reply.ensures) (rw c.as_slice-2.ensures.value at c.warn.ensures);
}
