use Rattle.judy_tenants.proofs.Nothing.{set_asks, set_fills}
use Rattle.judy_tenants.proofs.stock.sets_ask_of_nothing.Goals as goal

pub returns-in-Fill : goal.returns-in-Fill
returns-in-Fill c = λ b. set_fills b c.args.call c.in-Fill.x (c.only_nothing_is_empty.ensures (λ k. 0) b).0.set c.in-Fill.is c.words_are_small.ensures

pub returns-in_default : goal.returns-in_default
returns-in_default c = λ b. set_asks b c.args.call (c.only_nothing_is_empty.ensures (λ k. 0) b).0.set c.requires c.in_default.not-Fill
