use Rattle.judy_tenants.proofs.Nothing.{map_asks, map_fills}
use Rattle.judy_tenants.proofs.stock.maps_ask_of_nothing.Goals as goal

pub returns-in-Fill : goal.returns-in-Fill
returns-in-Fill c = λ b. map_fills b c.args.call c.in-Fill.x c.in-Fill.field-1 (c.only_nothing_is_empty.ensures (λ k. 0) b).0.map c.in-Fill.is c.words_are_small.ensures

pub returns-in_default : goal.returns-in_default
returns-in_default c = λ b. map_asks b c.args.call (c.only_nothing_is_empty.ensures (λ k. 0) b).0.map c.requires c.in_default.not-Fill
