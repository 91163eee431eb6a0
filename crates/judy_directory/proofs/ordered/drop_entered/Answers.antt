use Rattle.std.proofs.Common.{rules}
use Rattle.std.proofs.lemmas.Fn.{filter_same}
use Rattle.std.proofs.lemmas.Map.Made.{filter_same_pairs}
use Rattle.judy_directory.proofs.Orders.{order-staying}
use Rattle.judy_directory.proofs.ordered.drop_entered.Goals as goal

pub returns-clause-entries : goal.returns-clause-entries
returns-clause-entries c = filter_same_pairs _ _ _ (λ k v b w f' t. search rules) _ _ c.retain.ensures.filtered

pub returns-clause-order : goal.returns-clause-order
returns-clause-order c =
    order-staying c.args.table.now.entries c.retain.new.self.entries c.args.order.now c.requires c.args.gone.now c.retain-2.new.self
    (filter_same_pairs _ _ _ (λ k v b w f' t. search rules) _ _ c.retain.ensures.filtered)
    (filter_same _ _ _ (λ x b f' k. search rules) _ _ c.retain-2.ensures.filtered)
