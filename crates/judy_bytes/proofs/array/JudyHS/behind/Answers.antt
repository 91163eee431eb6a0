use Rattle.std.proofs.Common.{◌∙◌, ◌∷◌, None, Some, sym, subst, unwrap_or}
use Rattle.std.specs.Prelude.{option_map}
use Rattle.judy_bytes.specs.Chains.{chain_entries}
use Rattle.judy_bytes.specs.Walks.{IsLeastOf, is_above}
use Rattle.judy_bytes.proofs.WalkOrder.{next-behind, next-in-chain, shown-is}
use Rattle.judy_bytes.proofs.array.JudyHS.behind.Goals as goal

pub returns-in-Some-clause-entry : goal.returns-in-Some-clause-entry
returns-in-Some-clause-entry g c =
    let items = c.least_above.new.buffer.items in
    let above = is_above (Some c.args.key.now) in
    next-in-chain g.H.KeyHash.hashed g.met.H.OrderHash.ordered c.args.arena.now.blocks c.args.self.now.words c.requires.array c.args.hash c.args.key.now c.in-Some.value items
    (subst (λ x. IsLeastOf (chain_entries c.args.arena.now.blocks x) above (Some c.in-Some.value) items) c.requires.first
    (subst (λ o. IsLeastOf (chain_entries c.args.arena.now.blocks c.args.first) above o items) c.in-Some.is c.least_above.ensures))

pub returns-clause-entry : goal.returns-clause-entry
returns-clause-entry g c =
    let items = c.least_above.new.buffer.items in
    let above = is_above (Some c.args.key.now) in
    sym (shown-is c.at_next_word.result c.at_next_word.new.buffer.items)
    ∙ next-behind g.H.KeyHash.hashed g.met.H.OrderHash.ordered c.args.arena.now.blocks c.args.self.now.words c.requires.array c.args.hash c.args.key.now
    (option_map (λ s. s.value) c.at_next_word.result) (unwrap_or (option_map (λ s. s.hash) c.at_next_word.result) 0 ∷ c.at_next_word.new.buffer.items) items
    (subst (λ x. IsLeastOf (chain_entries c.args.arena.now.blocks x) above None items) c.requires.first
    (subst (λ o. IsLeastOf (chain_entries c.args.arena.now.blocks c.args.first) above o items) c.in_default.is c.least_above.ensures))
    c.at_next_word.ensures.least
