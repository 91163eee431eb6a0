use Rattle.std.proofs.Common.{◌∙◌, ◌∷◌, None, Some, sym, subst}
use Rattle.judy_bytes.specs.Chains.{IsBucketChain, chain_entries}
use Rattle.judy_bytes.specs.Walks.{IsLeastOf, is_above}
use Rattle.judy_bytes.proofs.Links.{chain-reference}
use Rattle.judy_bytes.proofs.WalkOrder.{behind-chain, behind-first, behind-some, least-behind, no-word-behind}
use Rattle.judy_bytes.proofs.array.JudyHS.at_next_word.Goals as goal

pub returns-in_default-clause-least : goal.returns-in_default-clause-least
returns-in_default-clause-least g c = no-word-behind g.H.KeyHash.hashed g.met.H.OrderHash.ordered c.args.arena.now.blocks c.args.self.now.words c.requires c.args.hash
    (0 ∷ c.args.buffer.now.items) (sym c.word_behind.ensures ∙ c.in_default.is)

pub reference_of-first-requires : goal.reference_of-first-requires
reference_of-first-requires g c = chain-reference c.args.arena.now.blocks c.in-Some.entry.1
    (behind-chain g.H.KeyHash.hashed g.met.H.OrderHash.ordered c.args.arena.now.blocks c.args.self.now.words c.requires c.args.hash
    c.in-Some.entry (sym c.word_behind.ensures ∙ c.in-Some.is))

pub least_above-requires : goal.least_above-requires
least_above-requires g c = subst (IsBucketChain c.args.arena.now.blocks) (sym c.reference_of-first.ensures)
    (behind-chain g.H.KeyHash.hashed g.met.H.OrderHash.ordered c.args.arena.now.blocks c.args.self.now.words c.requires c.args.hash
    c.in-Some.entry (sym c.word_behind.ensures ∙ c.in-Some.is))

pub returns-in_default-least_above-clause-least : goal.returns-in_default-least_above-clause-least
returns-in_default-least_above-clause-least g c =
    absurd (behind-some g.H.KeyHash.hashed g.met.H.OrderHash.ordered c.args.arena.now.blocks c.args.self.now.words c.requires c.args.hash
    c.in-Some.entry (sym c.word_behind.ensures ∙ c.in-Some.is) c.least_above.new.buffer.items
    (subst (λ x. IsLeastOf (chain_entries c.args.arena.now.blocks x) (is_above None) None c.least_above.new.buffer.items) c.reference_of-first.ensures
    (subst (λ o. IsLeastOf (chain_entries c.args.arena.now.blocks c.reference_of-first.result) (is_above None) o c.least_above.new.buffer.items)
    c.in_default-least_above.is c.least_above.ensures)))

pub returns-clause-least : goal.returns-clause-least
returns-clause-least g c =
    least-behind g.H.KeyHash.hashed g.met.H.OrderHash.ordered c.args.arena.now.blocks c.args.self.now.words c.requires c.args.hash
    c.in-Some.entry (sym c.word_behind.ensures ∙ c.in-Some.is) c.in-Some-least_above.value c.least_above.new.buffer.items
    (subst (λ x. IsLeastOf (chain_entries c.args.arena.now.blocks x) (is_above None) (Some c.in-Some-least_above.value) c.least_above.new.buffer.items)
    c.reference_of-first.ensures
    (subst (λ o. IsLeastOf (chain_entries c.args.arena.now.blocks c.reference_of-first.result) (is_above None) o c.least_above.new.buffer.items)
    c.in-Some-least_above.is c.least_above.ensures))

pub returns-clause-first : goal.returns-clause-first
returns-clause-first g c = c.reference_of-first.ensures ∙ behind-first g.H.KeyHash.hashed g.met.H.OrderHash.ordered c.args.arena.now.blocks c.args.self.now.words
    c.requires c.args.hash c.in-Some.entry (sym c.word_behind.ensures ∙ c.in-Some.is)
