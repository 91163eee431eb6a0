use Rattle.std.proofs.Common.{ap, sym, ◌∙◌, length}
use Rattle.judy_model.specs.Contents.{word_order}
use Rattle.judy_model.specs.Pieces.{pieces_of, word_pieces}
use Rattle.judy_model.specs.Tenant.{long_effect}
use Rattle.judy_kinds.proofs.Resting.{rests}
use Rattle.judy_words.specs.LongArrays.{long_in}
use Rattle.judy_kinds.proofs.Counted.{words-counted}
use Rattle.judy_kinds.proofs.long.answer.Goals as goal

pub returns-clause-counts : goal.returns-clause-counts
returns-clause-counts c =
    words-counted (long_in c.answer.new.arena.blocks c.of_words.result.root) c.of_words.result _ _ c.of_words.ensures
    (c.population-entries.ensures ∙ ap (λ w. length (long_in c.answer.new.arena.blocks w)) (sym (ap (λ q. q.root) c.of_words.ensures ∙ c.reference-2.ensures)))

pub returns-then-not-changes-clause-counts : goal.returns-then-not-changes-clause-counts
returns-then-not-changes-clause-counts c =
    let same = rests word_order (long_in c.args.arena.now.blocks c.from_reference-map.result) (long_effect c.args.call) c.in_ok-reply.reply
    (long_in c.answer.new.arena.blocks c.answer.new.self) (sym c.changes.ensures ∙ c.if-not-changes.true) c.in_ok-reply.ensures.step in
    let root = ap (λ q. q.root) c.kept.ensures ∙ c.reference.ensures in
    let entries = ap (long_in c.answer.new.arena.blocks) root ∙ same ∙ ap (long_in c.args.arena.now.blocks) (c.from_reference-map.ensures ∙ ap (λ p. p.root) c.place.view_is) in
    record {
      entries = ap (λ q. q.entries) c.kept.ensures ∙ c.requires.counts.entries ∙ ap length (sym entries);
      pieces = ap (λ q. q.pieces) c.kept.ensures ∙ c.requires.counts.pieces ∙ ap (pieces_of word_pieces) (sym entries);
    }
