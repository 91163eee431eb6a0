use Rattle.std.proofs.Common.{ap, ◌∙◌, refl}
use Rattle.judy_string.specs.StringArrays.{string_in}
use Rattle.judy_kinds.proofs.Counted.{room-new, counts-inserted}
use Rattle.judy_kinds.proofs.string.insert.Goals as goal

pub inserted-requires-clause-entries : goal.inserted-requires-clause-entries
inserted-requires-clause-entries c new =
    let from = c.from_reference-map.ensures ∙ ap (λ p. p.root) c.place.view_is in
    let sorted = (c.content_is_sound.ensures c.args.arena.now.blocks c.args.place.root _ _
    (record { sound = c.requires.array; content = refl; blocks = refl })).0 in
    let few = (c.content_is_sound.ensures c.insert.new.arena.blocks c.insert.new.self _ _
    (record { sound = c.in_ok-answer.ensures.array.sound; content = refl; blocks = refl })).1 in
    room-new (string_in c.args.arena.now.blocks) (string_in c.insert.new.arena.blocks) c.args.place c.from_reference-map.result c.insert.new.self
    c.args.key.now c.string_of.result.now from c.string_of.ensures.value sorted c.requires.counts c.args.given _
    c.in_ok-answer.ensures.step c.in_ok-answer.answer.before c.in_ok-answer.ensures.present new few

pub returns-clause-counts : goal.returns-clause-counts
returns-clause-counts c =
    let from = c.from_reference-map.ensures ∙ ap (λ p. p.root) c.place.view_is in
    let sorted = (c.content_is_sound.ensures c.args.arena.now.blocks c.args.place.root _ _
    (record { sound = c.requires.array; content = refl; blocks = refl })).0 in
    counts-inserted (string_in c.args.arena.now.blocks) (string_in c.insert.new.arena.blocks) c.args.place c.from_reference-map.result c.insert.new.self
    c.args.key.now c.string_of.result.now from c.string_of.ensures.value sorted c.requires.counts c.args.given _
    c.in_ok-answer.ensures.step c.in_ok-answer.answer.before c.in_ok-answer.ensures.present
    c.inserted.result c.in_ok-answer.answer.root c.in_ok-answer.ensures.root c.inserted.ensures.new c.inserted.ensures.present
