use Rattle.std.proofs.Common.{ap, ◌∙◌, refl}
use Rattle.judy_string.specs.StringArrays.{string_in}
use Rattle.judy_kinds.proofs.Counted.{pieces-held, counts-gone, counts-stay}
use Rattle.judy_kinds.proofs.string.delete.Goals as goal

pub returns-then-not-delete-clause-counts : goal.returns-then-not-delete-clause-counts
returns-then-not-delete-clause-counts c =
    let from = c.from_reference-map.ensures ∙ ap (λ p. p.root) c.place.view_is in
    let sorted = (c.content_is_sound.ensures c.args.arena.now.blocks c.args.place.root _ _
    (record { sound = c.requires.array; content = refl; blocks = refl })).0 in
    counts-stay (string_in c.args.arena.now.blocks) (string_in c.delete.new.arena.blocks) c.args.place c.from_reference-map.result c.delete.new.self
    c.args.key.now c.string_of.result.now from c.string_of.ensures.value sorted c.requires.counts c.delete.result
    c.delete.ensures.there c.delete.ensures.content
    c.if-not-delete.true c.kept.result c.reference.result c.reference.ensures c.kept.ensures

pub shrunk-requires-clause-pieces : goal.shrunk-requires-clause-pieces
shrunk-requires-clause-pieces c =
    let from = c.from_reference-map.ensures ∙ ap (λ p. p.root) c.place.view_is in
    let sorted = (c.content_is_sound.ensures c.args.arena.now.blocks c.args.place.root _ _
    (record { sound = c.requires.array; content = refl; blocks = refl })).0 in
    pieces-held (string_in c.args.arena.now.blocks) (string_in c.delete.new.arena.blocks) c.args.place c.from_reference-map.result c.delete.new.self
    c.args.key.now c.string_of.result.now from c.string_of.ensures.value sorted c.requires.counts c.delete.result
    c.delete.ensures.there c.delete.ensures.content
    c.if-not-delete.false

pub returns-clause-counts : goal.returns-clause-counts
returns-clause-counts c =
    let from = c.from_reference-map.ensures ∙ ap (λ p. p.root) c.place.view_is in
    let sorted = (c.content_is_sound.ensures c.args.arena.now.blocks c.args.place.root _ _
    (record { sound = c.requires.array; content = refl; blocks = refl })).0 in
    counts-gone (string_in c.args.arena.now.blocks) (string_in c.delete.new.arena.blocks) c.args.place c.from_reference-map.result c.delete.new.self
    c.args.key.now c.string_of.result.now from c.string_of.ensures.value sorted c.requires.counts c.delete.result
    c.delete.ensures.there c.delete.ensures.content
    c.if-not-delete.false c.shrunk.result c.reference-2.result c.reference-2.ensures c.shrunk.ensures
