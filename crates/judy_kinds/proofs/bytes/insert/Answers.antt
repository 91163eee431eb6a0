use Rattle.std.proofs.Common.{ap, ◌∙◌, refl}
use Rattle.judy_bytes.specs.BytesArrays.{bytes_in}
use Rattle.judy_kinds.proofs.Counted.{room-new, counts-inserted}
use Rattle.judy_kinds.proofs.bytes.insert.Goals as goal

pub inserted-requires-clause-entries : goal.inserted-requires-clause-entries
inserted-requires-clause-entries g c new =
    let from = c.from_reference-map.ensures ∙ ap (λ p. p.root) c.place.view_is in
    let sorted = (c.content_is_sound.ensures g.H.KeyHash.hashed c.args.arena.now.blocks c.args.place.root _ _
    (record { sound = c.requires.array; content = refl; blocks = refl })).0 in
    let few = (c.content_is_sound.ensures g.H.KeyHash.hashed c.insert.new.arena.blocks c.insert.new.self.words _ _
    (record { sound = c.in_ok-answer.ensures.array.sound; content = refl; blocks = refl })).2 in
    room-new (bytes_in c.args.arena.now.blocks) (bytes_in c.insert.new.arena.blocks) c.args.place c.from_reference-map.result.words c.insert.new.self.words
    c.args.key.now c.as_bytes.result.now from c.as_bytes.ensures.value sorted c.requires.counts c.args.given _
    c.in_ok-answer.ensures.step c.in_ok-answer.answer.before c.in_ok-answer.ensures.present new few

pub returns-clause-counts : goal.returns-clause-counts
returns-clause-counts g c =
    let from = c.from_reference-map.ensures ∙ ap (λ p. p.root) c.place.view_is in
    let sorted = (c.content_is_sound.ensures g.H.KeyHash.hashed c.args.arena.now.blocks c.args.place.root _ _
    (record { sound = c.requires.array; content = refl; blocks = refl })).0 in
    counts-inserted (bytes_in c.args.arena.now.blocks) (bytes_in c.insert.new.arena.blocks) c.args.place c.from_reference-map.result.words c.insert.new.self.words
    c.args.key.now c.as_bytes.result.now from c.as_bytes.ensures.value sorted c.requires.counts c.args.given _
    c.in_ok-answer.ensures.step c.in_ok-answer.answer.before c.in_ok-answer.ensures.present
    c.inserted.result c.in_ok-answer.answer.root c.in_ok-answer.ensures.root c.inserted.ensures.new c.inserted.ensures.present
