use Rattle.std.proofs.Common.{◌≡◌, ◌∙◌, true, refl, sym, subst, ap}
use Rattle.judy_model.specs.Grammar.{is_string}
use Rattle.judy_string.specs.StringArrays.{string_in, string_numbers}
use Rattle.judy_arena.proofs.lemmas.FrameLaws.{frame-same}
use Rattle.judy_kinds.proofs.Popped.{popped_key}
use Rattle.judy_kinds.proofs.string.pop.Goals as goal

pub delete-requires-clause-key : goal.delete-requires-clause-key
delete-requires-clause-key c =
    let b = c.args.arena.now.blocks in
    let all = (c.content_is_sound.ensures b c.args.place.root (string_in b c.args.place.root) (string_numbers b c.args.place.root)
    (record { sound = c.requires.array; content = refl; blocks = refl })).2 in
    subst (λ k. is_string k ≡ true) (sym (c.of-found.ensures ∙ c.as_slice.ensures.value))
    (popped_key b c.from_reference-map.result c.args.place.root c.string_of.result.now c.first.new.buffer.items c.first.result c.in-Some.value _
    (c.from_reference-map.ensures ∙ ap (λ p. p.root) c.place.view_is) all refl c.first.ensures.found c.in-Some.is)

pub returns-in-None-clause-array : goal.returns-in-None-clause-array
returns-in-None-clause-array c = record {
  sound = c.requires.array;
  frame = frame-same c.args.arena.now.blocks (string_numbers c.args.arena.now.blocks c.args.place.root)
      (c.blocks_are_live.ensures c.args.arena.now.blocks c.args.place.root _ _
      (record { sound = c.requires.array; content = refl; blocks = refl })).0;
}
