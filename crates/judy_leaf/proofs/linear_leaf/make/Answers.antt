use Rattle.std.proofs.Common.{length, [], ap, ◌∙◌, sym}
use Rattle.judy_leaf.specs.Linear.{linear_size}
use Rattle.judy_leaf.proofs.RoomFacts.{taken-sized}
use Rattle.judy_refs.specs.declared.Kind.TheVariants.{LinearLeaf}
use Rattle.judy_leaf.proofs.lemmas.LeafLaws.{lent-becomes, lent-words, taken-frame}
use Rattle.judy_arena.proofs.lemmas.DrawLaws.{drew-block}
use Rattle.judy_leaf.proofs.Draws.{size-at, zero-words}
use Rattle.judy_arena.specs.Room.{room}
use Rattle.judy_leaf.proofs.linear_leaf.make.Goals as goal

pub returns-clause-making : goal.returns-clause-making
returns-clause-making c = lent-becomes c.args.values c.args.arena.now c.alloc.new.self [] _ c.refer.result c.in-Ok.block c.fill.new.words
    LinearLeaf c.refer.ensures.kind c.refer.ensures.block
    (taken-frame c.args.arena.now.blocks c.alloc.new.self.blocks c.in-Ok.block _ c.in-Ok.ensures.fresh c.in-Ok.ensures.blocks) c.in-Ok.ensures.refusals
    (c.fill.auto.words ∙ ap length c.words_mut.ensures.value) (
      c.fill.ensures.leaf,
      taken-sized (linear_size c.args.values)
          c.size.result c.fill.new.words (c.fill.auto.words ∙ ap length (c.words_mut.ensures.value ∙ c.in-Ok.ensures.words))
          (c.size.ensures ∙ ap (linear_size c.args.values) (sym c.fill.ensures.count)),
    ) c.fill.ensures.entries

pub returns-clause-region : goal.returns-clause-region
returns-clause-region c =
    let size = c.fill.auto.words ∙ ap length c.words_mut.ensures.value in
    let zeros = c.fill.auto.words ∙ ap length (c.words_mut.ensures.value ∙ c.in-Ok.ensures.words) ∙ zero-words (room c.size.result) in
    drew-block c.args.arena.now _ _ (room c.size.result)
    (size-at _ c.refer.result c.in-Ok.block c.refer.ensures.block
    ∙ ap length (lent-words c.alloc.new.self c.in-Ok.block c.fill.new.words size) ∙ zeros)
    c.alloc.ensures.reuse c.in-Ok.ensures.growth
