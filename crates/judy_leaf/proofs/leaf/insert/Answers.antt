use Rattle.std.proofs.Common.{Some, ap, sym, ◌∙◌, refl, subst, [], ◌∷◌}
use Rattle.judy_arena.specs.Blocks.{words_of}
use Rattle.judy_refs.specs.References.{kind_of}
use Rattle.judy_refs.specs.declared.Kind.TheVariants.{LinearLeaf}
use Rattle.judy_leaf.specs.Calls.{Makes}
use Rattle.judy_leaf.specs.Linear.{linear_entries}
use Rattle.judy_leaf.specs.Bytes.{bitmap_entries}
use Rattle.judy_leaf.proofs.lemmas.LeafLaws.{no-block, leaf-sound, entries-made, leaf-bits, numbers-of, puts-at, puts-other, first-puts, first-refused}
use Rattle.judy_leaf.specs.declared.answers.Put.TheVariants as put
use Rattle.judy_leaf.specs.Leaf.{leaf_size, size_by}
use Rattle.judy_leaf.specs.Calls.{Draws, DrawsNew}
use Rattle.judy_leaf.proofs.Draws.{size-at, drew-first}
use Rattle.judy_leaf.proofs.leaf.insert.Goals as goal

pub returns-in-Ok-clause-insertion : goal.returns-in-Ok-clause-insertion
returns-in-Ok-clause-insertion c = first-puts c.args.values c.args.arena.now c.single.new.arena c.args.leaf c.args.key c.args.value c.in-Ok.new
    (no-block c.args.leaf (sym c.block.ensures ∙ c.in_default.is))
    (subst (Makes c.args.values c.args.arena.now c.single.new.arena ((c.args.key, c.args.value) ∷ [])) c.in-Ok.is c.single.ensures.making)

pub returns-in-Err-clause-insertion : goal.returns-in-Err-clause-insertion
returns-in-Err-clause-insertion c =
    let h = subst (Makes c.args.values c.args.arena.now c.single.new.arena ((c.args.key, c.args.value) ∷ [])) c.in-Err.is c.single.ensures.making in
    first-refused c.args.values c.args.arena.now c.single.new.arena c.args.leaf c.args.key c.args.value
    (no-block c.args.leaf (sym c.block.ensures ∙ c.in_default.is)) h.0 h.1

pub insert-requires-clause-leaf : goal.insert-requires-clause-leaf
insert-requires-clause-leaf c = leaf-sound c.args.values c.args.arena.now.blocks c.args.leaf c.in-Some.block LinearLeaf
    (c.if-is_linear.ensures.yes refl) (sym c.block.ensures ∙ c.in-Some.is) c.requires.leaf

pub insert-requires-else-is_linear-clause-leaf : goal.insert-requires-else-is_linear-clause-leaf
insert-requires-else-is_linear-clause-leaf c =
    let l = leaf-bits c.args.values c.args.arena.now.blocks c.args.leaf c.in-Some.block c.requires.leaf
    (sym c.block.ensures ∙ c.in-Some.is) (c.if-is_linear.ensures.no refl) in
    (l.0, l.1, l.3)

pub returns-then-is_linear-clause-insertion : goal.returns-then-is_linear-clause-insertion
returns-then-is_linear-clause-insertion c = puts-at c.args.values c.args.arena.now c.insert.new.arena (Some LinearLeaf) (kind_of c.args.leaf)
    (linear_entries c.args.values (words_of c.args.arena.now.blocks c.in-Some.block)) _ (c.in-Some.block ∷ []) _ c.args.key
    c.args.value c.insert.result (sym (c.if-is_linear.ensures.yes refl))
    (sym (entries-made c.args.values c.args.arena.now.blocks c.args.leaf c.in-Some.block LinearLeaf
    (c.if-is_linear.ensures.yes refl) (sym c.block.ensures ∙ c.in-Some.is)))
    (sym (numbers-of c.args.arena.now.blocks c.args.leaf c.in-Some.block (sym c.block.ensures ∙ c.in-Some.is))) c.insert.ensures.insertion

pub returns-else-is_linear-clause-insertion : goal.returns-else-is_linear-clause-insertion
returns-else-is_linear-clause-insertion c = puts-at c.args.values c.args.arena.now c.insert-else-is_linear.new.arena (kind_of c.args.leaf)
    (kind_of c.args.leaf) (bitmap_entries c.args.values (words_of c.args.arena.now.blocks c.in-Some.block)) _
    (c.in-Some.block ∷ []) _ c.args.key c.args.value c.insert-else-is_linear.result refl
    (sym (leaf-bits c.args.values c.args.arena.now.blocks c.args.leaf c.in-Some.block c.requires.leaf
    (sym c.block.ensures ∙ c.in-Some.is) (c.if-is_linear.ensures.no refl)).2)
    (sym (numbers-of c.args.arena.now.blocks c.args.leaf c.in-Some.block (sym c.block.ensures ∙ c.in-Some.is)))
    (puts-other c.args.values c.args.arena.now c.insert-else-is_linear.new.arena (kind_of c.args.leaf)
    (bitmap_entries c.args.values (words_of c.args.arena.now.blocks c.in-Some.block)) (c.in-Some.block ∷ []) c.args.key
    c.args.value c.insert-else-is_linear.result (c.if-is_linear.ensures.no refl) c.insert-else-is_linear.ensures.insertion)

pub returns-in-Ok-clause-region : goal.returns-in-Ok-clause-region
returns-in-Ok-clause-region c =
    subst (λ n. Draws c.args.arena.now c.single.new.arena n (put.Done c.in-Ok.new))
    (sym (ap (size_by c.args.arena.now.blocks) (sym c.block.ensures ∙ c.in_default.is)))
    (drew-first c.args.arena.now c.single.new.arena (leaf_size c.single.new.arena.blocks c.in-Ok.new)
    (subst (DrawsNew c.args.arena.now c.single.new.arena) c.in-Ok.is c.single.ensures.region))

pub returns-then-is_linear-clause-region : goal.returns-then-is_linear-clause-region
returns-then-is_linear-clause-region c =
    subst (λ n. Draws c.args.arena.now c.insert.new.arena n c.insert.result)
    (sym (size-at c.args.arena.now.blocks c.args.leaf c.in-Some.block (sym c.block.ensures ∙ c.in-Some.is))) c.insert.ensures.region

pub returns-else-is_linear-clause-region : goal.returns-else-is_linear-clause-region
returns-else-is_linear-clause-region c =
    subst (λ n. Draws c.args.arena.now c.insert-else-is_linear.new.arena n c.insert-else-is_linear.result)
    (sym (size-at c.args.arena.now.blocks c.args.leaf c.in-Some.block (sym c.block.ensures ∙ c.in-Some.is)))
    c.insert-else-is_linear.ensures.region
