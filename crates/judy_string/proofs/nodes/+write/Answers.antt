use Rattle.std.proofs.Common.{◌≡◌, ◌-◌, suc, true, drop, ◌∙◌, ap, sym, subst, arith}
use Rattle.judy_model.specs.Contents.{word_order, string_order, has_key, with_entry}
use Rattle.judy_tree.specs.Root.{entries}
use Rattle.judy_packing.specs.Packing.{pack}
use Rattle.judy_string.specs.Changes.{IsRest, IsRewritten}
use Rattle.judy_string.specs.Strings.{IsNestedAt, IsChanged, nested_content_at}
use Rattle.judy_string.proofs.Steps.{node-reference, rest-below, suffix-live, step-root, step-child, last-put}
use Rattle.judy_string.proofs.Inserts.{written-suffix, last-there, never-absent, below-there, written-below}
use Rattle.judy_string.proofs.Options.{looked}
use Rattle.judy_string.proofs.nodes.+write.Goals as goal

pub write-requires-clause-live : goal.write-requires-clause-live
write-requires-clause-live t c = suffix-live c.args.room c.args.arena.now.blocks c.args.node c.args.string.now c.requires.rest
    c.requires.node (sym c.is_suffix.ensures ∙ c.if-is_suffix.true)

pub returns-then-is_suffix-clause-changed : goal.returns-then-is_suffix-clause-changed
returns-then-is_suffix-clause-changed t c =
    written-suffix c.args.room c.args.arena.now c.write.new.arena c.args.node c.args.string.now c.args.value c.requires.rest
    c.requires.node c.requires.there c.ranges.value.fits (sym c.is_suffix.ensures ∙ c.if-is_suffix.true) c.write.ensures.blocks
    c.write.ensures.memory.refusals

pub write-requires-then-string-lt8-clause-root : goal.write-requires-then-string-lt8-clause-root
write-requires-then-string-lt8-clause-root t c = step-root c.args.room c.args.arena.now.blocks c.args.node c.args.string.now
    c.requires.rest c.requires.node (sym c.is_suffix.ensures ∙ c.if-is_suffix.false)

pub write-requires-then-string-lt8-clause-there : goal.write-requires-then-string-lt8-clause-there
write-requires-then-string-lt8-clause-there t c =
    ap (has_key word_order (entries true c.args.arena.now.blocks c.args.node)) c.word_at-word.ensures
    ∙ last-there c.args.room c.args.arena.now c.args.arena.now c.args.node c.args.string.now c.args.value c.requires.rest c.requires.node c.requires.there
    (sym c.is_suffix.ensures ∙ c.if-is_suffix.false) c.if-string-lt8.true

pub returns-then-string-lt8-clause-changed : goal.returns-then-string-lt8-clause-changed
returns-then-string-lt8-clause-changed t c =
    last-put c.args.room c.args.arena.now.blocks c.args.node c.args.string.now c.requires.rest c.requires.node
    (sym c.is_suffix.ensures ∙ c.if-is_suffix.false) c.if-string-lt8.true c.write-then-string-lt8.new.arena.blocks c.args.node
    c.args.value
    (subst (λ k. IsRewritten c.args.arena.now.blocks c.write-then-string-lt8.new.arena.blocks c.args.node c.args.node
    (with_entry word_order (entries true c.args.arena.now.blocks c.args.node) k c.args.value)) c.word_at-word.ensures
    c.write-then-string-lt8.ensures.done)

pub look-requires : goal.look-requires
look-requires t c = step-root c.args.room c.args.arena.now.blocks c.args.node c.args.string.now c.requires.rest c.requires.node
    (sym c.is_suffix.ensures ∙ c.if-is_suffix.false)

pub known-requires : goal.known-requires
known-requires t c =
    let at = looked (entries true c.args.arena.now.blocks c.args.node) _ (pack c.args.string.now) _ _ c.word_at-word.ensures c.look.ensures c.in-Some.is in
    node-reference (suc (c.args.room - 1)) c.args.arena.now.blocks c.in-Some.child
    (step-child c.args.room c.args.arena.now.blocks c.args.node c.args.string.now c.requires.rest c.requires.node
    (sym c.is_suffix.ensures ∙ c.if-is_suffix.false) c.if-string-lt8.false c.in-Some.child at)

pub write-requires-in-Some : goal.write-requires-in-Some
write-requires-in-Some t c =
    let at = looked (entries true c.args.arena.now.blocks c.args.node) _ (pack c.args.string.now) _ _ c.word_at-word.ensures c.look.ensures c.in-Some.is in (
      omega (arith, c.decreases, c.requires.rest.short, c.if-string-lt8.false),
      (
        subst (IsRest (c.args.room - 1)) (sym c.tail.ensures) (rest-below c.args.room c.args.string.now c.requires.rest c.if-string-lt8.false),
        (
          subst (IsNestedAt (suc (c.args.room - 1)) c.args.arena.now.blocks) (sym c.known.ensures)
              (step-child c.args.room c.args.arena.now.blocks c.args.node c.args.string.now c.requires.rest c.requires.node
              (sym c.is_suffix.ensures ∙ c.if-is_suffix.false) c.if-string-lt8.false c.in-Some.child at),
          subst (λ u. has_key string_order (nested_content_at (suc (c.args.room - 1)) c.args.arena.now.blocks u) c.tail.result.now ≡ true) (sym c.known.ensures)
              (subst (λ s. has_key string_order (nested_content_at (suc (c.args.room - 1)) c.args.arena.now.blocks c.in-Some.child) s ≡ true)
              (sym c.tail.ensures) (below-there c.args.room c.args.arena.now c.args.arena.now c.args.node c.args.string.now
              c.args.value c.requires.rest c.requires.node c.requires.there (sym c.is_suffix.ensures ∙ c.if-is_suffix.false)
              c.if-string-lt8.false c.in-Some.child at)),
        ),
      ),
    )

pub returns-in-Some-clause-changed : goal.returns-in-Some-clause-changed
returns-in-Some-clause-changed t c =
    let at = looked (entries true c.args.arena.now.blocks c.args.node) _ (pack c.args.string.now) _ _ c.word_at-word.ensures c.look.ensures c.in-Some.is in
    written-below c.args.room c.args.arena.now c.write-in-Some.new.arena c.args.node c.args.string.now c.args.value
    c.requires.rest c.requires.node c.requires.there (sym c.is_suffix.ensures ∙ c.if-is_suffix.false) c.if-string-lt8.false
    c.in-Some.child at
    (subst (λ u. IsChanged (suc (c.args.room - 1)) c.args.arena.now.blocks c.write-in-Some.new.arena.blocks u u
    (with_entry string_order (nested_content_at (suc (c.args.room - 1)) c.args.arena.now.blocks u) (drop 8 c.args.string.now)
    c.args.value)) c.known.ensures
    (subst (λ s. IsChanged (suc (c.args.room - 1)) c.args.arena.now.blocks c.write-in-Some.new.arena.blocks c.known.result c.known.result
    (with_entry string_order (nested_content_at (suc
    (c.args.room - 1)) c.args.arena.now.blocks c.known.result) s c.args.value)) c.tail.ensures c.write-in-Some.ensures.changed))

pub returns-in_default-clause-changed : goal.returns-in_default-clause-changed
returns-in_default-clause-changed t c =
    let at = looked (entries true c.args.arena.now.blocks c.args.node) _ (pack c.args.string.now) _ _ c.word_at-word.ensures c.look.ensures c.in_default.is in
    absurd (never-absent c.args.room c.args.arena.now c.args.arena.now c.args.node c.args.string.now c.args.value c.requires.rest
    c.requires.node c.requires.there (sym c.is_suffix.ensures ∙ c.if-is_suffix.false) at)
