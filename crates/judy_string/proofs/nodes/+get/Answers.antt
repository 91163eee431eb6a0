use Rattle.std.proofs.Common.{◌-◌, suc, true, ◌∙◌, ap, sym, subst, arith}
use Rattle.judy_model.specs.Contents.{string_order, value_of}
use Rattle.judy_tree.specs.Root.{entries}
use Rattle.judy_packing.specs.Packing.{pack}
use Rattle.judy_string.specs.Changes.{IsRest}
use Rattle.judy_string.specs.Strings.{nested_content_at, IsNestedAt}
use Rattle.judy_string.proofs.Steps.{node-reference, rest-below, suffix-sound, suffix-value, step-root, step-none, step-last, step-child, step-inner}
use Rattle.judy_string.proofs.Options.{looked}
use Rattle.judy_string.proofs.nodes.+get.Goals as goal

pub get-requires-clause-sound : goal.get-requires-clause-sound
get-requires-clause-sound t c = (
  c.args.room,
  suffix-sound c.args.room c.args.arena.now.blocks c.args.node c.args.string.now
      c.requires.rest c.requires.node (sym c.is_suffix.ensures ∙ c.if-is_suffix.true),
)

pub returns-then-is_suffix : goal.returns-then-is_suffix
returns-then-is_suffix t c = c.get.ensures ∙ suffix-value c.args.room c.args.arena.now.blocks c.args.node c.args.string.now
    c.requires.rest c.requires.node (sym c.is_suffix.ensures ∙ c.if-is_suffix.true)

pub look-requires : goal.look-requires
look-requires t c = step-root c.args.room c.args.arena.now.blocks c.args.node c.args.string.now c.requires.rest c.requires.node
    (sym c.is_suffix.ensures ∙ c.if-is_suffix.false)

pub returns-in_default : goal.returns-in_default
returns-in_default t c =
    let at = looked (entries true c.args.arena.now.blocks c.args.node) _ (pack c.args.string.now) _ _ c.word_at.ensures c.look.ensures c.in_default.is in
    sym (step-none c.args.room c.args.arena.now.blocks c.args.node c.args.string.now c.requires.rest c.requires.node
    (sym c.is_suffix.ensures ∙ c.if-is_suffix.false) at)

pub returns-then-string-lt8 : goal.returns-then-string-lt8
returns-then-string-lt8 t c =
    let at = looked (entries true c.args.arena.now.blocks c.args.node) _ (pack c.args.string.now) _ _ c.word_at.ensures c.look.ensures c.in-Some.is in
    sym (step-last c.args.room c.args.arena.now.blocks c.args.node c.args.string.now c.requires.rest c.requires.node
    (sym c.is_suffix.ensures ∙ c.if-is_suffix.false) c.if-string-lt8.true ∙ at)

pub known-requires : goal.known-requires
known-requires t c =
    let at = looked (entries true c.args.arena.now.blocks c.args.node) _ (pack c.args.string.now) _ _ c.word_at.ensures c.look.ensures c.in-Some.is in
    node-reference (suc (c.args.room - 1)) c.args.arena.now.blocks c.in-Some.value
    (step-child c.args.room c.args.arena.now.blocks c.args.node c.args.string.now c.requires.rest c.requires.node
    (sym c.is_suffix.ensures ∙ c.if-is_suffix.false) c.if-string-lt8.false c.in-Some.value at)

pub get-requires-2 : goal.get-requires-2
get-requires-2 t c =
    let at = looked (entries true c.args.arena.now.blocks c.args.node) _ (pack c.args.string.now) _ _ c.word_at.ensures c.look.ensures c.in-Some.is in (
      omega (arith, c.decreases, c.requires.rest.short, c.if-string-lt8.false),
      (
        subst (IsRest (c.args.room - 1)) (sym c.tail.ensures) (rest-below c.args.room c.args.string.now c.requires.rest c.if-string-lt8.false),
        subst (IsNestedAt (suc (c.args.room - 1)) c.args.arena.now.blocks) (sym c.known.ensures)
            (step-child c.args.room c.args.arena.now.blocks c.args.node c.args.string.now c.requires.rest c.requires.node
            (sym c.is_suffix.ensures ∙ c.if-is_suffix.false) c.if-string-lt8.false c.in-Some.value at),
      ),
    )

pub returns : goal.returns
returns t c =
    let at = looked (entries true c.args.arena.now.blocks c.args.node) _ (pack c.args.string.now) _ _ c.word_at.ensures c.look.ensures c.in-Some.is in
    c.get-2.ensures ∙ ap (λ u. value_of string_order (nested_content_at (suc (c.args.room - 1)) c.args.arena.now.blocks u) c.tail.result.now) c.known.ensures
    ∙ ap (value_of string_order (nested_content_at (suc (c.args.room - 1)) c.args.arena.now.blocks c.in-Some.value)) c.tail.ensures
    ∙ sym (step-inner c.args.room c.args.arena.now.blocks c.args.node c.args.string.now c.requires.rest c.requires.node
    (sym c.is_suffix.ensures ∙ c.if-is_suffix.false) c.if-string-lt8.false c.in-Some.value at)
