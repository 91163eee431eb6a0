use Rattle.std.proofs.Common.{◌+◌, ◌-◌, ◌*◌, suc, true, Some, drop, is_some, ◌∙◌, ap, sym, refl, subst, arith}
use Rattle.judy_model.specs.Contents.{word_order, value_of, with_entry}
use Rattle.judy_tree.specs.Root.{entries}
use Rattle.judy_packing.specs.Packing.{pack}
use Rattle.judy_string.specs.Changes.{IsRest, IsRewritten, IsHung, with_given}
use Rattle.judy_string.specs.Strings.{IsNestedAt}
use Rattle.judy_string.proofs.Options.{looked, no-value, on-err}
use Rattle.judy_string.proofs.Steps.{node-reference, rest-below, step-root, step-none, step-child, step-inner, step-stays}
use Rattle.judy_string.proofs.Inserts.{entered-last, entered-new, entered-below, entered-at, turned-at}
use Rattle.judy_arena.proofs.lemmas.TakeLaws.{takes-more, takes-rests}
use Rattle.judy_string.proofs.Taking.{for-key, for-any, for-err}
use Rattle.judy_string.proofs.insertion.+insert.Goals as goal

pub enter-requires : goal.enter-requires
enter-requires t c = step-root c.args.room c.args.arena.now.blocks c.args.node c.args.string.now c.requires.rest c.requires.node
    (sym c.is_suffix.ensures ∙ c.if-is_suffix.false)

pub returns-in_err-answer-clause-refused : goal.returns-in_err-answer-clause-refused
returns-in_err-answer-clause-refused t c = on-err c.from_residual.result (record {
  absent = step-none c.args.room c.args.arena.now.blocks c.args.node c.args.string.now c.requires.rest c.requires.node
      (sym c.is_suffix.ensures ∙ c.if-is_suffix.false)
      (no-value (value_of word_order (entries true c.args.arena.now.blocks c.args.node) (pack c.args.string.now))
      (ap (λ k. is_some (value_of word_order (entries true c.args.arena.now.blocks c.args.node) k)) (sym c.word_at-word.ensures)
      ∙ c.in_err-answer.ensures.absent));
  blocks = c.in_err-answer.ensures.unchanged;
  counted = c.in_err-answer.ensures.refusals;
})

pub returns-then-string-lt8-clause-done : goal.returns-then-string-lt8-clause-done
returns-then-string-lt8-clause-done t c =
    entered-last c.args.room c.args.arena.now c.enter.new.arena c.args.node c.args.string.now c.requires.rest c.requires.node
    c.args.given (sym c.is_suffix.ensures ∙ c.if-is_suffix.false) c.if-string-lt8.true c.in_ok-answer.answer.root
    c.in_ok-answer.answer.before
    (subst (λ k. IsRewritten c.args.arena.now.blocks c.enter.new.arena.blocks c.args.node c.in_ok-answer.answer.root
    (with_given word_order (entries true c.args.arena.now.blocks c.args.node) k c.args.given)) c.word_at-word.ensures
    c.in_ok-answer.ensures.done)
    (c.in_ok-answer.ensures.before ∙ ap (value_of word_order (entries true c.args.arena.now.blocks c.args.node))
    c.word_at-word.ensures) c.in_ok-answer.ensures.refusals

pub look-requires : goal.look-requires
look-requires t c = step-root c.args.room c.args.arena.now.blocks c.args.node c.args.string.now c.requires.rest c.requires.node
    (sym c.is_suffix.ensures ∙ c.if-is_suffix.false)

pub hang-requires-clause-absent : goal.hang-requires-clause-absent
hang-requires-clause-absent t c =
    let at = looked (entries true c.args.arena.now.blocks c.args.node) _ (pack c.args.string.now) _ _ c.word_at-word.ensures c.look.ensures c.in_default.is in
    ap is_some at

pub returns-in_err-root-clause-refused : goal.returns-in_err-root-clause-refused
returns-in_err-root-clause-refused t c =
    let at = looked (entries true c.args.arena.now.blocks c.args.node) _ (pack c.args.string.now) _ _ c.word_at-word.ensures c.look.ensures c.in_default.is in
    on-err c.from_residual-in_err-root.result (record {
      absent = step-none c.args.room c.args.arena.now.blocks c.args.node c.args.string.now c.requires.rest c.requires.node
          (sym c.is_suffix.ensures ∙ c.if-is_suffix.false) at;
      blocks = c.in_err-root.ensures.unchanged;
      counted = c.in_err-root.ensures.refusals;
    })

pub returns-in_default-clause-done : goal.returns-in_default-clause-done
returns-in_default-clause-done t c =
    let at = looked (entries true c.args.arena.now.blocks c.args.node) _ (pack c.args.string.now) _ _ c.word_at-word.ensures c.look.ensures c.in_default.is in
    entered-new c.args.room c.args.arena.now c.hang.new.arena c.args.node c.args.string.now c.requires.rest c.requires.node
    c.args.given (sym c.is_suffix.ensures ∙ c.if-is_suffix.false) at c.in_ok-root.root
    (subst (λ v. IsHung (suc c.args.room) c.args.arena.now.blocks c.hang.new.arena.blocks c.args.node c.args.string.now v
    c.in_ok-root.root) c.value_after.ensures c.in_ok-root.ensures.done) c.in_ok-root.ensures.refusals

pub known-child-requires : goal.known-child-requires
known-child-requires t c =
    let at = looked (entries true c.args.arena.now.blocks c.args.node) _ (pack c.args.string.now) _ _ c.word_at-word.ensures c.look.ensures c.in-Some.is in
    node-reference (suc (c.args.room - 1)) c.args.arena.now.blocks c.in-Some.value
    (step-child c.args.room c.args.arena.now.blocks c.args.node c.args.string.now c.requires.rest c.requires.node
    (sym c.is_suffix.ensures ∙ c.if-is_suffix.false) c.if-string-lt8.false c.in-Some.value at)

pub insert-requires : goal.insert-requires
insert-requires t c =
    let at = looked (entries true c.args.arena.now.blocks c.args.node) _ (pack c.args.string.now) _ _ c.word_at-word.ensures c.look.ensures c.in-Some.is in (
      omega (arith, c.decreases, c.requires.rest.short, c.if-string-lt8.false),
      (
        subst (IsRest (c.args.room - 1)) (sym c.tail.ensures) (rest-below c.args.room c.args.string.now c.requires.rest c.if-string-lt8.false),
        subst (IsNestedAt (suc (c.args.room - 1)) c.args.arena.now.blocks) (sym c.known-child.ensures)
            (step-child c.args.room c.args.arena.now.blocks c.args.node c.args.string.now c.requires.rest c.requires.node
            (sym c.is_suffix.ensures ∙ c.if-is_suffix.false) c.if-string-lt8.false c.in-Some.value at),
      ),
    )

pub returns-in_err-below-clause-refused : goal.returns-in_err-below-clause-refused
returns-in_err-below-clause-refused t c =
    let at = looked (entries true c.args.arena.now.blocks c.args.node) _ (pack c.args.string.now) _ _ c.word_at-word.ensures c.look.ensures c.in-Some.is in
    let below = turned-at (suc (c.args.room - 1)) c.args.arena.now c.insert.new.arena c.known-child.result c.in-Some.value
    c.tail.result.now (drop 8 c.args.string.now) c.known-child.ensures c.tail.ensures c.in_err-below.ensures.refused in
    on-err c.from_residual-in_err-below.result (record {
      absent = step-inner c.args.room c.args.arena.now.blocks c.args.node c.args.string.now c.requires.rest c.requires.node
          (sym c.is_suffix.ensures ∙ c.if-is_suffix.false) c.if-string-lt8.false c.in-Some.value at ∙ below.absent;
      blocks = below.blocks;
      counted = below.counted;
    })

pub lead-requires-clause-root : goal.lead-requires-clause-root
lead-requires-clause-root t c =
    let at = looked (entries true c.args.arena.now.blocks c.args.node) _ (pack c.args.string.now) _ _ c.word_at-word.ensures c.look.ensures c.in-Some.is in
    let below = entered-at (suc (c.args.room - 1)) c.args.arena.now c.insert.new.arena c.known-child.result c.in-Some.value c.tail.result.now
    (drop 8 c.args.string.now) c.args.given c.in_ok-below.below.root
    c.in_ok-below.below.before c.known-child.ensures c.tail.ensures c.in_ok-below.ensures.done in
    (step-stays c.args.room c.args.arena.now.blocks c.args.node c.args.string.now c.requires.rest c.requires.node
    (sym c.is_suffix.ensures ∙ c.if-is_suffix.false) c.if-string-lt8.false c.in-Some.value at c.insert.new.arena.blocks
    c.in_ok-below.below.root _ below.changed).0

pub lead-requires-clause-there : goal.lead-requires-clause-there
lead-requires-clause-there t c =
    let at = looked (entries true c.args.arena.now.blocks c.args.node) _ (pack c.args.string.now) _ _ c.word_at-word.ensures c.look.ensures c.in-Some.is in
    let below = entered-at (suc (c.args.room - 1)) c.args.arena.now c.insert.new.arena c.known-child.result c.in-Some.value c.tail.result.now
    (drop 8 c.args.string.now) c.args.given c.in_ok-below.below.root
    c.in_ok-below.below.before c.known-child.ensures c.tail.ensures c.in_ok-below.ensures.done in
    ap (value_of word_order (entries true c.insert.new.arena.blocks c.args.node)) c.word_at-word.ensures
    ∙ ap (λ es. value_of word_order es (pack c.args.string.now))
    (step-stays c.args.room c.args.arena.now.blocks c.args.node c.args.string.now c.requires.rest c.requires.node
    (sym c.is_suffix.ensures ∙ c.if-is_suffix.false) c.if-string-lt8.false c.in-Some.value at c.insert.new.arena.blocks
    c.in_ok-below.below.root _ below.changed).1
    ∙ at ∙ ap Some (sym c.known-child.ensures)

pub returns-clause-done : goal.returns-clause-done
returns-clause-done t c =
    let at = looked (entries true c.args.arena.now.blocks c.args.node) _ (pack c.args.string.now) _ _ c.word_at-word.ensures c.look.ensures c.in-Some.is in
    let below = entered-at (suc (c.args.room - 1)) c.args.arena.now c.insert.new.arena c.known-child.result c.in-Some.value c.tail.result.now
    (drop 8 c.args.string.now) c.args.given c.in_ok-below.below.root
    c.in_ok-below.below.before c.known-child.ensures c.tail.ensures c.in_ok-below.ensures.done in
    entered-below c.args.room c.args.arena.now c.lead.new.arena c.args.node c.args.string.now c.requires.rest c.requires.node c.args.given
    (sym c.is_suffix.ensures ∙ c.if-is_suffix.false) c.insert.new.arena c.in-Some.value c.in_ok-below.below.root
    c.in_ok-below.below.before c.if-string-lt8.false at below
    (subst (λ k. IsRewritten c.insert.new.arena.blocks c.lead.new.arena.blocks c.args.node c.args.node
    (with_entry word_order (entries true c.insert.new.arena.blocks c.args.node) k c.in_ok-below.below.root))
    c.word_at-word.ensures c.lead.ensures.done) c.lead.ensures.memory.refusals

-- ---- how many blocks it takes

pub returns-then-string-lt8-clause-memory : goal.returns-then-string-lt8-clause-memory
returns-then-string-lt8-clause-memory t c = for-key 64 (130 + 2 * c.args.room) _ _ c.args.arena.now c.enter.new.arena
    (ap is_some (sym c.in_ok-answer.ensures.before)) (omega arith) c.enter.ensures.memory

pub returns-in_err-answer-clause-memory : goal.returns-in_err-answer-clause-memory
returns-in_err-answer-clause-memory t c = for-err (130 + 2 * c.args.room) c.from_residual.result c.args.arena.now c.enter.new.arena
    c.from_residual.ensures.0 (for-any 64 (130 + 2 * c.args.room) _ c.args.arena.now c.enter.new.arena (omega arith) c.enter.ensures.memory)

pub returns-clause-memory : goal.returns-clause-memory
returns-clause-memory t c = for-key (130 + 2 * (c.args.room - 1)) (130 + 2 * c.args.room) _ _ c.args.arena.now c.lead.new.arena refl (omega arith)
    (takes-rests _ c.args.arena.now c.insert.new.arena c.lead.new.arena c.in_ok-below.ensures.memory c.lead.ensures.memory)

pub returns-in_err-below-clause-memory : goal.returns-in_err-below-clause-memory
returns-in_err-below-clause-memory t c = for-err (130 + 2 * c.args.room) c.from_residual-in_err-below.result c.args.arena.now c.insert.new.arena
    c.from_residual-in_err-below.ensures.0
    (takes-more (130 + 2 * (c.args.room - 1)) (130 + 2 * c.args.room) c.args.arena.now c.insert.new.arena (omega arith) c.in_err-below.ensures.memory)
