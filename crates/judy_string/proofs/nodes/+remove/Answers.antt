use Rattle.std.proofs.Common.{◌-◌, suc, true, Some, None, is_some, ◌∙◌, ap, sym, refl, subst, arith}
use Rattle.judy_model.specs.Contents.{word_order, value_of, with_entry, without_key}
use Rattle.judy_tree.specs.Root.{entries}
use Rattle.judy_packing.specs.Packing.{pack}
use Rattle.judy_string.specs.Changes.{IsRest, IsRewritten, RemovesString, HasLost}
use Rattle.judy_string.specs.Strings.{IsNestedAt}
use Rattle.judy_string.proofs.Maps.{map-kind}
use Rattle.judy_string.proofs.Options.{a-value, looked, no-value}
use Rattle.judy_string.proofs.Steps.{node-reference, rest-below, suffix-sound, suffix-value, suffix-live, suffix-lost}
use Rattle.judy_string.proofs.Steps.{step-root, step-none, step-last, last-taken, step-child, step-inner, step-stays}
use Rattle.judy_string.proofs.Steps.{step-without, step-gone, lost-below}
use Rattle.judy_string.proofs.nodes.+remove.Goals as goal

pub get-requires-clause-sound : goal.get-requires-clause-sound
get-requires-clause-sound t c = (
  c.args.room,
  suffix-sound c.args.room c.args.arena.now.blocks c.args.node c.args.string.now
      c.requires.rest c.requires.node (sym c.is_suffix.ensures ∙ c.if-is_suffix.true),
)

pub returns-then-is_none-clause-removal : goal.returns-then-is_none-clause-removal
returns-then-is_none-clause-removal t c = (
  sym (suffix-value c.args.room c.args.arena.now.blocks c.args.node c.args.string.now c.requires.rest c.requires.node
      (sym c.is_suffix.ensures ∙ c.if-is_suffix.true)) ∙ sym c.get.ensures ∙ no-value c.get.result c.if-is_none.ensures,
  refl,
)

pub release-requires-clause-live : goal.release-requires-clause-live
release-requires-clause-live t c = suffix-live c.args.room c.args.arena.now.blocks c.args.node c.args.string.now c.requires.rest
    c.requires.node (sym c.is_suffix.ensures ∙ c.if-is_suffix.true)

pub returns-then-is_suffix-clause-removal : goal.returns-then-is_suffix-clause-removal
returns-then-is_suffix-clause-removal t c =
    let v = a-value c.get.result c.if-is_none.ensures in
    suffix-lost c.args.room c.args.arena.now.blocks c.args.node c.args.string.now c.requires.rest c.requires.node
    (sym c.is_suffix.ensures ∙ c.if-is_suffix.true)
    c.args.arena.now c.release.new.arena v.0 refl (sym c.get.ensures ∙ v.1) c.release.ensures.blocks

pub look-requires : goal.look-requires
look-requires t c = step-root c.args.room c.args.arena.now.blocks c.args.node c.args.string.now c.requires.rest c.requires.node
    (sym c.is_suffix.ensures ∙ c.if-is_suffix.false)

pub returns-in_default-clause-removal : goal.returns-in_default-clause-removal
returns-in_default-clause-removal t c =
    let at = looked (entries true c.args.arena.now.blocks c.args.node) _ (pack c.args.string.now) _ _ c.word_at-word.ensures c.look.ensures c.in_default.is in (
      step-none c.args.room c.args.arena.now.blocks c.args.node c.args.string.now c.requires.rest c.requires.node
          (sym c.is_suffix.ensures ∙ c.if-is_suffix.false) at,
      refl,
    )

pub take-requires : goal.take-requires
take-requires t c = step-root c.args.room c.args.arena.now.blocks c.args.node c.args.string.now c.requires.rest c.requires.node
    (sym c.is_suffix.ensures ∙ c.if-is_suffix.false)

pub returns-then-string-lt8-clause-removal : goal.returns-then-string-lt8-clause-removal
returns-then-string-lt8-clause-removal t c =
    let no = sym c.is_suffix.ensures ∙ c.if-is_suffix.false in
    let at = looked (entries true c.args.arena.now.blocks c.args.node) _ (pack c.args.string.now) _ _ c.word_at-word.ensures c.look.ensures c.in-Some.is in
    record {
      there = ap is_some (step-last c.args.room c.args.arena.now.blocks c.args.node c.args.string.now c.requires.rest
          c.requires.node no c.if-string-lt8.true ∙ at);
      changed = last-taken c.args.room c.args.arena.now.blocks c.args.node c.args.string.now c.requires.rest c.requires.node no
          c.if-string-lt8.true c.take.new.arena.blocks c.take.result
          (subst (λ k. IsRewritten c.args.arena.now.blocks c.take.new.arena.blocks c.args.node c.take.result
          (without_key word_order (entries true c.args.arena.now.blocks c.args.node) k)) c.word_at-word.ensures
          c.take.ensures.done);
      kind = λ _. map-kind c.take.new.arena.blocks c.take.result c.take.ensures.done.root;
    }

pub known-child-requires : goal.known-child-requires
known-child-requires t c =
    let at = looked (entries true c.args.arena.now.blocks c.args.node) _ (pack c.args.string.now) _ _ c.word_at-word.ensures c.look.ensures c.in-Some.is in
    node-reference (suc (c.args.room - 1)) c.args.arena.now.blocks c.in-Some.value
    (step-child c.args.room c.args.arena.now.blocks c.args.node c.args.string.now c.requires.rest c.requires.node
    (sym c.is_suffix.ensures ∙ c.if-is_suffix.false) c.if-string-lt8.false c.in-Some.value at)

pub remove-requires : goal.remove-requires
remove-requires t c =
    let at = looked (entries true c.args.arena.now.blocks c.args.node) _ (pack c.args.string.now) _ _ c.word_at-word.ensures c.look.ensures c.in-Some.is in (
      omega (arith, c.decreases, c.requires.rest.short, c.if-string-lt8.false),
      (
        subst (IsRest (c.args.room - 1)) (sym c.tail.ensures) (rest-below c.args.room c.args.string.now c.requires.rest c.if-string-lt8.false),
        subst (IsNestedAt (suc (c.args.room - 1)) c.args.arena.now.blocks) (sym c.known-child.ensures)
            (step-child c.args.room c.args.arena.now.blocks c.args.node c.args.string.now c.requires.rest c.requires.node
            (sym c.is_suffix.ensures ∙ c.if-is_suffix.false) c.if-string-lt8.false c.in-Some.value at),
      ),
    )

pub returns-in_default-remove-clause-removal : goal.returns-in_default-remove-clause-removal
returns-in_default-remove-clause-removal t c =
    let at = looked (entries true c.args.arena.now.blocks c.args.node) _ (pack c.args.string.now) _ _ c.word_at-word.ensures c.look.ensures c.in-Some.is in
    let below = lost-below (suc (c.args.room - 1)) c.args.arena.now c.remove.new.arena c.known-child.result c.in-Some.value
    c.tail.result.now _ None c.known-child.ensures c.tail.ensures
    (subst (RemovesString (suc (c.args.room - 1)) c.args.arena.now c.remove.new.arena c.known-child.result c.tail.result.now)
    c.in_default-remove.is c.remove.ensures.removal) in (
      step-inner c.args.room c.args.arena.now.blocks c.args.node c.args.string.now c.requires.rest c.requires.node
          (sym c.is_suffix.ensures ∙ c.if-is_suffix.false) c.if-string-lt8.false c.in-Some.value at ∙ below.0,
      below.1,
    )

pub take-requires-then-word-eq0 : goal.take-requires-then-word-eq0
take-requires-then-word-eq0 t c =
    let at = looked (entries true c.args.arena.now.blocks c.args.node) _ (pack c.args.string.now) _ _ c.word_at-word.ensures c.look.ensures c.in-Some.is in
    let below : HasLost (suc (c.args.room - 1)) c.args.arena.now c.remove.new.arena c.in-Some.value _ c.in-Some-remove.left = lost-below
    (suc (c.args.room - 1)) c.args.arena.now c.remove.new.arena c.known-child.result c.in-Some.value c.tail.result.now _
    (Some c.in-Some-remove.left) c.known-child.ensures c.tail.ensures
    (subst (RemovesString (suc (c.args.room - 1)) c.args.arena.now c.remove.new.arena c.known-child.result c.tail.result.now)
    c.in-Some-remove.is c.remove.ensures.removal) in
    (step-stays c.args.room c.args.arena.now.blocks c.args.node c.args.string.now c.requires.rest c.requires.node
    (sym c.is_suffix.ensures ∙ c.if-is_suffix.false) c.if-string-lt8.false c.in-Some.value at c.remove.new.arena.blocks
    c.in-Some-remove.left _ below.changed).0

pub returns-then-word-eq0-clause-removal : goal.returns-then-word-eq0-clause-removal
returns-then-word-eq0-clause-removal t c =
    let no = sym c.is_suffix.ensures ∙ c.if-is_suffix.false in
    let at = looked (entries true c.args.arena.now.blocks c.args.node) _ (pack c.args.string.now) _ _ c.word_at-word.ensures c.look.ensures c.in-Some.is in
    let below : HasLost (suc (c.args.room - 1)) c.args.arena.now c.remove.new.arena c.in-Some.value _ c.in-Some-remove.left = lost-below
    (suc (c.args.room - 1)) c.args.arena.now c.remove.new.arena c.known-child.result c.in-Some.value c.tail.result.now _
    (Some c.in-Some-remove.left) c.known-child.ensures c.tail.ensures
    (subst (RemovesString (suc (c.args.room - 1)) c.args.arena.now c.remove.new.arena c.known-child.result c.tail.result.now)
    c.in-Some-remove.is c.remove.ensures.removal) in
    record {
      there = ap is_some (step-inner c.args.room c.args.arena.now.blocks c.args.node c.args.string.now c.requires.rest
          c.requires.node no c.if-string-lt8.false c.in-Some.value at) ∙ below.there;
      changed = step-gone c.args.room c.args.arena.now.blocks c.args.node c.args.string.now c.requires.rest c.requires.node no
          c.if-string-lt8.false c.in-Some.value at c.remove.new.arena.blocks c.take-then-word-eq0.new.arena.blocks
          c.take-then-word-eq0.result c.in-Some-remove.left (sym c.word.ensures ∙ c.if-word-eq0.true) below.changed
          (subst (λ k. IsRewritten c.remove.new.arena.blocks c.take-then-word-eq0.new.arena.blocks c.args.node
          c.take-then-word-eq0.result (without_key word_order (entries true c.remove.new.arena.blocks c.args.node) k))
          c.word_at-word.ensures c.take-then-word-eq0.ensures.done);
      kind = λ _. map-kind c.take-then-word-eq0.new.arena.blocks c.take-then-word-eq0.result c.take-then-word-eq0.ensures.done.root;
    }

pub lead-requires-clause-root : goal.lead-requires-clause-root
lead-requires-clause-root t c =
    let at = looked (entries true c.args.arena.now.blocks c.args.node) _ (pack c.args.string.now) _ _ c.word_at-word.ensures c.look.ensures c.in-Some.is in
    let below : HasLost (suc (c.args.room - 1)) c.args.arena.now c.remove.new.arena c.in-Some.value _ c.in-Some-remove.left = lost-below
    (suc (c.args.room - 1)) c.args.arena.now c.remove.new.arena c.known-child.result c.in-Some.value c.tail.result.now _
    (Some c.in-Some-remove.left) c.known-child.ensures c.tail.ensures
    (subst (RemovesString (suc (c.args.room - 1)) c.args.arena.now c.remove.new.arena c.known-child.result c.tail.result.now)
    c.in-Some-remove.is c.remove.ensures.removal) in
    (step-stays c.args.room c.args.arena.now.blocks c.args.node c.args.string.now c.requires.rest c.requires.node
    (sym c.is_suffix.ensures ∙ c.if-is_suffix.false) c.if-string-lt8.false c.in-Some.value at c.remove.new.arena.blocks
    c.in-Some-remove.left _ below.changed).0

pub lead-requires-clause-there : goal.lead-requires-clause-there
lead-requires-clause-there t c =
    let at = looked (entries true c.args.arena.now.blocks c.args.node) _ (pack c.args.string.now) _ _ c.word_at-word.ensures c.look.ensures c.in-Some.is in
    let below : HasLost (suc (c.args.room - 1)) c.args.arena.now c.remove.new.arena c.in-Some.value _ c.in-Some-remove.left = lost-below
    (suc (c.args.room - 1)) c.args.arena.now c.remove.new.arena c.known-child.result c.in-Some.value c.tail.result.now _
    (Some c.in-Some-remove.left) c.known-child.ensures c.tail.ensures
    (subst (RemovesString (suc (c.args.room - 1)) c.args.arena.now c.remove.new.arena c.known-child.result c.tail.result.now)
    c.in-Some-remove.is c.remove.ensures.removal) in
    ap (value_of word_order (entries true c.remove.new.arena.blocks c.args.node)) c.word_at-word.ensures
    ∙ ap (λ es. value_of word_order es (pack c.args.string.now))
    (step-stays c.args.room c.args.arena.now.blocks c.args.node c.args.string.now c.requires.rest c.requires.node
    (sym c.is_suffix.ensures ∙ c.if-is_suffix.false) c.if-string-lt8.false c.in-Some.value at c.remove.new.arena.blocks c.in-Some-remove.left _ below.changed).1
    ∙ at ∙ ap Some (sym c.known-child.ensures)

pub returns-clause-removal : goal.returns-clause-removal
returns-clause-removal t c =
    let no = sym c.is_suffix.ensures ∙ c.if-is_suffix.false in
    let at = looked (entries true c.args.arena.now.blocks c.args.node) _ (pack c.args.string.now) _ _ c.word_at-word.ensures c.look.ensures c.in-Some.is in
    let below : HasLost (suc (c.args.room - 1)) c.args.arena.now c.remove.new.arena c.in-Some.value _ c.in-Some-remove.left = lost-below
    (suc (c.args.room - 1)) c.args.arena.now c.remove.new.arena c.known-child.result c.in-Some.value c.tail.result.now _
    (Some c.in-Some-remove.left) c.known-child.ensures c.tail.ensures
    (subst (RemovesString (suc (c.args.room - 1)) c.args.arena.now c.remove.new.arena c.known-child.result c.tail.result.now)
    c.in-Some-remove.is c.remove.ensures.removal) in
    record {
      there = ap is_some (step-inner c.args.room c.args.arena.now.blocks c.args.node c.args.string.now c.requires.rest
          c.requires.node no c.if-string-lt8.false c.in-Some.value at) ∙ below.there;
      changed = step-without c.args.room c.args.arena.now.blocks c.args.node c.args.string.now c.requires.rest c.requires.node no
          c.if-string-lt8.false c.in-Some.value at c.remove.new.arena.blocks c.lead.new.arena.blocks c.args.node
          c.in-Some-remove.left (λ e. c.if-word-eq0.false (c.word.ensures ∙ e)) below.changed
          (subst (λ k. IsRewritten c.remove.new.arena.blocks c.lead.new.arena.blocks c.args.node c.args.node
          (with_entry word_order (entries true c.remove.new.arena.blocks c.args.node) k c.in-Some-remove.left))
          c.word_at-word.ensures c.lead.ensures.done);
      kind = λ _. map-kind c.lead.new.arena.blocks c.args.node c.lead.ensures.done.root;
    }
