use Rattle.std.proofs.Common.{◌≡◌, ◌+◌, ◌-◌, ◌*◌, suc, true, [], ◌∷◌, drop, length, is_some, ◌∙◌, ap, sym, refl, subst, arith}
use Rattle.judy_arena.specs.Frame.{Frame}
use Rattle.judy_model.specs.Contents.{word_order, string_order, with_entry}
use Rattle.judy_tree.specs.Root.{entries, numbers as own_numbers}
use Rattle.judy_tree.proofs.lemmas.RootLaws.{none-root}
use Rattle.judy_packing.specs.Packing.{pack}
use Rattle.judy_string.specs.Changes.{IsRest}
use Rattle.judy_string.specs.Strings.{IsChanged}
use Rattle.judy_string.proofs.Maps.{none-entries, none-numbers}
use Rattle.judy_string.proofs.Splits.{forked}
use Rattle.judy_string.proofs.Steps.{rest-below}
use Rattle.judy_string.proofs.Forks.{goes-on, rests-differ, both-hang, nothing-there, no-word, built-undone}
use Rattle.judy_arena.proofs.lemmas.TakeLaws.{takes-more, takes-both, takes-rests}
use Rattle.judy_string.proofs.insertion.+fork.Goals as goal

pub hang-requires-clause-node : goal.hang-requires-clause-node
hang-requires-clause-node t c = nothing-there c.args.room c.args.arena.now.blocks

pub hang-requires-clause-absent : goal.hang-requires-clause-absent
hang-requires-clause-absent t c = no-word c.args.arena.now.blocks (pack c.args.old.now)

pub hang-requires-then-word-word_at-clause-absent : goal.hang-requires-then-word-word_at-clause-absent
hang-requires-then-word-word_at-clause-absent t c =
    ap is_some (c.in_ok-first.ensures.done.others (pack c.args.new.now)
    (λ e. c.if-word-word_at.true (c.word_at-word.ensures ∙ sym e ∙ sym c.word_at.ensures))) ∙ no-word c.args.arena.now.blocks
    (pack c.args.new.now)

pub returns-in-Ok-clause-changed : goal.returns-in-Ok-clause-changed
returns-in-Ok-clause-changed t c =
    both-hang c.args.room c.args.arena.now.blocks c.hang.new.arena.blocks c.hang-then-word-word_at.new.arena.blocks
    c.in_ok-first.first c.in-Ok.both c.args.old.now c.args.new.now c.args.value c.args.added
    c.in_ok-first.ensures.done.changed c.in-Ok.ensures.done.changed

pub returns-in-Err-clause-unchanged : goal.returns-in-Err-clause-unchanged
returns-in-Err-clause-unchanged t c =
    built-undone c.args.room c.args.arena.now.blocks c.hang.new.arena.blocks c.hang-then-word-word_at.new.arena.blocks
    c.clear-one.new.arena.blocks c.in_ok-first.first _ c.in_ok-first.ensures.done.changed c.in-Err.ensures.unchanged
    c.clear-one.ensures.gone

pub tail-requires : goal.tail-requires
tail-requires t c =
    let same : pack c.args.old.now ≡ pack c.args.new.now = sym c.word_at-word.ensures ∙ c.if-word-word_at.false ∙ c.word_at.ensures in
    let long = goes-on c.args.old.now c.args.new.now c.requires.old_rest.string c.requires.new_rest.string same c.requires.other in
    long

pub tail-requires-2 : goal.tail-requires-2
tail-requires-2 t c =
    let same : pack c.args.old.now ≡ pack c.args.new.now = sym c.word_at-word.ensures ∙ c.if-word-word_at.false ∙ c.word_at.ensures in
    let long2 = goes-on c.args.new.now c.args.old.now c.requires.new_rest.string c.requires.old_rest.string (sym same) (λ e. c.requires.other (sym e)) in
    long2

pub fork-requires : goal.fork-requires
fork-requires t c =
    let same : pack c.args.old.now ≡ pack c.args.new.now = sym c.word_at-word.ensures ∙ c.if-word-word_at.false ∙ c.word_at.ensures in
    let long = goes-on c.args.old.now c.args.new.now c.requires.old_rest.string c.requires.new_rest.string same c.requires.other in
    let long2 = goes-on c.args.new.now c.args.old.now c.requires.new_rest.string c.requires.old_rest.string (sym same) (λ e. c.requires.other (sym e)) in
    let differ = rests-differ c.args.old.now c.args.new.now c.requires.old_rest.string c.requires.new_rest.string same c.requires.other in (
      omega (arith, c.decreases, c.requires.old_rest.short, long),
      (
        subst (IsRest (c.args.room - 1)) (sym c.tail.ensures) (rest-below c.args.room c.args.old.now c.requires.old_rest long),
        (
          subst (IsRest (c.args.room - 1)) (sym c.tail-2.ensures) (rest-below c.args.room c.args.new.now c.requires.new_rest
              long2),
          λ e. differ (sym c.tail.ensures ∙ e ∙ c.tail-2.ensures),
        ),
      ),
    )

pub put-requires-clause-root : goal.put-requires-clause-root
put-requires-clause-root t c = none-root true c.fork.new.arena.blocks 0 refl

pub put-requires-clause-absent : goal.put-requires-clause-absent
put-requires-clause-absent t c = no-word c.fork.new.arena.blocks c.word_at-word.result

pub returns-in-Ok-put-clause-changed : goal.returns-in-Ok-put-clause-changed
returns-in-Ok-put-clause-changed t c =
    let same : pack c.args.old.now ≡ pack c.args.new.now = sym c.word_at-word.ensures ∙ c.if-word-word_at.false ∙ c.word_at.ensures in
    let long = goes-on c.args.old.now c.args.new.now c.requires.old_rest.string c.requires.new_rest.string same c.requires.other in
    let long2 = goes-on c.args.new.now c.args.old.now c.requires.new_rest.string c.requires.old_rest.string (sym same) (λ e. c.requires.other (sym e)) in
    let ch = subst (λ x. IsChanged (suc (c.args.room - 1)) c.args.arena.now.blocks c.fork.new.arena.blocks 0 c.in_ok-below.below
    (with_entry string_order ((x, c.args.value) ∷ []) (drop 8 c.args.new.now) c.args.added)) c.tail.ensures
    (subst (λ x. IsChanged (suc (c.args.room - 1)) c.args.arena.now.blocks c.fork.new.arena.blocks 0 c.in_ok-below.below
    (with_entry string_order ((c.tail.result.now, c.args.value) ∷ []) x c.args.added)) c.tail-2.ensures
    c.in_ok-below.ensures.changed) in
    let bound : c.args.room ≡ suc (c.args.room - 1) = omega (arith, long, c.requires.old_rest.short) in
    forked c.args.room c.args.arena.now.blocks c.fork.new.arena.blocks c.put.new.arena.blocks c.in_ok-below.below
    c.in-Ok-put.array c.args.old.now c.args.new.now c.args.value c.args.added c.requires.old_rest.string
    c.requires.new_rest.string long2 c.requires.new_rest.short same
    (subst (λ m. IsChanged m c.args.arena.now.blocks c.fork.new.arena.blocks 0 c.in_ok-below.below
    (with_entry string_order ((drop 8 c.args.old.now, c.args.value) ∷ []) (drop 8 c.args.new.now) c.args.added)) (sym bound) ch)
    c.in-Ok-put.ensures.done.root
    (c.in-Ok-put.ensures.done.content ∙ ap (λ v. with_entry word_order (entries true c.fork.new.arena.blocks 0) c.word_at-word.result v) c.word.ensures
    ∙ ap (λ es. with_entry word_order es c.word_at-word.result c.in_ok-below.below)
    (none-entries true c.fork.new.arena.blocks 0 refl) ∙ ap (λ k. (k, c.in_ok-below.below) ∷ [])
    (c.word_at-word.ensures ∙ same))
    (subst (λ o. Frame c.fork.new.arena.blocks c.put.new.arena.blocks o (own_numbers c.put.new.arena.blocks c.in-Ok-put.array))
    (none-numbers true c.fork.new.arena.blocks 0 refl) c.in-Ok-put.ensures.done.frame)

pub returns-in-Err-put-clause-unchanged : goal.returns-in-Err-put-clause-unchanged
returns-in-Err-put-clause-unchanged t c =
    built-undone (c.args.room - 1) c.args.arena.now.blocks c.fork.new.arena.blocks c.put.new.arena.blocks
    c.clear-two.new.arena.blocks c.in_ok-below.below _ c.in_ok-below.ensures.changed c.in-Err-put.ensures.unchanged
    c.clear-two.ensures.gone

-- ---- how many blocks it takes

pub returns-in-Ok-put-clause-memory : goal.returns-in-Ok-put-clause-memory
returns-in-Ok-put-clause-memory t c =
    let same : pack c.args.old.now ≡ pack c.args.new.now = sym c.word_at-word.ensures ∙ c.if-word-word_at.false ∙ c.word_at.ensures in
    let long = goes-on c.args.old.now c.args.new.now c.requires.old_rest.string c.requires.new_rest.string same c.requires.other in
    let room = c.requires.old_rest.short in
    takes-both (130 + 2 * (c.args.room - 1)) 2 (130 + 2 * c.args.room) c.args.arena.now c.fork.new.arena c.put.new.arena (omega (arith, long, room))
    c.in_ok-below.ensures.memory (c.put.ensures.few (let e = ap length (none-entries true c.fork.new.arena.blocks 0 refl) in omega (arith, e)))

pub returns-in-Err-put-clause-memory : goal.returns-in-Err-put-clause-memory
returns-in-Err-put-clause-memory t c =
    let same : pack c.args.old.now ≡ pack c.args.new.now = sym c.word_at-word.ensures ∙ c.if-word-word_at.false ∙ c.word_at.ensures in
    let long = goes-on c.args.old.now c.args.new.now c.requires.old_rest.string c.requires.new_rest.string same c.requires.other in
    let room = c.requires.old_rest.short in
    takes-rests (130 + 2 * c.args.room) c.args.arena.now c.put.new.arena c.clear-two.new.arena
    (takes-both (130 + 2 * (c.args.room - 1)) 2 (130 + 2 * c.args.room) c.args.arena.now c.fork.new.arena c.put.new.arena (omega (arith, long, room))
    c.in_ok-below.ensures.memory (c.put.ensures.few (let e = ap length (none-entries true c.fork.new.arena.blocks 0 refl) in omega (arith, e)))) c.clear-two.ensures.memory
