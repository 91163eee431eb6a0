use Rattle.std.proofs.Common.{◌≡◌, ◌*◌, ◌^◌, ◌<◌, ◌≤◌, ◌++◌, ◌∷◌, [], suc, length, ◌∙◌, ap, sym, subst, arith}
use Rattle.std.specs.Prelude.{slice_set}
use Rattle.judy_arena.specs.Blocks.{put, words_of}
use Rattle.judy_refs.specs.References.{number_of}
use Rattle.judy_model.specs.Contents.{string_order, with_entry}
use Rattle.judy_model.specs.Tenant.{value_after}
use Rattle.judy_string.specs.Changes.{IsRest}
use Rattle.judy_string.specs.Strings.{IsChanged}
use Rattle.judy_string.specs.Suffixes.{suffix_string, suffix_words, suffix_entry}
use Rattle.judy_string.proofs.Options.{on-err}
use Rattle.judy_string.proofs.Steps.{suffix-sound, suffix-value, suffix-live}
use Rattle.judy_string.proofs.Inserts.{entered-same, entered-split, other-string, suffix-stays}
use Rattle.judy_string.proofs.insertion.split.Goals as goal

pub get-requires-clause-sound : goal.get-requires-clause-sound
get-requires-clause-sound c = (
  c.args.room,
  suffix-sound c.args.room c.args.arena.now.blocks c.args.node c.args.string.now
      c.requires.rest c.requires.node c.requires.suffix,
)

pub write-requires-clause-live : goal.write-requires-clause-live
write-requires-clause-live c = suffix-live c.args.room c.args.arena.now.blocks c.args.node c.args.string.now c.requires.rest c.requires.node c.requires.suffix

pub returns-in-Some-clause-done : goal.returns-in-Some-clause-done
returns-in-Some-clause-done c =
    entered-same c.args.room c.args.arena.now c.write.new.arena c.args.node c.args.string.now c.requires.rest c.requires.node
    c.args.given c.requires.suffix c.in-Some.value (subst (λ x. x < 2 ^ 64) c.value_after.ensures c.value_after.type_inv)
    (sym c.get.ensures ∙ c.in-Some.is)
    (c.write.ensures.blocks ∙ ap (λ x. put c.args.arena.now.blocks (number_of c.args.node)
    (slice_set (words_of c.args.arena.now.blocks (number_of c.args.node)) 0 x)) c.value_after.ensures)
    c.write.ensures.memory.refusals

pub read-value-requires-clause-sound : goal.read-value-requires-clause-sound
read-value-requires-clause-sound c = (
  c.args.room,
  suffix-sound c.args.room c.args.arena.now.blocks c.args.node c.args.string.now
      c.requires.rest c.requires.node c.requires.suffix,
)

pub read-value-requires-clause-fits : goal.read-value-requires-clause-fits
read-value-requires-clause-fits c =
    let s = suffix-sound c.args.room c.args.arena.now.blocks c.args.node c.args.string.now c.requires.rest c.requires.node c.requires.suffix in
    omega (arith, s.size, s.short, c.requires.rest.few, ap length c.new-old.ensures)

pub fork-requires-clause-old_rest : goal.fork-requires-clause-old_rest
fork-requires-clause-old_rest c =
    let s = suffix-sound c.args.room c.args.arena.now.blocks c.args.node c.args.string.now c.requires.rest c.requires.node c.requires.suffix in
    let same : c.as_slice.result.now ≡ suffix_string (suffix_words c.args.arena.now.blocks c.args.node) = c.as_slice.ensures.value
    ∙ c.read-value.ensures.string ∙ ap (λ l. l ++ suffix_string (suffix_words c.args.arena.now.blocks c.args.node))
    c.new-old.ensures in
    subst (IsRest c.args.room) (sym same)
    (record { string = s.bytes; short = subst (λ m. m ≤ 8 * c.args.room) (sym s.size) s.short; few = c.requires.rest.few })

pub fork-requires-clause-other : goal.fork-requires-clause-other
fork-requires-clause-other c =
    let same : c.as_slice.result.now ≡ suffix_string (suffix_words c.args.arena.now.blocks c.args.node) = c.as_slice.ensures.value
    ∙ c.read-value.ensures.string ∙ ap (λ l. l ++ suffix_string (suffix_words c.args.arena.now.blocks c.args.node))
    c.new-old.ensures in
    λ e. other-string c.args.arena.now.blocks c.args.node c.args.string.now (sym c.get.ensures ∙ c.in_default.is) (sym same ∙ e)

pub returns-in_err-root-clause-refused : goal.returns-in_err-root-clause-refused
returns-in_err-root-clause-refused c = on-err c.from_residual.result (record {
  absent = sym (suffix-value c.args.room c.args.arena.now.blocks c.args.node c.args.string.now c.requires.rest c.requires.node
      c.requires.suffix) ∙ sym c.get.ensures ∙ c.in_default.is;
  blocks = c.in_err-root.ensures.unchanged;
  counted = c.in_err-root.ensures.refusals;
})

pub release-requires-clause-live : goal.release-requires-clause-live
release-requires-clause-live c = suffix-stays c.args.room c.args.arena.now.blocks c.fork.new.arena.blocks c.args.node
    c.in_ok-root.root _ (suffix-sound c.args.room c.args.arena.now.blocks c.args.node c.args.string.now c.requires.rest
    c.requires.node c.requires.suffix) c.in_ok-root.ensures.changed

pub returns-clause-done : goal.returns-clause-done
returns-clause-done c =
    let a = c.args.arena.now.blocks in
    let same : c.as_slice.result.now ≡ suffix_string (suffix_words c.args.arena.now.blocks c.args.node) = c.as_slice.ensures.value
    ∙ c.read-value.ensures.string ∙ ap (λ l. l ++ suffix_string (suffix_words c.args.arena.now.blocks c.args.node))
    c.new-old.ensures in
    entered-split c.args.room c.args.arena.now c.release.new.arena c.args.node c.args.string.now c.requires.rest c.requires.node
    c.args.given c.requires.suffix c.fork.new.arena c.in_ok-root.root (sym c.get.ensures ∙ c.in_default.is)
    (subst (λ x. IsChanged (suc c.args.room) a c.fork.new.arena.blocks 0 c.in_ok-root.root
    (with_entry string_order ((x, (suffix_entry a c.args.node).1) ∷ []) c.args.string.now (value_after c.args.given 0))) same
    (subst (λ x. IsChanged (suc c.args.room) a c.fork.new.arena.blocks 0 c.in_ok-root.root
    (with_entry string_order ((c.as_slice.result.now, x) ∷ []) c.args.string.now (value_after c.args.given 0)))
    c.read-value.ensures.value
    (subst (λ x. IsChanged (suc c.args.room) a c.fork.new.arena.blocks 0 c.in_ok-root.root
    (with_entry string_order ((c.as_slice.result.now, c.read-value.result) ∷ []) c.args.string.now x)) c.value_after-added.ensures
    c.in_ok-root.ensures.changed)))
    c.release.ensures.blocks (c.release.ensures.memory.refusals ∙ c.in_ok-root.ensures.refusals)
