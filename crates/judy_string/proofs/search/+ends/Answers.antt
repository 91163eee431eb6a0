use Rattle.std.proofs.Common.{◌≡◌, ◌-◌, ◌++◌, suc, true, length, length-append, Some, None, ◌∙◌, ap, sym, refl, subst, arith}
use Rattle.judy_tree.specs.Root.{entries}
use Rattle.judy_packing.specs.Packing.{word_bytes}
use Rattle.judy_string.specs.Searches.{end_of, IsShown}
use Rattle.judy_string.specs.Strings.{IsNestedAt, nested_content_at, part}
use Rattle.judy_string.proofs.Joins.{more_long}
use Rattle.judy_string.proofs.Nests.{nest-of, nest-sorted, suffix-of, suffix-content}
use Rattle.judy_string.proofs.Steps.{node-reference}
use Rattle.judy_string.proofs.Shows.{nest-end, end-in, end-one, end-some, only-end, not-end, then_end, part-more, shown-under}
use Rattle.judy_string.proofs.search.+ends.Goals as goal

pub end_at-read-requires-clause-sound : goal.end_at-read-requires-clause-sound
end_at-read-requires-clause-sound t c = (
  c.args.room,
  suffix-of c.args.room c.args.arena.now.blocks c.args.node
      (sym c.is_suffix.ensures ∙ c.if-is_suffix.true) c.requires.node,
)

pub end_at-read-requires-clause-fits : goal.end_at-read-requires-clause-fits
end_at-read-requires-clause-fits t c =
    let s = suffix-of c.args.room c.args.arena.now.blocks c.args.node (sym c.is_suffix.ensures ∙ c.if-is_suffix.true)
    c.requires.node in omega (arith, s.size, s.short, c.requires.fits)

pub end_at-returns-then-is_suffix : goal.end_at-returns-then-is_suffix
end_at-returns-then-is_suffix t c =
    subst (λ o. IsShown c.args.buffer.now.items o (Some c.read.result) c.read.new.buffer.items)
    (sym (ap (end_of c.args.how) (suffix-content c.args.room c.args.arena.now.blocks c.args.node
    (sym c.is_suffix.ensures ∙ c.if-is_suffix.true)) ∙ end-one c.args.how _))
    (ap Some c.read.ensures.value, c.read.ensures.string)

pub end_at-end_word-requires : goal.end_at-end_word-requires
end_at-end_word-requires t c =
    let nest = nest-of c.args.room c.args.arena.now.blocks c.args.node (sym c.is_suffix.ensures ∙ c.if-is_suffix.false) c.requires.node in
    nest.root

pub end_at-returns-in_default : goal.end_at-returns-in_default
end_at-returns-in_default t c =
    let nest = nest-of c.args.room c.args.arena.now.blocks c.args.node (sym c.is_suffix.ensures ∙ c.if-is_suffix.false) c.requires.node in
    let none : end_of c.args.how (nested_content_at (suc c.args.room) c.args.arena.now.blocks c.args.node) ≡ None = nest-end c.args.room
    c.args.arena.now.blocks c.args.node nest c.args.how
    ∙ ap (then_end (end_of c.args.how) (part (nested_content_at c.args.room c.args.arena.now.blocks)))
    (sym c.end_word.ensures ∙ c.in_default.is) ∙ not-end c.args.how (nested_content_at c.args.room c.args.arena.now.blocks) in
    subst (λ o. IsShown c.args.buffer.now.items o None c.args.buffer.now.items) (sym none) (refl, refl)

pub end_at-end_under-requires : goal.end_at-end_under-requires
end_at-end_under-requires t c =
    let nest = nest-of c.args.room c.args.arena.now.blocks c.args.node (sym c.is_suffix.ensures ∙ c.if-is_suffix.false) c.requires.node in
    let at : end_of c.args.how (entries true c.args.arena.now.blocks c.args.node) ≡ Some c.in-Some.entry = sym c.end_word.ensures ∙ c.in-Some.is in
    let found = end-in c.args.how (entries true c.args.arena.now.blocks c.args.node) c.in-Some.entry
    (nest-sorted c.args.room c.args.arena.now.blocks c.args.node nest) at in (
      omega (arith, c.decreases),
      (
        c.requires.few,
        (
          nest.spelt c.in-Some.entry.0 c.in-Some.entry.1 found,
          (
            nest.short c.in-Some.entry.0 c.in-Some.entry.1 found,
            (
              λ more. nest.sound c.in-Some.entry.0 c.in-Some.entry.1 (record { found = found; more = more }),
              (λ more. nest.filled c.in-Some.entry.0 c.in-Some.entry.1 (record { found = found; more = more }), c.requires.fits),
            ),
          ),
        ),
      ),
    )

pub end_at-returns : goal.end_at-returns
end_at-returns t c =
    let nest = nest-of c.args.room c.args.arena.now.blocks c.args.node (sym c.is_suffix.ensures ∙ c.if-is_suffix.false) c.requires.node in
    let at : end_of c.args.how (entries true c.args.arena.now.blocks c.args.node) ≡ Some c.in-Some.entry = sym c.end_word.ensures ∙ c.in-Some.is in
    subst (λ o. IsShown c.args.buffer.now.items o c.end_under.result c.end_under.new.buffer.items)
    (sym (nest-end c.args.room c.args.arena.now.blocks c.args.node nest c.args.how
    ∙ ap (then_end (end_of c.args.how) (part (nested_content_at c.args.room c.args.arena.now.blocks))) at
    ∙ only-end c.args.how (nested_content_at c.args.room c.args.arena.now.blocks) c.in-Some.entry)) c.end_under.ensures

pub end_under-known-requires : goal.end_under-known-requires
end_under-known-requires t c = node-reference c.args.room c.args.arena.now.blocks c.args.value (c.requires.node (sym c.is_last.ensures ∙ c.if-is_last.false))

pub end_under-end_at-requires : goal.end_under-end_at-requires
end_under-end_at-requires t c =
    let more = sym c.is_last.ensures ∙ c.if-is_last.false in
    let bound : suc (c.args.room - 1) ≡ c.args.room = omega (arith, more_long c.args.word more, c.requires.short) in
    let size = ap length c.push_word.ensures ∙ length-append c.args.buffer.now.items (word_bytes c.args.word) in (
      omega (arith, c.decreases, bound),
      (
        omega (arith, c.requires.few),
        (
          subst (IsNestedAt (suc (c.args.room - 1)) c.args.arena.now.blocks) (sym c.known.ensures)
              (subst (λ m. IsNestedAt m c.args.arena.now.blocks c.args.value) (sym bound) (c.requires.node more)),
          omega (arith, size, more_long c.args.word more, bound, c.requires.fits),
        ),
      ),
    )

pub end_under-returns : goal.end_under-returns
end_under-returns t c =
    let more = sym c.is_last.ensures ∙ c.if-is_last.false in
    let bound : suc (c.args.room - 1) ≡ c.args.room = omega (arith, more_long c.args.word more, c.requires.short) in
    let below = subst (λ w. IsShown (c.args.buffer.now.items ++ word_bytes c.args.word)
    (end_of c.args.how (nested_content_at c.args.room c.args.arena.now.blocks w)) c.end_at.result c.end_at.new.buffer.items)
    c.known.ensures
    (subst (λ m. IsShown (c.args.buffer.now.items ++ word_bytes c.args.word)
    (end_of c.args.how (nested_content_at m c.args.arena.now.blocks c.known.result)) c.end_at.result c.end_at.new.buffer.items) bound
    (subst (λ p. IsShown p (end_of c.args.how (nested_content_at (suc (c.args.room - 1)) c.args.arena.now.blocks c.known.result))
    c.end_at.result c.end_at.new.buffer.items) c.push_word.ensures c.end_at.ensures)) in
    subst (λ o. IsShown c.args.buffer.now.items o c.end_at.result c.end_at.new.buffer.items)
    (sym (part-more c.args.how (nested_content_at c.args.room c.args.arena.now.blocks) c.args.word c.args.value more))
    (shown-under c.args.buffer.now.items (word_bytes c.args.word)
    (end_of c.args.how (nested_content_at c.args.room c.args.arena.now.blocks c.args.value)) c.end_at.result c.end_at.new.buffer.items
    (end-some c.args.how c.args.room c.args.arena.now.blocks c.args.value (c.requires.node more) (c.requires.filled more)) below)
