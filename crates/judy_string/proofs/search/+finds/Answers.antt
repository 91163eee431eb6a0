use Rattle.std.proofs.Common.{rules, ◌≡◌, ◌-◌, ◌++◌, suc, true, false, drop, take, length, length-append, Some, None, ◌∙◌, ap, sym, refl, subst, arith}
use Rattle.std.specs.declared.cmp.Ordering.TheVariants.{Equal}
use Rattle.judy_model.specs.Contents.{word_order, value_of}
use Rattle.judy_tree.specs.Root.{IsRoot, entries}
use Rattle.judy_packing.specs.Packing.{pack, word_bytes}
use Rattle.judy_packing.proofs.lemmas.Packs.{more-word}
use Rattle.judy_string.specs.Changes.{IsRest}
use Rattle.judy_string.specs.Searches.{keeps, here, end_of, found_by, found_here, beside, IsShown}
use Rattle.judy_string.specs.Strings.{IsNestedAt, IsSpelt, nested_content_at, part}
use Rattle.judy_string.proofs.Joins.{more_long}
use Rattle.judy_string.proofs.Levels.{few_bytes}
use Rattle.judy_string.proofs.Nests.{nest-of, suffix-of, suffix-content, string-spelt}
use Rattle.judy_string.proofs.Steps.{node-reference, rest-below, rest-bound, step-child}
use Rattle.judy_string.proofs.Shows.{otherwise, then_end, nest-found, beside-there, below-shown, no-end, then-end, shown-first, shown-none}
use Rattle.judy_string.proofs.Shows.{shown-some, shown-none_under, here-yes, here-no, here-below}
use Rattle.judy_string.proofs.search.+finds.Goals as goal

pub find-find_suffix-requires-clause-sound : goal.find-find_suffix-requires-clause-sound
find-find_suffix-requires-clause-sound t c = (
  c.args.room,
  suffix-of c.args.room c.args.arena.now.blocks c.args.node
      (sym c.is_suffix.ensures ∙ c.if-is_suffix.true) c.requires.node,
)

pub find-find_suffix-requires-clause-fits : goal.find-find_suffix-requires-clause-fits
find-find_suffix-requires-clause-fits t c = let s = suffix-of c.args.room c.args.arena.now.blocks c.args.node
    (sym c.is_suffix.ensures ∙ c.if-is_suffix.true) c.requires.node in omega (arith, s.size, s.short, c.requires.fits)

pub find-returns-then-is_suffix : goal.find-returns-then-is_suffix
find-returns-then-is_suffix t c =
    subst (λ l. IsShown c.args.buffer.now.items (found_by c.args.how c.args.string.now l) c.find_suffix.result
    c.find_suffix.new.buffer.items)
    (sym (suffix-content c.args.room c.args.arena.now.blocks c.args.node (sym c.is_suffix.ensures ∙ c.if-is_suffix.true)))
    c.find_suffix.ensures

pub find-returns-in-Some : goal.find-returns-in-Some
find-returns-in-Some t c =
    let nest = nest-of c.args.room c.args.arena.now.blocks c.args.node (sym c.is_suffix.ensures ∙ c.if-is_suffix.false) c.requires.node in
    subst (λ o. IsShown c.args.buffer.now.items o (Some c.in-Some.value) c.find_here.new.buffer.items)
    (sym (nest-found c.args.room c.args.arena.now.blocks c.args.node nest c.args.string.now c.requires.rest.string c.args.how))
    (shown-first c.args.buffer.now.items (found_here c.args.how c.args.string.now c.args.room c.args.arena.now.blocks c.args.node)
    (then_end (end_of c.args.how) (part (nested_content_at c.args.room c.args.arena.now.blocks))
    (beside c.args.how (entries true c.args.arena.now.blocks c.args.node) (pack c.args.string.now))) c.in-Some.value c.find_here.new.buffer.items
    (subst (λ a. IsShown c.args.buffer.now.items (found_here c.args.how c.args.string.now c.args.room c.args.arena.now.blocks
    c.args.node) a c.find_here.new.buffer.items) c.in-Some.is c.find_here.ensures))

pub find-finger_of-finger-requires : goal.find-finger_of-finger-requires
find-finger_of-finger-requires t c =
    let nest = nest-of c.args.room c.args.arena.now.blocks c.args.node (sym c.is_suffix.ensures ∙ c.if-is_suffix.false) c.requires.node in
    subst (IsRoot true c.args.arena.now.blocks) (sym c.from_reference.ensures) nest.root

pub find-next_word-requires-clause-array : goal.find-next_word-requires-clause-array
find-next_word-requires-clause-array t c =
    let nest = nest-of c.args.room c.args.arena.now.blocks c.args.node (sym c.is_suffix.ensures ∙ c.if-is_suffix.false) c.requires.node in
    nest.root

pub find-returns-in_default-next_word : goal.find-returns-in_default-next_word
find-returns-in_default-next_word t c =
    let nest = nest-of c.args.room c.args.arena.now.blocks c.args.node (sym c.is_suffix.ensures ∙ c.if-is_suffix.false) c.requires.node in
    let none = shown-none c.args.buffer.now.items
    (found_here c.args.how c.args.string.now c.args.room c.args.arena.now.blocks c.args.node) c.find_here.new.buffer.items
    (subst (λ a. IsShown c.args.buffer.now.items
    (found_here c.args.how c.args.string.now c.args.room c.args.arena.now.blocks c.args.node) a c.find_here.new.buffer.items)
    c.in_default.is c.find_here.ensures) in
    let gone : beside c.args.how (entries true c.args.arena.now.blocks c.args.node) (pack c.args.string.now) ≡ None =
    ap (beside c.args.how (entries true c.args.arena.now.blocks c.args.node)) (sym c.word_at-word.ensures) ∙ sym c.next_word.ensures
    ∙ c.in_default-next_word.is in
    subst (λ o. IsShown c.args.buffer.now.items o None c.find_here.new.buffer.items)
    (sym (nest-found c.args.room c.args.arena.now.blocks c.args.node nest c.args.string.now c.requires.rest.string c.args.how
    ∙ ap (λ x. otherwise (found_here c.args.how c.args.string.now c.args.room c.args.arena.now.blocks c.args.node)
    (then_end (end_of c.args.how) (part (nested_content_at c.args.room c.args.arena.now.blocks)) x)) gone
    ∙ no-end c.args.how (found_here c.args.how c.args.string.now c.args.room c.args.arena.now.blocks c.args.node)
    (nested_content_at c.args.room c.args.arena.now.blocks) none.0)) (refl, none.1)

pub find-end_under-requires-clause-spelt : goal.find-end_under-requires-clause-spelt
find-end_under-requires-clause-spelt t c =
    let nest = nest-of c.args.room c.args.arena.now.blocks c.args.node (sym c.is_suffix.ensures ∙ c.if-is_suffix.false) c.requires.node in
    let found = beside-there c.args.room c.args.arena.now.blocks c.args.node nest c.args.how c.word_at-word.result c.next_word.result
    c.in-Some-next_word.entry c.next_word.ensures c.in-Some-next_word.is in
    nest.spelt c.in-Some-next_word.entry.0 c.in-Some-next_word.entry.1 found

pub find-end_under-requires-clause-short : goal.find-end_under-requires-clause-short
find-end_under-requires-clause-short t c =
    let nest = nest-of c.args.room c.args.arena.now.blocks c.args.node (sym c.is_suffix.ensures ∙ c.if-is_suffix.false) c.requires.node in
    let found = beside-there c.args.room c.args.arena.now.blocks c.args.node nest c.args.how c.word_at-word.result c.next_word.result
    c.in-Some-next_word.entry c.next_word.ensures c.in-Some-next_word.is in
    nest.short c.in-Some-next_word.entry.0 c.in-Some-next_word.entry.1 found

pub find-end_under-requires-clause-node : goal.find-end_under-requires-clause-node
find-end_under-requires-clause-node t c =
    let nest = nest-of c.args.room c.args.arena.now.blocks c.args.node (sym c.is_suffix.ensures ∙ c.if-is_suffix.false) c.requires.node in
    let found = beside-there c.args.room c.args.arena.now.blocks c.args.node nest c.args.how c.word_at-word.result c.next_word.result
    c.in-Some-next_word.entry c.next_word.ensures c.in-Some-next_word.is in
    λ more. nest.sound c.in-Some-next_word.entry.0 c.in-Some-next_word.entry.1 (record { found = found; more = more })

pub find-end_under-requires-clause-filled : goal.find-end_under-requires-clause-filled
find-end_under-requires-clause-filled t c =
    let nest = nest-of c.args.room c.args.arena.now.blocks c.args.node (sym c.is_suffix.ensures ∙ c.if-is_suffix.false) c.requires.node in
    let found = beside-there c.args.room c.args.arena.now.blocks c.args.node nest c.args.how c.word_at-word.result c.next_word.result
    c.in-Some-next_word.entry c.next_word.ensures c.in-Some-next_word.is in
    λ more. nest.filled c.in-Some-next_word.entry.0 c.in-Some-next_word.entry.1 (record { found = found; more = more })

pub find-returns : goal.find-returns
find-returns t c =
    let nest = nest-of c.args.room c.args.arena.now.blocks c.args.node (sym c.is_suffix.ensures ∙ c.if-is_suffix.false) c.requires.node in
    let none = shown-none c.args.buffer.now.items
    (found_here c.args.how c.args.string.now c.args.room c.args.arena.now.blocks c.args.node) c.find_here.new.buffer.items
    (subst (λ a. IsShown c.args.buffer.now.items
    (found_here c.args.how c.args.string.now c.args.room c.args.arena.now.blocks c.args.node) a c.find_here.new.buffer.items)
    c.in_default.is c.find_here.ensures) in
    let at : beside c.args.how (entries true c.args.arena.now.blocks c.args.node) (pack c.args.string.now) ≡ Some
    c.in-Some-next_word.entry = ap (beside c.args.how (entries true c.args.arena.now.blocks c.args.node))
    (sym c.word_at-word.ensures) ∙ sym c.next_word.ensures ∙ c.in-Some-next_word.is in
    subst (λ o. IsShown c.args.buffer.now.items o c.end_under.result c.end_under.new.buffer.items)
    (sym (nest-found c.args.room c.args.arena.now.blocks c.args.node nest c.args.string.now c.requires.rest.string c.args.how
    ∙ ap (λ x. otherwise (found_here c.args.how c.args.string.now c.args.room c.args.arena.now.blocks c.args.node)
    (then_end (end_of c.args.how) (part (nested_content_at c.args.room c.args.arena.now.blocks)) x)) at
    ∙ then-end c.args.how (found_here c.args.how c.args.string.now c.args.room c.args.arena.now.blocks c.args.node)
    (nested_content_at c.args.room c.args.arena.now.blocks) c.in-Some-next_word.entry none.0))
    (subst (λ p. IsShown p (end_of c.args.how (part (nested_content_at c.args.room c.args.arena.now.blocks) c.in-Some-next_word.entry))
    c.end_under.result c.end_under.new.buffer.items) none.1 c.end_under.ensures)

pub find_here-returns-then-not-keeps : goal.find_here-returns-then-not-keeps
find_here-returns-then-not-keeps t c =
    let at : value_of word_order (entries true c.args.arena.now.blocks c.args.node) (pack c.args.string.now) ≡ Some
    c.in-Some.value = sym c.requires.own ∙ c.in-Some.is in
    let no_ : keeps c.args.how Equal ≡ false = search rules in
    subst (λ o. IsShown c.args.buffer.now.items o None c.args.buffer.now.items)
    (sym (ap (λ o. end_of c.args.how (here (keeps c.args.how) (nested_content_at c.args.room c.args.arena.now.blocks) c.args.string.now o)) at
    ∙ here-no c.args.how (nested_content_at c.args.room c.args.arena.now.blocks) c.args.string.now c.in-Some.value c.requires.rest.string
    c.if-string-lt8.true no_)) (refl, refl)

pub find_here-push_word-requires-clause-spelt : goal.find_here-push_word-requires-clause-spelt
find_here-push_word-requires-clause-spelt t c = subst IsSpelt (sym c.word_at-word.ensures) (string-spelt c.args.string.now c.requires.rest.string)

pub find_here-push_word-requires-clause-fits : goal.find_here-push_word-requires-clause-fits
find_here-push_word-requires-clause-fits t c =
    let few = few_bytes c.args.room c.args.string.now c.requires.rest.string c.requires.rest.short in
    let e = ap (λ k. length (word_bytes k)) c.word_at-word.ensures in omega (arith, few, e, c.requires.fits)

pub find_here-returns-then-string-lt8 : goal.find_here-returns-then-string-lt8
find_here-returns-then-string-lt8 t c =
    let at : value_of word_order (entries true c.args.arena.now.blocks c.args.node) (pack c.args.string.now) ≡ Some
    c.in-Some.value = sym c.requires.own ∙ c.in-Some.is in
    let yes_ : keeps c.args.how Equal ≡ true = search rules in
    subst (λ o. IsShown c.args.buffer.now.items o (Some c.in-Some.value) c.push_word.new.buffer.items)
    (sym (ap (λ o. end_of c.args.how (here (keeps c.args.how) (nested_content_at c.args.room c.args.arena.now.blocks) c.args.string.now
    o)) at ∙ here-yes c.args.how (nested_content_at c.args.room c.args.arena.now.blocks) c.args.string.now c.in-Some.value
    c.requires.rest.string c.if-string-lt8.true yes_))
    (refl, c.push_word.ensures ∙ ap (λ k. c.args.buffer.now.items ++ word_bytes k) c.word_at-word.ensures)

pub find_here-push_word-requires-2-clause-spelt : goal.find_here-push_word-requires-2-clause-spelt
find_here-push_word-requires-2-clause-spelt t c = subst IsSpelt (sym c.word_at-word.ensures) (string-spelt c.args.string.now c.requires.rest.string)

pub find_here-push_word-requires-2-clause-fits : goal.find_here-push_word-requires-2-clause-fits
find_here-push_word-requires-2-clause-fits t c =
    let few = few_bytes c.args.room c.args.string.now c.requires.rest.string c.requires.rest.short in
    let e = ap (λ k. length (word_bytes k)) c.word_at-word.ensures in omega (arith, few, e, c.requires.fits)

pub find_here-known-requires : goal.find_here-known-requires
find_here-known-requires t c =
    let at : value_of word_order (entries true c.args.arena.now.blocks c.args.node) (pack c.args.string.now) ≡ Some
    c.in-Some.value = sym c.requires.own ∙ c.in-Some.is in
    node-reference (suc (c.args.room - 1)) c.args.arena.now.blocks c.in-Some.value
    (step-child c.args.room c.args.arena.now.blocks c.args.node c.args.string.now c.requires.rest c.requires.node
    c.requires.array c.if-string-lt8.false c.in-Some.value at)

pub find_here-find-requires : goal.find_here-find-requires
find_here-find-requires t c =
    let at : value_of word_order (entries true c.args.arena.now.blocks c.args.node) (pack c.args.string.now) ≡ Some
    c.in-Some.value = sym c.requires.own ∙ c.in-Some.is in
    let bound : c.args.room ≡ suc (c.args.room - 1) = rest-bound c.args.room c.args.string.now c.requires.rest c.if-string-lt8.false in
    let size = ap length c.push_word-2.ensures ∙ length-append c.args.buffer.now.items (word_bytes c.word_at-word.result) in
    let eight = ap (λ k. length (word_bytes k)) c.word_at-word.ensures ∙ more_long (pack c.args.string.now)
    (more-word c.args.string.now c.requires.rest.string c.if-string-lt8.false) in (
      omega (arith, c.decreases, bound),
      (
        subst (IsRest (c.args.room - 1)) (sym c.tail.ensures) (rest-below c.args.room c.args.string.now c.requires.rest c.if-string-lt8.false),
        (
          subst (IsNestedAt (suc (c.args.room - 1)) c.args.arena.now.blocks) (sym c.known.ensures)
              (step-child c.args.room c.args.arena.now.blocks c.args.node c.args.string.now c.requires.rest c.requires.node
              c.requires.array c.if-string-lt8.false c.in-Some.value at),
          omega (arith, size, eight, bound, c.requires.fits),
        ),
      ),
    )

pub find_here-returns-in-Some-find : goal.find_here-returns-in-Some-find
find_here-returns-in-Some-find t c =
    let at : value_of word_order (entries true c.args.arena.now.blocks c.args.node) (pack c.args.string.now) ≡ Some
    c.in-Some.value = sym c.requires.own ∙ c.in-Some.is in
    let bound : c.args.room ≡ suc (c.args.room - 1) = rest-bound c.args.room c.args.string.now c.requires.rest c.if-string-lt8.false in
    let below = below-shown c.args.how c.args.room c.args.arena.now.blocks (drop 8 c.args.string.now) c.tail.result.now c.args.buffer.now.items
    _ c.known.result c.in-Some.value c.word_at-word.result (pack c.args.string.now) c.find.result _
    c.find.new.buffer.items bound c.known.ensures c.tail.ensures c.word_at-word.ensures c.push_word-2.ensures c.in-Some-find.is c.find.ensures in
    subst (λ o. IsShown c.args.buffer.now.items o (Some c.in-Some-find.found) c.find.new.buffer.items)
    (sym (ap (λ o. end_of c.args.how (here (keeps c.args.how) (nested_content_at c.args.room c.args.arena.now.blocks) c.args.string.now o)) at
    ∙ here-below c.args.how
    (nested_content_at c.args.room c.args.arena.now.blocks) c.args.string.now c.in-Some.value c.requires.rest.string c.if-string-lt8.false))
    (shown-some c.args.buffer.now.items (word_bytes (pack c.args.string.now))
    (found_by c.args.how (drop 8 c.args.string.now) (nested_content_at c.args.room c.args.arena.now.blocks c.in-Some.value))
    c.in-Some-find.found c.find.new.buffer.items
    below)

pub find_here-returns : goal.find_here-returns
find_here-returns t c =
    let at : value_of word_order (entries true c.args.arena.now.blocks c.args.node) (pack c.args.string.now) ≡ Some
    c.in-Some.value = sym c.requires.own ∙ c.in-Some.is in
    let bound : c.args.room ≡ suc (c.args.room - 1) = rest-bound c.args.room c.args.string.now c.requires.rest c.if-string-lt8.false in
    let below = below-shown c.args.how c.args.room c.args.arena.now.blocks (drop 8 c.args.string.now) c.tail.result.now c.args.buffer.now.items
    _ c.known.result c.in-Some.value c.word_at-word.result (pack c.args.string.now) c.find.result _
    c.find.new.buffer.items bound c.known.ensures c.tail.ensures c.word_at-word.ensures c.push_word-2.ensures c.in_default-find.is c.find.ensures in
    subst (λ o. IsShown c.args.buffer.now.items o None c.truncate.new.self.items)
    (sym (ap (λ o. end_of c.args.how (here (keeps c.args.how) (nested_content_at c.args.room c.args.arena.now.blocks) c.args.string.now o)) at
    ∙ here-below c.args.how
    (nested_content_at c.args.room c.args.arena.now.blocks) c.args.string.now c.in-Some.value c.requires.rest.string c.if-string-lt8.false))
    (shown-none_under c.args.buffer.now.items (word_bytes (pack c.args.string.now))
    (found_by c.args.how (drop 8 c.args.string.now) (nested_content_at c.args.room c.args.arena.now.blocks c.in-Some.value))
    c.find.new.buffer.items c.truncate.new.self.items
    below
    (c.truncate.ensures.items ∙ ap (λ n. take n c.find.new.buffer.items) c.len-start.ensures.value))
