use Rattle.std.proofs.Common.{◌≡◌, ◌<◌, ◌+◌, ◌-◌, suc, true, length, ◌∙◌, ap, sym, subst, arith}
use Rattle.judy_arena.proofs.lemmas.TakeLaws.{same-rests, rests-two}
use Rattle.judy_tree.specs.Root.{IsRoot, entries}
use Rattle.judy_string.specs.Strings.{nested_content_at}
use Rattle.judy_string.proofs.Joins.{more_long}
use Rattle.judy_string.proofs.Nests.{nest-of, nest-sorted, suffix-of}
use Rattle.judy_string.proofs.Suffixes.{suffix-some}
use Rattle.judy_string.proofs.Steps.{node-reference}
use Rattle.judy_string.proofs.Clears.{cleared-none, cleared-stays, cleared-found, cleared-child, cleared-more, cleared-small}
use Rattle.judy_string.proofs.Clears.{cleared-all, at-first, at-next, none-at, emptied, suffix-gone, suffix-one, part-below}
use Rattle.judy_string.proofs.Parts.{partly-start, own-here, partly-end, here, deeper, root-high, above, byte, partly-next, partly-small}
use Rattle.judy_string.proofs.nodes.+clear.Goals as goal

pub clear-release-requires-clause-live : goal.clear-release-requires-clause-live
clear-release-requires-clause-live t c =
    let h = suffix-some c.args.room c.args.arena.now.blocks c.args.node (suffix-of c.args.room c.args.arena.now.blocks c.args.node
    (sym c.is_suffix.ensures ∙ c.if-is_suffix.true) c.requires.node) in omega (arith, h)

pub clear-returns-then-is_suffix-clause-gone : goal.clear-returns-then-is_suffix-clause-gone
clear-returns-then-is_suffix-clause-gone t c = suffix-gone c.args.room c.args.arena.now.blocks c.release.new.arena.blocks
    c.args.node (sym c.is_suffix.ensures ∙ c.if-is_suffix.true) c.release.ensures.blocks

pub clear-returns-then-is_suffix-clause-count : goal.clear-returns-then-is_suffix-clause-count
clear-returns-then-is_suffix-clause-count t c = suffix-one c.args.room c.args.arena.now.blocks c.args.node (sym c.is_suffix.ensures ∙ c.if-is_suffix.true)

pub clear-population-place-end-requires : goal.clear-population-place-end-requires
clear-population-place-end-requires t c =
    let nest = nest-of c.args.room c.args.arena.now.blocks c.args.node (sym c.is_suffix.ensures ∙ c.if-is_suffix.false) c.requires.node in
    subst (λ w. IsRoot true c.args.arena.now.blocks w) (sym c.from_reference-words.ensures) nest.root

pub clear-loop-place-init : goal.clear-loop-place-init
clear-loop-place-init t c = record {
  words = c.from_reference-words.ensures;
  found = at-first c.args.arena.now.blocks c.args.node
      c.from_reference-words.result c.first-found.result c.from_reference-words.ensures c.first-found.ensures.found;
  cleared =
      cleared-none c.args.room c.args.arena.now.blocks c.args.node;
  memory = same-rests c.args.arena.now;
}

pub clear-first-found-requires : goal.clear-first-found-requires
clear-first-found-requires t c =
    let nest = nest-of c.args.room c.args.arena.now.blocks c.args.node (sym c.is_suffix.ensures ∙ c.if-is_suffix.false) c.requires.node in
    subst (λ w. IsRoot true c.args.arena.now.blocks w) (sym c.from_reference-words.ensures) nest.root

pub clear-loop-place-preserved-in_default : goal.clear-loop-place-preserved-in_default
clear-loop-place-preserved-in_default t c =
    let at = sym c.loop-place.invariant.found ∙ c.in_default.is in
    let size : c.population-place-end.result ≡ length (entries true c.args.arena.now.blocks c.args.node) =
    c.population-place-end.ensures ∙ ap (λ w. length (entries true c.args.arena.now.blocks w)) c.from_reference-words.ensures in
    absurd (none-at c.loop-place.place (entries true c.args.arena.now.blocks c.args.node) (subst (λ m. c.loop-place.place < m) size c.loop-place-test.true) at)

pub clear-clear_entry-count-requires : goal.clear-clear_entry-count-requires
clear-clear_entry-count-requires t c =
    let nest = nest-of c.args.room c.args.arena.now.blocks c.args.node (sym c.is_suffix.ensures ∙ c.if-is_suffix.false) c.requires.node in
    let at = sym c.loop-place.invariant.found ∙ c.in-Some.is in
    let found = cleared-found c.args.room c.args.arena.now.blocks c.args.node nest c.loop-place.arena.blocks c.loop-place.place
    c.loop-place.count c.loop-place.invariant.cleared c.in-Some.entry at in (
      omega (arith, c.decreases),
      (
        c.requires.few,
        (
          nest.spelt c.in-Some.entry.0 c.in-Some.entry.1 found,
          (
            nest.short c.in-Some.entry.0 c.in-Some.entry.1 found,
            λ more. (cleared-child c.args.room c.args.arena.now.blocks c.args.node nest c.loop-place.arena.blocks
                c.loop-place.place c.loop-place.count c.loop-place.invariant.cleared c.in-Some.entry at more).array,
          ),
        ),
      ),
    )

pub clear-overflow_add-count : goal.clear-overflow_add-count
clear-overflow_add-count t c =
    let nest = nest-of c.args.room c.args.arena.now.blocks c.args.node (sym c.is_suffix.ensures ∙ c.if-is_suffix.false) c.requires.node in
    let at = sym c.loop-place.invariant.found ∙ c.in-Some.is in
    let small = cleared-small c.args.room c.args.arena.now.blocks c.args.node nest c.loop-place.arena.blocks c.loop-place.place
    c.loop-place.count c.loop-place.invariant.cleared c.in-Some.entry at c.clear_entry-count.result
    c.clear_entry-count.ensures.count in
    omega (arith, small)

pub clear-next-found-requires : goal.clear-next-found-requires
clear-next-found-requires t c =
    let nest = nest-of c.args.room c.args.arena.now.blocks c.args.node (sym c.is_suffix.ensures ∙ c.if-is_suffix.false) c.requires.node in
    let at = sym c.loop-place.invariant.found ∙ c.in-Some.is in
    let more = cleared-more c.args.room c.args.arena.now.blocks c.args.node nest c.loop-place.arena.blocks c.loop-place.place
    c.loop-place.count c.loop-place.invariant.cleared c.in-Some.entry at c.clear_entry-count.new.arena.blocks
    c.clear_entry-count.result c.clear_entry-count.ensures.gone c.clear_entry-count.ensures.count in
    subst (λ w. IsRoot true c.clear_entry-count.new.arena.blocks w) (sym c.from_reference-words.ensures)
    (cleared-stays c.args.room c.args.arena.now.blocks c.args.node nest c.clear_entry-count.new.arena.blocks
    (c.loop-place.place + 1) (c.loop-place.count + c.clear_entry-count.result) more).0

pub clear-loop-place-preserved : goal.clear-loop-place-preserved
clear-loop-place-preserved t c =
    let nest = nest-of c.args.room c.args.arena.now.blocks c.args.node (sym c.is_suffix.ensures ∙ c.if-is_suffix.false) c.requires.node in
    let at = sym c.loop-place.invariant.found ∙ c.in-Some.is in
    let more = cleared-more c.args.room c.args.arena.now.blocks c.args.node nest c.loop-place.arena.blocks c.loop-place.place
    c.loop-place.count c.loop-place.invariant.cleared c.in-Some.entry at c.clear_entry-count.new.arena.blocks
    c.clear_entry-count.result c.clear_entry-count.ensures.gone c.clear_entry-count.ensures.count in
    let stays = cleared-stays c.args.room c.args.arena.now.blocks c.args.node nest c.clear_entry-count.new.arena.blocks
    (c.loop-place.place + 1) (c.loop-place.count + c.clear_entry-count.result) more in
    record {
      words = c.from_reference-words.ensures;
      found =
          at-next c.clear_entry-count.new.arena.blocks c.args.node c.from_reference-words.result c.loop-place.place
          (entries true c.args.arena.now.blocks c.args.node) c.in-Some.entry c.next-found.result
          c.from_reference-words.ensures stays.1 (nest-sorted c.args.room c.args.arena.now.blocks c.args.node nest) at c.next-found.ensures.found;
      cleared = more;
      memory = rests-two c.args.arena.now c.loop-place.arena c.clear_entry-count.new.arena c.loop-place.invariant.memory c.clear_entry-count.ensures.memory;
    }

pub clear-clear-requires : goal.clear-clear-requires
clear-clear-requires t c =
    let nest = nest-of c.args.room c.args.arena.now.blocks c.args.node (sym c.is_suffix.ensures ∙ c.if-is_suffix.false) c.requires.node in
    subst (λ w. IsRoot true c.loop-place.arena.blocks w) (sym c.from_reference-words.ensures)
    (cleared-stays c.args.room c.args.arena.now.blocks c.args.node nest c.loop-place.arena.blocks c.loop-place.place
    c.loop-place.count c.loop-place.invariant.cleared).0

pub clear-returns-clause-gone : goal.clear-returns-clause-gone
clear-returns-clause-gone t c =
    let nest = nest-of c.args.room c.args.arena.now.blocks c.args.node (sym c.is_suffix.ensures ∙ c.if-is_suffix.false) c.requires.node in
    let size : c.population-place-end.result ≡ length (entries true c.args.arena.now.blocks c.args.node) =
    c.population-place-end.ensures ∙ ap (λ w. length (entries true c.args.arena.now.blocks w)) c.from_reference-words.ensures in
    let last : c.loop-place.place ≡ length (entries true c.args.arena.now.blocks c.args.node) =
    omega (arith, size, c.loop-place-test.false, c.loop-place.auto.place-end) in
    (cleared-all c.args.room c.args.arena.now.blocks c.args.node nest c.loop-place.arena.blocks c.loop-place.place
    c.loop-place.count c.loop-place.invariant.cleared c.clear.new.arena.blocks last
    (emptied c.loop-place.arena.blocks c.clear.new.arena.blocks c.args.node c.from_reference-words.result c.clear.new.self
    c.from_reference-words.ensures c.clear.ensures.array.sound c.clear.ensures.content c.clear.ensures.array.frame)).0

pub clear-returns-clause-count : goal.clear-returns-clause-count
clear-returns-clause-count t c =
    let nest = nest-of c.args.room c.args.arena.now.blocks c.args.node (sym c.is_suffix.ensures ∙ c.if-is_suffix.false) c.requires.node in
    let size : c.population-place-end.result ≡ length (entries true c.args.arena.now.blocks c.args.node) =
    c.population-place-end.ensures ∙ ap (λ w. length (entries true c.args.arena.now.blocks w)) c.from_reference-words.ensures in
    let last : c.loop-place.place ≡ length (entries true c.args.arena.now.blocks c.args.node) =
    omega (arith, size, c.loop-place-test.false, c.loop-place.auto.place-end) in
    (cleared-all c.args.room c.args.arena.now.blocks c.args.node nest c.loop-place.arena.blocks c.loop-place.place
    c.loop-place.count c.loop-place.invariant.cleared c.clear.new.arena.blocks last
    (emptied c.loop-place.arena.blocks c.clear.new.arena.blocks c.args.node c.from_reference-words.result c.clear.new.self
    c.from_reference-words.ensures c.clear.ensures.array.sound c.clear.ensures.content c.clear.ensures.array.frame)).1

pub clear_entry-known-requires : goal.clear_entry-known-requires
clear_entry-known-requires t c = node-reference c.args.room c.args.arena.now.blocks c.args.value (c.requires.node (sym c.is_last.ensures ∙ c.if-is_last.false))

pub clear_entry-returns-clause-count : goal.clear_entry-returns-clause-count
clear_entry-returns-clause-count t c =
    let more = sym c.is_last.ensures ∙ c.if-is_last.false in
    let bound : suc (c.args.room - 1) ≡ c.args.room = omega (arith, more_long c.args.word more, c.requires.short) in
    c.clear.ensures.count ∙ ap (λ m. length (nested_content_at m c.args.arena.now.blocks c.known.result)) bound
    ∙ ap (λ u. length (nested_content_at c.args.room c.args.arena.now.blocks u)) c.known.ensures
    ∙ sym (part-below (nested_content_at c.args.room c.args.arena.now.blocks) c.args.word c.args.value more)

pub clear_parts-loop-part-init : goal.clear_parts-loop-part-init
clear_parts-loop-part-init t c =
    let nest = nest-of c.args.room c.args.arena.now.blocks c.args.node c.requires.array c.requires.node in
    record {
      partly = partly-start c.args.room c.args.arena.now.blocks c.args.node nest c.requires.branch;
      memory = same-rests c.args.arena.now;
      low = omega arith;
    }

pub clear_parts-next_part-requires-clause-branch : goal.clear_parts-next_part-requires-clause-branch
clear_parts-next_part-requires-clause-branch t c =
    let nest = nest-of c.args.room c.args.arena.now.blocks c.args.node c.requires.array c.requires.node in
    (own-here c.args.room c.args.arena.now.blocks c.args.node nest c.requires.branch c.loop-part.arena.blocks c.loop-part.low
    c.loop-part.count c.loop-part.invariant.partly).branch

pub clear_parts-clear-count-requires : goal.clear_parts-clear-count-requires
clear_parts-clear-count-requires t c =
    let nest = nest-of c.args.room c.args.arena.now.blocks c.args.node c.requires.array c.requires.node in
    let e = sym c.next_part.ensures ∙ c.in-Some.is in
    let down = deeper c.args.room c.args.arena.now.blocks c.args.node nest c.requires.branch c.loop-part.arena.blocks
    c.loop-part.low c.loop-part.count c.loop-part.invariant.partly c.in-Some.part.0 c.in-Some.part.1 e in (
      omega (arith, down, root-high c.args.room c.args.arena.now.blocks c.args.node nest c.requires.branch, c.decreases),
      (
        c.requires.few,
        (here c.args.room c.args.arena.now.blocks c.args.node nest c.requires.branch c.loop-part.arena.blocks c.loop-part.low
            c.loop-part.count c.loop-part.invariant.partly c.in-Some.part.0 c.in-Some.part.1 e).array,
      ),
    )

pub clear_parts-overflow_add-count : goal.clear_parts-overflow_add-count
clear_parts-overflow_add-count t c =
    let nest = nest-of c.args.room c.args.arena.now.blocks c.args.node c.requires.array c.requires.node in
    let e = sym c.next_part.ensures ∙ c.in-Some.is in
    let small = partly-small c.args.room c.args.arena.now.blocks c.args.node nest c.requires.branch c.loop-part.arena.blocks
    c.loop-part.low c.loop-part.count c.loop-part.invariant.partly c.in-Some.part.0 c.in-Some.part.1 e c.clear-count.result
    c.clear-count.ensures.count in
    omega (arith, small)

pub clear_parts-loop-part-preserved : goal.clear_parts-loop-part-preserved
clear_parts-loop-part-preserved t c =
    let nest = nest-of c.args.room c.args.arena.now.blocks c.args.node c.requires.array c.requires.node in
    let e = sym c.next_part.ensures ∙ c.in-Some.is in
    let small = byte c.args.room c.args.arena.now.blocks c.args.node nest c.requires.branch c.loop-part.arena.blocks
    c.loop-part.low c.loop-part.count c.loop-part.invariant.partly c.in-Some.part.0 c.in-Some.part.1 e in
    record {
      partly = partly-next c.args.room c.args.arena.now.blocks c.args.node nest c.requires.branch c.loop-part.arena.blocks
          c.loop-part.low c.loop-part.count c.loop-part.invariant.partly c.in-Some.part.0 c.in-Some.part.1 e
          c.clear-count.new.arena.blocks c.clear-count.result _ (omega arith) c.clear-count.ensures.gone c.clear-count.ensures.count;
      memory = rests-two c.args.arena.now c.loop-part.arena c.clear-count.new.arena c.loop-part.invariant.memory c.clear-count.ensures.memory;
      low = omega (arith, small);
    }

pub clear_parts-loop-part-smaller : goal.clear_parts-loop-part-smaller
clear_parts-loop-part-smaller t c =
    let nest = nest-of c.args.room c.args.arena.now.blocks c.args.node c.requires.array c.requires.node in
    let e = sym c.next_part.ensures ∙ c.in-Some.is in
    let small = byte c.args.room c.args.arena.now.blocks c.args.node nest c.requires.branch c.loop-part.arena.blocks
    c.loop-part.low c.loop-part.count c.loop-part.invariant.partly c.in-Some.part.0 c.in-Some.part.1 e in
    let least = above c.args.room c.args.arena.now.blocks c.args.node nest c.requires.branch c.loop-part.arena.blocks
    c.loop-part.low c.loop-part.count c.loop-part.invariant.partly c.in-Some.part.0 c.in-Some.part.1 e in
    omega (arith, small, least)

pub clear_parts-release_branch-requires : goal.clear_parts-release_branch-requires
clear_parts-release_branch-requires t c =
    let nest = nest-of c.args.room c.args.arena.now.blocks c.args.node c.requires.array c.requires.node in
    (own-here c.args.room c.args.arena.now.blocks c.args.node nest c.requires.branch c.loop-part.arena.blocks c.loop-part.low
    c.loop-part.count c.loop-part.invariant.partly).branch

pub clear_parts-returns-clause-gone : goal.clear_parts-returns-clause-gone
clear_parts-returns-clause-gone t c =
    let nest = nest-of c.args.room c.args.arena.now.blocks c.args.node c.requires.array c.requires.node in
    (partly-end c.args.room c.args.arena.now.blocks c.args.node nest c.requires.branch c.loop-part.arena.blocks c.loop-part.low
    c.loop-part.count c.loop-part.invariant.partly c.release_branch.new.arena.blocks (sym c.next_part.ensures ∙ c.in_default.is)
    c.release_branch.ensures.frame).0

pub clear_parts-returns-clause-count : goal.clear_parts-returns-clause-count
clear_parts-returns-clause-count t c =
    let nest = nest-of c.args.room c.args.arena.now.blocks c.args.node c.requires.array c.requires.node in
    (partly-end c.args.room c.args.arena.now.blocks c.args.node nest c.requires.branch c.loop-part.arena.blocks c.loop-part.low
    c.loop-part.count c.loop-part.invariant.partly c.release_branch.new.arena.blocks (sym c.next_part.ensures ∙ c.in_default.is)
    c.release_branch.ensures.frame).1
