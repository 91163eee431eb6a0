use Rattle.std.proofs.Common.{◌<◌, length, ap, sym, ◌∙◌, subst}
use Rattle.judy_arena.specs.Frame.{holds}
use Rattle.judy_model.specs.Contents.{string_order, value_of}
use Rattle.judy_bytes.specs.Buckets.{next_of}
use Rattle.judy_bytes.specs.Chains.{IsBucketChain, chain, bucket_entries}
use Rattle.judy_bytes.proofs.Links.{begins, chain-reference, found-first, found-later, found-none, within-later, shorter}
use Rattle.judy_bytes.proofs.chain.find.Goals as goal

pub has_key-requires-clause-sound : goal.has_key-requires-clause-sound
has_key-requires-clause-sound c = (begins c.args.arena.now.blocks c.loop-block.at c.in-Some.block c.loop-block.invariant.sound
    (sym c.block.ensures ∙ c.in-Some.is)).bucket

pub returns-then-has_key-clause-some : goal.returns-then-has_key-clause-some
returns-then-has_key-clause-some c =
    let b = begins c.args.arena.now.blocks c.loop-block.at c.in-Some.block c.loop-block.invariant.sound (sym c.block.ensures ∙ c.in-Some.is) in
    let f = found-first c.args.arena.now.blocks c.loop-block.at c.in-Some.block c.args.key.now b (c.has_key.ensures.yes c.if-has_key.true) in
    record { within = c.loop-block.invariant.within c.in-Some.block f.within; spelt = f.spelt }

pub next-at-requires-clause-sound : goal.next-at-requires-clause-sound
next-at-requires-clause-sound c = (begins c.args.arena.now.blocks c.loop-block.at c.in-Some.block c.loop-block.invariant.sound
    (sym c.block.ensures ∙ c.in-Some.is)).bucket

pub next-at-requires-clause-reference : goal.next-at-requires-clause-reference
next-at-requires-clause-reference c = chain-reference c.args.arena.now.blocks (next_of c.args.arena.now.blocks c.in-Some.block)
    (begins c.args.arena.now.blocks c.loop-block.at c.in-Some.block c.loop-block.invariant.sound (sym c.block.ensures ∙ c.in-Some.is)).tail

pub loop-block-smaller : goal.loop-block-smaller
loop-block-smaller c =
    let b = begins c.args.arena.now.blocks c.loop-block.at c.in-Some.block c.loop-block.invariant.sound (sym c.block.ensures ∙ c.in-Some.is) in
    subst (λ x. length (chain c.args.arena.now.blocks x) < length (chain c.args.arena.now.blocks c.loop-block.at))
    (sym c.next-at.ensures) (shorter c.args.arena.now.blocks c.loop-block.at c.in-Some.block b)

pub loop-block-preserved : goal.loop-block-preserved
loop-block-preserved c =
    let arena = c.args.arena.now.blocks in
    let b = begins c.args.arena.now.blocks c.loop-block.at c.in-Some.block c.loop-block.invariant.sound (sym c.block.ensures ∙ c.in-Some.is) in
    record {
      sound = subst (IsBucketChain arena) (sym c.next-at.ensures) b.tail;
      same = c.loop-block.invariant.same ∙ found-later arena c.loop-block.at c.in-Some.block c.args.key.now b (c.has_key.ensures.no c.if-has_key.false)
          ∙ ap (λ x. value_of string_order (bucket_entries arena (chain arena x)) c.args.key.now) (sym c.next-at.ensures);
      within = λ q h. c.loop-block.invariant.within q (within-later arena c.loop-block.at c.in-Some.block q b
          (ap (λ x. holds q (chain arena x)) (sym c.next-at.ensures) ∙ h));
    }

pub returns-clause-none : goal.returns-clause-none
returns-clause-none c = c.loop-block.invariant.same ∙ found-none c.args.arena.now.blocks c.loop-block.at c.args.key.now (sym c.block.ensures ∙ c.in_default.is)
