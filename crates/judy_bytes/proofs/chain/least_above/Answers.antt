use Rattle.std.proofs.Common.{◌≡◌, ◌∙◌, ◌<◌, ◌&&◌, Some, get_or, length, ap, sym, subst}
use Rattle.std.specs.Prelude.{option_map}
use Rattle.judy_arena.specs.Blocks.{words_of}
use Rattle.judy_bytes.specs.Buckets.{bucket_key, next_of}
use Rattle.judy_bytes.specs.Chains.{IsBucketChain, chain, chain_entries}
use Rattle.judy_bytes.specs.Walks.{is_above, is_below}
use Rattle.judy_bytes.proofs.Leasts.{Sought, bucket-none, bucket-over, bucket-this, sought-none}
use Rattle.judy_bytes.proofs.Links.{begins, chain-reference, shorter}
use Rattle.judy_bytes.proofs.chain.least_above.Goals as goal
use Rattle.judy_bytes.proofs.chain.least_above.Goals.{then-is_sought, else-is_sought}

pub loop-block-init : goal.loop-block-init
loop-block-init c = record { sound = c.requires; sought = sought-none _ _ _ }

pub is_sought-requires : goal.is_sought-requires
is_sought-requires c = (begins c.args.arena.now.blocks c.loop-block.rest c.in-Some.block c.loop-block.invariant.sound
    (sym c.block.ensures ∙ c.in-Some.is)).bucket

pub read_key-requires : goal.read_key-requires
read_key-requires c = (begins c.args.arena.now.blocks c.loop-block.rest c.in-Some.block c.loop-block.invariant.sound
    (sym c.block.ensures ∙ c.in-Some.is)).bucket

pub value-requires : goal.value-requires
value-requires c = (begins c.args.arena.now.blocks c.loop-block.rest c.in-Some.block c.loop-block.invariant.sound
    (sym c.block.ensures ∙ c.in-Some.is)).bucket

pub next-rest-requires-clause-sound : goal.next-rest-requires-clause-sound
next-rest-requires-clause-sound c = (begins c.args.arena.now.blocks c.loop-block.rest c.in-Some.block c.loop-block.invariant.sound
    (sym c.block.ensures ∙ c.in-Some.is)).bucket

pub next-rest-requires-clause-reference : goal.next-rest-requires-clause-reference
next-rest-requires-clause-reference c = chain-reference c.args.arena.now.blocks (next_of c.args.arena.now.blocks c.in-Some.block)
    (begins c.args.arena.now.blocks c.loop-block.rest c.in-Some.block c.loop-block.invariant.sound (sym c.block.ensures ∙ c.in-Some.is)).tail

pub loop-block-smaller : goal.loop-block-smaller
loop-block-smaller c =
    let b = begins c.args.arena.now.blocks c.loop-block.rest c.in-Some.block c.loop-block.invariant.sound (sym c.block.ensures ∙ c.in-Some.is) in
    subst (λ x. length (chain c.args.arena.now.blocks x) < length (chain c.args.arena.now.blocks c.loop-block.rest))
    (sym c.next-rest.ensures) (shorter c.args.arena.now.blocks c.loop-block.rest c.in-Some.block b)

pub loop-block-preserved : goal.loop-block-preserved
loop-block-preserved c =
    let b = c.args.arena.now.blocks in
    let all = chain_entries b c.args.first in
    let passes = is_above (option_map (λ k. k.now) c.args.bound) in
    let n = c.in-Some.block in
    let begin = begins b c.loop-block.rest n c.loop-block.invariant.sound (sym c.block.ensures ∙ c.in-Some.is) in
    let test : (passes (bucket_key (words_of b n)) && is_below c.loop-block.found c.loop-block.buffer.items (bucket_key (words_of b n))) ≡ c.is_sought.result =
    ap (λ k. passes (bucket_key (words_of b n)) && is_below c.loop-block.found k (bucket_key (words_of b n))) (sym c.as_slice.ensures.value) ∙ sym c.is_sought.ensures in
    record {
      sound = subst (IsBucketChain b) (sym c.next-rest.ensures) begin.tail;
      sought = subst (λ x. Sought all (chain_entries b x) passes c.if-is_sought.found c.if-is_sought.buffer.items) (sym c.next-rest.ensures)
          (elim c.if-is_sought.branch [
            | then-is_sought w ↦
                subst (λ v. Sought all (chain_entries b (next_of b n)) passes v c.if-is_sought.buffer.items) (sym (w.found-is ∙ ap Some w.value.ensures))
                (subst (λ k. Sought all (chain_entries b (next_of b n)) passes (Some (get_or (words_of b n) 1 0)) k)
                (sym (ap (λ x. x.items) w.buffer-is ∙ w.read_key.ensures))
                (bucket-this b c.args.first c.loop-block.rest n passes c.loop-block.found c.loop-block.buffer.items begin c.loop-block.invariant.sought
                (test ∙ w.if-is_sought.true)))
            | else-is_sought w ↦
                subst (λ v. Sought all (chain_entries b (next_of b n)) passes v c.if-is_sought.buffer.items) (sym w.found-is)
                (subst (λ k. Sought all (chain_entries b (next_of b n)) passes c.loop-block.found k) (sym (ap (λ x. x.items) w.buffer-is))
                (bucket-over b c.args.first c.loop-block.rest n passes c.loop-block.found c.loop-block.buffer.items begin c.loop-block.invariant.sought
                (test ∙ w.if-is_sought.false)))
          ]);
    }

pub returns : goal.returns
returns c = bucket-none c.args.arena.now.blocks c.args.first c.loop-block.rest _ _ _ (sym c.block.ensures ∙ c.in_default.is) c.loop-block.invariant.sought
