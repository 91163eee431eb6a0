use Rattle.std.proofs.Common.{◌≡◌, ◌<◌, length, ap, sym, ◌∙◌, subst, arith, None, is_some}
use Rattle.std.specs.Prelude.{IfNone}
use Rattle.judy_model.specs.Contents.{string_order, value_of}
use Rattle.judy_bytes.specs.Buckets.{next_of}
use Rattle.judy_bytes.specs.Chains.{IsBucketChain, ChainBecomes, chain, bucket_entries}
use Rattle.judy_bytes.proofs.Buckets.{bucket-long}
use Rattle.judy_bytes.proofs.Links.{begins, chain-reference, found-first, found-later, found-none, shorter}
use Rattle.judy_bytes.proofs.Chains.{popped, bucket-there, led-on, chain-value}
use Rattle.judy_arena.proofs.lemmas.RoomLaws.{room-covers}
use Rattle.judy_bytes.proofs.chain.+take_out.Goals as goal

pub returns-in_err-block-clause-absent : goal.returns-in_err-block-clause-absent
returns-in_err-block-clause-absent t c =
    subst (λ o. IfNone o (value_of string_order (bucket_entries c.args.arena.now.blocks (chain c.args.arena.now.blocks c.args.first))
    c.args.key.now ≡ None)) (sym c.from_residual.ensures)
    (found-none c.args.arena.now.blocks c.args.first c.args.key.now (sym c.block.ensures ∙ c.in_err-block.was))

pub next-rest-requires-clause-sound : goal.next-rest-requires-clause-sound
next-rest-requires-clause-sound t c = (begins c.args.arena.now.blocks c.args.first c.in_ok-block.block c.requires.chain
    (sym c.block.ensures ∙ c.in_ok-block.was)).bucket

pub next-rest-requires-clause-reference : goal.next-rest-requires-clause-reference
next-rest-requires-clause-reference t c = chain-reference c.args.arena.now.blocks (next_of c.args.arena.now.blocks c.in_ok-block.block)
    (begins c.args.arena.now.blocks c.args.first c.in_ok-block.block c.requires.chain (sym c.block.ensures ∙ c.in_ok-block.was)).tail

pub has_key-requires-clause-sound : goal.has_key-requires-clause-sound
has_key-requires-clause-sound t c = (begins c.args.arena.now.blocks c.args.first c.in_ok-block.block c.requires.chain
    (sym c.block.ensures ∙ c.in_ok-block.was)).bucket

pub release-requires : goal.release-requires
release-requires t c =
    let b = begins c.args.arena.now.blocks c.args.first c.in_ok-block.block c.requires.chain (sym c.block.ensures ∙ c.in_ok-block.was) in
    omega (arith, bucket-long room-covers c.args.arena.now.blocks c.in_ok-block.block b.bucket)

pub returns-then-has_key-clause-chain : goal.returns-then-has_key-clause-chain
returns-then-has_key-clause-chain t c =
    let b = begins c.args.arena.now.blocks c.args.first c.in_ok-block.block c.requires.chain (sym c.block.ensures ∙ c.in_ok-block.was) in
    subst (λ x. ChainBecomes c.args.arena.now.blocks c.release.new.self.blocks c.args.first x c.args.key.now None) (sym c.next-rest.ensures)
    (popped c.args.arena.now.blocks c.release.new.self.blocks c.args.first c.in_ok-block.block c.requires.chain b
    c.release.ensures.blocks c.args.key.now (c.has_key.ensures.yes c.if-has_key.true))

pub take_out-requires : goal.take_out-requires
take_out-requires t c =
    let b = begins c.args.arena.now.blocks c.args.first c.in_ok-block.block c.requires.chain (sym c.block.ensures ∙ c.in_ok-block.was) in
    let less : length (chain c.args.arena.now.blocks c.next-rest.result) < length (chain c.args.arena.now.blocks c.args.first)
    = subst (λ x. length (chain c.args.arena.now.blocks x) < length (chain c.args.arena.now.blocks c.args.first))
    (sym c.next-rest.ensures) (shorter c.args.arena.now.blocks c.args.first c.in_ok-block.block b) in
    (omega (arith, c.decreases, less), (c.requires.short, subst (IsBucketChain c.args.arena.now.blocks) (sym c.next-rest.ensures) b.tail))

pub returns-in_err-left-clause-absent : goal.returns-in_err-left-clause-absent
returns-in_err-left-clause-absent t c =
    let b = begins c.args.arena.now.blocks c.args.first c.in_ok-block.block c.requires.chain (sym c.block.ensures ∙ c.in_ok-block.was) in
    subst (λ o. IfNone o (value_of string_order (bucket_entries c.args.arena.now.blocks (chain c.args.arena.now.blocks c.args.first))
    c.args.key.now ≡ None)) (sym c.from_residual-in_err-left.ensures)
    (found-later c.args.arena.now.blocks c.args.first c.in_ok-block.block c.args.key.now b (c.has_key.ensures.no c.if-has_key.false)
    ∙ ap (λ x. value_of string_order (bucket_entries c.args.arena.now.blocks (chain c.args.arena.now.blocks x)) c.args.key.now)
    (sym c.next-rest.ensures) ∙ c.in_err-left.ensures.absent)

pub set_next-requires : goal.set_next-requires
set_next-requires t c =
    let b = begins c.args.arena.now.blocks c.args.first c.in_ok-block.block c.requires.chain (sym c.block.ensures ∙ c.in_ok-block.was) in
    let ch = subst (λ x. ChainBecomes c.args.arena.now.blocks c.take_out.new.arena.blocks x c.in_ok-left.left c.args.key.now None)
    c.next-rest.ensures c.in_ok-left.ensures.chain in
    bucket-there c.args.arena.now.blocks c.take_out.new.arena.blocks c.take_out.new.arena.blocks c.args.first c.in_ok-block.block
    c.in_ok-left.left c.args.key.now None c.requires.chain b (c.has_key.ensures.no c.if-has_key.false) ch

pub returns-clause-chain : goal.returns-clause-chain
returns-clause-chain t c =
    let b = begins c.args.arena.now.blocks c.args.first c.in_ok-block.block c.requires.chain (sym c.block.ensures ∙ c.in_ok-block.was) in
    let ch = subst (λ x. ChainBecomes c.args.arena.now.blocks c.take_out.new.arena.blocks x c.in_ok-left.left c.args.key.now None)
    c.next-rest.ensures c.in_ok-left.ensures.chain in
    led-on c.args.arena.now.blocks c.take_out.new.arena.blocks c.set_next.new.arena.blocks c.args.first c.in_ok-block.block
    c.in_ok-left.left c.args.key.now None c.requires.chain b (c.has_key.ensures.no c.if-has_key.false) ch
    c.set_next.ensures.blocks

pub returns-then-has_key-clause-there : goal.returns-then-has_key-clause-there
returns-then-has_key-clause-there t c =
    let b = begins c.args.arena.now.blocks c.args.first c.in_ok-block.block c.requires.chain (sym c.block.ensures ∙ c.in_ok-block.was) in
    ap is_some (chain-value c.args.arena.now.blocks c.args.first c.in_ok-block.block c.args.key.now c.requires.chain
    (found-first c.args.arena.now.blocks c.args.first c.in_ok-block.block c.args.key.now b
    (c.has_key.ensures.yes c.if-has_key.true)))

pub returns-clause-there : goal.returns-clause-there
returns-clause-there t c =
    let b = begins c.args.arena.now.blocks c.args.first c.in_ok-block.block c.requires.chain (sym c.block.ensures ∙ c.in_ok-block.was) in
    ap is_some (found-later c.args.arena.now.blocks c.args.first c.in_ok-block.block c.args.key.now b (c.has_key.ensures.no c.if-has_key.false)
    ∙ ap (λ x. value_of string_order (bucket_entries c.args.arena.now.blocks (chain c.args.arena.now.blocks x)) c.args.key.now)
    (sym c.next-rest.ensures)) ∙ c.in_ok-left.ensures.there
