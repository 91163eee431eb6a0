use Rattle.std.proofs.Common.{◌≡◌, ◌<◌, [], length, ap, sym, ◌∙◌, subst, arith}
use Rattle.judy_arena.specs.Frame.{Frame}
use Rattle.judy_arena.proofs.lemmas.FrameLaws.{frame-none}
use Rattle.judy_arena.proofs.lemmas.RoomLaws.{room-covers}
use Rattle.judy_bytes.specs.Buckets.{next_of}
use Rattle.judy_bytes.proofs.Buckets.{bucket-long}
use Rattle.judy_bytes.specs.Chains.{chain, IsBucketChain}
use Rattle.judy_bytes.proofs.Links.{begins, ends, shorter, chain-none, chain-reference}
use Rattle.judy_bytes.proofs.Clears.{rest-stays, all-gone, all-counted, chain-few}
use Rattle.judy_bytes.proofs.chain.+clear.Goals as goal

pub next-rest-requires-clause-sound : goal.next-rest-requires-clause-sound
next-rest-requires-clause-sound t c = (begins c.args.arena.now.blocks c.args.first c.in-Some.block c.requires (sym c.block.ensures ∙ c.in-Some.is)).bucket

pub next-rest-requires-clause-reference : goal.next-rest-requires-clause-reference
next-rest-requires-clause-reference t c = chain-reference c.args.arena.now.blocks (next_of c.args.arena.now.blocks c.in-Some.block)
    (begins c.args.arena.now.blocks c.args.first c.in-Some.block c.requires (sym c.block.ensures ∙ c.in-Some.is)).tail

pub release-requires : goal.release-requires
release-requires t c =
    let b = begins c.args.arena.now.blocks c.args.first c.in-Some.block c.requires (sym c.block.ensures ∙ c.in-Some.is) in
    omega (arith, bucket-long room-covers c.args.arena.now.blocks c.in-Some.block b.bucket)

pub returns-in_default-clause-gone : goal.returns-in_default-clause-gone
returns-in_default-clause-gone t c =
    subst (λ l. Frame c.args.arena.now.blocks c.args.arena.now.blocks l [])
    (sym (chain-none c.args.arena.now.blocks c.args.first (ends c.args.arena.now.blocks c.args.first (sym c.block.ensures ∙ c.in_default.is))))
    (frame-none c.args.arena.now.blocks)

pub returns-in_default-clause-count : goal.returns-in_default-clause-count
returns-in_default-clause-count t c =
    sym (ap length (chain-none c.args.arena.now.blocks c.args.first (ends c.args.arena.now.blocks c.args.first (sym c.block.ensures ∙ c.in_default.is))))

pub clear-requires : goal.clear-requires
clear-requires t c =
    let is = sym c.block.ensures ∙ c.in-Some.is in
    let stays = rest-stays c.args.arena.now.blocks c.args.first c.in-Some.block c.requires is c.release.new.self.blocks c.release.ensures.blocks in
    let s = ap length (ap (chain c.release.new.self.blocks) c.next-rest.ensures ∙ stays.chain_is) in
    let less = shorter c.args.arena.now.blocks c.args.first c.in-Some.block (begins c.args.arena.now.blocks c.args.first c.in-Some.block c.requires is) in (
      omega (arith, s, less, c.decreases),
      subst (IsBucketChain c.release.new.self.blocks) (sym c.next-rest.ensures) stays.sound,
    )

pub overflow_add-result : goal.overflow_add-result
overflow_add-result t c =
    let n = all-counted c.args.arena.now.blocks c.args.first c.in-Some.block c.requires (sym c.block.ensures ∙ c.in-Some.is)
    c.release.new.self.blocks c.release.ensures.blocks c.clear.result
    (c.clear.ensures.count ∙ ap (λ x. length (chain c.release.new.self.blocks x)) c.next-rest.ensures) in
    let few = chain-few c.args.arena.now.blocks c.args.first c.requires in
    omega (arith, n, few)

pub returns-clause-gone : goal.returns-clause-gone
returns-clause-gone t c =
    all-gone c.args.arena.now.blocks c.args.first c.in-Some.block c.requires (sym c.block.ensures ∙ c.in-Some.is)
    c.release.new.self.blocks c.release.ensures.blocks c.clear.new.arena.blocks
    (subst (λ x. Frame c.release.new.self.blocks c.clear.new.arena.blocks (chain c.release.new.self.blocks x) []) c.next-rest.ensures c.clear.ensures.gone)

pub returns-clause-count : goal.returns-clause-count
returns-clause-count t c =
    all-counted c.args.arena.now.blocks c.args.first c.in-Some.block c.requires (sym c.block.ensures ∙ c.in-Some.is)
    c.release.new.self.blocks c.release.ensures.blocks c.clear.result
    (c.clear.ensures.count ∙ ap (λ x. length (chain c.release.new.self.blocks x)) c.next-rest.ensures)
