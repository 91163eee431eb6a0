use Rattle.std.proofs.Common.{sym, subst, Some}
use Rattle.judy_bytes.specs.Chains.{ChainBecomes, IsNewBucket}
use Rattle.judy_bytes.proofs.Chains.{prepended, new-bucket}
use Rattle.judy_bytes.proofs.chain.prepend.Goals as goal

pub returns-clause-chain : goal.returns-clause-chain
returns-clause-chain c =
    subst (λ x. ChainBecomes c.args.arena.now.blocks c.make.new.arena.blocks c.args.first x c.args.key.now (Some c.args.value)) (sym c.of.ensures)
    (prepended c.args.arena.now.blocks c.make.new.arena.blocks c.args.first c.in_ok-block.block c.args.value c.args.key.now
    c.requires.chain c.in_ok-block.ensures.made c.requires.absent)

pub returns-clause-fresh : goal.returns-clause-fresh
returns-clause-fresh c =
    subst (λ x. IsNewBucket c.args.arena.now.blocks c.make.new.arena.blocks x) (sym c.of.ensures)
    (new-bucket c.args.arena.now.blocks c.make.new.arena.blocks c.args.first c.args.value c.args.key.now c.in_ok-block.block
    c.in_ok-block.ensures.made)
