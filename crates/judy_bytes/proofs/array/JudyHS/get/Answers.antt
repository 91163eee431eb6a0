use Rattle.std.proofs.Common.{◌∙◌, ap, sym, subst, Some}
use Rattle.judy_model.specs.Tenant.{value_or_null}
use Rattle.judy_bytes.specs.Chains.{IsBucketChain}
use Rattle.judy_bytes.specs.BytesArrays.{bytes_in}
use Rattle.judy_bytes.proofs.Chains.{found-bucket, chain-value}
use Rattle.judy_bytes.proofs.Changes.{first-reference, map-found}
use Rattle.judy_bytes.proofs.array.JudyHS.get.Goals as goal

pub first-first-requires-clause-reference : goal.first-first-requires-clause-reference
first-first-requires-clause-reference g c = first-reference g.H.KeyHash.hashed c.args.arena.now.blocks c.args.self.now.words c.word.result c.requires.array

pub find-requires-clause-chain : goal.find-requires-clause-chain
find-requires-clause-chain g c = subst (IsBucketChain c.args.arena.now.blocks) (sym c.first-first.ensures) (c.requires.array.chains c.word.result)

pub returns-in_err-bucket-clause-found : goal.returns-in_err-bucket-clause-found
returns-in_err-bucket-clause-found g c =
    c.from_residual.ensures ∙ sym (map-found g.H.KeyHash.hashed c.args.arena.now.blocks c.args.self.now.words c.first-first.result
    c.word.result c.args.key.now c.word.ensures c.requires.array c.first-first.ensures ∙ c.in_err-bucket.ensures.none)

pub returns-in_err-bucket-clause-step : goal.returns-in_err-bucket-clause-step
returns-in_err-bucket-clause-step g c =
    ap (λ o. (value_or_null o, bytes_in c.args.arena.now.blocks c.args.self.now.words))
    (map-found g.H.KeyHash.hashed c.args.arena.now.blocks c.args.self.now.words c.first-first.result c.word.result c.args.key.now
    c.word.ensures c.requires.array c.first-first.ensures ∙ c.in_err-bucket.ensures.none ∙ sym c.from_residual.ensures)

pub value-requires : goal.value-requires
value-requires g c = found-bucket c.args.arena.now.blocks c.first-first.result c.in_ok-bucket.bucket c.args.key.now
    (subst (IsBucketChain c.args.arena.now.blocks) (sym c.first-first.ensures) (c.requires.array.chains c.word.result))
    c.in_ok-bucket.ensures.some

pub returns-clause-found : goal.returns-clause-found
returns-clause-found g c =
    ap Some c.value.ensures ∙ sym (map-found g.H.KeyHash.hashed c.args.arena.now.blocks c.args.self.now.words c.first-first.result
    c.word.result c.args.key.now c.word.ensures c.requires.array c.first-first.ensures
    ∙ chain-value c.args.arena.now.blocks c.first-first.result c.in_ok-bucket.bucket c.args.key.now
    (subst (IsBucketChain c.args.arena.now.blocks) (sym c.first-first.ensures) (c.requires.array.chains c.word.result))
    c.in_ok-bucket.ensures.some)

pub returns-clause-step : goal.returns-clause-step
returns-clause-step g c =
    ap (λ o. (value_or_null o, bytes_in c.args.arena.now.blocks c.args.self.now.words))
    (map-found g.H.KeyHash.hashed c.args.arena.now.blocks c.args.self.now.words c.first-first.result c.word.result c.args.key.now
    c.word.ensures c.requires.array c.first-first.ensures
    ∙ chain-value c.args.arena.now.blocks c.first-first.result c.in_ok-bucket.bucket c.args.key.now
    (subst (IsBucketChain c.args.arena.now.blocks) (sym c.first-first.ensures) (c.requires.array.chains c.word.result))
    c.in_ok-bucket.ensures.some ∙ ap Some (sym c.value.ensures))
