use Rattle.std.proofs.Common.{rules, ◌∙◌, ap, sym, subst, refl, Some, is_some}
use Rattle.judy_model.specs.Contents.{string_order, with_entry}
use Rattle.judy_model.specs.Tenant.{value_after}
use Rattle.judy_model.proofs.lemmas.TestLemmas.{on_err}
use Rattle.judy_bytes.specs.Chains.{IsBucketChain}
use Rattle.judy_bytes.specs.BytesArrays.{bytes_in, first_at}
use Rattle.judy_bytes.proofs.Chains.{found-bucket, chain-value, revalued}
use Rattle.judy_bytes.proofs.Changes.{first-reference, map-found, in-place, unchanged, refused-becomes, insert-new, insert-present}
use Rattle.judy_bytes.proofs.Contents.{content-with, with-present}
use Rattle.judy_bytes.proofs.Space.{map-has-space}
use Rattle.judy_arena.proofs.lemmas.TakeLaws.{same-takes, rests-takes}
use Rattle.judy_bytes.proofs.Taking.{for-absent}
use Rattle.judy_bytes.proofs.array.JudyHS.insert.Goals as goal

pub first-first-requires-clause-reference : goal.first-first-requires-clause-reference
first-first-requires-clause-reference g c = first-reference g.H.KeyHash.hashed c.args.arena.now.blocks c.args.self.now.words c.word-hash.result c.requires.array

pub find-requires-clause-chain : goal.find-requires-clause-chain
find-requires-clause-chain g c = subst (IsBucketChain c.args.arena.now.blocks) (sym c.first-first.ensures) (c.requires.array.chains c.word-hash.result)

pub add-requires-clause-first : goal.add-requires-clause-first
add-requires-clause-first g c = c.first-first.ensures ∙ ap (first_at c.args.arena.now.blocks c.args.self.now.words) c.word-hash.ensures

pub add-requires-clause-absent : goal.add-requires-clause-absent
add-requires-clause-absent g c = map-found g.H.KeyHash.hashed c.args.arena.now.blocks c.args.self.now.words c.first-first.result
    c.word-hash.result c.args.key.now c.word-hash.ensures c.requires.array c.first-first.ensures ∙ c.in_default.ensures.none

pub returns-in_err-add-clause-array : goal.returns-in_err-add-clause-array
returns-in_err-add-clause-array g c = refused-becomes g.H.KeyHash.hashed c.args.arena.now c.add.new.arena c.args.self.now.words
    c.add.new.self.words c.requires.array c.in_err-add.ensures.refused

pub returns-in_err-add-clause-absent : goal.returns-in_err-add-clause-absent
returns-in_err-add-clause-absent g c = on_err c.from_residual.result
    (ap is_some (map-found g.H.KeyHash.hashed c.args.arena.now.blocks c.args.self.now.words c.first-first.result c.word-hash.result
    c.args.key.now c.word-hash.ensures c.requires.array c.first-first.ensures ∙ c.in_default.ensures.none))

pub returns-in_default-clause-array : goal.returns-in_default-clause-array
returns-in_default-clause-array g c = record { sound = c.in_ok-add.ensures.array.sound; frame = c.in_ok-add.ensures.array.frame }

pub returns-in_default-clause-present : goal.returns-in_default-clause-present
returns-in_default-clause-present g c = sym (map-found g.H.KeyHash.hashed c.args.arena.now.blocks c.args.self.now.words
    c.first-first.result c.word-hash.result c.args.key.now c.word-hash.ensures c.requires.array c.first-first.ensures
    ∙ c.in_default.ensures.none)

pub returns-in_default-clause-step : goal.returns-in_default-clause-step
returns-in_default-clause-step g c =
    let none = map-found g.H.KeyHash.hashed c.args.arena.now.blocks c.args.self.now.words c.first-first.result c.word-hash.result
    c.args.key.now c.word-hash.ensures c.requires.array c.first-first.ensures ∙ c.in_default.ensures.none in
    insert-new (bytes_in c.args.arena.now.blocks c.args.self.now.words)
    (bytes_in c.add.new.arena.blocks c.add.new.self.words) c.args.key.now c.args.given none
    (content-with g.H.KeyHash.hashed c.args.arena.now.blocks c.add.new.arena.blocks c.args.self.now.words c.add.new.self.words
    c.args.key.now c.value_after-value.result c.in_ok-add.ensures.array
    ∙ ap (with_entry string_order (bytes_in c.args.arena.now.blocks c.args.self.now.words) c.args.key.now) c.value_after-value.ensures)

pub value-value-requires : goal.value-value-requires
value-value-requires g c = found-bucket c.args.arena.now.blocks c.first-first.result c.in-Some.bucket c.args.key.now
    (subst (IsBucketChain c.args.arena.now.blocks) (sym c.first-first.ensures) (c.requires.array.chains c.word-hash.result))
    c.in-Some.ensures.some

pub returns-in-Nothing-clause-array : goal.returns-in-Nothing-clause-array
returns-in-Nothing-clause-array g c = record {
  sound = c.requires.array;
  frame = unchanged g.H.KeyHash.hashed
      c.args.arena.now.blocks c.args.arena.now.blocks c.args.self.now.words c.requires.array refl;
}

pub returns-in-Nothing-clause-present : goal.returns-in-Nothing-clause-present
returns-in-Nothing-clause-present g c =
    ap Some c.value-value.ensures ∙ sym (map-found g.H.KeyHash.hashed c.args.arena.now.blocks c.args.self.now.words
    c.first-first.result c.word-hash.result c.args.key.now c.word-hash.ensures c.requires.array c.first-first.ensures
    ∙ chain-value c.args.arena.now.blocks c.first-first.result c.in-Some.bucket c.args.key.now
    (subst (IsBucketChain c.args.arena.now.blocks) (sym c.first-first.ensures) (c.requires.array.chains c.word-hash.result))
    c.in-Some.ensures.some)

pub returns-in-Nothing-clause-step : goal.returns-in-Nothing-clause-step
returns-in-Nothing-clause-step g c =
    let some = map-found g.H.KeyHash.hashed c.args.arena.now.blocks c.args.self.now.words c.first-first.result c.word-hash.result
    c.args.key.now c.word-hash.ensures c.requires.array c.first-first.ensures
    ∙ chain-value c.args.arena.now.blocks c.first-first.result c.in-Some.bucket c.args.key.now
    (subst (IsBucketChain c.args.arena.now.blocks) (sym c.first-first.ensures) (c.requires.array.chains c.word-hash.result))
    c.in-Some.ensures.some
    ∙ ap Some (sym c.value-value.ensures) in
    insert-present (bytes_in c.args.arena.now.blocks c.args.self.now.words)
    (bytes_in c.args.arena.now.blocks c.args.self.now.words) c.args.key.now c.args.given c.value-value.result some
    (sym (with-present c.args.arena.now.blocks c.args.self.now.words c.args.key.now c.value-value.result some)
    ∙ ap (λ o. with_entry string_order (bytes_in c.args.arena.now.blocks c.args.self.now.words) c.args.key.now
    (value_after o c.value-value.result)) (sym c.in-Nothing.is))

pub set_value-requires : goal.set_value-requires
set_value-requires g c = found-bucket c.args.arena.now.blocks c.first-first.result c.in-Some.bucket c.args.key.now
    (subst (IsBucketChain c.args.arena.now.blocks) (sym c.first-first.ensures) (c.requires.array.chains c.word-hash.result))
    c.in-Some.ensures.some

pub returns-clause-array : goal.returns-clause-array
returns-clause-array g c =
    let ch = revalued c.args.arena.now.blocks c.set_value.new.arena.blocks c.first-first.result c.in-Some.bucket
    c.value_after.result c.args.key.now (search rules)
    (subst (IsBucketChain c.args.arena.now.blocks) (sym c.first-first.ensures) (c.requires.array.chains c.word-hash.result))
    c.in-Some.ensures.some c.set_value.ensures.blocks in
    let m = in-place g.H.KeyHash.hashed c.args.arena.now.blocks c.set_value.new.arena.blocks c.args.self.now.words
    c.first-first.result c.word-hash.result c.first-first.result c.args.key.now (Some c.value_after.result) c.word-hash.ensures
    c.requires.array c.first-first.ensures ch refl in
    record { sound = m.sound; frame = m.frame }

pub returns-clause-present : goal.returns-clause-present
returns-clause-present g c =
    ap Some c.value-value.ensures ∙ sym (map-found g.H.KeyHash.hashed c.args.arena.now.blocks c.args.self.now.words
    c.first-first.result c.word-hash.result c.args.key.now c.word-hash.ensures c.requires.array c.first-first.ensures
    ∙ chain-value c.args.arena.now.blocks c.first-first.result c.in-Some.bucket c.args.key.now
    (subst (IsBucketChain c.args.arena.now.blocks) (sym c.first-first.ensures) (c.requires.array.chains c.word-hash.result))
    c.in-Some.ensures.some)

pub returns-clause-step : goal.returns-clause-step
returns-clause-step g c =
    let ch = revalued c.args.arena.now.blocks c.set_value.new.arena.blocks c.first-first.result c.in-Some.bucket
    c.value_after.result c.args.key.now (search rules)
    (subst (IsBucketChain c.args.arena.now.blocks) (sym c.first-first.ensures) (c.requires.array.chains c.word-hash.result))
    c.in-Some.ensures.some c.set_value.ensures.blocks in
    let m = in-place g.H.KeyHash.hashed c.args.arena.now.blocks c.set_value.new.arena.blocks c.args.self.now.words
    c.first-first.result c.word-hash.result c.first-first.result c.args.key.now (Some c.value_after.result) c.word-hash.ensures
    c.requires.array c.first-first.ensures ch refl in
    let some = map-found g.H.KeyHash.hashed c.args.arena.now.blocks c.args.self.now.words c.first-first.result c.word-hash.result
    c.args.key.now c.word-hash.ensures c.requires.array c.first-first.ensures
    ∙ chain-value c.args.arena.now.blocks c.first-first.result c.in-Some.bucket c.args.key.now
    (subst (IsBucketChain c.args.arena.now.blocks) (sym c.first-first.ensures) (c.requires.array.chains c.word-hash.result))
    c.in-Some.ensures.some
    ∙ ap Some (sym c.value-value.ensures) in
    insert-present (bytes_in c.args.arena.now.blocks c.args.self.now.words)
    (bytes_in c.set_value.new.arena.blocks c.args.self.now.words) c.args.key.now c.args.given c.value-value.result some
    (content-with g.H.KeyHash.hashed c.args.arena.now.blocks c.set_value.new.arena.blocks c.args.self.now.words
    c.args.self.now.words c.args.key.now c.value_after.result m
    ∙ ap (with_entry string_order (bytes_in c.args.arena.now.blocks c.args.self.now.words) c.args.key.now) c.value_after.ensures)

pub returns-in_err-add-clause-space : goal.returns-in_err-add-clause-space
returns-in_err-add-clause-space g c = map-has-space g.H.KeyHash.hashed c.add.new.arena c.add.new.self.words (returns-in_err-add-clause-array g c).sound

pub returns-in_default-clause-space : goal.returns-in_default-clause-space
returns-in_default-clause-space g c = map-has-space g.H.KeyHash.hashed c.add.new.arena c.add.new.self.words (returns-in_default-clause-array g c).sound

pub returns-in-Nothing-clause-space : goal.returns-in-Nothing-clause-space
returns-in-Nothing-clause-space g c = map-has-space g.H.KeyHash.hashed c.args.arena.now c.args.self.now.words
    (returns-in-Nothing-clause-array g c).sound

pub returns-clause-space : goal.returns-clause-space
returns-clause-space g c = map-has-space g.H.KeyHash.hashed c.set_value.new.arena c.args.self.now.words (returns-clause-array g c).sound

-- ---- how many blocks it takes

pub returns-in_err-add-clause-memory : goal.returns-in_err-add-clause-memory
returns-in_err-add-clause-memory g c = for-absent 65 _ c.args.arena.now c.add.new.arena (ap is_some (map-found g.H.KeyHash.hashed c.args.arena.now.blocks c.args.self.now.words c.first-first.result c.word-hash.result
    c.args.key.now c.word-hash.ensures c.requires.array c.first-first.ensures ∙ c.in_default.ensures.none)) c.in_err-add.ensures.memory

pub returns-in_default-clause-memory : goal.returns-in_default-clause-memory
returns-in_default-clause-memory g c = for-absent 65 _ c.args.arena.now c.add.new.arena (ap is_some (map-found g.H.KeyHash.hashed c.args.arena.now.blocks c.args.self.now.words c.first-first.result c.word-hash.result
    c.args.key.now c.word-hash.ensures c.requires.array c.first-first.ensures ∙ c.in_default.ensures.none)) c.in_ok-add.ensures.memory

pub returns-in-Nothing-clause-memory : goal.returns-in-Nothing-clause-memory
returns-in-Nothing-clause-memory g c = same-takes _ c.args.arena.now

pub returns-clause-memory : goal.returns-clause-memory
returns-clause-memory g c = rests-takes _ c.args.arena.now c.set_value.new.arena c.set_value.ensures.memory
