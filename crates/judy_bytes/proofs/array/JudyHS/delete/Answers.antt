use Rattle.std.proofs.Common.{◌≡◌, ◌∙◌, ap, sym, subst, true, false, None, is_some}
use Rattle.judy_model.specs.Contents.{string_order, has_key, without_key}
use Rattle.judy_model.specs.declared.replies.Reply.TheVariants as reply
use Rattle.judy_bytes.specs.Chains.{IsBucketChain}
use Rattle.judy_bytes.specs.BytesArrays.{IsBytesArray, bytes_in}
use Rattle.judy_bytes.proofs.Changes.{first-reference, map-found, still-words, still-there, changed, unchanged, some-first}
use Rattle.judy_bytes.proofs.Contents.{content-without, without-absent}
use Rattle.judy_bytes.proofs.Space.{map-has-space}
use Rattle.judy_bytes.proofs.array.JudyHS.delete.Goals as goal

pub first-first-requires-clause-reference : goal.first-first-requires-clause-reference
first-first-requires-clause-reference g c = first-reference g.H.KeyHash.hashed c.args.arena.now.blocks c.args.self.now.words c.word-hash.result c.requires.array

pub take_out-requires-clause-chain : goal.take_out-requires-clause-chain
take_out-requires-clause-chain g c = subst (IsBucketChain c.args.arena.now.blocks) (sym c.first-first.ensures) (c.requires.array.chains c.word-hash.result)

pub returns-in_default-clause-array : goal.returns-in_default-clause-array
returns-in_default-clause-array g c = record {
  sound = subst (λ b. IsBytesArray g.H.KeyHash.hashed b c.args.self.now.words) (sym c.in_default.ensures.blocks) c.requires.array;
  frame = unchanged g.H.KeyHash.hashed c.args.arena.now.blocks c.take_out.new.arena.blocks c.args.self.now.words c.requires.array c.in_default.ensures.blocks;
}

pub returns-in_default-clause-there : goal.returns-in_default-clause-there
returns-in_default-clause-there g c =
    sym (ap is_some (map-found g.H.KeyHash.hashed c.args.arena.now.blocks c.args.self.now.words c.first-first.result
    c.word-hash.result c.args.key.now c.word-hash.ensures c.requires.array c.first-first.ensures ∙ c.in_default.ensures.absent))

pub returns-in_default-clause-content : goal.returns-in_default-clause-content
returns-in_default-clause-content g c =
    let none = map-found g.H.KeyHash.hashed c.args.arena.now.blocks c.args.self.now.words c.first-first.result c.word-hash.result
    c.args.key.now c.word-hash.ensures c.requires.array c.first-first.ensures ∙ c.in_default.ensures.absent in
    ap (λ b. bytes_in b c.args.self.now.words) c.in_default.ensures.blocks
    ∙ sym (without-absent c.args.arena.now.blocks c.args.self.now.words c.args.key.now none)

pub returns-in_default-clause-step : goal.returns-in_default-clause-step
returns-in_default-clause-step g c =
    let none = map-found g.H.KeyHash.hashed c.args.arena.now.blocks c.args.self.now.words c.first-first.result c.word-hash.result
    c.args.key.now c.word-hash.ensures c.requires.array c.first-first.ensures ∙ c.in_default.ensures.absent in
    ap (λ o. (reply.Int (is_some o), without_key string_order (bytes_in c.args.arena.now.blocks c.args.self.now.words) c.args.key.now)) none
    ∙ ap (λ m. (reply.Int false, m)) (without-absent c.args.arena.now.blocks c.args.self.now.words c.args.key.now none
    ∙ ap (λ b. bytes_in b c.args.self.now.words) (sym c.in_default.ensures.blocks))

pub lead-self-requires-clause-array : goal.lead-self-requires-clause-array
lead-self-requires-clause-array g c =
    still-words g.H.KeyHash.hashed c.args.arena.now.blocks c.take_out.new.arena.blocks c.args.self.now.words c.first-first.result
    c.word-hash.result c.in-Some.left c.args.key.now None c.word-hash.ensures c.requires.array c.first-first.ensures
    c.in-Some.ensures.chain

pub lead-self-requires-clause-there : goal.lead-self-requires-clause-there
lead-self-requires-clause-there g c =
    still-there g.H.KeyHash.hashed c.args.arena.now.blocks c.take_out.new.arena.blocks c.args.self.now.words c.first-first.result
    c.word-hash.result c.in-Some.left c.args.key.now None c.word-hash.ensures c.requires.array c.first-first.ensures
    c.in-Some.ensures.chain
    (some-first c.args.arena.now.blocks c.first-first.result c.args.key.now c.in-Some.ensures.there)

pub returns-clause-array : goal.returns-clause-array
returns-clause-array g c =
    let m = changed g.H.KeyHash.hashed c.args.arena.now.blocks c.take_out.new.arena.blocks c.args.self.now.words
    c.first-first.result c.word-hash.result c.in-Some.left c.args.key.now None c.word-hash.ensures c.requires.array
    c.first-first.ensures c.in-Some.ensures.chain
    c.lead-self.new.arena.blocks c.lead-self.result c.lead-self.ensures.words in
    record { sound = m.sound; frame = m.frame }

pub returns-clause-there : goal.returns-clause-there
returns-clause-there g c =
    sym (ap is_some (map-found g.H.KeyHash.hashed c.args.arena.now.blocks c.args.self.now.words c.first-first.result
    c.word-hash.result c.args.key.now c.word-hash.ensures c.requires.array c.first-first.ensures) ∙ c.in-Some.ensures.there)

pub returns-clause-content : goal.returns-clause-content
returns-clause-content g c =
    let m = changed g.H.KeyHash.hashed c.args.arena.now.blocks c.take_out.new.arena.blocks c.args.self.now.words
    c.first-first.result c.word-hash.result c.in-Some.left c.args.key.now None c.word-hash.ensures c.requires.array
    c.first-first.ensures c.in-Some.ensures.chain
    c.lead-self.new.arena.blocks c.lead-self.result c.lead-self.ensures.words in
    content-without g.H.KeyHash.hashed c.args.arena.now.blocks c.lead-self.new.arena.blocks c.args.self.now.words c.lead-self.result c.args.key.now m

pub returns-clause-step : goal.returns-clause-step
returns-clause-step g c =
    let m = changed g.H.KeyHash.hashed c.args.arena.now.blocks c.take_out.new.arena.blocks c.args.self.now.words
    c.first-first.result c.word-hash.result c.in-Some.left c.args.key.now None c.word-hash.ensures c.requires.array
    c.first-first.ensures c.in-Some.ensures.chain
    c.lead-self.new.arena.blocks c.lead-self.result c.lead-self.ensures.words in
    let there : has_key string_order (bytes_in c.args.arena.now.blocks c.args.self.now.words) c.args.key.now ≡ true
    = ap is_some (map-found g.H.KeyHash.hashed c.args.arena.now.blocks c.args.self.now.words c.first-first.result
    c.word-hash.result c.args.key.now c.word-hash.ensures c.requires.array c.first-first.ensures) ∙ c.in-Some.ensures.there in
    ap (λ t. (reply.Int t, without_key string_order (bytes_in c.args.arena.now.blocks c.args.self.now.words) c.args.key.now)) there
    ∙ ap (λ l. (reply.Int true, l))
    (sym (content-without g.H.KeyHash.hashed c.args.arena.now.blocks c.lead-self.new.arena.blocks c.args.self.now.words
    c.lead-self.result c.args.key.now m))

pub returns-in_default-clause-space : goal.returns-in_default-clause-space
returns-in_default-clause-space g c = map-has-space g.H.KeyHash.hashed c.take_out.new.arena c.args.self.now.words (returns-in_default-clause-array g c).sound

pub returns-clause-space : goal.returns-clause-space
returns-clause-space g c = map-has-space g.H.KeyHash.hashed c.lead-self.new.arena c.lead-self.result (returns-clause-array g c).sound
