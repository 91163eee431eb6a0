use Rattle.std.proofs.Common.{◌∙◌, ap, sym, subst, refl, Some, is_some}
use Rattle.std.proofs.lemmas.Bool.{false≢true as not-true}
use Rattle.judy_bytes.specs.Chains.{IsBucketChain}
use Rattle.judy_bytes.proofs.Chains.{found-bucket, revalued}
use Rattle.judy_bytes.proofs.Changes.{first-reference, map-found, in-place}
use Rattle.judy_bytes.proofs.Contents.{content-with}
use Rattle.judy_bytes.proofs.array.JudyHS.write.Goals as goal

pub first-first-requires-clause-reference : goal.first-first-requires-clause-reference
first-first-requires-clause-reference g c = first-reference g.H.KeyHash.hashed c.args.arena.now.blocks c.args.self.now.words c.word.result c.requires.array

pub unreachable-requires : goal.unreachable-requires
unreachable-requires g c =
    not-true (ap is_some (sym (map-found g.H.KeyHash.hashed c.args.arena.now.blocks c.args.self.now.words c.first-first.result
    c.word.result c.args.key.now c.word.ensures c.requires.array c.first-first.ensures ∙ c.in_default.ensures.none))
    ∙ c.requires.there)

pub set_value-requires : goal.set_value-requires
set_value-requires g c = found-bucket c.args.arena.now.blocks c.first-first.result c.in-Some.bucket c.args.key.now
    (subst (IsBucketChain c.args.arena.now.blocks) (sym c.first-first.ensures) (c.requires.array.chains c.word.result))
    c.in-Some.ensures.some

pub returns-clause-array : goal.returns-clause-array
returns-clause-array g c =
    let ch = revalued c.args.arena.now.blocks c.set_value.new.arena.blocks c.first-first.result c.in-Some.bucket c.args.value c.args.key.now c.ranges.value.fits
    (subst (IsBucketChain c.args.arena.now.blocks) (sym c.first-first.ensures) (c.requires.array.chains c.word.result))
    c.in-Some.ensures.some c.set_value.ensures.blocks in
    let m = in-place g.H.KeyHash.hashed c.args.arena.now.blocks c.set_value.new.arena.blocks c.args.self.now.words
    c.first-first.result c.word.result c.first-first.result c.args.key.now (Some c.args.value) c.word.ensures c.requires.array
    c.first-first.ensures ch refl in
    record { sound = m.sound; frame = m.frame }

pub returns-clause-content : goal.returns-clause-content
returns-clause-content g c =
    let ch = revalued c.args.arena.now.blocks c.set_value.new.arena.blocks c.first-first.result c.in-Some.bucket c.args.value c.args.key.now c.ranges.value.fits
    (subst (IsBucketChain c.args.arena.now.blocks) (sym c.first-first.ensures) (c.requires.array.chains c.word.result))
    c.in-Some.ensures.some c.set_value.ensures.blocks in
    let m = in-place g.H.KeyHash.hashed c.args.arena.now.blocks c.set_value.new.arena.blocks c.args.self.now.words
    c.first-first.result c.word.result c.first-first.result c.args.key.now (Some c.args.value) c.word.ensures c.requires.array
    c.first-first.ensures ch refl in
    content-with g.H.KeyHash.hashed c.args.arena.now.blocks c.set_value.new.arena.blocks c.args.self.now.words
    c.args.self.now.words c.args.key.now c.args.value m
