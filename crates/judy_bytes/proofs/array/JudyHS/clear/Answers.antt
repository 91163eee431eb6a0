use Rattle.std.proofs.Common.{◌≡◌, [], length, ◌∙◌, ap, sym, refl, subst, arith}
use Rattle.judy_arena.specs.Frame.{Frame}
use Rattle.judy_arena.proofs.lemmas.TakeLaws.{same-rests, rests-two}
use Rattle.judy_model.specs.declared.replies.Reply.TheVariants as reply
use Rattle.judy_words.specs.LongArrays.{long_in}
use Rattle.judy_bytes.specs.Chains.{chain, IsBucketChain}
use Rattle.judy_bytes.specs.BytesArrays.{IsBytesArray, bytes_in, bytes_numbers}
use Rattle.judy_bytes.proofs.Changes.{none-map, none-content}
use Rattle.judy_bytes.proofs.Links.{chain-reference}
use Rattle.judy_bytes.proofs.Space.{map-has-space}
use Rattle.judy_bytes.proofs.Clears.{partly-start, words-here, none-yet, chain-here, words-then, partly-next, few-so-far, partly-end, partly-count, no-numbers, words-gone}
use Rattle.judy_bytes.proofs.array.JudyHS.clear.Goals as goal

pub loop-place-init : goal.loop-place-init
loop-place-init g c = record {
  words = refl;
  partly = partly-start g.H.KeyHash.hashed c.args.arena.now.blocks c.args.self.now.words c.requires c.first-found.result c.first-found.ensures.found;
  memory = same-rests c.args.arena.now;
}

pub reference_of-requires : goal.reference_of-requires
reference_of-requires g c = chain-reference c.loop-place.arena.blocks c.in-Some.entry.1
    (chain-here g.H.KeyHash.hashed c.args.arena.now.blocks c.args.self.now.words c.requires
    c.loop-place.arena.blocks c.loop-place.place c.loop-place.found c.loop-place.count c.loop-place.invariant.partly c.in-Some.entry c.in-Some.is).sound

pub clear-count-requires : goal.clear-count-requires
clear-count-requires g c = subst (IsBucketChain c.loop-place.arena.blocks) (sym c.reference_of.ensures)
    (chain-here g.H.KeyHash.hashed c.args.arena.now.blocks c.args.self.now.words c.requires
    c.loop-place.arena.blocks c.loop-place.place c.loop-place.found c.loop-place.count c.loop-place.invariant.partly c.in-Some.entry c.in-Some.is).sound

pub overflow_add-count : goal.overflow_add-count
overflow_add-count g c =
    let few = few-so-far g.H.KeyHash.hashed c.args.arena.now.blocks c.args.self.now.words c.requires
    c.loop-place.arena.blocks c.loop-place.place c.loop-place.found c.loop-place.count c.loop-place.invariant.partly c.in-Some.entry c.in-Some.is
    c.clear-count.new.arena.blocks c.clear-count.result
    (subst (λ x. Frame c.loop-place.arena.blocks c.clear-count.new.arena.blocks (chain c.loop-place.arena.blocks x) []) c.reference_of.ensures c.clear-count.ensures.gone)
    (c.clear-count.ensures.count ∙ ap (λ x. length (chain c.loop-place.arena.blocks x)) c.reference_of.ensures) in
    omega (arith, few)

pub next-found-requires : goal.next-found-requires
next-found-requires g c = (words-then g.H.KeyHash.hashed c.args.arena.now.blocks c.args.self.now.words c.requires
    c.loop-place.arena.blocks c.loop-place.place c.loop-place.found c.loop-place.count c.loop-place.invariant.partly c.in-Some.entry c.in-Some.is
    c.clear-count.new.arena.blocks c.clear-count.result
    (subst (λ x. Frame c.loop-place.arena.blocks c.clear-count.new.arena.blocks (chain c.loop-place.arena.blocks x) []) c.reference_of.ensures c.clear-count.ensures.gone)
    (c.clear-count.ensures.count ∙ ap (λ x. length (chain c.loop-place.arena.blocks x)) c.reference_of.ensures)).0

pub loop-place-preserved : goal.loop-place-preserved
loop-place-preserved g c = record {
  words = refl;
  partly = partly-next g.H.KeyHash.hashed c.args.arena.now.blocks c.args.self.now.words c.requires
      c.loop-place.arena.blocks c.loop-place.place c.loop-place.found c.loop-place.count c.loop-place.invariant.partly c.in-Some.entry c.in-Some.is
      c.clear-count.new.arena.blocks c.clear-count.result
      (subst (λ x. Frame c.loop-place.arena.blocks c.clear-count.new.arena.blocks (chain c.loop-place.arena.blocks x) []) c.reference_of.ensures c.clear-count.ensures.gone)
      (c.clear-count.ensures.count ∙ ap (λ x. length (chain c.loop-place.arena.blocks x)) c.reference_of.ensures)
      c.next-found.result c.next-found.ensures.found;
  memory = rests-two c.args.arena.now c.loop-place.arena c.clear-count.new.arena c.loop-place.invariant.memory c.clear-count.ensures.memory;
}

pub clear-requires : goal.clear-requires
clear-requires g c = (words-here g.H.KeyHash.hashed c.args.arena.now.blocks c.args.self.now.words c.requires
    c.loop-place.arena.blocks c.loop-place.place c.loop-place.found c.loop-place.count c.loop-place.invariant.partly).0

pub returns-clause-array : goal.returns-clause-array
returns-clause-array g c =
    let size = c.population-place-end.ensures in
    let last : c.loop-place.place ≡ length (long_in c.args.arena.now.blocks c.args.self.now.words) =
    omega (arith, size, c.loop-place-test.false, c.loop-place.auto.place-end) in
    record {
      sound = subst (IsBytesArray g.H.KeyHash.hashed c.clear.new.arena.blocks) (sym c.new-self.ensures.nothing)
          (none-map g.H.KeyHash.hashed c.clear.new.arena.blocks);
      frame = subst (Frame c.args.arena.now.blocks c.clear.new.arena.blocks (bytes_numbers c.args.arena.now.blocks c.args.self.now.words))
          (sym (no-numbers c.clear.new.arena.blocks c.new-self.result c.new-self.ensures.nothing))
          (partly-end g.H.KeyHash.hashed c.args.arena.now.blocks c.args.self.now.words c.requires
          c.loop-place.arena.blocks c.loop-place.place c.loop-place.found c.loop-place.count c.loop-place.invariant.partly c.clear.new.arena.blocks last
          (words-gone c.loop-place.arena.blocks c.clear.new.arena.blocks c.args.self.now.words c.clear.new.self
          c.clear.ensures.array.sound c.clear.ensures.content c.clear.ensures.array.frame));
    }

pub returns-clause-space : goal.returns-clause-space
returns-clause-space g c = map-has-space g.H.KeyHash.hashed c.clear.new.arena c.new-self.result (returns-clause-array g c).sound

pub returns-clause-counted : goal.returns-clause-counted
returns-clause-counted g c =
    let size = c.population-place-end.ensures in
    let last : c.loop-place.place ≡ length (long_in c.args.arena.now.blocks c.args.self.now.words) =
    omega (arith, size, c.loop-place-test.false, c.loop-place.auto.place-end) in
    partly-count g.H.KeyHash.hashed c.args.arena.now.blocks c.args.self.now.words c.requires
    c.loop-place.arena.blocks c.loop-place.place c.loop-place.found c.loop-place.count c.loop-place.invariant.partly last

pub returns-clause-content : goal.returns-clause-content
returns-clause-content g c = ap (bytes_in c.clear.new.arena.blocks) c.new-self.ensures.nothing ∙ none-content c.clear.new.arena.blocks

pub returns-clause-step : goal.returns-clause-step
returns-clause-step g c =
    ap (λ n. (reply.Count n, [])) (sym (returns-clause-counted g c))
    ∙ ap (λ m. (reply.Count c.loop-place.count, m)) (sym (returns-clause-content g c))
