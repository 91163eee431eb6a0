use Rattle.std.proofs.Common.{◌≡◌, true, false, is_some, IsTrue, ap, sym, ◌∙◌, refl, subst}
use Rattle.std.specs.FinMap.{get, contains_key}
use Rattle.judy_directory.specs.Places.{Stand, at, with_place}
use Rattle.judy_kinds.specs.Calls.{AnswersAt}
use Rattle.judy_tenants.proofs.StateLaws.{put_back}
use Rattle.judy_tenants.proofs.Rests.{nothing-rests, no_stand, same-stand}
use Rattle.judy_tenants.proofs.stock.look_up.Goals as goal

pub put-requires : goal.put-requires
put-requires g c = λ some.
    let d = c.args.stock.now.directory.0 in
    let k = c.args.spot.now in
    elim (is_some (get d k)) as (λ b. is_some (get d k) ≡ b → IsTrue (contains_key d k)) [
      | true ↦ λ e. e
      | false ↦ λ e.
          let zero : c.stands_at-before.result.root ≡ 0 = ap (λ (p : Stand). p.root) (c.stands_at-before.ensures ∙ no_stand (get d k) e) in
          let step = subst (λ w. AnswersAt c.args.stock.now.arena.blocks w c.args.call.now c.in_ok-reply.reply
          c.answer.new.arena.blocks c.in_ok-reply.after.root) zero c.in_ok-reply.ensures.step in
          absurd (some (nothing-rests g.H.KeyHash.hashed c.only_nothing_is_empty.ensures c.args.stock.now.arena.blocks
          c.answer.new.arena.blocks c.args.call.now c.in_ok-reply.reply
          c.in_ok-reply.after.root c.requires.insertion step c.in_ok-reply.ensures.array.place.sound))
    ] refl

pub returns-then-eq-clause-ok : goal.returns-then-eq-clause-ok
returns-then-eq-clause-ok g c =
    let d = c.args.stock.now.directory.0 in
    let k = c.args.spot.now in
    let same : c.in_ok-reply.after ≡ at d k = same-stand c.in_ok-reply.after c.stands_at-before.result
    (sym c.eq.ensures ∙ c.if-eq.true) ∙ c.stands_at-before.ensures in
    record {
      before = c.stands_at-before.ensures;
      places = sym (ap (with_place d k) same ∙ put_back d k (c.requires.held.filled k));
      footing = refl;
      array = c.in_ok-reply.ensures.array;
      step = c.in_ok-reply.ensures.step;
      refusals = c.in_ok-reply.ensures.quiet;
      unplaced = refl;
      granted = refl;
      accounts = refl;
    }

pub returns-clause-ok : goal.returns-clause-ok
returns-clause-ok g c = record {
  before = c.stands_at-before.ensures;
  places = c.put.ensures.places;
  footing = c.put.ensures.footing;
  array = c.in_ok-reply.ensures.array;
  step = c.in_ok-reply.ensures.step;
  refusals = c.in_ok-reply.ensures.quiet;
  unplaced = refl;
  granted = refl;
  accounts = refl;
}
