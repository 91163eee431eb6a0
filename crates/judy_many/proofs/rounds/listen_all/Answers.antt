use Rattle.std.proofs.Common.{arith, refl, ◌∙◌}
use Rattle.judy_many.specs.Crowds.{past_of}
use Rattle.judy_many.specs.Lives.{view_of}
use Rattle.judy_many.specs.Stories.Phase.{Reads}
use Rattle.judy_many.specs.Questions.{Stage}
use Rattle.judy_many.proofs.Beside.{reads_not_writes}
use Rattle.judy_many.proofs.Crowding.{all_read, begins, has_failed, has_written}
use Rattle.judy_many.specs.Rules.{rules_of}
use Rattle.judy_many.proofs.rounds.listen_all.Goals as goal

pub loop-place-init : goal.loop-place-init
loop-place-init g c = record {
  crowd = λ first start waits began h. begins (λ b. view_of g.S.Served.who g.N.Network.number b.value) (rules_of g.S.Served.made g.S.Served.seen g.S.Shows.noted g.S.Shows.status g.S.Shows.changed g.S.Shows.caps g.S.Shows.leavers) c.args.limits first start Reads c.args.clients.now.queue c.new-shares.result c.new-shares.ensures.none (past_of waits began c.args.keeper.now) _ _ _ _ h;
  queue = refl;
  logins = refl;
  speakers = refl;
  known = c.requires.known;
}

pub returns-then-not-make_room-clause-failed : goal.returns-then-not-make_room-clause-failed
returns-then-not-make_room-clause-failed g c = λ first start waits began e h.
    has_failed (λ b. view_of g.S.Served.who g.N.Network.number b.value) (rules_of g.S.Served.made g.S.Served.seen g.S.Shows.noted g.S.Shows.status g.S.Shows.changed g.S.Shows.caps g.S.Shows.leavers) c.args.limits first start Reads reads_not_writes _ waits began Stage.Unasked c.loop-place.keeper _ _ _ _ _ _ tt (rw c.if-not-make_room.true at c.make_room.ensures.written) (c.loop-place.invariant.crowd first start waits began h)

pub loop-place-preserved : goal.loop-place-preserved
loop-place-preserved g c =
    let same = c.loop-place.invariant.logins in
    record {
      crowd = λ first start waits began h.
          let turned = c.listen_to.ensures.crowd first start waits began in
          let queued = rw c.loop-place.invariant.queue at turned in
          queued (has_written (λ b. view_of g.S.Served.who g.N.Network.number b.value) (rules_of g.S.Served.made g.S.Served.seen g.S.Shows.noted g.S.Shows.status g.S.Shows.changed g.S.Shows.caps g.S.Shows.leavers) c.args.limits first start Reads reads_not_writes _ waits began Stage.Unasked c.loop-place.keeper c.make_room.new.self _ _ _ _ _ (rw c.if-not-make_room.false at c.make_room.ensures.written)
          (c.loop-place.invariant.crowd first start waits began h));
      queue = c.listen_to.ensures.queue ∙ c.loop-place.invariant.queue;
      logins = c.listen_to.ensures.logins ∙ same;
      speakers = c.listen_to.ensures.speakers ∙ c.loop-place.invariant.speakers;
      known = c.listen_to.ensures.known;
    }

pub returns-clause-crowd : goal.returns-clause-crowd
returns-clause-crowd g c = λ first start waits began e h.
    all_read (λ b. view_of g.S.Served.who g.N.Network.number b.value) (rules_of g.S.Served.made g.S.Served.seen g.S.Shows.noted g.S.Shows.status g.S.Shows.changed g.S.Shows.caps g.S.Shows.leavers) c.args.limits first start c.args.clients.now.queue c.loop-place.clients.queue c.loop-place.shares c.loop-place.place (past_of waits began c.loop-place.keeper) _ _ _ _ c.loop-place.invariant.queue c.len-place-end.ensures.found (let n = c.len-place-end.ensures.long in omega (arith, n)) (c.loop-place.invariant.crowd first start waits began h)
