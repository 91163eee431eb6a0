use Rattle.std.proofs.Common.{arith, subst}
use Rattle.judy_many.specs.Endings.{lost_at}
use Rattle.judy_many.specs.Lives.{view_of}
use Rattle.judy_many.specs.Nets.{DidLog}
use Rattle.judy_many.specs.Watches.{nobody}
use Rattle.judy_many.specs.Rules.{rules_of}
use Rattle.judy_many.specs.Stories.Phase.{Reads}
use Rattle.judy_many.proofs.Accepting.{accepted}
use Rattle.judy_many.proofs.Crowding.{idle}
use Rattle.judy_many.proofs.Living.{no_log}
use Rattle.judy_many.proofs.Known.{known-change}
use Rattle.judy_many.proofs.arrivals.accept.Goals as goal

pub returns-in-Nothing-clause-crowd : goal.returns-in-Nothing-clause-crowd
returns-in-Nothing-clause-crowd g c = λ first now start past h.
    let (mid, last, seated) = accepted _ _ c.args.limits first start past now c.loop-try.clients.queue c.wake.new.queue _ _ c.loop-try.clients.slots.items c.loop-try.clients.accepted c.in-Some.at
    _ _ c.accept_at-arrival.result c.accept_at-arrival.new.slot c.wake.ensures.stay c.wake.ensures.wakes (omega (arith, c.in-Some.ensures.slots)) c.in-Some.ensures.free (omega arith)
    c.has_come-came.ensures c.one_if.ensures c.accept_at-arrival.ensures.arrives (c.loop-try.invariant.crowd first now start past h) in
    (mid, subst (λ r. DidLog mid (lost_at r) (g.N.Network.log c.accept_at-arrival.new.network)) c.in-Nothing.is last, seated)

pub returns-in-Nothing-clause-known : goal.returns-in-Nothing-clause-known
returns-in-Nothing-clause-known g c = λ speakers k. known-change _ speakers _ _ c.index_mut.result.now _ (omega (arith, c.in-Some.ensures.slots)) c.index_mut.ensures.value
    (c.accept_at-arrival.ensures.known speakers) (c.loop-try.invariant.known speakers k)

pub returns-in-Later-clause-crowd : goal.returns-in-Later-clause-crowd
returns-in-Later-clause-crowd g c = λ first now start past h.
    let (mid, last, seated) = accepted _ _ c.args.limits first start past now c.loop-try.clients.queue c.wake.new.queue _ _ c.loop-try.clients.slots.items c.loop-try.clients.accepted c.in-Some.at
    _ _ c.accept_at-arrival.result c.accept_at-arrival.new.slot c.wake.ensures.stay c.wake.ensures.wakes (omega (arith, c.in-Some.ensures.slots)) c.in-Some.ensures.free (omega arith)
    c.has_come-came.ensures c.one_if.ensures c.accept_at-arrival.ensures.arrives (c.loop-try.invariant.crowd first now start past h) in
    (mid, subst (λ r. DidLog mid (lost_at r) (g.N.Network.log c.accept_at-arrival.new.network)) c.in-Later.is last, seated)

pub returns-in-Later-clause-known : goal.returns-in-Later-clause-known
returns-in-Later-clause-known g c = λ speakers k. known-change _ speakers _ _ c.index_mut.result.now _ (omega (arith, c.in-Some.ensures.slots)) c.index_mut.ensures.value
    (c.accept_at-arrival.ensures.known speakers) (c.loop-try.invariant.known speakers k)

pub returns-in-Fault-clause-crowd : goal.returns-in-Fault-clause-crowd
returns-in-Fault-clause-crowd g c = λ first now start past h.
    let (mid, last, seated) = accepted _ _ c.args.limits first start past now c.loop-try.clients.queue c.wake.new.queue _ _ c.loop-try.clients.slots.items c.loop-try.clients.accepted c.in-Some.at
    _ _ c.accept_at-arrival.result c.accept_at-arrival.new.slot c.wake.ensures.stay c.wake.ensures.wakes (omega (arith, c.in-Some.ensures.slots)) c.in-Some.ensures.free (omega arith)
    c.has_come-came.ensures c.one_if.ensures c.accept_at-arrival.ensures.arrives (c.loop-try.invariant.crowd first now start past h) in
    (mid, subst (λ r. DidLog mid (lost_at r) (g.N.Network.log c.accept_at-arrival.new.network)) c.in-Fault.is last, seated)

pub returns-in-Fault-clause-known : goal.returns-in-Fault-clause-known
returns-in-Fault-clause-known g c = λ speakers k. known-change _ speakers _ _ c.index_mut.result.now _ (omega (arith, c.in-Some.ensures.slots)) c.index_mut.ensures.value
    (c.accept_at-arrival.ensures.known speakers) (c.loop-try.invariant.known speakers k)

pub loop-try-preserved : goal.loop-try-preserved
loop-try-preserved g c = record {
  crowd = λ first now start past h.
      let (mid, last, seated) = accepted _ _ c.args.limits first start past now c.loop-try.clients.queue c.wake.new.queue _ _ c.loop-try.clients.slots.items c.loop-try.clients.accepted c.in-Some.at
      _ _ c.accept_at-arrival.result c.accept_at-arrival.new.slot c.wake.ensures.stay c.wake.ensures.wakes (omega (arith, c.in-Some.ensures.slots)) c.in-Some.ensures.free (omega arith)
      c.has_come-came.ensures c.one_if.ensures c.accept_at-arrival.ensures.arrives (c.loop-try.invariant.crowd first now start past h) in
      idle (λ b. view_of g.S.Served.who g.N.Network.number b.value) (rules_of g.S.Served.made g.S.Served.seen g.S.Shows.noted g.S.Shows.status g.S.Shows.changed g.S.Shows.caps g.S.Shows.leavers) c.args.limits
      first start Reads (nobody c.wake.new.queue) past _ _ _ _ now
      (subst (λ r. DidLog mid (lost_at r) (g.N.Network.log c.accept_at-arrival.new.network)) c.in-Came.is last) seated;
  known = λ speakers k. known-change _ speakers _ _ c.index_mut.result.now _ (omega (arith, c.in-Some.ensures.slots)) c.index_mut.ensures.value
      (c.accept_at-arrival.ensures.known speakers) (c.loop-try.invariant.known speakers k);
}

pub returns-then-limits-clients-clause-crowd : goal.returns-then-limits-clients-clause-crowd
returns-then-limits-clients-clause-crowd g c = λ first now start past h. (_, no_log _, c.loop-try.invariant.crowd first now start past h)

pub returns-in_default-clause-crowd : goal.returns-in_default-clause-crowd
returns-in_default-clause-crowd g c = λ first now start past h. (_, no_log _, c.loop-try.invariant.crowd first now start past h)

pub returns-clause-crowd : goal.returns-clause-crowd
returns-clause-crowd g c = λ first now start past h. (_, no_log _, c.loop-try.invariant.crowd first now start past h)
