use Rattle.std.proofs.Common.{arith, ◌≡◌, [], ◌+◌, ◌∙◌, ap, inl, subst, sym}
use Rattle.judy_many.specs.Queues.{IsBefore, is_awake}
use Rattle.judy_many.specs.Watches.{those_before}
use Rattle.judy_many.specs.Lives.{view_of}
use Rattle.judy_many.specs.Stories.Phase.{Reads, Writes}
use Rattle.judy_many.proofs.Crowding.{crowd_still, passes}
use Rattle.judy_many.proofs.Looking.{tells_in}
use Rattle.judy_many.proofs.Questioning.{slot_stays}
use Rattle.judy_many.proofs.Queueing.{before_later, before_not, before_only, before_this}
use Rattle.judy_many.proofs.Watching.{alert_beside, alert_tells}
use Rattle.judy_many.proofs.Known.{known-change}
use Rattle.judy_many.specs.Rules.{rules_of}
use Rattle.judy_many.proofs.rounds.tell_to.Goals as goal

writes_not_reads : Writes ≡ Reads → ⊥
writes_not_reads e = cc

pub returns-then-at-len-clause-crowd : goal.returns-then-at-len-clause-crowd
returns-then-at-len-clause-crowd g c = λ limits first now start past h.
    passes (λ b. view_of g.S.Served.who g.N.Network.number b.value) (rules_of g.S.Served.made g.S.Served.seen g.S.Shows.noted g.S.Shows.status g.S.Shows.changed g.S.Shows.caps g.S.Shows.leavers) limits first start Writes c.args.clients.now.queue c.settle.new.self [] c.args.place c.slot_at-at.result past _ _ _ now c.settle.ensures.order c.settle.ensures.others c.slot_at-at.ensures.slot (omega arith) h

pub returns-clause-crowd : goal.returns-clause-crowd
returns-clause-crowd g c = λ limits first now start past h.
    let (more, log, none, did, looks) = c.tell_at-left.ensures.did in
    let q = c.args.clients.now.queue in
    let q' = c.settle-2.new.self in
    let at = c.slot_at-at.result in
    crowd_still (λ b. view_of g.S.Served.who g.N.Network.number b.value) (rules_of g.S.Served.made g.S.Served.seen g.S.Shows.noted g.S.Shows.status g.S.Shows.changed g.S.Shows.caps g.S.Shows.leavers) limits first start Writes (those_before q c.args.place []) (those_before q' (c.args.place + 1) []) past _ _ c.args.clients.now.slots.items c.args.clients.now.accepted
    now at c.index_mut.result.now c.tell_at-left.new.slot more
    (λ j k. before_later q.order q'.order c.args.place j c.settle-2.ensures.order k) (λ k. before_not q.order c.args.place c.requires.apart c.requires.within (subst (IsBefore q.order c.args.place) c.slot_at-at.ensures.slot k))
    (subst (λ l. IsBefore l (c.args.place + 1) at) (sym c.settle-2.ensures.order) (before_this q.order c.args.place _ c.slot_at-at.ensures.slot))
    h (inl (tt, slot_stays limits Writes _ _ more did)) (omega arith) c.index_mut.ensures.value log none (did limits)
    (λ j apart v s k. alert_beside limits.share Writes q q' (IsBefore q.order c.args.place) (IsBefore q'.order (c.args.place + 1)) j v s
    (λ e. ap is_awake (c.settle-2.ensures.others j apart) ∙ e) (λ e. c.settle-2.ensures.stands j ∙ e)
    (before_later q.order q'.order c.args.place j c.settle-2.ensures.order) (λ k. before_only q.order c.args.place j at apart c.slot_at-at.ensures.slot (subst (λ l. IsBefore l (c.args.place + 1) j) c.settle-2.ensures.order k)) k)
    (λ b d s e f same mine came quiet k. alert_tells limits.share at _ _ s more same mine came quiet q q' (IsBefore q.order c.args.place) (IsBefore q'.order (c.args.place + 1)) c.tell_at-left.result
    (λ e. c.settle-2.ensures.more e (c.slot_at-at.ensures.stands c.requires.within))
    (tells_in (λ b. view_of g.S.Served.who g.N.Network.number b.value) c.tell_at-left.result c.index_mut.result.now c.tell_at-left.new.slot b d more e f looks) k) writes_not_reads

pub returns-clause-known : goal.returns-clause-known
returns-clause-known g c = λ speakers k. known-change _ speakers _ _ c.index_mut.result.now _ (omega arith) c.index_mut.ensures.value
    (c.tell_at-left.ensures.known speakers) k
