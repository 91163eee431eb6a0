use Rattle.std.proofs.Common.{arith, ◌≡◌, ◌+◌, ◌∙◌, None, ap, refl, slice_index_or, slice_set, subst, sym}
use Rattle.judy_many.specs.Crowds.{Crowd, past_of}
use Rattle.judy_many.specs.Queues.{IsBefore}
use Rattle.judy_many.specs.Others.{AreLimited}
use Rattle.judy_many.specs.Present.{speakers_at}
use Rattle.judy_many.specs.Slots.{AreKnown, IsKnownSlot}
use Rattle.judy_many.specs.Stories.{turns_in}
use Rattle.judy_many.specs.Watches.{those_before}
use Rattle.judy_many.specs.Lives.{view_of}
use Rattle.judy_many.specs.Stories.Phase.{Reads}
use Rattle.judy_many.proofs.Crowding.{calm_reads, crowd_turn, passes}
use Rattle.judy_many.proofs.Looking.{listens_in}
use Rattle.judy_many.proofs.Queueing.{before_more, before_not, before_only, before_this}
use Rattle.judy_many.proofs.Seats.{set_twice}
use Rattle.judy_many.proofs.Watching.{alert_beside, alert_listens}
use Rattle.judy_many.proofs.Known.{known-at, known-keep, known-set}
use Rattle.judy_many.specs.Rules.{rules_of}
use Rattle.judy_many.proofs.rounds.listen_to.Goals as goal

pub listen_at-closed-requires-clause-known : goal.listen_at-closed-requires-clause-known
listen_at-closed-requires-clause-known g c = subst (IsKnownSlot _ _) (sym (c.take-slot.ensures.value ∙ c.index_mut.ensures.value))
    (known-at _ _ c.args.clients.now.slots.items c.slot_at-at.result c.index_mut.result.now (omega arith) c.requires.known)

pub returns-then-at-len-clause-crowd : goal.returns-then-at-len-clause-crowd
returns-then-at-len-clause-crowd g c = λ first start waits began h.
    let limits = c.args.limits in
    passes (λ b. view_of g.S.Served.who g.N.Network.number b.value) (rules_of g.S.Served.made g.S.Served.seen g.S.Shows.noted g.S.Shows.status g.S.Shows.changed g.S.Shows.caps g.S.Shows.leavers) limits first start Reads c.args.clients.now.queue c.args.clients.now.queue c.args.shares.now c.args.place c.slot_at-at.result (past_of waits began c.args.keeper.now) _ _ _ _ refl (λ i d. refl) c.slot_at-at.ensures.slot (omega arith) h

pub returns-clause-crowd : goal.returns-clause-crowd
returns-clause-crowd g c = λ first start waits began h.
    let limits = c.args.limits in
    let (more, log, run, did, noted, limited, single, inquired, passed, looks, counts) = c.listen_at-closed.ensures.did in
    let q = c.args.clients.now.queue in
    let slots = c.args.clients.now.slots.items in
    let at = c.slot_at-at.result in
    let others : AreLimited limits.tenant_clients (speakers_at (λ b. view_of g.S.Served.who g.N.Network.number b.value) (slice_set slots at None)) (turns_in more)
    = subst (λ l. AreLimited limits.tenant_clients (speakers_at (λ b. view_of g.S.Served.who g.N.Network.number b.value) l) (turns_in more)) (c.as_slice.ensures.value ∙ ap (slice_set slots at) c.take-slot.ensures.after) limited in
    subst (λ l. Crowd (λ b. view_of g.S.Served.who g.N.Network.number b.value) (rules_of g.S.Served.made g.S.Served.seen g.S.Shows.noted g.S.Shows.status g.S.Shows.changed g.S.Shows.caps g.S.Shows.leavers) limits first start Reads (those_before q (c.args.place + 1) c.listen_at-closed.new.shares) (past_of waits began c.listen_at-closed.new.keeper) (g.N.Network.log c.listen_at-closed.new.network)
    l c.args.clients.now.accepted c.listen_at-closed.new.service) (sym (set_twice slots at c.take-slot.new.self c.listen_at-closed.new.slot))
    (subst (λ j. Crowd (λ b. view_of g.S.Served.who g.N.Network.number b.value) (rules_of g.S.Served.made g.S.Served.seen g.S.Shows.noted g.S.Shows.status g.S.Shows.changed g.S.Shows.caps g.S.Shows.leavers) limits first start Reads (those_before q (c.args.place + 1) c.listen_at-closed.new.shares) (past_of waits began j) (g.N.Network.log c.listen_at-closed.new.network)
    (slice_set c.args.clients.now.slots.items c.slot_at-at.result c.listen_at-closed.new.slot) c.args.clients.now.accepted c.listen_at-closed.new.service) {y = c.listen_at-closed.new.keeper} (sym noted)
    (crowd_turn (λ b. view_of g.S.Served.who g.N.Network.number b.value) (rules_of g.S.Served.made g.S.Served.seen g.S.Shows.noted g.S.Shows.status g.S.Shows.changed g.S.Shows.caps g.S.Shows.leavers) limits first start Reads (those_before q c.args.place c.args.shares.now) (those_before q (c.args.place + 1) c.listen_at-closed.new.shares) (past_of waits began c.args.keeper.now) _ _ c.args.clients.now.slots.items c.args.clients.now.accepted
    c.args.service.now c.listen_at-closed.new.service c.slot_at-at.result c.take-slot.result c.listen_at-closed.new.slot more
    (before_more q.order c.args.place) (λ k. before_not q.order c.args.place c.requires.apart c.requires.within (subst (IsBefore q.order c.args.place) c.slot_at-at.ensures.slot k)) (before_this q.order c.args.place _ c.slot_at-at.ensures.slot)
    h (calm_reads (λ b. view_of g.S.Served.who g.N.Network.number b.value) (rules_of g.S.Served.made g.S.Served.seen g.S.Shows.noted g.S.Shows.status g.S.Shows.changed g.S.Shows.caps g.S.Shows.leavers) limits first start Reads (those_before q c.args.place c.args.shares.now) (past_of waits began c.args.keeper.now) _ slots c.args.clients.now.accepted c.args.service.now c.listen_at-closed.new.service h c.slot_at-at.result c.take-slot.result c.listen_at-closed.new.slot more (omega arith) (subst (λ d. d ≡ slice_index_or slots at d) (sym c.take-slot.ensures.value) c.index_mut.ensures.value) did passed) (omega arith) (subst (λ d. d ≡ slice_index_or slots at d) (sym c.take-slot.ensures.value) c.index_mut.ensures.value) log run others inquired single (did limits)
    (λ j apart v s k. alert_beside limits.share Reads q q (IsBefore q.order c.args.place) (IsBefore q.order (c.args.place + 1)) j v s (λ e. e) (λ e. e) (before_more q.order c.args.place j) (before_only q.order c.args.place j c.slot_at-at.result apart c.slot_at-at.ensures.slot) k)
    (λ b d s e f same mine came quiet fills k. alert_listens limits.share c.slot_at-at.result _ _ s more same mine came quiet c.args.shares.now q (IsBefore q.order c.args.place) (IsBefore q.order (c.args.place + 1)) (before_this q.order c.args.place _ c.slot_at-at.ensures.slot) (c.slot_at-at.ensures.stands c.requires.within)
    (listens_in (λ b. view_of g.S.Served.who g.N.Network.number b.value) limits.share c.args.shares.now c.take-slot.result c.listen_at-closed.new.slot b d more e f looks) (fills refl) k)
    (λ e. counts)))

pub returns-clause-known : goal.returns-clause-known
returns-clause-known g c =
    subst (AreKnown _ _) (sym (set_twice c.args.clients.now.slots.items c.slot_at-at.result c.take-slot.new.self c.listen_at-closed.new.slot))
    (known-set _ _ _ _ _ c.listen_at-closed.ensures.known (known-keep _ _ _ _ c.listen_at-closed.ensures.speakers c.requires.known))
