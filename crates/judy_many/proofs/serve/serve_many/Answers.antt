use Rattle.std.proofs.Common.{◌+◌, arith, [], ap, refl, sym, subst}
use Rattle.std.specs.Prelude.{option_map}
use Rattle.judy_many.specs.Books.{opened}
use Rattle.judy_many.specs.Crowds.{Crowd, HasServedMany, past_of}
use Rattle.judy_many.specs.declared.serve.Ending.TheVariants as ending
use Rattle.judy_many.specs.Lives.{View, view_of}
use Rattle.judy_many.specs.Watches.{nobody}
use Rattle.judy_many.specs.Stories.Phase.{Reads, Sweeps}
use Rattle.judy_many.proofs.Closing.{ends_done, ends_first, ends_lost, ends_spent, ends_stopped, ends_unkept, opened_allowed}
use Rattle.judy_many.proofs.Beginning.{crowd_none}
use Rattle.judy_many.proofs.Crowding.{idle, shown, waited, warned}
use Rattle.judy_many.proofs.Known.{known-free}
use Rattle.judy_many.specs.Rules.{rules_of}
use Rattle.judy_many.proofs.serve.serve_many.Goals as goal

pub returns-in_default : goal.returns-in_default
returns-in_default g c = ends_first (λ (v : View). v) (rules_of g.S.Served.made g.S.Served.seen g.S.Shows.noted g.S.Shows.status g.S.Shows.changed g.S.Shows.caps g.S.Shows.leavers) g.met.S.Served.apart g.met.S.Shows.unseen g.met.S.Shows.stays
    c.served_runs_go_on.ensures c.one_call_is_a_run.ensures c.tenants_are_answered_equally.ensures c.runs_go_on.ensures c.args.service.now (g.N.Network.log c.args.network.now) c.args.limits (option_map (λ w. w.value) c.args.writer) (record { order = []; marks = [] }) [] tt (omega arith) (omega arith)

pub loop-round-init : goal.loop-round-init
loop-round-init g c = record {
  crowd = rw c.new-keeper.ensures (subst (λ n. Crowd (λ b. view_of g.S.Served.who g.N.Network.number b.value) (rules_of g.S.Served.made g.S.Served.seen g.S.Shows.noted g.S.Shows.status g.S.Shows.changed g.S.Shows.caps g.S.Shows.leavers) c.args.limits c.args.service.now (g.N.Network.log c.args.network.now) Sweeps (nobody c.in-Ok.clients.queue) (past_of 0 (opened c.args.limits.journal (option_map (λ w. w.value) c.args.writer)) (opened c.args.limits.journal (option_map (λ w. w.value) c.args.writer))) (g.N.Network.log c.args.network.now) c.in-Ok.clients.slots.items n c.args.service.now) (sym c.in-Ok.ensures.count)
      (crowd_none c.in-Ok.clients.queue (λ b. view_of g.S.Served.who g.N.Network.number b.value) (rules_of g.S.Served.made g.S.Served.seen g.S.Shows.noted g.S.Shows.status g.S.Shows.changed g.S.Shows.caps g.S.Shows.leavers) c.args.limits c.args.service.now (g.N.Network.log c.args.network.now) (opened c.args.limits.journal (option_map (λ w. w.value) c.args.writer))
      c.in-Ok.clients.slots.items c.in-Ok.ensures.free c.in-Ok.ensures.many c.in-Ok.ensures.small (opened_allowed c.args.limits (option_map (λ w. w.value) c.args.writer))));
  known = known-free _ _ _ c.in-Ok.ensures.free;
}

pub returns-then-is_empty : goal.returns-then-is_empty
returns-then-is_empty g c = ends_done (λ b. view_of g.S.Served.who g.N.Network.number b.value) (rules_of g.S.Served.made g.S.Served.seen g.S.Shows.noted g.S.Shows.status g.S.Shows.changed g.S.Shows.caps g.S.Shows.leavers) g.met.S.Served.apart g.met.S.Shows.unseen g.met.S.Shows.stays
    c.served_runs_go_on.ensures c.one_call_is_a_run.ensures c.tenants_are_answered_equally.ensures c.runs_go_on.ensures c.args.service.now (g.N.Network.log c.args.network.now) c.args.limits (option_map (λ w. w.value) c.args.writer) _ _ _ _ _ _ _ c.loop-round.service
    (omega arith) (c.is_empty.ensures c.if-is_empty.true) c.loop-round.invariant.crowd

pub returns-then-not-wait : goal.returns-then-not-wait
returns-then-not-wait g c = ends_lost (λ b. view_of g.S.Served.who g.N.Network.number b.value) (rules_of g.S.Served.made g.S.Served.seen g.S.Shows.noted g.S.Shows.status g.S.Shows.changed g.S.Shows.caps g.S.Shows.leavers) g.met.S.Served.apart g.met.S.Shows.unseen g.met.S.Shows.stays
    c.served_runs_go_on.ensures c.one_call_is_a_run.ensures c.tenants_are_answered_equally.ensures c.runs_go_on.ensures c.args.service.now (g.N.Network.log c.args.network.now) c.args.limits (option_map (λ w. w.value) c.args.writer)
    _ _ _ _ _ _ _ _ c.loop-round.service c.if-not-wait.ensures.log.4
    (shown (λ b. view_of g.S.Served.who g.N.Network.number b.value) (rules_of g.S.Served.made g.S.Served.seen g.S.Shows.noted g.S.Shows.status g.S.Shows.changed g.S.Shows.caps g.S.Shows.leavers) c.args.limits c.args.service.now (g.N.Network.log c.args.network.now) _ _ _ _ _ _ _ _ _ (ap (λ v. v.items) c.wait.ensures.slots) c.wait.ensures.count c.loop-round.invariant.crowd)

pub returns-then-not-accept : goal.returns-then-not-accept
returns-then-not-accept g c =
    let (mid, last, came) = c.if-not-accept.ensures.crowd c.args.service.now c.loop-round.service (g.N.Network.log c.args.network.now) (past_of (c.loop-round._round + 1) (opened c.args.limits.journal (option_map (λ w. w.value) c.args.writer)) c.loop-round.keeper)
    (idle (λ b. view_of g.S.Served.who g.N.Network.number b.value) (rules_of g.S.Served.made g.S.Served.seen g.S.Shows.noted g.S.Shows.status g.S.Shows.changed g.S.Shows.caps g.S.Shows.leavers) c.args.limits c.args.service.now (g.N.Network.log c.args.network.now) Reads (nobody c.wait.new.clients.queue) (past_of (c.loop-round._round + 1) (opened c.args.limits.journal (option_map (λ w. w.value) c.args.writer)) c.loop-round.keeper) _ _ _ _ c.loop-round.service c.time-now.ensures
    (waited (λ b. view_of g.S.Served.who g.N.Network.number b.value) (rules_of g.S.Served.made g.S.Served.seen g.S.Shows.noted g.S.Shows.status g.S.Shows.changed g.S.Shows.caps g.S.Shows.leavers) c.args.limits c.args.service.now (g.N.Network.log c.args.network.now) c.loop-round.clients.queue c.wait.new.clients.queue (past_of c.loop-round._round (opened c.args.limits.journal (option_map (λ w. w.value) c.args.writer)) c.loop-round.keeper) _ _ _ _ _ _ c.loop-round.service
    c.if-not-wait.ensures.log.0 c.if-not-wait.ensures.log.1 refl c.if-not-wait.ensures.log.2 c.wait.ensures.stay c.if-not-wait.ensures.log.3 c.if-not-wait.ensures.log.4 (ap (λ v. v.items) c.wait.ensures.slots) c.wait.ensures.count c.loop-round.invariant.crowd)) in
    ends_lost (λ b. view_of g.S.Served.who g.N.Network.number b.value) (rules_of g.S.Served.made g.S.Served.seen g.S.Shows.noted g.S.Shows.status g.S.Shows.changed g.S.Shows.caps g.S.Shows.leavers) g.met.S.Served.apart g.met.S.Shows.unseen g.met.S.Shows.stays
    c.served_runs_go_on.ensures c.one_call_is_a_run.ensures c.tenants_are_answered_equally.ensures c.runs_go_on.ensures c.args.service.now (g.N.Network.log c.args.network.now) c.args.limits (option_map (λ w. w.value) c.args.writer)
    mid _ _ _ _ _ _ _ c.loop-round.service last came

pub take_turns-requires : goal.take_turns-requires
take_turns-requires g c = record { known = c.accept.ensures.known _ (rw c.wait.ensures.slots c.loop-round.invariant.known) }

pub ask-requires : goal.ask-requires
ask-requires g c = record { known = c.take_turns.ensures.known; settled = c.take_turns.ensures.settled c.if-not-take_turns.false }

pub returns-then-not-take_turns : goal.returns-then-not-take_turns
returns-then-not-take_turns g c =
    let (mid, last, came) = c.if-not-accept.ensures.crowd c.args.service.now c.loop-round.service (g.N.Network.log c.args.network.now) (past_of (c.loop-round._round + 1) (opened c.args.limits.journal (option_map (λ w. w.value) c.args.writer)) c.loop-round.keeper)
    (idle (λ b. view_of g.S.Served.who g.N.Network.number b.value) (rules_of g.S.Served.made g.S.Served.seen g.S.Shows.noted g.S.Shows.status g.S.Shows.changed g.S.Shows.caps g.S.Shows.leavers) c.args.limits c.args.service.now (g.N.Network.log c.args.network.now) Reads (nobody c.wait.new.clients.queue) (past_of (c.loop-round._round + 1) (opened c.args.limits.journal (option_map (λ w. w.value) c.args.writer)) c.loop-round.keeper) _ _ _ _ c.loop-round.service c.time-now.ensures
    (waited (λ b. view_of g.S.Served.who g.N.Network.number b.value) (rules_of g.S.Served.made g.S.Served.seen g.S.Shows.noted g.S.Shows.status g.S.Shows.changed g.S.Shows.caps g.S.Shows.leavers) c.args.limits c.args.service.now (g.N.Network.log c.args.network.now) c.loop-round.clients.queue c.wait.new.clients.queue (past_of c.loop-round._round (opened c.args.limits.journal (option_map (λ w. w.value) c.args.writer)) c.loop-round.keeper) _ _ _ _ _ _ c.loop-round.service
    c.if-not-wait.ensures.log.0 c.if-not-wait.ensures.log.1 refl c.if-not-wait.ensures.log.2 c.wait.ensures.stay c.if-not-wait.ensures.log.3 c.if-not-wait.ensures.log.4 (ap (λ v. v.items) c.wait.ensures.slots) c.wait.ensures.count c.loop-round.invariant.crowd)) in
    let before = idle (λ b. view_of g.S.Served.who g.N.Network.number b.value) (rules_of g.S.Served.made g.S.Served.seen g.S.Shows.noted g.S.Shows.status g.S.Shows.changed g.S.Shows.caps g.S.Shows.leavers) c.args.limits c.args.service.now (g.N.Network.log c.args.network.now) Reads (nobody c.accept.new.clients.queue) (past_of (c.loop-round._round + 1) (opened c.args.limits.journal (option_map (λ w. w.value) c.args.writer)) c.loop-round.keeper) _ _ _ _ c.loop-round.service last came in
    let failed = c.take_turns.ensures.failed c.args.service.now (g.N.Network.log c.args.network.now) (c.loop-round._round + 1) (opened c.args.limits.journal (option_map (λ w. w.value) c.args.writer)) c.if-not-take_turns.true before in
    ends_unkept (λ b. view_of g.S.Served.who g.N.Network.number b.value) (rules_of g.S.Served.made g.S.Served.seen g.S.Shows.noted g.S.Shows.status g.S.Shows.changed g.S.Shows.caps g.S.Shows.leavers) g.met.S.Served.apart g.met.S.Shows.unseen g.met.S.Shows.stays
    c.served_runs_go_on.ensures c.one_call_is_a_run.ensures c.tenants_are_answered_equally.ensures c.runs_go_on.ensures c.args.service.now (g.N.Network.log c.args.network.now) c.args.limits (option_map (λ w. w.value) c.args.writer)
    _ _ _ c.take_turns.new.service failed

pub returns-in-Stops : goal.returns-in-Stops
returns-in-Stops g c =
    let (mid, last, came) = c.if-not-accept.ensures.crowd c.args.service.now c.loop-round.service (g.N.Network.log c.args.network.now) (past_of (c.loop-round._round + 1) (opened c.args.limits.journal (option_map (λ w. w.value) c.args.writer)) c.loop-round.keeper)
    (idle (λ b. view_of g.S.Served.who g.N.Network.number b.value) (rules_of g.S.Served.made g.S.Served.seen g.S.Shows.noted g.S.Shows.status g.S.Shows.changed g.S.Shows.caps g.S.Shows.leavers) c.args.limits c.args.service.now (g.N.Network.log c.args.network.now) Reads (nobody c.wait.new.clients.queue) (past_of (c.loop-round._round + 1) (opened c.args.limits.journal (option_map (λ w. w.value) c.args.writer)) c.loop-round.keeper) _ _ _ _ c.loop-round.service c.time-now.ensures
    (waited (λ b. view_of g.S.Served.who g.N.Network.number b.value) (rules_of g.S.Served.made g.S.Served.seen g.S.Shows.noted g.S.Shows.status g.S.Shows.changed g.S.Shows.caps g.S.Shows.leavers) c.args.limits c.args.service.now (g.N.Network.log c.args.network.now) c.loop-round.clients.queue c.wait.new.clients.queue (past_of c.loop-round._round (opened c.args.limits.journal (option_map (λ w. w.value) c.args.writer)) c.loop-round.keeper) _ _ _ _ _ _ c.loop-round.service
    c.if-not-wait.ensures.log.0 c.if-not-wait.ensures.log.1 refl c.if-not-wait.ensures.log.2 c.wait.ensures.stay c.if-not-wait.ensures.log.3 c.if-not-wait.ensures.log.4 (ap (λ v. v.items) c.wait.ensures.slots) c.wait.ensures.count c.loop-round.invariant.crowd)) in
    let before = idle (λ b. view_of g.S.Served.who g.N.Network.number b.value) (rules_of g.S.Served.made g.S.Served.seen g.S.Shows.noted g.S.Shows.status g.S.Shows.changed g.S.Shows.caps g.S.Shows.leavers) c.args.limits c.args.service.now (g.N.Network.log c.args.network.now) Reads (nobody c.accept.new.clients.queue) (past_of (c.loop-round._round + 1) (opened c.args.limits.journal (option_map (λ w. w.value) c.args.writer)) c.loop-round.keeper) _ _ _ _ c.loop-round.service last came in
    let turned = c.take_turns.ensures.crowd c.args.service.now (g.N.Network.log c.args.network.now) (c.loop-round._round + 1) (opened c.args.limits.journal (option_map (λ w. w.value) c.args.writer)) c.if-not-take_turns.false before in
    let told = warned (λ b. view_of g.S.Served.who g.N.Network.number b.value) (rules_of g.S.Served.made g.S.Served.seen g.S.Shows.noted g.S.Shows.status g.S.Shows.changed g.S.Shows.caps g.S.Shows.leavers) c.args.limits c.args.service.now (g.N.Network.log c.args.network.now) Sweeps (nobody c.take_turns.new.clients.queue) (past_of (c.loop-round._round + 1) (opened c.args.limits.journal (option_map (λ w. w.value) c.args.writer)) c.take_turns.new.keeper) _ _ _ _ c.take_turns.new.service c.tell.ensures turned in
    let (stopped, same) = c.in-Stops.ensures.stop refl in
    subst (λ s. HasServedMany (rules_of g.S.Served.made g.S.Served.seen g.S.Shows.noted g.S.Shows.status g.S.Shows.changed g.S.Shows.caps g.S.Shows.leavers) c.args.limits (option_map (λ w. w.value) c.args.writer) ending.Stopped (g.N.Network.log c.args.network.now) (g.N.Network.log c.ask.new.network) c.args.service.now s) (sym same)
    (ends_stopped (λ b. view_of g.S.Served.who g.N.Network.number b.value) (rules_of g.S.Served.made g.S.Served.seen g.S.Shows.noted g.S.Shows.status g.S.Shows.changed g.S.Shows.caps g.S.Shows.leavers) g.met.S.Served.apart g.met.S.Shows.unseen g.met.S.Shows.stays
    c.served_runs_go_on.ensures c.one_call_is_a_run.ensures c.tenants_are_answered_equally.ensures c.runs_go_on.ensures c.args.service.now (g.N.Network.log c.args.network.now) c.args.limits (option_map (λ w. w.value) c.args.writer)
    (g.N.Network.log c.tell.new.network) (g.N.Network.log c.ask.new.network) Sweeps (nobody c.take_turns.new.clients.queue) (c.loop-round._round + 1) c.take_turns.new.keeper _ _ c.take_turns.new.service
    c.args.limits.status refl stopped told)

pub returns-in-Fails : goal.returns-in-Fails
returns-in-Fails g c =
    let (mid, last, came) = c.if-not-accept.ensures.crowd c.args.service.now c.loop-round.service (g.N.Network.log c.args.network.now) (past_of (c.loop-round._round + 1) (opened c.args.limits.journal (option_map (λ w. w.value) c.args.writer)) c.loop-round.keeper)
    (idle (λ b. view_of g.S.Served.who g.N.Network.number b.value) (rules_of g.S.Served.made g.S.Served.seen g.S.Shows.noted g.S.Shows.status g.S.Shows.changed g.S.Shows.caps g.S.Shows.leavers) c.args.limits c.args.service.now (g.N.Network.log c.args.network.now) Reads (nobody c.wait.new.clients.queue) (past_of (c.loop-round._round + 1) (opened c.args.limits.journal (option_map (λ w. w.value) c.args.writer)) c.loop-round.keeper) _ _ _ _ c.loop-round.service c.time-now.ensures
    (waited (λ b. view_of g.S.Served.who g.N.Network.number b.value) (rules_of g.S.Served.made g.S.Served.seen g.S.Shows.noted g.S.Shows.status g.S.Shows.changed g.S.Shows.caps g.S.Shows.leavers) c.args.limits c.args.service.now (g.N.Network.log c.args.network.now) c.loop-round.clients.queue c.wait.new.clients.queue (past_of c.loop-round._round (opened c.args.limits.journal (option_map (λ w. w.value) c.args.writer)) c.loop-round.keeper) _ _ _ _ _ _ c.loop-round.service
    c.if-not-wait.ensures.log.0 c.if-not-wait.ensures.log.1 refl c.if-not-wait.ensures.log.2 c.wait.ensures.stay c.if-not-wait.ensures.log.3 c.if-not-wait.ensures.log.4 (ap (λ v. v.items) c.wait.ensures.slots) c.wait.ensures.count c.loop-round.invariant.crowd)) in
    let before = idle (λ b. view_of g.S.Served.who g.N.Network.number b.value) (rules_of g.S.Served.made g.S.Served.seen g.S.Shows.noted g.S.Shows.status g.S.Shows.changed g.S.Shows.caps g.S.Shows.leavers) c.args.limits c.args.service.now (g.N.Network.log c.args.network.now) Reads (nobody c.accept.new.clients.queue) (past_of (c.loop-round._round + 1) (opened c.args.limits.journal (option_map (λ w. w.value) c.args.writer)) c.loop-round.keeper) _ _ _ _ c.loop-round.service last came in
    let turned = c.take_turns.ensures.crowd c.args.service.now (g.N.Network.log c.args.network.now) (c.loop-round._round + 1) (opened c.args.limits.journal (option_map (λ w. w.value) c.args.writer)) c.if-not-take_turns.false before in
    let told = warned (λ b. view_of g.S.Served.who g.N.Network.number b.value) (rules_of g.S.Served.made g.S.Served.seen g.S.Shows.noted g.S.Shows.status g.S.Shows.changed g.S.Shows.caps g.S.Shows.leavers) c.args.limits c.args.service.now (g.N.Network.log c.args.network.now) Sweeps (nobody c.take_turns.new.clients.queue) (past_of (c.loop-round._round + 1) (opened c.args.limits.journal (option_map (λ w. w.value) c.args.writer)) c.take_turns.new.keeper) _ _ _ _ c.take_turns.new.service c.tell.ensures turned in
    let failed = c.in-Fails.ensures.failed c.args.service.now (g.N.Network.log c.args.network.now) (c.loop-round._round + 1) (opened c.args.limits.journal (option_map (λ w. w.value) c.args.writer)) refl told in
    ends_unkept (λ b. view_of g.S.Served.who g.N.Network.number b.value) (rules_of g.S.Served.made g.S.Served.seen g.S.Shows.noted g.S.Shows.status g.S.Shows.changed g.S.Shows.caps g.S.Shows.leavers) g.met.S.Served.apart g.met.S.Shows.unseen g.met.S.Shows.stays
    c.served_runs_go_on.ensures c.one_call_is_a_run.ensures c.tenants_are_answered_equally.ensures c.runs_go_on.ensures c.args.service.now (g.N.Network.log c.args.network.now) c.args.limits (option_map (λ w. w.value) c.args.writer)
    _ _ _ c.ask.new.service failed

pub loop-round-preserved : goal.loop-round-preserved
loop-round-preserved g c =
    let (mid, last, came) = c.if-not-accept.ensures.crowd c.args.service.now c.loop-round.service (g.N.Network.log c.args.network.now) (past_of (c.loop-round._round + 1) (opened c.args.limits.journal (option_map (λ w. w.value) c.args.writer)) c.loop-round.keeper)
    (idle (λ b. view_of g.S.Served.who g.N.Network.number b.value) (rules_of g.S.Served.made g.S.Served.seen g.S.Shows.noted g.S.Shows.status g.S.Shows.changed g.S.Shows.caps g.S.Shows.leavers) c.args.limits c.args.service.now (g.N.Network.log c.args.network.now) Reads (nobody c.wait.new.clients.queue) (past_of (c.loop-round._round + 1) (opened c.args.limits.journal (option_map (λ w. w.value) c.args.writer)) c.loop-round.keeper) _ _ _ _ c.loop-round.service c.time-now.ensures
    (waited (λ b. view_of g.S.Served.who g.N.Network.number b.value) (rules_of g.S.Served.made g.S.Served.seen g.S.Shows.noted g.S.Shows.status g.S.Shows.changed g.S.Shows.caps g.S.Shows.leavers) c.args.limits c.args.service.now (g.N.Network.log c.args.network.now) c.loop-round.clients.queue c.wait.new.clients.queue (past_of c.loop-round._round (opened c.args.limits.journal (option_map (λ w. w.value) c.args.writer)) c.loop-round.keeper) _ _ _ _ _ _ c.loop-round.service
    c.if-not-wait.ensures.log.0 c.if-not-wait.ensures.log.1 refl c.if-not-wait.ensures.log.2 c.wait.ensures.stay c.if-not-wait.ensures.log.3 c.if-not-wait.ensures.log.4 (ap (λ v. v.items) c.wait.ensures.slots) c.wait.ensures.count c.loop-round.invariant.crowd)) in
    let before = idle (λ b. view_of g.S.Served.who g.N.Network.number b.value) (rules_of g.S.Served.made g.S.Served.seen g.S.Shows.noted g.S.Shows.status g.S.Shows.changed g.S.Shows.caps g.S.Shows.leavers) c.args.limits c.args.service.now (g.N.Network.log c.args.network.now) Reads (nobody c.accept.new.clients.queue) (past_of (c.loop-round._round + 1) (opened c.args.limits.journal (option_map (λ w. w.value) c.args.writer)) c.loop-round.keeper) _ _ _ _ c.loop-round.service last came in
    let turned = c.take_turns.ensures.crowd c.args.service.now (g.N.Network.log c.args.network.now) (c.loop-round._round + 1) (opened c.args.limits.journal (option_map (λ w. w.value) c.args.writer)) c.if-not-take_turns.false before in
    let told = warned (λ b. view_of g.S.Served.who g.N.Network.number b.value) (rules_of g.S.Served.made g.S.Served.seen g.S.Shows.noted g.S.Shows.status g.S.Shows.changed g.S.Shows.caps g.S.Shows.leavers) c.args.limits c.args.service.now (g.N.Network.log c.args.network.now) Sweeps (nobody c.take_turns.new.clients.queue) (past_of (c.loop-round._round + 1) (opened c.args.limits.journal (option_map (λ w. w.value) c.args.writer)) c.take_turns.new.keeper) _ _ _ _ c.take_turns.new.service c.tell.ensures turned in
    record {
      crowd = c.in-GoesOn.ensures.crowd c.args.service.now (g.N.Network.log c.args.network.now) (c.loop-round._round + 1) (opened c.args.limits.journal (option_map (λ w. w.value) c.args.writer)) refl told;
      known = c.ask.ensures.known;
    }

pub returns : goal.returns
returns g c = ends_spent (λ b. view_of g.S.Served.who g.N.Network.number b.value) (rules_of g.S.Served.made g.S.Served.seen g.S.Shows.noted g.S.Shows.status g.S.Shows.changed g.S.Shows.caps g.S.Shows.leavers) g.met.S.Served.apart g.met.S.Shows.unseen g.met.S.Shows.stays
    c.served_runs_go_on.ensures c.one_call_is_a_run.ensures c.tenants_are_answered_equally.ensures c.runs_go_on.ensures c.args.service.now (g.N.Network.log c.args.network.now) c.args.limits (option_map (λ w. w.value) c.args.writer) _ _ _ _ _ _ _ c.loop-round.service
    (omega arith) c.loop-round.invariant.crowd
