use Rattle.std.proofs.Common.{true, false, refl, subst, sym}
use Rattle.std.specs.Prelude.{option_map}
use Rattle.judy_many.specs.Changes.{HasChanged}
use Rattle.judy_many.specs.Crowds.{Crowd, at_stage, past_of}
use Rattle.judy_many.specs.Journaling.{AreWritten}
use Rattle.judy_many.specs.Lives.{view_of}
use Rattle.judy_many.specs.Watches.{nobody}
use Rattle.judy_many.specs.Questions.{MayFail, asks_reload, read_stage}
use Rattle.judy_many.specs.Rules.{rules_of}
use Rattle.judy_many.specs.Slots.{AreKnown}
use Rattle.judy_many.specs.Stories.Phase.{Sweeps}
use Rattle.judy_many.proofs.Admitted.{changed_or}
use Rattle.judy_many.proofs.Chaining.{unchanged_service}
use Rattle.judy_many.proofs.Crowding.{has_changed, has_failed, has_replied, has_written, sweeps_not_writes}
use Rattle.judy_many.proofs.Journals.{settled_room, settled_still}
use Rattle.judy_many.proofs.Questioning.{may_reply}
use Rattle.judy_many.proofs.reloads.reload.Goals as goal

pub change_table-changed-requires : goal.change_table-changed-requires
change_table-changed-requires g c = record { room = settled_room c.args.keeper.now c.requires.settled }

pub close_after-requires : goal.close_after-requires
close_after-requires g c = record {
  known = λ e.
      let (left, noted, change) = c.change_table-changed.ensures in
      subst (λ s. AreKnown (λ b. option_map g.S.Served.who b.value.session.speaker) (g.S.Served.seen s).speakers c.args.clients.now.slots.items)
      (sym (unchanged_service (rules_of g.S.Served.made g.S.Served.seen g.S.Shows.noted g.S.Shows.status g.S.Shows.changed g.S.Shows.caps g.S.Shows.leavers) c.args.keep _ left _ _ _ _ change e).0) c.requires.known;
}

pub settle_after-requires : goal.settle_after-requires
settle_after-requires g c = record {
  settled = λ e.
      let (left, noted, change) = c.change_table-changed.ensures in
      settled_still c.args.keeper.now c.change_table-changed.new.keeper left noted (unchanged_service (rules_of g.S.Served.made g.S.Served.seen g.S.Shows.noted g.S.Shows.status g.S.Shows.changed g.S.Shows.caps g.S.Shows.leavers) c.args.keep _ left _ _ _ _ change e).1 c.requires.settled;
}

pub returns-then-not-settle_after-clause-failed : goal.returns-then-not-settle_after-clause-failed
returns-then-not-settle_after-clause-failed g c = λ limits first start waits began e same well h.
    has_failed (λ b. view_of g.S.Served.who g.N.Network.number b.value) (rules_of g.S.Served.made g.S.Served.seen g.S.Shows.noted g.S.Shows.status g.S.Shows.changed g.S.Shows.caps g.S.Shows.leavers) limits first start Sweeps sweeps_not_writes (nobody c.close_after.new.clients.queue) waits began (read_stage c.change_table-changed.result) c.change_table-changed.new.keeper c.settle_after.new.keeper _ _ _ _ _
    (subst (λ b. MayFail (read_stage b)) (sym (c.settle_after.ensures.failed c.if-not-settle_after.true)) tt)
    (rw c.if-not-settle_after.true at c.settle_after.ensures.written)
    (let (left, noted, change) = c.change_table-changed.ensures in
    c.close_after.ensures.crowd limits first start (at_stage (read_stage c.change_table-changed.result) (past_of waits began c.change_table-changed.new.keeper)) e refl
    (subst (λ j. Crowd (λ b. view_of g.S.Served.who g.N.Network.number b.value) (rules_of g.S.Served.made g.S.Served.seen g.S.Shows.noted g.S.Shows.status g.S.Shows.changed g.S.Shows.caps g.S.Shows.leavers) limits first start Sweeps (nobody c.args.clients.now.queue) (at_stage (read_stage c.change_table-changed.result) (past_of waits began j)) (g.N.Network.log c.change_table-changed.new.network) c.args.clients.now.slots.items c.args.clients.now.accepted c.change_table-changed.new.service) (sym noted)
    (has_changed (λ b. view_of g.S.Served.who g.N.Network.number b.value) (rules_of g.S.Served.made g.S.Served.seen g.S.Shows.noted g.S.Shows.status g.S.Shows.changed g.S.Shows.caps g.S.Shows.leavers) limits first start (nobody c.args.clients.now.queue) (at_stage asks_reload (past_of waits began c.args.keeper.now)) _ _ _ _ c.args.service.now c.change_table-changed.new.service c.change_table-changed.result left e refl
    (subst (λ k. HasChanged (rules_of g.S.Served.made g.S.Served.seen g.S.Shows.noted g.S.Shows.status g.S.Shows.changed g.S.Shows.caps g.S.Shows.leavers) k c.change_table-changed.result left (g.N.Network.log c.args.network.now) (g.N.Network.log c.change_table-changed.new.network) c.args.service.now c.change_table-changed.new.service) same change) h)))

pub returns-clause-crowd : goal.returns-clause-crowd
returns-clause-crowd g c = λ limits first start waits began e same well h.
    has_replied (λ b. view_of g.S.Served.who g.N.Network.number b.value) (rules_of g.S.Served.made g.S.Served.seen g.S.Shows.noted g.S.Shows.status g.S.Shows.changed g.S.Shows.caps g.S.Shows.leavers) limits first start Sweeps (nobody c.close_after.new.clients.queue) (at_stage (read_stage c.change_table-changed.result) (past_of waits began c.settle_after.new.keeper)) _ _ _ _ _ c.change_table-changed.result e (may_reply c.change_table-changed.result)
    (c.settle_after.ensures.settled c.if-not-settle_after.false) c.say.ensures
    (has_written (λ b. view_of g.S.Served.who g.N.Network.number b.value) (rules_of g.S.Served.made g.S.Served.seen g.S.Shows.noted g.S.Shows.status g.S.Shows.changed g.S.Shows.caps g.S.Shows.leavers) limits first start Sweeps sweeps_not_writes (nobody c.close_after.new.clients.queue) waits began (read_stage c.change_table-changed.result) c.change_table-changed.new.keeper c.settle_after.new.keeper _ _ _ _ _
    (rw c.if-not-settle_after.false at c.settle_after.ensures.written)
    (let (left, noted, change) = c.change_table-changed.ensures in
    c.close_after.ensures.crowd limits first start (at_stage (read_stage c.change_table-changed.result) (past_of waits began c.change_table-changed.new.keeper)) e refl
    (subst (λ j. Crowd (λ b. view_of g.S.Served.who g.N.Network.number b.value) (rules_of g.S.Served.made g.S.Served.seen g.S.Shows.noted g.S.Shows.status g.S.Shows.changed g.S.Shows.caps g.S.Shows.leavers) limits first start Sweeps (nobody c.args.clients.now.queue) (at_stage (read_stage c.change_table-changed.result) (past_of waits began j)) (g.N.Network.log c.change_table-changed.new.network) c.args.clients.now.slots.items c.args.clients.now.accepted c.change_table-changed.new.service) (sym noted)
    (has_changed (λ b. view_of g.S.Served.who g.N.Network.number b.value) (rules_of g.S.Served.made g.S.Served.seen g.S.Shows.noted g.S.Shows.status g.S.Shows.changed g.S.Shows.caps g.S.Shows.leavers) limits first start (nobody c.args.clients.now.queue) (at_stage asks_reload (past_of waits began c.args.keeper.now)) _ _ _ _ c.args.service.now c.change_table-changed.new.service c.change_table-changed.result left e refl
    (subst (λ k. HasChanged (rules_of g.S.Served.made g.S.Served.seen g.S.Shows.noted g.S.Shows.status g.S.Shows.changed g.S.Shows.caps g.S.Shows.leavers) k c.change_table-changed.result left (g.N.Network.log c.args.network.now) (g.N.Network.log c.change_table-changed.new.network) c.args.service.now c.change_table-changed.new.service) same change) h))))

pub returns-then-not-settle_after-clause-reloaded : goal.returns-then-not-settle_after-clause-reloaded
returns-then-not-settle_after-clause-reloaded g c =
    let (left, noted, change) = c.change_table-changed.ensures in
    let (gone, log, are) = c.close_after.ensures.gone in
    record {
      changed = c.change_table-changed.result;
      left = left;
      tabled = g.N.Network.log c.change_table-changed.new.network;
      closed = g.N.Network.log c.close_after.new.network;
      kept = g.N.Network.log c.settle_after.new.network;
      gone = gone;
      change = change;
      closes = log;
      are_gone = are;
      written = subst (λ j. AreWritten false j c.settle_after.new.keeper (g.N.Network.log c.close_after.new.network) (g.N.Network.log c.settle_after.new.network)) noted
          (rw c.if-not-settle_after.true at c.settle_after.ensures.written);
      says = (c.settle_after.ensures.failed c.if-not-settle_after.true, refl);
    }

pub returns-clause-reloaded : goal.returns-clause-reloaded
returns-clause-reloaded g c =
    let (left, noted, change) = c.change_table-changed.ensures in
    let (gone, log, are) = c.close_after.ensures.gone in
    record {
      changed = c.change_table-changed.result;
      left = left;
      tabled = g.N.Network.log c.change_table-changed.new.network;
      closed = g.N.Network.log c.close_after.new.network;
      kept = g.N.Network.log c.settle_after.new.network;
      gone = gone;
      change = change;
      closes = log;
      are_gone = are;
      written = subst (λ j. AreWritten true j c.settle_after.new.keeper (g.N.Network.log c.close_after.new.network) (g.N.Network.log c.settle_after.new.network)) noted
          (rw c.if-not-settle_after.false at c.settle_after.ensures.written);
      says = c.say.ensures;
    }

pub returns-then-not-settle_after-clause-admitted : goal.returns-then-not-settle_after-clause-admitted
returns-then-not-settle_after-clause-admitted g c =
    let (left, noted, change) = c.change_table-changed.ensures in
    changed_or (rules_of g.S.Served.made g.S.Served.seen g.S.Shows.noted g.S.Shows.status g.S.Shows.changed g.S.Shows.caps g.S.Shows.leavers) c.args.keep c.change_table-changed.result left _ _ c.args.service.now c.change_table-changed.new.service _ change c.close_after.ensures.admitted

pub returns-clause-admitted : goal.returns-clause-admitted
returns-clause-admitted g c =
    let (left, noted, change) = c.change_table-changed.ensures in
    changed_or (rules_of g.S.Served.made g.S.Served.seen g.S.Shows.noted g.S.Shows.status g.S.Shows.changed g.S.Shows.caps g.S.Shows.leavers) c.args.keep c.change_table-changed.result left _ _ c.args.service.now c.change_table-changed.new.service _ change c.close_after.ensures.admitted
