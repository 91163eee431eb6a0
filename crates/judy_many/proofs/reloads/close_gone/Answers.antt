use Rattle.std.specs.Prelude.{option_map}
use Rattle.std.proofs.Common.{arith, ◌∙◌, ◌+◌, ◌++◌, [], ap, refl, subst, sym, vec_len}
use Rattle.judy_many.specs.Lives.{view_of}
use Rattle.judy_many.specs.Watches.{nobody}
use Rattle.judy_many.specs.Rules.{rules_of}
use Rattle.judy_many.specs.Stories.{acts_in}
use Rattle.judy_many.specs.Stories.Phase.{Sweeps}
use Rattle.judy_many.proofs.Admitted.{AreAdmittedTo, admitted_all, admitted_next}
use Rattle.judy_many.proofs.Chaining.{gone_then}
use Rattle.judy_many.proofs.Crowding.{crowd_closed, gone_calm, shown}
use Rattle.judy_many.proofs.Known.{AreKnownTo, known_all, known_next}
use Rattle.judy_many.proofs.Living.{no_log, then_log}
use Rattle.judy_many.proofs.Questioning.{gone_acts}
use Rattle.judy_many.proofs.reloads.close_gone.Goals as goal

pub loop-at-init : goal.loop-at-init
loop-at-init g c = record {
  slots = refl;
  crowd = λ limits first start past e asked h. h;
  gone = ([], no_log _, tt);
  known = tt;
  admitted = tt;
}

pub loop-at-preserved : goal.loop-at-preserved
loop-at-preserved g c =
    let (more, log, none, gone, did, whole) = c.close_at-closed.ensures.did in
    let now = c.args.service.now in
    let acts = gone_acts (option_map (λ b. view_of g.S.Served.who g.N.Network.number b.value) c.index_mut.result.now) more gone in
    let (before, logged, are) = c.loop-at.invariant.gone in
    record {
      slots = ap vec_len c.note_closed.ensures.slots ∙ c.loop-at.invariant.slots;
      crowd = λ limits first start past e asked h.
          let crowded = c.loop-at.invariant.crowd limits first start past e asked h in
          shown (λ b. view_of g.S.Served.who g.N.Network.number b.value) (rules_of g.S.Served.made g.S.Served.seen g.S.Shows.noted g.S.Shows.status g.S.Shows.changed g.S.Shows.caps g.S.Shows.leavers) limits first start Sweeps (nobody c.note_closed.new.self.queue) past _ _ _ _ _ now (ap (λ s. s.items) c.note_closed.ensures.slots) c.note_closed.ensures.count
          (crowd_closed (λ b. view_of g.S.Served.who g.N.Network.number b.value) (rules_of g.S.Served.made g.S.Served.seen g.S.Shows.noted g.S.Shows.status g.S.Shows.changed g.S.Shows.caps g.S.Shows.leavers) limits first start c.loop-at.clients.queue c.note_closed.new.self.queue past _ _ c.loop-at.clients.slots.items c.loop-at.clients.accepted now c.loop-at.at
          c.index_mut.result.now c.close_at-closed.new.slot more c.close_at-closed.result crowded
          (gone_calm (λ b. view_of g.S.Served.who g.N.Network.number b.value) (rules_of g.S.Served.made g.S.Served.seen g.S.Shows.noted g.S.Shows.status g.S.Shows.changed g.S.Shows.caps g.S.Shows.leavers) limits first start Sweeps (nobody c.loop-at.clients.queue) past _ c.loop-at.clients.slots.items c.loop-at.clients.accepted now crowded c.loop-at.at c.index_mut.result.now more tt asked (omega arith) c.index_mut.ensures.value gone)
          (omega arith) c.index_mut.ensures.value log
          none (did limits e) whole c.note_closed.ensures.others c.note_closed.ensures.same);
      gone = (before ++ acts_in more, then_log _ _ _ before (acts_in more) logged log, gone_then before (acts_in more) are acts);
      known = subst (λ s. AreKnownTo (λ b. option_map g.S.Served.who b.value.session.speaker) (g.S.Served.seen c.args.service.now).speakers (c.loop-at.at + 1) s.items) (sym c.note_closed.ensures.slots)
          (known_next (λ b. option_map g.S.Served.who b.value.session.speaker) (g.S.Served.seen c.args.service.now).speakers c.loop-at.at (c.loop-at.at + 1) c.loop-at.clients.slots.items c.close_at-closed.new.slot (omega arith) (omega arith) c.close_at-closed.ensures.known c.loop-at.invariant.known);
      admitted = subst (λ s. AreAdmittedTo (λ b. b.value.session.speaker) (g.S.Shows.admits c.args.service.now) (c.loop-at.at + 1) s.items) (sym c.note_closed.ensures.slots)
          (admitted_next (λ b. b.value.session.speaker) (g.S.Shows.admits c.args.service.now) c.loop-at.at (c.loop-at.at + 1) c.loop-at.clients.slots.items c.close_at-closed.new.slot (omega arith) (omega arith) c.close_at-closed.ensures.admitted c.loop-at.invariant.admitted);
    }

pub returns-clause-known : goal.returns-clause-known
returns-clause-known g c = known_all (λ b. option_map g.S.Served.who b.value.session.speaker) (g.S.Served.seen c.args.service.now).speakers c.loop-at.at _ (omega arith) c.loop-at.invariant.known

pub returns-clause-admitted : goal.returns-clause-admitted
returns-clause-admitted g c = admitted_all (λ b. b.value.session.speaker) (g.S.Shows.admits c.args.service.now) c.loop-at.at _ (omega arith) c.loop-at.invariant.admitted
