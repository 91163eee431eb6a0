use Rattle.std.proofs.Common.{arith, ◌∙◌, ap, inl, subst, sym, vec_len}
use Rattle.judy_many.specs.Lives.{view_of}
use Rattle.std.specs.Prelude.{option_map}
use Rattle.judy_many.specs.Slots.{AreKnown}
use Rattle.judy_many.specs.Watches.{nobody}
use Rattle.judy_many.specs.Stories.Phase.{Sweeps}
use Rattle.judy_many.proofs.Crowding.{crowd_closed, shown}
use Rattle.judy_many.proofs.Known.{known-change}
use Rattle.judy_many.specs.Rules.{rules_of}
use Rattle.judy_many.proofs.sweeps.sweep.Goals as goal

pub loop-at-preserved : goal.loop-at-preserved
loop-at-preserved g c =
    let (more, log, none, stay, did, whole) = c.sweep_at-closed.ensures.did in
    record {
      slots = ap vec_len c.note_closed.ensures.slots ∙ c.loop-at.invariant.slots;
      crowd = λ first now start past h.
          shown (λ b. view_of g.S.Served.who g.N.Network.number b.value) (rules_of g.S.Served.made g.S.Served.seen g.S.Shows.noted g.S.Shows.status g.S.Shows.changed g.S.Shows.caps g.S.Shows.leavers) c.args.limits first start Sweeps (nobody c.note_closed.new.self.queue) past _ _ _ _ _ now (ap (λ s. s.items) c.note_closed.ensures.slots) c.note_closed.ensures.count
          (crowd_closed (λ b. view_of g.S.Served.who g.N.Network.number b.value) (rules_of g.S.Served.made g.S.Served.seen g.S.Shows.noted g.S.Shows.status g.S.Shows.changed g.S.Shows.caps g.S.Shows.leavers) c.args.limits first start c.loop-at.clients.queue c.note_closed.new.self.queue past _ _ c.loop-at.clients.slots.items c.loop-at.clients.accepted now c.loop-at.at
          c.index_mut.result.now c.sweep_at-closed.new.slot more c.sweep_at-closed.result (c.loop-at.invariant.crowd first now start past h) (inl (tt, stay)) (omega arith) c.index_mut.ensures.value log
          none did whole c.note_closed.ensures.others c.note_closed.ensures.same);
      known = λ speakers k. subst (λ s. AreKnown (λ b. option_map g.S.Served.who b.value.session.speaker) speakers s.items) (sym c.note_closed.ensures.slots)
          (known-change _ speakers _ _ c.index_mut.result.now _ (omega arith) c.index_mut.ensures.value (c.sweep_at-closed.ensures.known speakers)
          (c.loop-at.invariant.known speakers k));
    }
