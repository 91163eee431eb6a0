use Rattle.std.proofs.Common.{[], arith, refl, ◌∙◌}
use Rattle.judy_many.specs.Lives.{view_of}
use Rattle.judy_many.specs.Stories.Phase.{Writes}
use Rattle.judy_many.proofs.Crowding.{all_told, begins}
use Rattle.judy_many.specs.Rules.{rules_of}
use Rattle.judy_many.proofs.rounds.tell_all.Goals as goal

pub loop-place-init : goal.loop-place-init
loop-place-init g c = record {
  crowd = λ limits first now start past h. begins (λ b. view_of g.S.Served.who g.N.Network.number b.value) (rules_of g.S.Served.made g.S.Served.seen g.S.Shows.noted g.S.Shows.status g.S.Shows.changed g.S.Shows.caps g.S.Shows.leavers) limits first start Writes c.args.clients.now.queue [] (λ g. refl) past _ _ _ now h;
  order = refl;
  stands = λ i. refl;
  known = λ speakers k. k;
}

pub loop-place-preserved : goal.loop-place-preserved
loop-place-preserved g c = record {
  crowd = λ limits first now start past h. c.tell_to.ensures.crowd limits first now start past (c.loop-place.invariant.crowd limits first now start past h);
  order = c.tell_to.ensures.order ∙ c.loop-place.invariant.order;
  stands = λ i. c.tell_to.ensures.stands i ∙ c.loop-place.invariant.stands i;
  known = λ speakers k. c.tell_to.ensures.known speakers (c.loop-place.invariant.known speakers k);
}

pub returns-clause-crowd : goal.returns-clause-crowd
returns-clause-crowd g c = λ limits first now start past h.
    all_told (λ b. view_of g.S.Served.who g.N.Network.number b.value) (rules_of g.S.Served.made g.S.Served.seen g.S.Shows.noted g.S.Shows.status g.S.Shows.changed g.S.Shows.caps g.S.Shows.leavers) limits first start c.args.clients.now.queue c.loop-place.clients.queue c.loop-place.place past _ _ _ now c.loop-place.invariant.order c.loop-place.invariant.stands c.len-place-end.ensures.found
    (let n = c.len-place-end.ensures.long in omega (arith, n)) (c.loop-place.invariant.crowd limits first now start past h)
