use Rattle.std.proofs.Common.{refl}
use Rattle.judy_many.specs.Crowds.{at_stage, past_of}
use Rattle.judy_many.specs.Lives.{view_of}
use Rattle.judy_many.specs.Questions.{asks_kick}
use Rattle.judy_many.specs.Watches.{nobody}
use Rattle.judy_many.specs.Rules.{rules_of}
use Rattle.judy_many.specs.Stories.Phase.{Sweeps}
use Rattle.judy_many.proofs.Crowding.{answered, asked_again, asked_kick}
use Rattle.judy_many.proofs.serve.ask.Goals as goal

pub returns-in-Round-clause-crowd : goal.returns-in-Round-clause-crowd
returns-in-Round-clause-crowd g c = λ first start waits began e h.
    answered (λ b. view_of g.S.Served.who g.N.Network.number b.value) (rules_of g.S.Served.made g.S.Served.seen g.S.Shows.noted g.S.Shows.status g.S.Shows.changed g.S.Shows.caps g.S.Shows.leavers) c.args.limits first start Sweeps (nobody c.args.clients.now.queue) waits began c.args.keeper.now _ _ _ _ c.args.service.now c.args.limits.status refl c.in-Round.ensures h

pub returns-in-Reload-clause-crowd : goal.returns-in-Reload-clause-crowd
returns-in-Reload-clause-crowd g c = λ first start waits began e h.
    let (watches, asked) = asked_again (λ b. view_of g.S.Served.who g.N.Network.number b.value) (rules_of g.S.Served.made g.S.Served.seen g.S.Shows.noted g.S.Shows.status g.S.Shows.changed g.S.Shows.caps g.S.Shows.leavers) c.args.limits first start Sweeps (nobody c.args.clients.now.queue) waits began c.args.keeper.now _ _ _ _ c.args.service.now c.args.limits.status refl c.in-Reload.ensures h in
    c.reload.ensures.crowd c.args.limits first start waits began watches c.is_some-keep.ensures (c.after_reload.ensures.goes e) asked

pub returns-in-Reload-clause-failed : goal.returns-in-Reload-clause-failed
returns-in-Reload-clause-failed g c = λ first start waits began e h.
    let (watches, asked) = asked_again (λ b. view_of g.S.Served.who g.N.Network.number b.value) (rules_of g.S.Served.made g.S.Served.seen g.S.Shows.noted g.S.Shows.status g.S.Shows.changed g.S.Shows.caps g.S.Shows.leavers) c.args.limits first start Sweeps (nobody c.args.clients.now.queue) waits began c.args.keeper.now _ _ _ _ c.args.service.now c.args.limits.status refl c.in-Reload.ensures h in
    c.reload.ensures.failed c.args.limits first start waits began watches c.is_some-keep.ensures (c.after_reload.ensures.fails e) asked

pub returns-in-Reload-clause-stop : goal.returns-in-Reload-clause-stop
returns-in-Reload-clause-stop g c = λ e. absurd (c.after_reload.ensures.stops e)

pub returns-in-Stop-clause-stop : goal.returns-in-Stop-clause-stop
returns-in-Stop-clause-stop g c = λ e. (c.in-Stop.ensures, refl)

pub returns-in-Kick-clause-crowd : goal.returns-in-Kick-clause-crowd
returns-in-Kick-clause-crowd g c = λ first start waits began e h.
    let (watches, asked) = asked_kick (λ b. view_of g.S.Served.who g.N.Network.number b.value) (rules_of g.S.Served.made g.S.Served.seen g.S.Shows.noted g.S.Shows.status g.S.Shows.changed g.S.Shows.caps g.S.Shows.leavers) c.args.limits first start Sweeps (nobody c.args.clients.now.queue) waits began c.args.keeper.now _ _ _ _ c.args.service.now c.args.limits.status refl c.in-Kick.ensures h in
    c.kick.ensures.crowd c.args.limits first c.args.service.now start (at_stage asks_kick (past_of waits began c.args.keeper.now)) watches refl c.requires.settled asked
