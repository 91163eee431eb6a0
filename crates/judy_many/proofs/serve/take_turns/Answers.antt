use Rattle.judy_many.specs.Crowds.{past_of}
use Rattle.judy_many.specs.Lives.{view_of}
use Rattle.judy_many.specs.Watches.{everybody}
use Rattle.judy_many.specs.Rules.{rules_of}
use Rattle.judy_many.specs.Questions.{Stage}
use Rattle.judy_many.specs.Stories.Phase.{Reads}
use Rattle.judy_many.proofs.Beside.{reads_not_writes}
use Rattle.judy_many.proofs.Crowding.{has_failed, has_written, round_ends, turned}
use Rattle.judy_many.proofs.serve.take_turns.Goals as goal

pub returns-then-not-listen_all-clause-failed : goal.returns-then-not-listen_all-clause-failed
returns-then-not-listen_all-clause-failed g c = λ first start waits began e h. c.listen_all.ensures.failed first start waits began c.if-not-listen_all.true h

pub returns-then-not-settle-clause-failed : goal.returns-then-not-settle-clause-failed
returns-then-not-settle-clause-failed g c = λ first start waits began e h.
    has_failed (λ b. view_of g.S.Served.who g.N.Network.number b.value) (rules_of g.S.Served.made g.S.Served.seen g.S.Shows.noted g.S.Shows.status g.S.Shows.changed g.S.Shows.caps g.S.Shows.leavers) c.args.limits first start Reads reads_not_writes (everybody c.listen_all.new.clients.queue) waits began Stage.Unasked c.listen_all.new.keeper _ _ _ _ _ _ tt (rw c.if-not-settle.true at c.settle.ensures.written)
    (c.listen_all.ensures.crowd first start waits began c.if-not-listen_all.false h)

pub returns-clause-crowd : goal.returns-clause-crowd
returns-clause-crowd g c = λ first start waits began e h.
    let past = past_of waits began c.settle.new.self in
    let heard = c.listen_all.ensures.crowd first start waits began c.if-not-listen_all.false h in
    let kept = has_written (λ b. view_of g.S.Served.who g.N.Network.number b.value) (rules_of g.S.Served.made g.S.Served.seen g.S.Shows.noted g.S.Shows.status g.S.Shows.changed g.S.Shows.caps g.S.Shows.leavers) c.args.limits first start Reads reads_not_writes (everybody c.listen_all.new.clients.queue) waits began Stage.Unasked c.listen_all.new.keeper c.settle.new.self _ _ _ _ _ (rw c.if-not-settle.false at c.settle.ensures.written) heard in
    let settled = turned (λ b. view_of g.S.Served.who g.N.Network.number b.value) (rules_of g.S.Served.made g.S.Served.seen g.S.Shows.noted g.S.Shows.status g.S.Shows.changed g.S.Shows.caps g.S.Shows.leavers) c.args.limits first start c.listen_all.new.clients.queue past _ _ _ _ (c.settle.ensures.settled c.if-not-settle.false) kept in
    round_ends (λ b. view_of g.S.Served.who g.N.Network.number b.value) (rules_of g.S.Served.made g.S.Served.seen g.S.Shows.noted g.S.Shows.status g.S.Shows.changed g.S.Shows.caps g.S.Shows.leavers) c.args.limits first start c.sweep.new.clients.queue c.end_round.new.self past _ _ _ c.listen_all.new.service c.end_round.ensures.stay
    (c.sweep.ensures.crowd first c.listen_all.new.service start past (c.tell_all.ensures.crowd c.args.limits first c.listen_all.new.service start past settled))

pub returns-clause-known : goal.returns-clause-known
returns-clause-known g c = c.sweep.ensures.known _ (c.tell_all.ensures.known _ c.listen_all.ensures.known)
