use Rattle.std.proofs.Common.{inl, refl, subst, sym, ◌∙◌}
use Rattle.judy_many.specs.declared.network.How.TheVariants as how
use Rattle.judy_many.specs.Lives.{view_of}
use Rattle.judy_many.specs.Nets.{DidLog}
use Rattle.judy_many.specs.Stories.{is_fault, told}
use Rattle.judy_many.proofs.Looking.{left_before, relays_blocked, relays_drained, relays_more}
use Rattle.judy_many.proofs.Telling.{acts_in-told, leaves_part, leaves_whole, piece_writes, reaches_send, said_after, stays_well, turns_in-told}
use Rattle.judy_many.proofs.client.tell.Goals as goal

pub returns-then-has_failed-clause-goes : goal.returns-then-has_failed-clause-goes
returns-then-has_failed-clause-goes g c =
    let (acts, log, mine, few, wrote, read, tells, some) = c.send-sent.ensures.acts in
    let v = view_of g.S.Served.who g.N.Network.number c.args.client.now in
    let n = g.N.Network.number c.args.client.now.connection in (
      told acts,
      subst (λ a. DidLog (g.N.Network.log c.args.network.now) a (g.N.Network.log c.send-sent.new.network)) (sym (acts_in-told acts)) log,
      piece_writes n acts mine few,
      turns_in-told acts,
      (λ limits. tt, leaves_part how.Fault v _ (told acts) refl (λ before turns. said_after is_fault before acts (tells.1 ∙ sym c.has_failed.ensures ∙ c.if-has_failed.true)) (reaches_send v n (g.N.Network.number c.send-sent.new.connection) acts c.send-sent.new.self c.args.client.now.input.waiting c.args.client.now.input.more refl mine few wrote read)),
      tt,
    )

pub returns-then-not-is_empty-clause-goes : goal.returns-then-not-is_empty-clause-goes
returns-then-not-is_empty-clause-goes g c =
    let (acts, log, mine, few, wrote, read, tells, some) = c.send-sent.ensures.acts in
    let v = view_of g.S.Served.who g.N.Network.number c.args.client.now in
    let n = g.N.Network.number c.args.client.now.connection in (
      told acts,
      subst (λ a. DidLog (g.N.Network.log c.args.network.now) a (g.N.Network.log c.send-sent.new.network)) (sym (acts_in-told acts)) log,
      piece_writes n acts mine few,
      turns_in-told acts,
      stays_well v _ acts (tells.0, tells.1 ∙ sym c.has_failed.ensures ∙ c.if-has_failed.false) (reaches_send v n (g.N.Network.number c.send-sent.new.connection) acts c.send-sent.new.self c.expect_more.new.self.waiting c.expect_more.new.self.more c.expect_more.ensures.waiting mine few wrote read),
      relays_blocked v _ n acts refl mine few some c.expect_more.ensures.waiting refl (c.is_empty.ensures.some c.if-not-is_empty.true) (left_before acts v.pending _ wrote (c.is_empty.ensures.some c.if-not-is_empty.true)) c.expect_more.ensures.more,
    )

pub returns-then-client-clause-goes : goal.returns-then-client-clause-goes
returns-then-client-clause-goes g c =
    let (acts, log, mine, few, wrote, read, tells, some) = c.send-sent.ensures.acts in
    let v = view_of g.S.Served.who g.N.Network.number c.args.client.now in
    let n = g.N.Network.number c.args.client.now.connection in (
      told acts,
      subst (λ a. DidLog (g.N.Network.log c.args.network.now) a (g.N.Network.log c.send-sent.new.network)) (sym (acts_in-told acts)) log,
      piece_writes n acts mine few,
      turns_in-told acts,
      (λ limits. tt, leaves_whole how.Quit v _ (told acts) (c.is_empty.ensures.none c.if-not-is_empty.false) (inl c.if-client.true) (λ before turns live. sym live.asked ∙ c.if-client.true) (reaches_send v n (g.N.Network.number c.send-sent.new.connection) acts c.send-sent.new.self c.args.client.now.input.waiting c.args.client.now.input.more refl mine few wrote read)),
      tt,
    )

pub returns-then-is_drained-clause-goes : goal.returns-then-is_drained-clause-goes
returns-then-is_drained-clause-goes g c =
    let (acts, log, mine, few, wrote, read, tells, some) = c.send-sent.ensures.acts in
    let v = view_of g.S.Served.who g.N.Network.number c.args.client.now in
    let n = g.N.Network.number c.args.client.now.connection in (
      told acts,
      subst (λ a. DidLog (g.N.Network.log c.args.network.now) a (g.N.Network.log c.send-sent.new.network)) (sym (acts_in-told acts)) log,
      piece_writes n acts mine few,
      turns_in-told acts,
      stays_well v _ acts (tells.0, tells.1 ∙ sym c.has_failed.ensures ∙ c.if-has_failed.false) (reaches_send v n (g.N.Network.number c.send-sent.new.connection) acts c.send-sent.new.self c.args.client.now.input.waiting c.args.client.now.input.more refl mine few wrote read),
      relays_drained v _ n acts refl mine few some refl refl c.if-client.false (c.is_empty.ensures.none c.if-not-is_empty.false) (c.is_drained.ensures.waiting c.if-is_drained.true) (c.is_drained.ensures.more c.if-is_drained.true) refl,
    )

pub returns-clause-goes : goal.returns-clause-goes
returns-clause-goes g c =
    let (acts, log, mine, few, wrote, read, tells, some) = c.send-sent.ensures.acts in
    let v = view_of g.S.Served.who g.N.Network.number c.args.client.now in
    let n = g.N.Network.number c.args.client.now.connection in (
      told acts,
      subst (λ a. DidLog (g.N.Network.log c.args.network.now) a (g.N.Network.log c.send-sent.new.network)) (sym (acts_in-told acts)) log,
      piece_writes n acts mine few,
      turns_in-told acts,
      stays_well v _ acts (tells.0, tells.1 ∙ sym c.has_failed.ensures ∙ c.if-has_failed.false) (reaches_send v n (g.N.Network.number c.send-sent.new.connection) acts c.send-sent.new.self c.args.client.now.input.waiting c.args.client.now.input.more refl mine few wrote read),
      relays_more v _ n acts refl mine few some refl refl c.if-client.false (c.is_empty.ensures.none c.if-not-is_empty.false) refl,
    )
