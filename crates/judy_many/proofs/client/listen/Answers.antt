use Rattle.std.proofs.Common.{arith, ◌≡◌, [], ◌∷◌, ◌++◌, refl, inr, subst, sym}
use Rattle.judy_many.specs.declared.network.How.TheVariants as how
use Rattle.judy_many.specs.Lives.{view_of}
use Rattle.judy_many.specs.Nets.{DidLog}
use Rattle.std.specs.Prelude.{is_some}
use Rattle.judy_many.specs.Barred.{inquiry}
use Rattle.judy_many.specs.Books.{noted_by}
use Rattle.judy_many.specs.Others.{AreLimited}
use Rattle.judy_many.specs.Present.{speakers_at}
use Rattle.judy_many.specs.Sessions.{AreTurns, records_in}
use Rattle.judy_many.specs.Stories.{is_end, is_fault, told}
use Rattle.judy_many.specs.Stories.Moment.{Ran}
use Rattle.judy_many.specs.Stories.Phase.{Reads}
use Rattle.judy_many.proofs.Looking.{listens_dry, listens_held, listens_not, listens_read}
use Rattle.judy_many.proofs.Hearing.{heard_lines, heard_not, heard_read}
use Rattle.judy_many.proofs.Inquiring.{inquired_quiet, inquired_turn, listens_turn, passes_reads, passes_turn, piece_turn, single_turn, stays_asked, turn_acts, turn_story, turn_turns}
use Rattle.judy_many.proofs.Living.{no_log, then_log}
use Rattle.judy_many.proofs.Recording.{noted_none}
use Rattle.judy_many.proofs.Singles.{told_single}
use Rattle.judy_many.proofs.Telling.{acts_in-told, leaves_part, leaves_whole, piece_none, piece_reads, reaches_read, said_after, stays_none, stays_ran, stays_then, stays_well, turns_in-told}
use Rattle.judy_many.specs.Rules.{rules_of}
use Rattle.judy_many.proofs.client.listen.Goals as goal

pub returns-then-not-is_ready-clause-goes : goal.returns-then-not-is_ready-clause-goes
returns-then-not-is_ready-clause-goes g c =
    let v = view_of g.S.Served.who g.N.Network.number c.args.client.now in
    ([], no_log _, piece_none v.number Reads, refl, stays_none v, noted_none c.args.keeper.now, tt, (λ e. tt), (λ past. tt), (λ past h. refl), listens_not v (c.is_ready.ensures.why c.if-not-is_ready.true), heard_not v (c.is_ready.ensures.why c.if-not-is_ready.true))

pub returns-then-not-is_empty-clause-goes : goal.returns-then-not-is_empty-clause-goes
returns-then-not-is_empty-clause-goes g c =
    let v = view_of g.S.Served.who g.N.Network.number c.args.client.now in
    let n = v.number in
    let keep = is_some c.args.limits.journal in
    let written = c.is_ready.ensures.written c.if-not-is_ready.false in
    let unasked = c.is_ready.ensures.unasked c.if-not-is_ready.false in
    let rules = rules_of g.S.Served.made g.S.Served.seen g.S.Shows.noted g.S.Shows.status g.S.Shows.changed g.S.Shows.caps g.S.Shows.leavers in
    let (turns, takes, inquires, barred, free, run, stays, noted, limited, single, hears) = c.hear.ensures.turns in
    let names = (rules.seen c.args.service.now).names in
    let caps = rules.caps c.args.service.now in
    let same = turn_turns names caps n keep v.who takes [] turns in (
      turn_story names caps n keep v.who takes [] turns,
      subst (λ a. DidLog (g.N.Network.log c.args.network.now) a (g.N.Network.log c.hear.new.network)) (sym (turn_acts names caps n keep v.who takes [] turns)) inquires.logged,
      piece_turn names caps n keep v.who takes [] turns tt (omega arith),
      subst (λ t. AreTurns rules c.args.service.now t c.hear.new.service) (sym same) run,
      stays_then v v _ (told (inquiry names caps keep n v.who takes)) (Ran n turns ∷ []) (stays_asked names caps n keep v.who takes v) (stays_ran v _ n turns written unasked stays),
      subst (λ t. c.hear.new.keeper ≡ noted_by (records_in t) c.args.keeper.now) (sym same) noted,
      subst (AreLimited c.args.limits.tenant_clients (speakers_at (λ b. view_of g.S.Served.who g.N.Network.number b.value) c.args.others.now)) (sym same) limited,
      λ e. single_turn names caps n keep v.who takes [] turns (single e),
      inquired_turn names caps n keep v.who takes [] turns inquires.free barred free,
      passes_turn rules c.args.service.now c.hear.new.service n keep v.who takes [] turns tt run,
      listens_turn names caps n keep v.who takes v _ [] turns refl (listens_held v _ n turns _ c.requires.room refl unasked (c.is_empty.ensures.some c.if-not-is_empty.true) hears),
      λ w u. heard_lines [] (told (inquiry names caps keep n v.who takes)) n turns,
    )

pub returns-in-Bytes-clause-goes : goal.returns-in-Bytes-clause-goes
returns-in-Bytes-clause-goes g c =
    let (acts, log, mine, few, read, wrote, tells, told_more) = c.in-Bytes.ensures.acts in
    let v = view_of g.S.Served.who g.N.Network.number c.args.client.now in
    let n = v.number in
    let keep = is_some c.args.limits.journal in
    let mid = record v { waiting = c.fill.new.self.waiting; number = g.N.Network.number c.fill.new.connection; more = c.fill.new.self.more } in
    let written = c.is_ready.ensures.written c.if-not-is_ready.false in
    let unasked = c.is_ready.ensures.unasked c.if-not-is_ready.false in
    let empty = c.is_empty.ensures.none c.if-not-is_empty.false in
    let rules = rules_of g.S.Served.made g.S.Served.seen g.S.Shows.noted g.S.Shows.status g.S.Shows.changed g.S.Shows.caps g.S.Shows.leavers in
    let (turns, takes, inquires, barred, free, run, stays, noted, limited, single, hears) = c.hear-in-Bytes.ensures.turns in
    let names = (rules.seen c.args.service.now).names in
    let caps = rules.caps c.args.service.now in
    let asked = subst (λ n. DidLog (g.N.Network.log c.fill.new.network) (inquiry names caps keep n v.who takes) (g.N.Network.log c.hear-in-Bytes.new.network)) c.in-Bytes.ensures.same inquires.logged in
    let same = turn_turns names caps n keep v.who takes acts turns in (
      turn_story names caps n keep v.who takes acts turns,
      subst (λ a. DidLog (g.N.Network.log c.args.network.now) a (g.N.Network.log c.hear-in-Bytes.new.network)) (sym (turn_acts names caps n keep v.who takes acts turns))
          (then_log _ _ _ acts (inquiry names caps keep n v.who takes) log asked),
      piece_turn names caps n keep v.who takes acts turns mine few,
      subst (λ t. AreTurns rules c.args.service.now t c.hear-in-Bytes.new.service) (sym same) run,
      stays_then v mid _ (told acts) (told (inquiry names caps keep n v.who takes) ++ Ran n turns ∷ [])
          (stays_well v mid acts tells (reaches_read v n (g.N.Network.number c.fill.new.connection) acts c.fill.new.self.waiting c.fill.new.self.more written unasked empty mine few read wrote))
          (stays_then mid mid _ (told (inquiry names caps keep n v.who takes)) (Ran n turns ∷ []) (stays_asked names caps n keep v.who takes mid) (stays_ran mid _ n turns written unasked stays)),
      subst (λ t. c.hear-in-Bytes.new.keeper ≡ noted_by (records_in t) c.args.keeper.now) (sym same) noted,
      subst (AreLimited c.args.limits.tenant_clients (speakers_at (λ b. view_of g.S.Served.who g.N.Network.number b.value) c.args.others.now)) (sym same) limited,
      λ e. single_turn names caps n keep v.who takes acts turns (single e),
      inquired_turn names caps n keep v.who takes acts turns inquires.free barred free,
      passes_turn rules c.args.service.now c.hear-in-Bytes.new.service n keep v.who takes acts turns mine run,
      listens_turn names caps n keep v.who takes v _ acts turns refl (listens_read v _ _ n acts turns _ refl mine few told_more hears),
      λ w u. heard_lines (told acts) (told (inquiry names caps keep n v.who takes)) n turns,
    )

pub returns-in-Nothing-clause-goes : goal.returns-in-Nothing-clause-goes
returns-in-Nothing-clause-goes g c =
    let (acts, log, mine, few, read, wrote, tells, told_more) = c.in-Nothing.ensures.acts in
    let v = view_of g.S.Served.who g.N.Network.number c.args.client.now in
    let n = g.N.Network.number c.args.client.now.connection in
    let empty = c.is_empty.ensures.none c.if-not-is_empty.false in (
      told acts,
      subst (λ a. DidLog (g.N.Network.log c.args.network.now) a (g.N.Network.log c.fill.new.network)) (sym (acts_in-told acts)) log,
      piece_reads n acts mine few,
      subst (λ t. AreTurns (rules_of g.S.Served.made g.S.Served.seen g.S.Shows.noted g.S.Shows.status g.S.Shows.changed g.S.Shows.caps g.S.Shows.leavers) c.args.service.now t c.args.service.now) (sym (turns_in-told acts)) refl,
      stays_well v _ acts tells (reaches_read v n (g.N.Network.number c.fill.new.connection) acts c.fill.new.self.waiting c.fill.new.self.more (c.is_ready.ensures.written c.if-not-is_ready.false) (c.is_ready.ensures.unasked c.if-not-is_ready.false) empty mine few read wrote),
      subst (λ t. c.args.keeper.now ≡ noted_by (records_in t) c.args.keeper.now) (sym (turns_in-told acts)) (noted_none c.args.keeper.now),
      subst (AreLimited c.args.limits.tenant_clients (speakers_at (λ b. view_of g.S.Served.who g.N.Network.number b.value) c.args.others.now)) (sym (turns_in-told acts)) tt,
      λ e. told_single acts,
      (λ past. inquired_quiet (is_some c.args.limits.journal) past (told acts) (turns_in-told acts)),
      (λ past h. passes_reads (rules_of g.S.Served.made g.S.Served.seen g.S.Shows.noted g.S.Shows.status g.S.Shows.changed g.S.Shows.caps g.S.Shows.leavers) c.args.service.now n acts mine past),
      listens_dry v _ n acts refl mine few told_more (c.in-Nothing.ensures.none refl),
      λ w u. heard_read acts _ told_more,
    )

pub returns-in-End-clause-goes : goal.returns-in-End-clause-goes
returns-in-End-clause-goes g c =
    let (acts, log, mine, few, read, wrote, tells, told_more) = c.in-End.ensures.acts in
    let v = view_of g.S.Served.who g.N.Network.number c.args.client.now in
    let n = g.N.Network.number c.args.client.now.connection in
    let empty = c.is_empty.ensures.none c.if-not-is_empty.false in (
      told acts,
      subst (λ a. DidLog (g.N.Network.log c.args.network.now) a (g.N.Network.log c.fill.new.network)) (sym (acts_in-told acts)) log,
      piece_reads n acts mine few,
      subst (λ t. AreTurns (rules_of g.S.Served.made g.S.Served.seen g.S.Shows.noted g.S.Shows.status g.S.Shows.changed g.S.Shows.caps g.S.Shows.leavers) c.args.service.now t c.args.service.now) (sym (turns_in-told acts)) refl,
      (
        λ limits. tt,
        leaves_whole how.End v _ (told acts) (c.is_ready.ensures.written c.if-not-is_ready.false) (inr (c.in-End.ensures.none refl)) (λ before turns live. said_after is_end before acts tells)
            (reaches_read v n (g.N.Network.number c.fill.new.connection) acts c.fill.new.self.waiting c.fill.new.self.more (c.is_ready.ensures.written c.if-not-is_ready.false) (c.is_ready.ensures.unasked c.if-not-is_ready.false) empty mine few read wrote),
      ),
      subst (λ t. c.args.keeper.now ≡ noted_by (records_in t) c.args.keeper.now) (sym (turns_in-told acts)) (noted_none c.args.keeper.now),
      subst (AreLimited c.args.limits.tenant_clients (speakers_at (λ b. view_of g.S.Served.who g.N.Network.number b.value) c.args.others.now)) (sym (turns_in-told acts)) tt,
      λ e. told_single acts,
      (λ past. inquired_quiet (is_some c.args.limits.journal) past (told acts) (turns_in-told acts)),
      (λ past h. passes_reads (rules_of g.S.Served.made g.S.Served.seen g.S.Shows.noted g.S.Shows.status g.S.Shows.changed g.S.Shows.caps g.S.Shows.leavers) c.args.service.now n acts mine past),
      listens_dry v _ n acts refl mine few told_more (c.in-End.ensures.none refl),
      λ w u. heard_read acts _ told_more,
    )

pub returns-in-Fault-clause-goes : goal.returns-in-Fault-clause-goes
returns-in-Fault-clause-goes g c =
    let (acts, log, mine, few, read, wrote, tells, told_more) = c.in-Fault.ensures.acts in
    let v = view_of g.S.Served.who g.N.Network.number c.args.client.now in
    let n = g.N.Network.number c.args.client.now.connection in
    let empty = c.is_empty.ensures.none c.if-not-is_empty.false in (
      told acts,
      subst (λ a. DidLog (g.N.Network.log c.args.network.now) a (g.N.Network.log c.fill.new.network)) (sym (acts_in-told acts)) log,
      piece_reads n acts mine few,
      subst (λ t. AreTurns (rules_of g.S.Served.made g.S.Served.seen g.S.Shows.noted g.S.Shows.status g.S.Shows.changed g.S.Shows.caps g.S.Shows.leavers) c.args.service.now t c.args.service.now) (sym (turns_in-told acts)) refl,
      (
        λ limits. tt,
        leaves_part how.Fault v _ (told acts) refl (λ before turns. said_after is_fault before acts tells)
            (reaches_read v n (g.N.Network.number c.fill.new.connection) acts c.fill.new.self.waiting c.fill.new.self.more (c.is_ready.ensures.written c.if-not-is_ready.false) (c.is_ready.ensures.unasked c.if-not-is_ready.false) empty mine few read wrote),
      ),
      subst (λ t. c.args.keeper.now ≡ noted_by (records_in t) c.args.keeper.now) (sym (turns_in-told acts)) (noted_none c.args.keeper.now),
      subst (AreLimited c.args.limits.tenant_clients (speakers_at (λ b. view_of g.S.Served.who g.N.Network.number b.value) c.args.others.now)) (sym (turns_in-told acts)) tt,
      λ e. told_single acts,
      (λ past. inquired_quiet (is_some c.args.limits.journal) past (told acts) (turns_in-told acts)),
      (λ past h. passes_reads (rules_of g.S.Served.made g.S.Served.seen g.S.Shows.noted g.S.Shows.status g.S.Shows.changed g.S.Shows.caps g.S.Shows.leavers) c.args.service.now n acts mine past),
      listens_dry v _ n acts refl mine few told_more (c.in-Fault.ensures.none refl),
      λ w u. heard_read acts _ told_more,
    )
