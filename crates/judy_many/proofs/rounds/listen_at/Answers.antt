use Rattle.std.proofs.Common.{◌≡◌, Some, inl, inr, [], ◌∷◌, ◌++◌, ◌∙◌, None, false, append-nil, ap, refl, subst, sym}
use Rattle.judy_protocol.specs.Services.{HasLoggedIn}
use Rattle.judy_many.specs.Fates.{Leaves, Stays}
use Rattle.judy_many.specs.Slots.{IsKnownSlot}
use Rattle.judy_many.specs.Lives.{view_of}
use Rattle.judy_many.specs.Nets.{DidLog}
use Rattle.judy_many.specs.Nets.Act.{Closed}
use Rattle.std.specs.Prelude.{is_some, option_map}
use Rattle.judy_many.specs.Barred.{SpeaksIn}
use Rattle.judy_many.specs.Books.{noted_by}
use Rattle.judy_many.specs.Others.{AreLimited}
use Rattle.judy_many.specs.Present.{speaker_since, speakers_at}
use Rattle.judy_many.specs.Sessions.{AreTurns, records_in}
use Rattle.judy_many.specs.Shares.{SlotCounts}
use Rattle.judy_many.specs.Stories.{IsPiece, acts_in, own, turns_in}
use Rattle.judy_many.specs.Stories.Phase.{Reads}
use Rattle.judy_many.specs.Stories.Moment.{Did}
use Rattle.judy_many.proofs.OneSlot.{did_left, did_none, did_stay}
use Rattle.judy_many.specs.Watches.{Listens}
use Rattle.judy_many.proofs.Looking.{listens_left, listens_none, listens_stay}
use Rattle.judy_many.proofs.Hearing.{IsUnheard, counts_closed, heard_by, unheard_by}
use Rattle.judy_many.proofs.Inquiring.{IsInquired-append}
use Rattle.judy_many.proofs.Living.{no_log, then_log}
use Rattle.judy_many.proofs.Passing.{Passes-append, ungone}
use Rattle.judy_many.proofs.Questioning.{stays_how}
use Rattle.judy_many.proofs.Recording.{noted_none}
use Rattle.judy_many.proofs.Singles.{AreSingle-append}
use Rattle.judy_many.proofs.Telling.{acts_in-append, piece_none, turns_in-append}
use Rattle.judy_many.specs.Rules.{rules_of}
use Rattle.judy_many.proofs.rounds.listen_at.Goals as goal

pub returns-in_default-clause-did : goal.returns-in_default-clause-did
returns-in_default-clause-did g c = (
  [],
  no_log _,
  refl,
  λ limits. did_none (λ b. view_of g.S.Served.who g.N.Network.number b.value) limits Reads c.args.slot.now c.take.new.self (sym c.take.ensures.value ∙ c.in_default.is) c.take.ensures.after,
  noted_none c.args.keeper.now,
  tt,
  (λ e. tt),
  (λ past. tt),
  (λ past h. refl),
  listens_none (λ b. view_of g.S.Served.who g.N.Network.number b.value) c.args.limits.share c.args.shares.now c.args.slot.now _ [] (sym c.take.ensures.value ∙ c.in_default.is),
  subst (λ s. SlotCounts c.args.limits.share c.args.shares.now c.args.shares.now (option_map (λ b. view_of g.S.Served.who g.N.Network.number b.value) s) []) (sym c.in_default.is ∙ c.take.ensures.value) refl,
)

pub returns-then-not-may_listen-clause-did : goal.returns-then-not-may_listen-clause-did
returns-then-not-may_listen-clause-did g c =
    let v' = view_of g.S.Served.who g.N.Network.number c.may_listen.new.client in
    let before = unheard_by c.args.limits.share c.may_listen.result (view_of g.S.Served.who g.N.Network.number c.deref_mut.result.now) v' c.args.shares.now c.may_listen.new.shares c.if-not-may_listen.true c.may_listen.ensures.may in
    let none = subst (λ x. IsUnheard c.args.limits.share (view_of g.S.Served.who g.N.Network.number x) v' c.args.shares.now c.may_listen.new.shares) c.deref_mut.ensures.value before in (
      [],
      no_log _,
      refl,
      λ limits. did_stay (λ b. view_of g.S.Served.who g.N.Network.number b.value) limits Reads c.args.slot.now c.in-Some.client v' [] c.in-Some.ensures.value none.number (piece_none _ Reads) none.stays,
      noted_none c.args.keeper.now,
      tt,
      (λ e. tt),
      (λ past. tt),
      (λ past h. refl),
      listens_stay (λ b. view_of g.S.Served.who g.N.Network.number b.value) c.args.limits.share c.args.shares.now c.args.slot.now c.in-Some.client v' [] c.in-Some.ensures.value none.listens,
      subst (λ s. SlotCounts c.args.limits.share c.args.shares.now c.may_listen.new.shares (option_map (λ b. view_of g.S.Served.who g.N.Network.number b.value) s) []) c.in-Some.ensures.value none.counted,
    )

pub returns-then-not-may_listen-clause-known : goal.returns-then-not-may_listen-clause-known
returns-then-not-may_listen-clause-known g c = subst (λ s. HasLoggedIn (g.S.Served.seen c.args.service.now).speakers (option_map g.S.Served.who s.speaker)) (sym (c.may_listen.ensures.session ∙ ap (λ x. x.session) c.deref_mut.ensures.value))
    (subst (IsKnownSlot _ _) (sym c.in-Some.ensures.value) c.requires.known)

pub listen-requires-clause-known : goal.listen-requires-clause-known
listen-requires-clause-known g c =
    subst (λ x. HasLoggedIn (g.S.Served.seen c.args.service.now).speakers (option_map g.S.Served.who x.session.speaker)) (sym c.deref_mut-2.ensures.value)
    (subst (λ s. HasLoggedIn (g.S.Served.seen c.args.service.now).speakers (option_map g.S.Served.who s.speaker)) (sym (c.may_listen.ensures.session ∙ ap (λ x. x.session) c.deref_mut.ensures.value))
    (subst (IsKnownSlot _ _) (sym c.in-Some.ensures.value) c.requires.known))

pub returns-in-Some-listen-clause-did : goal.returns-in-Some-listen-clause-did
returns-in-Some-listen-clause-did g c =
    let (more, log, piece, run, ends, noted, limited, single, inquired, passes, looks, heard) = c.in-Some-listen.ensures.goes in
    let n = g.N.Network.number c.in-Some.client.value.connection in
    let (same_view, some, less, one) = heard_by c.args.limits.share c.may_listen.result (view_of g.S.Served.who g.N.Network.number c.deref_mut.result.now) (view_of g.S.Served.who g.N.Network.number c.may_listen.new.client) (view_of g.S.Served.who g.N.Network.number c.deref_mut-2.result.now) c.args.shares.now c.may_listen.new.shares more
    c.if-not-may_listen.false c.may_listen.ensures.may (ap (λ x. view_of g.S.Served.who g.N.Network.number x) c.deref_mut-2.ensures.value) heard in
    let alike = same_view ∙ ap (λ x. view_of g.S.Served.who g.N.Network.number x) c.deref_mut.ensures.value in
    let first = ap (λ w. w.number) alike in
    let back = ap (λ x. g.N.Network.number x.connection) c.deref_mut-in-Some-listen.ensures.value ∙ c.in-Some-listen.ensures.same ∙ first in
    let last = subst (λ n. DidLog (g.N.Network.log c.listen.new.network) (Closed n c.in-Some-listen.how ∷ []) (g.N.Network.log c.close.new.self)) back c.close.ensures in (
      more ++ Did (Closed n c.in-Some-listen.how) ∷ [],
      subst (λ a. DidLog (g.N.Network.log c.args.network.now) a (g.N.Network.log c.close.new.self)) (sym (acts_in-append more (Did (Closed n c.in-Some-listen.how) ∷ [])))
          (then_log _ _ _ (acts_in more) _ log last),
      subst (λ t. AreTurns (rules_of g.S.Served.made g.S.Served.seen g.S.Shows.noted g.S.Shows.status g.S.Shows.changed g.S.Shows.caps g.S.Shows.leavers) c.args.service.now t c.listen.new.service)
          (sym (turns_in-append more (Did (Closed n c.in-Some-listen.how) ∷ []) ∙ append-nil _)) run,
      λ limits. did_left (λ b. view_of g.S.Served.who g.N.Network.number b.value) limits Reads c.in-Some-listen.how c.args.slot.now c.take.new.self c.in-Some.client more
          c.in-Some.ensures.value c.take.ensures.after (subst (λ n. IsPiece n Reads more) first piece) (ends.0 limits)
          (subst (λ w. Leaves c.in-Some-listen.how w more) alike ends.1),
      subst (λ t. c.listen.new.keeper ≡ noted_by (records_in t) c.args.keeper.now) (sym (turns_in-append more (Did (Closed n c.in-Some-listen.how) ∷ []) ∙ append-nil _)) noted,
      subst (AreLimited c.args.limits.tenant_clients (speakers_at (λ b. view_of g.S.Served.who g.N.Network.number b.value) c.args.others.now)) (sym (turns_in-append more (Did (Closed n c.in-Some-listen.how) ∷ []) ∙ append-nil _)) limited,
      λ e. AreSingle-append more (Did (Closed n c.in-Some-listen.how) ∷ []) (single e) tt,
      (λ past. IsInquired-append (is_some c.args.limits.journal) past more (Did (Closed n c.in-Some-listen.how) ∷ []) (inquired past) tt),
      (λ past h.
          Passes-append (rules_of g.S.Served.made g.S.Served.seen g.S.Shows.noted g.S.Shows.status g.S.Shows.changed g.S.Shows.caps g.S.Shows.leavers) past c.args.service.now c.listen.new.service c.listen.new.service more (Did (Closed n c.in-Some-listen.how) ∷ [])
          (passes past (subst (λ w. speaker_since None (turns_in (own w.number past)) ≡ w.who) (sym alike)
          (subst (λ o. SpeaksIn past (option_map (λ b. view_of g.S.Served.who g.N.Network.number b.value) o)) (sym c.in-Some.ensures.value) h)))
          (ungone c.in-Some-listen.how (past ++ more) n (stays_how c.args.limits c.in-Some-listen.how (ends.0 (record c.args.limits { status = false }))), refl)),
      listens_left (λ b. view_of g.S.Served.who g.N.Network.number b.value) c.args.limits.share c.args.shares.now c.args.slot.now c.take.new.self c.in-Some.client _ c.in-Some.ensures.value c.take.ensures.after,
      subst (λ s. SlotCounts c.args.limits.share c.args.shares.now c.may_listen.new.shares (option_map (λ b. view_of g.S.Served.who g.N.Network.number b.value) s) (more ++ Did (Closed n c.in-Some-listen.how) ∷ [])) c.in-Some.ensures.value
          (subst (λ x. SlotCounts c.args.limits.share c.args.shares.now c.may_listen.new.shares (Some (view_of g.S.Served.who g.N.Network.number x)) (more ++ Did (Closed n c.in-Some-listen.how) ∷ [])) c.deref_mut.ensures.value
          (counts_closed c.args.limits.share c.args.shares.now c.may_listen.new.shares (view_of g.S.Served.who g.N.Network.number c.deref_mut.result.now) more (Did (Closed n c.in-Some-listen.how) ∷ []) (some, less, one))),
    )

pub returns-clause-did : goal.returns-clause-did
returns-clause-did g c =
    let (more, log, piece, run, stays, noted, limited, single, inquired, passes, looks, heard) = c.in_default-listen.ensures.goes in
    let (same_view, some, less, one) = heard_by c.args.limits.share c.may_listen.result (view_of g.S.Served.who g.N.Network.number c.deref_mut.result.now) (view_of g.S.Served.who g.N.Network.number c.may_listen.new.client) (view_of g.S.Served.who g.N.Network.number c.deref_mut-2.result.now) c.args.shares.now c.may_listen.new.shares more
    c.if-not-may_listen.false c.may_listen.ensures.may (ap (λ x. view_of g.S.Served.who g.N.Network.number x) c.deref_mut-2.ensures.value) heard in
    let alike = same_view ∙ ap (λ x. view_of g.S.Served.who g.N.Network.number x) c.deref_mut.ensures.value in
    let first = ap (λ w. w.number) alike in (
      more,
      log,
      run,
      λ limits. did_stay (λ b. view_of g.S.Served.who g.N.Network.number b.value) limits Reads c.args.slot.now c.in-Some.client (view_of g.S.Served.who g.N.Network.number c.listen.new.client) more
          c.in-Some.ensures.value (c.in_default-listen.ensures.same ∙ first) (subst (λ n. IsPiece n Reads more) first piece)
          (subst (λ w. Stays w (view_of g.S.Served.who g.N.Network.number c.listen.new.client) more) alike stays),
      noted,
      limited,
      single,
      inquired,
      (λ past h. passes past (subst (λ w. speaker_since None (turns_in (own w.number past)) ≡ w.who) (sym alike)
          (subst (λ o. SpeaksIn past (option_map (λ b. view_of g.S.Served.who g.N.Network.number b.value) o)) (sym c.in-Some.ensures.value) h))),
      listens_stay (λ b. view_of g.S.Served.who g.N.Network.number b.value) c.args.limits.share c.args.shares.now c.args.slot.now c.in-Some.client (view_of g.S.Served.who g.N.Network.number c.listen.new.client) more c.in-Some.ensures.value
          (inl (subst (λ w. Listens w (view_of g.S.Served.who g.N.Network.number c.listen.new.client) more) alike looks)),
      subst (λ s. SlotCounts c.args.limits.share c.args.shares.now c.may_listen.new.shares (option_map (λ b. view_of g.S.Served.who g.N.Network.number b.value) s) more) c.in-Some.ensures.value
          (subst (λ x. SlotCounts c.args.limits.share c.args.shares.now c.may_listen.new.shares (Some (view_of g.S.Served.who g.N.Network.number x)) more) c.deref_mut.ensures.value (inr (some, less, one))),
    )
