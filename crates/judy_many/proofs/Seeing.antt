-- What lines do to what is seen of a service.
--     turns_seen       the calls of lines, one after another
--     turns_use        the names and tokens stay, and each speaker is by them, unless its tenant has enough connections
use Rattle.std.proofs.Common.{◌≡◌, ℕ, List, [], ◌∷◌, ◌+◌, length, sym, ◌∙◌, ap, subst, refl}
use Rattle.std.specs.Prelude.{Option, zip}
use Rattle.std.proofs.lemmas.List.{length-append}
use Rattle.judy_model.specs.declared.replies.Reply.{Reply}
use Rattle.judy_model.specs.Speakers.{Event, Speaker}
use Rattle.judy_model.specs.Stream.{Heard}
use Rattle.judy_protocol.specs.Services.{AreMade, IsCalled, Seen}
use Rattle.judy_protocol.proofs.Talking.{AreMade-append, zip-append}
use Rattle.judy_many.specs.Rules.{Rules}
use Rattle.judy_many.specs.Sessions.{AreTurns, IsTurn, Turn, ComeByLogin, calls_of, events_in, replies_in}

-- a call, as it is seen
abbrev pub Called : Seen → Event → Reply → Seen → Type 0
Called before event reply after = IsCalled before event reply after

-- a call keeps the tenants apart
abbrev pub KeepsApart : {S : Type 0} → Rules S → Type 0
KeepsApart {S} rules = (before after : S) (event : Event) (reply : Reply) → rules.made before event reply after → IsCalled (rules.seen before) event reply (rules.seen after)

-- counting is not seen
abbrev pub IsUnseen : {S : Type 0} → Rules S → Type 0
IsUnseen {S} rules = (before after : S) (who : Option Speaker) (line : Heard) (answer : List ℕ) → rules.noted before who line answer after → rules.seen after ≡ rules.seen before

logins_stay : (before after : Seen) (ps : List (Event × Reply)) → AreMade Called before ps after → after.logins ≡ before.logins
logins_stay before after [] h = ap (λ s. s.logins) h
logins_stay before after (p ∷ ps) (mid, call, rest) = logins_stay mid after ps rest ∙ call.logins

module _ {S : Type 0} (rules : Rules S) (apart : KeepsApart rules) (unseen : IsUnseen rules) where
  calls_seen : (before after : S) (ps : List (Event × Reply)) → AreMade rules.made before ps after → AreMade Called (rules.seen before) ps (rules.seen after)
  calls_seen before after [] h = ap rules.seen h
  calls_seen before after (p ∷ ps) (mid, call, rest) = (rules.seen mid, apart before mid p.0 p.1 call, calls_seen mid after ps rest)

  -- one line
  turn_seen : (before after : S) (t : Turn) → IsTurn rules before t after → AreMade Called (rules.seen before) (zip (calls_of t) t.replies) (rules.seen after)
  turn_seen before after t h =
      subst (λ s. AreMade Called (rules.seen before) (zip (calls_of t) t.replies) s) (sym (unseen h.mid after t.after t.line _ h.noted))
      (calls_seen before h.mid (zip (calls_of t) t.replies) h.calls)

  pub turns_seen : (before after : S) (ts : List Turn) → AreTurns rules before ts after
      → (length (replies_in ts) ≡ length (events_in ts)) × AreMade Called (rules.seen before) (zip (events_in ts) (replies_in ts)) (rules.seen after)
  turns_seen before after [] h = (refl, ap rules.seen h)
  turns_seen before after (t ∷ ts) (mid, turn, rest) =
      let later = turns_seen mid after ts rest in (
        length-append t.replies (replies_in ts) ∙ ap (λ n. n + length (replies_in ts)) turn.count ∙ ap (λ n. length (calls_of t) + n) later.0
            ∙ sym (length-append (calls_of t) (events_in ts)),
        subst (λ ps. AreMade Called (rules.seen before) ps (rules.seen after)) (sym (zip-append (calls_of t) (events_in ts) t.replies (replies_in ts) turn.count))
            (AreMade-append Called (rules.seen before) (rules.seen mid) (rules.seen after) (zip (calls_of t) t.replies) (zip (events_in ts) (replies_in ts))
            (turn_seen before mid t turn) later.1),
      )

  pub turns_use : (before after : S) (ts : List Turn) → AreTurns rules before ts after
      → ComeByLogin (rules.seen before).logins ts × ((rules.seen after).logins ≡ (rules.seen before).logins)
  turns_use before after [] h = (tt, ap (λ s. (rules.seen s).logins) h)
  turns_use before after (t ∷ ts) (mid, turn, rest) =
      let stay = logins_stay (rules.seen before) (rules.seen mid) (zip (calls_of t) t.replies) (turn_seen before mid t turn) in
      let later = turns_use mid after ts rest in
      ((turn.speaks, subst (λ l. ComeByLogin l ts) stay later.0), later.1 ∙ stay)
