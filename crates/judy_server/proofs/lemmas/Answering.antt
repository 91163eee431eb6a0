-- Lines one after another are a run of calls, whatever their connections.
--     made-answered     calls one after another are a run
--     turns-answered    so are lines
use Rattle.std.proofs.Common.{◌≡◌, List, [], ◌∷◌, zip, refl, sym, ap, subst}
use Rattle.judy_journal.specs.Replays.{HaveAnswered}
use Rattle.judy_journal.proofs.lemmas.ReplayLemmas.{HaveAnswered-append}
use Rattle.judy_model.specs.declared.replies.Reply.{Reply}
use Rattle.judy_model.specs.Speakers.{Event}
use Rattle.judy_many.specs.Sessions.{AreTurns, Turn, calls_of}
use Rattle.judy_protocol.specs.Services.{AreMade}
use Rattle.judy_tenants.specs.Held.{IsSoundService, quotas_of, states_of}
use Rattle.judy_server.specs.Crashes.{answered_in}
use Rattle.judy_server.specs.Rules.{server_rules}
use Rattle.judy_server.specs.Served.{IsServedStep}
use Rattle.judy_server.specs.Tally.{Tallied}

-- calls one after another are a run
pub made-answered : (answered : List (Event × Reply)) (before after : Tallied) → IsSoundService before.held → AreMade IsServedStep before answered after
    → HaveAnswered (states_of before.held) answered (states_of after.held) × IsSoundService after.held
made-answered [] before after s same =
    (λ t. ap (λ (x : Tallied). states_of x.held t) same, subst (λ (x : Tallied). IsSoundService x.held) (sym same) s)
made-answered (p ∷ ps) before after s (mid, made, rest) =
    let (more, sound) = made-answered ps mid after made.sound rest in (
      (
        states_of mid.held,
        record {
          quotas = quotas_of before.held.tenants;
          now = states_of before.held;
          same = λ t. refl;
          form = s.form;
          served = made.called.served;
        },
        more,
      ),
      sound,
    )

-- lines one after another are a run
pub turns-answered : (turns : List Turn) (before after : Tallied) → IsSoundService before.held → AreTurns server_rules before turns after
    → HaveAnswered (states_of before.held) (answered_in turns) (states_of after.held)
turns-answered [] before after s same = λ t. ap (λ (x : Tallied). states_of x.held t) same
turns-answered (turn ∷ turns) before after s (mid, one, rest) =
    let (first, sound) = made-answered (zip (calls_of turn) turn.replies) before one.mid s one.calls in
    let held : mid.held ≡ one.mid.held = ap (λ (x : Tallied). x.held) one.noted in
    let more = turns-answered turns mid after (subst IsSoundService (sym held) sound) rest in
    HaveAnswered-append (states_of before.held) (states_of one.mid.held) (states_of mid.held) (states_of after.held)
    (zip (calls_of turn) turn.replies) (answered_in turns) first (λ t. ap (λ h. states_of h t) held) more
