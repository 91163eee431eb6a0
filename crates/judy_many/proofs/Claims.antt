-- Who logs in by a line, and what it leaves in a journal.
--     claim_is           who logs in by a line
--     crowded_claims     only a log-in with a right name and token is refused for its tenant's connections
--     no_record          a log-in has no record, whoever speaks after it
--     same_speaker       only a log-in changes who speaks
--     known_unless       who speaks after a line may speak
use Rattle.std.proofs.Common.{◌≡◌, ℕ, Bool, true, false, List, Option, None, Some, sym, ◌∙◌, ap, refl, subst}
use Rattle.std.specs.Prelude.{◌&&◌, if◌then◌else◌, is_some}
use Rattle.judy_model.specs.Speakers.{Speaker}
use Rattle.judy_model.specs.Stream.{Heard, Login, event_of, speaker_after}
use Rattle.judy_model.specs.Stream.Heard.{TooLong, Unclear, Asked}
use Rattle.judy_model.specs.declared.replies.Reply.{Reply}
use Rattle.judy_model.specs.declared.requests.Line.TheVariants as request
use Rattle.judy_protocol.specs.Plain.{has_changed}
use Rattle.judy_protocol.specs.Services.{HasLoggedIn}
use Rattle.judy_many.specs.Barred.{asks_change}
use Rattle.judy_many.specs.Others.{claim_in, is_crowded, is_login}
use Rattle.judy_many.specs.Records.{records_of}
use Rattle.judy_many.specs.Sessions.{calls_if, unless_crowded}
use Rattle.judy_many.proofs.Recording.{unrecorded}

never : true ≡ false → ⊥
never e = cc

pub claim_is : (login : Login) (who : Option Speaker) (line : Heard) → claim_in line (speaker_after login who line) ≡ speaker_after login None line
claim_is login who TooLong = refl
claim_is login who Unclear = refl
claim_is login who (Asked (request.Auth name token)) = refl
claim_is login who (Asked request.Quit) = refl
claim_is login who (Asked request.Ping) = refl
claim_is login who (Asked request.Hello) = refl
claim_is login who (Asked (request.Call call)) = refl

-- only a right log-in is refused
pub crowded_claims : (most : Option ℕ) (others : List (Option Speaker)) (claim : Option Speaker) (crowded : Bool) → crowded ≡ is_crowded most others claim
    → crowded ≡ true → is_some claim ≡ true
crowded_claims None others claim crowded e so = absurd (never (sym so ∙ e))
crowded_claims (Some most) others None crowded e so = absurd (never (sym so ∙ e))
crowded_claims (Some most) others (Some who) crowded e so = refl

-- a log-in has no record, whoever speaks after it
pub no_record : (names : ℕ → List ℕ) (line : Heard) (bare : Option (List ℕ)) (who who' last : Option Speaker) (replies : List Reply) (changed crowded : Bool)
    → last ≡ unless_crowded crowded who' → (crowded ≡ true → is_some (claim_in line who') ≡ true) → changed ≡ has_changed (event_of line who) replies
    → records_of changed names last bare ≡ records_of changed names who' bare
no_record names line bare who who' last replies changed false e right is = ap (λ w. records_of changed names w bare) e
no_record names TooLong bare who who' last replies changed true e right is = absurd (never (sym (right refl)))
no_record names Unclear bare who who' last replies changed true e right is = absurd (never (sym (right refl)))
no_record names (Asked (request.Auth name token)) bare who who' last replies changed true e right is =
    unrecorded names last bare changed is ∙ sym (unrecorded names who' bare changed is)
no_record names (Asked request.Quit) bare who who' last replies changed true e right is = absurd (never (sym (right refl)))
no_record names (Asked request.Ping) bare who who' last replies changed true e right is = absurd (never (sym (right refl)))
no_record names (Asked request.Hello) bare who who' last replies changed true e right is = absurd (never (sym (right refl)))
no_record names (Asked (request.Call call)) bare who who' last replies changed true e right is = absurd (never (sym (right refl)))

pub no_record_unless : (barred : Bool) (names : ℕ → List ℕ) (line : Heard) (bare : Option (List ℕ)) (who who' last : Option Speaker) (replies : List Reply) (changed crowded : Bool)
    → last ≡ unless_crowded crowded who' → (crowded ≡ true → is_some (claim_in line who') ≡ true) → changed ≡ has_changed (calls_if barred line who) replies
    → records_of changed names last bare ≡ records_of changed names who' bare
no_record_unless true names line bare who who' last replies changed crowded e right is = unrecorded names last bare changed is ∙ sym (unrecorded names who' bare changed is)
no_record_unless false names line bare who who' last replies changed crowded e right is = no_record names line bare who who' last replies changed crowded e right is

pub right_of : (a b : Bool) → (a && b) ≡ true → b ≡ true
right_of true b h = h
right_of false b h = absurd (never (sym h))

-- only a log-in changes who speaks
pub same_speaker : (login : Login) (most : Option ℕ) (others : List (Option Speaker)) (line : Heard) (who who' last : Option Speaker) (crowded : Bool) → is_login line ≡ false
    → who' ≡ speaker_after login who line → crowded ≡ is_crowded most others (claim_in line who') → last ≡ unless_crowded crowded who' → last ≡ who
same_speaker login most others line who who' last crowded plain speaks judged left =
    left ∙ ap (λ b. unless_crowded b who') (judged ∙ ap (λ b. is_crowded most others (if b then who' else None)) plain ∙ uncrowded most others)
    ∙ speaks ∙ same line plain
  where
    uncrowded : (most : Option ℕ) (others : List (Option Speaker)) → is_crowded most others None ≡ false
    uncrowded None others = refl
    uncrowded (Some most) others = refl

    same : (line : Heard) → is_login line ≡ false → speaker_after login who line ≡ who
    same TooLong e = refl
    same Unclear e = refl
    same (Asked (request.Auth name token)) e = absurd (never e)
    same (Asked request.Quit) e = refl
    same (Asked request.Ping) e = refl
    same (Asked request.Hello) e = refl
    same (Asked (request.Call call)) e = refl

-- a line that asks for a change is no log-in
pub changes_speak : (login : Login) (who : Option Speaker) (line : Heard) → asks_change who line ≡ true → who ≡ speaker_after login who line
changes_speak login None line e = absurd (never (sym e))
changes_speak login (Some who) TooLong e = refl
changes_speak login (Some who) Unclear e = refl
changes_speak login (Some who) (Asked (request.Auth name token)) e = absurd (never (sym e))
changes_speak login (Some who) (Asked request.Quit) e = refl
changes_speak login (Some who) (Asked request.Ping) e = refl
changes_speak login (Some who) (Asked request.Hello) e = refl
changes_speak login (Some who) (Asked (request.Call call)) e = refl

pub known_unless : (speakers : Speaker → Bool) (crowded : Bool) (who last : Option Speaker) → last ≡ unless_crowded crowded who → HasLoggedIn speakers who → HasLoggedIn speakers last
known_unless speakers true who last e h = subst (HasLoggedIn speakers) (sym e) tt
known_unless speakers false who last e h = subst (HasLoggedIn speakers) (sym e) h
