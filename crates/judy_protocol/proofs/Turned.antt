-- The turn of one line.
use Rattle.std.proofs.Common.{◌≡◌, ◌<◌, ◌≤◌, ℕ, true, false, List, [], ◌∷◌, length, Option, None, Some, arith, ap, sym, ◌∙◌, subst, refl, append-nil}
use Rattle.std.proofs.lemmas.Bool.Decides.{nat_tests}
use Rattle.std.specs.Prelude.{◌&&◌, Bool, MatchOption, nat_lt, not, option_map}
use Rattle.std.specs.Str.Lines.{strip_carriage_return}
use Rattle.judy_model.specs.declared.calls.Call.{Call}
use Rattle.judy_model.specs.declared.replies.Reply.{Reply}
use Rattle.judy_model.specs.declared.requests.Line.TheVariants as request
use Rattle.judy_model.specs.declared.requests.TheConstants.{LINE_LIMIT}
use Rattle.judy_model.specs.Reading.{request_of}
use Rattle.judy_model.specs.Replies.{text as text_of}
use Rattle.judy_model.specs.Speakers.{Speaker}
use Rattle.judy_model.specs.Stream.{Login, heard, heard_request}
use Rattle.judy_model.specs.Stream.Heard.{Asked}
use Rattle.judy_model.specs.Tenant.{changes}
use Rattle.judy_protocol.specs.Plain.{says_unchanged}
use Rattle.judy_protocol.specs.Services.{Made}
use Rattle.judy_protocol.specs.Talks.{HasRun, heard_bare}

-- a call that a speaker made, and whether it is recorded
pub called : {S P : Type 0} (made : Made S) (login : Login) (who : P → Speaker) (speaker : Option P) (p : P) (call : Call)
    (reply : Reply) (before after : S) (text : List ℕ) (changed : Bool)
    → speaker ≡ Some p → made before (record { speaker = who p; call = call }) reply after → text ≡ text_of reply
    → changed ≡ (changes call && not (says_unchanged call reply))
    → HasRun made login (Asked (request.Call call)) (option_map who speaker) (option_map who speaker) before after text changed
called made login who speaker p call reply before after text changed is done e f =
    subst (λ o. HasRun made login (Asked (request.Call call)) (option_map who o) (option_map who o) before after text changed) (sym is) (record {
      turn = record {
        replies = reply ∷ [];
        speaks = refl;
        count = refl;
        run = (after, done, refl);
        text_is = e ∙ sym (append-nil (text_of reply));
      };
      changed_is = f;
    })

-- a line is heard by its bytes without a CR at their end
pub bare_heard : {B : Type 0} (now : B → List ℕ) (line : List ℕ) (bare : Option B) → MatchOption bare (LINE_LIMIT < length line)
    (λ b. (now b ≡ strip_carriage_return line) × (length line ≤ LINE_LIMIT)) → heard_bare (option_map now bare) ≡ heard line
bare_heard now line None h = let e : nat_lt LINE_LIMIT (length line) ≡ true = grind (arith, nat_tests, h) in rw e refl
bare_heard now line (Some b) h =
    let few = h.1 in
    let e : nat_lt LINE_LIMIT (length line) ≡ false = grind (arith, nat_tests, few) in
    rw e (ap (λ v. heard_request (request_of v)) h.0)
