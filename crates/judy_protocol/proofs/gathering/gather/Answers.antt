use Rattle.std.proofs.Common.{arith, ◌≡◌, Bool, [], ◌∷◌, ◌++◌, List, ℕ, Option, length, sym, ap, ◌∙◌, append_assoc, subst}
use Rattle.std.proofs.lemmas.List.{length-append}
use Rattle.judy_model.specs.Speakers.{Speaker}
use Rattle.judy_model.specs.Stream.{Login}
use Rattle.judy_protocol.specs.Services.{Made}
use Rattle.judy_protocol.specs.Talks.{Gathers}
use Rattle.judy_protocol.specs.declared.gathering.Batch.{Batch}
use Rattle.judy_protocol.specs.declared.gathering.Batch.TheVariants as batches
use Rattle.judy_protocol.specs.declared.held.Held.{Held}
use Rattle.judy_protocol.proofs.Talking.{Gathers-any, Gathers-append}
use Rattle.judy_protocol.proofs.gathering.gather.Goals as goal

-- the first line alone
first_line : {S : Type 0} {made : Made S} {login : Login} {quit : Bool} {a b : Held} {who next : Option Speaker} {from to : S}
    (batch : Batch) (chunk after before items : List ℕ) → before ≡ []
    → (text : List ℕ) × (items ≡ before ++ text) × Gathers made login batches.EachReply (chunk ++ 10 ∷ []) quit a b who next from to text
    → (used : List ℕ) × (used ++ after ≡ chunk ++ 10 ∷ after) × Gathers made login batch used quit a b who next from to items
first_line {S} {made} {login} {quit} {a} {b} {who} {next} {from} {to} batch chunk after before items empty (text, is, g) =
    let line = chunk ++ 10 ∷ [] in (
      line,
      append_assoc chunk (10 ∷ []) after,
      subst (λ v. Gathers made login batch line quit a b who next from to v) (sym (is ∙ ap (λ v. v ++ text) empty))
          (Gathers-any made login batch line quit a b who next from to text g),
    )

-- one more line was heard
cut_more : (used line more rest bytes : List ℕ) → used ++ rest ≡ bytes → rest ≡ line ++ 10 ∷ more → (used ++ (line ++ 10 ∷ [])) ++ more ≡ bytes
cut_more used line more rest bytes h e =
    append_assoc used (line ++ 10 ∷ []) more ∙ ap (λ v. used ++ v) (append_assoc line (10 ∷ []) more ∙ sym e) ∙ h

pub returns-in-EachReply-clause-gathers : goal.returns-in-EachReply-clause-gathers
returns-in-EachReply-clause-gathers g c =
    first_line c.args.batch c.args.chunk.now c.args.after.now _ _ c.clear.ensures c.answer-quit.ensures.gathers

pub loop-quit-init : goal.loop-quit-init
loop-quit-init g c = record {
  gathers = first_line c.args.batch c.args.chunk.now c.args.after.now _ _ c.clear.ensures c.answer-quit.ensures.gathers;
  fewer = omega arith;
  short = c.answer-quit.ensures.short;
  logins = c.answer-quit.ensures.logins;
  speakers = c.answer-quit.ensures.speakers;
  known = c.answer-quit.ensures.known;
}

pub loop-quit-preserved : goal.loop-quit-preserved
loop-quit-preserved g c =
    let (used, cut, steps) = c.loop-quit.invariant.gathers in
    let k = c.answer-quit-in-loop-quit.ensures.gathers in
    let before = rw (c.loop-quit-test.true, c.in-EachRead.is) at steps in
    let more = rw c.loop-quit.invariant.logins at k.2 in
    let line = c.in-Some.line.now ++ 10 ∷ [] in
    let joined = Gathers-append _ _ used line _ _ _ _ _ _ _ _ _ _ c.loop-quit.rooms.answers.items k.0 _ k.1 before more in
    record {
      gathers = (
        used ++ line,
        cut_more used c.in-Some.line.now c.in-Some.more.now c.loop-quit.rest.now (c.args.chunk.now ++ 10 ∷ c.args.after.now) cut c.in-Some.ensures.1,
        rw c.in-EachRead.is joined,
      );
      fewer = omega (arith, ap length c.in-Some.ensures.1, length-append c.in-Some.line.now (10 ∷ c.in-Some.more.now), c.loop-quit.invariant.fewer);
      short = c.answer-quit-in-loop-quit.ensures.short;
      logins = c.answer-quit-in-loop-quit.ensures.logins ∙ c.loop-quit.invariant.logins;
      speakers = c.answer-quit-in-loop-quit.ensures.speakers ∙ c.loop-quit.invariant.speakers;
      known = c.answer-quit-in-loop-quit.ensures.known;
    }
