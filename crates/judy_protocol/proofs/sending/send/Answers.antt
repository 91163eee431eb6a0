use Rattle.std.proofs.Common.{arith, ◌≡◌, ℕ, zero, suc, ◌-◌, ◌<◌, ◌≤◌, Bool, true, false, List, [], ◌∷◌, ◌++◌, length, take, Option, ap, subst}
use Rattle.std.proofs.Common.{drop, append_assoc, append-nil, take-append-drop, ◌∙◌, refl}
use Rattle.std.specs.Prelude.{◌==◌}
use Rattle.std.specs.Io.KnownBytes.{Appends}
use Rattle.std.proofs.lemmas.Bool.Decides.{nat_tests}
use Rattle.std.proofs.lemmas.Grind.{common_steps}
use Rattle.std.proofs.lemmas.List.{length-append, length-drop}
use Rattle.judy_stream.specs.Streams.{pending_after, push_faults_after}
use Rattle.judy_stream.specs.declared.Push.TheVariants.{Took}
use Rattle.judy_protocol.proofs.KnownBytes.{Appends-append, Appends-keeps, Appends-nil}
use Rattle.judy_protocol.proofs.sending.send.Goals as goal

-- the bytes sent grow by what was taken from the rest
next_taken : (sent rest all : List ℕ) (n : ℕ) → sent ++ rest ≡ all → (sent ++ take n rest) ++ take (length rest - n) (drop n rest) ≡ all
next_taken sent rest all n e = grind (arith, common_steps, take-append-drop n rest, append_assoc sent (take n rest) (drop n rest), length-drop n rest)

-- a push that took something is not a fault
took_some : (n count : ℕ) → (n ≡ 0 → ⊥) → push_faults_after (Took n) count ≡ count
took_some zero count h = absurd (h refl)
took_some (suc n) count h = refl

-- a push that took something leaves bytes that wait for a flush
took_waits : (n : ℕ) (pending : Bool) → (n ≡ 0 → ⊥) → pending_after (Took n) pending ≡ true
took_waits zero pending h = absurd (h refl)
took_waits (suc n) pending h = refl

none_left : (n : ℕ) → true ≡ (n == 0) → n ≡ 0
none_left n e = grind (arith, nat_tests, e)

some_left : (n : ℕ) → false ≡ (n == 0) → 0 < n
some_left n e = grind (arith, nat_tests, e)

-- if nothing is left, everything was sent
all_sent : (sent rest all : List ℕ) → length rest ≡ 0 → sent ++ rest ≡ all → sent ++ [] ≡ all
all_sent sent [] all empty e = e
all_sent sent (x ∷ xs) all empty e = absurd (omega (arith, empty))

-- a push that took something leaves something sent
some_sent : (sent rest : List ℕ) (n : ℕ) → (n ≡ 0 → ⊥) → n ≤ length rest → sent ++ take n rest ≡ [] → ⊥
some_sent sent rest zero h few e = h refl
some_sent sent [] (suc n) h few e = omega (arith, few)
some_sent sent (x ∷ xs) (suc n) h few e = omega (arith, ap length e, length-append sent (x ∷ take n xs))

-- a push that took nothing changes nothing
none_more : (a b c : Option (List ℕ)) (sent rest : List ℕ) (n : ℕ) → n ≡ 0 → Appends a b sent → Appends b c (take n rest) → Appends a c sent
none_more a b c sent rest n none h k =
    subst (Appends a c) (append-nil sent) (Appends-append a b c sent [] h (subst (λ m. Appends b c (take m rest)) none k))

-- all was sent, which is something
all_some : (sent rest all : List ℕ) → length rest ≡ 0 → sent ++ rest ≡ all → 0 < length all → sent ≡ [] → ⊥
all_some sent rest all empty e some none = omega (arith, ap length e, length-append sent rest, ap length none, empty, some)

pub loop-rest-init : goal.loop-rest-init
loop-rest-init g c = record {
  sent = ([], refl, Appends-nil _, λ e. refl);
  waits = λ less. absurd (omega (arith, less));
  faults = refl;
}

pub returns-then-n-eq0-clause-part : goal.returns-then-n-eq0-clause-part
returns-then-n-eq0-clause-part g c = λ failed.
    let s = c.loop-rest.invariant.sent in (
      s.0,
      c.loop-rest.rest.now,
      s.1,
      none_more _ _ _ s.0 c.loop-rest.rest.now c.in-Took.n c.if-n-eq0.true s.2 c.in-Took.ensures.bytes.1,
      λ none. c.in-Took.ensures.pending ∙ ap (λ n. pending_after (Took n) (g.W.Sink.sink.pending c.loop-rest.sink)) c.if-n-eq0.true ∙ s.3 none,
    )

pub returns-in-Fault-clause-part : goal.returns-in-Fault-clause-part
returns-in-Fault-clause-part g c = λ failed.
    let s = c.loop-rest.invariant.sent in
    (s.0, c.loop-rest.rest.now, s.1, Appends-keeps _ _ _ s.0 s.2 c.in-Fault.ensures.bytes, λ none. c.in-Fault.ensures.pending ∙ s.3 none)

pub returns-clause-part : goal.returns-clause-part
returns-clause-part g c = λ failed.
    let s = c.loop-rest.invariant.sent in
    let empty = none_left (length c.loop-rest.rest.now) c.loop-rest-test.ensures in (
      s.0,
      c.loop-rest.rest.now,
      s.1,
      Appends-keeps _ _ _ s.0 s.2 c.flush.ensures.bytes,
      λ none. absurd (all_some s.0 c.loop-rest.rest.now c.args.bytes.now empty s.1 c.requires.some none),
    )

pub push-requires-clause-ready : goal.push-requires-clause-ready
push-requires-clause-ready g c = c.requires.answers.push _ _ (some_left (length c.loop-rest.rest.now) c.loop-rest-test.ensures) (record {
  before = c.args.sink.now;
  front = c.loop-rest.invariant.sent.0;
  flushed = λ waits. waits;
  text = c.loop-rest.invariant.sent.1;
  took = c.loop-rest.invariant.sent.2;
})

pub flush-requires : goal.flush-requires
flush-requires g c = let empty = none_left (length c.loop-rest.rest.now) c.loop-rest-test.ensures in record {
  ready = c.requires.answers.flush _ (record {
    before = c.args.sink.now;
    front = c.loop-rest.invariant.sent.0;
    flushed = λ waits. waits;
    text = all_sent c.loop-rest.invariant.sent.0 c.loop-rest.rest.now c.args.bytes.now empty c.loop-rest.invariant.sent.1;
    took = c.loop-rest.invariant.sent.2;
  }) (c.loop-rest.invariant.waits (omega (arith, empty, c.requires.some)));
}

pub loop-rest-preserved : goal.loop-rest-preserved
loop-rest-preserved g c = record {
  sent = (
    c.loop-rest.invariant.sent.0 ++ take c.in-Took.n c.loop-rest.rest.now,
    next_taken c.loop-rest.invariant.sent.0 c.loop-rest.rest.now c.args.bytes.now c.in-Took.n c.loop-rest.invariant.sent.1,
    Appends-append _ _ _ _ _ c.loop-rest.invariant.sent.2 c.in-Took.ensures.bytes.1,
    λ none. absurd (some_sent c.loop-rest.invariant.sent.0 c.loop-rest.rest.now c.in-Took.n c.if-n-eq0.false c.in-Took.ensures.bytes.0 none),
  );
  waits = λ less. c.in-Took.ensures.pending ∙ took_waits _ _ c.if-n-eq0.false;
  faults = c.in-Took.ensures.faults ∙ took_some _ _ c.if-n-eq0.false ∙ c.loop-rest.invariant.faults;
}
