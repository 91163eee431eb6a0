use Rattle.std.proofs.Common.{arith, ◌≡◌, inl, inr, ◌<◌, ◌≤◌, [], ◌∷◌, ◌++◌, List, ℕ, true, false, refl, sym, ap, subst, ◌∙◌, append_assoc, append-nil}
use Rattle.std.proofs.lemmas.List.{length-append}
use Rattle.std.specs.Prelude.{Bool, IsTrue, if◌then◌else◌, length}
use Rattle.judy_many.specs.Books.{has_room}
use Rattle.judy_many.specs.Sessions.{Turn}
use Rattle.judy_many.proofs.Stepping.{Steps-none, Steps-held, Steps-append}
use Rattle.judy_many.proofs.Looking.{no_line}
use Rattle.judy_many.proofs.Inquiring.{AreBarred-append, AreFree-append, barred_as, free_one}
use Rattle.judy_many.proofs.Limiting.{AreLimited-append}
use Rattle.judy_many.proofs.Singles.{none_yet, one_at_most}
use Rattle.judy_many.proofs.session.run_lines.Goals as goal

-- one more line was heard
cut_more : (heard chunk after rest bytes : List ℕ) → heard ++ rest ≡ bytes → rest ≡ chunk ++ 10 ∷ after → (heard ++ (chunk ++ 10 ∷ [])) ++ after ≡ bytes
cut_more heard chunk after rest bytes h e =
    append_assoc heard (chunk ++ 10 ∷ []) after ∙ ap (λ v. heard ++ v) (append_assoc chunk (10 ∷ []) after ∙ sym e) ∙ h

-- at least one
one_more : (turns : List Turn) (t : Turn) → 0 < length (turns ++ t ∷ [])
one_more turns t = let e = length-append turns (t ∷ []) in omega (arith, e)

one_line : (turns : List Turn) (t : Turn) → length turns ≡ 0 → length (turns ++ t ∷ []) ≤ 1
one_line turns t none = let e = length-append turns (t ∷ []) in omega (arith, e, none)

never : true ≡ false → ⊥
never e = cc

at_one : {enough : Bool} {n : ℕ} → enough ≡ true → n ≤ 1 → n ≤ (if enough then 1 else 0)
at_one e few = rw e few

pub loop-chunk-init : goal.loop-chunk-init
loop-chunk-init g c = record {
  steps = ([], [], refl, tt, (λ e. tt), (λ e. tt), (λ e. omega arith), Steps-none _ _ _ _ _ _, inr (refl, refl, refl, refl));
  left = omega arith;
  more = omega arith;
  logins = refl;
  speakers = refl;
  known = c.requires.known;
  barred = refl;
  same = λ e keep. refl;
}

pub returns-clause-steps : goal.returns-clause-steps
returns-clause-steps g c =
    let (used, turns, cut, limited, barred, free, single, steps, first) = c.loop-chunk.invariant.steps in (
      used ++ c.loop-chunk.rest.now,
      [],
      turns ++ [],
      append-nil (used ++ c.loop-chunk.rest.now) ∙ cut,
      refl,
      λ some. absurd (some refl),
      λ starts. elim first [
        | inl one ↦ subst (λ t. 0 < length t) (sym (append-nil turns)) one
        | inr none ↦ absurd (no_line c.loop-chunk.rest.now c.args.bytes.now none.1 starts.0 c.in_default.ensures)
      ],
      AreLimited-append _ _ turns [] limited tt,
      (λ keep. AreBarred-append _ _ turns [] (barred keep) tt),
      (λ e. AreFree-append turns [] (free e) tt),
      λ e. subst (λ t. length t ≤ 1) (sym (append-nil turns)) (one_at_most c.loop-chunk.enough (length turns) (single e)),
      Steps-append _ used c.loop-chunk.rest.now turns [] false _ _ _ _ _ _ _ _ _ _ _ _ _ _ _ steps
          (Steps-held _ c.loop-chunk.rest.now _ _ _ _ _ _ c.in_default.ensures c.hold.ensures),
    )

pub returns-then-not-may_run-clause-steps : goal.returns-then-not-may_run-clause-steps
returns-then-not-may_run-clause-steps g c =
    let (used, turns, cut, limited, barred, free, single, steps, first) = c.loop-chunk.invariant.steps in (
      used,
      c.loop-chunk.rest.now,
      turns,
      cut,
      refl,
      λ some quit. (c.in-Some.chunk.now, c.in-Some.after.now, c.in-Some.ensures.1, c.in-Some.ensures.0),
      λ starts. elim first [
        | inl one ↦ one
        | inr none ↦ absurd (never (sym (c.may_run.ensures.first none.0 (none.2 ∙ starts.2) (subst (λ k. IsTrue (has_room k)) (sym none.3) starts.1)) ∙ c.if-not-may_run.true))
      ],
      limited,
      barred,
      free,
      λ e. one_at_most c.loop-chunk.enough (length turns) (single e),
      steps,
    )

pub returns-then-run_line-clause-steps : goal.returns-then-run_line-clause-steps
returns-then-run_line-clause-steps g c =
    let (used, turns, cut, limited, barred, free, single, steps, first) = c.loop-chunk.invariant.steps in
    let k = c.run_line.ensures.steps in
    let more = rw c.if-run_line.true at k.3 in
    let line = c.in-Some.chunk.now ++ 10 ∷ [] in (
      used ++ line,
      c.in-Some.after.now,
      turns ++ k.0 ∷ [],
      cut_more used c.in-Some.chunk.now c.in-Some.after.now c.loop-chunk.rest.now c.args.bytes.now cut c.in-Some.ensures.1,
      omega arith,
      λ some quit. absurd (never quit),
      λ starts. one_more turns k.0,
      AreLimited-append _ _ turns (k.0 ∷ []) limited k.1,
      (λ keep. AreBarred-append _ _ turns (k.0 ∷ []) (barred keep)
          (barred_as k.0 _ _ _ _ c.loop-chunk.invariant.barred (c.loop-chunk.invariant.same (c.may_run.ensures.more c.if-not-may_run.false) keep) k.2)),
      (λ e. AreFree-append turns (k.0 ∷ []) (free e) (free_one k.0 _ _ k.2 (c.loop-chunk.invariant.barred ∙ e))),
      λ e. one_line turns k.0 (none_yet c.loop-chunk.enough (length turns) (λ enough. never (sym enough ∙ c.may_run.ensures.more c.if-not-may_run.false)) (single e)),
      Steps-append _ used line turns (k.0 ∷ []) _ _ _ _ _ _ _ _ _ _ _ _ _ _ _ _ steps more,
    )

pub loop-chunk-preserved : goal.loop-chunk-preserved
loop-chunk-preserved g c =
    let (used, turns, cut, limited, barred, free, single, steps, first) = c.loop-chunk.invariant.steps in
    let k = c.run_line.ensures.steps in
    let more = rw c.if-run_line.false at k.3 in
    let line = c.in-Some.chunk.now ++ 10 ∷ [] in
    let longer = ap length more.text in
    record {
      steps = (
        used ++ line,
        turns ++ k.0 ∷ [],
        cut_more used c.in-Some.chunk.now c.in-Some.after.now c.loop-chunk.rest.now c.args.bytes.now cut c.in-Some.ensures.1,
        AreLimited-append _ _ turns (k.0 ∷ []) limited k.1,
        (λ keep. AreBarred-append _ _ turns (k.0 ∷ []) (barred keep)
            (barred_as k.0 _ _ _ _ c.loop-chunk.invariant.barred (c.loop-chunk.invariant.same (c.may_run.ensures.more c.if-not-may_run.false) keep) k.2)),
        (λ e. AreFree-append turns (k.0 ∷ []) (free e) (free_one k.0 _ _ k.2 (c.loop-chunk.invariant.barred ∙ e))),
        λ e. at_one (c.is_enough-enough.ensures.one e) (one_line turns k.0 (none_yet c.loop-chunk.enough (length turns) (λ enough. never (sym enough ∙ c.may_run.ensures.more c.if-not-may_run.false)) (single e))),
        Steps-append _ used line turns (k.0 ∷ []) _ _ _ _ _ _ _ _ _ _ _ _ _ _ _ _ steps more,
        inl (one_more turns k.0),
      );
      left = omega (arith, ap length c.in-Some.ensures.1, length-append c.in-Some.chunk.now (10 ∷ c.in-Some.after.now), c.loop-chunk.invariant.left);
      more = omega (arith, longer, length-append {A = ℕ}, c.loop-chunk.invariant.more);
      logins = c.run_line.ensures.logins ∙ c.loop-chunk.invariant.logins;
      speakers = c.run_line.ensures.speakers ∙ c.loop-chunk.invariant.speakers;
      known = c.run_line.ensures.known;
      barred = c.run_line.ensures.barred ∙ c.loop-chunk.invariant.barred;
      same = λ e keep. c.run_line.ensures.fresh (c.is_enough-enough.ensures.fresh e keep) ∙ c.loop-chunk.invariant.same (c.may_run.ensures.more c.if-not-may_run.false) keep;
    }
