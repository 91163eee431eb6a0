use Rattle.std.proofs.Common.{arith, ◌≡◌, ◌++◌, ◌∷◌, [], ◌+◌, ◌≤◌, ℕ, List, true, length, refl, sym, ◌∙◌, ap, subst, append_assoc}
use Rattle.std.proofs.lemmas.List.{length-append}
use Rattle.judy_programs.specs.TableEnds.{MayEnd}
use Rattle.judy_programs.specs.Tables.{IsLong}
use Rattle.judy_programs.proofs.TableLines.{long_line, long_lines, table_at, whole_line}
use Rattle.judy_programs.proofs.table_end.find_end.Goals as goal

-- the bytes that were examined, the line, and what follows it
line_cut : (bytes done rest line after : List ℕ) → bytes ≡ done ++ rest → rest ≡ line ++ 10 ∷ after → bytes ≡ done ++ (line ++ 10 ∷ after)
line_cut bytes done rest line after h e = h ∙ ap (λ v. done ++ v) e

line_fits : (bytes done rest line after : List ℕ) (at : ℕ) → bytes ≡ done ++ rest → rest ≡ line ++ 10 ∷ after → at ≡ length done
    → at + length line + 1 ≤ length bytes
line_fits bytes done rest line after at h e n = omega (arith, n, ap length h, ap length e, length-append done rest, length-append line (10 ∷ after))

pub returns-in_default : goal.returns-in_default
returns-in_default c =
    let h = c.loop-at.invariant in
    subst IsLong (sym h.1) (long_line h.0 c.loop-at.rest.now h.3 c.in_default.ensures (λ may.
    let yes : c.may_end.result ≡ true = c.may_end.ensures.1 (subst (λ n. MayEnd n c.loop-at.rest.now) (sym h.2) may) in cc))

pub returns-then-is_mark : goal.returns-then-is_mark
returns-then-is_mark c =
    let h = c.loop-at.invariant in
    let cut = line_cut c.args.bytes.now h.0 c.loop-at.rest.now c.in-Some.line.now c.in-Some.after.now h.1 c.in-Some.ensures.1 in
    let fits = line_fits c.args.bytes.now h.0 c.loop-at.rest.now c.in-Some.line.now c.in-Some.after.now c.loop-at.at h.1 c.in-Some.ensures.1 h.2 in (
      table_at c.args.bytes.now h.0 c.in-Some.line.now c.in-Some.after.now c.loop-at.at
          (c.loop-at.at + length c.in-Some.line.now + 1) cut h.2 refl h.3 (sym c.is_mark.ensures ∙ c.if-is_mark.true),
      omega (arith, c.loop-at-test.true),
      omega (arith, fits),
      fits,
    )

pub loop-at-preserved : goal.loop-at-preserved
loop-at-preserved c =
    let h = c.loop-at.invariant in
    let line = c.in-Some.line.now in
    let cut = line_cut c.args.bytes.now h.0 c.loop-at.rest.now line c.in-Some.after.now h.1 c.in-Some.ensures.1 in (
      h.0 ++ (line ++ 10 ∷ []),
      cut ∙ ap (λ v. h.0 ++ v) (sym (append_assoc line (10 ∷ []) c.in-Some.after.now)) ∙ sym (append_assoc h.0 (line ++ 10 ∷ []) c.in-Some.after.now),
      omega (arith, h.2, length-append h.0 (line ++ 10 ∷ []), length-append line (10 ∷ [])),
      whole_line h.0 line h.3 c.in-Some.ensures.0 (sym c.is_mark.ensures ∙ c.if-is_mark.false),
    )

pub returns : goal.returns
returns c =
    let h = c.loop-at.invariant in
    subst IsLong (sym h.1) (long_lines h.0 c.loop-at.rest.now h.3 (omega (arith, h.2, c.loop-at-test.false)))
