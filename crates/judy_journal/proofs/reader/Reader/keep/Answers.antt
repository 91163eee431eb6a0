use Rattle.std.proofs.Common.{arith, ◌≡◌, ◌<◌, ◌+◌, ◌++◌, ◌∷◌, [], sym, ap, ◌∙◌, List, ℕ, length, append_assoc, subst}
use Rattle.std.specs.Prelude.{IsTrue}
use Rattle.judy_model.specs.Stream.{lines_of}
use Rattle.judy_journal.specs.Journals.{joined, is_record}
use Rattle.judy_journal.specs.Readings.{Reading}
use Rattle.judy_journal.proofs.Pushing.{Pushed, pushed, room, whole}
use Rattle.judy_journal.proofs.reader.Reader.keep.Goals as goal

-- the record that was added
added : (c : goal.After-clear) → Pushed c.self.inside.body.items c.self.inside.line.items c.put-2.new.line.items
added c = pushed c.self.inside.body.items c.self.inside.line.items c.put-2.new.line.items
    c.self.invariant.0 c.self.invariant.2 (subst (λ r. IsTrue (is_record r.line)) (sym c.self.view_is) c.requires)
    (c.put-2.ensures ∙ ap (λ v. v ++ 10 ∷ []) (c.put.ensures ∙ ap (λ v. c.self.inside.body.items ++ v) c.as_slice.ensures.value)
    ∙ append_assoc c.self.inside.body.items c.self.inside.line.items (10 ∷ []))
    (omega (arith, c.if-len-gt-COMMIT_LIMIT.false, c.len.ensures.value, c.len-2.ensures.value))

pub returns-then-len-gt-COMMIT_LIMIT-clause-long : goal.returns-then-len-gt-COMMIT_LIMIT-clause-long
returns-then-len-gt-COMMIT_LIMIT-clause-long c e =
    omega (
      arith,
      ap (λ w. length (joined w.records)) c.self.view_is,
      ap (λ w. length w.line) c.self.view_is,
      ap length (whole c.self.inside.body.items c.self.invariant.0),
      c.if-len-gt-COMMIT_LIMIT.true,
      c.len.ensures.value,
      c.len-2.ensures.value,
    )

pub overflow_add-self : goal.overflow_add-self
overflow_add-self c = omega (arith, c.self.invariant.1, (room c.self.inside.body.items c.self.invariant.0 c.self.invariant.2).1)

pub invariant_of-self : goal.invariant_of-self
invariant_of-self c = let p = added c in (p.rest, omega (arith, p.count, c.self.invariant.1), p.commit, subst (λ l. IsTrue (Rattle.judy_journal.specs.Journals.is_line l)) (sym c.clear.ensures) Rattle.std.proofs.Common.refl)

pub returns-clause-kept : goal.returns-clause-kept
returns-clause-kept c e =
    let shown : Reading = record {
      segment = c.self.inside.segment;
      first = c.self.inside.first;
      sum = c.self.inside.sum;
      begun = c.self.inside.begun;
      whole = c.self.inside.whole;
      records = lines_of c.self.inside.body.items;
      line = c.self.inside.line.items;
    } in
    let with_records : List (List ℕ) → Reading = λ rs. record shown { records = rs; line = c.clear.new.self.items } in
    let with_line : List ℕ → Reading =
    λ l. record shown { records = lines_of c.self.inside.body.items ++ c.self.inside.line.items ∷ []; line = l } in
    let now : Reading → Reading = λ r. record r { records = r.records ++ r.line ∷ []; line = [] } in
    ap with_records (added c).lines ∙ ap with_line c.clear.ensures ∙ ap now c.self.view_is
