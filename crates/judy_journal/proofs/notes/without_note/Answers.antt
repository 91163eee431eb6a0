use Rattle.std.proofs.Common.{◌≡◌, ◌-◌, ◌<◌, ◌≤◌, ◌∙◌, ℕ, Bool, false, List, [], ap, sym, subst, length, take, drop, arith}
use Rattle.std.specs.Prelude.{◌==◌, if◌then◌else◌}
use Rattle.std.proofs.lemmas.Bool.Decides.{nat_tests}
use Rattle.judy_model.specs.Stream.{lines_of, rest_of}
use Rattle.judy_journal.specs.Notes.{changes_in, is_note}
use Rattle.judy_journal.proofs.Noticing.{IsLastStart, cut_note}
use Rattle.judy_journal.proofs.notes.without_note.Goals as goal

some_bytes : (bytes : List ℕ) → (length bytes == 0) ≡ false → 0 < length bytes
some_bytes bytes is = grind (arith, nat_tests, is)

its_changes : (records lines front back : List ℕ) (start : ℕ) (b : Bool) → rest_of records ≡ [] → 0 < length records
    → lines ≡ take (length records - 1) records → start ≤ length lines → IsLastStart lines start → front ≡ take start records → back ≡ drop start records
    → b ≡ is_note back → (if b then lines_of front else lines_of records) ≡ changes_in (lines_of records)
its_changes records lines front back start b none some cut bound at front_is back_is test =
    ap (λ b. if b then lines_of front else lines_of records) (test ∙ ap is_note back_is)
    ∙ ap (λ v. if is_note (drop start records) then lines_of v else lines_of records) front_is
    ∙ cut_note records start none some (omega (arith, bound, ap length cut)) (subst (λ v. IsLastStart v start) cut at)

pub returns-then-begins_note : goal.returns-then-begins_note
returns-then-begins_note c =
    ap (λ b. if b then lines_of c.split_at-2.result.0.now else lines_of c.args.records.now) (sym c.if-begins_note.true)
    ∙ its_changes c.args.records.now c.split_at.result.0.now c.split_at-2.result.0.now c.split_at-2.result.1.now c.start_of_last.result c.begins_note.result
    c.requires (some_bytes c.args.records.now (sym c.is_empty.ensures ∙ c.if-is_empty.false)) c.split_at.ensures.front c.start_of_last.ensures.bound
    (record { front = c.start_of_last.ensures.front; last = c.start_of_last.ensures.last }) c.split_at-2.ensures.front c.split_at-2.ensures.back c.begins_note.ensures

pub returns : goal.returns
returns c =
    ap (λ b. if b then lines_of c.split_at-2.result.0.now else lines_of c.args.records.now) (sym c.if-begins_note.false)
    ∙ its_changes c.args.records.now c.split_at.result.0.now c.split_at-2.result.0.now c.split_at-2.result.1.now c.start_of_last.result c.begins_note.result
    c.requires (some_bytes c.args.records.now (sym c.is_empty.ensures ∙ c.if-is_empty.false)) c.split_at.ensures.front c.start_of_last.ensures.bound
    (record { front = c.start_of_last.ensures.front; last = c.start_of_last.ensures.last }) c.split_at-2.ensures.front c.split_at-2.ensures.back c.begins_note.ensures
