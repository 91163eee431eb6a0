use Rattle.std.proofs.Common.{◌≡◌, ◌-◌, ◌∙◌, ℕ, List, Bool, true, false, ap, sym, length, take, drop, arith}
use Rattle.std.specs.Str.{bytes_eq}
use Rattle.std.proofs.lemmas.Slice.Eq.{bytes_eq-Decides}
use Rattle.judy_journal.specs.Notes.{note, number_in, number_told}
use Rattle.judy_journal.proofs.Noticing.{told}
use Rattle.judy_journal.proofs.notes.read_note.Goals as goal

pub returns-then-are_same : goal.returns-then-are_same
returns-then-are_same c =
    let place : length c.args.line.now - 16 - 1 ≡ length c.args.line.now - 17 = omega arith in
    let digits : c.number_in-sure.result ≡ number_in c.args.line.now =
    c.number_in-sure.ensures ∙ ap (number_told 0) (c.split_at-2.ensures.back ∙ ap (drop 2) (c.split_at.ensures.front ∙ ap (λ n. take n c.args.line.now) place)) in
    let same : c.args.line.now ≡ note c.args.segment c.args.place c.number_in-sure.result =
    c.are_same.ensures.same c.if-are_same.true ∙ c.as_slice.ensures.value ∙ c.note_line-note.ensures.text in
    told c.args.segment c.args.place c.number_in-sure.result c.args.line.now true
    (omega (arith, c.if-line-lt-FRAME.false)) (omega (arith, c.if-line-ge-NOTE_ROOM.false)) (sym c.begins_note.ensures ∙ c.if-not-begins_note.false) digits
    ((bytes_eq-Decides c.args.line.now (note c.args.segment c.args.place c.number_in-sure.result)).1 same)

pub returns : goal.returns
returns c =
    let place : length c.args.line.now - 16 - 1 ≡ length c.args.line.now - 17 = omega arith in
    let digits : c.number_in-sure.result ≡ number_in c.args.line.now =
    c.number_in-sure.ensures ∙ ap (number_told 0) (c.split_at-2.ensures.back ∙ ap (drop 2) (c.split_at.ensures.front ∙ ap (λ n. take n c.args.line.now) place)) in
    let its : List ℕ = note c.args.segment c.args.place c.number_in-sure.result in
    let other : bytes_eq c.args.line.now its ≡ true → ⊥ =
    λ e. c.are_same.ensures.other c.if-are_same.false ((bytes_eq-Decides c.args.line.now its).0 e
    ∙ sym (c.as_slice.ensures.value ∙ c.note_line-note.ensures.text)) in
    told c.args.segment c.args.place c.number_in-sure.result c.args.line.now false
    (omega (arith, c.if-line-lt-FRAME.false)) (omega (arith, c.if-line-ge-NOTE_ROOM.false)) (sym c.begins_note.ensures ∙ c.if-not-begins_note.false) digits
    (is_false (bytes_eq c.args.line.now its) other)
  where
    is_false : (b : Bool) → (b ≡ true → ⊥) → b ≡ false
    is_false true h = absurd (h Rattle.std.proofs.Common.refl)
    is_false false h = Rattle.std.proofs.Common.refl
