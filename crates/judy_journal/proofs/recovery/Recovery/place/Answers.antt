use Rattle.std.proofs.Common.{◌∙◌, sym, ap, length, ℕ}
use Rattle.std.specs.Prelude.{if◌then◌else◌}
use Rattle.judy_journal.specs.Journals.{joined}
use Rattle.judy_journal.specs.Recovered.{Recovering}
use Rattle.judy_journal.proofs.Gathering.{bare_place, headed_place}
use Rattle.judy_journal.proofs.recovery.Recovery.place.Goals as goal

pub returns-then-not-is_begun : goal.returns-then-not-is_begun
returns-then-not-is_begun c number sum text commits h at =
    bare_place number sum text commits c.args.self.now.reading h
    (sym (ap (λ r. r.reading.begun) c.self.view_is) ∙ sym c.is_begun.ensures ∙ c.if-not-is_begun.true)

pub returns : goal.returns
returns c number sum text commits h at =
    let shown : Recovering → ℕ = λ r. if r.reading.whole then 0 else length (joined r.reading.records) in
    headed_place number sum text commits c.args.self.now.reading c.args.self.now.ended c.whole.result c.open_len.result _ h at
    (sym (ap (λ r. r.reading.begun) c.self.view_is) ∙ sym c.is_begun.ensures ∙ c.if-not-is_begun.false)
    c.whole.ensures (c.open_len.ensures ∙ ap shown c.self.view_is) c.saturating_add.ensures
