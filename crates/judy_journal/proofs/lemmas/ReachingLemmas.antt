-- The first line of the file that a recovery reads.
--     recovered-short     it is one line, and not too long for one
use Rattle.std.proofs.Common.{ℕ, ◌<◌, ◌≤◌, ◌+◌, ◌^◌, List, [], ◌∷◌, length, sym, subst, arith}
use Rattle.std.specs.Prelude.{IsTrue}
use Rattle.judy_journal.specs.Acts.{Left}
use Rattle.judy_journal.specs.Journals.{Commit, is_line, joined, sum_after, sum_at}
use Rattle.judy_journal.specs.Readings.{HasShortHeader}
use Rattle.judy_journal.specs.Recovered.{IsRecovered, Recovering}
use Rattle.judy_journal.proofs.Lines.{sum-line}
use Rattle.judy_journal.proofs.Reaching.{short-header, sum_len}

-- the checksum after some commits is one too
sum_at-line : (sum : List ℕ) (commits : List Commit) → IsTrue (is_line sum) → IsTrue (is_line (sum_at sum commits))
sum_at-line sum [] h = h
sum_at-line sum (c ∷ cs) h = sum_at-line (sum_after sum c) cs (sum-line sum (joined c))

sum_at-len : (sum : List ℕ) (commits : List Commit) → length sum ≤ 16 → length (sum_at sum commits) ≤ 16
sum_at-len sum [] h = h
sum_at-len sum (c ∷ cs) h = sum_at-len (sum_after sum c) cs (omega (arith, sum_len sum (joined c)))

pub recovered-short : (segment : ℕ) (sum : List ℕ) (done : List Left) (text : List ℕ) (commits : List Commit) (r : Recovering)
    → IsRecovered segment sum done text commits r → segment + length done + 1 < 2 ^ 64 → IsTrue (is_line sum) → length sum ≤ 16
    → HasShortHeader r.reading.segment r.reading.first
recovered-short segment sum done text commits r h small line few =
    subst (HasShortHeader r.reading.segment) (sym h.read.first_is)
    (subst (λ n. HasShortHeader n (sum_at sum h.before)) (sym h.read.segment_is)
    (short-header (segment + length done + 1) (sum_at sum h.before) small (sum_at-line sum h.before line) (sum_at-len sum h.before few)))
