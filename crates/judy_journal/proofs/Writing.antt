-- The text of one more commit.
use Rattle.std.proofs.Common.{◌≡◌, ℕ, List, [], ◌∷◌, ◌++◌, length, sym, ◌∙◌, ap}
use Rattle.std.specs.Prelude.{codes}
use Rattle.judy_model.specs.Stream.{lines_of, rest_of}
use Rattle.judy_journal.specs.Journals.{numbered, sum_of, mark}
use Rattle.judy_journal.specs.Writes.{commit_text}
use Rattle.judy_journal.proofs.Lines.{joined-append}
use Rattle.judy_journal.proofs.Pushing.{whole}

-- the text that a commit adds
pub text_of : (sum t s text : List ℕ) (count : ℕ) → rest_of t ≡ [] → count ≡ length (lines_of t) → s ≡ sum_of sum t
    → text ≡ t ++ (numbered (codes "# ") count s ++ 10 ∷ []) → text ≡ commit_text sum (lines_of t)
text_of sum t s text count none is se te =
    te ∙ sym (joined-append (lines_of t) (mark sum (lines_of t) ∷ [])
    ∙ ap (λ v. v ++ (mark sum (lines_of t) ++ 10 ∷ [])) (whole t none)
    ∙ ap (λ v. t ++ (numbered (codes "# ") (length (lines_of t)) (sum_of sum v) ++ 10 ∷ [])) (whole t none)
    ∙ ap (λ v. t ++ (numbered (codes "# ") v (sum_of sum t) ++ 10 ∷ [])) (sym is)
    ∙ ap (λ v. t ++ (numbered (codes "# ") count v ++ 10 ∷ [])) (sym se))
