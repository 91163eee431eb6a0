-- What the last line reports.
--     told-words    after a script served to its end, `WORDS n`, if wanted, has the service's words
use Rattle.std.specs.Prelude.{◌≡◌, ℕ, Bool, true, List, [], if◌then◌else◌}
use Rattle.std.specs.Io.KnownBytes.{Appends}
use Rattle.std.proofs.Common.{subst}
use Rattle.judy_protocol.specs.Services.{Made, Seen}
use Rattle.judy_protocol.specs.Serving.{MaybeBytes}
use Rattle.judy_protocol.specs.declared.gathering.Batch.{Batch}
use Rattle.judy_protocol.specs.declared.connection.End.{End}
use Rattle.judy_table.specs.declared.tenant.Tenant.{Tenant}
use Rattle.judy_programs.specs.Program.{HasServed, tells_words, words_line}
use Rattle.judy_programs.specs.declared.program.Ran.TheVariants as ran

-- after the answers comes the line with the words of the service at the end
pub told-words : {S : Type 0} (made : Made S) (seen : S → Seen) (words_in : S → ℕ) (is_new : List Tenant → S → Type 0)
    (words : Bool) (batch : Batch) (end : End) (left left' taken taken' : MaybeBytes) (told told' : ℕ) → tells_words words end ≡ true
    → (h : HasServed made seen words_in is_new words batch (ran.Served end) left left' taken taken' told told')
    → Appends h.run.between taken' (words_line (words_in h.after))
told-words made seen words_in is_new words batch end left left' taken taken' told told' tells h =
    subst (λ b. Appends h.run.between taken' (if b then words_line (words_in h.after) else [])) tells h.run.last
