-- The value of a number's text, and worked rows of command lines.
use Rattle.std.proofs.Common.{ℕ, ◌≡◌, ◌≤◌, ◌<◌, ◌^◌, true, false, arith, refl}
use Rattle.std.specs.Prelude.{Option, List, Bool, IfSome, option_map, unwrap_or, if◌then◌else◌}
use Rattle.std.specs.Option.{option_map_or}
use Rattle.std.specs.Str.{bytes_eq}
use Rattle.std.specs.Str.Parse.{digits_value, without_leading_plus, IsNumeral}
use Rattle.clap.specs.Words.{Text}
use Rattle.clap.specs.ValueTests.{is_unsigned_in}
use Rattle.clap.specs.declared.builder.value_parser.ValueParser.TheVariants as parser
use Rattle.clap.proofs.ValueTestLemmas.{accepts-Accepts, Accepts-accepts}
use Rattle.judy_command.specs.CommandLine.{IsSync, seconds_in, sync_in, number_in, most_clients, most_count, most_megabytes, most_segment, IsUsage, StopsBy, judyd_app, job_of, IsCount, IsInRange, IsOptionFault, job_at, served, words_fault}
use Rattle.clap.specs.Kinds.{or_else}
use Rattle.std.proofs.Common.{◌∷◌, [], inl, inr, subst, sym, Some, None, codes}
use Rattle.clap.specs.Words.{Row, first_of, Kinds, IsAmong, takes, subcommand_of, fault_of}
use Rattle.clap.proofs.OnLiterals.{clap_on_literals}
use Rattle.clap.specs.declared.error.ErrorKind.{ErrorKind}
use Rattle.clap.specs.declared.error.ErrorKind.TheVariants as kind
use Rattle.judy_command.specs.declared.words.Refusal.{Refusal}
use Rattle.judy_command.specs.declared.words.Refusal.TheVariants.{Help, Usage, Memory}
use Rattle.judy_command.specs.declared.words.Job.{Job}
use Rattle.judy_command.specs.declared.words.Job.TheVariants.{Run, Serve, Compact, Repair, Journal}
use Rattle.judy_command.specs.declared.words.Sync.{Sync}
use Rattle.judy_command.specs.declared.words.Sync.TheVariants.{Round, Seconds, Never}

pub number_of-in : (most : ℕ) → most < 2 ^ 32 → (t : Text) → IsNumeral 10 (without_leading_plus t) → digits_value 10 (without_leading_plus t) ≤ most
    → 1 ≤ digits_value 10 (without_leading_plus t)
    → digits_value 10 (without_leading_plus t) ≡ number_in most t
number_of-in most small t numeral fits some =
    let passes = Accepts-accepts false (parser.Unsigned 1 most) t (numeral, omega (arith, fits, small), some, fits) in
    rw passes refl

pub number_of-out : (most : ℕ) → (t : Text) → (IsNumeral 10 (without_leading_plus t) → digits_value 10 (without_leading_plus t) ≤ most
    → 1 ≤ digits_value 10 (without_leading_plus t) → ⊥)
    → most ≡ number_in most t
number_of-out most t never =
    elim (is_unsigned_in 1 most t) as (λ b. is_unsigned_in 1 most t ≡ b → most ≡ number_in most t) [
      | true ↦ λ e. let h = accepts-Accepts false (parser.Unsigned 1 most) t e in absurd (never h.0 h.3 h.2)
      | false ↦ λ e. rw e refl
    ] refl

pub seconds-in : (t : Text) → IsNumeral 10 (without_leading_plus t) → digits_value 10 (without_leading_plus t) ≤ most_count
    → 1 ≤ digits_value 10 (without_leading_plus t) → is_unsigned_in 1 most_count t ≡ true
seconds-in t numeral fits some = Accepts-accepts false (parser.Unsigned 1 most_count) t (numeral, omega (arith, fits), some, fits)

pub seconds-out : (t : Text) → (IsNumeral 10 (without_leading_plus t) → digits_value 10 (without_leading_plus t) ≤ most_count
    → 1 ≤ digits_value 10 (without_leading_plus t) → ⊥)
    → is_unsigned_in 1 most_count t ≡ false
seconds-out t never =
    elim (is_unsigned_in 1 most_count t) as (λ b. is_unsigned_in 1 most_count t ≡ b → b ≡ false) [
      | true ↦ λ e. let h = accepts-Accepts false (parser.Unsigned 1 most_count) t e in absurd (never h.0 h.3 h.2)
      | false ↦ λ e. refl
    ] refl

-- seconds are 1 to the greatest number
seconds_of : (t : Text) → IfSome (seconds_in t) IsSync
seconds_of t =
    elim (is_unsigned_in 1 most_count t) as (λ b. is_unsigned_in 1 most_count t ≡ b → IfSome (seconds_in t) IsSync) [
      | true ↦ λ e. let read = accepts-Accepts false (parser.Unsigned 1 most_count) t e in rw e (read.2, read.3)
      | false ↦ λ e. rw e tt
    ] refl

-- an option's number is 1 to the greatest that it may be
count_of : (most : ℕ) → 1 ≤ most → (t : Text) → IsCount most (number_in most t)
count_of most some t =
    elim (is_unsigned_in 1 most t) as (λ b. is_unsigned_in 1 most t ≡ b → IsCount most (number_in most t)) [
      | true ↦ λ e. let h = accepts-Accepts false (parser.Unsigned 1 most) t e in rw e (h.2, h.3)
      | false ↦ λ e. rw e (some, omega arith)
    ] refl

count_given : (most other : ℕ) → IsCount most other → (o : Option Text) → IsCount most (unwrap_or (option_map (number_in most) o) other)
count_given most other h None = h
count_given most other h (Some t) = count_of most (omega (arith, h.0, h.1)) t

counts_given : (most : ℕ) → 1 ≤ most → (o : Option Text) → IfSome (option_map (number_in most) o) (IsCount most)
counts_given most some None = tt
counts_given most some (Some t) = count_of most some t

-- when the journal is synced, as a word says it
sync_of : (t : Text) → IfSome (sync_in t) IsSync
sync_of t =
    elim (bytes_eq t (codes "round")) as (λ b. IfSome (if b then Some Round else if bytes_eq t (codes "never") then Some Never else seconds_in t) IsSync) [
      | true ↦ tt
      | false ↦ elim (bytes_eq t (codes "never")) as (λ b. IfSome (if b then Some Never else seconds_in t) IsSync) [
        | true ↦ tt
        | false ↦ seconds_of t
      ]
    ]

or_round : (o : Option Sync) → IfSome o IsSync → IsSync (unwrap_or o Round)
or_round None h = tt
or_round (Some s) h = h

sync_word : (o : Option Text) → IsSync (option_map_or (λ t. unwrap_or (sync_in t) Round) o Round)
sync_word None = tt
sync_word (Some t) = or_round (sync_in t) (sync_of t)

served-in_range : (rows : List Row) → IsInRange (served rows)
served-in_range rows = (
  count_given 1024 64 (omega arith, omega arith) (first_of (codes "clients") rows),
  counts_given most_clients (omega arith) (first_of (codes "tenant-clients") rows),
  count_given most_clients 8 (omega arith, omega arith) (first_of (codes "share") rows),
  count_given most_count most_count (omega arith, omega arith) (first_of (codes "connections") rows),
  count_given most_count 10 (omega arith, omega arith) (first_of (codes "login") rows),
  counts_given most_count (omega arith) (first_of (codes "idle") rows),
  counts_given most_count (omega arith) (first_of (codes "turn") rows),
  counts_given most_megabytes (omega arith) (first_of (codes "reserve") rows),
  sync_word (first_of (codes "sync") rows),
  count_given most_segment 64 (omega arith, omega arith) (first_of (codes "segment") rows),
)

in_range : (run compact repair journal : Bool) (a b c d e : Job) → IsInRange a → IsInRange b → IsInRange c → IsInRange d → IsInRange e
    → IsInRange (if run then a else if compact then b else if repair then c else if journal then d else e)
in_range true compact repair journal a b c d e h i j k l = h
in_range false true repair journal a b c d e h i j k l = i
in_range false false true journal a b c d e h i j k l = j
in_range false false false true a b c d e h i j k l = k
in_range false false false false a b c d e h i j k l = l

pub job_at-in_range : (job : Job) (name : Text) (rows : List Row) → job ≡ job_at name rows → IsInRange job
job_at-in_range job name rows e =
    let P : Job → Type 0 = λ j. IsInRange j in
    subst P (sym e) (in_range (bytes_eq name (codes "run")) (bytes_eq name (codes "compact")) (bytes_eq name (codes "repair")) (bytes_eq name (codes "journal"))
    _ _ _ _ _ tt tt tt tt (served-in_range rows))

among_moved : (j k : ErrorKind) (kinds : Kinds) → IsAmong k kinds → IsAmong j (k ∷ []) → IsAmong j kinds
among_moved j k kinds h (inl e) = let P : ErrorKind → Type 0 = λ i. IsAmong i kinds in subst P (sym e) h
among_moved j k kinds h (inr bad) = absurd bad

-- what stops for one kind stops for kinds that have it
pub StopsBy-among : (k : ErrorKind) (kinds : Kinds) (s : Refusal) → IsAmong k kinds → StopsBy (k ∷ []) s → StopsBy kinds s
StopsBy-among k kinds (Help text) h (inl e) = inl (among_moved kind.DisplayHelp k kinds h e)
StopsBy-among k kinds (Help text) h (inr e) = inr (among_moved kind.DisplayVersion k kinds h e)
StopsBy-among k kinds (Usage text) h s = (s.0, among_moved s.0 k kinds h s.1, s.2, s.3)
StopsBy-among k kinds Memory h s = tt

pub StopsBy-memory : (kinds : Kinds) (s : Refusal) → s ≡ Memory → StopsBy kinds s
StopsBy-memory kinds s e = let P : Refusal → Type 0 = λ t. StopsBy kinds t in subst P (sym e) tt

-- what stops for the first faults stops for these or otherwise others
pub StopsBy-first : (a b : Kinds) (s : Refusal) → StopsBy a s → StopsBy (or_else a b) s
StopsBy-first [] b (Help text) (inl bad) = absurd bad
StopsBy-first [] b (Help text) (inr bad) = absurd bad
StopsBy-first [] b (Usage text) s = absurd s.1
StopsBy-first [] b Memory s = tt
StopsBy-first (k ∷ ks) b s h = h

-- a usage text stops for the faults of options
pub usage-stops : (kinds : Kinds) (s : Refusal) → IsUsage s → IsOptionFault kinds → StopsBy kinds s
usage-stops kinds (Help text) bad h = absurd bad
usage-stops kinds (Usage text) u (inl e) =
    let P : Kinds → Type 0 = λ k. StopsBy k (Usage text) in subst P (sym e) (kind.ValueValidation, inl refl, (λ auto. cc), (λ auto. cc))
usage-stops kinds (Usage text) u (inr (inl e)) =
    let P : Kinds → Type 0 = λ k. StopsBy k (Usage text) in subst P (sym e) (kind.MissingRequiredArgument, inl refl, (λ auto. cc), (λ auto. cc))
usage-stops kinds (Usage text) u (inr (inr e)) =
    let P : Kinds → Type 0 = λ k. StopsBy k (Usage text) in subst P (sym e) (kind.ArgumentConflict, inl refl, (λ auto. cc), (λ auto. cc))
usage-stops kinds Memory u h = tt

-- the first of some faults is the first of these and others
pub first-fault : (a b : Kinds) → IsOptionFault a → IsOptionFault (or_else a b)
first-fault a b (inl e) = let P : Kinds → Type 0 = λ k. IsOptionFault (or_else k b) in subst P (sym e) (inl refl)
first-fault a b (inr (inl e)) = let P : Kinds → Type 0 = λ k. IsOptionFault (or_else k b) in subst P (sym e) (inr (inl refl))
first-fault a b (inr (inr e)) = let P : Kinds → Type 0 = λ k. IsOptionFault (or_else k b) in subst P (sym e) (inr (inr refl))

-- without these the others are the first
pub later-fault : (a b : Kinds) → a ≡ [] → IsOptionFault b → IsOptionFault (or_else a b)
later-fault a b e h = let P : Kinds → Type 0 = λ k. IsOptionFault (or_else k b) in subst P (sym e) h

-- worked rows: two command lines that give jobs, and one that does not
taken-run : takes judyd_app (codes "run" ∷ codes "--words" ∷ []) ≡ true
unfolding clap_on_literals
taken-run = refl

job-run : job_of (subcommand_of judyd_app (codes "run" ∷ codes "--words" ∷ [])) ≡ Some (Run true false)
unfolding clap_on_literals
job-run = refl

job-batch : job_of (subcommand_of judyd_app (codes "run" ∷ codes "--batch" ∷ [])) ≡ Some (Run false true)
unfolding clap_on_literals
job-batch = refl

taken-serve : takes judyd_app (codes "serve" ∷ codes "--config" ∷ codes "c" ∷ codes "--socket" ∷ codes "s" ∷ []) ≡ true
unfolding clap_on_literals
taken-serve = refl

job-serve : job_of (subcommand_of judyd_app (codes "serve" ∷ codes "--config" ∷ codes "c" ∷ codes "--socket" ∷ codes "s" ∷ []))
    ≡ Some (Serve (codes "c") (codes "s") None None 64 None 8 4294967295 10 None None None None Round 64 false false)
unfolding clap_on_literals
job-serve = refl

job-status : job_of (subcommand_of judyd_app (codes "serve" ∷ codes "--config" ∷ codes "c" ∷ codes "--socket" ∷ codes "s" ∷ codes "--status" ∷ codes "t" ∷ []))
    ≡ Some (Serve (codes "c") (codes "s") (Some (codes "t")) None 64 None 8 4294967295 10 None None None None Round 64 false false)
unfolding clap_on_literals
job-status = refl

job-reserve : job_of (subcommand_of judyd_app (codes "serve" ∷ codes "--config" ∷ codes "c" ∷ codes "--socket" ∷ codes "s" ∷ codes
    "--reserve" ∷ codes "64" ∷ [])) ≡ Some (Serve (codes "c") (codes "s") None None 64 None 8 4294967295 10 None None (Some 64) None Round 64 false false)
unfolding clap_on_literals
job-reserve = refl

job-tenant-clients : job_of (subcommand_of judyd_app (codes "serve" ∷ codes "--config" ∷ codes "c" ∷ codes "--socket" ∷ codes "s" ∷ codes
    "--tenant-clients" ∷ codes "3" ∷ [])) ≡ Some (Serve (codes "c") (codes "s") None None 64 (Some 3) 8 4294967295 10 None None None None Round 64 false false)
unfolding clap_on_literals
job-tenant-clients = refl

job-share : job_of (subcommand_of judyd_app (codes "serve" ∷ codes "--config" ∷ codes "c" ∷ codes "--socket" ∷ codes "s" ∷ codes
    "--share" ∷ codes "3" ∷ [])) ≡ Some (Serve (codes "c") (codes "s") None None 64 None 3 4294967295 10 None None None None Round 64 false false)
unfolding clap_on_literals
job-share = refl

refused-more-than-all-clients : fault_of judyd_app (codes "serve" ∷ codes "--config" ∷ codes "c" ∷ codes "--socket" ∷ codes "s" ∷ codes
    "--tenant-clients" ∷ codes "1025" ∷ []) ≡ kind.ValueValidation ∷ []
unfolding clap_on_literals
refused-more-than-all-clients = refl

refused-more-than-an-arena : fault_of judyd_app (codes "serve" ∷ codes "--config" ∷ codes "c" ∷ codes "--socket" ∷ codes "s" ∷ codes
    "--reserve" ∷ codes "131073" ∷ []) ≡ kind.ValueValidation ∷ []
unfolding clap_on_literals
refused-more-than-an-arena = refl

refused-zero : fault_of judyd_app (codes "serve" ∷ codes "--config" ∷ codes "c" ∷ codes "--socket" ∷ codes "s" ∷ codes
    "--connections" ∷ codes "0" ∷ []) ≡ kind.ValueValidation ∷ []
unfolding clap_on_literals
refused-zero = refl

refused-nothing : fault_of judyd_app [] ≡ kind.MissingSubcommand ∷ []
unfolding clap_on_literals
refused-nothing = refl

-- with a journal
abbrev serve-words : Text → Text → List Text
serve-words dir when = codes "serve" ∷ codes "--config" ∷ codes "c" ∷ codes "--socket" ∷ codes "s" ∷ codes "--journal" ∷ dir ∷ codes "--sync" ∷ when ∷ []

job-journal : job_of (subcommand_of judyd_app (serve-words (codes "d") (codes "5")))
    ≡ Some (Serve (codes "c") (codes "s") None None 64 None 8 4294967295 10 None None None (Some (codes "d")) (Seconds 5) 64 false false)
unfolding clap_on_literals
job-journal = refl

refused-sync : words_fault (serve-words (codes "d") (codes "0")) ≡ kind.ValueValidation ∷ []
unfolding clap_on_literals
refused-sync = refl

refused-sync-alone : words_fault (codes "serve" ∷ codes "--config" ∷ codes "c" ∷ codes "--socket" ∷ codes "s" ∷ codes "--sync" ∷ codes "never" ∷ [])
    ≡ kind.MissingRequiredArgument ∷ []
unfolding clap_on_literals
refused-sync-alone = refl

job-segment : job_of (subcommand_of judyd_app (codes "serve" ∷ codes "--config" ∷ codes "c" ∷ codes "--socket" ∷ codes "s" ∷ codes
    "--journal" ∷ codes "d" ∷ codes "--segment" ∷ codes "1" ∷ []))
    ≡ Some (Serve (codes "c") (codes "s") None None 64 None 8 4294967295 10 None None None (Some (codes "d")) Round 1 false false)
unfolding clap_on_literals
job-segment = refl

refused-no-segment : fault_of judyd_app (codes "serve" ∷ codes "--config" ∷ codes "c" ∷ codes "--socket" ∷ codes "s" ∷ codes
    "--journal" ∷ codes "d" ∷ codes "--segment" ∷ codes "0" ∷ []) ≡ kind.ValueValidation ∷ []
unfolding clap_on_literals
refused-no-segment = refl

refused-segment-alone : words_fault (codes "serve" ∷ codes "--config" ∷ codes "c" ∷ codes "--socket" ∷ codes "s" ∷ codes "--segment" ∷ codes "1" ∷ [])
    ≡ kind.MissingRequiredArgument ∷ []
unfolding clap_on_literals
refused-segment-alone = refl

job-compact : job_of (subcommand_of judyd_app (codes "compact" ∷ codes "d" ∷ [])) ≡ Some (Compact (codes "d"))
unfolding clap_on_literals
job-compact = refl

job-print : job_of (subcommand_of judyd_app (codes "journal" ∷ codes "--tenant" ∷ codes "alice" ∷ codes "d" ∷ []))
    ≡ Some (Journal (codes "d") (Some (codes "alice")) false false)
unfolding clap_on_literals
job-print = refl

job-repair : job_of (subcommand_of judyd_app (codes "repair" ∷ codes "--yes" ∷ codes "d" ∷ [])) ≡ Some (Repair (codes "d") true false)
unfolding clap_on_literals
job-repair = refl

refused-no-directory : fault_of judyd_app (codes "compact" ∷ []) ≡ kind.MissingRequiredArgument ∷ []
unfolding clap_on_literals
refused-no-directory = refl

job-new : job_of (subcommand_of judyd_app (codes "journal" ∷ codes "--new" ∷ codes "d" ∷ [])) ≡ Some (Journal (codes "d") None true false)
unfolding clap_on_literals
job-new = refl

job-new-journal : job_of (subcommand_of judyd_app (codes "serve" ∷ codes "--config" ∷ codes "c" ∷ codes "--socket" ∷ codes "s" ∷ codes
    "--new-journal" ∷ codes "--journal" ∷ codes "d" ∷ []))
    ≡ Some (Serve (codes "c") (codes "s") None None 64 None 8 4294967295 10 None None None (Some (codes "d")) Round 64 true false)
unfolding clap_on_literals
job-new-journal = refl

refused-new-alone : words_fault (codes "serve" ∷ codes "--config" ∷ codes "c" ∷ codes "--socket" ∷ codes "s" ∷ codes "--new-journal" ∷ [])
    ≡ kind.MissingRequiredArgument ∷ []
unfolding clap_on_literals
refused-new-alone = refl

refused-two : words_fault (codes "journal" ∷ codes "--new" ∷ codes "--check" ∷ codes "d" ∷ []) ≡ kind.ArgumentConflict ∷ []
unfolding clap_on_literals
refused-two = refl
