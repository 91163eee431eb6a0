-- What was read of a journal's files, and played.
--     HasPlayed plays holds text commits bytes old r new   the commits in these bytes were played
--     ReadsOn plays r bytes old r' new                      the same, whatever was read before
--     ReadsAll plays left left' r old r' new                a source was read to its end
--     Breaks plays damage r bytes old r' new                the commits before this damage were played
--     HasReadLast plays left left' found ..                 a source was read to its end, with its notes, up to its first damage
--     len_of_lines n bytes                                  where the line after the first n begins
--     IsUnplayed whole records at                           the reading stops at a record that was not played
use Rattle.std.specs.Prelude.{◌≡◌, ℕ, zero, suc, ◌+◌, ◌-◌, ◌^◌, ◌==◌, List, [], ◌∷◌, ◌++◌, length, min, if◌then◌else◌, Option, Some, None}
use Rattle.std.specs.Io.KnownBytes.{Consumes, IsAtEnd}
use Rattle.judy_journal.specs.Acts.{Left}
use Rattle.judy_journal.specs.Journals.{Commit}
use Rattle.judy_journal.specs.Journals.{sum_at}
use Rattle.judy_journal.specs.Noting.{HasSeen, Noting}
use Rattle.judy_journal.specs.Recovered.{AreAllFound, IsRecovered, IsUnpacked, Recovering}
use Rattle.judy_journal.specs.Recoveries.{IsDamaged}
use Rattle.judy_journal.specs.Writes.{all_records}
use Rattle.judy_journal.specs.declared.damage.Damage.{Damage}
use Rattle.judy_model.specs.Stream.{lines_of}
use Rattle.judy_recovery.specs.declared.faults.Flaw.TheVariants as flaws
use Rattle.judy_recovery.specs.declared.player.Halt.{Halt}
use Rattle.judy_recovery.specs.declared.pieces.Damaged.{Damaged}
use Rattle.judy_recovery.specs.declared.pieces.Stop.{Stop}
use Rattle.judy_recovery.specs.declared.pieces.Stop.TheVariants as stop

-- These bytes were read behind this text, which has these commits. The commits that became whole in
-- them are all commits that are found there, and exactly their records were played, in order.
pub record HasPlayed {P : Type 0} (plays : P → List (List ℕ) → P → Type 0) (holds : List ℕ → List Commit → Recovering → Type 0)
    (text : List ℕ) (commits : List Commit) (bytes : List ℕ) (old : P) (r : Recovering) (new : P) : Type 0 where
  pub more : List Commit
  pub read : holds (text ++ bytes) (commits ++ more) r
  pub played : plays old (all_records more) new

-- These bytes were read, of segments or of a snapshot, and their whole commits were played, whatever
-- was read before them.
pub record ReadsOn {P : Type 0} (plays : P → List (List ℕ) → P → Type 0)
    (before : Recovering) (bytes : List ℕ) (old : P) (after : Recovering) (new : P) : Type 0 where
  pub segments : (segment : ℕ) (sum : List ℕ) (done : List Left) (text : List ℕ) (commits : List Commit)
      → IsRecovered segment sum done text commits before → HasPlayed plays (IsRecovered segment sum done) text commits bytes old after new
  pub snapshot : (segment : ℕ) (sum : List ℕ) (text : List ℕ) (commits : List Commit)
      → IsUnpacked segment sum text commits before → HasPlayed plays (IsUnpacked segment sum) text commits bytes old after new

-- a source was read to its end, and what it gave was read on
pub record ReadsAll {P : Type 0} (plays : P → List (List ℕ) → P → Type 0)
    (left left' : Option (List ℕ)) (before : Recovering) (old : P) (after : Recovering) (new : P) : Type 0 where
  pub bytes : List ℕ
  pub given : Consumes left left' bytes
  pub ended : IsAtEnd left'
  pub reads : ReadsOn plays before bytes old after new

-- ---- damage

-- the reading stops with this damage, unless it is told as a flaw of another kind
abbrev pub IsStopAt : Damage → Stop → Type 0
IsStopAt damage (stop.Damaged found) = found.damage ≡ damage
IsStopAt damage (stop.Flaw byte flaw) = Unit {0}
IsStopAt damage stop.Fault = Unit {0}

-- it stops without damage
abbrev pub IsNoDamage : Stop → Type 0
IsNoDamage (stop.Damaged found) = ⊥
IsNoDamage (stop.Flaw byte flaw) = Unit {0}
IsNoDamage stop.Fault = Unit {0}

-- ---- a record that was not played

-- How many bytes the first n lines have, with their line feeds. If there are fewer, all bytes.
abbrev pub len_of_lines : ℕ → List ℕ → ℕ
len_of_lines zero bytes = 0
len_of_lines (suc n) [] = 0
len_of_lines (suc n) (b ∷ bytes) = suc (len_of_lines (if b == 10 then n else suc n) bytes)

-- A front of these records was played. The stop is a flaw at the byte where the next one begins, behind the bytes
-- that were whole; and it has the player's reason.
pub record IsUnplayed (whole : ℕ) (records : List (List ℕ)) (at : Stop) : Type 0 where
  pub halt : Halt
  pub text : List ℕ
  pub text_is : lines_of text ≡ records
  pub is : at ≡ stop.Flaw (min (whole + len_of_lines halt.played text) (2 ^ 64 - 1)) (flaws.Unplayed halt.why)

-- ---- damage behind what was read

-- the file after these whole files has this text, and it is damaged; these are the commits up to there
abbrev pub IsDamagedFile : Damage → ℕ → List ℕ → List Left → List Commit → List ℕ → Type 0
IsDamagedFile damage segment sum done commits text = (before : List Commit) × (here : List Commit) × (commits ≡ before ++ here)
    × IsDamaged damage (segment + length done + 1) (sum_at sum before) text

-- Of these bytes behind a text a front was read, and its whole commits were played. With all of them the text is
-- damaged, and no further whole commit comes next.
pub record HasBroken {P : Type 0} (plays : P → List (List ℕ) → P → Type 0) (damage : Damage) (segment : ℕ) (sum : List ℕ) (done : List Left)
    (text : List ℕ) (commits : List Commit) (bytes : List ℕ) (old : P) (r : Recovering) (new : P) : Type 0 where
  pub used : List ℕ
  pub rest : List ℕ
  pub cut : used ++ rest ≡ bytes
  pub more : List Commit
  pub read : IsRecovered segment sum done (text ++ used) (commits ++ more) r
  pub played : plays old (all_records more) new
  pub damaged : IsDamagedFile damage segment sum done (commits ++ more) (text ++ bytes)
  pub alone : AreAllFound segment sum done text (commits ++ more) bytes r rest

-- the same, whatever was read before
abbrev pub Breaks : {P : Type 0} → (P → List (List ℕ) → P → Type 0) → Damage → Recovering → List ℕ → P → Recovering → P → Type 0
Breaks plays damage before bytes old after new = (segment : ℕ) (sum : List ℕ) (done : List Left) (text : List ℕ) (commits : List Commit)
    → IsRecovered segment sum done text commits before → HasBroken plays damage segment sum done text commits bytes old after new

abbrev pub MayBreak : {P : Type 0} → (P → List (List ℕ) → P → Type 0) → Stop → Recovering → List ℕ → P → Recovering → P → Type 0
MayBreak plays (stop.Damaged found) before bytes old after new = Breaks plays found.damage before bytes old after new
MayBreak plays (stop.Flaw byte flaw) before bytes old after new = Unit {0}
MayBreak plays stop.Fault before bytes old after new = Unit {0}

-- these bytes were read, up to this damage if there is some
abbrev pub ReadsUpTo : {P : Type 0} → (P → List (List ℕ) → P → Type 0) → Option Damaged → Recovering → List ℕ → P → Recovering → P → Type 0
ReadsUpTo plays None before bytes old after new = ReadsOn plays before bytes old after new
ReadsUpTo plays (Some found) before bytes old after new = (seen : List ℕ) × (more : List ℕ) × (seen ++ more ≡ bytes)
    × Breaks plays found.damage before seen old after new

-- more bytes were read, unless there was damage before them
abbrev pub ReadsNext : {P : Type 0} → (P → List (List ℕ) → P → Type 0) → Option Damaged → Option Damaged → Recovering → List ℕ → P → Recovering → P → Type 0
ReadsNext plays None next before bytes old after new = ReadsUpTo plays next before bytes old after new
ReadsNext plays (Some found) next before bytes old after new = (next ≡ Some found) × (after ≡ before) × (new ≡ old)

-- a source was read to its end, with all of its notes, and played up to this damage if there is some
pub record HasReadLast {P : Type 0} (plays : P → List (List ℕ) → P → Type 0) (left left' : Option (List ℕ)) (found : Option Damaged)
    (before : Recovering) (old : P) (notes : Noting) (after : Recovering) (new : P) (notes' : Noting) : Type 0 where
  pub bytes : List ℕ
  pub given : Consumes left left' bytes
  pub ended : IsAtEnd left'
  pub noted : (segment : ℕ) (text : List ℕ) → HasSeen segment text notes → HasSeen segment (text ++ bytes) notes'
  pub reads : ReadsUpTo plays found before bytes old after new
