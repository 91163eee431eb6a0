-- What the operator asks for, one question after another, and how each is answered.
--     Stage                    where the answering of a question is
--     stage_since stage story  where it is after these moments
--     AreAsked stage story     each question is answered before the server waits again, and each answer
--                              answers a question
use Rattle.std.specs.Prelude.{◌≡◌, ℕ, ◌+◌, Bool, true, false, List, [], ◌∷◌}
use Rattle.judy_many.specs.declared.network.How.{How}
use Rattle.judy_many.specs.declared.network.How.TheVariants as how
use Rattle.judy_many.specs.declared.network.Question.{Question}
use Rattle.judy_many.specs.declared.network.Question.TheVariants as question
use Rattle.judy_many.specs.declared.serve.Ending.{Ending}
use Rattle.judy_many.specs.declared.serve.Ending.TheVariants as ending
use Rattle.judy_many.specs.Nets.{Act}
use Rattle.judy_many.specs.Nets.Act.{Closed, Waited, Lost, Questioned, Reported, Tabled, Untabled, Named, Replied}
use Rattle.judy_many.specs.Stories.{Moment, Story}
use Rattle.judy_many.specs.Stories.Moment.{Changed, Did, Ran}

-- nothing is asked; this is asked; then the file of the table or the order was read, or could not be; then a
-- new table was put in force, or the order was carried out; or a tenant was named
pub data Stage : Type 0 where
  Unasked : Stage
  Asks : Question → Stage
  Fetched : Stage
  Renewed : Stage
  Chosen : Stage

-- it is asked that the table is read again or a tenant is frozen or thawed, and that connections of a tenant
-- are closed
abbrev pub asks_reload : Stage
asks_reload = Stage.Asks question.Reload

abbrev pub asks_kick : Stage
asks_kick = Stage.Asks question.Kick

-- where it is after an answer of the system
abbrev pub stage_by : Stage → Act → Stage
stage_by stage (Questioned q) = Stage.Asks q
stage_by stage (Reported text) = Stage.Unasked
stage_by stage (Replied text) = Stage.Unasked
stage_by stage (Tabled text) = Stage.Fetched
stage_by stage Untabled = Stage.Fetched
stage_by stage (Named name) = Stage.Chosen
stage_by stage act = stage

-- after a moment, and after a story
abbrev pub stage_after : Stage → Moment → Stage
stage_after stage (Did a) = stage_by stage a
stage_after stage (Ran n turns) = stage
stage_after stage (Changed text left) = Stage.Renewed

abbrev pub stage_since : Stage → Story → Stage
stage_since stage [] = stage
stage_since stage (m ∷ story) = stage_since (stage_after stage m) story

-- the text was read, and it was put in force, or was not
abbrev pub read_stage : Bool → Stage
read_stage true = Stage.Renewed
read_stage false = Stage.Fetched

-- a reply comes after the file of the table was read, or after a tenant was named
abbrev pub MayReply : Stage → Type 0
MayReply Stage.Fetched = Unit {0}
MayReply Stage.Renewed = Unit {0}
MayReply Stage.Chosen = Unit {0}
MayReply other = ⊥

-- a connection is closed since its speaker is gone only after a new table was put in force
abbrev pub MayClose : Stage → How → Type 0
MayClose stage how.Gone = stage ≡ Stage.Renewed
MayClose stage other = Unit {0}

-- What may come at a stage. Nothing else is asked and the server does not wait until a question is answered;
-- a status is told only to one who asks for it; the file of the table is read, and a tenant is named, only
-- where that is asked for.
abbrev pub MayDo : Stage → Act → Type 0
MayDo stage (Closed n how) = MayClose stage how
MayDo stage (Waited sleeps told) = stage ≡ Stage.Unasked
MayDo stage Lost = stage ≡ Stage.Unasked
MayDo stage (Questioned q) = stage ≡ Stage.Unasked
MayDo stage (Reported text) = stage ≡ Stage.Asks question.Status
MayDo stage (Tabled text) = stage ≡ asks_reload
MayDo stage Untabled = stage ≡ asks_reload
MayDo stage (Named name) = stage ≡ asks_kick
MayDo stage (Replied text) = MayReply stage
MayDo stage act = Unit {0}

-- a table is put in force only after the file was read
abbrev pub MayFollow : Stage → Moment → Type 0
MayFollow stage (Did a) = MayDo stage a
MayFollow stage (Ran n turns) = Unit {0}
MayFollow stage (Changed text left) = stage ≡ Stage.Fetched

abbrev pub AreAsked : Stage → Story → Type 0
AreAsked stage [] = Unit {0}
AreAsked stage (m ∷ story) = MayFollow stage m × AreAsked (stage_after stage m) story

-- where the journal fails, nothing is asked, or a new table was just put in force
abbrev pub MayFail : Stage → Type 0
MayFail Stage.Unasked = Unit {0}
MayFail Stage.Renewed = Unit {0}
MayFail other = ⊥

-- No question is left without its answer, but the one for a stop, which ends the server, and the one for a table
-- whose record the journal does not take, which ends it too.
abbrev pub IsLastStage : Ending → Stage → Type 0
IsLastStage ending.Stopped stage = stage ≡ Stage.Asks question.Stop
IsLastStage ending.Journal stage = MayFail stage
IsLastStage other stage = stage ≡ Stage.Unasked

-- how often a connection was closed since its speaker is gone
abbrev pub gone_how : How → ℕ
gone_how how.Gone = 1
gone_how other = 0

abbrev pub gones_by : Act → ℕ
gones_by (Closed n how) = gone_how how
gones_by act = 0

abbrev pub gones_in : List Act → ℕ
gones_in [] = 0
gones_in (a ∷ acts) = gones_by a + gones_in acts
