-- What an accept did to a free slot.
use Rattle.std.specs.Prelude.{◌≡◌, ℕ, Bool, true, false, [], ◌∷◌, Option, Some, None}
use Rattle.judy_many.specs.Books.{Journal}
use Rattle.judy_many.specs.declared.serve.Limits.{Limits}
use Rattle.judy_many.specs.Endings.{lost_in, reports_in, waits_in}
use Rattle.judy_many.specs.Journaling.{Carries}
use Rattle.judy_many.specs.Nets.Act.{Came}
use Rattle.judy_many.specs.Lives.{IsServed, Lives, View}
use Rattle.judy_many.specs.Questions.{AreAsked, Stage, gones_in, stage_since}
use Rattle.judy_many.specs.Stories.{AreWithin, Phase, InPhase, Mine, Share, Story, acts_in, came_in, changes_in, closed_in, own, times, turns_in}
use Rattle.judy_many.specs.Stories.Moment.{Did}

-- what an accept may do: no line is run, and nothing is read or written
pub record IsArrival (came closed : ℕ) (more : Story) : Type 0 where
  pub came_is : came_in (acts_in more) ≡ came
  pub closed_is : closed_in (acts_in more) ≡ closed
  pub within : (limits : Limits) → AreWithin limits (acts_in more)
  pub none : turns_in more ≡ []
  pub silent : (share : Share) → times share more ≡ 0
  pub waited : waits_in (acts_in more) ≡ 0
  pub unlost : lost_in (acts_in more) ≡ 0
  pub untold : reports_in (acts_in more) ≡ 0
  pub stay : gones_in (acts_in more) ≡ 0
  pub unasked : (stage : Stage) → AreAsked stage more × (stage_since stage more ≡ stage)
  pub part : InPhase Phase.Reads more
  pub unchanged : changes_in more ≡ []
  pub unkept : (j : Option Journal) → Carries j more j

-- nothing of a client was heard, and nothing is to be written to it
pub record IsNew (w : View) : Type 0 where
  pub waiting : w.waiting ≡ []
  pub pending : w.pending ≡ []

-- a client of this number came, and is in the slot; or it came and was closed; or none came
abbrev pub Arrives : ℕ → ℕ → Bool → Option View → Story → Type 0
Arrives id at true (Some w) more = IsArrival 1 0 more × (w.number ≡ id) × (more ≡ Did (Came id at) ∷ []) × IsNew w × Mine id more × Lives more w
Arrives id at true None more = IsArrival 1 1 more × Mine id more × IsServed more
Arrives id at false (Some w) more = ⊥
Arrives id at false None more = IsArrival 0 0 more × ((n : ℕ) → own n more ≡ [])
