-- What a half of a round did, by how the client goes on.
use Rattle.std.specs.Prelude.{◌≡◌, true, false, ◌++◌, Option, Some, None}
use Rattle.judy_many.specs.declared.client.Fate.{Fate}
use Rattle.judy_many.specs.declared.client.Fate.TheVariants as fate
use Rattle.judy_many.specs.declared.network.How.{How}
use Rattle.judy_many.specs.declared.serve.Limits.{Limits}
use Rattle.judy_many.specs.Lives.{HearsWhenReady, IsOrdered, IsReason, IsWhole, Lives, View, end_well, is_orderly}
use Rattle.judy_many.specs.Stories.{IsAllowed, Story, acts_in, came_in, closed_in, turns_in}

-- the client stays
abbrev pub Stays : View → View → Story → Type 0
Stays v w more = (story : Story) → Lives story v → Lives (story ++ more) w

-- the client is to be closed, for this reason
pub record IsLeft (how : How) (story : Story) : Type 0 where
  pub order : IsOrdered story
  pub ready : HearsWhenReady story
  pub whole : is_orderly how ≡ true → IsWhole (acts_in story) (turns_in story)
  pub stays : end_well (acts_in story) ≡ false
  pub why : IsReason how (acts_in story) (turns_in story)
  pub came : came_in (acts_in story) ≡ 1
  pub unclosed : closed_in (acts_in story) ≡ 0

abbrev pub Leaves : How → View → Story → Type 0
Leaves how v more = (story : Story) → Lives story v → IsLeft how (story ++ more)

-- the same, for a reason that needs no limit
abbrev pub Ends : How → View → Story → Type 0
Ends how v more = ((limits : Limits) → IsAllowed limits how) × Leaves how v more

abbrev pub FateGoes : Fate → View → View → Story → Type 0
FateGoes fate.Ready v w more = Stays v w more
FateGoes fate.Drained v w more = Stays v w more
FateGoes fate.Blocked v w more = Stays v w more
FateGoes (fate.Ends how) v w more = Ends how v more

-- after the first half of a round: the client stays, or is to be closed
abbrev pub HeardGoes : Option How → View → View → Story → Type 0
HeardGoes None v w more = Stays v w more
HeardGoes (Some how) v w more = Ends how v more
