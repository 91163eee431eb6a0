-- What a connection sent and is not heard yet.
use Rattle.std.specs.Prelude.{ℕ, Bool, List}

-- its bytes, and whether more may wait to be read
pub record Intake : Type 0 where
  pub waiting : List ℕ
  pub more : Bool
