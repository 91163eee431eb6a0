-- The answer to a wait.
use Rattle.std.specs.Prelude.{Bool, List, [], ℕ, Option, Some, None}
use Rattle.judy_many.specs.Nets.{Acts, DidLog, wait_acts}
use Rattle.judy_many.specs.Queues.{AreAwake, Line}

-- the system told of some slots, where its answers are known, and each of them is awake
abbrev pub HasWoken : Option Bool → Bool → Line → Acts → Acts → Type 0
HasWoken result sleeps line None log' = DidLog None [] log'
HasWoken result sleeps line (Some log) log' = (told : List ℕ) × AreAwake told line × DidLog (Some log) (wait_acts result sleeps told) log'
