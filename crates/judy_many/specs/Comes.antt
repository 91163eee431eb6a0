-- The answer to an accept.
use Rattle.std.specs.Prelude.{◌≡◌, ℕ, [], ◌∷◌}
use Rattle.judy_many.specs.Nets.{Acts, DidLog}
use Rattle.judy_many.specs.Nets.Act.{Came, Lost, Refused}
use Rattle.judy_many.specs.declared.network.Accept.{Accept}
use Rattle.judy_many.specs.declared.network.Accept.TheVariants as accept

-- a connection of this number came for this slot; or none did; or one could not be accepted; or none can
-- ever be
abbrev pub HasCome : {C : Type 0} → (C → ℕ) → Accept C → ℕ → ℕ → Acts → Acts → Type 0
HasCome number (accept.Came c) n slot log log' = (number c ≡ n) × DidLog log (Came n slot ∷ []) log'
HasCome number accept.Nothing n slot log log' = DidLog log [] log'
HasCome number accept.Later n slot log log' = DidLog log (Refused ∷ []) log'
HasCome number accept.Fault n slot log log' = DidLog log (Lost ∷ []) log'

-- the connection that came, if one did, has this number
abbrev pub HasNumber : {C : Type 0} → (C → ℕ) → Accept C → ℕ → Type 0
HasNumber number (accept.Came c) n = number c ≡ n
HasNumber number accept.Nothing n = Unit {0}
HasNumber number accept.Later n = Unit {0}
HasNumber number accept.Fault n = Unit {0}
