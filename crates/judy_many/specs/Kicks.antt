-- Connections that the operator closes, by the tenant that speaks on them.
--     speaks_as names name who        the tenant of this name speaks
--     after_kick test slot            what is left of a slot's client, where those who pass the test are closed
--     kick_acts test slots            the answers of the system: each of them is closed, slot by slot
--     HasName names name              a tenant has this name
--     HasKicked ..                    what the server did when it was asked to
use Rattle.std.specs.Prelude.{◌≡◌, ℕ, Bool, true, false, List, [], ◌∷◌, ◌++◌, Option, Some, None, codes, decimal, if◌then◌else◌, length, map}
use Rattle.std.specs.Str.{bytes_eq}
use Rattle.judy_model.specs.Speakers.{Speaker}
use Rattle.judy_many.specs.Lives.{View}
use Rattle.judy_many.specs.Nets.{Act, Acts, DidLog}
use Rattle.judy_many.specs.Nets.Act.{Closed, Named, Replied}
use Rattle.judy_many.specs.declared.network.How.TheVariants as how

-- the tenant of this name speaks
abbrev pub speaks_as : (ℕ → List ℕ) → List ℕ → Option Speaker → Bool
speaks_as names name None = false
speaks_as names name (Some who) = bytes_eq (names who.tenant) name

-- a client whose speaker passes the test is closed, and any other stays as it is
abbrev pub after_kick : (Option Speaker → Bool) → Option View → Option View
after_kick test None = None
after_kick test (Some v) = if test v.who then None else Some v

abbrev pub kick_act : (Option Speaker → Bool) → Option View → List Act
kick_act test None = []
kick_act test (Some v) = if test v.who then Closed v.number how.Kicked ∷ [] else []

abbrev pub kick_acts : (Option Speaker → Bool) → List (Option View) → List Act
kick_acts test [] = []
kick_acts test (slot ∷ slots) = kick_act test slot ++ kick_acts test slots

-- what the asker is answered: how many were closed, if the table has the tenant
abbrev pub kick_reply : Bool → ℕ → List ℕ
kick_reply true n = codes "OK " ++ decimal n ++ 10 ∷ []
kick_reply false n = codes "ERR TENANT\n"

-- a tenant has this name
abbrev pub HasName : (ℕ → List ℕ) → List ℕ → Type 0
HasName names name = (t : ℕ) × (names t ≡ name)

-- The question named a tenant. The connections on which it speaks were closed, and no others. Then the
-- asker was answered, by whether there is such a tenant.
pub record HasKicked (names : ℕ → List ℕ) (slots slots' : List (Option View)) (log log' : Acts) : Type 0 where
  pub name : List ℕ
  pub has : Bool
  pub yes : has ≡ true → HasName names name
  pub no : has ≡ false → HasName names name → name ≡ []
  pub closed : slots' ≡ map (after_kick (speaks_as names name)) slots
  pub logged : DidLog log (Named name ∷ kick_acts (speaks_as names name) slots ++ Replied (kick_reply has (length (kick_acts (speaks_as names name) slots))) ∷ []) log'
