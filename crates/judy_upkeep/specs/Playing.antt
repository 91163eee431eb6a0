-- The records of a journal, which are played to a service of made-up tenants.
--     IsEmptied                the arrays of a tenant were asked for and freed, until there was none
--     Leaves, AreLeft          a tenant left, and tenants, one after another
--     PlaysCall                the call of a record was made
--     PlaysLeaving             the tenants that a record names left
--     Plays                    a record was played
--     ArePlayed                records, one after another
--     played-then              records, and then more
use Rattle.std.specs.Prelude.{◌≡◌, ◌<◌, ◌⊎◌, ℕ, zero, suc, true, List, [], ◌∷◌, ◌++◌, Option, Some, None, Ok, codes}
use Rattle.std.proofs.Common.{◌∙◌, subst}
use Rattle.judy_journal.specs.Journals.{HasNoSpace, record_of}
use Rattle.judy_journal.specs.Leaving.{gone_request}
use Rattle.judy_model.specs.Grammar.{is_name}
use Rattle.judy_model.specs.Speakers.{Speaker}
use Rattle.judy_protocol.specs.Services.{Made}
use Rattle.judy_upkeep.specs.Arrays.{TellsFirst}
use Rattle.judy_upkeep.specs.Asking.{Alters, Gives}
use Rattle.judy_upkeep.specs.Lines.{call_text}
use Rattle.judy_upkeep.specs.Tenants.{IsNumbered, Names, Stands, with_name}
use Rattle.judy_upkeep.specs.declared.asking.Came.TheVariants as what
use Rattle.judy_upkeep.specs.declared.kinds.Array.{Array}

-- ---- tenants who leave

-- the first array of a tenant was asked for, and all its entries removed, of which there were some
pub record FreesNext {S K : Type 0} (who : K → Speaker) (made : Made S) (speakers : List K) (tenant : ℕ) (old new : S) : Type 0 where
  pub array : Array
  pub mid : S
  pub told : TellsFirst who made speakers tenant (Ok (Some array)) old mid
  pub count : ℕ
  pub some : 0 < count
  pub freed : Gives who made speakers tenant (call_text array (codes "FA")) (Ok (what.Count count)) mid new

-- the same of so many arrays, one after another, and nothing else
abbrev pub AreFreed : {S K : Type 0} → (K → Speaker) → Made S → List K → ℕ → ℕ → S → S → Type 0
AreFreed who made speakers tenant zero old new = new ≡ old
AreFreed {S} {K} who made speakers tenant (suc count) old new = (mid : S)
    × AreFreed who made speakers tenant count old mid × FreesNext who made speakers tenant mid new

-- The arrays of a tenant were asked for and freed, until there was none any more.
pub record IsEmptied {S K : Type 0} (who : K → Speaker) (made : Made S) (speakers : List K) (tenant : ℕ) (old new : S) : Type 0 where
  pub count : ℕ
  pub mid : S
  pub freed : AreFreed who made speakers tenant count old mid
  pub none : TellsFirst who made speakers tenant (Ok None) mid new

-- the names when nobody has this number any more
abbrev pub without : Names → ℕ → Names
without names number = with_name names number None

-- All arrays of the tenant with this number were freed, and nobody has it any more. Without a number nothing is
-- done.
abbrev pub LeavesAt : {S K : Type 0} → (K → Speaker) → Made S → List K → Option ℕ → S → Names → S → Names → Type 0
LeavesAt who made speakers None old names new names' = (new ≡ old) × (names' ≡ names)
LeavesAt who made speakers (Some tenant) old names new names' =
    IsEmptied who made speakers tenant old new × (names' ≡ without names tenant)

-- A tenant of this name left. If nobody has the name, nothing is done.
pub record Leaves {S K : Type 0} (who : K → Speaker) (made : Made S) (speakers : List K) (name : List ℕ)
    (old : S) (names : Names) (new : S) (names' : Names) : Type 0 where
  pub named : is_name name ≡ true
  pub number : Option ℕ
  pub stands : Stands names name number
  pub left : LeavesAt who made speakers number old names new names'

-- The tenants of these names left, one after another, and nothing else was done.
abbrev pub AreLeft : {S K : Type 0} → (K → Speaker) → Made S → List K → List (List ℕ)
    → S → Names → S → Names → Type 0
AreLeft who made speakers [] old names new names' = (new ≡ old) × (names' ≡ names)
AreLeft {S} {K} who made speakers (name ∷ others) old names new names' = (mid : S) × (between : Names)
    × Leaves who made speakers name old names mid between × AreLeft who made speakers others mid between new names'

-- ---- records

-- The request says that tenants leave. They left: the one of this name first.
pub record PlaysLeaving {S K : Type 0} (who : K → Speaker) (made : Made S) (speakers : List K) (name request : List ℕ)
    (old : S) (names : Names) (new : S) (names' : Names) : Type 0 where
  pub others : List (List ℕ)
  pub gone : request ≡ gone_request others
  pub left : AreLeft who made speakers (name ∷ others) old names new names'

-- The tenant who stands for this name made the call of the request, and was given a number before if need be. Nothing
-- else was done.
pub record PlaysCall {S K : Type 0} (who : K → Speaker) (made : Made S) (speakers : List K) (name request : List ℕ)
    (old : S) (names : Names) (new : S) (names' : Names) : Type 0 where
  pub tenant : ℕ
  pub numbered : IsNumbered names name tenant names'
  pub altered : Alters who made speakers tenant request old new

-- A record was played.
pub record Plays {S K : Type 0} (who : K → Speaker) (made : Made S) (speakers : List K) (text : List ℕ)
    (old : S) (names : Names) (new : S) (names' : Names) : Type 0 where
  pub name : List ℕ
  pub request : List ℕ
  pub no_space : HasNoSpace name
  pub cut : text ≡ record_of name request
  pub plays : PlaysLeaving who made speakers name request old names new names'
      ⊎ PlaysCall who made speakers name request old names new names'

-- These records were played, one after another, and nothing else was done.
abbrev pub ArePlayed : {S K : Type 0} → (K → Speaker) → Made S → List K → List (List ℕ)
    → S → Names → S → Names → Type 0
ArePlayed who made speakers [] old names new names' = (new ≡ old) × (names' ≡ names)
ArePlayed {S} {K} who made speakers (text ∷ texts) old names new names' = (mid : S) × (between : Names)
    × Plays who made speakers text old names mid between × ArePlayed who made speakers texts mid between new names'

-- records, and then more, were played all together
pub played-append : {S K : Type 0} (who : K → Speaker) (made : Made S) (speakers : List K) (texts more : List (List ℕ))
    (old : S) (names : Names) (mid : S) (between : Names) (new : S) (names' : Names)
    → ArePlayed who made speakers texts old names mid between → ArePlayed who made speakers more mid between new names'
    → ArePlayed who made speakers (texts ++ more) old names new names'
played-append {S} {K} who made speakers [] more old names mid between new names' (one, two) next =
    subst (λ (v : Names). ArePlayed who made speakers more old v new names') two
    (subst (λ (v : S). ArePlayed who made speakers more v between new names') one next)
played-append who made speakers (text ∷ texts) more old names mid between new names' (m, b, first, rest) next =
    (m, b, first, played-append who made speakers texts more m b mid between new names' rest next)

-- the same of players, whose speakers stay
pub played-then : {S K : Type 0} (who : K → Speaker) (made : Made S) (speakers speakers' speakers'' : List K)
    (texts more : List (List ℕ)) (old : S) (names : Names) (mid : S) (between : Names) (new : S) (names' : Names)
    → speakers' ≡ speakers → ArePlayed who made speakers texts old names mid between
    → speakers'' ≡ speakers' → ArePlayed who made speakers' more mid between new names'
    → (speakers'' ≡ speakers) × ArePlayed who made speakers (texts ++ more) old names new names'
played-then {K = K} who made speakers speakers' speakers'' texts more old names mid between new names' s first s' second = (
  s' ∙ s,
  played-append who made speakers texts more old names mid between new names' first
      (subst (λ (v : List K). ArePlayed who made v more mid between new names') s second),
)
