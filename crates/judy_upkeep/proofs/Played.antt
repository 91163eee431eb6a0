-- The records that are played, one after another.
--     freed-next                   one more array of a tenant who leaves
--     first-name, left-first       one more tenant who leaves, before others
--     played-first, played-none    one more record, before others, and no more
use Rattle.std.proofs.Common.{◌≡◌, ◌<◌, ℕ, suc, List, [], ◌∷◌, ◌++◌, Some, Ok, refl, sym, ◌∙◌, ap, subst, inl, inr, codes}
use Rattle.judy_model.specs.Speakers.{Speaker}
use Rattle.judy_model.specs.Stream.{lines_of}
use Rattle.judy_model.proofs.lemmas.LineLemmas.{IsOneLine, lines_of-bytes, lines_of-line}
use Rattle.judy_protocol.specs.Plain.{spaced_more}
use Rattle.judy_protocol.specs.Services.{Made}
use Rattle.judy_upkeep.specs.Arrays.{TellsFirst}
use Rattle.judy_upkeep.specs.Asking.{Gives}
use Rattle.judy_upkeep.specs.Leaving.{AreNames}
use Rattle.judy_upkeep.specs.Lines.{call_text}
use Rattle.judy_upkeep.specs.Playing.{AreFreed, AreLeft, ArePlayed, Leaves, Plays}
use Rattle.judy_upkeep.specs.Tenants.{Names}
use Rattle.judy_upkeep.specs.declared.asking.Came.TheVariants as what
use Rattle.judy_upkeep.specs.declared.kinds.Array.{Array}

-- ---- tenants who leave

-- so many arrays of a tenant were freed
abbrev pub HasFreed : {S K : Type 0} → (K → Speaker) → Made S → List K → ℕ → S → S → Type 0
HasFreed who made speakers tenant old new = (count : ℕ) × AreFreed who made speakers tenant count old new

pub freed-next : {S K : Type 0} (who : K → Speaker) (made : Made S) (speakers speakers' speakers'' : List K) (tenant : ℕ) (start old mid new : S)
    (array : Array) (count : ℕ) → speakers' ≡ speakers → speakers'' ≡ speakers' → TellsFirst who made speakers' tenant (Ok (Some array)) old mid
    → Gives who made speakers'' tenant (call_text array (codes "FA")) (Ok (what.Count count)) mid new → 0 < count
    → HasFreed who made speakers tenant start old → HasFreed who made speakers tenant start new
freed-next {K = K} who made speakers speakers' speakers'' tenant start old mid new array count s t told freed some (before, all) = (
  suc before,
  (
    old,
    all,
    record {
      array = array;
      mid = mid;
      told = subst (λ (v : List K). TellsFirst who made v tenant (Ok (Some array)) old mid) s told;
      count = count;
      some = some;
      freed = subst (λ (v : List K). Gives who made v tenant (call_text array (codes "FA")) (Ok (what.Count count)) mid new) (t ∙ s) freed;
    },
  ),
)

-- the first name of some, with a space before each
pub first-name : (rest name after : List ℕ) (space : ℕ) (names : List (List ℕ)) → AreNames rest → rest ≡ space ∷ name ++ after
    → after ≡ spaced_more names → rest ≡ spaced_more (name ∷ names)
first-name rest name after space names (inl none) is more = absurd (apart (sym none ∙ is))
  where
    apart : {x : ℕ} {xs : List ℕ} → [] ≡ x ∷ xs → ⊥
    apart e = cc
first-name rest name after space names (inr (others, begins)) is more =
    let same : 32 ≡ space = head (sym begins ∙ is) in
    is ∙ ap (λ (s : ℕ). s ∷ name ++ after) (sym same) ∙ ap (λ (v : List ℕ). 32 ∷ name ++ v) more
  where
    head : {x y : ℕ} {xs ys : List ℕ} → x ∷ xs ≡ y ∷ ys → x ≡ y
    head e = cc

-- this tenant left first
pub left-first : {S K : Type 0} (who : K → Speaker) (made : Made S) (speakers speakers' : List K) (name : List ℕ) (others : List (List ℕ))
    (old : S) (names : Names) (mid : S) (between : Names) (new : S) (names' : Names) → speakers' ≡ speakers
    → Leaves who made speakers' name old names mid between → AreLeft who made speakers others mid between new names'
    → AreLeft who made speakers (name ∷ others) old names new names'
left-first {K = K} who made speakers speakers' name others old names mid between new names' s first more = (
  mid,
  between,
  subst (λ (v : List K). Leaves who made v name old names mid between) s first,
  more,
)

-- ---- records

-- one more record, before others
pub played-first : {S K : Type 0} (who : K → Speaker) (made : Made S) (speakers speakers' : List K) (rest text after : List ℕ)
    (old : S) (names : Names) (mid : S) (between : Names) (new : S) (names' : Names) → speakers' ≡ speakers
    → IsOneLine text → rest ≡ text ++ 10 ∷ after → Plays who made speakers' text old names mid between
    → ArePlayed who made speakers (lines_of after) mid between new names'
    → ArePlayed who made speakers (lines_of rest) old names new names'
played-first {K = K} who made speakers speakers' rest text after old names mid between new names' s one is first more =
    let this : Plays who made speakers text old names mid between =
    subst (λ (v : List K). Plays who made v text old names mid between) s first in
    let all : ArePlayed who made speakers (text ∷ lines_of after) old names new names' = (mid, between, this, more) in
    subst (λ (v : List (List ℕ)). ArePlayed who made speakers v old names new names') (sym (ap lines_of is ∙ lines_of-line text after one)) all

-- no more
pub played-none : {S K : Type 0} (who : K → Speaker) (made : Made S) (speakers : List K) (rest : List ℕ) (old : S) (names : Names)
    → IsOneLine rest → ArePlayed who made speakers (lines_of rest) old names old names
played-none who made speakers rest old names one =
    subst (λ (v : List (List ℕ)). ArePlayed who made speakers v old names old names) (sym (lines_of-bytes rest one)) (refl, refl)
