-- Lines that are run one at a time.
--     AreSingle-append    one story after another
--     quiet_single        where no line is run
use Rattle.std.proofs.Common.{◌≡◌, ◌≤◌, ℕ, Bool, true, false, List, [], ◌∷◌, ◌++◌, length, arith, sym, ◌∙◌, ap, refl}
use Rattle.std.specs.Prelude.{if◌then◌else◌}
use Rattle.std.proofs.lemmas.List.{length-append}
use Rattle.judy_many.specs.Nets.{Act}
use Rattle.judy_many.specs.Sessions.{Turn}
use Rattle.judy_many.specs.Stories.{AreSingle, Story, told, turns_in}
use Rattle.judy_many.specs.Stories.Moment.{Changed, Did, Ran}

pub AreSingle-append : (a b : Story) → AreSingle a → AreSingle b → AreSingle (a ++ b)
AreSingle-append [] b h k = k
AreSingle-append (Did x ∷ a) b h k = AreSingle-append a b h k
AreSingle-append (Ran n turns ∷ a) b h k = (h.0, AreSingle-append a b h.1 k)
AreSingle-append (Changed text left ∷ a) b h k = AreSingle-append a b h k

-- only answers of the system
pub told_single : (acts : List Act) → AreSingle (told acts)
told_single [] = tt
told_single (a ∷ acts) = told_single acts

pub quiet_single : (story : Story) → turns_in story ≡ [] → AreSingle story
quiet_single [] none = tt
quiet_single (Did a ∷ story) none = quiet_single story none
quiet_single (Ran n turns ∷ story) none =
    let e = sym (length-append turns (turns_in story)) ∙ ap length none in
    (omega (arith, e), quiet_single story (rest turns none))
  where
    rest : (ts : List Turn) → ts ++ turns_in story ≡ [] → turns_in story ≡ []
    rest [] e = e
    rest (t ∷ ts) e = absurd (some e)
      where
        some : t ∷ (ts ++ turns_in story) ≡ [] → ⊥
        some e = cc
quiet_single (Changed text left ∷ story) none = quiet_single story none

-- ---- the lines of one turn

pub one_at_most : (ran : Bool) (n : ℕ) → n ≤ (if ran then 1 else 0) → n ≤ 1
one_at_most true n few = omega (arith, few)
one_at_most false n few = omega (arith, few)

-- where none was run yet
pub none_yet : (ran : Bool) (n : ℕ) → (ran ≡ true → ⊥) → n ≤ (if ran then 1 else 0) → n ≡ 0
none_yet true n not few = absurd (not refl)
none_yet false n not few = omega (arith, few)
