-- Questions of the operator, as a story goes on.
--     AreAsked-append      one story after another
--     unasked_since        where no question is asked or answered
--     mine_unasked         a connection's own moments are no question's
use Rattle.std.specs.Prelude.{◌&&◌, if◌then◌else◌}
use Rattle.std.proofs.Common.{◌≡◌, inl, inr, ℕ, Bool, true, false, List, [], ◌∷◌, ◌++◌, Option, None, Some, arith, sym, ◌∙◌, ap, subst, refl}
use Rattle.judy_model.specs.Speakers.{Speaker}
use Rattle.judy_many.specs.Changes.{AreGone, SlotGone}
use Rattle.judy_many.specs.Journaling.{AreKeeping, IsKeeping}
use Rattle.judy_many.specs.Kicks.{kick_act}
use Rattle.judy_many.specs.Lives.{SlotDid, View}
use Rattle.judy_many.specs.Nets.{Act}
use Rattle.judy_many.specs.Nets.Act.{Closed, Waited, Lost, Questioned, Reported, Tabled, Untabled, Named, Replied, Began, Kept, Synced}
use Rattle.judy_many.specs.Questions.{AreAsked, MayClose, MayDo, MayReply, Stage, gone_how, gones_by, gones_in, read_stage, stage_after, stage_by, stage_since}
use Rattle.judy_many.specs.Stories.{AreWithin, IsAllowed, IsWithin, Mine, Phase, Story, acts_in, is_of, told}
use Rattle.judy_many.specs.Stories.Moment.{Changed, Did, Ran}
use Rattle.judy_many.specs.declared.network.How.{How}
use Rattle.judy_many.specs.declared.network.How.TheVariants as how
use Rattle.judy_many.specs.declared.serve.Limits.{Limits}

-- ---- one story after another

pub stage-append : (stage : Stage) (a b : Story) → stage_since stage (a ++ b) ≡ stage_since (stage_since stage a) b
stage-append stage [] b = refl
stage-append stage (m ∷ a) b = stage-append (stage_after stage m) a b

pub AreAsked-append : (stage : Stage) (a b : Story) → AreAsked stage a → AreAsked (stage_since stage a) b → AreAsked stage (a ++ b)
AreAsked-append stage [] b h k = k
AreAsked-append stage (m ∷ a) b h k = (h.0, AreAsked-append (stage_after stage m) a b h.1 k)

-- ---- no question

-- no connection is closed since its speaker is gone
abbrev pub is_other_how : How → Bool
is_other_how how.Gone = false
is_other_how other = true

abbrev pub is_unasked_act : Act → Bool
is_unasked_act (Closed n how) = is_other_how how
is_unasked_act (Waited sleeps told) = false
is_unasked_act Lost = false
is_unasked_act (Questioned q) = false
is_unasked_act (Reported text) = false
is_unasked_act (Tabled text) = false
is_unasked_act Untabled = false
is_unasked_act (Named name) = false
is_unasked_act (Replied text) = false
is_unasked_act act = true

abbrev pub is_unasked : Story → Bool
is_unasked [] = true
is_unasked (Did a ∷ story) = is_unasked_act a && is_unasked story
is_unasked (Ran n turns ∷ story) = is_unasked story
is_unasked (Changed text left ∷ story) = false

never : false ≡ true → ⊥
never e = cc

left : (a b : Bool) → (a && b) ≡ true → a ≡ true
left true b h = refl
left false b h = h

right : (a b : Bool) → (a && b) ≡ true → b ≡ true
right true b h = h
right false b h = absurd (never h)

closed_after : (stage : Stage) (h : How) → is_other_how h ≡ true → MayClose stage h
closed_after stage how.Gone e = absurd (never e)
closed_after stage other e = tt

unasked_after : (stage : Stage) (a : Act) → is_unasked_act a ≡ true → MayDo stage a × (stage_by stage a ≡ stage)
unasked_after stage (Closed n h) e = (closed_after stage h e, refl)
unasked_after stage (Waited sleeps told) e = absurd (never e)
unasked_after stage Lost e = absurd (never e)
unasked_after stage (Questioned q) e = absurd (never e)
unasked_after stage (Reported text) e = absurd (never e)
unasked_after stage (Tabled text) e = absurd (never e)
unasked_after stage Untabled e = absurd (never e)
unasked_after stage (Named name) e = absurd (never e)
unasked_after stage (Replied text) e = absurd (never e)
unasked_after stage act e = (tt, refl)

pub unasked_since : (stage : Stage) (story : Story) → is_unasked story ≡ true → AreAsked stage story × (stage_since stage story ≡ stage)
unasked_since stage [] e = (tt, refl)
unasked_since stage (Did a ∷ story) e =
    let one = unasked_after stage a (left _ _ e) in
    let rest = unasked_since stage story (right _ _ e) in
    ((one.0, subst (λ s. AreAsked s story) (sym one.1) rest.0), ap (λ s. stage_since s story) one.1 ∙ rest.1)
unasked_since stage (Ran n turns ∷ story) e = let rest = unasked_since stage story e in ((tt, rest.0), rest.1)
unasked_since stage (Changed text left ∷ story) e = absurd (never e)

-- ---- the moments of a connection

other_how : (h : How) → gone_how h ≡ 0 → is_other_how h ≡ true
other_how how.Gone e = absurd (omega (arith, e))
other_how other e = refl

unasked_one : (n : ℕ) (a : Act) → is_of n a ≡ true → gones_by a ≡ 0 → is_unasked_act a ≡ true
unasked_one n (Closed m h) e none = other_how h none
unasked_one n (Waited sleeps told) e none = absurd (never e)
unasked_one n Lost e none = absurd (never e)
unasked_one n (Questioned q) e none = absurd (never e)
unasked_one n (Reported text) e none = absurd (never e)
unasked_one n (Tabled text) e none = absurd (never e)
unasked_one n Untabled e none = absurd (never e)
unasked_one n (Named name) e none = absurd (never e)
unasked_one n (Replied text) e none = absurd (never e)
unasked_one n act e none = refl

both : (a b : Bool) → a ≡ true → b ≡ true → (a && b) ≡ true
both a b e f = ap (λ c. c && b) e ∙ f

pub mine_unasked : (n : ℕ) (more : Story) → Mine n more → gones_in (acts_in more) ≡ 0 → is_unasked more ≡ true
mine_unasked n [] h none = refl
mine_unasked n (Did a ∷ more) h none = both _ _ (unasked_one n a h.0 (omega (arith, none))) (mine_unasked n more h.1 (omega (arith, none)))
mine_unasked n (Ran m turns ∷ more) h none = mine_unasked n more h.1 none
mine_unasked n (Changed text left ∷ more) h none = absurd (never h.0)

-- a reply may come after the file of the table was read
pub may_reply : (changed : Bool) → MayReply (read_stage changed)
may_reply true = tt
may_reply false = tt

-- ---- slots

pub stays_how : (limits : Limits) (h : How) → IsAllowed (record limits { status = false }) h → gone_how h ≡ 0
stays_how limits how.Gone e = absurd (never e)
stays_how limits other e = refl

stays_act : (limits : Limits) (a : Act) → IsWithin (record limits { status = false }) a → gones_by a ≡ 0
stays_act limits (Closed n h) w = stays_how limits h w
stays_act limits act w = refl

within_stays : (limits : Limits) (acts : List Act) → AreWithin (record limits { status = false }) acts → gones_in acts ≡ 0
within_stays limits [] w = refl
within_stays limits (a ∷ acts) w =
    let one = stays_act limits a w.0 in
    let rest = within_stays limits acts w.1 in
    omega (arith, one, rest)

-- what may happen to a slot without a status socket closes no connection whose speaker is gone
pub slot_stays : (limits : Limits) (phase : Phase) (s t : Option View) (more : Story) → ((limits : Limits) → SlotDid limits phase s t more) → gones_in (acts_in more) ≡ 0
slot_stays limits phase None t more did = ap (λ m. gones_in (acts_in m)) (did limits).1
slot_stays limits phase (Some v) t more did = within_stays limits (acts_in more) (did (record limits { status = false })).2

-- nor does a kick
pub kick_stays : (test : Option Speaker → Bool) (slot : Option View) → gones_in (kick_act test slot) ≡ 0
kick_stays test None = refl
kick_stays test (Some v) = elim (test v.who) as (λ b. gones_in (if b then Closed v.number how.Kicked ∷ [] else []) ≡ 0) [ true ↦ refl | false ↦ refl ]

-- where a client's speaker is gone, it is closed for that alone
pub gone_acts : (slot : Option View) (more : Story) → SlotGone slot more → AreGone (acts_in more)
gone_acts None more none = subst (λ m. AreGone (acts_in m)) (sym none) tt
gone_acts (Some v) more (inl none) = subst (λ m. AreGone (acts_in m)) (sym none) tt
gone_acts (Some v) more (inr (one, who, speaks)) = subst (λ m. AreGone (acts_in m)) (sym one) ((v.number, refl), tt)

-- ---- what is written into the journal

keeping_one : (a : Act) → IsKeeping a → is_unasked_act a ≡ true
keeping_one (Began k) h = refl
keeping_one (Kept text) h = refl
keeping_one Synced h = refl
keeping_one act h = absurd h

pub keeping_unasked : (acts : List Act) → AreKeeping acts → is_unasked (told acts) ≡ true
keeping_unasked [] h = refl
keeping_unasked (a ∷ acts) h = both _ _ (keeping_one a h.0) (keeping_unasked acts h.1)
