-- How often a connection has had a turn since the server last waited.
use Rattle.std.proofs.Common.{◌≡◌, ◌≢◌, inl, inr, ◌≤◌, ◌+◌, ℕ, Bool, true, false, List, [], ◌∷◌, ◌++◌, arith, sym, ◌∙◌, ap, subst, refl, append-nil}
use Rattle.std.specs.Prelude.{◌==◌, if◌then◌else◌}
use Rattle.std.proofs.lemmas.Bool.Decides.{eqb_tells}
use Rattle.judy_many.specs.Endings.{lost_by, lost_in, reports_by, reports_in, waits_in}
use Rattle.judy_many.specs.Nets.{Act}
use Rattle.judy_many.specs.Nets.Act.{Came, Refused, Read, Dry, Ended, Broke, Wrote, Failed, Closed, Waited, Lost, Asked, Questioned, Reported, Warned, Tabled, Untabled, Named, Replied, Began, Kept, Unkept, Synced, Unsynced, Took}
use Rattle.judy_many.specs.Stories.{HasTurns, Mine, Moment, Share, Story, acts_in, belongs, changes_in, is_of, is_wait, own, share_by, times, turns_after, turns_since, waits_by, writes_after, writes_since}
use Rattle.judy_many.specs.Stories.Moment.{Changed, Did, Ran}
use Rattle.judy_many.proofs.Owning.{belongs_other}
use Rattle.judy_many.proofs.Telling.{acts_in-append, split}

pub times-append : (share : Share) (a b : Story) → times share (a ++ b) ≡ times share a + times share b
times-append share [] b = omega arith
times-append share (m ∷ a) b = let e = times-append share a b in omega (arith, e)

pub since-append : (n : ℕ) (share : Share) (count : ℕ) (a b : Story) → turns_since n share count (a ++ b) ≡ turns_since n share (turns_since n share count a) b
since-append n share count [] b = refl
since-append n share count (m ∷ a) b = since-append n share (turns_after n share count m) a b

-- one more moment
chosen : (waits mine : Bool) (count more : ℕ) → (if waits then 0 else (if mine then count + more else count)) ≤ count + more
chosen true mine count more = omega arith
chosen false true count more = omega arith
chosen false false count more = omega arith

chosen_not : (waits mine : Bool) (count more : ℕ) → mine ≡ false → (if waits then 0 else (if mine then count + more else count)) ≤ count
chosen_not true mine count more e = omega arith
chosen_not false true count more e = absurd (never e)
  where
    never : true ≡ false → ⊥
    never e = cc
chosen_not false false count more e = omega arith

-- at most the shares of these moments are added
pub since_most : (n : ℕ) (share : Share) (count : ℕ) (more : Story) → turns_since n share count more ≤ count + times share more
since_most n share count [] = omega arith
since_most n share count (m ∷ more) =
    let one = chosen (waits_by m) (belongs n m) count (share_by m share) in
    let rest = since_most n share (turns_after n share count m) more in
    omega (arith, one, rest)

-- none is, where all moments are another connection's
pub since_other : (n m : ℕ) (share : Share) (count : ℕ) (more : Story) → Mine n more → m ≢ n → turns_since m share count more ≤ count
since_other n m share count [] h d = omega arith
since_other n m share count (x ∷ more) h d =
    let one = chosen_not (waits_by x) (belongs m x) count (share_by x share) (belongs_other n m x h.0 d) in
    let rest = since_other n m share (turns_after m share count x) more h.1 d in
    omega (arith, one, rest)

-- nor where no moment is this connection's
pub since_fresh : (n : ℕ) (share : Share) (count : ℕ) (story : Story) → own n story ≡ [] → turns_since n share count story ≤ count
since_fresh n share count [] h = omega arith
since_fresh n share count (m ∷ story) h =
    let not = foreign (belongs n m) h in
    let one = chosen_not (waits_by m) (belongs n m) count (share_by m share) not in
    let rest = since_fresh n share (turns_after n share count m) story (left (belongs n m) not h) in
    omega (arith, one, rest)
  where
    foreign : (mine : Bool) → (if mine then m ∷ own n story else own n story) ≡ [] → mine ≡ false
    foreign true e = absurd (some e)
      where
        some : m ∷ own n story ≡ [] → ⊥
        some e = cc
    foreign false e = refl

    left : (mine : Bool) → mine ≡ false → (if mine then m ∷ own n story else own n story) ≡ [] → own n story ≡ []
    left true d e = absurd (never d)
      where
        never : true ≡ false → ⊥
        never e = cc
    left false d e = e

-- the first moments of a piece have no more shares than all
pub times_first : (share : Share) (more r q : Story) → more ≡ r ++ q → times share r ≤ times share more
times_first share more r q e = let f = ap (times share) e ∙ times-append share r q in omega (arith, f)

pub Mine_first : (n : ℕ) (r q : Story) → Mine n (r ++ q) → Mine n r
Mine_first n [] q h = tt
Mine_first n (m ∷ r) q h = (h.0, Mine_first n r q h.1)

-- Each moment of these is followed by a fair story.
abbrev pub GoOn : Story → Story → Type 0
GoOn story more = (r q : Story) → more ≡ r ++ q → (n : ℕ) (share : Share) → turns_since n share (turns_since n share 0 story) r ≤ 1

-- what happens is no share of a turn
pub still : (story more : Story) → HasTurns story → ((share : Share) → times share more ≡ 0) → GoOn story more
still story more h none r q cut n share =
    let before = h story [] (sym (append-nil story)) n share in
    let added = since_most n share (turns_since n share 0 story) r in
    let few = times_first share more r q cut in
    let e = none share in
    omega (arith, before, added, few, e)

-- what happens is a turn of a connection that had none
pub takes_turn : (story more : Story) (n : ℕ) (bound : Share → ℕ) → HasTurns story → Mine n more → ((share : Share) → times share more ≤ bound share)
    → ((share : Share) → turns_since n share 0 story + bound share ≤ 1) → GoOn story more
takes_turn story more n bound h mine few free r q cut m share = elim (eqb_tells m n) [
  | inl p ↦
      let added = since_most m share (turns_since m share 0 story) r in
      let part = times_first share more r q cut in
      let most = few share in
      let before = subst (λ k. turns_since k share 0 story + bound share ≤ 1) (sym p.1) (free share) in
      omega (arith, added, part, most, before)
  | inr p ↦
      let added = since_other n m share (turns_since m share 0 story) r (Mine_first n r q (subst (Mine n) cut mine)) p.1 in
      let before = h story [] (sym (append-nil story)) m share in
      omega (arith, added, before)
]

pub fair-append : (story more : Story) → HasTurns story → GoOn story more → HasTurns (story ++ more)
fair-append story more h k p q cut n share = elim (split story more p q cut) [
  | inl c ↦ h p c.0 c.1 n share
  | inr c ↦ subst (λ t. turns_since n share 0 t ≤ 1) (sym c.1) (subst (λ t. t ≤ 1) (sym (since-append n share 0 story c.0)) (k c.0 q c.2 n share))
]

-- where nothing was written since the server last waited, no connection was
pub since_quiet : (n : ℕ) (wrote : Bool) (count : ℕ) (story : Story) → (wrote ≡ false → count ≡ 0) → writes_since wrote story ≡ false
    → turns_since n Share.Writing count story ≡ 0
since_quiet n wrote count [] h e = h e
since_quiet n wrote count (m ∷ story) h e = since_quiet n (writes_after wrote m) (turns_after n Share.Writing count m) story (after m) e
  where
    never : true ≡ false → ⊥
    never e = cc

    same : (mine : Bool) → wrote ≡ false → (if mine then count + 0 else count) ≡ 0
    same true e = let f = h e in omega (arith, f)
    same false e = h e

    after : (m : Moment) → writes_after wrote m ≡ false → turns_after n Share.Writing count m ≡ 0
    after (Did (Came k i)) e = same (k == n) e
    after (Did (Read k bytes)) e = same (k == n) e
    after (Did (Dry k)) e = same (k == n) e
    after (Did (Ended k)) e = same (k == n) e
    after (Did (Broke k)) e = same (k == n) e
    after (Did (Wrote k bytes)) e = absurd (never e)
    after (Did (Failed k)) e = absurd (never e)
    after (Did (Closed k how)) e = same (k == n) e
    after (Did (Took k name limit takes)) e = same (k == n) e
    after (Did (Waited sleeps told)) e = refl
    after (Ran k turns) e = same (k == n) e
    after moment e = h e

-- ---- pieces

-- a connection's own moments are no wait, no fault of the listener, and no report
no_wait : (n : ℕ) (a : Act) → is_of n a ≡ true → (is_wait a ≡ false) × (lost_by a ≡ 0) × (reports_by a ≡ 0)
no_wait n (Came m i) e = (refl, refl, refl)
no_wait n Refused e = (refl, refl, refl)
no_wait n (Read m bytes) e = (refl, refl, refl)
no_wait n (Dry m) e = (refl, refl, refl)
no_wait n (Ended m) e = (refl, refl, refl)
no_wait n (Broke m) e = (refl, refl, refl)
no_wait n (Wrote m bytes) e = (refl, refl, refl)
no_wait n (Failed m) e = (refl, refl, refl)
no_wait n (Closed m how) e = (refl, refl, refl)
no_wait n (Took m name limit takes) e = (refl, refl, refl)
no_wait n (Waited sleeps told) e = absurd (never e)
  where
    never : false ≡ true → ⊥
    never e = cc
no_wait n Lost e = absurd (never e)
  where
    never : false ≡ true → ⊥
    never e = cc
no_wait n (Asked s) e = (refl, refl, refl)
no_wait n (Questioned q) e = absurd (never e)
  where
    never : false ≡ true → ⊥
    never e = cc
no_wait n (Reported text) e = absurd (never e)
  where
    never : false ≡ true → ⊥
    never e = cc
no_wait n (Warned text) e = absurd (never e)
  where
    never : false ≡ true → ⊥
    never e = cc
no_wait n (Tabled text) e = absurd (never e)
  where
    never : false ≡ true → ⊥
    never e = cc
no_wait n Untabled e = absurd (never e)
  where
    never : false ≡ true → ⊥
    never e = cc
no_wait n (Named name) e = absurd (never e)
  where
    never : false ≡ true → ⊥
    never e = cc
no_wait n (Replied text) e = absurd (never e)
  where
    never : false ≡ true → ⊥
    never e = cc
no_wait n (Began k) e = absurd (never e)
  where
    never : false ≡ true → ⊥
    never e = cc
no_wait n (Kept text) e = absurd (never e)
  where
    never : false ≡ true → ⊥
    never e = cc
no_wait n Unkept e = absurd (never e)
  where
    never : false ≡ true → ⊥
    never e = cc
no_wait n Synced e = absurd (never e)
  where
    never : false ≡ true → ⊥
    never e = cc
no_wait n Unsynced e = absurd (never e)
  where
    never : false ≡ true → ⊥
    never e = cc

abbrev count_of : Bool → ℕ
count_of w = if w then 1 else 0

pub mine_plain : (n : ℕ) (more : Story) → Mine n more → (waits_in (acts_in more) ≡ 0) × (lost_in (acts_in more) ≡ 0) × (reports_in (acts_in more) ≡ 0) × (changes_in more ≡ [])
mine_plain n [] h = (refl, refl, refl, refl)
mine_plain n (Did a ∷ more) h =
    let one = no_wait n a h.0 in
    let rest = mine_plain n more h.1 in
    let none : count_of (is_wait a) ≡ 0 = ap count_of one.0 in
    let all = one.1 in
    let untold = one.2 in
    let waits = rest.0 in
    let lost = rest.1 in
    let reports = rest.2 in
    (omega (arith, none, waits), omega (arith, all, lost), omega (arith, untold, reports), rest.3)
mine_plain n (Ran m turns ∷ more) h = mine_plain n more h.1
mine_plain n (Changed text left ∷ more) h = absurd (never h.0)
  where
    never : false ≡ true → ⊥
    never e = cc

waits_in-append : (a b : List Act) → waits_in (a ++ b) ≡ waits_in a + waits_in b
waits_in-append [] b = omega arith
waits_in-append (x ∷ a) b = let e = waits_in-append a b in omega (arith, e)

lost_in-append : (a b : List Act) → lost_in (a ++ b) ≡ lost_in a + lost_in b
lost_in-append [] b = omega arith
lost_in-append (x ∷ a) b = let e = lost_in-append a b in omega (arith, e)

pub waits-append : (a b : Story) → waits_in (acts_in (a ++ b)) ≡ waits_in (acts_in a) + waits_in (acts_in b)
waits-append a b = ap waits_in (acts_in-append a b) ∙ waits_in-append (acts_in a) (acts_in b)

pub lost-append : (a b : Story) → lost_in (acts_in (a ++ b)) ≡ lost_in (acts_in a) + lost_in (acts_in b)
lost-append a b = ap lost_in (acts_in-append a b) ∙ lost_in-append (acts_in a) (acts_in b)
