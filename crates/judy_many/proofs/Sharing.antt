-- How many connections of each tenant were heard, as a story goes on.
--     shares_quiet, shares_wait, shares_turn   what happened keeps the shares: no turn, a wait, the turn of a client
--     counted_turn                             the turn of a client is counted
--     group_now                                the group of a client that had no turn in this round
--     had_keep                                 a group that has had its share has had it until the next wait
use Rattle.std.proofs.Common.{◌≡◌, ◌≢◌, inl, inr, ◌<◌, ◌≤◌, ◌+◌, ℕ, zero, suc, Bool, true, false, List, [], ◌∷◌, ◌++◌, Option, None, Some, arith, sym, ◌∙◌, ap, subst, refl, append-nil, append_assoc, ne_eqb}
use Rattle.std.specs.Prelude.{◌==◌, ◌&&◌, if◌then◌else◌}
use Rattle.std.proofs.lemmas.Bool.Decides.{eqb_tells}
use Rattle.judy_many.specs.Endings.{waits_in}
use Rattle.judy_many.specs.Lives.{View}
use Rattle.judy_many.specs.Nets.Act.{Waited}
use Rattle.judy_many.specs.Present.{speaker_since}
use Rattle.judy_many.specs.Shares.{AreCounted, AreHeard, HadShare, HasShares, IsCounted, SlotCounts, count_in, group_in, group_of, has_any, heard_below, heard_of, heard_one, was_heard}
use Rattle.judy_many.specs.Stories.{IsOnce, Mine, Moment, Phase, Share, Story, acts_in, belongs, came_in, is_wait, most, own, share_by, times, turns_after, turns_by, turns_in, turns_since, upto_since, upto_wait, waits_by}
use Rattle.judy_many.specs.Stories.Moment.{Changed, Did, Ran}
use Rattle.judy_many.proofs.Owning.{own-append}
use Rattle.judy_many.proofs.Telling.{came-append, split, turns_in-append}
use Rattle.judy_many.proofs.Turning.{Mine_first, since-append, since_fresh, since_most, since_other, times_first, waits-append}

-- ---- waits

upto-append : (upto before a b : Story) → upto_since upto before (a ++ b) ≡ upto_since (upto_since upto before a) (before ++ a) b
upto-append upto before [] b = ap (λ t. upto_since upto t b) (sym (append-nil before))
upto-append upto before (m ∷ a) b =
    upto-append (if waits_by m then before ++ m ∷ [] else upto) (before ++ m ∷ []) a b
    ∙ ap (λ t. upto_since (upto_since (if waits_by m then before ++ m ∷ [] else upto) (before ++ m ∷ []) a) t b) (append_assoc before (m ∷ []) a)

-- no wait is among these moments
abbrev pub NoWait : Story → Type 0
NoWait story = waits_in (acts_in story) ≡ 0

pub no_wait : (m : Moment) (more : Story) → NoWait (m ∷ more) → (waits_by m ≡ false) × NoWait more
no_wait (Did a) more h = none (is_wait a) (waits_in (acts_in more)) h
  where
    none : (b : Bool) (k : ℕ) → (if b then 1 else 0) + k ≡ 0 → (b ≡ false) × (k ≡ 0)
    none true k e = absurd (omega (arith, e))
    none false k e = (refl, omega (arith, e))
no_wait (Ran n turns) more h = (refl, h)
no_wait (Changed text left) more h = (refl, h)

upto_same : (upto before more : Story) → NoWait more → upto_since upto before more ≡ upto
upto_same upto before [] h = refl
upto_same upto before (m ∷ more) h =
    let k = no_wait m more h in
    ap (λ b. upto_since (if b then before ++ m ∷ [] else upto) (before ++ m ∷ []) more) k.0 ∙ upto_same upto (before ++ m ∷ []) more k.1

pub upto_quiet : (story more : Story) → NoWait more → upto_wait (story ++ more) ≡ upto_wait story
upto_quiet story more h = upto-append [] [] story more ∙ upto_same (upto_wait story) story more h

pub upto_here : (story : Story) (sleeps : Bool) (told : List ℕ) → upto_wait (story ++ Did (Waited sleeps told) ∷ []) ≡ story ++ Did (Waited sleeps told) ∷ []
upto_here story sleeps told = upto-append [] [] story (Did (Waited sleeps told) ∷ [])

-- the first moments of a story without a wait
quiet_first : (more r q : Story) → more ≡ r ++ q → NoWait more → NoWait r
quiet_first more r q cut quiet = let e = waits-append r q in let f = ap (λ t. waits_in (acts_in t)) cut in omega (arith, e, f, quiet)

-- a story is what was up to its last wait, and what came since
abbrev Parts : Story → Story → Story → Type 0
Parts upto before story = (rest : Story) × (before ++ story ≡ upto_since upto before story ++ rest) × NoWait rest

quiet_one : (m : Moment) → waits_by m ≡ false → NoWait (m ∷ [])
quiet_one (Did a) f = ap (λ b. (if b then 1 else 0) + 0) f
quiet_one (Ran n turns) f = refl
quiet_one (Changed text left) f = refl

cut_wait : (upto before mid story : Story) → before ≡ upto ++ mid → NoWait mid → Parts upto before story
cut_wait upto before mid [] e k = (mid, append-nil before ∙ e, k)
cut_wait upto before mid (m ∷ story) e k = by_wait (λ upto' before' mid' e' k'. cut_wait upto' before' mid' story e' k') (waits_by m) refl
  where
    moved : before ++ m ∷ story ≡ (before ++ m ∷ []) ++ story
    moved = sym (append_assoc before (m ∷ []) story)

    by_wait : ((upto before mid : Story) → before ≡ upto ++ mid → NoWait mid → Parts upto before story) → (b : Bool) → waits_by m ≡ b → Parts upto before (m ∷ story)
    by_wait cut true f =
        let (rest, is, none) = cut (before ++ m ∷ []) (before ++ m ∷ []) [] (sym (append-nil (before ++ m ∷ []))) refl in
        (rest, moved ∙ is ∙ ap (λ b. upto_since (if b then before ++ m ∷ [] else upto) (before ++ m ∷ []) story ++ rest) (sym f), none)
    by_wait cut false f =
        let longer : before ++ m ∷ [] ≡ upto ++ (mid ++ m ∷ []) = ap (λ t. t ++ m ∷ []) e ∙ append_assoc upto mid (m ∷ []) in
        let still : NoWait (mid ++ m ∷ []) = let a = waits-append mid (m ∷ []) in let b = quiet_one m f in omega (arith, a, b, k) in
        let (rest, is, none) = cut upto (before ++ m ∷ []) (mid ++ m ∷ []) longer still in
        (rest, moved ∙ is ∙ ap (λ b. upto_since (if b then before ++ m ∷ [] else upto) (before ++ m ∷ []) story ++ rest) (sym f), none)

since_wait : (story : Story) → (rest : Story) × (story ≡ upto_wait story ++ rest) × NoWait rest
since_wait story = cut_wait [] [] [] story refl refl

-- ---- how often one connection had a turn

-- one more moment that is no wait
grown : (waits mine : Bool) (count more : ℕ) → waits ≡ false → count ≤ (if waits then 0 else (if mine then count + more else count))
grown true mine count more e = absurd (never e)
  where
    never : true ≡ false → ⊥
    never e = cc
grown false true count more e = omega arith
grown false false count more e = omega arith

-- without a wait counts do not fall
since_grows : (n : ℕ) (share : Share) (count : ℕ) (more : Story) → NoWait more → count ≤ turns_since n share count more
since_grows n share count [] h = omega arith
since_grows n share count (m ∷ more) h =
    let k = no_wait m more h in
    let one = grown (waits_by m) (belongs n m) count (share_by m share) k.0 in
    let rest = since_grows n share (turns_after n share count m) more k.1 in
    omega (arith, one, rest)

-- of a connection's own moments each counts
since_mine : (n : ℕ) (share : Share) (count : ℕ) (more : Story) → Mine n more → NoWait more → turns_since n share count more ≡ count + times share more
since_mine n share count [] h k = omega arith
since_mine n share count (m ∷ more) h k =
    let one = no_wait m more k in
    let e : turns_after n share count m ≡ count + share_by m share = ap (λ b. if b then 0 else (if belongs n m then count + share_by m share else count)) one.0 ∙ ap (λ b. if b then count + share_by m share else count) h.0 in
    let rest = since_mine n share (turns_after n share count m) more h.1 one.1 in
    omega (arith, e, rest)

-- of another's none does
since_keep : (n m : ℕ) (share : Share) (story more : Story) → Mine n more → NoWait more → m ≢ n → turns_since m share 0 (story ++ more) ≡ turns_since m share 0 story
since_keep n m share story more mine quiet d =
    let a = since-append m share 0 story more in
    let b = since_other n m share (turns_since m share 0 story) more mine d in
    let c = since_grows m share (turns_since m share 0 story) more quiet in
    omega (arith, a, b, c)

-- nor where there is no such share of a turn
since_silent : (n : ℕ) (share : Share) (story more : Story) → times share more ≡ 0 → NoWait more → turns_since n share 0 (story ++ more) ≡ turns_since n share 0 story
since_silent n share story more none quiet =
    let a = since-append n share 0 story more in
    let b = since_most n share (turns_since n share 0 story) more in
    let c = since_grows n share (turns_since n share 0 story) more quiet in
    omega (arith, a, b, c, none)

since_more : (n : ℕ) (share : Share) (story more : Story) → NoWait more → turns_since n share 0 story ≤ turns_since n share 0 (story ++ more)
since_more n share story more quiet =
    let a = since-append n share 0 story more in
    let c = since_grows n share (turns_since n share 0 story) more quiet in
    omega (arith, a, c)

-- ---- whether one connection was heard

-- as it counts for a group, with this many reads and runs
abbrev one_of : ℕ → ℕ → Story → ℕ → ℕ
one_of g n upto turns = if has_any turns && (group_of (speaker_since None (turns_in (own n upto))) == g) then 1 else 0

one_same : (g n : ℕ) (story story' : Story) → turns_since n Share.Reading 0 story' ≡ turns_since n Share.Reading 0 story → turns_since n Share.Running 0 story' ≡ turns_since n Share.Running 0 story
    → upto_wait story' ≡ upto_wait story → heard_one g n story' ≡ heard_one g n story
one_same g n story story' reads runs upto =
    ap (λ u. one_of g n u (turns_since n Share.Reading 0 story' + turns_since n Share.Running 0 story')) upto
    ∙ ap (λ t. one_of g n (upto_wait story) (t + turns_since n Share.Running 0 story')) reads
    ∙ ap (λ t. one_of g n (upto_wait story) (turns_since n Share.Reading 0 story + t)) runs

one_none : (g n : ℕ) (story : Story) → turns_since n Share.Reading 0 story ≡ 0 → turns_since n Share.Running 0 story ≡ 0 → heard_one g n story ≡ 0
one_none g n story reads runs =
    ap (λ t. one_of g n (upto_wait story) (t + turns_since n Share.Running 0 story)) reads
    ∙ ap (λ t. one_of g n (upto_wait story) (0 + t)) runs

most_one : (b : Bool) → (if b then 1 else 0) ≤ 1
most_one true = omega arith
most_one false = omega arith

-- of another group it is none
one_foreign : (g n : ℕ) (story : Story) → group_in n story ≢ g → heard_one g n story ≡ 0
one_foreign g n story d = ap (λ b. if was_heard n story && b then 1 else 0) (ne_eqb (group_in n story) g d) ∙ none (was_heard n story)
  where
    none : (b : Bool) → ◌≡◌ {A = ℕ} (if b && false then 1 else 0) 0
    none true = refl
    none false = refl

-- of its own group it is one, where it was heard
one_own : (n : ℕ) (story : Story) → 0 < turns_since n Share.Reading 0 story + turns_since n Share.Running 0 story → heard_one (group_in n story) n story ≡ 1
one_own n story some = elim (eqb_tells (group_in n story) (group_in n story)) [
  | inl p ↦ ap (λ b. if was_heard n story && b then 1 else 0) p.0 ∙ heard (turns_since n Share.Reading 0 story + turns_since n Share.Running 0 story) some
  | inr p ↦ absurd (p.1 refl)
]
  where
    heard : (k : ℕ) → 0 < k → ◌≡◌ {A = ℕ} (if has_any k && true then 1 else 0) 1
    heard zero few = absurd (omega (arith, few))
    heard (suc k) few = refl

one_grows : (g n : ℕ) (story more : Story) → NoWait more → heard_one g n story ≤ heard_one g n (story ++ more)
one_grows g n story more quiet =
    let reads = since_more n Share.Reading story more quiet in
    let runs = since_more n Share.Running story more quiet in
    let same : heard_one g n (story ++ more) ≡ one_of g n (upto_wait story) (turns_since n Share.Reading 0 (story ++ more) + turns_since n Share.Running 0 (story ++ more)) = ap (λ u. one_of g n u (turns_since n Share.Reading 0 (story ++ more) + turns_since n Share.Running 0 (story ++ more))) (upto_quiet story more quiet) in
    let more_or = grows (turns_since n Share.Reading 0 story + turns_since n Share.Running 0 story) (turns_since n Share.Reading 0 (story ++ more) + turns_since n Share.Running 0 (story ++ more))
    (group_in n story == g) (omega (arith, reads, runs)) in
    omega (arith, same, more_or)
  where
    grows : (a b : ℕ) (x : Bool) → a ≤ b → (if has_any a && x then 1 else 0) ≤ (if has_any b && x then 1 else 0)
    grows zero b x few = omega arith
    grows (suc a) zero x few = absurd (omega (arith, few))
    grows (suc a) (suc b) x few = omega arith

-- ---- all connections

below_same : (g k : ℕ) (story story' : Story) → ((n : ℕ) → n < k → heard_one g n story' ≡ heard_one g n story) → heard_below g k story' ≡ heard_below g k story
below_same g zero story story' h = refl
below_same g (suc k) story story' h =
    let rest = below_same g k story story' (λ n few. h n (omega (arith, few))) in
    let one = h k (omega arith) in
    omega (arith, rest, one)

below_none : (g k : ℕ) (story : Story) → ((n : ℕ) → heard_one g n story ≡ 0) → heard_below g k story ≡ 0
below_none g zero story h = refl
below_none g (suc k) story h = let rest = below_none g k story h in let one = h k in omega (arith, rest, one)

-- numbers from k on were not heard
below_over : (g k c m : ℕ) (story : Story) → m ≡ c + k → ((n : ℕ) → k ≤ n → heard_one g n story ≡ 0) → heard_below g m story ≡ heard_below g k story
below_over g k zero m story e h = ap (λ m. heard_below g m story) (omega (arith, e))
below_over g k (suc c) zero story e h = absurd (omega (arith, e))
below_over g k (suc c) (suc m) story e h = let rest = below_over g k c m story (omega (arith, e)) h in let one = h m (omega (arith, e)) in omega (arith, rest, one)

-- one connection was not heard before
below_one : (g k n : ℕ) (story story' : Story) → n < k → ((m : ℕ) → m ≢ n → heard_one g m story' ≡ heard_one g m story) → heard_one g n story ≡ 0
    → heard_below g k story' ≡ heard_below g k story + heard_one g n story'
below_one g zero n story story' few same none = absurd (omega (arith, few))
below_one g (suc k) n story story' few same none = elim (eqb_tells k n) [
  | inl p ↦
      let e = p.1 in
      let rest = below_same g k story story' (λ m less. same m (λ f. absurd (omega (arith, less, e, f)))) in
      let now : heard_one g k story' ≡ heard_one g n story' = ap (λ m. heard_one g m story') e in
      let once : heard_one g k story ≡ 0 = ap (λ m. heard_one g m story) e ∙ none in
      omega (arith, rest, now, once)
  | inr p ↦
      let d = p.1 in
      let rest = below_one g k n story story' (omega (arith, few, d)) same none in
      let one = same k d in
      omega (arith, rest, one)
]

below_grows : (g k : ℕ) (story story' : Story) → ((n : ℕ) → heard_one g n story ≤ heard_one g n story') → heard_below g k story ≤ heard_below g k story'
below_grows g zero story story' h = omega arith
below_grows g (suc k) story story' h = let rest = below_grows g k story story' h in let one = h k in omega (arith, rest, one)

below_more : (g k c m : ℕ) (story : Story) → m ≡ c + k → heard_below g k story ≤ heard_below g m story
below_more g k zero m story e = let same : heard_below g m story ≡ heard_below g k story = ap (λ m. heard_below g m story) (omega (arith, e)) in omega (arith, same)
below_more g k (suc c) zero story e = absurd (omega (arith, e))
below_more g k (suc c) (suc m) story e = let rest = below_more g k c m story (omega (arith, e)) in omega (arith, rest)

came_more : (story more : Story) → came_in (acts_in (story ++ more)) ≡ came_in (acts_in more) + came_in (acts_in story)
came_more story more = let f = came-append story more in omega (arith, f)

-- without a wait a group was heard at least as often as before
of_grows : (g : ℕ) (story more : Story) → NoWait more → heard_of g story ≤ heard_of g (story ++ more)
of_grows g story more quiet =
    let wider = below_more g (came_in (acts_in story)) (came_in (acts_in more)) (came_in (acts_in (story ++ more))) (story ++ more) (came_more story more) in
    let grows = below_grows g (came_in (acts_in story)) story (story ++ more) (λ n. one_grows g n story more quiet) in
    omega (arith, wider, grows)

-- connections that did not come have no moments
abbrev pub AreFresh : Story → Type 0
AreFresh story = (n : ℕ) → came_in (acts_in story) ≤ n → own n story ≡ []

-- nobody was heard
pub of_quiet : (g : ℕ) (story more : Story) → AreFresh story → times Share.Reading more ≡ 0 → times Share.Running more ≡ 0 → NoWait more → heard_of g (story ++ more) ≡ heard_of g story
of_quiet g story more fresh reads runs quiet =
    below_over g (came_in (acts_in story)) (came_in (acts_in more)) (came_in (acts_in (story ++ more))) (story ++ more) (came_more story more) (λ n over.
    one n ∙ one_none g n story (unheard n Share.Reading (fresh n over)) (unheard n Share.Running (fresh n over)))
    ∙ below_same g (came_in (acts_in story)) story (story ++ more) (λ n few. one n)
  where
    one : (n : ℕ) → heard_one g n (story ++ more) ≡ heard_one g n story
    one n = one_same g n story (story ++ more) (since_silent n Share.Reading story more reads quiet) (since_silent n Share.Running story more runs quiet) (upto_quiet story more quiet)

    unheard : (n : ℕ) (share : Share) → own n story ≡ [] → turns_since n share 0 story ≡ 0
    unheard n share none = let e = since_fresh n share 0 story none in omega (arith, e)

-- the server waited
pub of_waited : (g : ℕ) (story : Story) (sleeps : Bool) (told : List ℕ) → heard_of g (story ++ Did (Waited sleeps told) ∷ []) ≡ 0
of_waited g story sleeps told =
    below_none g (came_in (acts_in (story ++ Did (Waited sleeps told) ∷ []))) (story ++ Did (Waited sleeps told) ∷ [])
    (λ n. one_none g n (story ++ Did (Waited sleeps told) ∷ []) (none n Share.Reading) (none n Share.Running))
  where
    none : (n : ℕ) (share : Share) → turns_since n share 0 (story ++ Did (Waited sleeps told) ∷ []) ≡ 0
    none n share = since-append n share 0 story (Did (Waited sleeps told) ∷ [])

-- moments of one connection, which was not heard in this round
pub record IsNext (n : ℕ) (story more : Story) : Type 0 where
  pub few : n < came_in (acts_in story)
  pub mine : Mine n more
  pub quiet : NoWait more
  pub came : came_in (acts_in more) ≡ 0
  pub unread : turns_since n Share.Reading 0 story ≡ 0
  pub unrun : turns_since n Share.Running 0 story ≡ 0

of_turn : (g n : ℕ) (story more : Story) → IsNext n story more → heard_of g (story ++ more) ≡ heard_of g story + heard_one g n (story ++ more)
of_turn g n story more h =
    ap (λ k. heard_below g k (story ++ more)) (let a = came-append story more in let b = h.came in omega (arith, a, b))
    ∙ below_one g (came_in (acts_in story)) n story (story ++ more) h.few
    (λ m d. one_same g m story (story ++ more) (since_keep n m Share.Reading story more h.mine h.quiet d) (since_keep n m Share.Running story more h.mine h.quiet d) (upto_quiet story more h.quiet))
    (one_none g n story h.unread h.unrun)

-- the same group
group_same : (n : ℕ) (story more : Story) → NoWait more → group_in n (story ++ more) ≡ group_in n story
group_same n story more quiet = ap (λ u. group_of (speaker_since None (turns_in (own n u)))) (upto_quiet story more quiet)

-- ---- shares

-- each moment of these is followed by a story with shares
abbrev pub SharesOn : ℕ → Story → Story → Type 0
SharesOn share story more = (r q : Story) → more ≡ r ++ q → (g : ℕ) → heard_of g (story ++ r) ≤ share

pub shares_none : (share : ℕ) → HasShares share []
shares_none share [] q cut g = omega arith
shares_none share (m ∷ p) q cut g = absurd (some cut)
  where
    some : [] ≡ m ∷ (p ++ q) → ⊥
    some e = cc

now_few : (share : ℕ) (story : Story) → HasShares share story → (g : ℕ) → heard_of g story ≤ share
now_few share story h g = h story [] (sym (append-nil story)) g

pub shares-append : (share : ℕ) (story more : Story) → HasShares share story → SharesOn share story more → HasShares share (story ++ more)
shares-append share story more h k p q cut g = elim (split story more p q cut) [
  | inl c ↦ h p c.0 c.1 g
  | inr c ↦ subst (λ t. heard_of g t ≤ share) (sym c.1) (k c.0 q c.2 g)
]

pub shares_quiet : (share : ℕ) (story more : Story) → AreFresh story → HasShares share story → times Share.Reading more ≡ 0 → times Share.Running more ≡ 0 → NoWait more → SharesOn share story more
shares_quiet share story more fresh h reads runs quiet r q cut g =
    let a = times_first Share.Reading more r q cut in
    let b = times_first Share.Running more r q cut in
    let same = of_quiet g story r fresh (omega (arith, a, reads)) (omega (arith, b, runs)) (quiet_first more r q cut quiet) in
    let few = now_few share story h g in
    omega (arith, same, few)

pub shares_wait : (share : ℕ) (story : Story) (sleeps : Bool) (told : List ℕ) → HasShares share story → SharesOn share story (Did (Waited sleeps told) ∷ [])
shares_wait share story sleeps told h [] q cut g = subst (λ t. heard_of g t ≤ share) (sym (append-nil story)) (now_few share story h g)
shares_wait share story sleeps told h (m ∷ []) q cut g =
    subst (λ x. heard_of g (story ++ x ∷ []) ≤ share) (sym (first cut)) (let e = of_waited g story sleeps told in omega (arith, e))
  where
    first : Did (Waited sleeps told) ∷ [] ≡ m ∷ q → m ≡ Did (Waited sleeps told)
    first e = cc
shares_wait share story sleeps told h (m ∷ x ∷ r) q cut g = absurd (longer cut)
  where
    longer : Did (Waited sleeps told) ∷ [] ≡ m ∷ x ∷ (r ++ q) → ⊥
    longer e = cc

-- a client was heard whose group has not had its share
pub shares_turn : (share n : ℕ) (story more : Story) → IsNext n story more → HasShares share story → heard_of (group_in n story) story < share → SharesOn share story more
shares_turn share n story more next h less r q cut g =
    let part : IsNext n story r = record {
      few = next.few;
      mine = Mine_first n r q (subst (Mine n) cut next.mine);
      quiet = quiet_first more r q cut next.quiet;
      came = let a = came-append r q in let b = ap (λ t. came_in (acts_in t)) cut in let c = next.came in omega (arith, a, b, c);
      unread = next.unread;
      unrun = next.unrun;
    } in
    let turn = of_turn g n story r part in
    elim (eqb_tells (group_in n story) g) [
      | inl p ↦
          let fewer : heard_of g story < share = subst (λ k. heard_of k story < share) p.1 less in
          let one : heard_one g n (story ++ r) ≤ 1 = most_one (was_heard n (story ++ r) && (group_in n (story ++ r) == g)) in
          omega (arith, turn, fewer, one)
      | inr p ↦
          let none = one_foreign g n (story ++ r) (λ e. p.1 (sym (group_same n story r part.quiet) ∙ e)) in
          let few = now_few share story h g in
          omega (arith, turn, none, few)
    ]

-- and it was counted
pub counted_turn : (n : ℕ) (story more : Story) (counts counts' : List ℕ) → IsNext n story more → AreHeard more → AreCounted (Some counts) story → IsCounted (group_in n story) counts counts'
    → AreCounted (Some counts') (story ++ more)
counted_turn n story more counts counts' next heard counted counts_is g =
    let turn = of_turn g n story more next in
    elim (eqb_tells (group_in n story) g) [
      | inl p ↦
          let same : group_in n (story ++ more) ≡ g = group_same n story more next.quiet ∙ p.1 in
          let one : heard_one g n (story ++ more) ≡ 1 = subst (λ k. heard_one k n (story ++ more) ≡ 1) same (one_own n (story ++ more) turned) in
          let before : heard_of g story ≡ count_in counts g = counted g in
          let after : count_in counts' g ≡ count_in counts g + 1 = subst (λ k. count_in counts' k ≡ count_in counts k + 1) p.1 counts_is.0 in
          omega (arith, turn, one, before, after)
      | inr p ↦
          let none = one_foreign g n (story ++ more) (λ e. p.1 (sym (group_same n story more next.quiet) ∙ e)) in
          let before : heard_of g story ≡ count_in counts g = counted g in
          let after : count_in counts' g ≡ count_in counts g = counts_is.1 g (λ e. p.1 (sym e)) in
          omega (arith, turn, none, before, after)
    ]
  where
    turned : 0 < turns_since n Share.Reading 0 (story ++ more) + turns_since n Share.Running 0 (story ++ more)
    turned =
        let a = since-append n Share.Reading 0 story more in
        let b = since-append n Share.Running 0 story more in
        let c = since_mine n Share.Reading (turns_since n Share.Reading 0 story) more next.mine next.quiet in
        let d = since_mine n Share.Running (turns_since n Share.Running 0 story) more next.mine next.quiet in
        omega (arith, a, b, c, d, heard)

-- a group that has had its share
pub had_keep : (share n : ℕ) (story more : Story) → NoWait more → HadShare share n story → HadShare share n (story ++ more)
had_keep share n story more quiet h =
    let grows = of_grows (group_in n story) story more quiet in
    subst (λ g. share ≤ heard_of g (story ++ more)) (sym (group_same n story more quiet)) (omega (arith, grows, h))

-- ---- the group of a client

-- where no line of a connection was run, it has none
unspoken : (n : ℕ) (count : ℕ) (rest : Story) → NoWait rest → turns_since n Share.Running count rest ≡ 0 → turns_in (own n rest) ≡ []
unspoken n count [] quiet none = refl
unspoken n count (m ∷ rest) quiet none =
    let k = no_wait m rest quiet in
    let few = since_grows n Share.Running (turns_after n Share.Running count m) rest k.1 in
    let after : turns_after n Share.Running count m ≡ 0 = omega (arith, few, none) in
    by_own (belongs n m) (sym (ap (λ b. if b then 0 else (if belongs n m then count + share_by m Share.Running else count)) k.0) ∙ after)
    (unspoken n (turns_after n Share.Running count m) rest k.1 none)
  where
    silent : (m : Moment) → share_by m Share.Running ≡ 0 → turns_by m ≡ []
    silent (Did a) e = refl
    silent (Ran k turns) e = absurd (omega (arith, e))
    silent (Changed text left) e = refl

    by_own : (b : Bool) → (if b then count + share_by m Share.Running else count) ≡ 0 → turns_in (own n rest) ≡ [] → turns_in (if b then m ∷ own n rest else own n rest) ≡ []
    by_own true e h = ap (λ t. t ++ turns_in (own n rest)) (silent m (omega (arith, e))) ∙ h
    by_own false e h = h

-- where no line of a connection was run since the last wait, its group is that of who speaks on it now
pub group_now : (n : ℕ) (story : Story) → turns_since n Share.Running 0 story ≡ 0 → group_in n story ≡ group_of (speaker_since None (turns_in (own n story)))
group_now n story none =
    let (rest, is, quiet) = since_wait story in
    let apart : turns_since n Share.Running (turns_since n Share.Running 0 (upto_wait story)) rest ≡ 0 = sym (since-append n Share.Running 0 (upto_wait story) rest) ∙ ap (λ t. turns_since n Share.Running 0 t) (sym is) ∙ none in
    let same : turns_in (own n story) ≡ turns_in (own n (upto_wait story)) = ap (λ t. turns_in (own n t)) is ∙ ap turns_in (own-append n (upto_wait story) rest) ∙ turns_in-append (own n (upto_wait story)) (own n rest)
    ∙ ap (λ t. turns_in (own n (upto_wait story)) ++ t) (unspoken n (turns_since n Share.Running 0 (upto_wait story)) rest quiet apart) ∙ append-nil (turns_in (own n (upto_wait story))) in
    ap (λ t. group_of (speaker_since None t)) (sym same)

-- ---- a phase of a round

-- what was counted in the first phase of a round
abbrev pub Counts : ℕ → Option (List ℕ) → Option (List ℕ) → Option View → Story → Type 0
Counts share (Some counts) (Some counts') view more = SlotCounts share counts counts' view more
Counts share (Some counts) None view more = ⊥
Counts share None counts' view more = ⊥

-- a client of a group that is full by the counts is one of a group that has had its share
abbrev pub Fills : ℕ → Option (List ℕ) → View → Story → Type 0
Fills share None v story = Unit {0}
Fills share (Some counts) v story = share ≤ count_in counts (group_of v.who) → HadShare share v.number story

-- the counts are the same where nobody was heard
pub counted_quiet : (counts : Option (List ℕ)) (story more : Story) → AreFresh story → times Share.Reading more ≡ 0 → times Share.Running more ≡ 0 → NoWait more → AreCounted counts story → AreCounted counts (story ++ more)
counted_quiet None story more fresh reads runs quiet counted = tt
counted_quiet (Some counts) story more fresh reads runs quiet counted = λ g. of_quiet g story more fresh reads runs quiet ∙ counted g

-- and at a free slot
pub counts_none : (share : ℕ) (counts counts' : Option (List ℕ)) (more : Story) → Counts share counts counts' None more → counts' ≡ counts
counts_none share (Some counts) (Some counts') more e = ap Some e
counts_none share (Some counts) None more bad = absurd bad
counts_none share None counts' more bad = absurd bad

pub fills_of : (share : ℕ) (counts : Option (List ℕ)) (v : View) (story : Story) → AreCounted counts story → group_in v.number story ≡ group_of v.who → Fills share counts v story
fills_of share None v story counted same = tt
fills_of share (Some counts) v story counted same = λ full.
    subst (λ g. share ≤ heard_of g story) (sym same) (let e : heard_of (group_of v.who) story ≡ count_in counts (group_of v.who) = counted (group_of v.who) in omega (arith, e, full))

-- what happened to a client that had no turn in this phase keeps the shares, and was counted
module _ (share n : ℕ) (story more : Story) (fresh : AreFresh story) (shared : HasShares share story) (few : n < came_in (acts_in story)) (mine : Mine n more) (came : came_in (acts_in more) ≡ 0) (quiet : NoWait more) where
  silent_turn : (counts : Option (List ℕ)) → times Share.Reading more ≡ 0 → times Share.Running more ≡ 0 → AreCounted counts story → SharesOn share story more × AreCounted counts (story ++ more)
  silent_turn counts reads runs counted = (shares_quiet share story more fresh shared reads runs quiet, counted_quiet counts story more fresh reads runs quiet counted)

  heard_turn : (v : View) (counts counts' : List ℕ) → turns_since n Share.Reading 0 story ≡ 0 → turns_since n Share.Running 0 story ≡ 0 → group_in n story ≡ group_of v.who → AreCounted (Some counts) story
      → SlotCounts share counts counts' (Some v) more → SharesOn share story more × AreCounted (Some counts') (story ++ more)
  heard_turn v counts counts' unread unrun same counted (inl (is, none)) =
      let turn = silent_turn (Some counts) (ap (times Share.Reading) none) (ap (times Share.Running) none) counted in
      (turn.0, subst (λ c. AreCounted (Some c) (story ++ more)) (sym is) turn.1)
  heard_turn v counts counts' unread unrun same counted (inr (heard, less, is)) =
      let next : IsNext n story more = record { few = few; mine = mine; quiet = quiet; came = came; unread = unread; unrun = unrun } in
      let fewer : heard_of (group_in n story) story < share = subst (λ g. heard_of g story < share) (sym same) (let e : heard_of (group_of v.who) story ≡ count_in counts (group_of v.who) = counted (group_of v.who) in omega (arith, e, less)) in
      (shares_turn share n story more next shared fewer, counted_turn n story more counts counts' next heard counted (subst (λ g. IsCounted g counts counts') (sym same) is))

  pub turn_shared : (phase : Phase) (v : View) (counts counts' : Option (List ℕ)) → IsOnce phase more → ((share : Share) → turns_since n share 0 story + most phase share ≤ 1) → (turns_since n Share.Running 0 story ≡ 0 → group_in n story ≡ group_of v.who)
      → (phase ≡ Phase.Reads → AreCounted counts story) → (phase ≡ Phase.Reads → Counts share counts counts' (Some v) more)
      → SharesOn share story more × (phase ≡ Phase.Reads → AreCounted counts' (story ++ more))
  turn_shared Phase.Reads v counts counts' once free same counted counting = by_counts counts counts' (counted refl) (counting refl)
    where
      by_counts : (counts counts' : Option (List ℕ)) → AreCounted counts story → Counts share counts counts' (Some v) more → SharesOn share story more × (Phase.Reads ≡ Phase.Reads → AreCounted counts' (story ++ more))
      by_counts (Some counts) (Some counts') counted counting =
          let reads = free Share.Reading in
          let runs = free Share.Running in
          let unrun : turns_since n Share.Running 0 story ≡ 0 = omega (arith, runs) in
          let turn = heard_turn v counts counts' (omega (arith, reads)) unrun (same unrun) counted counting in
          (turn.0, λ e. turn.1)
      by_counts (Some counts) None counted bad = absurd bad
      by_counts None counts' counted bad = absurd bad
  turn_shared Phase.Writes v counts counts' once free same counted counting =
      let reads = once Share.Reading in
      let runs = once Share.Running in
      ((silent_turn None (omega (arith, reads)) (omega (arith, runs)) tt).0, λ e. absurd (other e))
    where
      other : Phase.Writes ≡ Phase.Reads → ⊥
      other e = cc
  turn_shared Phase.Sweeps v counts counts' once free same counted counting =
      let reads = once Share.Reading in
      let runs = once Share.Running in
      ((silent_turn None (omega (arith, reads)) (omega (arith, runs)) tt).0, λ e. absurd (other e))
    where
      other : Phase.Sweeps ≡ Phase.Reads → ⊥
      other e = cc
