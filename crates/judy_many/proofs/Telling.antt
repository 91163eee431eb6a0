-- What one moment after another does to a client.
use Rattle.std.proofs.Common.{◌≡◌, ◌⊎◌, inl, inr, ℕ, suc, ◌+◌, ◌≤◌, Bool, true, false, ◌||◌, List, [], ◌∷◌, ◌++◌, length, Option, None, Some, arith, sym, ◌∙◌, ap, subst, refl, append_assoc, append-nil}
use Rattle.std.proofs.lemmas.Bool.{eq-eqb}
use Rattle.std.proofs.lemmas.List.{length-append}
use Rattle.std.proofs.lemmas.List.Folds.{list_any-append}
use Rattle.std.specs.List.{list_any}
use Rattle.judy_model.specs.Stream.{served}
use Rattle.judy_model.specs.Speakers.{Speaker}
use Rattle.judy_many.specs.declared.network.How.{How}
use Rattle.judy_many.specs.declared.network.How.TheVariants as how
use Rattle.judy_many.specs.declared.serve.Limits.{Limits}
use Rattle.judy_many.specs.Fates.{Ends, IsLeft, Leaves, Stays}
use Rattle.judy_many.specs.Lives.{HasReason, HearsWhenReady, IsLive, IsOrdered, IsReady, IsReason, IsPart, IsServed, IsWhole, Lives, View, end_well, ends_well, is_orderly, read_in, wrote_in}
use Rattle.judy_many.specs.Nets.{Act}
use Rattle.judy_many.specs.Nets.Act.{Read, Dry, Ended, Broke, Wrote, Failed, Closed, Took}
use Rattle.judy_many.specs.Sessions.{Speaks, Turn}
use Rattle.judy_many.specs.Stories.{AreReads, AreWell, AreWithin, AreWrites, Phase, InPhase, IsOnce, IsPhased, IsPiece, IsRead, IsWrite, Mine, Moment, Share, Story, acts_by, acts_in, came_by, came_in, closed_by, closed_in, hears, is_end, is_fault, is_read, reading, running, share_of, times, told, turns_by, turns_in, writes_after, writes_since}
use Rattle.judy_many.specs.Stories.Moment.{Did, Ran}
use Rattle.judy_many.proofs.Living.{end_well-append, live_part, live_read, live_send, live_whole, read_in-append, wrote_in-append}

-- ---- stories in a row

pub acts_in-append : (a b : Story) → acts_in (a ++ b) ≡ acts_in a ++ acts_in b
acts_in-append [] b = refl
acts_in-append (m ∷ a) b = ap (λ v. acts_by m ++ v) (acts_in-append a b) ∙ sym (append_assoc (acts_by m) (acts_in a) (acts_in b))

pub turns_in-append : (a b : Story) → turns_in (a ++ b) ≡ turns_in a ++ turns_in b
turns_in-append [] b = refl
turns_in-append (m ∷ a) b = ap (λ v. turns_by m ++ v) (turns_in-append a b) ∙ sym (append_assoc (turns_by m) (turns_in a) (turns_in b))

pub acts_in-told : (acts : List Act) → acts_in (told acts) ≡ acts
acts_in-told [] = refl
acts_in-told (a ∷ acts) = ap (λ v. a ∷ v) (acts_in-told acts)

pub turns_in-told : (acts : List Act) → turns_in (told acts) ≡ []
turns_in-told [] = refl
turns_in-told (a ∷ acts) = turns_in-told acts

came_in-append : (a b : List Act) → came_in (a ++ b) ≡ came_in a + came_in b
came_in-append [] b = omega arith
came_in-append (x ∷ a) b = let e = came_in-append a b in omega (arith, e)

closed_in-append : (a b : List Act) → closed_in (a ++ b) ≡ closed_in a + closed_in b
closed_in-append [] b = omega arith
closed_in-append (x ∷ a) b = let e = closed_in-append a b in omega (arith, e)

pub came-append : (a b : Story) → came_in (acts_in (a ++ b)) ≡ came_in (acts_in a) + came_in (acts_in b)
came-append a b = ap came_in (acts_in-append a b) ∙ came_in-append (acts_in a) (acts_in b)

pub closed-append : (a b : Story) → closed_in (acts_in (a ++ b)) ≡ closed_in (acts_in a) + closed_in (acts_in b)
closed-append a b = ap closed_in (acts_in-append a b) ∙ closed_in-append (acts_in a) (acts_in b)

pub Mine-append : (n : ℕ) (a b : Story) → Mine n a → Mine n b → Mine n (a ++ b)
Mine-append n [] b h k = k
Mine-append n (x ∷ a) b h k = (h.0, Mine-append n a b h.1 k)

acts_within : (limits : Limits) (a b : List Act) → AreWithin limits a → AreWithin limits b → AreWithin limits (a ++ b)
acts_within limits [] b h k = k
acts_within limits (x ∷ a) b h k = (h.0, acts_within limits a b h.1 k)

pub AreWithin-append : (limits : Limits) (a b : Story) → AreWithin limits (acts_in a) → AreWithin limits (acts_in b) → AreWithin limits (acts_in (a ++ b))
AreWithin-append limits a b h k = subst (AreWithin limits) (sym (acts_in-append a b)) (acts_within limits (acts_in a) (acts_in b) h k)

pub writes_since-append : (wrote : Bool) (a b : Story) → writes_since wrote (a ++ b) ≡ writes_since (writes_since wrote a) b
writes_since-append wrote [] b = refl
writes_since-append wrote (m ∷ a) b = writes_since-append (writes_after wrote m) a b

pub IsPhased-append : (wrote : Bool) (a b : Story) → IsPhased wrote a → IsPhased (writes_since wrote a) b → IsPhased wrote (a ++ b)
IsPhased-append wrote [] b h k = k
IsPhased-append wrote (m ∷ a) b h k = (h.0, IsPhased-append (writes_after wrote m) a b h.1 k)

pub InPhase-append : (phase : Phase) (a b : Story) → InPhase phase a → InPhase phase b → InPhase phase (a ++ b)
InPhase-append Phase.Reads a b h k = (
  IsPhased-append false a b h.0 (subst (λ w. IsPhased w b) (sym h.1) k.0),
  writes_since-append false a b ∙ ap (λ w. writes_since w b) h.1 ∙ k.1,
)
InPhase-append Phase.Writes a b h k = λ wrote. IsPhased-append wrote a b (h wrote) (k (writes_since wrote a))
InPhase-append Phase.Sweeps a b h k = λ wrote. IsPhased-append wrote a b (h wrote) (k (writes_since wrote a))

-- where a story is cut, the cut is in its first part or in its second
pub split : (s more p q : Story) → s ++ more ≡ p ++ q → ((r : Story) × (s ≡ p ++ r) × (q ≡ r ++ more)) ⊎ ((r : Story) × (p ≡ s ++ r) × (more ≡ r ++ q))
split [] more p q e = inr (p, refl, e)
split (m ∷ s) more [] q e = inl (m ∷ s, refl, sym e)
split (m ∷ s) more (x ∷ p) q e = elim (split s more p q (rest e)) [
  | inl k ↦ inl (k.0, both k.0 (first e) k.1, k.2)
  | inr k ↦ inr (k.0, both_of k.0 (first e) k.1, k.2)
]
  where
    first : m ∷ (s ++ more) ≡ x ∷ (p ++ q) → m ≡ x
    first e = cc

    rest : m ∷ (s ++ more) ≡ x ∷ (p ++ q) → s ++ more ≡ p ++ q
    rest e = cc

    both : (r : Story) → m ≡ x → s ≡ p ++ r → m ∷ s ≡ x ∷ (p ++ r)
    both r e f = cc

    both_of : (r : Story) → m ≡ x → p ≡ s ++ r → x ∷ p ≡ m ∷ (s ++ r)
    both_of r e f = cc

-- where nothing was closed, no moment is a close
none_closed : (s p q : Story) (n : ℕ) (how : How) → closed_in (acts_in s) ≡ 0 → s ≡ p ++ Did (Closed n how) ∷ q → ⊥
none_closed s p q n how none cut =
    let e = ap (λ t. closed_in (acts_in t)) cut ∙ closed-append p (Did (Closed n how) ∷ q) in
    omega (arith, e, none)

-- ---- pieces

pub piece_none : (n : ℕ) (phase : Phase) → IsPiece n phase []
piece_none n Phase.Reads = record { mine = tt; once = λ share. omega arith; came = refl; unclosed = refl; within = λ limits. tt; part = (tt, refl) }
piece_none n Phase.Writes = record { mine = tt; once = λ share. omega arith; came = refl; unclosed = refl; within = λ limits. tt; part = λ wrote. tt }
piece_none n Phase.Sweeps = record { mine = tt; once = λ share. omega arith; came = refl; unclosed = refl; within = λ limits. tt; part = λ wrote. tt }

pub piece_append : (n : ℕ) (phase : Phase) (a b : Story) → IsPiece n phase a → IsPiece n phase b → IsOnce phase (a ++ b) → IsPiece n phase (a ++ b)
piece_append n phase a b h k once = record {
  mine = Mine-append n a b h.mine k.mine;
  once = once;
  came = let e = came-append a b in let f = h.came in let g = k.came in omega (arith, e, f, g);
  unclosed = let e = closed-append a b in let f = h.unclosed in let g = k.unclosed in omega (arith, e, f, g);
  within = λ limits. AreWithin-append limits a b (h.within limits) (k.within limits);
  part = InPhase-append phase a b h.part k.part;
}

pub piece_ran : (n : ℕ) (turns : List Turn) → IsPiece n Phase.Reads (Ran n turns ∷ [])
piece_ran n turns = record { mine = (eq-eqb n n refl, tt); once = λ share. omega arith; came = refl; unclosed = refl; within = λ limits. tt; part = ((refl, tt), refl) }

one_read : (n : ℕ) (a : Act) → IsRead n a → IsPiece n Phase.Reads (Did a ∷ [])
one_read n (Read m bytes) h = record { mine = (h, tt); once = λ share. omega arith; came = refl; unclosed = refl; within = λ limits. (tt, tt); part = ((tt, tt), refl) }
one_read n (Dry m) h = record { mine = (h, tt); once = λ share. omega arith; came = refl; unclosed = refl; within = λ limits. (tt, tt); part = ((tt, tt), refl) }
one_read n (Ended m) h = record { mine = (h, tt); once = λ share. omega arith; came = refl; unclosed = refl; within = λ limits. (tt, tt); part = ((tt, tt), refl) }
one_read n (Broke m) h = record { mine = (h, tt); once = λ share. omega arith; came = refl; unclosed = refl; within = λ limits. (tt, tt); part = ((tt, tt), refl) }
one_read n act h = absurd h

-- at most one read is at most once a share of a turn
pub reads_once : (n : ℕ) (acts : List Act) → AreReads n acts → length acts ≤ 1 → (share : Share) → times share (told acts) ≤ reading share
reads_once n [] h few share = omega arith
reads_once n (a ∷ []) h few share = let e = one_share n a h.0 share in omega (arith, e)
  where
    one_share : (n : ℕ) (a : Act) → IsRead n a → (share : Share) → share_of a share ≡ reading share
    one_share n (Read m bytes) h share = refl
    one_share n (Dry m) h share = refl
    one_share n (Ended m) h share = refl
    one_share n (Broke m) h share = refl
    one_share n act h share = absurd h
reads_once n (a ∷ b ∷ acts) h few share = absurd (omega (arith, few))

pub piece_reads : (n : ℕ) (acts : List Act) → AreReads n acts → length acts ≤ 1 → IsPiece n Phase.Reads (told acts)
piece_reads n [] h few = piece_none n Phase.Reads
piece_reads n (a ∷ []) h few = one_read n a h.0
piece_reads n (a ∷ b ∷ acts) h few = absurd (omega (arith, few))

one_write : (n : ℕ) (a : Act) → IsWrite n a → IsPiece n Phase.Writes (Did a ∷ [])
one_write n (Wrote m bytes) h = record { mine = (h, tt); once = λ share. omega arith; came = refl; unclosed = refl; within = λ limits. (tt, tt); part = λ wrote. (tt, tt) }
one_write n (Failed m) h = record { mine = (h, tt); once = λ share. omega arith; came = refl; unclosed = refl; within = λ limits. (tt, tt); part = λ wrote. (tt, tt) }
one_write n act h = absurd h

pub piece_writes : (n : ℕ) (acts : List Act) → AreWrites n acts → length acts ≤ 1 → IsPiece n Phase.Writes (told acts)
piece_writes n [] h few = piece_none n Phase.Writes
piece_writes n (a ∷ []) h few = one_write n a h.0
piece_writes n (a ∷ b ∷ acts) h few = absurd (omega (arith, few))

-- reads and writes close nothing
plain_end : (a : Act) → closed_by a ≡ 0 → ends_well a ≡ false
plain_end (Closed m how) h = absurd (omega (arith, h))
plain_end act h = refl

pub plain_ends : (acts : List Act) → closed_in acts ≡ 0 → end_well acts ≡ false
plain_ends [] h = refl
plain_ends (a ∷ acts) h =
    let one : closed_by a ≡ 0 = omega (arith, h) in
    let more : closed_in acts ≡ 0 = omega (arith, h) in
    ap (λ v. v || end_well acts) (plain_end a one) ∙ plain_ends acts more

-- ---- one moment

-- a story stays in order where at most one moment is added
ordered_more : (s : Story) (m : Moment) → IsOrdered s → IsPart (acts_in (s ++ m ∷ [])) (turns_in (s ++ m ∷ []))
    → IsOrdered (s ++ m ∷ [])
ordered_more s m h last p q e = elim (split s (m ∷ []) p q e) [ inl k ↦ h p k.0 k.1 | inr k ↦ at_end k.0 k.1 k.2 ]
  where
    Fits : Story → Type 0
    Fits t = IsPart (acts_in t) (turns_in t)

    at_end : (r : Story) → p ≡ s ++ r → m ∷ [] ≡ r ++ q → IsPart (acts_in p) (turns_in p)
    at_end [] is cut = subst (λ t. IsPart (acts_in t) (turns_in t)) (sym is) (h (s ++ []) [] (sym (append-nil (s ++ []) ∙ append-nil s)))
    at_end (x ∷ []) is cut = subst (λ t. IsPart (acts_in t) (turns_in t)) (sym is) (subst (λ y. IsPart (acts_in (s ++ y ∷ [])) (turns_in (s ++ y ∷ []))) (same cut) last)
      where
        same : m ∷ [] ≡ x ∷ q → m ≡ x
        same e = cc
    at_end (x ∷ y ∷ r) is cut = absurd (never (ap length cut))
      where
        never : 1 ≡ suc (suc (length (r ++ q))) → ⊥
        never e = omega (arith, e)

-- before any moment there is nothing to show
pub ready_none : HearsWhenReady []
ready_none p q m cut e = absurd (some p cut)
  where
    some : (p : Story) → [] ≡ p ++ m ∷ q → ⊥
    some [] e = cc
    some (x ∷ p) e = cc

-- one more moment: where the connection is heard at it, it is ready before it
pub ready_more : (s : Story) (m : Moment) → HearsWhenReady s → (hears m ≡ true → IsReady (acts_in s) (turns_in s)) → HearsWhenReady (s ++ m ∷ [])
ready_more s m h last p q x cut e = elim (split s (m ∷ []) p (x ∷ q) cut) [ inl k ↦ inside k.0 k.1 k.2 | inr k ↦ at_end k.0 k.1 k.2 ]
  where
    first : {y : Moment} {r : Story} → x ∷ q ≡ y ∷ r → x ≡ y
    first e = cc

    here : p ≡ s → x ≡ m → IsReady (acts_in p) (turns_in p)
    here f g = subst (λ t. IsReady (acts_in t) (turns_in t)) (sym f) (last (subst (λ y. hears y ≡ true) g e))

    inside : (r : Story) → s ≡ p ++ r → x ∷ q ≡ r ++ m ∷ [] → IsReady (acts_in p) (turns_in p)
    inside [] f g = here (sym (f ∙ append-nil p)) (first g)
    inside (y ∷ r) f g = h p r x (f ∙ ap (λ z. p ++ z ∷ r) (sym (first g))) e

    at_end : (r : Story) → p ≡ s ++ r → m ∷ [] ≡ r ++ x ∷ q → IsReady (acts_in p) (turns_in p)
    at_end [] f g = here (f ∙ append-nil s) (first (sym g))
    at_end (y ∷ r) f g = absurd (short (ap length g ∙ ap suc (length-append r (x ∷ q))))
      where
        short : 1 ≡ suc (length r + suc (length q)) → ⊥
        short e = omega (arith, e)

-- a client that did not ask to quit is ready, where its answers are written
ready_of : (s : Story) (v : View) → Lives s v → v.pending ≡ [] → v.quits ≡ false → IsReady (acts_in s) (turns_in s)
ready_of s v h none stays = record {
  came = h.came;
  unclosed = h.unclosed;
  written = sym (append-nil (wrote_in (acts_in s))) ∙ ap (λ w. wrote_in (acts_in s) ++ w) (sym none) ∙ h.live.text;
  unasked = sym h.live.asked ∙ stays;
  unended = h.unended;
  unfailed = h.unfailed;
}

-- a client after an answer of the system, which may be its end, or a fault
pub record HasLived (story : Story) (v : View) : Type 0 where
  pub live : IsLive (acts_in story) (turns_in story) v
  pub order : IsOrdered story
  pub ready : HearsWhenReady story
  pub came : came_in (acts_in story) ≡ 1
  pub unclosed : closed_in (acts_in story) ≡ 0

abbrev pub Reaches : View → View → Story → Type 0
Reaches v w more = (story : Story) → Lives story v → HasLived (story ++ more) w

pub reached : (v w : View) (a : Story) → Stays v w a → Reaches v w a
reached v w a h s live =
    let later = h s live in
    record { live = later.live; order = later.order; ready = later.ready; came = later.came; unclosed = later.unclosed }

-- a client is read only where its answers are written and it did not ask to quit
abbrev MayHear : View → List Act → Type 0
MayHear v [] = Unit {0}
MayHear v (a ∷ acts) = (is_read a ≡ true → (v.pending ≡ []) × (v.quits ≡ false)) × MayHear v acts

reads_hear : (v : View) (acts : List Act) → v.pending ≡ [] → v.quits ≡ false → MayHear v acts
reads_hear v [] none stays = tt
reads_hear v (a ∷ acts) none stays = (λ e. (none, stays), reads_hear v acts none stays)

writes_hear : (v : View) (n : ℕ) (acts : List Act) → AreWrites n acts → MayHear v acts
writes_hear v n [] h = tt
writes_hear v n (a ∷ acts) h = (λ e. absurd (unread a h.0 e), writes_hear v n acts h.1)
  where
    never : false ≡ true → ⊥
    never e = cc

    unread : (a : Act) → IsWrite n a → is_read a ≡ true → ⊥
    unread (Wrote m bytes) h e = never e
    unread (Failed m) h e = never e
    unread act h e = h

-- one answer of the system
reaches_one : (v w : View) (a : Act) → came_by a ≡ 0 → closed_by a ≡ 0 → (is_read a ≡ true → (v.pending ≡ []) × (v.quits ≡ false))
    → ((did : List Act) (ran : List Turn) → IsLive did ran v → IsLive (did ++ a ∷ []) ran w) → Reaches v w (Did a ∷ [])
reaches_one v w a came unclosed may goes s h = record {
  live = later;
  order = ordered_more s (Did a) h.order (live_part _ _ w later);
  ready = ready_more s (Did a) h.ready (λ e. let k = may e in ready_of s v h k.0 k.1);
  came = let e = came-append s (Did a ∷ []) in let f = h.came in omega (arith, e, f, came);
  unclosed = let e = closed-append s (Did a ∷ []) in let f = h.unclosed in omega (arith, e, f, unclosed);
}
  where
    later : IsLive (acts_in (s ++ Did a ∷ [])) (turns_in (s ++ Did a ∷ [])) w
    later =
        subst (λ x. IsLive x (turns_in (s ++ Did a ∷ [])) w) (sym (acts_in-append s (Did a ∷ [])))
        (subst (λ t. IsLive (acts_in s ++ a ∷ []) t w) (sym (turns_in-append s (Did a ∷ []) ∙ append-nil (turns_in s)))
        (goes (acts_in s) (turns_in s) h.live))

-- at most one
reaches_did : (v w : View) (acts : List Act) → length acts ≤ 1 → came_in acts ≡ 0 → closed_in acts ≡ 0 → MayHear v acts
    → ((did : List Act) (ran : List Turn) → IsLive did ran v → IsLive (did ++ acts) ran w) → Reaches v w (told acts)
reaches_did v w [] few came unclosed may goes s h =
    let later : IsLive (acts_in s) (turns_in s) w
    = subst (λ x. IsLive x (turns_in s) w) (append-nil (acts_in s)) (goes (acts_in s) (turns_in s) h.live) in
    subst (λ t. HasLived t w) (sym (append-nil s)) (record { live = later; order = h.order; ready = h.ready; came = h.came; unclosed = h.unclosed })
reaches_did v w (a ∷ []) few came unclosed may goes s h = reaches_one v w a (omega (arith, came)) (omega (arith, unclosed)) may.0 goes s h
reaches_did v w (a ∷ b ∷ acts) few came unclosed may goes s h = absurd (omega (arith, few))

-- what no answer says is not said
unsaid : (p : Act → Bool) (s : Story) (acts : List Act) → list_any p (acts_in s) ≡ false → list_any p acts ≡ false → list_any p (acts_in (s ++ told acts)) ≡ false
unsaid p s acts h k =
    ap (list_any p) (acts_in-append s (told acts) ∙ ap (λ a. acts_in s ++ a) (acts_in-told acts))
    ∙ list_any-append p (acts_in s) acts ∙ ap (λ b. b || list_any p acts) h ∙ k

-- it stays, where no answer is its end or a fault
pub stays_well : (v w : View) (acts : List Act) → AreWell acts → Reaches v w (told acts) → Stays v w (told acts)
stays_well v w acts well h s live =
    let later = h s live in
    record {
      live = later.live;
      order = later.order;
      ready = later.ready;
      came = later.came;
      unclosed = later.unclosed;
      unended = unsaid is_end s acts live.unended well.0;
      unfailed = unsaid is_fault s acts live.unfailed well.1;
    }

-- lines
pub stays_ran : (v w : View) (n : ℕ) (turns : List Turn) → v.pending ≡ [] → v.quits ≡ false
    → ((did : List Act) (ran : List Turn) → IsLive did ran v → IsLive did (ran ++ turns) w) → Stays v w (Ran n turns ∷ [])
stays_ran v w n turns none stays goes s h = record {
  live = later;
  order = ordered_more s (Ran n turns) h.order (live_part _ _ w later);
  ready = ready_more s (Ran n turns) h.ready (λ e. ready_of s v h none stays);
  unended = ap (list_any is_end) same ∙ h.unended;
  unfailed = ap (list_any is_fault) same ∙ h.unfailed;
  came = let e = came-append s (Ran n turns ∷ []) in let f = h.came in omega (arith, e, f);
  unclosed = let e = closed-append s (Ran n turns ∷ []) in let f = h.unclosed in omega (arith, e, f);
}
  where
    same : acts_in (s ++ Ran n turns ∷ []) ≡ acts_in s
    same = acts_in-append s (Ran n turns ∷ []) ∙ append-nil (acts_in s)

    later : IsLive (acts_in (s ++ Ran n turns ∷ [])) (turns_in (s ++ Ran n turns ∷ [])) w
    later =
        subst (λ x. IsLive x (turns_in (s ++ Ran n turns ∷ [])) w) (sym (acts_in-append s (Ran n turns ∷ []) ∙ append-nil (acts_in s)))
        (subst (λ t. IsLive (acts_in s) t w) (sym (turns_in-append s (Ran n turns ∷ []) ∙ ap (λ t. turns_in s ++ t) (append-nil turns)))
        (goes (acts_in s) (turns_in s) h.live))

pub stays_none : (v : View) → Stays v v []
stays_none v s h = subst (λ t. Lives t v) (sym (append-nil s)) h

pub stays_then : (u v w : View) (a b : Story) → Stays u v a → Stays v w b → Stays u w (a ++ b)
stays_then u v w a b h k s live = subst (λ t. Lives t w) (append_assoc s a b) (k (s ++ a) (h s live))

pub leaves_part : (how : How) (v w : View) (a : Story) → is_orderly how ≡ false → ((acts : List Act) (turns : List Turn) → IsReason how (acts ++ acts_in a) turns)
    → Reaches v w a → Leaves how v a
leaves_part how v w a not why h s live =
    let later = h s live in
    record { order = later.order; ready = later.ready; whole = λ yes. absurd (no (sym not ∙ yes)); stays = later.live.stays; why = subst (λ x. IsReason how x (turns_in (s ++ a))) (sym (acts_in-append s a)) (why (acts_in s) (turns_in (s ++ a))); came = later.came; unclosed = later.unclosed }
  where
    no : false ≡ true → ⊥
    no e = cc

pub leaves_whole : (how : How) (v w : View) (a : Story) → w.pending ≡ [] → ((w.quits ≡ true) ⊎ (w.waiting ≡ []))
    → ((acts : List Act) (turns : List Turn) → IsLive (acts ++ acts_in a) turns w → IsReason how (acts ++ acts_in a) turns)
    → Reaches v w a → Leaves how v a
leaves_whole how v w a none ends why h s live =
    let later = h s live in
    record {
      order = later.order;
      ready = later.ready;
      whole = λ yes. live_whole (acts_in (s ++ a)) (turns_in (s ++ a)) w later.live none ends;
      stays = later.live.stays;
      why = subst (λ x. IsLive x (turns_in (s ++ a)) w → IsReason how x (turns_in (s ++ a))) (sym (acts_in-append s a)) (why (acts_in s) (turns_in (s ++ a))) later.live;
      came = later.came;
      unclosed = later.unclosed;
    }

-- a client that nobody speaks for
pub leaves_silent : (v : View) → v.who ≡ None → Leaves how.Login v []
leaves_silent v is s live =
    let same = stays_none v s live in
    record {
      order = same.order;
      ready = same.ready;
      whole = λ yes. absurd (no yes);
      stays = same.live.stays;
      why = subst (Speaks None (turns_in (s ++ []))) is same.live.speaks;
      came = same.came;
      unclosed = same.unclosed;
    }
  where
    no : false ≡ true → ⊥
    no e = cc

-- a client whose speaker is gone
pub leaves_gone : (v : View) (who : Speaker) → v.who ≡ Some who → Leaves how.Gone v []
leaves_gone v who is s live =
    let same = stays_none v s live in
    record {
      order = same.order;
      ready = same.ready;
      whole = λ yes. absurd (no yes);
      stays = same.live.stays;
      why = (who, subst (Speaks None (turns_in (s ++ []))) is same.live.speaks);
      came = same.came;
      unclosed = same.unclosed;
    }
  where
    no : false ≡ true → ⊥
    no e = cc

-- a client whose speaker is one that the operator named
pub leaves_kicked : (v : View) (who : Speaker) → v.who ≡ Some who → Leaves how.Kicked v []
leaves_kicked v who is s live =
    let same = stays_none v s live in
    record {
      order = same.order;
      ready = same.ready;
      whole = λ yes. absurd (no yes);
      stays = same.live.stays;
      why = (who, subst (Speaks None (turns_in (s ++ []))) is same.live.speaks);
      came = same.came;
      unclosed = same.unclosed;
    }
  where
    no : false ≡ true → ⊥
    no e = cc

-- ---- the end of a client

-- a client is served
pub lives_served : (s : Story) (v : View) → Lives s v → IsServed s
lives_served s v h = record {
  order = h.order;
  ready = h.ready;
  whole = λ yes. absurd (no (sym h.live.stays ∙ yes));
  why = λ p q n how cut. absurd (none_closed s p q n how h.unclosed cut);
  once = let f = h.came in let g = h.unclosed in (omega (arith, f), omega (arith, f, g));
}
  where
    no : false ≡ true → ⊥
    no e = cc

module _ (how : How) (n : ℕ) (acts : List Act) (turns : List Turn) where
  reads : read_in (acts ++ Closed n how ∷ []) ≡ read_in acts
  reads = read_in-append acts (Closed n how ∷ []) ∙ append-nil (read_in acts)

  writes : wrote_in (acts ++ Closed n how ∷ []) ≡ wrote_in acts
  writes = wrote_in-append acts (Closed n how ∷ []) ∙ append-nil (wrote_in acts)

  closed_part : IsPart acts turns → IsPart (acts ++ Closed n how ∷ []) turns
  closed_part part = record {
    heard = part.heard;
    unheard = part.unheard;
    missing = part.missing;
    last_who = part.last_who;
    read = reads ∙ part.read;
    ran = part.ran;
    speaks = part.speaks;
    text = ap (λ w. w ++ part.missing) writes ∙ part.text;
    last = part.last;
  }

  closed_whole : (is_orderly how ≡ true → IsWhole acts turns) → end_well acts ≡ false → end_well (acts ++ Closed n how ∷ []) ≡ true
      → IsWhole (acts ++ Closed n how ∷ []) turns
  closed_whole whole stays well =
      let w = whole (ordered (is_orderly how) (sym ends ∙ well)) in
      record { last_who = w.last_who; ran = w.ran ∙ ap served (sym reads); speaks = w.speaks; text = writes ∙ w.text }
    where
      ends : end_well (acts ++ Closed n how ∷ []) ≡ (is_orderly how || false)
      ends = end_well-append acts (Closed n how ∷ []) ∙ ap (λ b. b || (is_orderly how || false)) stays

      ordered : (b : Bool) → (b || false) ≡ true → b ≡ true
      ordered true e = refl
      ordered false e = e

at_closed : (how : How) (n : ℕ) (s : Story) (P : List Act → List Turn → Type 0) → P (acts_in s ++ Closed n how ∷ []) (turns_in s)
    → P (acts_in (s ++ Did (Closed n how) ∷ [])) (turns_in (s ++ Did (Closed n how) ∷ []))
at_closed how n s P p =
    subst (λ a. P a (turns_in (s ++ Did (Closed n how) ∷ []))) (sym (acts_in-append s (Did (Closed n how) ∷ [])))
    (subst (λ t. P (acts_in s ++ Closed n how ∷ []) t) (sym (turns_in-append s (Did (Closed n how) ∷ []) ∙ append-nil (turns_in s))) p)

closed_why : (how : How) (n : ℕ) (s : Story) → IsLeft how s → HasReason (s ++ Did (Closed n how) ∷ [])
closed_why how n s h p q m other cut = elim (split s (Did (Closed n how) ∷ []) p (Did (Closed m other) ∷ q) cut) [
  | inl k ↦ inside k.0 k.1 k.2
  | inr k ↦ at_end k.0 k.1 k.2
]
  where
    same : {r : Story} → Did (Closed m other) ∷ q ≡ Did (Closed n how) ∷ r → other ≡ how
    same e = cc

    first : (x : Moment) (r : Story) → Did (Closed m other) ∷ q ≡ x ∷ r → x ≡ Did (Closed m other)
    first x r e = cc

    of_it : p ≡ s → other ≡ how → IsReason other (acts_in p) (turns_in p)
    of_it e f = subst (λ t. IsReason other (acts_in t) (turns_in t)) (sym e) (subst (λ w. IsReason w (acts_in s) (turns_in s)) (sym f) h.why)

    inside : (r : Story) → s ≡ p ++ r → Did (Closed m other) ∷ q ≡ r ++ Did (Closed n how) ∷ [] → IsReason other (acts_in p) (turns_in p)
    inside [] e f = of_it (sym (e ∙ append-nil p)) (same f)
    inside (x ∷ r) e f = absurd (none_closed s p r m other h.unclosed (e ∙ ap (λ y. p ++ y ∷ r) (first x (r ++ Did (Closed n how) ∷ []) f)))

    at_end : (r : Story) → p ≡ s ++ r → Did (Closed n how) ∷ [] ≡ r ++ Did (Closed m other) ∷ q → IsReason other (acts_in p) (turns_in p)
    at_end [] e f = of_it (e ∙ append-nil s) (same (sym f))
    at_end (x ∷ r) e f = absurd (short (ap length f ∙ ap suc (length-append r (Did (Closed m other) ∷ q))))
      where
        short : 1 ≡ suc (length r + suc (length q)) → ⊥
        short e = omega (arith, e)

-- a client was closed
pub left_served : (how : How) (n : ℕ) (s : Story) → IsLeft how s → IsServed (s ++ Did (Closed n how) ∷ [])
left_served how n s h = record {
  order = ordered_more s (Did (Closed n how)) h.order
      (at_closed how n s (IsPart) (closed_part how n (acts_in s) (turns_in s) (subst (λ t. IsPart (acts_in t) (turns_in t)) (append-nil s) (h.order (s ++ []) [] (sym (append-nil (s ++ []) ∙ append-nil s))))));
  ready = ready_more s (Did (Closed n how)) h.ready (λ e. absurd (never e));
  whole = at_closed how n s (λ a t. end_well a ≡ true → IsWhole a t) (closed_whole how n (acts_in s) (turns_in s) h.whole h.stays);
  why = λ p q m other cut. closed_why how n s h p q m other cut;
  once = let e = came-append s (Did (Closed n how) ∷ []) in let f = closed-append s (Did (Closed n how) ∷ []) in let k = h.came in let o = h.unclosed in
      (omega (arith, e, k), omega (arith, e, f, k, o));
}
  where
    never : false ≡ true → ⊥
    never e = cc

-- ---- fates

pub ends_then : (how : How) (u v : View) (a b : Story) → Stays u v a → Ends how v b → Ends how u (a ++ b)
ends_then how u v a b h k = (
  k.0,
  λ s live. subst (IsLeft how) (append_assoc s a b) (k.1 (s ++ a) (h s live)),
)

-- ---- reads, lines and writes

reads_plain : (n : ℕ) (acts : List Act) → AreReads n acts → length acts ≤ 1 → (came_in acts ≡ 0) × (closed_in acts ≡ 0)
reads_plain n acts h few =
    let piece = piece_reads n acts h few in
    (ap came_in (sym (acts_in-told acts)) ∙ piece.came, ap closed_in (sym (acts_in-told acts)) ∙ piece.unclosed)

writes_plain : (n : ℕ) (acts : List Act) → AreWrites n acts → length acts ≤ 1 → (came_in acts ≡ 0) × (closed_in acts ≡ 0)
writes_plain n acts h few =
    let piece = piece_writes n acts h few in
    (ap came_in (sym (acts_in-told acts)) ∙ piece.came, ap closed_in (sym (acts_in-told acts)) ∙ piece.unclosed)

-- the connection is seen anew
renumber : (acts : List Act) (turns : List Turn) (v : View) (n : ℕ) (more : Bool) → IsLive acts turns v → IsLive acts turns (record v { number = n; more = more })
renumber acts turns v n more l = record {
  heard = l.heard;
  read = l.read;
  ran = l.ran;
  holds = l.holds;
  speaks = l.speaks;
  text = l.text;
  last = l.last;
  asked = l.asked;
  stays = l.stays;
}

pub reaches_read : (v : View) (m n : ℕ) (acts : List Act) (bytes : List ℕ) (more : Bool) → v.pending ≡ [] → v.quits ≡ false → v.waiting ≡ [] → AreReads m acts → length acts ≤ 1
    → read_in acts ≡ bytes → wrote_in acts ≡ [] → Reaches v (record v { waiting = bytes; number = n; more = more }) (told acts)
reaches_read v m n acts bytes more written stays none reads few read wrote =
    let plain = reads_plain m acts reads few in
    reaches_did v (record v { waiting = bytes; number = n; more = more }) acts few plain.0 plain.1 (reads_hear v acts written stays)
    (λ did ran live. renumber (did ++ acts) ran (record v { waiting = bytes }) n more (live_read did ran v live acts bytes none read wrote (plain_ends acts plain.1)))

pub reaches_send : (v : View) (m n : ℕ) (acts : List Act) (pending waiting : List ℕ) (more : Bool) → waiting ≡ v.waiting → AreWrites m acts → length acts ≤ 1
    → wrote_in acts ++ pending ≡ v.pending → read_in acts ≡ [] → Reaches v (record v { pending = pending; waiting = waiting; number = n; more = more }) (told acts)
reaches_send v m n acts pending waiting more same writes few wrote read =
    let plain = writes_plain m acts writes few in
    subst (λ w. Reaches v (record v { pending = pending; waiting = w; number = n; more = more }) (told acts)) (sym same)
    (reaches_did v (record v { pending = pending; number = n; more = more }) acts few plain.0 plain.1 (writes_hear v m acts writes)
    (λ did ran live. renumber (did ++ acts) ran (record v { pending = pending }) n more (live_send did ran v live acts pending wrote read (plain_ends acts plain.1))))

-- the system was asked whether the journal takes records of its tenant
live_took : (did : List Act) (ran : List Turn) (v : View) (n : ℕ) (name : List ℕ) (limit : Option ℕ) (takes : Bool) → IsLive did ran v → IsLive (did ++ Took n name limit takes ∷ []) ran v
live_took did ran v n name limit takes l = record {
  heard = l.heard;
  read = read_in-append did (Took n name limit takes ∷ []) ∙ append-nil (read_in did) ∙ l.read;
  ran = l.ran;
  holds = l.holds;
  speaks = l.speaks;
  text = ap (λ w. w ++ v.pending) (wrote_in-append did (Took n name limit takes ∷ []) ∙ append-nil (wrote_in did)) ∙ l.text;
  last = l.last;
  asked = l.asked;
  stays = end_well-append did (Took n name limit takes ∷ []) ∙ ap (λ b. b || false) l.stays;
}

pub stays_took : (v : View) (n : ℕ) (name : List ℕ) (limit : Option ℕ) (takes : Bool) → Stays v v (told (Took n name limit takes ∷ []))
stays_took v n name limit takes =
    stays_well v v (Took n name limit takes ∷ []) (refl, refl)
    (reaches_did v v (Took n name limit takes ∷ []) (omega arith) refl refl ((λ e. absurd (never e)), tt) (λ did ran l. live_took did ran v n name limit takes l))
  where
    never : false ≡ true → ⊥
    never e = cc

-- a read, and then lines
pub acts_heard : (n : ℕ) (acts : List Act) (turns : List Turn) → acts_in (told acts ++ Ran n turns ∷ []) ≡ acts
acts_heard n acts turns = acts_in-append (told acts) (Ran n turns ∷ []) ∙ append-nil (acts_in (told acts)) ∙ acts_in-told acts

pub turns_heard : (n : ℕ) (acts : List Act) (turns : List Turn) → turns_in (told acts ++ Ran n turns ∷ []) ≡ turns
turns_heard n acts turns =
    turns_in-append (told acts) (Ran n turns ∷ []) ∙ ap (λ t. t ++ (turns ++ [])) (turns_in-told acts) ∙ append-nil turns

pub piece_heard : (n : ℕ) (acts : List Act) (turns : List Turn) → AreReads n acts → length acts ≤ 1 → IsPiece n Phase.Reads (told acts ++ Ran n turns ∷ [])
piece_heard n acts turns reads few =
    piece_append n Phase.Reads (told acts) (Ran n turns ∷ []) (piece_reads n acts reads few) (piece_ran n turns) (λ share.
    let one = reads_once n acts reads few share in
    let all = times_after (told acts) share in
    omega (arith, one, all))
  where
    times_after : (a : Story) (share : Share) → times share (a ++ Ran n turns ∷ []) ≡ times share a + running share
    times_after [] share = omega arith
    times_after (m ∷ a) share = let e = times_after a share in omega (arith, e)

-- what an answer says stays said
pub said_after : (p : Act → Bool) (acts more : List Act) → list_any p more ≡ true → list_any p (acts ++ acts_in (told more)) ≡ true
said_after p acts more h =
    ap (λ m. list_any p (acts ++ m)) (acts_in-told more) ∙ list_any-append p acts more ∙ ap (λ b. list_any p acts || b) h ∙ or_true (list_any p acts)
  where
    or_true : (b : Bool) → (b || true) ≡ true
    or_true true = refl
    or_true false = refl
