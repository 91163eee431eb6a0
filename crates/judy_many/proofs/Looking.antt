-- Whole lines among bytes, and what a turn does to what is known of a client.
use Rattle.std.proofs.Common.{◌≡◌, ◌⊎◌, inl, inr, ◌<◌, ◌≤◌, ◌+◌, ℕ, Bool, true, false, ◌&&◌, List, [], ◌∷◌, ◌++◌, length, Option, None, Some, arith, sym, ◌∙◌, ap, subst, refl}
use Rattle.std.proofs.lemmas.Bool.Decides.{eqb_tells}
use Rattle.std.specs.List.{list_all}
use Rattle.std.specs.Prelude.{◌==◌, IsTrue, not, option_map, if◌then◌else◌}
use Rattle.judy_protocol.specs.Talks.{HasNoLf}
use Rattle.judy_many.specs.Lives.{View, wrote_in}
use Rattle.judy_many.specs.Nets.{Act, Acts, DidLog, wait_acts}
use Rattle.judy_many.specs.Queues.{AreAwake, Line}
use Rattle.judy_many.specs.Woken.{HasWoken}
use Rattle.judy_many.specs.Nets.Act.{Read, Dry, Ended, Broke, Wrote, Failed}
use Rattle.judy_many.specs.Sessions.{Turn}
use Rattle.judy_many.specs.Stories.{AreReads, AreWrites, Story, told}
use Rattle.judy_many.specs.Stories.Moment.{Did, Ran}
use Rattle.judy_many.specs.declared.queue.Left.{Left}
use Rattle.judy_many.specs.Watches.{HasHalf, HasLine, HearsAll, IsHeard, IsKept, IsStill, IsUnread, IsClosedOr, IsUnpended, LeftTells, Listens, Relays, Skips, SlotListens, SlotTells, TellsMore, Watch, own_after, watch_after, watch_since}
use Rattle.judy_many.proofs.Owning.{same_eq}
use Rattle.judy_many.proofs.Watching.{watch-append}

true_false : true ≡ false → ⊥
true_false e = cc

false_true : false ≡ true → ⊥
false_true e = cc

and_right : (a b : Bool) → IsTrue (a && b) → IsTrue b
and_right true b h = h
and_right false b h = absurd (false_true h)

no_feed : (chunk after : List ℕ) → HasNoLf (chunk ++ 10 ∷ after) → ⊥
no_feed [] after h = absurd (false_true h)
no_feed (c ∷ chunk) after h = no_feed chunk after (and_right (not (c == 10)) (list_all (λ b. not (b == 10)) (chunk ++ 10 ∷ after)) h)

-- where no byte is a line feed no line is whole
pub no_line : (rest bytes : List ℕ) → rest ≡ bytes → HasLine bytes → HasNoLf rest → ⊥
no_line rest bytes e (chunk, after, is, none) h = no_feed chunk after (subst HasNoLf (e ∙ is) h)

-- what is left of a buffer from one place to another that is not the same is not nothing
pub some_between : (text : List ℕ) (from to : ℕ) → length text + from ≡ to → (from == to) ≡ false → text ≡ [] → ⊥
some_between text from to e apart none = elim (eqb_tells from to) [
  | inl p ↦ true_false (sym p.0 ∙ apart)
  | inr p ↦ p.1 (let f = ap length none in omega (arith, e, f))
]

pub some_beyond : (text : List ℕ) (from to : ℕ) → length text + from ≡ to → (to == from) ≡ false → text ≡ [] → ⊥
some_beyond text from to e apart none = elim (eqb_tells to from) [
  | inl p ↦ true_false (sym p.0 ∙ apart)
  | inr p ↦ p.1 (let f = ap length none in omega (arith, e, f))
]

pub some_left : (rest : List ℕ) (left : ℕ) → length rest ≡ left → (rest ≡ [] → ⊥) → 0 < left
some_left [] left e some = absurd (some refl)
some_left (x ∷ rest) left e some = omega (arith, e)

pub less_of : (a b : Bool) → (a ≡ true → b ≡ true) → b ≡ false → a ≡ false
less_of true b h e = absurd (true_false (sym (h refl) ∙ e))
less_of false b h e = refl

-- the slots that a wait told of; none, where the answers are not known
pub woken : (result : Option Bool) (sleeps : Bool) (line : Line) (log log' : Acts) → HasWoken result sleeps line log log'
    → (told : List ℕ) × AreAwake told line × DidLog log (wait_acts result sleeps told) log'
woken result sleeps line None log' h = ([], λ i e. absurd (false_true e), tt)
woken result sleeps line (Some log) log' h = h

-- ---- one moment of a connection

-- what a moment of its own does to what is known of it, if it is no wait
watch_did : (n i : ℕ) (w : Watch) (a : Act) → AreReads n (a ∷ []) → watch_after n i w (Did a) ≡ own_after (Did a) w
watch_did n i w (Read m bytes) h = ap (λ b. if b then own_after (Did (Read m bytes)) w else w) h.0
watch_did n i w (Dry m) h = ap (λ b. if b then own_after (Did (Dry m)) w else w) h.0
watch_did n i w (Ended m) h = ap (λ b. if b then own_after (Did (Ended m)) w else w) h.0
watch_did n i w (Broke m) h = ap (λ b. if b then own_after (Did (Broke m)) w else w) h.0
watch_did n i w act h = absurd h.0

watch_wrote : (n i : ℕ) (w : Watch) (a : Act) → AreWrites n (a ∷ []) → watch_after n i w (Did a) ≡ record w { unasked = false; turned = true }
watch_wrote n i w (Wrote m bytes) h = ap (λ b. if b then record w { unasked = false; turned = true } else w) h.0
watch_wrote n i w (Failed m) h = ap (λ b. if b then record w { unasked = false; turned = true } else w) h.0
watch_wrote n i w act h = absurd h.0

watch_ran : (n i : ℕ) (w : Watch) (turns : List Turn) → watch_after n i w (Ran n turns) ≡ own_after (Ran n turns) w
watch_ran n i w turns = ap (λ b. if b then own_after (Ran n turns) w else w) (same_eq n)

-- after a read: what is unread is what the read says, and the connection had a turn
pub record AfterRead (w' : Watch) (more : Bool) : Type 0 where
  pub unread : w'.unread ≡ more
  pub turned : w'.turned ≡ true

after_read : (w : Watch) (a : Act) (more : Bool) → TellsMore (a ∷ []) more → AfterRead (own_after (Did a) w) more
after_read w (Read m bytes) more h = record { unread = sym h; turned = refl }
after_read w (Dry m) more h = record { unread = sym h; turned = refl }
after_read w (Ended m) more h = record { unread = sym h; turned = refl }
after_read w (Broke m) more h = record { unread = sym h; turned = refl }
after_read w act more h = absurd h

pub watch_read : (n i : ℕ) (w : Watch) (acts : List Act) (more : Bool) → AreReads n acts → length acts ≤ 1 → TellsMore acts more → AfterRead (watch_since n i w (told acts)) more
watch_read n i w [] more h few tells = absurd tells
watch_read n i w (a ∷ []) more h few tells = subst (λ v. AfterRead v more) (sym (watch_did n i w a h)) (after_read w a more tells)
watch_read n i w (a ∷ b ∷ acts) more h few tells = absurd (omega (arith, few))

-- after lines: nothing that was unread is read, and the connection had a turn, if there were any
pub record AfterLines (w w' : Watch) (turns : List Turn) : Type 0 where
  pub unread : w'.unread ≡ w.unread
  pub turned : 0 < length turns → w'.turned ≡ true
  pub stays : w.turned ≡ true → w'.turned ≡ true

after_lines : (w : Watch) (n : ℕ) (turns : List Turn) → AfterLines w (own_after (Ran n turns) w) turns
after_lines w n [] = record { unread = refl; turned = λ some. absurd (omega (arith, some)); stays = λ e. e }
after_lines w n (t ∷ turns) = record { unread = refl; turned = λ some. refl; stays = λ e. refl }

pub watch_lines : (n i : ℕ) (w : Watch) (turns : List Turn) → AfterLines w (watch_since n i w (Ran n turns ∷ [])) turns
watch_lines n i w turns = subst (λ v. AfterLines w v turns) (sym (watch_ran n i w turns)) (after_lines w n turns)

-- ---- the first half of a turn

-- a client whose answers wait, or that quits, is not heard
pub listens_not : (v : View) → (v.pending ≡ [] → ⊥) ⊎ (v.quits ≡ true) → Listens v v []
listens_not v why i w kept before = (kept, heard before, half why)
  where
    heard : IsUnread v ⊎ IsHeard v w → IsHeard v w
    heard (inr h) = h
    heard (inl h) = λ quits none. by_why why quits none
      where
        by_why : (v.pending ≡ [] → ⊥) ⊎ (v.quits ≡ true) → v.quits ≡ false → v.more ≡ false → w.unread ≡ false
        by_why (inl some) quits none = absurd (true_false (sym (h some) ∙ none))
        by_why (inr q) quits none = absurd (true_false (sym q ∙ quits))

    half : (v.pending ≡ [] → ⊥) ⊎ (v.quits ≡ true) → HasHalf v w
    half (inl some) = inr (inl some)
    half (inr q) = inr (inr q)

-- lines that had come are heard
pub listens_held : (v v' : View) (n : ℕ) (turns : List Turn) (room : Type 0) → room → n ≡ v.number → v.quits ≡ false → (v.waiting ≡ [] → ⊥) → HearsAll room v v' turns
    → Listens v v' (Ran n turns ∷ [])
listens_held v v' n turns room has same quits some hears i w kept before =
    let after = watch_lines n i w turns in
    subst (λ m. IsKept v' × IsHeard v' (watch_since m i w (Ran n turns ∷ [])) × HasHalf v' (watch_since m i w (Ran n turns ∷ []))) same (
      record { more = hears.left; whole = hears.whole },
      λ q none. absurd (true_false (sym (kept.more some) ∙ hears.less none)),
      inl (after.turned (hears.some has (kept.whole some quits))),
    )

-- a read gave none
pub listens_dry : (v v' : View) (n : ℕ) (acts : List Act) → n ≡ v.number → AreReads n acts → length acts ≤ 1 → TellsMore acts v'.more → v'.waiting ≡ [] → Listens v v' (told acts)
listens_dry v v' n acts same reads few tells none i w kept before =
    let after = watch_read n i w acts v'.more reads few tells in
    subst (λ m. IsKept v' × IsHeard v' (watch_since m i w (told acts)) × HasHalf v' (watch_since m i w (told acts))) same (
      record { more = λ some. absurd (some none); whole = λ some. absurd (some none) },
      λ quits empty. after.unread ∙ empty,
      inl after.turned,
    )

-- lines that were read are heard
pub listens_read : (v u v' : View) (n : ℕ) (acts : List Act) (turns : List Turn) (room : Type 0) → n ≡ v.number → AreReads n acts → length acts ≤ 1 → TellsMore acts u.more → HearsAll room u v' turns
    → Listens v v' (told acts ++ Ran n turns ∷ [])
listens_read v u v' n acts turns room same reads few tells hears i w kept before =
    let first = watch_read n i w acts u.more reads few tells in
    let after = watch_lines n i (watch_since n i w (told acts)) turns in
    subst (λ m. IsKept v' × IsHeard v' (watch_since m i w (told acts ++ Ran n turns ∷ [])) × HasHalf v' (watch_since m i w (told acts ++ Ran n turns ∷ []))) same
    (subst (λ x. IsKept v' × IsHeard v' x × HasHalf v' x) (sym (watch-append n i w (told acts) (Ran n turns ∷ []))) (
      record { more = hears.left; whole = hears.whole },
      λ quits none. after.unread ∙ first.unread ∙ hears.less none,
      inl (after.stays first.turned),
    ))

-- ---- the second half

-- after a write
pub record AfterWrite (w w' : Watch) (wrote : Type 0) : Type 0 where
  pub unread : w'.unread ≡ w.unread
  pub stays : w.turned ≡ true → w'.turned ≡ true
  pub turned : wrote → w'.turned ≡ true
  pub asked : wrote → w'.unasked ≡ false

watch_write : (n i : ℕ) (w : Watch) (acts : List Act) → AreWrites n acts → length acts ≤ 1 → AfterWrite w (watch_since n i w (told acts)) (0 < length acts)
watch_write n i w [] h few = record { unread = refl; stays = λ e. e; turned = λ some. absurd (omega (arith, some)); asked = λ some. absurd (omega (arith, some)) }
watch_write n i w (a ∷ []) h few = subst (λ v. AfterWrite w v (0 < 1)) (sym (watch_wrote n i w a h)) (record { unread = refl; stays = λ e. refl; turned = λ some. refl; asked = λ some. refl })
watch_write n i w (a ∷ b ∷ acts) h few = absurd (omega (arith, few))

-- what the client keeps after a write: its bytes that wait are the same, and so is whether it quits
module _ (v v' : View) (n : ℕ) (acts : List Act) (same : n ≡ v.number) (writes : AreWrites n acts) (few : length acts ≤ 1)
    (wrote : (v.pending ≡ [] → ⊥) → 0 < length acts) (waiting : v'.waiting ≡ v.waiting) (quit : v'.quits ≡ v.quits) where
  keeps : (v.more ≡ true → v'.more ≡ true) → IsKept v → IsKept v'
  keeps more kept = record {
    more = λ some. more (kept.more (λ e. some (waiting ∙ e)));
    whole = λ some quits. subst HasLine (sym waiting) (kept.whole (λ e. some (waiting ∙ e)) (sym quit ∙ quits));
  }

  turns : v.quits ≡ false ⊎ (v.pending ≡ [] → ⊥) → (i : ℕ) (w : Watch) → HasHalf v w → (watch_since n i w (told acts)).turned ≡ true
  turns stays i w (inl turned) = (watch_write n i w acts writes few).stays turned
  turns stays i w (inr (inl some)) = (watch_write n i w acts writes few).turned (wrote some)
  turns (inl stay) i w (inr (inr q)) = absurd (true_false (sym q ∙ stay))
  turns (inr some) i w (inr (inr q)) = (watch_write n i w acts writes few).turned (wrote some)

  -- it may have another turn at once
  pub relays_more : v.quits ≡ false → v'.pending ≡ [] → v'.more ≡ v.more → Relays v v' (told acts) IsUnpended
  relays_more stays none more i w kept heard =
      subst (λ m. IsKept v' × IsHeard v' (watch_since m i w (told acts)) × IsUnpended v' (watch_since m i w (told acts)) × (HasHalf v w → (watch_since m i w (told acts)).turned ≡ true)) same (
        keeps (λ e. more ∙ e) kept,
        λ quits less. (watch_write n i w acts writes few).unread ∙ heard (sym quit ∙ quits) (sym more ∙ less),
        none,
        turns (inl stays) i w,
      )

  -- nothing is owed to it
  pub relays_drained : v.quits ≡ false → v'.pending ≡ [] → v'.waiting ≡ [] → v'.more ≡ false → v'.more ≡ v.more → Relays v v' (told acts) IsStill
  relays_drained stays none empty less more i w kept heard =
      subst (λ m. IsKept v' × IsHeard v' (watch_since m i w (told acts)) × IsStill v' (watch_since m i w (told acts)) × (HasHalf v w → (watch_since m i w (told acts)).turned ≡ true)) same (
        keeps (λ e. more ∙ e) kept,
        λ quits less. (watch_write n i w acts writes few).unread ∙ heard (sym quit ∙ quits) (sym more ∙ less),
        inl (none, empty, less, (watch_write n i w acts writes few).unread ∙ heard stays (sym more ∙ less)),
        turns (inl stays) i w,
      )

  -- its answers wait for the client
  pub relays_blocked : (v'.pending ≡ [] → ⊥) → (v.pending ≡ [] → ⊥) → v'.more ≡ true → Relays v v' (told acts) IsStill
  relays_blocked some before more i w kept heard =
      subst (λ m. IsKept v' × IsHeard v' (watch_since m i w (told acts)) × IsStill v' (watch_since m i w (told acts)) × (HasHalf v w → (watch_since m i w (told acts)).turned ≡ true)) same (
        keeps (λ e. more) kept,
        λ quits less. absurd (true_false (sym more ∙ less)),
        inr (some, more, (watch_write n i w acts writes few).asked (wrote before)),
        turns (inr before) i w,
      )

-- what is left of the answers was there before
pub left_before : (acts : List Act) (pending pending' : List ℕ) → wrote_in acts ++ pending' ≡ pending → (pending' ≡ [] → ⊥) → pending ≡ [] → ⊥
left_before acts pending pending' e some none = some (back (wrote_in acts) pending' (e ∙ none))
  where
    back : (a b : List ℕ) → a ++ b ≡ [] → b ≡ []
    back [] b e = e
    back (x ∷ a) b e = absurd (apart e)
      where
        apart : x ∷ (a ++ b) ≡ [] → ⊥
        apart e = cc

-- ---- slots

module _ {B : Type 0} (view : B → View) where
  pub listens_none : (share : ℕ) (counts : List ℕ) (s : Option B) (t : Option View) (more : Story) → s ≡ None → SlotListens share counts (option_map view s) t more
  listens_none share counts s t more e = subst (λ o. SlotListens share counts (option_map view o) t more) (sym e) tt

  pub listens_stay : (share : ℕ) (counts : List ℕ) (s : Option B) (b : B) (w : View) (more : Story) → Some b ≡ s → Listens (view b) w more ⊎ Skips share counts (view b) w more → SlotListens share counts (option_map view s) (Some w) more
  listens_stay share counts s b w more e h = subst (λ o. SlotListens share counts (option_map view o) (Some w) more) e h

  pub listens_left : (share : ℕ) (counts : List ℕ) (s t : Option B) (b : B) (more : Story) → Some b ≡ s → t ≡ None → SlotListens share counts (option_map view s) (option_map view t) more
  listens_left share counts s t b more e f = subst (λ o. SlotListens share counts (option_map view o) (option_map view t) more) e (subst (λ o. SlotListens share counts (Some (view b)) (option_map view o) more) (sym f) tt)

  pub listens_in : (share : ℕ) (counts : List ℕ) (s t : Option B) (b c : B) (more : Story) → s ≡ Some b → t ≡ Some c → SlotListens share counts (option_map view s) (option_map view t) more → Listens (view b) (view c) more ⊎ Skips share counts (view b) (view c) more
  listens_in share counts s t b c more e f h = subst (λ o. SlotListens share counts (Some (view b)) (option_map view o) more) f (subst (λ o. SlotListens share counts (option_map view o) (option_map view t) more) e h)

  pub tells_none : (left : Left) (s : Option B) (t : Option View) (more : Story) → s ≡ None → SlotTells left (option_map view s) t more
  tells_none left s t more e = subst (λ o. SlotTells left (option_map view o) t more) (sym e) tt

  pub tells_stay : (left : Left) (s : Option B) (b : B) (w : View) (more : Story) → Some b ≡ s → LeftTells left (view b) w more → SlotTells left (option_map view s) (Some w) more
  tells_stay left s b w more e h = subst (λ o. SlotTells left (option_map view o) (Some w) more) e h

  pub tells_left : (left : Left) (s t : Option B) (b : B) (more : Story) → Some b ≡ s → t ≡ None → SlotTells left (option_map view s) (option_map view t) more
  tells_left left s t b more e f = subst (λ o. SlotTells left (option_map view o) (option_map view t) more) e (subst (λ o. SlotTells left (Some (view b)) (option_map view o) more) (sym f) tt)

  pub tells_in : (left : Left) (s t : Option B) (b c : B) (more : Story) → s ≡ Some b → t ≡ Some c → SlotTells left (option_map view s) (option_map view t) more → LeftTells left (view b) (view c) more
  tells_in left s t b c more e f h = subst (λ o. SlotTells left (Some (view b)) (option_map view o) more) f (subst (λ o. SlotTells left (option_map view o) (option_map view t) more) e h)

  -- a client that was not closed is as it was
  pub closed_in_slot : (closed : Bool) (s t : Option B) (c : B) (more : Story) → t ≡ Some c → IsClosedOr closed (option_map view s) (option_map view t) more
      → (closed ≡ false) × (option_map view t ≡ option_map view s) × (more ≡ [])
  closed_in_slot true s t c more e h = absurd (apart (ap (option_map view) (sym e) ∙ h))
    where
      apart : Some (view c) ≡ None → ⊥
      apart e = cc
  closed_in_slot false s t c more e h = (refl, h.0, h.1)

  pub open_none : (s t : Option B) → s ≡ None → t ≡ None → IsClosedOr false (option_map view s) (option_map view t) []
  open_none s t e f = (ap (option_map view) (f ∙ sym e), refl)

  pub open_stay : (s : Option B) (b : B) → Some b ≡ s → IsClosedOr false (option_map view s) (Some (view b)) []
  open_stay s b e = (ap (option_map view) e, refl)

  pub closed_left : (s t : Option B) (more : Story) → t ≡ None → IsClosedOr true (option_map view s) (option_map view t) more
  closed_left s t more e = ap (option_map view) e
