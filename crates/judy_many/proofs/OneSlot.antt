-- What a piece of a round, and what an accept, does to one slot.
use Rattle.std.proofs.Common.{◌≡◌, ◌+◌, ℕ, suc, true, false, List, [], ◌∷◌, ◌++◌, length, Option, None, Some, arith, sym, ◌∙◌, ap, subst, refl, append_assoc}
use Rattle.std.specs.Prelude.{option_map}
use Rattle.std.proofs.lemmas.List.{length-append}
use Rattle.judy_model.specs.Speakers.{Speaker}
use Rattle.judy_protocol.specs.Talks.{Holds}
use Rattle.judy_many.specs.Lives.{IsLive, IsPart, IsReason, IsServed, SlotDid, View, is_orderly, read_in, wrote_in}
use Rattle.judy_many.specs.Nets.{Act}
use Rattle.judy_many.specs.Nets.Act.{Came, Refused, Closed}
use Rattle.judy_many.specs.Arrivals.{Arrives, IsArrival}
use Rattle.judy_many.specs.Sessions.{Turn}
use Rattle.judy_many.specs.Stories.{Phase, IsAllowed, InPhase, IsPiece, Story, acts_in, turns_in}
use Rattle.judy_many.specs.Stories.Moment.{Did}
use Rattle.judy_many.specs.declared.serve.Limits.{Limits}
use Rattle.judy_many.specs.declared.network.How.{How}
use Rattle.judy_many.specs.declared.network.How.TheVariants as how
use Rattle.judy_many.specs.Fates.{Leaves, Stays}
use Rattle.judy_many.proofs.Owning.{same_eq}
use Rattle.judy_many.proofs.Turning.{times-append}
use Rattle.judy_many.proofs.Journals.{keeps_quiet}
use Rattle.judy_many.proofs.Living.{live_part}
use Rattle.judy_many.proofs.Telling.{AreWithin-append, InPhase-append, Mine-append, came-append, closed-append, leaves_gone, leaves_kicked, leaves_part, leaves_silent, left_served, piece_none, reached, ready_more, ready_none, stays_none}

never : false ≡ true → ⊥
never e = cc

-- what a piece of a round does to a slot
module _ {B : Type 0} (view : B → View) (limits : Limits) (phase : Phase) where
  -- there was no client
  pub did_none : (s t : Option B) → s ≡ None → t ≡ None → SlotDid limits phase (option_map view s) (option_map view t) []
  did_none s t e f =
      subst (λ o. SlotDid limits phase (option_map view o) (option_map view t) []) (sym e)
      (subst (λ o. SlotDid limits phase None (option_map view o) []) (sym f) (refl, refl))

  -- the client stays
  pub did_stay : (s : Option B) (b : B) (w : View) (more : Story) → Some b ≡ s → w.number ≡ (view b).number → IsPiece (view b).number phase more
      → Stays (view b) w more → SlotDid limits phase (option_map view s) (Some w) more
  did_stay s b w more e same piece stays =
      subst (λ o. SlotDid limits phase (option_map view o) (Some w) more) e (piece.mine, piece.came, piece.within limits, piece.part, piece.once, (same, piece.unclosed, stays))

  -- the client was closed
  pub did_left : (h : How) (s t : Option B) (b : B) (more : Story) → Some b ≡ s → t ≡ None → IsPiece (view b).number phase more → IsAllowed limits h
      → Leaves h (view b) more → SlotDid limits phase (option_map view s) (option_map view t) (more ++ Did (Closed (view b).number h) ∷ [])
  did_left h s t b more e f piece allowed leaves =
      let n = (view b).number in
      let last : Story = Did (Closed n h) ∷ [] in
      let came = came-append more last in
      let closed = closed-append more last in
      let none = piece.came in
      let unclosed = piece.unclosed in
      subst (λ o. SlotDid limits phase (option_map view o) (option_map view t) (more ++ last)) e
      (subst (λ o. SlotDid limits phase (Some (view b)) (option_map view o) (more ++ last)) (sym f) (
        Mine-append n more last piece.mine (same_eq n, tt),
        omega (arith, came, none),
        AreWithin-append limits more last (piece.within limits) (allowed, tt),
        InPhase-append phase more last piece.part (closing phase n h),
        (λ share. let e = times-append share more last in let f = piece.once share in omega (arith, e, f)),
        (omega (arith, closed, unclosed), λ did live. subst (IsServed) (append_assoc did more last) (left_served h n (did ++ more) (leaves did live))),
      ))
    where
      closing : (phase : Phase) (n : ℕ) (h : How) → InPhase phase (Did (Closed n h) ∷ [])
      closing Phase.Reads n h = ((tt, tt), refl)
      closing Phase.Writes n h = λ wrote. (tt, tt)
      closing Phase.Sweeps n h = λ wrote. (tt, tt)

  -- the client was closed without a turn
  pub did_idle : (h : How) (s t : Option B) (b : B) → is_orderly h ≡ false → ((acts : List Act) (turns : List Turn) → IsReason h acts turns) → IsAllowed limits h → Some b ≡ s → t ≡ None
      → SlotDid limits phase (option_map view s) (option_map view t) (Did (Closed (view b).number h) ∷ [])
  did_idle h s t b not why allowed e f =
      did_left h s t b [] e f (piece_none (view b).number phase) allowed (leaves_part h (view b) (view b) [] not (λ acts turns. why (acts ++ []) turns) (reached (view b) (view b) [] (stays_none (view b))))

  -- the client was closed, since nobody speaks for it
  pub did_silent : (s t : Option B) (b : B) → (view b).who ≡ None → IsAllowed limits how.Login → Some b ≡ s → t ≡ None
      → SlotDid limits phase (option_map view s) (option_map view t) (Did (Closed (view b).number how.Login) ∷ [])
  did_silent s t b is allowed e f = did_left how.Login s t b [] e f (piece_none (view b).number phase) allowed (leaves_silent (view b) is)

  -- the client was closed, since its speaker is gone
  pub did_gone : (s t : Option B) (b : B) (who : Speaker) → (view b).who ≡ Some who → IsAllowed limits how.Gone → Some b ≡ s → t ≡ None
      → SlotDid limits phase (option_map view s) (option_map view t) (Did (Closed (view b).number how.Gone) ∷ [])
  did_gone s t b who is allowed e f = did_left how.Gone s t b [] e f (piece_none (view b).number phase) allowed (leaves_gone (view b) who is)

  -- the client was closed, since the operator named its speaker
  pub did_kicked : (s t : Option B) (b : B) (who : Speaker) → (view b).who ≡ Some who → IsAllowed limits how.Kicked → Some b ≡ s → t ≡ None
      → SlotDid limits phase (option_map view s) (option_map view t) (Did (Closed (view b).number how.Kicked) ∷ [])
  did_kicked s t b who is allowed e f = did_left how.Kicked s t b [] e f (piece_none (view b).number phase) allowed (leaves_kicked (view b) who is)

-- a client came
pub arrived : (n i : ℕ) → IsArrival 1 0 (Did (Came n i) ∷ [])
arrived n i = record { came_is = refl; closed_is = refl; within = λ limits. (tt, tt); none = refl; silent = λ share. refl; waited = refl; unlost = refl; untold = refl; stay = refl; unasked = λ stage. ((tt, tt), refl); part = ((tt, tt), refl); unchanged = refl; unkept = λ j. keeps_quiet j _ refl }

-- none came
pub came_not : {B : Type 0} (view : B → View) (s : Option B) (n i : ℕ) → s ≡ None → Arrives n i false (option_map view s) []
came_not view s n i e = subst (λ o. Arrives n i false (option_map view o) []) (sym e)
    (record { came_is = refl; closed_is = refl; within = λ limits. tt; none = refl; silent = λ share. refl; waited = refl; unlost = refl; untold = refl; stay = refl; unasked = λ stage. (tt, refl); part = (tt, refl); unchanged = refl; unkept = λ j. keeps_quiet j _ refl }, λ m. refl)

-- one could not be accepted
pub refused : {B : Type 0} (view : B → View) (s : Option B) (n i : ℕ) → s ≡ None → Arrives n i false (option_map view s) (Did Refused ∷ [])
refused view s n i e = subst (λ o. Arrives n i false (option_map view o) (Did Refused ∷ [])) (sym e)
    (record { came_is = refl; closed_is = refl; within = λ limits. (tt, tt); none = refl; silent = λ share. refl; waited = refl; unlost = refl; untold = refl; stay = refl; unasked = λ stage. ((tt, tt), refl); part = ((tt, tt), refl); unchanged = refl; unkept = λ j. keeps_quiet j _ refl }, λ m. refl)

-- a client came, and is in the slot
pub came_in_slot : (v : View) (n i : ℕ) → v.number ≡ n → Holds [] v.held → v.who ≡ None → v.waiting ≡ [] → v.pending ≡ [] → v.quits ≡ false
    → Arrives n i true (Some v) (Did (Came n i) ∷ [])
came_in_slot v n i is held who waiting pending quits = (
  arrived n i,
  is,
  refl,
  record { waiting = waiting; pending = pending },
  (same_eq n, tt),
  record {
    live = live;
    order = λ p q cut. at_each p q cut;
    ready = ready_more [] (Did (Came n i)) ready_none (λ e. absurd (never e));
    came = refl;
    unclosed = refl;
    unended = refl;
    unfailed = refl;
  },
)
  where
    live : IsLive (Came n i ∷ []) [] v
    live = record {
      heard = [];
      read = sym waiting;
      ran = refl;
      holds = held;
      speaks = who;
      text = pending;
      last = refl;
      asked = quits;
      stays = refl;
    }

    at_each : (p q : Story) → Did (Came n i) ∷ [] ≡ p ++ q → IsPart (acts_in p) (turns_in p)
    at_each [] q cut = record { heard = []; unheard = []; missing = []; last_who = None; read = refl; ran = refl; speaks = refl; text = refl; last = refl }
    at_each (x ∷ []) q cut = subst (λ y. IsPart (acts_in (y ∷ [])) (turns_in (y ∷ []))) (one cut) (live_part (Came n i ∷ []) [] v live)
      where
        one : Did (Came n i) ∷ [] ≡ x ∷ q → Did (Came n i) ≡ x
        one e = cc
    at_each (x ∷ y ∷ p) q cut = absurd (short (ap length cut))
      where
        short : 1 ≡ suc (suc (length (p ++ q))) → ⊥
        short e = omega (arith, e)

-- a client came and was closed
pub dropped : {B : Type 0} (view : B → View) (s : Option B) (n i : ℕ) → s ≡ None
    → Arrives n i true (option_map view s) (Did (Came n i) ∷ Did (Closed n how.Memory) ∷ [])
dropped view s n i e = subst (λ o. Arrives n i true (option_map view o) (Did (Came n i) ∷ Did (Closed n how.Memory) ∷ [])) (sym e) (
  record { came_is = refl; closed_is = refl; within = λ limits. (tt, (tt, tt)); none = refl; silent = λ share. refl; waited = refl; unlost = refl; untold = refl; stay = refl; unasked = λ stage. ((tt, (tt, tt)), refl); part = ((tt, (tt, tt)), refl); unchanged = refl; unkept = λ j. keeps_quiet j _ refl },
  (same_eq n, (same_eq n, tt)),
  record {
    order = λ p q cut. at_each p q cut;
    ready = ready_more (Did (Came n i) ∷ []) (Did (Closed n how.Memory)) (ready_more [] (Did (Came n i)) ready_none (λ e. absurd (never e))) (λ e. absurd (never e));
    whole = λ yes. absurd (never yes);
    why = λ p q m other cut. reason p q m other cut;
    once = (omega arith, omega arith);
  },
)
  where
    nothing_yet : (acts : List Act) → read_in acts ≡ [] → wrote_in acts ≡ [] → IsPart acts []
    nothing_yet acts read wrote = record {
      heard = [];
      unheard = [];
      missing = [];
      last_who = None;
      read = read;
      ran = refl;
      speaks = refl;
      text = ap (λ w. w ++ []) wrote;
      last = refl;
    }

    reason : (p q : Story) (m : ℕ) (other : How) → Did (Came n i) ∷ Did (Closed n how.Memory) ∷ [] ≡ p ++ Did (Closed m other) ∷ q → IsReason other (acts_in p) (turns_in p)
    reason [] q m other cut = absurd (apart cut)
      where
        apart : Did (Came n i) ∷ Did (Closed n how.Memory) ∷ [] ≡ Did (Closed m other) ∷ q → ⊥
        apart e = cc
    reason (x ∷ []) q m other cut =
        subst (λ y. IsReason other (acts_in (y ∷ [])) (turns_in (y ∷ []))) (first cut)
        (subst (λ h. IsReason h (Came n i ∷ []) []) (one cut) (refl, refl))
      where
        first : Did (Came n i) ∷ Did (Closed n how.Memory) ∷ [] ≡ x ∷ Did (Closed m other) ∷ q → Did (Came n i) ≡ x
        first e = cc

        one : Did (Came n i) ∷ Did (Closed n how.Memory) ∷ [] ≡ x ∷ Did (Closed m other) ∷ q → how.Memory ≡ other
        one e = cc
    reason (x ∷ y ∷ p) q m other cut = absurd (short (ap length cut ∙ ap (λ k. suc (suc k)) (length-append p (Did (Closed m other) ∷ q))))
      where
        short : 2 ≡ suc (suc (length p + suc (length q))) → ⊥
        short e = omega (arith, e)

    at_each : (p q : Story) → Did (Came n i) ∷ Did (Closed n how.Memory) ∷ [] ≡ p ++ q → IsPart (acts_in p) (turns_in p)
    at_each [] q cut = nothing_yet [] refl refl
    at_each (x ∷ []) q cut = subst (λ y. IsPart (acts_in (y ∷ [])) (turns_in (y ∷ []))) (one cut) (nothing_yet (Came n i ∷ []) refl refl)
      where
        one : Did (Came n i) ∷ Did (Closed n how.Memory) ∷ [] ≡ x ∷ q → Did (Came n i) ≡ x
        one e = cc
    at_each (x ∷ y ∷ []) q cut = subst (λ z. IsPart (acts_in (z ∷ y ∷ [])) (turns_in (z ∷ y ∷ []))) (one cut)
        (subst (λ z. IsPart (acts_in (Did (Came n i) ∷ z ∷ [])) (turns_in (Did (Came n i) ∷ z ∷ []))) (two cut) (nothing_yet (Came n i ∷ Closed n how.Memory ∷ []) refl refl))
      where
        one : Did (Came n i) ∷ Did (Closed n how.Memory) ∷ [] ≡ x ∷ y ∷ q → Did (Came n i) ≡ x
        one e = cc

        two : Did (Came n i) ∷ Did (Closed n how.Memory) ∷ [] ≡ x ∷ y ∷ q → Did (Closed n how.Memory) ≡ y
        two e = cc
    at_each (x ∷ y ∷ z ∷ p) q cut = absurd (short (ap length cut))
      where
        short : 2 ≡ suc (suc (suc (length (p ++ q)))) → ⊥
        short e = omega (arith, e)
