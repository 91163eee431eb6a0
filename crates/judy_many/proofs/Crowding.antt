-- Many clients: what a turn of one does to all.
use Rattle.std.proofs.Common.{◌≡◌, ◌≢◌, ◌⊎◌, inl, inr, ◌<◌, ◌≤◌, ◌+◌, ℕ, zero, suc, Bool, true, false, List, [], ◌∷◌, ◌++◌, length, Option, None, Some, arith, sym, ◌∙◌, ap, subst, refl, append-nil, slice_set, slice_index_or}
use Rattle.std.specs.Prelude.{if◌then◌else◌, is_some, option_map}
use Rattle.std.proofs.lemmas.Bool.Decides.{eqb_tells}
use Rattle.judy_journal.specs.Leaving.{gone_records}
use Rattle.judy_many.specs.Barred.{IsInquired, SpeaksIn}
use Rattle.judy_many.specs.Books.{Journal}
use Rattle.judy_many.specs.Changes.{HasChanged, HasSaid, SlotGone}
use Rattle.judy_many.specs.Crowds.{At, Crowd, HasFailed, IsThere, IsTold, Past, at_stage, past_of, taken, taken_by}
use Rattle.judy_many.specs.Endings.{lost_in, waits_in}
use Rattle.judy_many.specs.Journaling.{AreSettled, AreWritten, Carries, Writes}
use Rattle.judy_many.specs.Queues.{AreAwake, IsBefore, IsPlaced, Line, StayAwake, awake_in, is_awake, mark_in, slot_in, stands, stands_in}
use Rattle.judy_many.specs.Lives.{IsServed, Lives, SlotDid, View}
use Rattle.judy_many.specs.Nets.{Act, Acts, DidLog}
use Rattle.judy_many.specs.Nets.Act.{Came, Named, Questioned, Replied, Reported, Tabled, Untabled, Waited, Warned}
use Rattle.std.specs.List.{list_any}
use Rattle.judy_many.specs.Arrivals.{Arrives, IsArrival}
use Rattle.judy_many.specs.Others.{AreLimited, IsLimited}
use Rattle.judy_many.specs.Present.{speaker_since, speakers_at}
use Rattle.judy_many.specs.Questions.{AreAsked, MayFail, MayReply, Stage, asks_kick, asks_reload, gones_in, read_stage, stage_since}
use Rattle.judy_many.specs.Rules.{Rules}
use Rattle.judy_many.specs.Sessions.{AreTurns, records_in}
use Rattle.judy_many.specs.Shares.{AreCounted, count_in, group_in, group_of}
use Rattle.judy_many.specs.Statuses.{HasAnswered, IsStatus, Lasts, Passes}
use Rattle.judy_many.specs.Warnings.{HasWarned, warning_acts}
use Rattle.judy_many.specs.Stories.{AreRead, AreSingle, AreWithin, Phase, InPhase, IsLate, IsOnce, IsPhased, IsWarning, Mine, Share, Story, acts_in, came_in, closed_in, most, own, times, told, turns_in, turns_since, writes_since}
use Rattle.judy_many.specs.Stories.Moment.{Changed, Did}
use Rattle.judy_many.specs.Watches.{Alert, Excused, IsAlert, IsClosedOr, IsOpen, Looks, Queued, is_seat, Rests, everybody, nobody, those_before, unqueued, watch}
use Rattle.judy_many.specs.declared.serve.Limits.{Limits}
use Rattle.judy_many.specs.declared.asking.Next.TheVariants as next
use Rattle.judy_many.specs.declared.network.Question.TheVariants as question
use Rattle.judy_many.proofs.Owning.{own-append, own-mine, own-other}
use Rattle.judy_many.proofs.Looking.{closed_in_slot}
use Rattle.judy_many.proofs.Queueing.{before_later, before_none, before_only}
use Rattle.judy_many.proofs.Seats.{At-here, At-index, At-keep, At-only, At-set, At-some, At-within, long_set, taken_at, taken_free, taken_most}
use Rattle.judy_many.proofs.Turning.{GoOn, fair-append, lost-append, mine_plain, since-append, since_fresh, since_most, since_other, since_quiet, still, takes_turn, waits-append}
use Rattle.judy_many.proofs.Singles.{AreSingle-append, quiet_single}
use Rattle.judy_many.proofs.Inquiring.{IsInquired-append, inquired_quiet, late_unasked}
use Rattle.judy_many.proofs.Limiting.{IsLimited-append, foreign_quiet, limited_quiet, limited_turn}
use Rattle.judy_many.proofs.Presence.{present, speaks_since}
use Rattle.judy_many.proofs.Passing.{AreRead-append, Lasts-append, Passes-append, lasts_plain, passes_plain, reads_plain}
use Rattle.judy_many.proofs.Beside.{IsAside, IsBeside, Passed, after_lines, beside, keeping, keeping_passes, later, reads_not_writes, stage_past, stays_past, told_lasts}
use Rattle.judy_many.proofs.Questioning.{AreAsked-append, is_unasked, keeping_unasked, mine_unasked, slot_stays, stage-append, unasked_since}
use Rattle.judy_many.proofs.Journals.{Carries-append, keeps_allowed, keeps_change, keeps_quiet, keeps_reply, keeps_turn, settled_turn}
use Rattle.judy_many.proofs.Recording.{noted_none}
use Rattle.judy_many.proofs.Living.{cut_log, then_log}
use Rattle.judy_many.proofs.Sharing.{AreFresh, Counts, Fills, SharesOn, counted_quiet, counts_none, fills_of, group_now, of_waited, shares-append, shares_quiet, shares_wait, turn_shared}
use Rattle.judy_many.proofs.Watching.{alert_anew, alert_beside, alert_comes, alert_keep, alert_looks, alert_read, alert_swept, alert_told, alert_turned, alert_waits, awake-append, each-append, no_looks}
use Rattle.judy_many.specs.declared.warnings.Warnings.{Warnings}
use Rattle.judy_many.proofs.Warned.{begins_requests}
use Rattle.judy_many.proofs.Telling.{AreWithin-append, IsPhased-append, acts_in-append, acts_in-told, came-append, closed-append, lives_served, split, writes_since-append}

-- ---- the whole story

module _ {B S : Type 0} (rules : Rules S) (limits : Limits) (first : S) (start : Acts) where
  -- more happened
  pub told_more : (phase phase' : Phase) (lost lost' : ℕ) (past past' : Past) (log log' : Acts) (slots slots' : List (Option B)) (count count' : ℕ) (now after : S) (story more : Story)
      → IsTold rules limits first start phase lost past log slots count now story
      → DidLog log (acts_in more) log' → Passes rules story now more after → Lasts rules (is_some limits.journal) now more after
      → count' ≡ count + came_in (acts_in more) → count' ≤ limits.connections
      → came_in (acts_in more) + taken slots ≡ closed_in (acts_in more) + taken slots'
      → taken slots + came_in (acts_in more) ≤ limits.clients → length slots' ≤ length slots
      → AreWithin limits (acts_in more)
      → IsPhased (writes_since false story) more
      → (phase' ≡ Phase.Reads → writes_since (writes_since false story) more ≡ false)
      → GoOn story more → SharesOn limits.share story more → lost' ≡ lost + lost_in (acts_in more) → Passed phase' past more past' → ((last : Option (List ℕ)) → AreRead limits last more) → Looks limits.share story more → IsLimited limits.tenant_clients story more → IsInquired (is_some limits.journal) story more
      → (limits.clients ≡ 1 → AreSingle more)
      → IsTold rules limits first start phase' lost' past' log' slots' count' after (story ++ more)
  told_more phase phase' lost lost' past past' log log' slots slots' count count' now after story more h k r l counts capped sums room sized within phases quiet turns shares lose passed reads looks limited inquired single = record {
    logged = subst (λ a. DidLog start a log') (sym (acts_in-append story more)) (then_log start log log' (acts_in story) (acts_in more) h.logged k);
    run = Passes-append rules [] first now after story more h.run r;
    lasts = Lasts-append rules (is_some limits.journal) first now after story more h.lasts l;
    total = let e = came-append story more in let f = h.total in omega (arith, e, f, counts);
    capped = capped;
    opened = let e = came-append story more in let f = closed-append story more in let o = h.opened in omega (arith, e, f, o, sums);
    sized = let e = h.sized in omega (arith, e, sized);
    small = let e = h.small in omega (arith, e, sized);
    few = λ p q cut. elim (split story more p q cut) [
      | inl c ↦ h.few p c.0 c.1
      | inr c ↦ at_end p q c.0 c.1 c.2
    ];
    within = AreWithin-append limits story more h.within within;
    phases = IsPhased-append false story more h.phases phases;
    quiet = λ e. writes_since-append false story more ∙ quiet e;
    fair = fair-append story more h.fair turns;
    shared = shares-append limits.share story more h.shared shares;
    unlost = let e = lost-append story more in let f = h.unlost in omega (arith, e, f, lose);
    waited = let e = waits-append story more in let f = h.waited in let wait = passed.waited in omega (arith, e, f, wait);
    reads = AreRead-append limits None story more h.reads reads;
    keeps = subst (λ b. Carries b (story ++ more) past'.journal) (sym passed.began) (Carries-append past.began past.journal past'.journal story more h.keeps passed.keeps);
    allowed = keeps_allowed limits past.journal past'.journal more h.allowed passed.keeps;
    settled = passed.settled;
    awake = awake-append limits.share story more h.awake looks;
    each = each-append limits.share story more h.each looks;
    limited = IsLimited-append limits.tenant_clients [] story more h.limited limited;
    inquired = IsInquired-append (is_some limits.journal) [] story more h.inquired inquired;
    asked = AreAsked-append Stage.Unasked story more h.asked (subst (λ s. AreAsked s more) (sym h.stage) passed.asked);
    stage = stage-append Stage.Unasked story more ∙ ap (λ s. stage_since s more) h.stage ∙ sym passed.stage;
    single = λ e. AreSingle-append story more (h.single e) (single e);
  }
    where
      at_end : (p q r : Story) → p ≡ story ++ r → more ≡ r ++ q → came_in (acts_in p) ≤ closed_in (acts_in p) + limits.clients
      at_end p q r is cut =
          let a : came_in (acts_in p) ≡ came_in (acts_in story) + came_in (acts_in r) = ap (λ t. came_in (acts_in t)) is ∙ came-append story r in
          let b : closed_in (acts_in p) ≡ closed_in (acts_in story) + closed_in (acts_in r) = ap (λ t. closed_in (acts_in t)) is ∙ closed-append story r in
          let c : came_in (acts_in more) ≡ came_in (acts_in r) + came_in (acts_in q) = ap (λ t. came_in (acts_in t)) cut ∙ came-append r q in
          let o = h.opened in
          omega (arith, a, b, c, o, room)

  -- the moments of one phase of a round
  told_phase : (phase : Phase) (lost : ℕ) (past : Past) (log : Acts) (slots : List (Option B)) (count : ℕ) (now : S) (story more : Story)
      → IsTold rules limits first start phase lost past log slots count now story → InPhase phase more
      → IsPhased (writes_since false story) more × (phase ≡ Phase.Reads → writes_since (writes_since false story) more ≡ false)
  told_phase Phase.Reads lost past log slots count now story more h part =
      let e = h.quiet refl in
      (subst (λ w. IsPhased w more) (sym e) part.0, λ same. ap (λ w. writes_since w more) e ∙ part.1)
  told_phase Phase.Writes lost past log slots count now story more h part = (part (writes_since false story), λ same. absurd (apart same))
    where
      apart : Phase.Writes ≡ Phase.Reads → ⊥
      apart e = cc
  told_phase Phase.Sweeps lost past log slots count now story more h part = (part (writes_since false story), λ same. absurd (apart same))
    where
      apart : Phase.Sweeps ≡ Phase.Reads → ⊥
      apart e = cc

-- ---- the crowd

never : false ≡ true → ⊥
never e = cc

below_or : (n count : ℕ) → (n < count) ⊎ (count ≤ n)
below_or n zero = inr (omega arith)
below_or zero (suc count) = inl (omega arith)
below_or (suc n) (suc count) = elim (below_or n count) [ inl p ↦ inl (omega (arith, p)) | inr p ↦ inr (omega (arith, p)) ]

reads_most : (share : Share) → most Phase.Reads share ≤ 1
reads_most Share.Reading = omega arith
reads_most Share.Asking = omega arith
reads_most Share.Running = omega arith
reads_most Share.Writing = omega arith

sweeps_not_reads : Phase.Sweeps ≡ Phase.Reads → ⊥
sweeps_not_reads e = cc

pub sweeps_not_writes : Phase.Sweeps ≡ Phase.Writes → ⊥
sweeps_not_writes e = cc

-- where nobody left no record is added
nobody_left : (left : List (List ℕ)) (past : Past) → left ≡ [] → after_lines (gone_records left) past ≡ past
nobody_left left past none = ap (λ l. after_lines (gone_records l) past) none ∙ ap (λ j. record past { journal = j }) (sym (noted_none past.journal))

module _ {B S : Type 0} (view : B → View) (rules : Rules S) (limits : Limits) (first : S) (start : Acts) where
  abbrev Now : Phase → Queued → Past → Acts → List (Option B) → ℕ → S → Type 0
  Now = Crowd view rules limits first start

  abbrev Told : Phase → Past → Acts → List (Option B) → ℕ → S → Story → Type 0
  Told phase past log slots count now story = IsTold rules limits first start phase 0 past log slots count now story

  -- connections that did not come have no moments
  fresh_of : (phase : Phase) (had : Queued) (past : Past) (log : Acts) (slots : List (Option B)) (count : ℕ) (now : S) (h : Now phase had past log slots count now) → AreFresh h.story
  fresh_of phase had past log slots count now h n over = let e = h.is_told.total in h.fresh n (omega (arith, e, over))

  -- what happened is no share of a turn
  pub shares_still : (phase : Phase) (had : Queued) (past : Past) (log : Acts) (slots : List (Option B)) (count : ℕ) (now : S) (h : Now phase had past log slots count now) (more : Story) → ((share : Share) → times share more ≡ 0) → waits_in (acts_in more) ≡ 0
      → SharesOn limits.share h.story more
  shares_still phase had past log slots count now h more none quiet =
      shares_quiet limits.share h.story more (fresh_of phase had past log slots count now h) h.is_told.shared (none Share.Reading) (none Share.Running) quiet

  counted_still : (phase : Phase) (had : Queued) (past : Past) (log : Acts) (slots : List (Option B)) (count : ℕ) (now : S) (h : Now phase had past log slots count now) (more : Story) → ((share : Share) → times share more ≡ 0) → waits_in (acts_in more) ≡ 0
      → phase ≡ Phase.Reads → AreCounted had.counts (h.story ++ more)
  counted_still phase had past log slots count now h more none quiet e =
      counted_quiet had.counts h.story more (fresh_of phase had past log slots count now h) (none Share.Reading) (none Share.Running) quiet (h.counted e)

  -- the slots that had no turn have had none after the moments of another connection
  open_other : (story more : Story) (n m : ℕ) (bound : Share → ℕ) → Mine n more → m ≢ n
      → ((share : Share) → turns_since m share 0 story + bound share ≤ 1) → (share : Share) → turns_since m share 0 (story ++ more) + bound share ≤ 1
  open_other story more n m bound mine d free share =
      let e = since-append m share 0 story more in
      let f = since_other n m share (turns_since m share 0 story) more mine d in
      let k = free share in
      omega (arith, e, f, k)

  module _ (phase : Phase) (had had' : Queued) (wider : (j : ℕ) → had.had j → had'.had j) (past past' : Past) (log log' : Acts) (slots : List (Option B)) (count : ℕ) (now after : S)
      (h : Now phase had past log slots count now) (n : ℕ) (more : Story) (mine : Mine n more) (calm : waits_in (acts_in more) ≡ 0) where
    abbrev story' : Story
    story' = h.story ++ more

    -- the moments of this connection, and those of another
    at_own : (P : Story → Type 0) → P (own n h.story ++ more) → P (own n story')
    at_own P p = subst P (sym (own-append n h.story more ∙ ap (λ l. own n h.story ++ l) (own-mine n more mine))) p

    at_other : (m : ℕ) → m ≢ n → (P : Story → Type 0) → P (own m h.story) → P (own m story')
    at_other m d P p =
        subst P (sym (own-append m h.story more ∙ ap (λ l. own m h.story ++ l) (own-other n m more mine d) ∙ append-nil (own m h.story))) p

    -- what is known of the client of another slot
    alert' : (i j : ℕ) → ((j : ℕ) → j ≢ i → (v : View) (s : Story) → Alert limits.share phase had j v s → Alert limits.share phase had' j v s) → (c : B) → j ≢ i → (view c).number ≢ n → At slots j c → Alert limits.share phase had' j (view c) story'
    alert' i j beside c d e there = beside j d (view c) story' (alert_keep limits.share phase had j (view c) h.story more (own-other n (view c).number more mine e) calm (h.alert j c there))

    served' : IsServed (own n h.story ++ more) → (m : ℕ) → IsServed (own m story')
    served' k m = elim (eqb_tells m n) [
      | inl p ↦ subst (λ l. IsServed (own l story')) (sym p.1) (at_own (IsServed) k)
      | inr p ↦ at_other m p.1 (IsServed) (h.served m)
    ]

    fresh' : (bound : ℕ) → count ≤ bound → n < bound → (m : ℕ) → bound ≤ m → own m story' ≡ []
    fresh' bound above below m over =
        let d : m ≢ n = λ e. absurd (omega (arith, e)) in
        at_other m d (λ s. s ≡ []) (h.fresh m (omega arith))

    -- the client of slot i is gone
    pub gone : (i : ℕ) (b : B) → ((j : ℕ) → j ≢ i → (v : View) (s : Story) → Alert limits.share phase had j v s → Alert limits.share phase had' j v s) → At slots i b → (view b).number ≡ n → Told phase past' log' (slice_set slots i None) count after story'
        → closed_in (acts_in (own n h.story ++ more)) ≡ 1
        → IsServed (own n h.story ++ more) → (phase ≡ Phase.Reads → AreCounted had'.counts story') → Now phase had' past' log' (slice_set slots i None) count after
    gone i b beside at is told close s counted = record {
      story = story';
      is_told = told;
      below = λ j c there. h.below j c (others j c there).1;
      live = λ j c there.
          let p = others j c there in
          at_other (view c).number (λ e. p.0 (h.apart j i c b p.1 at (e ∙ sym is))) (λ t. Lives t (view c)) (h.live j c p.1);
      apart = λ j l c d there too e. h.apart j l c d (others j c there).1 (others l d too).1 e;
      fresh = fresh' count (omega arith) (subst (λ m. m < count) is (h.below i b at));
      served = served' s;
      ready = λ j c there not.
          let p = others j c there in
          open_other h.story more n (view c).number (most phase) mine (λ e. p.0 (h.apart j i c b p.1 at (e ∙ sym is))) (h.ready j c p.1 (λ k. not (wider j k)));
      ends = λ m few. elim (eqb_tells m n) [
        | inl p ↦ inl (subst (λ l. closed_in (acts_in (own l story')) ≡ 1) (sym p.1) (at_own (λ t. closed_in (acts_in t) ≡ 1) close))
        | inr p ↦ elim (h.ends m few) [
          | inl q ↦ inl (at_other m p.1 (λ t. closed_in (acts_in t) ≡ 1) q)
          | inr q ↦ inr (record {
            i = q.i;
            b = q.b;
            there = At-keep slots i None q.i q.b (apart_from m q p.1) q.there;
            is = q.is;
          })
        ]
      ];
      alert = λ j c there. let p = others j c there in alert' i j beside c p.0 (λ e. p.0 (h.apart j i c b p.1 at (e ∙ sym is))) p.1;
      counted = counted;
    }
      where
        nothing : (c : B) → None ≡ Some c → ⊥
        nothing c e = cc

        apart_from : (m : ℕ) (q : IsThere view slots m) → m ≢ n → q.i ≢ i
        apart_from m q d e =
            let same = At-only slots i q.b b (subst (λ j. At slots j q.b) e q.there) at in
            d (sym q.is ∙ ap (λ c. (view c).number) same ∙ is)

        others : (j : ℕ) (c : B) → At (slice_set slots i None) j c → (j ≢ i) × At slots j c
        others j c there = elim (At-set slots i None j c there) [ inl p ↦ absurd (nothing c p.1) | inr p ↦ p ]

    -- a client of this number is in slot i, where there was none or the one of this number
    pub seated : (i bound : ℕ) (s : B) → ((j : ℕ) → j ≢ i → (v : View) (s : Story) → Alert limits.share phase had j v s → Alert limits.share phase had' j v s) → Alert limits.share phase had' i (view s) story' → i < length slots → bound ≤ count + 1 → (bound ≡ count + 1 → n ≡ count)
        → ((m : ℕ) (q : IsThere view slots m) → m ≢ n → q.i ≢ i) → (view s).number ≡ n → count ≤ bound → n < bound
        → ((j : ℕ) (c : B) → j ≢ i → At slots j c → (view c).number ≢ n)
        → Told phase past' log' (slice_set slots i (Some s)) bound after story'
        → ((had'.had i → ⊥) → (share : Share) → turns_since n share 0 story' + most phase share ≤ 1)
        → Lives (own n h.story ++ more) (view s) → (phase ≡ Phase.Reads → AreCounted had'.counts story') → Now phase had' past' log' (slice_set slots i (Some s)) bound after
    seated i bound s beside alerted within highest last away is above under alone told free l counted = record {
      story = story';
      is_told = told;
      below = λ j c there. elim (At-set slots i (Some s) j c there) [
        | inl p ↦ subst (λ b. (view b).number < bound) (same c p.1) (subst (λ m. m < bound) (sym is) under)
        | inr p ↦ let q = h.below j c p.1 in omega arith
      ];
      live = λ j c there. elim (At-set slots i (Some s) j c there) [
        | inl p ↦ subst (λ b. Lives (own (view b).number story') (view b)) (same c p.1)
            (subst (λ m. Lives (own m story') (view s)) (sym is) (at_own (λ t. Lives t (view s)) l))
        | inr p ↦ at_other (view c).number (alone j c p.0 p.1) (λ t. Lives t (view c)) (h.live j c p.1)
      ];
      apart = λ j m c d there too e. both j m c d (At-set slots i (Some s) j c there) (At-set slots i (Some s) m d too) e;
      fresh = fresh' bound above under;
      served = served' (lives_served (own n h.story ++ more) (view s) l);
      ready = λ j c there not share. elim (At-set slots i (Some s) j c there) [
        | inl p ↦ subst (λ b. turns_since (view b).number share 0 story' + most phase share ≤ 1) (same c p.1)
            (subst (λ m. turns_since m share 0 story' + most phase share ≤ 1) (sym is) (free (λ k. not (subst had'.had (sym p.0) k)) share))
        | inr p ↦ open_other h.story more n (view c).number (most phase) mine (alone j c p.0 p.1) (h.ready j c p.1 (λ k. not (wider j k))) share
      ];
      ends = λ m few. elim (eqb_tells m n) [
        | inl p ↦ inr (record { i = i; b = s; there = At-here slots i s within; is = is ∙ sym p.1 })
        | inr p ↦ elim (h.ends m (before m few p.1)) [
          | inl q ↦ inl (at_other m p.1 (λ t. closed_in (acts_in t) ≡ 1) q)
          | inr q ↦ inr (record { i = q.i; b = q.b; there = At-keep slots i (Some s) q.i q.b (away m q p.1) q.there; is = q.is })
        ]
      ];
      alert = λ j c there. elim (At-set slots i (Some s) j c there) [
        | inl p ↦ subst (λ k. Alert limits.share phase had' k (view c) story') (sym p.0) (subst (λ b. Alert limits.share phase had' i (view b) story') (same c p.1) alerted)
        | inr p ↦ alert' i j beside c p.0 (alone j c p.0 p.1) p.1
      ];
      counted = counted;
    }
      where
        same : (c : B) → Some s ≡ Some c → s ≡ c
        same c e = cc

        before : (m : ℕ) → m < bound → m ≢ n → m < count
        before m few d = elim (eqb_tells bound (count + 1)) [
          | inl p ↦ let e = last p.1 in below_last m few d p.1 e
          | inr p ↦ let q = p.1 in short m few q
        ]
          where
            below_last : (m : ℕ) → m < bound → m ≢ n → bound ≡ count + 1 → n ≡ count → m < count
            below_last m few d e f = elim (eqb_tells m count) [ inl p ↦ absurd (d (p.1 ∙ sym f)) | inr p ↦ let q = p.1 in omega (arith, few, e, q) ]

            short : (m : ℕ) → m < bound → bound ≢ count + 1 → m < count
            short m few d = omega (arith, few, d, highest)

        numbered : (c : B) → Some s ≡ Some c → (view c).number ≡ n
        numbered c e = subst (λ b. (view b).number ≡ n) (same c e) is

        both : (j m : ℕ) (c d : B) → ((j ≡ i) × (Some s ≡ Some c)) ⊎ ((j ≢ i) × At slots j c) → ((m ≡ i) × (Some s ≡ Some d)) ⊎ ((m ≢ i) × At slots m d)
            → (view c).number ≡ (view d).number → j ≡ m
        both j m c d (inl p) (inl q) e = p.0 ∙ sym q.0
        both j m c d (inl p) (inr q) e = absurd (alone m d q.0 q.1 (sym e ∙ numbered c p.1))
        both j m c d (inr p) (inl q) e = absurd (alone j c p.0 p.1 (e ∙ numbered d q.1))
        both j m c d (inr p) (inr q) e = h.apart j m c d p.1 q.1 e

  -- What happened is no connection's. The slots have the same clients.
  foreign : (phase phase' : Phase) (had had' : Queued) (past past' : Past) (log log' : Acts) (slots slots' : List (Option B)) (count : ℕ) (now after : S) (h : Now phase had past log slots count now) (more : Story)
      → ((n : ℕ) → own n more ≡ []) → Told phase' past' log' slots' count after (h.story ++ more)
      → ((j : ℕ) (c : B) → At slots' j c → At slots j c) → ((j : ℕ) (c : B) → At slots j c → At slots' j c)
      → ((j : ℕ) (c : B) → At slots j c → (had'.had j → ⊥) → (share : Share) → turns_since (view c).number share 0 (h.story ++ more) + most phase' share ≤ 1)
      → ((j : ℕ) (c : B) → At slots j c → Alert limits.share phase' had' j (view c) (h.story ++ more)) → (phase' ≡ Phase.Reads → AreCounted had'.counts (h.story ++ more))
      → Now phase' had' past' log' slots' count after
  foreign phase phase' had had' past past' log log' slots slots' count now after h more none told back forth free alerts counted = record {
    story = h.story ++ more;
    is_told = told;
    below = λ j c there. h.below j c (back j c there);
    live = λ j c there. subst (λ t. Lives t (view c)) (sym (same (view c).number)) (h.live j c (back j c there));
    apart = λ j m c d there too e. h.apart j m c d (back j c there) (back m d too) e;
    fresh = λ n over. same n ∙ h.fresh n over;
    served = λ n. subst (IsServed) (sym (same n)) (h.served n);
    ready = λ j c there not. free j c (back j c there) not;
    ends = λ m few. elim (h.ends m few) [
      | inl q ↦ inl (subst (λ t. closed_in (acts_in t) ≡ 1) (sym (same m)) q)
      | inr q ↦ inr (record { i = q.i; b = q.b; there = forth q.i q.b q.there; is = q.is })
    ];
    alert = λ j c there. alerts j c (back j c there);
    counted = counted;
  }
    where
      same : (n : ℕ) → own n (h.story ++ more) ≡ own n h.story
      same n = own-append n h.story more ∙ ap (λ l. own n h.story ++ l) (none n) ∙ append-nil (own n h.story)

  -- the same, where what happened is no share of a turn
  open_still : (phase : Phase) (had had' : Queued) (past : Past) (log : Acts) (slots : List (Option B)) (count : ℕ) (now : S) (h : Now phase had past log slots count now) (more : Story)
      → ((j : ℕ) → had.had j → had'.had j) → ((share : Share) → times share more ≡ 0)
      → (j : ℕ) (c : B) → At slots j c → (had'.had j → ⊥) → (share : Share) → turns_since (view c).number share 0 (h.story ++ more) + most phase share ≤ 1
  open_still phase had had' past log slots count now h more wider none j c there not share =
      let e = since-append (view c).number share 0 h.story more in
      let f = since_most (view c).number share (turns_since (view c).number share 0 h.story) more in
      let k = h.ready j c there (λ k. not (wider j k)) share in
      let n = none share in
      omega (arith, e, f, k, n)

  -- what happened beside: it changes no client and no slot
  aside_to : (phase : Phase) (had : Queued) (past past' : Past) (log log' : Acts) (slots : List (Option B)) (count : ℕ) (now after : S) (more : Story) → IsBeside limits more
      → Passed phase past more past' → DidLog log (acts_in more) log' → ((h : Now phase had past log slots count now) → Passes rules h.story now more after) → Lasts rules (is_some limits.journal) now more after → Now phase had past log slots count now → Now phase had past' log' slots count after
  aside_to phase had past past' log log' slots count now after more a passed k r l h =
      let came = a.came in
      let closed = a.closed in
      let lost = a.unlost in
      foreign phase phase had had past past' log log' slots slots count now after h more a.foreign
      (told_more rules limits first start phase phase 0 0 past past' log log' slots slots count count now after h.story more h.is_told k (r h) l (omega (arith, came)) h.is_told.capped
      (omega (arith, came, closed)) (let a = taken_most slots in let b = h.is_told.sized in omega (arith, a, b, came)) (omega arith) a.within
      (a.phases (writes_since false h.story)).0 (λ e. (a.phases (writes_since false h.story)).1 ∙ h.is_told.quiet e)
      (still h.story more h.is_told.fair a.silent) (shares_still phase had past log slots count now h more a.silent a.waited) (omega (arith, lost)) passed a.reads (no_looks limits.share h.story more a.waited) (limited_quiet limits.tenant_clients h.story more (foreign_quiet more a.foreign)) (inquired_quiet (is_some limits.journal) h.story more (foreign_quiet more a.foreign)) (λ e. quiet_single more (foreign_quiet more a.foreign)))
      (λ j c at. at) (λ j c at. at) (open_still phase had had past log slots count now h more (λ j k. k) a.silent)
      (λ j c at. alert_keep limits.share phase had j (view c) h.story more (a.foreign (view c).number) a.waited (h.alert j c at))
      (counted_still phase had past log slots count now h more a.silent a.waited)

  -- a question was asked or answered
  asks : (phase : Phase) (had : Queued) (past : Past) (stage : Stage) (log log' : Acts) (slots : List (Option B)) (count : ℕ) (now after : S) (more : Story) → IsAside limits more
      → AreAsked past.stage more → stage_since past.stage more ≡ stage
      → DidLog log (acts_in more) log' → ((h : Now phase had past log slots count now) → Passes rules h.story now more after) → Lasts rules (is_some limits.journal) now more after → Now phase had past log slots count now
      → Now phase had (at_stage stage past) log' slots count after
  asks phase had past stage log log' slots count now after more a asked is k r l h =
      aside_to phase had past (at_stage stage past) log log' slots count now after more (beside limits more a)
      (stage_past phase past stage more a.waited (keeps_quiet past.journal more a.quiet) h.is_told.settled asked is) k r l h

  -- nothing was asked or answered
  aside : (phase : Phase) (had : Queued) (past : Past) (log log' : Acts) (slots : List (Option B)) (count : ℕ) (now after : S) (more : Story) → IsAside limits more → is_unasked more ≡ true
      → DidLog log (acts_in more) log' → ((h : Now phase had past log slots count now) → Passes rules h.story now more after) → Lasts rules (is_some limits.journal) now more after → Now phase had past log slots count now → Now phase had past log' slots count after
  aside phase had past log log' slots count now after more a unasked k r l h =
      aside_to phase had past past log log' slots count now after more (beside limits more a)
      (stays_past phase past more a.waited (keeps_quiet past.journal more a.quiet) h.is_told.settled (unasked_since past.stage more unasked)) k r l h

  -- nothing was asked of the system
  pub idle : (phase : Phase) (had : Queued) (past : Past) (log log' : Acts) (slots : List (Option B)) (count : ℕ) (now : S) → DidLog log [] log' → Now phase had past log slots count now
      → Now phase had past log' slots count now
  idle phase had past log log' slots count now k h =
      aside phase had past log log' slots count now now []
      (record { foreign = λ n. refl; came = refl; closed = refl; within = tt; phases = λ wrote. (tt, refl); silent = λ share. refl; unlost = refl; waited = refl; reads = λ last. tt; quiet = refl }) refl k (λ h. refl) refl h

  -- at a wait nothing is owed to an open connection, if it may sleep, and each had its turn
  looks_waits : (line : Line) (past : Past) (log : Acts) (slots : List (Option B)) (count : ℕ) (now : S) (sleeps : Bool) (slots_told : List ℕ)
      → (sleeps ≡ true → (i : ℕ) → awake_in line i ≡ true → ⊥) → (h : Now Phase.Sweeps (nobody line) past log slots count now) → Looks limits.share h.story (Did (Waited sleeps slots_told) ∷ [])
  looks_waits line past log slots count now sleeps slots_told asleep h p q s t cut n i is_open =
      subst (λ r. (s ≡ true → Rests n i (h.story ++ r)) × (((watch n i (h.story ++ r)).turned ≡ true) ⊎ Excused limits.share n i (h.story ++ r))) (sym (at_front p cut))
      (subst (λ r. (s ≡ true → Rests n i r) × (((watch n i r).turned ≡ true) ⊎ Excused limits.share n i r)) (sym (append-nil h.story))
      (at_story (subst (λ r. IsOpen n i r) (append-nil h.story) (subst (λ r. IsOpen n i (h.story ++ r)) (at_front p cut) is_open))))
    where
      at_front : (p : Story) → Did (Waited sleeps slots_told) ∷ [] ≡ p ++ Did (Waited s t) ∷ q → p ≡ []
      at_front [] e = refl
      at_front (m ∷ []) e = cc
      at_front (m ∷ x ∷ p) e = cc

      alike : (p : Story) → Did (Waited sleeps slots_told) ∷ [] ≡ p ++ Did (Waited s t) ∷ q → s ≡ sleeps
      alike [] e = cc
      alike (m ∷ []) e = cc
      alike (m ∷ x ∷ p) e = cc

      of_slot : (k : ℕ) (b : B) → At slots k b → (view b).number ≡ n → IsOpen n i h.story → (s ≡ true → Rests n i h.story) × (((watch n i h.story).turned ≡ true) ⊎ Excused limits.share n i h.story)
      of_slot k b there is is_open =
          let alert = h.alert k b there in
          let here : i ≡ k = alert.seat i (subst (λ m. list_any (is_seat i) (acts_in (own m h.story)) ≡ true) (sym is) is_open.0) in
          let found = alert_looks limits.share line line k (view b) h.story sleeps slots_told (λ e. asleep e k) (h.live k b there) alert in
          subst (λ j. (s ≡ true → Rests n j h.story) × (((watch n j h.story).turned ≡ true) ⊎ Excused limits.share n j h.story)) (sym here)
          (subst (λ m. (s ≡ true → Rests m k h.story) × (((watch m k h.story).turned ≡ true) ⊎ Excused limits.share m k h.story)) is
          (λ e. found.0 (sym (alike p cut) ∙ e), found.1))

      at_story : IsOpen n i h.story → (s ≡ true → Rests n i h.story) × (((watch n i h.story).turned ≡ true) ⊎ Excused limits.share n i h.story)
      at_story is_open = elim (below_or n count) [
        | inl few ↦ elim (h.ends n few) [
          | inl closed ↦ absurd (omega (arith, closed, is_open.1))
          | inr q ↦ of_slot q.i q.b q.there q.is is_open
        ]
        | inr over ↦ absurd (never (ap (λ t. list_any (is_seat i) (acts_in t)) (sym (h.fresh n over)) ∙ is_open.0))
      ]

  -- the server waited
  has_waited : (line line' : Line) (past : Past) (log log' : Acts) (slots : List (Option B)) (count : ℕ) (now : S) (sleeps : Bool) (slots_told : List ℕ)
      → past.stage ≡ Stage.Unasked → (sleeps ≡ true → (i : ℕ) → awake_in line i ≡ true → ⊥) → StayAwake line line' → AreAwake slots_told line' → DidLog log (Waited sleeps slots_told ∷ []) log'
      → Now Phase.Sweeps (nobody line) past log slots count now → Now Phase.Reads (nobody line') (later past) log' slots count now
  has_waited line line' past log log' slots count now sleeps slots_told unasked asleep stay wakes k h =
      let last : Story = Did (Waited sleeps slots_told) ∷ [] in
      foreign Phase.Sweeps Phase.Reads (nobody line) (nobody line') past (later past) log log' slots slots count now now h last (λ n. refl)
      (told_more rules limits first start Phase.Sweeps Phase.Reads 0 0 past (later past) log log' slots slots count count now now h.story last h.is_told k (tt, refl) refl (omega arith) h.is_told.capped (omega arith)
      (let a = taken_most slots in let b = h.is_told.sized in omega (arith, a, b)) (omega arith) (tt, tt) (tt, tt) (λ e. refl)
      (still h.story last h.is_told.fair (λ share. refl)) (shares_wait limits.share h.story sleeps slots_told h.is_told.shared) refl
      (record { waited = refl; began = refl; keeps = keeps_quiet past.journal last refl; settled = λ e. absurd (reads_not_writes e); asked = (unasked, tt); stage = refl }) (λ last. tt)
      (looks_waits line past log slots count now sleeps slots_told asleep h) tt tt (λ e. tt))
      (λ j c at. at) (λ j c at. at) (λ j c at not share.
      let e : turns_since (view c).number share 0 (h.story ++ last) ≡ 0 = since-append (view c).number share 0 h.story last in
      let f = reads_most share in
      omega (arith, e, f))
      (λ j c at. alert_waits limits.share line line' j (view c) h.story sleeps slots_told stay wakes (h.live j c at) (h.alert j c at))
      (λ e g. of_waited g h.story sleeps slots_told)

  -- a status was asked for, and told
  has_told : (phase : Phase) (had : Queued) (waits : ℕ) (began journal : Option Journal) (log log' : Acts) (slots : List (Option B)) (count : ℕ) (now : S) (text : List ℕ) → limits.status ≡ true
      → IsStatus (rules.status now (speakers_at view slots)) text → DidLog log (Questioned question.Status ∷ Reported text ∷ []) log' → Now phase had (past_of waits began journal) log slots count now
      → Now phase had (past_of waits began journal) log' slots count now
  has_told phase had waits began journal log log' slots count now text watches tells k h =
      let past = past_of waits began journal in
      let asking = at_stage (Stage.Asks question.Status) past in
      let (mid, questioned, reports) = cut_log log log' (Questioned question.Status ∷ []) (Reported text ∷ []) k in
      let asked =
      asks phase had past (Stage.Asks question.Status) log mid slots count now now (Did (Questioned question.Status) ∷ [])
      (record {
        foreign = λ n. refl;
        came = refl;
        closed = refl;
        within = (watches, tt);
        phases = λ wrote. ((tt, tt), refl);
        silent = λ share. refl;
        unlost = refl;
        waited = refl;
        reads = λ last. tt;
        quiet = refl;
      }) (refl, tt) refl questioned (λ h. (tt, refl)) refl h in
      asks phase had asking Stage.Unasked mid log' slots count now now (Did (Reported text) ∷ [])
      (record {
        foreign = λ n. refl;
        came = refl;
        closed = refl;
        within = (watches, tt);
        phases = λ wrote. ((tt, tt), refl);
        silent = λ share. refl;
        unlost = refl;
        waited = refl;
        reads = λ last. tt;
        quiet = refl;
      }) (refl, tt) refl reports (λ h. ((speakers_at view slots, present view rules limits first start phase had asking mid slots count now h, tells), refl)) refl asked

  -- a line was told to the operator, if it was due
  has_warned : (phase : Phase) (had : Queued) (past : Past) (log log' : Acts) (slots : List (Option B)) (count : ℕ) (now : S) (due : Bool) (line : List ℕ) → IsWarning limits line
      → DidLog log (warning_acts due line) log' → Now phase had past log slots count now → Now phase had past log' slots count now
  has_warned phase had past log log' slots count now true line is k h =
      aside phase had past log log' slots count now now (Did (Warned line) ∷ [])
      (record { foreign = λ n. refl; came = refl; closed = refl; within = (is, tt); phases = λ wrote. ((tt, tt), refl); silent = λ share. refl; unlost = refl; waited = refl; reads = λ last. tt; quiet = refl }) refl k (λ h. (tt, refl)) refl h
  has_warned phase had past log log' slots count now false line is k h = idle phase had past log log' slots count now k h

  pub warned : (phase : Phase) (had : Queued) (past : Past) (log log' : Acts) (slots : List (Option B)) (count : ℕ) (now : S) {told told' : Warnings} {name : List ℕ} {refused short : ℕ}
      → HasWarned told name refused short log log' told' → Now phase had past log slots count now → Now phase had past log' slots count now
  warned phase had past log log' slots count now w h =
      has_warned phase had past w.mid log' slots count now _ _ (inr (inl (begins_requests _))) w.then_requests
      (has_warned phase had past log w.mid slots count now _ _ (inl w.tells.head) w.first h)

  -- the server goes on after it asked
  pub answered : (phase : Phase) (had : Queued) (waits : ℕ) (began journal : Option Journal) (log log' : Acts) (slots : List (Option B)) (count : ℕ) (now : S) (watches : Bool) → limits.status ≡ watches
      → HasAnswered watches next.Round (rules.status now (speakers_at view slots)) log log' → Now phase had (past_of waits began journal) log slots count now
      → Now phase had (past_of waits began journal) log' slots count now
  answered phase had waits began journal log log' slots count now true e (inl k) h = idle phase had (past_of waits began journal) log log' slots count now k h
  answered phase had waits began journal log log' slots count now true e (inr (text, tells, k)) h = has_told phase had waits began journal log log' slots count now text e tells k h
  answered phase had waits began journal log log' slots count now false e k h = idle phase had (past_of waits began journal) log log' slots count now k h

  -- it is asked to read the table again
  pub asked_again : (phase : Phase) (had : Queued) (waits : ℕ) (began journal : Option Journal) (log log' : Acts) (slots : List (Option B)) (count : ℕ) (now : S) (watches : Bool) → limits.status ≡ watches
      → HasAnswered watches next.Reload (rules.status now (speakers_at view slots)) log log' → Now phase had (past_of waits began journal) log slots count now
      → (limits.status ≡ true) × Now phase had (at_stage asks_reload (past_of waits began journal)) log' slots count now
  asked_again phase had waits began journal log log' slots count now false e bad h = absurd bad
  asked_again phase had waits began journal log log' slots count now true e k h = (
    e,
    asks phase had (past_of waits began journal) asks_reload log log' slots count now now (Did (Questioned question.Reload) ∷ [])
        (record { foreign = λ n. refl; came = refl; closed = refl; within = (e, tt); phases = λ wrote. ((tt, tt), refl); silent = λ share. refl; unlost = refl; waited = refl; reads = λ last. tt; quiet = refl }) (refl, tt) refl k (λ h. (tt, refl)) refl h,
  )

  -- the table was read, and put in force if it could be
  pub has_changed : (had : Queued) (past : Past) (log log' : Acts) (slots : List (Option B)) (count : ℕ) (now after : S) (changed : Bool) (left : List (List ℕ)) → limits.status ≡ true → past.stage ≡ asks_reload
      → HasChanged rules (is_some limits.journal) changed left log log' now after → Now Phase.Sweeps had past log slots count now
      → Now Phase.Sweeps had (at_stage (read_stage changed) (after_lines (gone_records left) past)) log' slots count after
  has_changed had past log log' slots count now after true left e asked (text, k, step, told) h =
      aside_to Phase.Sweeps had past (at_stage Stage.Renewed (after_lines (gone_records left) past)) log log' slots count now after (Did (Tabled text) ∷ Changed text left ∷ [])
      (record {
        foreign = λ n. refl;
        came = refl;
        closed = refl;
        within = (e, tt);
        phases = λ wrote. ((tt, (tt, tt)), refl);
        silent = λ share. refl;
        unlost = refl;
        waited = refl;
        reads = λ last. (refl, e, tt);
      })
      (record { waited = omega arith; began = refl; keeps = keeps_change past.journal text left; settled = λ e. absurd (sweeps_not_writes e); asked = (asked, (refl, tt)); stage = refl })
      k (λ h. (tt, (after, step, refl))) (after, step, told, refl) h
  has_changed had past log log' slots count now after false left e asked (same, none, inl k) h =
      subst (λ p. Now Phase.Sweeps had (at_stage Stage.Fetched p) log' slots count after) (sym (nobody_left left past none))
      (subst (λ s. Now Phase.Sweeps had (at_stage Stage.Fetched past) log' slots count s) (sym same)
      (asks Phase.Sweeps had past Stage.Fetched log log' slots count now now (Did Untabled ∷ [])
      (record { foreign = λ n. refl; came = refl; closed = refl; within = (e, tt); phases = λ wrote. ((tt, tt), refl); silent = λ share. refl; unlost = refl; waited = refl; reads = λ last. tt; quiet = refl }) (asked, tt) refl k (λ h. (tt, refl)) refl h))
  has_changed had past log log' slots count now after false left e asked (same, none, inr (text, k)) h =
      subst (λ p. Now Phase.Sweeps had (at_stage Stage.Fetched p) log' slots count after) (sym (nobody_left left past none))
      (subst (λ s. Now Phase.Sweeps had (at_stage Stage.Fetched past) log' slots count s) (sym same)
      (asks Phase.Sweeps had past Stage.Fetched log log' slots count now now (Did (Tabled text) ∷ [])
      (record { foreign = λ n. refl; came = refl; closed = refl; within = (e, tt); phases = λ wrote. ((tt, tt), refl); silent = λ share. refl; unlost = refl; waited = refl; reads = λ last. tt; quiet = refl }) (asked, tt) refl k (λ h. (tt, refl)) refl h))

  -- it is asked to close the connections of a tenant
  pub asked_kick : (phase : Phase) (had : Queued) (waits : ℕ) (began journal : Option Journal) (log log' : Acts) (slots : List (Option B)) (count : ℕ) (now : S) (watches : Bool) → limits.status ≡ watches
      → HasAnswered watches next.Kick (rules.status now (speakers_at view slots)) log log' → Now phase had (past_of waits began journal) log slots count now
      → (limits.status ≡ true) × Now phase had (at_stage asks_kick (past_of waits began journal)) log' slots count now
  asked_kick phase had waits began journal log log' slots count now false e bad h = absurd bad
  asked_kick phase had waits began journal log log' slots count now true e k h = (
    e,
    asks phase had (past_of waits began journal) asks_kick log log' slots count now now (Did (Questioned question.Kick) ∷ [])
        (record { foreign = λ n. refl; came = refl; closed = refl; within = (e, tt); phases = λ wrote. ((tt, tt), refl); silent = λ share. refl; unlost = refl; waited = refl; reads = λ last. tt; quiet = refl }) (refl, tt) refl k (λ h. (tt, refl)) refl h,
  )

  -- a tenant was named
  pub has_named : (phase : Phase) (had : Queued) (past : Past) (log log' : Acts) (slots : List (Option B)) (count : ℕ) (now : S) (name : List ℕ) → limits.status ≡ true → past.stage ≡ asks_kick
      → DidLog log (Named name ∷ []) log' → Now phase had past log slots count now → Now phase had (at_stage Stage.Chosen past) log' slots count now
  has_named phase had past log log' slots count now name e asked k h =
      asks phase had past Stage.Chosen log log' slots count now now (Did (Named name) ∷ []) (record { foreign = λ n. refl; came = refl; closed = refl; within = (e, tt); phases = λ wrote. ((tt, tt), refl); silent = λ share. refl; unlost = refl; waited = refl; reads = λ last. tt; quiet = refl }) (asked, tt) refl k (λ h. (tt, refl)) refl h

  -- the asker was answered
  pub has_answered : (phase : Phase) (had : Queued) (past : Past) (log log' : Acts) (slots : List (Option B)) (count : ℕ) (now : S) (reply : List ℕ) → limits.status ≡ true → MayReply past.stage → AreSettled past.journal
      → DidLog log (Replied reply ∷ []) log' → Now phase had past log slots count now → Now phase had (at_stage Stage.Unasked past) log' slots count now
  has_answered phase had past log log' slots count now reply e may settled k h =
      aside_to phase had past (at_stage Stage.Unasked past) log log' slots count now now (Did (Replied reply) ∷ [])
      (record { foreign = λ n. refl; came = refl; closed = refl; within = (e, tt); phases = λ wrote. ((tt, tt), refl); silent = λ share. refl; unlost = refl; waited = refl; reads = λ last. tt })
      (stage_past phase past Stage.Unasked (Did (Replied reply) ∷ []) refl (keeps_reply past.journal reply [] settled refl) (λ e. settled) (may, tt) refl) k (λ h. (tt, refl)) refl h

  -- the asker was answered, and the operator told
  pub has_replied : (phase : Phase) (had : Queued) (past : Past) (log log' : Acts) (slots : List (Option B)) (count : ℕ) (now : S) (changed : Bool) → limits.status ≡ true → MayReply past.stage → AreSettled past.journal
      → HasSaid changed log log' → Now phase had past log slots count now → Now phase had (at_stage Stage.Unasked past) log' slots count now
  has_replied phase had past log log' slots count now changed e may settled s h =
      aside_to phase had past (at_stage Stage.Unasked past) log log' slots count now now (Did (Replied s.reply) ∷ Did (Warned s.line) ∷ [])
      (record {
        foreign = λ n. refl;
        came = refl;
        closed = refl;
        within = (e, (inr (inr (e, (s.order, changed, s.told))), tt));
        phases = λ wrote. ((tt, (tt, tt)), refl);
        silent = λ share. refl;
        unlost = refl;
        waited = refl;
        reads = λ last. tt;
      })
      (stage_past phase past Stage.Unasked (Did (Replied s.reply) ∷ Did (Warned s.line) ∷ []) refl (keeps_reply past.journal s.reply (Did (Warned s.line) ∷ []) settled refl) (λ e. settled) (may, (tt, tt)) refl)
      s.last (λ h. (tt, (tt, refl))) refl h

  -- the next phase of a round begins, or more slots are said to have had a turn
  next_phase : (phase phase' : Phase) (had had' : Queued) (past : Past) (log : Acts) (slots : List (Option B)) (count : ℕ) (now : S) (h : Now phase had past log slots count now)
      → (phase' ≡ Phase.Reads → writes_since false h.story ≡ false) → (phase' ≡ Phase.Writes → AreSettled past.journal)
      → ((j : ℕ) (c : B) → At slots j c → (had'.had j → ⊥) → (share : Share) → turns_since (view c).number share 0 h.story + most phase' share ≤ 1)
      → ((j : ℕ) (c : B) → At slots j c → Alert limits.share phase' had' j (view c) h.story) → (phase' ≡ Phase.Reads → AreCounted had'.counts h.story) → Now phase' had' past log slots count now
  next_phase phase phase' had had' past log slots count now h quiet settled free alerts counted = record {
    story = h.story;
    is_told = record {
      logged = h.is_told.logged;
      run = h.is_told.run;
      lasts = h.is_told.lasts;
      total = h.is_told.total;
      capped = h.is_told.capped;
      opened = h.is_told.opened;
      sized = h.is_told.sized;
      small = h.is_told.small;
      few = h.is_told.few;
      within = h.is_told.within;
      phases = h.is_told.phases;
      quiet = quiet;
      fair = h.is_told.fair;
      shared = h.is_told.shared;
      unlost = h.is_told.unlost;
      waited = h.is_told.waited;
      reads = h.is_told.reads;
      keeps = h.is_told.keeps;
      allowed = h.is_told.allowed;
      settled = settled;
      awake = h.is_told.awake;
      each = h.is_told.each;
      limited = h.is_told.limited;
      inquired = h.is_told.inquired;
      asked = h.is_told.asked;
      stage = h.is_told.stage;
      single = h.is_told.single;
    };
    below = h.below;
    live = h.live;
    apart = h.apart;
    fresh = h.fresh;
    served = h.served;
    ready = free;
    ends = h.ends;
    alert = alerts;
    counted = counted;
  }

  pub widen : (phase : Phase) (had had' : Queued) (past : Past) (log : Acts) (slots : List (Option B)) (count : ℕ) (now : S) → ((j : ℕ) → had.had j → had'.had j)
      → ((j : ℕ) (c : B) (s : Story) → At slots j c → Alert limits.share phase had j (view c) s → Alert limits.share phase had' j (view c) s)
      → (phase ≡ Phase.Reads → (s : Story) → AreCounted had.counts s → AreCounted had'.counts s)
      → Now phase had past log slots count now → Now phase had' past log slots count now
  widen phase had had' past log slots count now wider alerts counted h =
      next_phase phase phase had had' past log slots count now h h.is_told.quiet h.is_told.settled (λ j c at not. h.ready j c at (λ k. not (wider j k)))
      (λ j c at. alerts j c h.story at (h.alert j c at)) (λ e. counted e h.story (h.counted e))

  -- before the first turn of a phase
  pub begins : (phase : Phase) (line : Line) (counts : List ℕ) → ((g : ℕ) → count_in counts g ≡ 0) → (past : Past) (log : Acts) (slots : List (Option B)) (count : ℕ) (now : S) → Now phase (nobody line) past log slots count now → Now phase (those_before line 0 counts) past log slots count now
  begins phase line counts zeros past log slots count now h =
      widen phase (nobody line) (those_before line 0 counts) past log slots count now (λ j k. absurd k)
      (λ j c s at k. alert_beside limits.share phase line line (λ i. ⊥) (IsBefore line.order 0) j (view c) s (λ e. e) (λ e. e) (λ k. absurd k) (before_none line.order j) k) (λ e s k g. k g ∙ sym (zeros g)) h

  -- a place of the queue whose slot is none
  pub passes : (phase : Phase) (line line' : Line) (counts : List ℕ) (place slot : ℕ) (past : Past) (log : Acts) (slots : List (Option B)) (count : ℕ) (now : S) → line'.order ≡ line.order
      → ((i : ℕ) → i ≢ slot → mark_in line'.marks i ≡ mark_in line.marks i) → slot ≡ slot_in line.order place → length slots ≤ slot
      → Now phase (those_before line place counts) past log slots count now → Now phase (those_before line' (place + 1) counts) past log slots count now
  passes phase line line' counts place slot past log slots count now order marks is far h =
      widen phase (those_before line place counts) (those_before line' (place + 1) counts) past log slots count now (λ j k. before_later line.order line'.order place j order k)
      (λ j c s at k.
      let apart : j ≢ slot = λ e. let w = At-within slots j c at in absurd (omega (arith, e, w, far)) in
      alert_beside limits.share phase line line' (IsBefore line.order place) (IsBefore line'.order (place + 1)) j (view c) s (λ e. ap is_awake (marks j apart) ∙ e) (λ e. ap stands (marks j apart) ∙ e)
      (before_later line.order line'.order place j order) (λ k. before_only line.order place j slot apart is (subst (λ l. IsBefore l (place + 1) j) order k)) k) (λ e s k. k) h

  -- all slots of the queue had the first half of their turn
  pub all_read : (line line' : Line) (counts : List ℕ) (place : ℕ) (past : Past) (log : Acts) (slots : List (Option B)) (count : ℕ) (now : S) → line' ≡ line → ((i : ℕ) → stands_in line i ≡ true → IsPlaced line i) → length line.order ≤ place
      → Now Phase.Reads (those_before line place counts) past log slots count now → Now Phase.Reads (everybody line') past log slots count now
  all_read line line' counts place past log slots count now same found all h =
      subst (λ q. Now Phase.Reads (everybody q) past log slots count now) (sym same)
      (widen Phase.Reads (those_before line place counts) (everybody line) past log slots count now (λ j k. tt)
      (λ j c s at k. alert_read limits.share line (IsBefore line.order place) j (view c) s (λ e. let p = found j e in let few = p.1 in (p.0, omega (arith, few, all), p.2)) k) (λ e s k. tt) h)

  -- these answers were those of writing the journal
  written_acts : (phase : Phase) → (phase ≡ Phase.Writes → ⊥) → (had : Queued) (waits : ℕ) (began : Option Journal) (stage : Stage) (i j : Journal) (log log' : Acts) (slots : List (Option B)) (count : ℕ) (now : S) (acts : List Act)
      → DidLog log acts log' → Writes i acts j → Now phase had (at_stage stage (past_of waits began (Some i))) log slots count now → Now phase had (at_stage stage (past_of waits began (Some j))) log' slots count now
  written_acts phase other had waits began stage i j log log' slots count now acts k w h =
      let b = keeping limits acts h.is_told.allowed w.keeping in
      let none = b.waited in
      let u = unasked_since stage (told acts) (keeping_unasked acts w.keeping) in
      aside_to phase had (at_stage stage (past_of waits began (Some i))) (at_stage stage (past_of waits began (Some j))) log log' slots count now now (told acts) b
      (record { waited = omega (arith, none); began = refl; keeps = (w.kept, ap Some w.after_is); settled = λ e. absurd (other e); asked = u.0; stage = sym u.1 })
      (subst (λ a. DidLog log a log') (sym (acts_in-told acts)) k) (λ h. keeping_passes rules acts now w.keeping h.story) (told_lasts rules (is_some limits.journal) acts now) h

  -- the journal was written, if there is one
  pub has_written : (phase : Phase) → (phase ≡ Phase.Writes → ⊥) → (had : Queued) (waits : ℕ) (began : Option Journal) (stage : Stage) (i j : Option Journal) (log log' : Acts) (slots : List (Option B)) (count : ℕ) (now : S) → AreWritten true i j log log'
      → Now phase had (at_stage stage (past_of waits began i)) log slots count now → Now phase had (at_stage stage (past_of waits began j)) log' slots count now
  has_written phase other had waits began stage None j log log' slots count now w h =
      subst (λ k. Now phase had (at_stage stage (past_of waits began k)) log' slots count now) (sym w.0) (idle phase had (at_stage stage (past_of waits began None)) log log' slots count now w.1 h)
  has_written phase other had waits began stage (Some i) None log log' slots count now w h = absurd w
  has_written phase other had waits began stage (Some i) (Some j) log log' slots count now (acts, k, w) h = written_acts phase other had waits began stage i j log log' slots count now acts k w h

  -- it failed
  pub has_failed : (phase : Phase) → (phase ≡ Phase.Writes → ⊥) → (had : Queued) (waits : ℕ) (began : Option Journal) (stage : Stage) (i j : Option Journal) (log log' : Acts) (slots : List (Option B)) (count : ℕ) (now : S) → MayFail stage → AreWritten false i j log log'
      → Now phase had (at_stage stage (past_of waits began i)) log slots count now → HasFailed view rules limits first start began log' slots count now
  has_failed phase other had waits began stage None j log log' slots count now may w h = absurd w
  has_failed phase other had waits began stage (Some i) j log log' slots count now may (acts, mid, reached, last, k, w, fails, logged) h = record {
    phase = phase;
    waits = waits;
    journal = Some reached;
    stage = stage;
    mid = mid;
    last = last;
    may = may;
    crowd = widen phase had unqueued (at_stage stage (past_of waits began (Some reached))) mid slots count now (λ j k. tt) (λ j c s at k. tt) (λ e s k. tt) (written_acts phase other had waits began stage i reached log mid slots count now acts k w h);
    some = refl;
    fails = fails;
    logged = logged;
  }

  -- the second phase of a round begins: no client was written since the server last waited
  pub turned : (line : Line) (past : Past) (log : Acts) (slots : List (Option B)) (count : ℕ) (now : S) → AreSettled past.journal → Now Phase.Reads (everybody line) past log slots count now
      → Now Phase.Writes (nobody line) past log slots count now
  turned line past log slots count now settled h =
      next_phase Phase.Reads Phase.Writes (everybody line) (nobody line) past log slots count now h (λ e. absurd (other e)) (λ e. settled) (λ j c at not share. unwritten (view c).number share)
      (λ j c at. alert_turned limits.share line j (view c) h.story (h.alert j c at)) (λ e. absurd (other e))
    where
      other : Phase.Writes ≡ Phase.Reads → ⊥
      other e = cc

      unwritten : (n : ℕ) (share : Share) → turns_since n share 0 h.story + most Phase.Writes share ≤ 1
      unwritten n Share.Reading = let e = h.is_told.fair h.story [] (sym (append-nil h.story)) n Share.Reading in omega (arith, e)
      unwritten n Share.Asking = let e = h.is_told.fair h.story [] (sym (append-nil h.story)) n Share.Asking in omega (arith, e)
      unwritten n Share.Running = let e = h.is_told.fair h.story [] (sym (append-nil h.story)) n Share.Running in omega (arith, e)
      unwritten n Share.Writing = let e = since_quiet n false 0 h.story (λ e. refl) (h.is_told.quiet refl) in omega (arith, e)

  -- the last phase of a round begins, or goes on
  pub swept : (phase : Phase) (had : Queued) (line : Line) (past : Past) (log : Acts) (slots : List (Option B)) (count : ℕ) (now : S)
      → ((j : ℕ) (c : B) (s : Story) → At slots j c → Alert limits.share phase had j (view c) s → Alert limits.share Phase.Sweeps (nobody line) j (view c) s) → Now phase had past log slots count now
      → Now Phase.Sweeps (nobody line) past log slots count now
  swept phase had line past log slots count now alerts h =
      next_phase phase Phase.Sweeps had (nobody line) past log slots count now h (λ e. absurd (other e)) (λ e. absurd (not_writes e))
      (λ j c at not share. let e = h.is_told.fair h.story [] (sym (append-nil h.story)) (view c).number share in omega (arith, e))
      (λ j c at. alerts j c h.story at (h.alert j c at)) (λ e. absurd (other e))
    where
      not_writes : Phase.Sweeps ≡ Phase.Writes → ⊥
      not_writes e = cc

      other : Phase.Sweeps ≡ Phase.Reads → ⊥
      other e = cc

  -- all slots of the queue had the second half
  pub all_told : (first_line line : Line) (place : ℕ) (past : Past) (log : Acts) (slots : List (Option B)) (count : ℕ) (now : S) → line.order ≡ first_line.order → ((i : ℕ) → stands_in line i ≡ stands_in first_line i)
      → ((i : ℕ) → stands_in first_line i ≡ true → IsPlaced first_line i) → length first_line.order ≤ place
      → Now Phase.Writes (those_before line place []) past log slots count now → Now Phase.Sweeps (nobody line) past log slots count now
  all_told first_line line place past log slots count now order stay found all h =
      swept Phase.Writes (those_before line place []) line past log slots count now
      (λ j c s at k. alert_told limits.share line (IsBefore line.order place) (λ i. ⊥) j (view c) s
      (λ e. let p = found j (sym (stay j) ∙ e) in let few = p.1 in (p.0, omega (arith, few, all), ap (λ l. slot_in l p.0) order ∙ p.2)) k) h

  -- the round is over
  pub round_ends : (line line' : Line) (past : Past) (log : Acts) (slots : List (Option B)) (count : ℕ) (now : S) → StayAwake line line' → Now Phase.Sweeps (nobody line) past log slots count now
      → Now Phase.Sweeps (nobody line') past log slots count now
  round_ends line line' past log slots count now stay h =
      swept Phase.Sweeps (nobody line) line' past log slots count now (λ j c s at k. alert_swept limits.share line line' (λ j. ⊥) (λ j. ⊥) j (view c) s (stay j) k) h

  -- What happened closes no connection whose speaker is gone; or only such a one, where that is told.
  abbrev IsCalm : Phase → Past → Story → S → Story → S → Type 0
  IsCalm phase past story now more after = (IsLate phase × (gones_in (acts_in more) ≡ 0)) ⊎ ((AreAsked past.stage more × (stage_since past.stage more ≡ past.stage)) × Passes rules story now more after)

  calm_passes : (phase : Phase) (past : Past) (story : Story) (now after : S) (n : ℕ) (more : Story) → Mine n more → IsOnce phase more → AreTurns rules now (turns_in more) after
      → IsCalm phase past story now more after → Passes rules story now more after
  calm_passes phase past story now after n more mine once r (inl (late, none)) =
      let plain = mine_plain n more mine in
      passes_plain rules story now after more plain.2 none (late_unasked phase more late once) plain.3 r
  calm_passes phase past story now after n more mine once r (inr k) = k.1

  calm_asks : (phase : Phase) (past : Past) (story : Story) (now after : S) (n : ℕ) (more : Story) → Mine n more → IsCalm phase past story now more after
      → AreAsked past.stage more × (stage_since past.stage more ≡ past.stage)
  calm_asks phase past story now after n more mine (inl (late, none)) = unasked_since past.stage more (mine_unasked n more mine none)
  calm_asks phase past story now after n more mine (inr k) = k.0

  -- a client was closed, since its speaker is gone after a table was put in force
  pub gone_calm : (phase : Phase) (had : Queued) (past : Past) (log : Acts) (slots : List (Option B)) (count : ℕ) (now : S) (h : Now phase had past log slots count now) (i : ℕ) (d : Option B) (more : Story)
      → IsLate phase → past.stage ≡ Stage.Renewed → i < length slots → d ≡ slice_index_or slots i d → SlotGone (option_map view d) more → IsCalm phase past h.story now more now
  gone_calm phase had past log slots count now h i None more late asked within is none = inl (late, ap (λ m. gones_in (acts_in m)) none)
  gone_calm phase had past log slots count now h i (Some b) more late asked within is (inl none) = inl (late, ap (λ m. gones_in (acts_in m)) none)
  gone_calm phase had past log slots count now h i (Some b) more late asked within is (inr (one, who, speaks)) =
      let mine = own (view b).number h.story in
      let l = h.live i b (At-index slots i (Some b) b within is refl) in
      let last : speaker_since None (turns_in mine) ≡ Some who = sym (speaks_since None (turns_in mine) (view b).who l.live.speaks) ∙ speaks in
      subst (λ m. IsCalm phase past h.story now m now) (sym one) (inr (((asked, tt), refl), ((who, last), refl)))

  -- lines of a client were run, or it was read in vain
  pub calm_reads : (phase : Phase) (had : Queued) (past : Past) (log : Acts) (slots : List (Option B)) (count : ℕ) (now after : S) (h : Now phase had past log slots count now) (i : ℕ) (d s' : Option B) (more : Story)
      → i < length slots → d ≡ slice_index_or slots i d → ((limits : Limits) → SlotDid limits Phase.Reads (option_map view d) (option_map view s') more)
      → ((p : Story) → SpeaksIn p (option_map view d) → Passes rules p now more after) → IsCalm phase past h.story now more after
  calm_reads phase had past log slots count now after h i None s' more within is did passed =
      inr (subst (λ m. AreAsked past.stage m × (stage_since past.stage m ≡ past.stage)) (sym (did limits).1) (tt, refl), passed h.story tt)
  calm_reads phase had past log slots count now after h i (Some b) s' more within is did passed =
      let l = h.live i b (At-index slots i (Some b) b within is refl) in
      inr (
        unasked_since past.stage more (mine_unasked (view b).number more (did limits).0 (slot_stays limits Phase.Reads (Some (view b)) (option_map view s') more did)),
        passed h.story (sym (speaks_since None (turns_in (own (view b).number h.story)) (view b).who l.live.speaks)),
      )

  -- what happened to the client of a slot that had no turn in this phase
  pub crowd_turn : (phase : Phase) (had had' : Queued) (past : Past) (log log' : Acts) (slots : List (Option B)) (count : ℕ) (now after : S) (i : ℕ) (d s' : Option B) (more : Story)
      → ((j : ℕ) → had.had j → had'.had j) → (had.had i → ⊥) → had'.had i
      → (h : Now phase had past log slots count now) → IsCalm phase past h.story now more after → i < length slots → d ≡ slice_index_or slots i d → DidLog log (acts_in more) log' → AreTurns rules now (turns_in more) after
      → AreLimited limits.tenant_clients (speakers_at view (slice_set slots i None)) (turns_in more) → ((past : Story) → IsInquired (is_some limits.journal) past more) → (limits.clients ≡ 1 → AreSingle more)
      → SlotDid limits phase (option_map view d) (option_map view s') more
      → ((j : ℕ) → j ≢ i → (v : View) (s : Story) → Alert limits.share phase had j v s → Alert limits.share phase had' j v s)
      → ((b c : B) (s : Story) → d ≡ Some b → s' ≡ Some c → (view c).number ≡ (view b).number → Mine (view b).number more → came_in (acts_in more) ≡ 0 → waits_in (acts_in more) ≡ 0
      → (phase ≡ Phase.Reads → Fills limits.share had.counts (view b) s) → Alert limits.share phase had i (view b) s → Alert limits.share phase had' i (view c) (s ++ more))
      → (phase ≡ Phase.Reads → Counts limits.share had.counts had'.counts (option_map view d) more)
      → Now phase had' (after_lines (records_in (turns_in more)) past) log' (slice_set slots i s') count after
  crowd_turn phase had had' past log log' slots count now after i None None more wider new done h calm within is k r l asks single did beside turn counting =
      let same : after ≡ now = subst (λ m. AreTurns rules now (turns_in m) after) did.1 r in
      let quiet : DidLog log [] log' = subst (λ m. DidLog log (acts_in m) log') did.1 k in
      let free : (b : B) → At slots i b → ⊥ = λ b there. nobody_is b (At-some slots i None b is there) in
      let count_is = taken_free slots i None within free in
      subst (λ m. Now phase had' (after_lines (records_in (turns_in m)) past) log' (slice_set slots i None) count after) (sym did.1)
      (subst (λ j. Now phase had' (record past { journal = j }) log' (slice_set slots i None) count after) (noted_none past.journal)
      (subst (λ a. Now phase had' past log' (slice_set slots i None) count a) (sym same)
      (foreign phase phase had had' past past log log' slots (slice_set slots i None) count now now h [] (λ n. refl)
      (told_more rules limits first start phase phase 0 0 past past log log' slots (slice_set slots i None) count count now now h.story [] h.is_told quiet refl refl (omega arith) h.is_told.capped
      (let a = count_is.0 in omega (arith, a))
      (let a = taken_most slots in let b = h.is_told.sized in omega (arith, a, b))
      (let a = long_set slots i None in omega (arith, a)) tt tt h.is_told.quiet
      (still h.story [] h.is_told.fair (λ share. refl)) (shares_still phase had past log slots count now h [] (λ share. refl) refl) refl (stays_past phase past [] refl (keeps_quiet past.journal [] refl) h.is_told.settled (tt, refl)) (λ last. tt) (no_looks limits.share h.story [] refl) tt tt (λ e. tt))
      (λ j c there. others j c (At-set slots i None j c there))
      (λ j c there. At-keep slots i None j c (λ e. free c (subst (λ j. At slots j c) e there)) there)
      (open_still phase had had' past log slots count now h [] wider (λ share. refl))
      (λ j c there. beside j (λ e. free c (subst (λ j. At slots j c) e there)) (view c) (h.story ++ []) (alert_keep limits.share phase had j (view c) h.story [] refl refl (h.alert j c there)))
      (λ e. subst (λ k. AreCounted k (h.story ++ [])) (sym (counts_none limits.share had.counts had'.counts more (counting e))) (counted_still phase had past log slots count now h [] (λ share. refl) refl e)))))
    where
      nobody_is : (b : B) → None ≡ Some b → ⊥
      nobody_is b e = cc

      others : (j : ℕ) (c : B) → ((j ≡ i) × (None ≡ Some c)) ⊎ ((j ≢ i) × At slots j c) → At slots j c
      others j c (inl p) = absurd (nobody_is c p.1)
      others j c (inr p) = p.1
  crowd_turn phase had had' past log log' slots count now after i None (Some b) more wider new done h calm within is k r l asks single did beside turn counting = absurd (none (view b) did.0)
    where
      none : (v : View) → Some v ≡ None → ⊥
      none v e = cc
  crowd_turn phase had had' past log log' slots count now after i (Some b) None more wider new done h calm within is k r l asks single (mine, came, closing, part, once, (close, goes)) beside turn counting =
      let at = At-index slots i (Some b) b within is refl in
      let inquired = asks h.story in
      let limited = limited_turn view rules limits first start phase had past log slots count now h i b at limits.tenant_clients more mine came l in
      let n = (view b).number in
      let fits = told_phase rules limits first start phase 0 past log slots count now h.story more h.is_told part in
      let count_is = taken_at slots i b None at in
      let unclosed = (h.live i b at).unclosed in
      let all = closed-append (own n h.story) more in
      let plain = mine_plain n more mine in
      let lost = plain.1 in
      let waited = plain.0 in
      let same_group : turns_since n Share.Running 0 h.story ≡ 0 → group_in n h.story ≡ group_of (view b).who = λ none. group_now n h.story none ∙ ap group_of (sym (speaks_since None (turns_in (own n h.story)) (view b).who (h.live i b at).live.speaks)) in
      let shared = turn_shared limits.share n h.story more (fresh_of phase had past log slots count now h) h.is_told.shared (let a = h.below i b at in let c = h.is_told.total in omega (arith, a, c)) mine came waited
      phase (view b) had.counts had'.counts once (h.ready i b at new) same_group h.counted counting in
      let later_past = after_lines (records_in (turns_in more)) past in
      let asked = calm_asks phase past h.story now after n more mine calm in
      let passed : Passed phase past more later_past
      = record { waited = omega (arith, waited); began = refl; keeps = keeps_turn phase n past.journal more mine once h.is_told.settled; settled = settled_turn phase past.journal more once h.is_told.settled; asked = asked.0; stage = sym asked.1 } in
      gone phase had had' wider past later_past log log' slots count now after h n more mine waited i b beside at refl
      (told_more rules limits first start phase phase 0 0 past later_past log log' slots (slice_set slots i None) count count now after h.story more h.is_told k (calm_passes phase past h.story now after n more mine once r calm) (lasts_plain rules (is_some limits.journal) now after more plain.3 r)
      (omega (arith, came)) h.is_told.capped (omega (arith, came, close, count_is))
      (let a = taken_most slots in let b = h.is_told.sized in omega (arith, a, b, came))
      (let a = long_set slots i None in omega (arith, a)) closing fits.0 fits.1
      (takes_turn h.story more n (most phase) h.is_told.fair mine once (h.ready i b at new)) shared.0 (omega (arith, lost)) passed (reads_plain limits more plain.3) (no_looks limits.share h.story more waited) limited inquired single)
      (omega (arith, all, unclosed, close)) (goes (own n h.story) (h.live i b at)) shared.1
  crowd_turn phase had had' past log log' slots count now after i (Some b) (Some s) more wider new done h calm within is k r l asks single (mine, came, closing, part, once, (same, close, goes)) beside turn counting =
      let at = At-index slots i (Some b) b within is refl in
      let inquired = asks h.story in
      let limited = limited_turn view rules limits first start phase had past log slots count now h i b at limits.tenant_clients more mine came l in
      let n = (view b).number in
      let fits = told_phase rules limits first start phase 0 past log slots count now h.story more h.is_told part in
      let count_is = taken_at slots i b (Some s) at in
      let plain = mine_plain n more mine in
      let lost = plain.1 in
      let waited = plain.0 in
      let same_group : turns_since n Share.Running 0 h.story ≡ 0 → group_in n h.story ≡ group_of (view b).who = λ none. group_now n h.story none ∙ ap group_of (sym (speaks_since None (turns_in (own n h.story)) (view b).who (h.live i b at).live.speaks)) in
      let shared = turn_shared limits.share n h.story more (fresh_of phase had past log slots count now h) h.is_told.shared (let a = h.below i b at in let c = h.is_told.total in omega (arith, a, c)) mine came waited
      phase (view b) had.counts had'.counts once (h.ready i b at new) same_group h.counted counting in
      let later_past = after_lines (records_in (turns_in more)) past in
      let asked = calm_asks phase past h.story now after n more mine calm in
      let passed : Passed phase past more later_past
      = record { waited = omega (arith, waited); began = refl; keeps = keeps_turn phase n past.journal more mine once h.is_told.settled; settled = settled_turn phase past.journal more once h.is_told.settled; asked = asked.0; stage = sym asked.1 } in
      let unrun : phase ≡ Phase.Reads → turns_since n Share.Running 0 h.story ≡ 0 = λ e. (let k = subst (λ p. turns_since n Share.Running 0 h.story + most p Share.Running ≤ 1) e (h.ready i b at new Share.Running) in omega (arith, k)) in
      seated phase had had' wider past later_past log log' slots count now after h n more mine waited i count s beside (turn b s h.story refl refl same mine came waited (λ e. fills_of limits.share had.counts (view b) h.story (h.counted e) (same_group (unrun e))) (h.alert i b at)) within (omega arith) (λ e. absurd (omega (arith, e)))
      (λ m q d e. d (sym q.is ∙ ap (λ c. (view c).number) (At-only slots i q.b b (subst (λ j. At slots j q.b) e q.there) at)))
      same (omega arith) (h.below i b at)
      (λ j c d there e. d (h.apart j i c b there at e))
      (told_more rules limits first start phase phase 0 0 past later_past log log' slots (slice_set slots i (Some s)) count count now after h.story more h.is_told k (calm_passes phase past h.story now after n more mine once r calm) (lasts_plain rules (is_some limits.journal) now after more plain.3 r)
      (omega (arith, came)) h.is_told.capped (omega (arith, came, close, count_is))
      (let a = taken_most slots in let b = h.is_told.sized in omega (arith, a, b, came))
      (let a = long_set slots i (Some s) in omega (arith, a)) closing fits.0 fits.1
      (takes_turn h.story more n (most phase) h.is_told.fair mine once (h.ready i b at new)) shared.0 (omega (arith, lost)) passed (reads_plain limits more plain.3) (no_looks limits.share h.story more waited) limited inquired single)
      (λ not. absurd (not done))
      (goes (own n h.story) (h.live i b at)) shared.1

  -- the same, where no line was run
  pub crowd_still : (phase : Phase) (had had' : Queued) (past : Past) (log log' : Acts) (slots : List (Option B)) (count : ℕ) (now : S) (i : ℕ) (d s' : Option B) (more : Story)
      → ((j : ℕ) → had.had j → had'.had j) → (had.had i → ⊥) → had'.had i
      → (h : Now phase had past log slots count now) → IsCalm phase past h.story now more now → i < length slots → d ≡ slice_index_or slots i d → DidLog log (acts_in more) log' → turns_in more ≡ []
      → SlotDid limits phase (option_map view d) (option_map view s') more
      → ((j : ℕ) → j ≢ i → (v : View) (s : Story) → Alert limits.share phase had j v s → Alert limits.share phase had' j v s)
      → ((b c : B) (s : Story) → d ≡ Some b → s' ≡ Some c → (view c).number ≡ (view b).number → Mine (view b).number more → came_in (acts_in more) ≡ 0 → waits_in (acts_in more) ≡ 0
      → Alert limits.share phase had i (view b) s → Alert limits.share phase had' i (view c) (s ++ more)) → (phase ≡ Phase.Reads → ⊥)
      → Now phase had' past log' (slice_set slots i s') count now
  crowd_still phase had had' past log log' slots count now i d s' more wider new done h calm within is k none did beside turn late =
      subst (λ p. Now phase had' p log' (slice_set slots i s') count now) (ap (λ t. after_lines (records_in t) past) none ∙ sym (ap (λ j. record past { journal = j }) (noted_none past.journal)))
      (crowd_turn phase had had' past log log' slots count now now i d s' more wider new done h calm within is k (subst (λ t. AreTurns rules now t now) (sym none) refl)
      (subst (AreLimited limits.tenant_clients (speakers_at view (slice_set slots i None))) (sym none) tt) (λ past. inquired_quiet (is_some limits.journal) past more none) (λ e. quiet_single more none) did beside
      (λ b c s e f same mine came quiet fills k. turn b c s e f same mine came quiet k) (λ e. absurd (late e)))

  -- a client was closed after the turns, or is as it was
  pub crowd_closed : (line line' : Line) (past : Past) (log log' : Acts) (slots : List (Option B)) (count : ℕ) (now : S) (i : ℕ) (d s' : Option B) (more : Story) (closed : Bool)
      → (h : Now Phase.Sweeps (nobody line) past log slots count now) → IsCalm Phase.Sweeps past h.story now more now → i < length slots → d ≡ slice_index_or slots i d → DidLog log (acts_in more) log' → turns_in more ≡ []
      → SlotDid limits Phase.Sweeps (option_map view d) (option_map view s') more → IsClosedOr closed (option_map view d) (option_map view s') more
      → ((j : ℕ) → j ≢ i → awake_in line' j ≡ awake_in line j) → (closed ≡ false → line' ≡ line)
      → Now Phase.Sweeps (nobody line') past log' (slice_set slots i s') count now
  crowd_closed line line' past log log' slots count now i d s' more closed h calm within is k none did or_same others same =
      swept Phase.Sweeps (record { line = Some line'; had = λ j. j ≡ i; counts = None }) line' past log' (slice_set slots i s') count now
      (λ j c s at k. alert_swept limits.share line' line' (λ j. j ≡ i) (λ j. ⊥) j (view c) s (λ e. e) k)
      (crowd_still Phase.Sweeps (nobody line) (record { line = Some line'; had = λ j. j ≡ i; counts = None }) past log log' slots count now i d s' more (λ j k. absurd k) (λ k. k) refl h calm within is k none did
      (λ j apart v s k. alert_swept limits.share line line' (λ j. ⊥) (λ j. j ≡ i) j v s (λ e. others j apart ∙ e) k)
      (λ b c s e f number mine came quiet k.
      let whole = closed_in_slot view closed d s' c more f or_same in
      let one : view c ≡ view b = some_same (sym (ap (option_map view) f) ∙ whole.1 ∙ ap (option_map view) e) in
      subst (λ m. IsAlert limits.share Phase.Sweeps line' (λ j. j ≡ i) i (view c) (s ++ m)) (sym whole.2)
      (subst (λ t. IsAlert limits.share Phase.Sweeps line' (λ j. j ≡ i) i (view c) t) (sym (append-nil s))
      (subst (λ v. IsAlert limits.share Phase.Sweeps line' (λ j. j ≡ i) i v s) (sym one)
      (alert_swept limits.share line line' (λ j. ⊥) (λ j. j ≡ i) i (view b) s (λ e. ap (λ q. awake_in q i) (same whole.0) ∙ e) k)))) (λ e. absurd (sweeps_not_reads e)))
    where
      some_same : {v w : View} → Some v ≡ Some w → v ≡ w
      some_same e = cc

  -- what an accept did, for a free slot
  arrives : (past : Past) (log log' : Acts) (slots : List (Option B)) (count : ℕ) (now : S) (i : ℕ) (s : Option B) (more : Story) (came closed : ℕ)
      (line : Line) (h : Now Phase.Reads (nobody line) past log slots count now) → i < length slots → ((b : B) → At slots i b → ⊥) → DidLog log (acts_in more) log'
      → IsArrival came closed more → came ≡ closed + taken_by s → came ≤ 1 → count + came ≤ limits.connections
      → Told Phase.Reads past log' (slice_set slots i s) (count + came) now (h.story ++ more)
  arrives past log log' slots count now i s more came closed line h within free k a sums one capped =
      let count_is = taken_free slots i s within free in
      let fits = told_phase rules limits first start Phase.Reads 0 past log slots count now h.story more h.is_told a.part in
      let came_is = a.came_is in
      let closed_is = a.closed_is in
      let sized = h.is_told.sized in
      let lost = a.unlost in
      let waited = a.waited in
      told_more rules limits first start Phase.Reads Phase.Reads 0 0 past past log log' slots (slice_set slots i s) count (count + came) now now h.story more h.is_told k
      (passes_plain rules h.story now now more a.untold a.stay (a.silent Share.Asking) a.unchanged (subst (λ t. AreTurns rules now t now) (sym a.none) refl))
      (lasts_plain rules (is_some limits.journal) now now more a.unchanged (subst (λ t. AreTurns rules now t now) (sym a.none) refl))
      (omega (arith, came_is)) capped (let e = count_is.0 in omega (arith, came_is, closed_is, sums, e))
      (let e = count_is.1 in omega (arith, came_is, one, e, sized))
      (let e = long_set slots i s in omega (arith, e)) (a.within limits) fits.0 fits.1
      (still h.story more h.is_told.fair a.silent) (shares_still Phase.Reads (nobody line) past log slots count now h more a.silent waited) (omega (arith, lost)) (stays_past Phase.Reads past more waited (a.unkept past.journal) (λ e. absurd (reads_not_writes e)) (a.unasked past.stage)) (reads_plain limits more a.unchanged) (no_looks limits.share h.story more waited) (limited_quiet limits.tenant_clients h.story more a.none) (inquired_quiet (is_some limits.journal) h.story more a.none) (λ e. quiet_single more a.none)

  pub crowd_seat : (line line' : Line) (past : Past) (log log' : Acts) (slots : List (Option B)) (count : ℕ) (now : S) (i : ℕ) (came : Bool) (s : Option B) (more : Story)
      → StayAwake line line' → (came ≡ true → i < 1024 → awake_in line' i ≡ true)
      → i < length slots → ((b : B) → At slots i b → ⊥) → count < limits.connections → Now Phase.Reads (nobody line) past log slots count now → DidLog log (acts_in more) log'
      → Arrives count i came (option_map view s) more
      → Now Phase.Reads (nobody line') past log' (slice_set slots i s) (count + (if came then 1 else 0)) now
  crowd_seat line line' past log log' slots count now i true (Some s) more stay wakes within free below h k (arrival, is, came, new, mine, live) =
      let none = h.fresh count (omega arith) in
      seated Phase.Reads (nobody line) (nobody line') (λ j k. k) past past log log' slots count now now h count more mine arrival.waited i (count + 1) s (λ j d v s k. alert_anew limits.share line line' j v s stay k) alerted within (omega arith) (λ e. refl)
      (λ m q d e. free q.b (subst (λ j. At slots j q.b) e q.there)) is (omega arith) (omega arith)
      (λ j c d there e. let q = h.below j c there in absurd (omega (arith, e, q)))
      (arrives past log log' slots count now i (Some s) more 1 0 line h within free k arrival refl (omega arith) (omega (arith, below)))
      (λ not share.
      let e = since-append count share 0 h.story more in
      let f = since_fresh count share 0 h.story none in
      let g = since_most count share (turns_since count share 0 h.story) more in
      let q = arrival.silent share in
      let r = reads_most share in
      omega (arith, e, f, g, q, r))
      (subst (λ t. Lives (t ++ more) (view s)) (sym none) (live)) (counted_still Phase.Reads (nobody line) past log slots count now h more arrival.silent arrival.waited)
    where
      alerted : Alert limits.share Phase.Reads (nobody line') i (view s) (h.story ++ more)
      alerted =
          subst (λ m. Alert limits.share Phase.Reads (nobody line') i (view s) (h.story ++ m)) (sym came)
          (subst (λ n. Alert limits.share Phase.Reads (nobody line') i (view s) (h.story ++ Did (Came n i) ∷ [])) is
          (alert_comes limits.share line' i (view s) h.story (subst (λ n. own n h.story ≡ []) (sym is) (h.fresh count (omega arith)))
          (wakes refl (let small = h.is_told.small in omega (arith, within, small))) new))
  crowd_seat line line' past log log' slots count now i true None more stay wakes within free below h k (arrival, mine, done) = record {
    story = story' Phase.Reads (nobody line) (nobody line') (λ j k. k) past past log log' slots count now now h count more mine arrival.waited;
    is_told = told;
    below = λ j c there. let q = h.below j c (others j c there) in omega arith;
    live = λ j c there.
        let q = h.below j c (others j c there) in
        at_other Phase.Reads (nobody line) (nobody line') (λ j k. k) past past log log' slots count now now h count more mine arrival.waited (view c).number (λ e. absurd (omega (arith, e, q)))
        (λ t. Lives t (view c)) (h.live j c (others j c there));
    apart = λ j m c d there too e. h.apart j m c d (others j c there) (others m d too) e;
    fresh = fresh' Phase.Reads (nobody line) (nobody line') (λ j k. k) past past log log' slots count now now h count more mine arrival.waited (count + 1) (omega arith) (omega arith);
    served = served' Phase.Reads (nobody line) (nobody line') (λ j k. k) past past log log' slots count now now h count more mine arrival.waited kept;
    ready = λ j c there. open_still Phase.Reads (nobody line) (nobody line') past log slots count now h more (λ j k. k) arrival.silent j c (others j c there);
    ends = λ m few. elim (eqb_tells m count) [
      | inl p ↦ inl (subst (λ l. closed_in (acts_in (own l (story' Phase.Reads (nobody line) (nobody line') (λ j k. k) past past log log' slots count now now h count more mine arrival.waited))) ≡ 1) (sym p.1)
          (at_own Phase.Reads (nobody line) (nobody line') (λ j k. k) past past log log' slots count now now h count more mine arrival.waited (λ t. closed_in (acts_in t) ≡ 1) closing))
      | inr p ↦ let q = p.1 in elim (h.ends m (omega (arith, few, q))) [
        | inl q ↦ inl (at_other Phase.Reads (nobody line) (nobody line') (λ j k. k) past past log log' slots count now now h count more mine arrival.waited m p.1 (λ t. closed_in (acts_in t) ≡ 1) q)
        | inr q ↦ inr (record {
          i = q.i;
          b = q.b;
          there = At-keep slots i None q.i q.b (λ e. free q.b (subst (λ j. At slots j q.b) e q.there)) q.there;
          is = q.is;
        })
      ]
    ];
    alert = λ j c there.
        let q = h.below j c (others j c there) in
        alert' Phase.Reads (nobody line) (nobody line') (λ j k. k) past past log log' slots count now now h count more mine arrival.waited i j (λ j d v s k. alert_anew limits.share line line' j v s stay k) c
        (λ e. free c (subst (λ j. At slots j c) e (others j c there))) (λ e. absurd (omega (arith, e, q))) (others j c there);
    counted = counted_still Phase.Reads (nobody line) past log slots count now h more arrival.silent arrival.waited;
  }
    where
      told : Told Phase.Reads past log' (slice_set slots i None) (count + 1) now (story' Phase.Reads (nobody line) (nobody line') (λ j k. k) past past log log' slots count now now h count more mine arrival.waited)
      told = arrives past log log' slots count now i None more 1 1 line h within free k arrival refl (omega arith) (omega (arith, below))

      none : own count h.story ≡ []
      none = h.fresh count (omega arith)

      nothing : (c : B) → None ≡ Some c → ⊥
      nothing c e = cc

      others : (j : ℕ) (c : B) → At (slice_set slots i None) j c → At slots j c
      others j c there = elim (At-set slots i None j c there) [ inl p ↦ absurd (nothing c p.1) | inr p ↦ p.1 ]

      kept : IsServed (own count h.story ++ more)
      kept = subst (λ t. IsServed (t ++ more)) (sym none) (done)

      closing : closed_in (acts_in (own count h.story ++ more)) ≡ 1
      closing = subst (λ t. closed_in (acts_in (t ++ more)) ≡ 1) (sym none) arrival.closed_is
  crowd_seat line line' past log log' slots count now i false (Some s) more stay wakes within free below h k bad = absurd bad
  crowd_seat line line' past log log' slots count now i false None more stay wakes within free below h k (arrival, none) =
      subst (λ c. Now Phase.Reads (nobody line') past log' (slice_set slots i None) c now) same
      (foreign Phase.Reads Phase.Reads (nobody line) (nobody line') past past log log' slots (slice_set slots i None) count now now h more none
      (subst (λ c. Told Phase.Reads past log' (slice_set slots i None) c now (h.story ++ more)) (sym same)
      (arrives past log log' slots count now i None more 0 0 line h within free k arrival refl (omega arith) (omega (arith, below))))
      (λ j c there. others j c (At-set slots i None j c there))
      (λ j c there. At-keep slots i None j c (λ e. free c (subst (λ j. At slots j c) e there)) there)
      (open_still Phase.Reads (nobody line) (nobody line') past log slots count now h more (λ j k. k) arrival.silent)
      (λ j c there. alert_anew limits.share line line' j (view c) (h.story ++ more) stay (alert_keep limits.share Phase.Reads (nobody line) j (view c) h.story more (none (view c).number) arrival.waited (h.alert j c there)))
      (counted_still Phase.Reads (nobody line) past log slots count now h more arrival.silent arrival.waited))
    where
      same : count ≡ count + 0
      same = omega arith

      nothing : (c : B) → None ≡ Some c → ⊥
      nothing c e = cc

      others : (j : ℕ) (c : B) → ((j ≡ i) × (None ≡ Some c)) ⊎ ((j ≢ i) × At slots j c) → At slots j c
      others j c (inl p) = absurd (nothing c p.1)
      others j c (inr p) = p.1

  -- equal slots, and an equal count
  pub shown : (phase : Phase) (had : Queued) (past : Past) (log : Acts) (slots slots' : List (Option B)) (count count' : ℕ) (now : S) → slots' ≡ slots → count' ≡ count
      → Now phase had past log slots count now → Now phase had past log slots' count' now
  shown phase had past log slots slots' count count' now e f h =
      subst (λ s. Now phase had past log s count' now) (sym e) (subst (λ n. Now phase had past log slots n now) (sym f) h)

  pub waited : (line line' : Line) (past : Past) (log log' : Acts) (slots slots' : List (Option B)) (count count' : ℕ) (now : S) (sleeps : Bool) (slots_told : List ℕ)
      → past.stage ≡ Stage.Unasked → (sleeps ≡ true → (i : ℕ) → awake_in line i ≡ true → ⊥) → StayAwake line line' → AreAwake slots_told line' → DidLog log (Waited sleeps slots_told ∷ []) log' → slots' ≡ slots → count' ≡ count
      → Now Phase.Sweeps (nobody line) past log slots count now → Now Phase.Reads (nobody line') (later past) log' slots' count' now
  waited line line' past log log' slots slots' count count' now sleeps slots_told unasked asleep stay wakes k e f h =
      subst (λ s. Now Phase.Reads (nobody line') (later past) log' s count' now) (sym e) (subst (λ n. Now Phase.Reads (nobody line') (later past) log' slots n now) (sym f) (has_waited line line' past log log' slots count now sleeps slots_told unasked asleep stay wakes k h))
