-- Who is owed a look, and who had a turn, as a story goes on.
use Rattle.std.proofs.Common.{◌≡◌, ◌⊎◌, inl, inr, ℕ, Bool, true, false, ◌||◌, List, [], ◌∷◌, ◌++◌, length, Option, None, Some, arith, sym, ◌∙◌, ap, subst, refl, append-nil}
use Rattle.std.specs.List.{list_any}
use Rattle.std.specs.Prelude.{◌==◌, if◌then◌else◌}
use Rattle.std.proofs.lemmas.Bool.Decides.{eqb_tells}
use Rattle.std.proofs.lemmas.List.{length-append}
use Rattle.std.proofs.lemmas.List.Folds.{list_any-append}
use Rattle.judy_model.specs.Stream.{through_quit}
use Rattle.judy_protocol.specs.Serving.{heard_in}
use Rattle.judy_many.specs.declared.queue.Left.{Left}
use Rattle.judy_many.specs.declared.queue.Left.TheVariants as left
use Rattle.judy_many.specs.declared.queue.Mark.{Mark}
use Rattle.judy_many.specs.declared.queue.Mark.TheVariants as mark
use Rattle.judy_many.specs.Arrivals.{IsNew}
use Rattle.judy_many.specs.Lives.{IsLive, Lives, View, wrote_in}
use Rattle.judy_many.specs.Nets.{Act}
use Rattle.judy_many.specs.Nets.Act.{Came, Waited}
use Rattle.judy_many.specs.Queues.{AreAwake, Line, StayAwake, awake_in, is_among, is_awake, is_more, mark_in, stands, stands_in}
use Rattle.judy_many.specs.Stories.{Mine, Moment, Phase, Story, acts_in, belongs, came_by, came_in, own, turns_in}
use Rattle.judy_many.specs.Stories.Moment.{Did}
use Rattle.judy_many.specs.Watches.{Alert, AlertIn, Excused, Had, HasEach, HasHalf, IsAlert, IsAwake, IsDue, IsHeard, IsKept, IsOpen, IsStill, IsUnread, LeftTells, Listens, Looks, Queued, Rests, Skips, Stance, Watch, is_seat, nobody, own_after, unknown, watch, watch_after, watch_since, woken}
use Rattle.judy_many.proofs.Owning.{own-append, own-mine, same_eq}
use Rattle.judy_many.proofs.Sharing.{Fills, NoWait, had_keep, no_wait, upto_here, upto_quiet}
use Rattle.judy_many.proofs.Telling.{acts_in-append, split}

never : false ≡ true → ⊥
never e = cc

-- ---- stories in a row

pub watch-append : (n i : ℕ) (w : Watch) (a b : Story) → watch_since n i w (a ++ b) ≡ watch_since n i (watch_since n i w a) b
watch-append n i w [] b = refl
watch-append n i w (m ∷ a) b = watch-append n i (watch_after n i w m) a b

own_none : (n : ℕ) (m : Moment) (story : Story) → own n (m ∷ story) ≡ [] → (belongs n m ≡ false) × (own n story ≡ [])
own_none n m story h = none (belongs n m) h
  where
    none : (mine : Bool) → (if mine then m ∷ own n story else own n story) ≡ [] → (mine ≡ false) × (own n story ≡ [])
    none true e = absurd (some e)
      where
        some : m ∷ own n story ≡ [] → ⊥
        some e = cc
    none false e = (refl, e)

-- moments of others change nothing
watch_other : (n i : ℕ) (w : Watch) (more : Story) → own n more ≡ [] → NoWait more → watch_since n i w more ≡ w
watch_other n i w [] h k = refl
watch_other n i w (m ∷ more) h k =
    let one = no_wait m more k in
    let none = own_none n m more h in
    ap (λ b. watch_since n i (if b then woken i m w else (if belongs n m then own_after m w else w)) more) one.0
    ∙ ap (λ b. watch_since n i (if b then own_after m w else w) more) none.0 ∙ watch_other n i w more none.1 one.1

own_same : (n : ℕ) (story more : Story) → own n more ≡ [] → own n (story ++ more) ≡ own n story
own_same n story more none = own-append n story more ∙ ap (λ l. own n story ++ l) none ∙ append-nil (own n story)

-- ---- waits

-- where no wait is among the moments, there is nothing to show of one
pub no_looks : (share : ℕ) (story more : Story) → NoWait more → Looks share story more
no_looks share story more quiet p q sleeps told cut = absurd (there p more quiet cut)
  where
    there : (p more : Story) → NoWait more → more ≡ p ++ Did (Waited sleeps told) ∷ q → ⊥
    there [] more quiet e =
        let k = no_wait (Did (Waited sleeps told)) q (subst NoWait e quiet) in
        never (sym k.0)
    there (m ∷ p) [] quiet e = apart e
      where
        apart : [] ≡ m ∷ (p ++ Did (Waited sleeps told) ∷ q) → ⊥
        apart e = cc
    there (m ∷ p) (x ∷ more) quiet e = there p more (no_wait x more quiet).1 (rest e)
      where
        rest : x ∷ more ≡ m ∷ (p ++ Did (Waited sleeps told) ∷ q) → more ≡ p ++ Did (Waited sleeps told) ∷ q
        rest e = cc

pub awake-append : (share : ℕ) (story more : Story) → IsAwake story → Looks share story more → IsAwake (story ++ more)
awake-append share story more h looks p q told cut n i is_open = elim (split story more p (Did (Waited true told) ∷ q) cut) [
  | inl c ↦ inside c.0 c.1 c.2
  | inr c ↦ subst (λ t. Rests n i t) (sym c.1) ((looks c.0 q true told c.2 n i (subst (IsOpen n i) c.1 is_open)).0 refl)
]
  where
    inside : (r : Story) → story ≡ p ++ r → Did (Waited true told) ∷ q ≡ r ++ more → Rests n i p
    inside [] is e =
        let same : story ≡ p = is ∙ append-nil p in
        subst (Rests n i) (append-nil story ∙ same) ((looks [] q true told (sym e) n i (subst (IsOpen n i) (sym (append-nil story ∙ same)) is_open)).0 refl)
    inside (x ∷ r) is e = h p r told (is ∙ ap (λ y. p ++ y ∷ r) (first e)) n i is_open
      where
        first : Did (Waited true told) ∷ q ≡ x ∷ (r ++ more) → x ≡ Did (Waited true told)
        first e = cc

pub each-append : (share : ℕ) (story more : Story) → HasEach share story → Looks share story more → HasEach share (story ++ more)
each-append share story more h looks p q sleeps told cut n i is_open = elim (split story more p (Did (Waited sleeps told) ∷ q) cut) [
  | inl c ↦ inside c.0 c.1 c.2
  | inr c ↦ subst (λ t. ((watch n i t).turned ≡ true) ⊎ Excused share n i t) (sym c.1) ((looks c.0 q sleeps told c.2 n i (subst (IsOpen n i) c.1 is_open)).1)
]
  where
    inside : (r : Story) → story ≡ p ++ r → Did (Waited sleeps told) ∷ q ≡ r ++ more → ((watch n i p).turned ≡ true) ⊎ Excused share n i p
    inside [] is e =
        let same : story ≡ p = is ∙ append-nil p in
        subst (λ t. ((watch n i t).turned ≡ true) ⊎ Excused share n i t) (append-nil story ∙ same) ((looks [] q sleeps told (sym e) n i (subst (IsOpen n i) (sym (append-nil story ∙ same)) is_open)).1)
    inside (x ∷ r) is e = h p r sleeps told (is ∙ ap (λ y. p ++ y ∷ r) (first e)) n i is_open
      where
        first : Did (Waited sleeps told) ∷ q ≡ x ∷ (r ++ more) → x ≡ Did (Waited sleeps told)
        first e = cc

pub awake_none : IsAwake []
awake_none p q told cut = absurd (some p cut)
  where
    some : (p : Story) → [] ≡ p ++ Did (Waited true told) ∷ q → ⊥
    some [] e = cc
    some (m ∷ p) e = cc

pub each_none : (share : ℕ) → HasEach share []
each_none share p q sleeps told cut = absurd (some p cut)
  where
    some : (p : Story) → [] ≡ p ++ Did (Waited sleeps told) ∷ q → ⊥
    some [] e = cc
    some (m ∷ p) e = cc

-- nothing is owed to a client that is still
still_rests : (n i : ℕ) (v : View) (story : Story) → IsLive (acts_in (own n story)) (turns_in (own n story)) v → IsStill v (watch n i story) → Rests n i story
still_rests n i v story live (inl (pending, waiting, more, unread)) = inl (
  unread,
  sym live.last ∙ ap through_quit (live.ran ∙ ap heard_in (sym (live.read ∙ ap (λ t. live.heard ++ t) waiting ∙ append-nil live.heard))),
  sym (append-nil (wrote_in (acts_in (own n story)))) ∙ ap (λ t. wrote_in (acts_in (own n story)) ++ t) (sym pending) ∙ live.text,
)
still_rests n i v story live (inr (pending, more, unasked)) = inr (unasked, λ e. pending (shorter (wrote_in (acts_in (own n story))) v.pending (live.text ∙ sym e)))
  where
    shorter : (a b : List ℕ) → a ++ b ≡ a → b ≡ []
    shorter a [] e = refl
    shorter a (x ∷ b) e = let f = sym (length-append a (x ∷ b)) ∙ ap length e in absurd (omega (arith, f))

-- ---- one slot

-- what excuses a connection in a round does so until the next wait
excused_keep : (share n i : ℕ) (story more : Story) → NoWait more → Excused share n i story → Excused share n i (story ++ more)
excused_keep share n i story more quiet (inl rests) = inl (subst (λ u. Rests n i u) (sym (upto_quiet story more quiet)) rests)
excused_keep share n i story more quiet (inr had) = inr (had_keep share n story more quiet had)

stance_keep : (phase : Phase) (line : Line) (had : ℕ → Type 0) (i : ℕ) (v : View) (w : Watch) (r r' : Type 0) → (r → r') → Stance phase line had i v w r → Stance phase line had i v w r'
stance_keep Phase.Reads line had i v w r r' keep (inl (heard, inl (d, s, inl half))) = inl (heard, inl (d, s, inl half))
stance_keep Phase.Reads line had i v w r r' keep (inl (heard, inl (d, s, inr rested))) = inl (heard, inl (d, s, inr (keep rested)))
stance_keep Phase.Reads line had i v w r r' keep (inl (heard, inr (still, inl turned))) = inl (heard, inr (still, inl turned))
stance_keep Phase.Reads line had i v w r r' keep (inl (heard, inr (still, inr rested))) = inl (heard, inr (still, inr (keep rested)))
stance_keep Phase.Reads line had i v w r r' keep (inr due) = inr due
stance_keep Phase.Writes line had i v w r r' keep (heard, inl (k, inl turned)) = (heard, inl (k, inl turned))
stance_keep Phase.Writes line had i v w r r' keep (heard, inl (k, inr rested)) = (heard, inl (k, inr (keep rested)))
stance_keep Phase.Writes line had i v w r r' keep (heard, inr (s, inl half, not)) = (heard, inr (s, inl half, not))
stance_keep Phase.Writes line had i v w r r' keep (heard, inr (s, inr rested, not)) = (heard, inr (s, inr (keep rested), not))
stance_keep Phase.Sweeps line had i v w r r' keep (k, inl turned) = (k, inl turned)
stance_keep Phase.Sweeps line had i v w r r' keep (k, inr rested) = (k, inr (keep rested))

-- what others do
pub alert_keep : (share : ℕ) (phase : Phase) (queued : Queued) (i : ℕ) (v : View) (story more : Story) → own v.number more ≡ [] → NoWait more → Alert share phase queued i v story → Alert share phase queued i v (story ++ more)
alert_keep share phase queued i v story more none quiet h = kept queued.line queued.had h
  where
    kept : (line : Option Line) (had : ℕ → Type 0) → AlertIn share phase line had i v story → AlertIn share phase line had i v (story ++ more)
    kept None had h = tt
    kept (Some line) had h = record {
      seat = λ j sits. h.seat j (subst (λ t. list_any (is_seat j) (acts_in t) ≡ true) (own_same v.number story more none) sits);
      kept = h.kept;
      stance = subst (λ w. Stance phase line had i v w (Excused share v.number i (story ++ more))) (sym (watch-append v.number i unknown story more ∙ watch_other v.number i (watch v.number i story) more none quiet))
          (stance_keep phase line had i v (watch v.number i story) _ _ (excused_keep share v.number i story more quiet) h.stance);
    }

-- the queue changed elsewhere, or other slots had their turns
pub stance_beside : (phase : Phase) (line line' : Line) (had had' : ℕ → Type 0) (i : ℕ) (v : View) (w : Watch) (r : Type 0)
    → (awake_in line i ≡ true → awake_in line' i ≡ true) → (stands_in line i ≡ true → stands_in line' i ≡ true) → (had i → had' i) → (had' i → had i)
    → Stance phase line had i v w r → Stance phase line' had' i v w r
stance_beside Phase.Reads line line' had had' i v w r wakes stays to from (inl (heard, inl (d, s, half))) = inl (heard, inl (to d, stays s, half))
stance_beside Phase.Reads line line' had had' i v w r wakes stays to from (inl (heard, inr k)) = inl (heard, inr k)
stance_beside Phase.Reads line line' had had' i v w r wakes stays to from (inr (due, not)) = inr ((wakes due.0, due.1), λ k. not (from k))
stance_beside Phase.Writes line line' had had' i v w r wakes stays to from (heard, inl (inl due, d)) = (heard, inl (inl (wakes due.0, due.1), d))
stance_beside Phase.Writes line line' had had' i v w r wakes stays to from (heard, inl (inr still, d)) = (heard, inl (inr still, d))
stance_beside Phase.Writes line line' had had' i v w r wakes stays to from (heard, inr (s, half, not)) = (heard, inr (stays s, half, λ k. not (from k)))
stance_beside Phase.Sweeps line line' had had' i v w r wakes stays to from (inl due, d) = (inl (wakes due.0, due.1), d)
stance_beside Phase.Sweeps line line' had had' i v w r wakes stays to from (inr still, d) = (inr still, d)

pub alert_beside : (share : ℕ) (phase : Phase) (line line' : Line) (had had' : ℕ → Type 0) (i : ℕ) (v : View) (story : Story)
    → (awake_in line i ≡ true → awake_in line' i ≡ true) → (stands_in line i ≡ true → stands_in line' i ≡ true) → (had i → had' i) → (had' i → had i)
    → IsAlert share phase line had i v story → IsAlert share phase line' had' i v story
alert_beside share phase line line' had had' i v story wakes stays to from h = record {
  seat = h.seat;
  kept = h.kept;
  stance = stance_beside phase line line' had had' i v _ _ wakes stays to from h.stance;
}

-- before the first turn of a round more slots may be awake
pub alert_anew : (share : ℕ) (line line' : Line) (i : ℕ) (v : View) (story : Story) → StayAwake line line' → Alert share Phase.Reads (nobody line) i v story → Alert share Phase.Reads (nobody line') i v story
alert_anew share line line' i v story stay h = record {
  seat = h.seat;
  kept = h.kept;
  stance = anew _ _ h.stance;
}
  where
    anew : (w : Watch) (r : Type 0) → Stance Phase.Reads line (λ j. ⊥) i v w r → Stance Phase.Reads line' (λ j. ⊥) i v w r
    anew w r (inl (heard, inl k)) = absurd k.0
    anew w r (inl (heard, inr k)) = inl (heard, inr k)
    anew w r (inr (due, not)) = inr ((stay i due.0, due.1), not)

-- and after the last one, whatever had its turn
pub alert_swept : (share : ℕ) (line line' : Line) (had had' : ℕ → Type 0) (i : ℕ) (v : View) (story : Story) → (awake_in line i ≡ true → awake_in line' i ≡ true)
    → IsAlert share Phase.Sweeps line had i v story → IsAlert share Phase.Sweeps line' had' i v story
alert_swept share line line' had had' i v story wakes h = record {
  seat = h.seat;
  kept = h.kept;
  stance = swept _ _ h.stance;
}
  where
    swept : (w : Watch) (r : Type 0) → Stance Phase.Sweeps line had i v w r → Stance Phase.Sweeps line' had' i v w r
    swept w r (inl due, d) = (inl (wakes due.0, due.1), d)
    swept w r (inr still, d) = (inr still, d)

-- what is awake stands in the queue
pub awake_stands : (line : Line) (i : ℕ) → awake_in line i ≡ true → stands_in line i ≡ true
awake_stands line i h = of_mark (mark_in line.marks i) h
  where
    of_mark : (m : Mark) → is_awake m ≡ true → stands m ≡ true
    of_mark mark.Out e = absurd (never e)
    of_mark mark.Done e = refl
    of_mark mark.Ready e = refl
    of_mark mark.Ended e = refl
    of_mark mark.Passed e = refl
    of_mark mark.PassedEnded e = refl

-- all that stand in the queue had the first half of their turn
pub alert_read : (share : ℕ) (line : Line) (had : ℕ → Type 0) (i : ℕ) (v : View) (story : Story) → (stands_in line i ≡ true → had i)
    → IsAlert share Phase.Reads line had i v story → IsAlert share Phase.Reads line (λ j. Unit {0}) i v story
alert_read share line had i v story all h = record {
  seat = h.seat;
  kept = h.kept;
  stance = read _ _ h.stance;
}
  where
    read : (w : Watch) (r : Type 0) → Stance Phase.Reads line had i v w r → Stance Phase.Reads line (λ j. Unit {0}) i v w r
    read w r (inl (heard, inl (d, s, half))) = inl (heard, inl (tt, s, half))
    read w r (inl (heard, inr k)) = inl (heard, inr k)
    read w r (inr (due, not)) = absurd (not (all (awake_stands line i due.0)))

-- the second half begins
pub alert_turned : (share : ℕ) (line : Line) (i : ℕ) (v : View) (story : Story) → IsAlert share Phase.Reads line (λ j. Unit {0}) i v story → IsAlert share Phase.Writes line (λ j. ⊥) i v story
alert_turned share line i v story h = record {
  seat = h.seat;
  kept = h.kept;
  stance = turned _ _ h.stance;
}
  where
    turned : (w : Watch) (r : Type 0) → Stance Phase.Reads line (λ j. Unit {0}) i v w r → Stance Phase.Writes line (λ j. ⊥) i v w r
    turned w r (inl (heard, inl (d, s, half))) = (heard, inr (s, half, λ k. k))
    turned w r (inl (heard, inr (still, d))) = (heard, inl (inr still, d))
    turned w r (inr (due, not)) = absurd (not tt)

-- all that stand in the queue had the second half
pub alert_told : (share : ℕ) (line : Line) (had had' : ℕ → Type 0) (i : ℕ) (v : View) (story : Story) → (stands_in line i ≡ true → had i)
    → IsAlert share Phase.Writes line had i v story → IsAlert share Phase.Sweeps line had' i v story
alert_told share line had had' i v story all h = record {
  seat = h.seat;
  kept = h.kept;
  stance = told _ _ h.stance;
}
  where
    told : (w : Watch) (r : Type 0) → Stance Phase.Writes line had i v w r → Stance Phase.Sweeps line had' i v w r
    told w r (heard, inl (inl due, d)) = (inl due, d)
    told w r (heard, inl (inr still, d)) = (inr still, d)
    told w r (heard, inr (s, half, not)) = absurd (not (all s))

-- ---- a turn

no_seat : (j : ℕ) (acts : List Act) → came_in acts ≡ 0 → list_any (is_seat j) acts ≡ false
no_seat j [] h = refl
no_seat j (a ∷ acts) h =
    let one : came_by a ≡ 0 = omega (arith, h) in
    let rest : came_in acts ≡ 0 = omega (arith, h) in
    ap (λ b. b || list_any (is_seat j) acts) (none a one) ∙ no_seat j acts rest
  where
    none : (a : Act) → came_by a ≡ 0 → is_seat j a ≡ false
    none (Came m k) h = absurd (omega (arith, h))
    none act h = refl

-- the seat of a client after moments of its own
same_seat : (n i : ℕ) (story more : Story) → Mine n more → came_in (acts_in more) ≡ 0
    → ((j : ℕ) → list_any (is_seat j) (acts_in (own n story)) ≡ true → j ≡ i) → (j : ℕ) → list_any (is_seat j) (acts_in (own n (story ++ more))) ≡ true → j ≡ i
same_seat n i story more mine came h j sits = h j (sym all ∙ sits)
  where
    or_false : (b : Bool) → (b || false) ≡ b
    or_false true = refl
    or_false false = refl

    all : list_any (is_seat j) (acts_in (own n (story ++ more))) ≡ list_any (is_seat j) (acts_in (own n story))
    all =
        ap (λ t. list_any (is_seat j) (acts_in t)) (own-append n story more ∙ ap (λ l. own n story ++ l) (own-mine n more mine))
        ∙ ap (list_any (is_seat j)) (acts_in-append (own n story) more)
        ∙ list_any-append (is_seat j) (acts_in (own n story)) (acts_in more)
        ∙ ap (λ b. list_any (is_seat j) (acts_in (own n story)) || b) (no_seat j (acts_in more) came)
        ∙ or_false (list_any (is_seat j) (acts_in (own n story)))

-- the client of a slot was seen to have another view after moments of its own
module _ (share i : ℕ) (v v' : View) (story more : Story) (same : v'.number ≡ v.number) (mine : Mine v.number more) (came : came_in (acts_in more) ≡ 0) (quiet : NoWait more) where
  seen : (phase : Phase) (line : Line) (had : ℕ → Type 0) → ((j : ℕ) → list_any (is_seat j) (acts_in (own v.number story)) ≡ true → j ≡ i) → IsKept v'
      → Stance phase line had i v' (watch_since v.number i (watch v.number i story) more) (Excused share v.number i story) → IsAlert share phase line had i v' (story ++ more)
  seen phase line had seat kept stance = record {
    seat = subst (λ n. (j : ℕ) → list_any (is_seat j) (acts_in (own n (story ++ more))) ≡ true → j ≡ i) (sym same) (same_seat v.number i story more mine came seat);
    kept = kept;
    stance = subst (λ n. Stance phase line had i v' (watch n i (story ++ more)) (Excused share n i (story ++ more))) (sym same)
        (subst (λ w. Stance phase line had i v' w (Excused share v.number i (story ++ more))) (sym (watch-append v.number i unknown story more))
        (stance_keep phase line had i v' (watch_since v.number i (watch v.number i story) more) _ _ (excused_keep share v.number i story more quiet) stance));
  }

  -- the first half
  pub alert_listens : (counts : List ℕ) (line : Line) (had had' : ℕ → Type 0) → had' i → stands_in line i ≡ true → Listens v v' more ⊎ Skips share counts v v' more → Fills share (Some counts) v story
      → IsAlert share Phase.Reads line had i v story → IsAlert share Phase.Reads line had' i v' (story ++ more)
  alert_listens counts line had had' done stood (inl listens) fills h =
      let (kept, heard, half) = listens i (watch v.number i story) h.kept (before _ _ h.stance) in
      seen Phase.Reads line had' h.seat kept (inl (heard, inl (done, stood, inl half)))
    where
      before : (w : Watch) (r : Type 0) → Stance Phase.Reads line had i v w r → IsUnread v ⊎ IsHeard v w
      before w r (inl k) = inr k.0
      before w r (inr k) = inl k.0.1
  alert_listens counts line had had' done stood (inr (full, number, kept, unread, none)) fills h =
      seen Phase.Reads line had' h.seat (kept h.kept) (inl ((λ quits less. absurd (never (sym less ∙ unread))), inl (done, stood, inr (inr (fills full)))))

  -- the second half
  pub alert_tells : (line line' : Line) (had had' : ℕ → Type 0) (so : Left) → (is_more so ≡ true → awake_in line' i ≡ true) → LeftTells so v v' more
      → IsAlert share Phase.Writes line had i v story → IsAlert share Phase.Writes line' had' i v' (story ++ more)
  alert_tells line line' had had' so wakes tells h = by_left so wakes tells
    where
      w : Watch
      w = watch v.number i story

      w' : Watch
      w' = watch_since v.number i w more

      r : Type 0
      r = Excused share v.number i story

      has : (HasHalf v w → w'.turned ≡ true) → Stance Phase.Writes line had i v w r → Had w' r
      has turns (heard, inl (k, inl turned)) = inl (turns (inl turned))
      has turns (heard, inl (k, inr rested)) = inr rested
      has turns (heard, inr (s, inl half, not)) = inl (turns half)
      has turns (heard, inr (s, inr rested, not)) = inr rested

      by_left : (so : Left) → (is_more so ≡ true → awake_in line' i ≡ true) → LeftTells so v v' more → IsAlert share Phase.Writes line' had' i v' (story ++ more)
      by_left left.More wakes tells =
          let (kept, heard, none, turns) = tells i w h.kept h.stance.0 in
          seen Phase.Writes line' had' h.seat kept (heard, inl (inl (wakes refl, λ some. absurd (some none)), has turns h.stance))
      by_left left.Passed wakes tells =
          let (kept, heard, none, turns) = tells i w h.kept h.stance.0 in
          seen Phase.Writes line' had' h.seat kept (heard, inl (inl (wakes refl, λ some. absurd (some none)), has turns h.stance))
      by_left left.Nothing wakes tells =
          let (kept, heard, still, turns) = tells i w h.kept h.stance.0 in
          seen Phase.Writes line' had' h.seat kept (heard, inl (inr still, has turns h.stance))
      by_left left.Blocked wakes tells =
          let (kept, heard, still, turns) = tells i w h.kept h.stance.0 in
          seen Phase.Writes line' had' h.seat kept (heard, inl (inr still, has turns h.stance))
      by_left left.Closed wakes tells = absurd tells

-- ---- a wait

module _ (share : ℕ) (line line' : Line) (i : ℕ) (v : View) (story : Story) (sleeps : Bool) (told : List ℕ) where
  abbrev last : Story
  last = Did (Waited sleeps told) ∷ []

  pub alert_waits : StayAwake line line' → AreAwake told line' → Lives (own v.number story) v → Alert share Phase.Sweeps (nobody line) i v story → Alert share Phase.Reads (nobody line') i v (story ++ last)
  alert_waits stay wakes lives h = record {
    seat = λ j sits. h.seat j (subst (λ t. list_any (is_seat j) (acts_in t) ≡ true) (own_same v.number story last refl) sits);
    kept = h.kept;
    stance = by_told (is_among i told) refl h.stance.0;
  }
    where
      w : Watch
      w = watch v.number i story

      rested : Type 0
      rested = Excused share v.number i (story ++ last)

      unread : IsDue line i v ⊎ IsStill v w → IsUnread v
      unread (inl due) = due.1
      unread (inr (inl k)) = λ some. absurd (some k.0)
      unread (inr (inr k)) = λ some. k.1

      next : (b : Bool) → is_among i told ≡ b → watch v.number i (story ++ last) ≡ (if b then record { unread = true; unasked = true; turned = false } else record w { turned = false })
      next b e = watch-append v.number i unknown story last ∙ ap (λ b. if b then record { unread = true; unasked = true; turned = false } else record w { turned = false }) e

      calm : IsStill v w → IsStill v (record w { turned = false })
      calm (inl k) = inl k
      calm (inr k) = inr k

      quiet : IsStill v w → IsHeard v (record w { turned = false })
      quiet (inl (pending, waiting, more, unread)) quits e = unread
      quiet (inr (pending, more, unasked)) quits e = absurd (never (sym e ∙ more))

      by_told : (b : Bool) → is_among i told ≡ b → IsDue line i v ⊎ IsStill v w → Stance Phase.Reads line' (λ j. ⊥) i v (watch v.number i (story ++ last)) rested
      by_told true e k = inr ((wakes i e, unread k), λ n. n)
      by_told false e (inl due) = inr ((stay i due.0, due.1), λ n. n)
      by_told false e (inr still) =
          let calmed : IsStill v (watch v.number i (story ++ last)) = subst (IsStill v) (sym (next false e)) (calm still) in
          inl (
            subst (IsHeard v) (sym (next false e)) (quiet still),
            inr (
              calmed,
              inr (inl (subst (λ t. Rests v.number i t) (sym (upto_here story sleeps told))
                  (still_rests v.number i v (story ++ last) (subst (λ t. IsLive (acts_in t) (turns_in t) v) (sym (own_same v.number story last refl)) lives.live) calmed))),
            ),
          )

  -- at a wait that may sleep nothing is owed to the client of a slot; and it had its turn
  pub alert_looks : (sleeps ≡ true → awake_in line i ≡ true → ⊥) → Lives (own v.number story) v → Alert share Phase.Sweeps (nobody line) i v story
      → (sleeps ≡ true → Rests v.number i story) × (((watch v.number i story).turned ≡ true) ⊎ Excused share v.number i story)
  alert_looks asleep lives h = (λ e. rests e h.stance.0, h.stance.1)
    where
      rests : sleeps ≡ true → IsDue line i v ⊎ IsStill v (watch v.number i story) → Rests v.number i story
      rests e (inl due) = absurd (asleep e due.0)
      rests e (inr still) = still_rests v.number i v story lives.live still

-- ---- an arrival

pub alert_comes : (share : ℕ) (line : Line) (i : ℕ) (v : View) (story : Story) → own v.number story ≡ [] → awake_in line i ≡ true → IsNew v
    → Alert share Phase.Reads (nobody line) i v (story ++ Did (Came v.number i) ∷ [])
alert_comes share line i v story none awake new = record {
  seat = λ j sits. seated j (subst (λ t. list_any (is_seat j) (acts_in t) ≡ true) all sits);
  kept = record { more = λ some. absurd (some new.waiting); whole = λ some. absurd (some new.waiting) };
  stance = inr ((awake, λ some. absurd (some new.pending)), λ n. n);
}
  where
    all : own v.number (story ++ Did (Came v.number i) ∷ []) ≡ Did (Came v.number i) ∷ []
    all = own-append v.number story (Did (Came v.number i) ∷ []) ∙ ap (λ l. l ++ own v.number (Did (Came v.number i) ∷ [])) none ∙ own-mine v.number (Did (Came v.number i) ∷ []) (same_eq v.number, tt)

    seated : (j : ℕ) → ((i == j) || false) ≡ true → j ≡ i
    seated j e = elim (eqb_tells i j) [ inl p ↦ sym p.1 | inr p ↦ absurd (never (sym p.0 ∙ only (i == j) e)) ]
      where
        only : (b : Bool) → (b || false) ≡ true → b ≡ true
        only true e = refl
        only false e = absurd (never e)
