-- How the serving of many ends.
use Rattle.std.proofs.Common.{◌≡◌, inl, inr, ◌≤◌, ℕ, Bool, true, false, List, [], ◌∷◌, ◌++◌, length, Option, None, Some, arith, sym, ◌∙◌, ap, subst, refl, append-nil}
use Rattle.std.specs.Prelude.{is_some}
use Rattle.judy_model.specs.Service.{ServingGoesOn, ServingIsStepwise}
use Rattle.judy_model.specs.Solo.{SoloGoesOn, SoloIsDetermined}
use Rattle.judy_journal.specs.Writes.{Writing}
use Rattle.judy_many.specs.Books.{Journal, opened}
use Rattle.judy_many.specs.Crowds.{AreFree, Crowd, HasFailed, HasServedMany, IsTold, at_stage, past_of}
use Rattle.judy_many.specs.Endings.{IsCaused, IsSpent, lost_in, waits_in}
use Rattle.judy_many.specs.Queues.{Line}
use Rattle.judy_many.specs.Watches.{Queued, nobody, unqueued}
use Rattle.judy_many.specs.Lives.{IsServed, View}
use Rattle.judy_many.specs.Journaling.{AreKept, Carries, IsFailure, MayKeep}
use Rattle.judy_many.specs.Nets.{Act, Acts, DidLog}
use Rattle.judy_many.specs.Nets.Act.{Lost, Questioned, Unkept, Unsynced}
use Rattle.judy_many.specs.Present.{speakers_at}
use Rattle.judy_many.specs.Questions.{AreAsked, Stage, IsLastStage, stage_since}
use Rattle.judy_many.specs.Rules.{Rules}
use Rattle.judy_many.specs.Statuses.{HasAnswered, Lasts, Passes}
use Rattle.judy_many.specs.Stories.{AreRead, AreWithin, Phase, IsPhased, Share, Story, acts_in, came_in, closed_in, own, times, writes_since}
use Rattle.judy_many.specs.Stories.Moment.{Did}
use Rattle.judy_many.specs.declared.asking.Next.TheVariants as next
use Rattle.judy_many.specs.declared.network.Question.TheVariants as question
use Rattle.judy_many.specs.declared.serve.Ending.{Ending}
use Rattle.judy_many.specs.declared.serve.Ending.TheVariants as ending
use Rattle.judy_many.specs.declared.network.Sync.{Sync}
use Rattle.judy_many.specs.declared.serve.Limits.{Limits}
use Rattle.judy_many.proofs.Beginning.{crowd_first}
use Rattle.judy_many.proofs.Beside.{stage_past}
use Rattle.judy_many.proofs.Journals.{is_quiet, keeps_quiet}
use Rattle.judy_many.proofs.Singles.{quiet_single}
use Rattle.judy_many.proofs.Inquiring.{inquired_quiet}
use Rattle.judy_many.proofs.Limiting.{foreign_quiet, limited_quiet}
use Rattle.judy_many.proofs.Owning.{own-append}
use Rattle.judy_many.proofs.Chaining.{Stays, kept_alone, runs_alone}
use Rattle.judy_many.proofs.Seeing.{IsUnseen, KeepsApart}
use Rattle.judy_many.proofs.Seats.{free_at, taken_most}
use Rattle.judy_many.proofs.Turning.{still}
use Rattle.judy_many.proofs.Watching.{no_looks}
use Rattle.judy_many.proofs.Living.{no_log}
use Rattle.judy_many.proofs.Crowding.{shares_still, told_more}

-- there is a journal only where there is a rule when it is synced
pub opened_allowed : (limits : Limits) (writer : Option Writing) → MayKeep limits (opened limits.journal writer)
opened_allowed limits writer = allowed limits.journal writer refl
  where
    allowed : (rule : Option Sync) (w : Option Writing) → limits.journal ≡ rule → MayKeep limits (opened rule w)
    allowed None w e = tt
    allowed (Some rule) None e = tt
    allowed (Some rule) (Some w) e = ap is_some e

are_kept : (i j : Option Journal) (story : Story) → Carries i story j → AreKept i story
are_kept None j story h = tt
are_kept (Some i) j story h = h.0

-- the server ends, after these last answers
crowd_ends : {B S : Type 0} (view : B → View) (rules : Rules S) (apart : KeepsApart rules) (unseen : IsUnseen rules) (stays : Stays rules)
    → ServingGoesOn → ServingIsStepwise → SoloIsDetermined → SoloGoesOn
    → (first : S) (start mid log : Acts) (writer : Option Writing) (phase : Phase) (had : Queued) (waits : ℕ) (journal : Option Journal) (from stage : Stage) (lost : ℕ) (slots : List (Option B)) (count : ℕ) (now : S) (limits : Limits) (how : Ending) (more : Story)
    → (how ≡ ending.Done → (limits.connections ≤ count) × AreFree slots)
    → (h : Crowd view rules limits first start phase had (at_stage from (past_of waits (opened limits.journal writer) journal)) mid slots count now)
    → ((n : ℕ) → own n more ≡ []) → IsTold rules limits first start phase lost (at_stage stage (past_of waits (opened limits.journal writer) journal)) log slots count now (h.story ++ more) → IsLastStage how stage → IsCaused how (h.story ++ more)
    → HasServedMany rules limits writer how start log first now
crowd_ends view rules apart unseen stays goes_on one equal steps first start mid log writer phase had waits journal from stage lost slots count now limits how more done h none told ended cause =
    let story = h.story ++ more in
    record {
      story = story;
      logged = told.logged;
      served = λ n. subst IsServed (sym (same n)) (h.served n);
      order = λ p q cut n. (h.served n).order (own n p) (own n q) (sym (same n) ∙ ap (own n) cut ∙ own-append n p q);
      phases = told.phases;
      fair = told.fair;
      shared = told.shared;
      awake = told.awake;
      each = told.each;
      limited = told.limited;
      inquired = told.inquired;
      single = told.single;
      few = told.few;
      total = let e = told.total in let f = told.capped in omega (arith, e, f);
      within = told.within;
      cause = cause;
      done = λ e n few.
          let all = done e in
          let enough = all.0 in
          elim (h.ends n (omega (arith, few, enough))) [
            | inl q ↦ subst (λ t. closed_in (acts_in t) ≡ 1) (sym (same n)) q
            | inr q ↦ absurd (free_at slots q.i q.b all.1 q.there)
          ];
      asked = told.asked;
      answered = subst (IsLastStage how) (sym told.stage) ended;
      told = told.run;
      reads = told.reads;
      lasts = told.lasts;
      journaled = are_kept (opened limits.journal writer) journal story told.keeps;
      alone = runs_alone rules apart unseen stays goes_on one equal [] first now story told.run;
      kept = kept_alone rules apart unseen stays goes_on one equal steps [] first now story told.run;
    }
  where
    same : (n : ℕ) → own n (h.story ++ more) ≡ own n h.story
    same n = own-append n h.story more ∙ ap (λ l. own n h.story ++ l) (none n) ∙ append-nil (own n h.story)

-- in a crowd: nothing more is answered, or that something failed for good
module _ {B S : Type 0} (view : B → View) (rules : Rules S) (apart : KeepsApart rules) (unseen : IsUnseen rules) (stays : Stays rules)
    (goes_on : ServingGoesOn) (one : ServingIsStepwise) (equal : SoloIsDetermined) (steps : SoloGoesOn)
    (first : S) (start : Acts) (limits : Limits) (writer : Option Writing) where
  told_on : (phase : Phase) (had : Queued) (waits : ℕ) (journal : Option Journal) (from stage : Stage) (lost : ℕ) (mid log : Acts) (slots : List (Option B)) (count : ℕ) (now : S)
      (h : Crowd view rules limits first start phase had (at_stage from (past_of waits (opened limits.journal writer) journal)) mid slots count now) (more : Story)
      → ((n : ℕ) → own n more ≡ []) → DidLog mid (acts_in more) log → Passes rules h.story now more now → Lasts rules (is_some limits.journal) now more now → came_in (acts_in more) ≡ 0 → closed_in (acts_in more) ≡ 0 → AreWithin limits (acts_in more)
      → ((wrote : Bool) → IsPhased wrote more × (writes_since wrote more ≡ wrote)) → ((share : Share) → times share more ≡ 0)
      → AreAsked from more → stage_since from more ≡ stage → lost ≡ lost_in (acts_in more) → waits_in (acts_in more) ≡ 0 → is_quiet more ≡ true → ((last : Option (List ℕ)) → AreRead limits last more)
      → IsTold rules limits first start phase lost (at_stage stage (past_of waits (opened limits.journal writer) journal)) log slots count now (h.story ++ more)
  told_on phase had waits journal from stage lost mid log slots count now h more none k r l came closed within phases silent asked is lose wait quiet reads =
      told_more rules limits first start phase phase 0 lost (at_stage from (past_of waits (opened limits.journal writer) journal)) (at_stage stage (past_of waits (opened limits.journal writer) journal)) mid log slots slots count count now now h.story more h.is_told k r l
      (omega (arith, came)) h.is_told.capped (omega (arith, came, closed))
      (let a = taken_most slots in let b = h.is_told.sized in omega (arith, a, b, came)) (omega arith) within
      (phases (writes_since false h.story)).0 (λ e. (phases (writes_since false h.story)).1 ∙ h.is_told.quiet e)
      (still h.story more h.is_told.fair silent) (shares_still view rules limits first start phase had (at_stage from (past_of waits (opened limits.journal writer) journal)) mid slots count now h more silent wait) (omega (arith, lose)) (stage_past phase (at_stage from (past_of waits (opened limits.journal writer) journal)) stage more wait (keeps_quiet journal more quiet) h.is_told.settled asked is) reads (no_looks limits.share h.story more wait)
      (limited_quiet limits.tenant_clients h.story more (foreign_quiet more none)) (inquired_quiet (is_some limits.journal) h.story more (foreign_quiet more none)) (λ e. quiet_single more (foreign_quiet more none))

  pub ends_here : (log : Acts) (phase : Phase) (had : Queued) (waits : ℕ) (journal : Option Journal) (slots : List (Option B)) (count : ℕ) (now : S) (how : Ending)
      → IsLastStage how Stage.Unasked → (how ≡ ending.Done → (limits.connections ≤ count) × AreFree slots)
      → (h : Crowd view rules limits first start phase had (past_of waits (opened limits.journal writer) journal) log slots count now)
      → IsCaused how (h.story ++ []) → HasServedMany rules limits writer how start log first now
  ends_here log phase had waits journal slots count now how unasked done h cause =
      crowd_ends view rules apart unseen stays goes_on one equal steps first start log log writer phase had waits journal Stage.Unasked Stage.Unasked 0 slots count now limits how [] done h (λ n. refl)
      (told_on phase had waits journal Stage.Unasked Stage.Unasked 0 log log slots count now h [] (λ n. refl) (no_log log) refl refl refl refl tt (λ wrote. (tt, refl)) (λ share. refl) tt refl refl refl refl (λ last. tt)) unasked cause

  -- before anything was asked of the system
  pub ends_first : (line : Line) (slots : List (Option B)) → AreFree slots → length slots ≤ limits.clients → length slots ≤ 1024 → HasServedMany rules limits writer ending.Memory start start first first
  ends_first line slots free sized small =
      let first_of = crowd_first line view rules limits first start (opened limits.journal writer) slots free sized small (opened_allowed limits writer) in
      ends_here start Phase.Sweeps (nobody line) 0 (opened limits.journal writer) slots 0 first ending.Memory refl (λ e. absurd (memory_not e)) first_of.0 (ap (λ t. t ++ []) first_of.1)
    where
      memory_not : ending.Memory ≡ ending.Done → ⊥
      memory_not e = cc

  -- in order
  pub ends_done : (log : Acts) (phase : Phase) (had : Queued) (waits : ℕ) (journal : Option Journal) (slots : List (Option B)) (count : ℕ) (now : S)
      → limits.connections ≤ count → AreFree slots → Crowd view rules limits first start phase had (past_of waits (opened limits.journal writer) journal) log slots count now
      → HasServedMany rules limits writer ending.Done start log first now
  ends_done log phase had waits journal slots count now enough free h =
      ends_here log phase had waits journal slots count now ending.Done refl (λ e. (enough, free)) h (subst (λ t. lost_in (acts_in t) ≡ 0) (sym (append-nil h.story)) h.is_told.unlost)

  -- after all rounds
  pub ends_spent : (log : Acts) (phase : Phase) (had : Queued) (waits : ℕ) (journal : Option Journal) (slots : List (Option B)) (count : ℕ) (now : S)
      → waits ≡ 18446744073709551615 → Crowd view rules limits first start phase had (past_of waits (opened limits.journal writer) journal) log slots count now
      → HasServedMany rules limits writer ending.Socket start log first now
  ends_spent log phase had waits journal slots count now all h =
      ends_here log phase had waits journal slots count now ending.Socket refl (λ e. absurd (socket_not e)) h
      (inr (subst IsSpent (sym (append-nil h.story)) (record { rounds = h.is_told.waited ∙ all; unlost = h.is_told.unlost })))
    where
      socket_not : ending.Socket ≡ ending.Done → ⊥
      socket_not e = cc

  -- where the listener, or the wait, failed for good
  pub ends_lost : (mid log : Acts) (phase : Phase) (had : Queued) (waits : ℕ) (journal : Option Journal) (slots : List (Option B)) (count : ℕ) (now : S)
      → DidLog mid (Lost ∷ []) log → Crowd view rules limits first start phase had (past_of waits (opened limits.journal writer) journal) mid slots count now
      → HasServedMany rules limits writer ending.Socket start log first now
  ends_lost mid log phase had waits journal slots count now k h =
      crowd_ends view rules apart unseen stays goes_on one equal steps first start mid log writer phase had waits journal Stage.Unasked Stage.Unasked 1 slots count now limits ending.Socket (Did Lost ∷ []) (λ e. absurd (socket_not e)) h (λ n. refl)
      (told_on phase had waits journal Stage.Unasked Stage.Unasked 1 mid log slots count now h (Did Lost ∷ []) (λ n. refl) k (tt, refl) refl refl refl (tt, tt) (λ wrote. ((tt, tt), refl)) (λ share. refl) (refl, tt) refl refl refl refl (λ last. tt)) refl
      (inl (record { before = h.story; last = refl; once = h.is_told.unlost }))
    where
      socket_not : ending.Socket ≡ ending.Done → ⊥
      socket_not e = cc

  -- where a stop was asked for
  pub ends_stopped : (mid log : Acts) (phase : Phase) (had : Queued) (waits : ℕ) (journal : Option Journal) (slots : List (Option B)) (count : ℕ) (now : S) (watches : Bool) → limits.status ≡ watches
      → HasAnswered watches next.Stop (rules.status now (speakers_at view slots)) mid log → Crowd view rules limits first start phase had (past_of waits (opened limits.journal writer) journal) mid slots count now
      → HasServedMany rules limits writer ending.Stopped start log first now
  ends_stopped mid log phase had waits journal slots count now false e bad h = absurd bad
  ends_stopped mid log phase had waits journal slots count now true e k h =
      crowd_ends view rules apart unseen stays goes_on one equal steps first start mid log writer phase had waits journal Stage.Unasked (Stage.Asks question.Stop) 1 slots count now limits ending.Stopped (Did (Questioned question.Stop) ∷ []) (λ e. absurd (stopped_not e)) h (λ n. refl)
      (told_on phase had waits journal Stage.Unasked (Stage.Asks question.Stop) 1 mid log slots count now h (Did (Questioned question.Stop) ∷ []) (λ n. refl) k (tt, refl) refl refl refl (e, tt) (λ wrote. ((tt, tt), refl)) (λ share. refl) (refl, tt) refl refl refl refl (λ last. tt)) refl
      (record { before = h.story; last = refl; once = h.is_told.unlost })
    where
      stopped_not : ending.Stopped ≡ ending.Done → ⊥
      stopped_not e = cc

  -- where the journal failed
  pub ends_unkept : (log : Acts) (slots : List (Option B)) (count : ℕ) (now : S) → HasFailed view rules limits first start (opened limits.journal writer) log slots count now
      → HasServedMany rules limits writer ending.Journal start log first now
  ends_unkept log slots count now f = failed f.last f.fails f.logged
    where
      allowed : (j : Option Journal) → is_some j ≡ true → MayKeep limits j → is_some limits.journal ≡ true
      allowed None e h = absurd (never e)
        where
          never : false ≡ true → ⊥
          never e = cc
      allowed (Some j) e h = h

      journal_not : ending.Journal ≡ ending.Done → ⊥
      journal_not e = cc

      with : is_some limits.journal ≡ true
      with = allowed f.journal f.some f.crowd.is_told.allowed

      ended : (a : Act) → IsFailure a → lost_in (a ∷ []) ≡ 1 → AreWithin limits (a ∷ []) → DidLog f.mid (a ∷ []) log → ((n : ℕ) → own n (Did a ∷ []) ≡ [])
          → came_in (a ∷ []) ≡ 0 → closed_in (a ∷ []) ≡ 0 → ((wrote : Bool) → IsPhased wrote (Did a ∷ []) × (writes_since wrote (Did a ∷ []) ≡ wrote))
          → ((share : Share) → times share (Did a ∷ []) ≡ 0) → AreAsked f.stage (Did a ∷ []) → stage_since f.stage (Did a ∷ []) ≡ f.stage → waits_in (a ∷ []) ≡ 0 → is_quiet (Did a ∷ []) ≡ true → Passes rules f.crowd.story now (Did a ∷ []) now
          → HasServedMany rules limits writer ending.Journal start log first now
      ended a fails lost within k none came closed phases silent asked is wait quiet passes =
          crowd_ends view rules apart unseen stays goes_on one equal steps first start f.mid log writer f.phase unqueued f.waits f.journal f.stage f.stage 1 slots count now limits ending.Journal (Did a ∷ []) (λ e. absurd (journal_not e)) f.crowd none
          (told_on f.phase unqueued f.waits f.journal f.stage f.stage 1 f.mid log slots count now f.crowd (Did a ∷ []) none k passes refl came closed within phases silent asked is (sym lost) wait quiet (λ last. tt)) f.may
          (record { before = f.crowd.story; act = a; fails = fails; last = refl; once = f.crowd.is_told.unlost })

      failed : (a : Act) → IsFailure a → DidLog f.mid (a ∷ []) log → HasServedMany rules limits writer ending.Journal start log first now
      failed Unkept e k = ended Unkept e refl (with, tt) k (λ n. refl) refl refl (λ wrote. ((tt, tt), refl)) (λ share. refl) (tt, tt) refl refl refl (tt, refl)
      failed Unsynced e k = ended Unsynced e refl (with, tt) k (λ n. refl) refl refl (λ wrote. ((tt, tt), refl)) (λ share. refl) (tt, tt) refl refl refl (tt, refl)
      failed act e k = absurd e
