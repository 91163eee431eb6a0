-- What happens beside the turns of the clients.
--     Passed          what it does to the waits and to the journal
--     IsBeside        it is no client's
--     IsAside         nor is it anything for the journal
--     keeping         what is written into the journal is beside the turns
use Rattle.std.proofs.Common.{◌≡◌, ◌+◌, ℕ, Bool, true, false, List, [], ◌∷◌, ◌++◌, Option, arith, sym, ◌∙◌, ap, subst, refl}
use Rattle.std.specs.Prelude.{is_some}
use Rattle.judy_journal.specs.Journals.{Commit}
use Rattle.judy_many.specs.Books.{noted_by}
use Rattle.judy_many.specs.Crowds.{Past, at_stage}
use Rattle.judy_many.specs.Endings.{lost_by, lost_in, waits_in}
use Rattle.judy_many.specs.Journaling.{AreKeeping, AreSettled, Carries, IsKeeping}
use Rattle.judy_many.specs.Nets.{Act}
use Rattle.judy_many.specs.Nets.Act.{Began, Kept, Synced}
use Rattle.judy_many.specs.Questions.{AreAsked, Stage, stage_since}
use Rattle.judy_many.specs.Rules.{Rules}
use Rattle.judy_many.specs.Statuses.{Lasts, Passes, Tells}
use Rattle.judy_many.specs.Stories.{AreRead, AreWithin, IsPhased, IsWithin, Phase, Share, Story, acts_in, came_by, came_in, closed_by, closed_in, is_of, is_wait, just_read, own, share_of, times, told, writes_after, writes_since}
use Rattle.judy_many.specs.Stories.Moment.{Did}
use Rattle.judy_many.specs.declared.serve.Limits.{Limits}
use Rattle.judy_many.proofs.Journals.{is_quiet}

-- ---- what has passed

-- what more of a story does to what has passed
pub record Passed (phase : Phase) (past : Past) (more : Story) (past' : Past) : Type 0 where
  pub waited : past'.waits ≡ past.waits + waits_in (acts_in more)
  pub began : past'.began ≡ past.began
  pub keeps : Carries past.journal more past'.journal
  pub settled : phase ≡ Phase.Writes → AreSettled past'.journal
  pub asked : AreAsked past.stage more
  pub stage : past'.stage ≡ stage_since past.stage more

-- the server waited once more
abbrev pub later : Past → Past
later past = record past { waits = past.waits + 1 }

-- lines with these records were run
abbrev pub after_lines : Commit → Past → Past
after_lines records past = record past { journal = noted_by records past.journal }

-- no wait, and nothing for the journal
pub stage_past : (phase : Phase) (past : Past) (stage : Stage) (more : Story) → waits_in (acts_in more) ≡ 0 → Carries past.journal more past.journal → (phase ≡ Phase.Writes → AreSettled past.journal)
    → AreAsked past.stage more → stage_since past.stage more ≡ stage → Passed phase past more (at_stage stage past)
stage_past phase past stage more none keeps settled asked is =
    record { waited = omega (arith, none); began = refl; keeps = keeps; settled = settled; asked = asked; stage = sym is }

-- and no question
pub stays_past : (phase : Phase) (past : Past) (more : Story) → waits_in (acts_in more) ≡ 0 → Carries past.journal more past.journal → (phase ≡ Phase.Writes → AreSettled past.journal)
    → AreAsked past.stage more × (stage_since past.stage more ≡ past.stage) → Passed phase past more past
stays_past phase past more none keeps settled asks =
    record { waited = omega (arith, none); began = refl; keeps = keeps; settled = settled; asked = asks.0; stage = sym asks.1 }

pub reads_not_writes : Phase.Reads ≡ Phase.Writes → ⊥
reads_not_writes e = cc

-- ---- no client's

-- what happened is no client's, and no accept, no wait and no end
pub record IsBeside (limits : Limits) (more : Story) : Type 0 where
  pub foreign : (n : ℕ) → own n more ≡ []
  pub came : came_in (acts_in more) ≡ 0
  pub closed : closed_in (acts_in more) ≡ 0
  pub within : AreWithin limits (acts_in more)
  pub phases : (wrote : Bool) → IsPhased wrote more × (writes_since wrote more ≡ wrote)
  pub silent : (share : Share) → times share more ≡ 0
  pub unlost : lost_in (acts_in more) ≡ 0
  pub waited : waits_in (acts_in more) ≡ 0
  pub reads : (last : Option (List ℕ)) → AreRead limits last more

-- nor is it anything for the journal
pub record IsAside (limits : Limits) (more : Story) : Type 0 where
  pub foreign : (n : ℕ) → own n more ≡ []
  pub came : came_in (acts_in more) ≡ 0
  pub closed : closed_in (acts_in more) ≡ 0
  pub within : AreWithin limits (acts_in more)
  pub phases : (wrote : Bool) → IsPhased wrote more × (writes_since wrote more ≡ wrote)
  pub silent : (share : Share) → times share more ≡ 0
  pub unlost : lost_in (acts_in more) ≡ 0
  pub waited : waits_in (acts_in more) ≡ 0
  pub reads : (last : Option (List ℕ)) → AreRead limits last more
  pub quiet : is_quiet more ≡ true

pub beside : (limits : Limits) (more : Story) → IsAside limits more → IsBeside limits more
beside limits more a = record {
  foreign = a.foreign;
  came = a.came;
  closed = a.closed;
  within = a.within;
  phases = a.phases;
  silent = a.silent;
  unlost = a.unlost;
  waited = a.waited;
  reads = a.reads;
}

-- ---- what is written into the journal

pub record IsKeepingOne (limits : Limits) (a : Act) : Type 0 where
  pub foreign : (n : ℕ) → is_of n a ≡ false
  pub came : came_by a ≡ 0
  pub closed : closed_by a ≡ 0
  pub within : IsWithin limits a
  pub writes : (wrote : Bool) → writes_after wrote (Did a) ≡ wrote
  pub silent : (share : Share) → share_of a share ≡ 0
  pub unlost : lost_by a ≡ 0
  pub waited : is_wait a ≡ false

keeping_one : (limits : Limits) (a : Act) → is_some limits.journal ≡ true → IsKeeping a → IsKeepingOne limits a
keeping_one limits (Began k) e h = record { foreign = λ n. refl; came = refl; closed = refl; within = e; writes = λ wrote. refl; silent = λ share. refl; unlost = refl; waited = refl }
keeping_one limits (Kept text) e h = record { foreign = λ n. refl; came = refl; closed = refl; within = e; writes = λ wrote. refl; silent = λ share. refl; unlost = refl; waited = refl }
keeping_one limits Synced e h = record { foreign = λ n. refl; came = refl; closed = refl; within = e; writes = λ wrote. refl; silent = λ share. refl; unlost = refl; waited = refl }
keeping_one limits act e h = absurd h

pub keeping : (limits : Limits) (acts : List Act) → is_some limits.journal ≡ true → AreKeeping acts → IsBeside limits (told acts)
keeping limits [] e h = record {
  foreign = λ n. refl;
  came = refl;
  closed = refl;
  within = tt;
  phases = λ wrote. (tt, refl);
  silent = λ share. refl;
  unlost = refl;
  waited = refl;
  reads = λ last. tt;
}
keeping limits (a ∷ acts) e h =
    let one = keeping_one limits a e h.0 in
    let rest = keeping limits acts e h.1 in
    record {
      foreign = λ n. rw (one.foreign n) (rest.foreign n);
      came = let f = one.came in let g = rest.came in omega (arith, f, g);
      closed = let f = one.closed in let g = rest.closed in omega (arith, f, g);
      within = (one.within, rest.within);
      phases = λ wrote.
          let k = rest.phases wrote in
          ((tt, subst (λ w. IsPhased w (told acts)) (sym (one.writes wrote)) k.0), ap (λ w. writes_since w (told acts)) (one.writes wrote) ∙ k.1);
      silent = λ share. let f = one.silent share in let g = rest.silent share in omega (arith, f, g);
      unlost = let f = one.unlost in let g = rest.unlost in omega (arith, f, g);
      waited = let g = rest.waited in rw one.waited (omega (arith, g));
      reads = λ last. rest.reads (just_read a);
    }

keeping_tells : {S : Type 0} (rules : Rules S) (now : S) (past : Story) (a : Act) → IsKeeping a → Tells rules now past a
keeping_tells rules now past (Began k) h = tt
keeping_tells rules now past (Kept text) h = tt
keeping_tells rules now past Synced h = tt
keeping_tells rules now past act h = absurd h

pub keeping_passes : {S : Type 0} (rules : Rules S) (acts : List Act) (now : S) → AreKeeping acts → (past : Story) → Passes rules past now (told acts) now
keeping_passes rules [] now h past = refl
keeping_passes rules (a ∷ acts) now h past = (keeping_tells rules now past a h.0, keeping_passes rules acts now h.1 (past ++ Did a ∷ []))

pub told_lasts : {S : Type 0} (rules : Rules S) (keep : Bool) (acts : List Act) (now : S) → Lasts rules keep now (told acts) now
told_lasts rules keep [] now = refl
told_lasts rules keep (a ∷ acts) now = told_lasts rules keep acts now
