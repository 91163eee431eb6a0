-- Lines that are refused since the journal does not take records of their tenant.
--     inquired_quiet     where no line is run none is refused
--     late_unasked       in a phase in which no line is run the journal is asked for none
--     piece_turn ..      a turn: at most one read, the question whether the journal takes records, and the lines
use Rattle.std.proofs.Common.{◌≡◌, ◌≤◌, ◌&&◌, ℕ, Bool, true, false, not, List, [], ◌∷◌, ◌++◌, Option, None, Some, arith, sym, ◌∙◌, ap, refl, subst, append-nil, append_assoc, length}
use Rattle.std.specs.Prelude.{◌==◌, if◌then◌else◌, is_some}
use Rattle.judy_model.specs.Speakers.{Speaker}
use Rattle.judy_many.specs.Barred.{AreBarred, AreFree, AreInquired, IsInquired, asks_change, inquiry}
use Rattle.judy_many.specs.Fates.{Stays}
use Rattle.judy_many.specs.Lives.{View}
use Rattle.judy_many.specs.Nets.{Act}
use Rattle.judy_many.specs.Nets.Act.{Broke, Dry, Ended, Read, Took}
use Rattle.judy_many.specs.Present.{speaker_since}
use Rattle.judy_many.specs.Rules.{Rules}
use Rattle.judy_many.specs.Sessions.{AreTurns, Turn}
use Rattle.judy_many.specs.Statuses.{Passes, Tells}
use Rattle.judy_many.specs.Stories.{AreReads, AreSingle, IsLate, IsOnce, IsPiece, IsRead, Moment, Phase, Share, Story, acts_in, asking, belongs, own, times, told, turns_in}
use Rattle.judy_many.specs.Stories.Moment.{Changed, Did, Ran}
use Rattle.judy_many.specs.Watches.{HasHalf, IsHeard, IsKept, Listens, Watch, watch_since}
use Rattle.judy_many.proofs.Limiting.{first_none}
use Rattle.judy_many.proofs.Owning.{own-append, same_eq}
use Rattle.judy_many.proofs.Singles.{AreSingle-append, told_single}
use Rattle.judy_many.proofs.Telling.{acts_heard, acts_in-append, acts_in-told, piece_append, piece_none, piece_ran, piece_reads, reads_once, stays_none, stays_took, turns_heard, turns_in-append, turns_in-told}
use Rattle.judy_many.proofs.Turning.{times-append}
use Rattle.judy_many.proofs.Watching.{watch-append}

-- ---- lines in a row

pub AreBarred-append : (barred : Bool) (who : Option Speaker) (ts us : List Turn) → AreBarred barred who ts → AreBarred barred who us → AreBarred barred who (ts ++ us)
AreBarred-append barred who [] us h k = k
AreBarred-append barred who (t ∷ ts) us h k = (h.0, h.1, AreBarred-append barred who ts us h.2 k)

pub AreFree-append : (ts us : List Turn) → AreFree ts → AreFree us → AreFree (ts ++ us)
AreFree-append [] us h k = k
AreFree-append (t ∷ ts) us h k = (h.0, AreFree-append ts us h.1 k)

-- the same of equal ones
pub barred_as : (t : Turn) (barred barred' : Bool) (who who' : Option Speaker) → barred ≡ barred' → who ≡ who' → AreBarred barred who (t ∷ []) → AreBarred barred' who' (t ∷ [])
barred_as t barred barred' who who' e f h = (h.0 ∙ f, h.1 ∙ ap (λ b. b && asks_change t.who t.line) e, tt)

-- a line that is refused only if its speaker's records are not taken
pub free_one : (t : Turn) (barred : Bool) (who : Option Speaker) → AreBarred barred who (t ∷ []) → barred ≡ false → AreFree (t ∷ [])
free_one t barred who h e = (h.1 ∙ ap (λ b. b && asks_change t.who t.line) e, tt)

onward : (keep : Bool) (past : Story) (m : Moment) (a b : Story) → IsInquired keep (past ++ m ∷ a) b → IsInquired keep ((past ++ m ∷ []) ++ a) b
onward keep past m a b k = subst (λ p. IsInquired keep p b) (sym (append_assoc past (m ∷ []) a)) k

pub IsInquired-append : (keep : Bool) (past a b : Story) → IsInquired keep past a → IsInquired keep (past ++ a) b → IsInquired keep past (a ++ b)
IsInquired-append keep past [] b h k = subst (λ p. IsInquired keep p b) (append-nil past) k
IsInquired-append keep past (Did x ∷ a) b h k = IsInquired-append keep (past ++ Did x ∷ []) a b h (onward keep past (Did x) a b k)
IsInquired-append keep past (Ran n turns ∷ a) b h k = (h.0, IsInquired-append keep (past ++ Ran n turns ∷ []) a b h.1 (onward keep past (Ran n turns) a b k))
IsInquired-append keep past (Changed text left ∷ a) b h k = IsInquired-append keep (past ++ Changed text left ∷ []) a b h (onward keep past (Changed text left) a b k)

pub inquired_quiet : (keep : Bool) (past story : Story) → turns_in story ≡ [] → IsInquired keep past story
inquired_quiet keep past [] e = tt
inquired_quiet keep past (Did a ∷ story) e = inquired_quiet keep (past ++ Did a ∷ []) story e
inquired_quiet keep past (Changed text left ∷ story) e = inquired_quiet keep (past ++ Changed text left ∷ []) story e
inquired_quiet keep past (Ran n turns ∷ story) e =
    let none = first_none turns (turns_in story) e in
    ((None, subst (AreInquired keep past n None) (sym none.0) (quiet keep)), inquired_quiet keep (past ++ Ran n turns ∷ []) story none.1)
  where
    quiet : (keep : Bool) → AreInquired keep past n None []
    quiet true = tt
    quiet false = tt

pub late_unasked : (phase : Phase) (more : Story) → IsLate phase → IsOnce phase more → times Share.Asking more ≡ 0
late_unasked Phase.Reads more late once = absurd late
late_unasked Phase.Writes more late once = let e = once Share.Asking in omega (arith, e)
late_unasked Phase.Sweeps more late once = let e = once Share.Asking in omega (arith, e)

-- ---- a turn

-- what an inquiry of one connection does
module _ (names : ℕ → List ℕ) (caps : ℕ → Option ℕ) (n : ℕ) (keep : Bool) (who : Option Speaker) (takes : Bool) where
  abbrev asked : List Act
  asked = inquiry names caps keep n who takes

  by_cases : (P : List Act → Type 0) (keep : Bool) (who : Option Speaker) → P [] → ((name : List ℕ) (limit : Option ℕ) → P (Took n name limit takes ∷ [])) → P (inquiry names caps keep n who takes)
  by_cases P true (Some speaker) none one = one (names speaker.tenant) (caps speaker.tenant)
  by_cases P true None none one = none
  by_cases P false who none one = none

  piece_asked : IsPiece n Phase.Reads (told asked)
  piece_asked = by_cases (λ a. IsPiece n Phase.Reads (told a)) keep who (piece_none n Phase.Reads) (λ name limit. record {
    mine = (same_eq n, tt);
    once = λ share. omega arith;
    came = refl;
    unclosed = refl;
    within = λ limits. (tt, tt);
    part = ((tt, tt), refl);
  })

  once_asked : (share : Share) → times share (told asked) ≤ asking share
  once_asked share = by_cases (λ a. times share (told a) ≤ asking share) keep who (omega arith) (λ name limit. omega arith)

  pub stays_asked : (v : View) → Stays v v (told asked)
  stays_asked v = by_cases (λ a. Stays v v (told a)) keep who (stays_none v) (λ name limit. stays_took v n name limit takes)

  unwatched : (i : ℕ) (w : Watch) → watch_since n i w (told asked) ≡ w
  unwatched i w = by_cases (λ a. watch_since n i w (told a) ≡ w) keep who refl (λ name limit.
      elim (n == n) as (λ b. (if b then w else w) ≡ w) [ true ↦ refl | false ↦ refl ])

  -- at most one read, the question, and the lines
  abbrev pub turn_story : List Act → List Turn → Story
  turn_story acts turns = told acts ++ (told asked ++ Ran n turns ∷ [])

  pub turn_acts : (acts : List Act) (turns : List Turn) → acts_in (turn_story acts turns) ≡ acts ++ asked
  turn_acts acts turns =
      acts_in-append (told acts) (told asked ++ Ran n turns ∷ []) ∙ ap (λ a. acts_in (told acts) ++ a) (acts_heard n asked turns)
      ∙ ap (λ a. a ++ asked) (acts_in-told acts)

  pub turn_turns : (acts : List Act) (turns : List Turn) → turns_in (turn_story acts turns) ≡ turns
  turn_turns acts turns =
      turns_in-append (told acts) (told asked ++ Ran n turns ∷ []) ∙ ap (λ t. t ++ turns_in (told asked ++ Ran n turns ∷ [])) (turns_in-told acts)
      ∙ turns_heard n asked turns

  pub piece_turn : (acts : List Act) (turns : List Turn) → AreReads n acts → length acts ≤ 1 → IsPiece n Phase.Reads (turn_story acts turns)
  piece_turn acts turns reads few =
      piece_append n Phase.Reads (told acts) (told asked ++ Ran n turns ∷ []) (piece_reads n acts reads few)
      (piece_append n Phase.Reads (told asked) (Ran n turns ∷ []) piece_asked (piece_ran n turns) (λ share.
      let two = once_asked share in
      let e = times-append share (told asked) (Ran n turns ∷ []) in
      omega (arith, two, e))) (λ share.
      let one = reads_once n acts reads few share in
      let two = once_asked share in
      let e = times-append share (told acts) (told asked ++ Ran n turns ∷ []) in
      let f = times-append share (told asked) (Ran n turns ∷ []) in
      omega (arith, one, two, e, f))

  pub single_turn : (acts : List Act) (turns : List Turn) → length turns ≤ 1 → AreSingle (turn_story acts turns)
  single_turn acts turns few =
      AreSingle-append (told acts) (told asked ++ Ran n turns ∷ []) (told_single acts)
      (AreSingle-append (told asked) (Ran n turns ∷ []) (told_single asked) (few, tt))

  -- nothing that is known of a client is changed by the question
  pub listens_turn : (v v' : View) (acts : List Act) (turns : List Turn) → n ≡ v.number → Listens v v' (told acts ++ Ran n turns ∷ []) → Listens v v' (turn_story acts turns)
  listens_turn v v' acts turns same h i w kept before =
      subst (λ x. IsKept v' × IsHeard v' x × HasHalf v' x) (sym (alike v.number same)) (h i w kept before)
    where
      alike : (m : ℕ) → n ≡ m → watch_since m i w (turn_story acts turns) ≡ watch_since m i w (told acts ++ Ran n turns ∷ [])
      alike m e = subst (λ m. watch_since m i w (turn_story acts turns) ≡ watch_since m i w (told acts ++ Ran n turns ∷ [])) e
          (watch-append n i w (told acts) (told asked ++ Ran n turns ∷ [])
          ∙ watch-append n i (watch_since n i w (told acts)) (told asked) (Ran n turns ∷ [])
          ∙ ap (λ x. watch_since n i x (Ran n turns ∷ [])) (unwatched i (watch_since n i w (told acts)))
          ∙ sym (watch-append n i w (told acts) (Ran n turns ∷ [])))

-- the lines are refused by the answer
pub inquired_turn : (names : ℕ → List ℕ) (caps : ℕ → Option ℕ) (n : ℕ) (keep : Bool) (who : Option Speaker) (takes : Bool) (acts : List Act) (turns : List Turn)
    → ((keep && is_some who) ≡ false → takes ≡ true) → (keep ≡ true → AreBarred (not takes) who turns) → (takes ≡ true → AreFree turns) → (past : Story) → IsInquired keep past (turn_story names caps n keep who takes acts turns)
inquired_turn names caps n keep who takes (a ∷ acts) turns free barred unbarred past = inquired_turn names caps n keep who takes acts turns free barred unbarred (past ++ Did a ∷ [])
inquired_turn names caps n true (Some who) takes [] turns free barred unbarred past =
    ((Some who, record { before = past; name = names who.tenant; limit = caps who.tenant; takes = takes; asked = refl; barred = barred refl }), tt)
inquired_turn names caps n true None takes [] turns free barred unbarred past = ((None, subst (λ b. AreBarred (not b) None turns) (free refl) (barred refl)), tt)
inquired_turn names caps n false who takes [] turns free barred unbarred past = ((who, unbarred (free refl)), tt)

-- ---- what is told

read_tells : {S : Type 0} (rules : Rules S) (now : S) (past : Story) (n : ℕ) (a : Act) → IsRead n a → Tells rules now past a
read_tells rules now past n (Read m bytes) h = tt
read_tells rules now past n (Dry m) h = tt
read_tells rules now past n (Ended m) h = tt
read_tells rules now past n (Broke m) h = tt
read_tells rules now past n act h = absurd h

-- an answer changes no speaker
same_lines : (n : ℕ) (past : Story) (a : Act) → turns_in (own n (past ++ Did a ∷ [])) ≡ turns_in (own n past)
same_lines n past a =
    ap turns_in (own-append n past (Did a ∷ [])) ∙ turns_in-append (own n past) (own n (Did a ∷ []))
    ∙ ap (λ t. turns_in (own n past) ++ t) (elim (belongs n (Did a)) as (λ b. turns_in (if b then Did a ∷ [] else []) ≡ []) [ true ↦ refl | false ↦ refl ])
    ∙ append-nil (turns_in (own n past))

pub passes_reads : {S : Type 0} (rules : Rules S) (now : S) (n : ℕ) (acts : List Act) → AreReads n acts → (past : Story) → Passes rules past now (told acts) now
passes_reads rules now n [] reads past = refl
passes_reads rules now n (a ∷ acts) reads past = (read_tells rules now past n a reads.0, passes_reads rules now n acts reads.1 (past ++ Did a ∷ []))

pub passes_turn : {S : Type 0} (rules : Rules S) (before after : S) (n : ℕ) (keep : Bool) (who : Option Speaker) (takes : Bool) (acts : List Act) (turns : List Turn)
    → AreReads n acts → AreTurns rules before turns after → (past : Story) → speaker_since None (turns_in (own n past)) ≡ who
    → Passes rules past before (turn_story (rules.seen before).names (rules.caps before) n keep who takes acts turns) after
passes_turn rules before after n keep who takes (a ∷ acts) turns reads run past speaks =
    (read_tells rules before past n a reads.0, passes_turn rules before after n keep who takes acts turns reads.1 run (past ++ Did a ∷ []) (ap (speaker_since None) (same_lines n past a) ∙ speaks))
passes_turn rules before after n true (Some who) takes [] turns reads run past speaks =
    (record { who = who; speaks = speaks; name_is = refl; limit_is = refl }, (after, run, refl))
passes_turn rules before after n true None takes [] turns reads run past speaks = (after, run, refl)
passes_turn rules before after n false who takes [] turns reads run past speaks = (after, run, refl)
