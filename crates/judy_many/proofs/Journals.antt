-- The journal over stories.
--     Carries-append      one story after another
--     keeps_quiet       where nothing is kept, run, written or answered, the journal stays
--     keeps_reply       an answer to the operator
--     keeps_change      a new table, with which tenants left
--     keeps_turn        a connection's turn, in each phase of a round
use Rattle.std.specs.Prelude.{◌&&◌, IsTrue, nat_le}
use Rattle.std.proofs.Common.{◌≡◌, ◌+◌, ℕ, Bool, true, false, List, [], ◌∷◌, ◌++◌, length, Option, None, Some, arith, sym, ◌∙◌, ap, subst, refl}
use Rattle.judy_journal.specs.Journals.{joined}
use Rattle.judy_journal.specs.Leaving.{gone_records}
use Rattle.judy_journal.specs.declared.format.TheConstants.{BODY_LIMIT, RECORD_LIMIT}
use Rattle.judy_many.specs.Books.{Journal, has_room, noted_by, noted}
use Rattle.judy_many.specs.Journaling.{AreSettled, IsJournaled, IsSettled, Carries, MayHappen, MayKeep, journal_after, journal_since}
use Rattle.judy_many.specs.Nets.{Act}
use Rattle.judy_many.specs.Nets.Act.{Wrote, Failed, Tabled, Replied, Began, Kept, Unkept, Synced, Unsynced}
use Rattle.judy_many.specs.Sessions.{records_in}
use Rattle.judy_many.specs.Stories.{IsOnce, Mine, Phase, Share, Story, is_of, share_of, times, turns_in}
use Rattle.judy_many.specs.Stories.Moment.{Changed, Did, Ran}
use Rattle.judy_many.specs.declared.serve.Limits.{Limits}
use Rattle.judy_many.proofs.Recording.{noted_none, noted_then, records_in-append}

-- ---- one story after another

pub since-append : (j : Journal) (a b : Story) → journal_since j (a ++ b) ≡ journal_since (journal_since j a) b
since-append j [] b = refl
since-append j (m ∷ a) b = since-append (journal_after j m) a b

pub kept-append : (j : Journal) (a b : Story) → IsJournaled j a → IsJournaled (journal_since j a) b → IsJournaled j (a ++ b)
kept-append j [] b h k = k
kept-append j (m ∷ a) b h k = (h.0, kept-append (journal_after j m) a b h.1 k)

pub Carries-append : (i j k : Option Journal) (a b : Story) → Carries i a j → Carries j b k → Carries i (a ++ b) k
Carries-append None j k a b h e = subst (λ j. Carries j b k) h e
Carries-append (Some i) j k a b h e =
    let later = subst (λ j. Carries j b k) h.1 e in
    (kept-append i a b h.0 later.0, later.1 ∙ ap Some (sym (since-append i a b)))

pub keeps_allowed : (limits : Limits) (i j : Option Journal) (a : Story) → MayKeep limits i → Carries i a j → MayKeep limits j
keeps_allowed limits None j a h k = subst (MayKeep limits) (sym k) tt
keeps_allowed limits (Some i) j a h k = subst (MayKeep limits) (sym k.1) h

-- ---- where nothing is kept, run, written or answered

abbrev pub is_quiet_act : Act → Bool
is_quiet_act (Wrote m bytes) = false
is_quiet_act (Failed m) = false
is_quiet_act (Began k) = false
is_quiet_act (Kept text) = false
is_quiet_act Synced = false
is_quiet_act (Replied text) = false
is_quiet_act act = true

abbrev pub is_quiet : Story → Bool
is_quiet [] = true
is_quiet (Did a ∷ story) = is_quiet_act a && is_quiet story
is_quiet (Ran n turns ∷ story) = false
is_quiet (Changed text gone ∷ story) = false

never : false ≡ true → ⊥
never e = cc

left : (a b : Bool) → (a && b) ≡ true → a ≡ true
left true b h = refl
left false b h = h

right : (a b : Bool) → (a && b) ≡ true → b ≡ true
right true b h = h
right false b h = absurd (never h)

quiet_after : (j : Journal) (a : Act) → is_quiet_act a ≡ true → MayHappen j (Did a) × (journal_after j (Did a) ≡ j)
quiet_after j (Wrote m bytes) h = absurd (never h)
quiet_after j (Failed m) h = absurd (never h)
quiet_after j (Began k) h = absurd (never h)
quiet_after j (Kept text) h = absurd (never h)
quiet_after j Synced h = absurd (never h)
quiet_after j (Replied text) h = absurd (never h)
quiet_after j act h = (tt, refl)

quiet_since : (j : Journal) (story : Story) → is_quiet story ≡ true → IsJournaled j story × (journal_since j story ≡ j)
quiet_since j [] h = (tt, refl)
quiet_since j (Did a ∷ story) h =
    let one = quiet_after j a (left _ _ h) in
    let rest = quiet_since j story (right _ _ h) in
    ((one.0, subst (λ i. IsJournaled i story) (sym one.1) rest.0), ap (λ i. journal_since i story) one.1 ∙ rest.1)
quiet_since j (Ran n turns ∷ story) h = absurd (never h)
quiet_since j (Changed text gone ∷ story) h = absurd (never h)

pub keeps_quiet : (j : Option Journal) (story : Story) → is_quiet story ≡ true → Carries j story j
keeps_quiet None story h = refl
keeps_quiet (Some j) story h = let k = quiet_since j story h in (k.0, ap Some (sym k.1))

pub keeps_reply : (j : Option Journal) (text : List ℕ) (more : Story) → AreSettled j → is_quiet more ≡ true → Carries j (Did (Replied text) ∷ more) j
keeps_reply None text more s h = refl
keeps_reply (Some j) text more s h = let k = quiet_since j more h in ((s, k.0), ap Some (sym k.1))

pub keeps_change : (j : Option Journal) (text : List ℕ) (gone : List (List ℕ)) → Carries j (Did (Tabled text) ∷ Changed text gone ∷ []) (noted_by (gone_records gone) j)
keeps_change None text gone = refl
keeps_change (Some j) text gone = ((tt, (tt, tt)), refl)

-- where all is kept the next record has room
pub settled_room : (j : Option Journal) → AreSettled j → IsTrue (has_room j)
settled_room None s = refl
settled_room (Some j) s = subst (λ r. IsTrue (nat_le (length (joined r) + RECORD_LIMIT) BODY_LIMIT)) (sym s.0) refl

-- where nobody left all is kept as before
pub settled_still : (i j : Option Journal) (gone : List (List ℕ)) → j ≡ noted_by (gone_records gone) i → gone ≡ [] → AreSettled i → AreSettled j
settled_still i j gone is none s = subst AreSettled (noted_none i ∙ sym (is ∙ ap (λ l. noted_by (gone_records l) i) none)) s

-- ---- a connection's turn

-- where nothing is written: its records are added
unwritten_after : (n : ℕ) (j : Journal) (a : Act) → is_of n a ≡ true → share_of a Share.Writing ≡ 0 → MayHappen j (Did a) × (journal_after j (Did a) ≡ j)
unwritten_after n j (Wrote m bytes) h w = absurd (omega (arith, w))
unwritten_after n j (Failed m) h w = absurd (omega (arith, w))
unwritten_after n j (Began k) h w = absurd (never h)
unwritten_after n j (Kept text) h w = absurd (never h)
unwritten_after n j Unkept h w = absurd (never h)
unwritten_after n j Synced h w = absurd (never h)
unwritten_after n j Unsynced h w = absurd (never h)
unwritten_after n j (Replied text) h w = absurd (never h)
unwritten_after n j act h w = (tt, refl)

unwritten : (n : ℕ) (j : Journal) (story : Story) → Mine n story → times Share.Writing story ≡ 0
    → IsJournaled j story × (Some (journal_since j story) ≡ noted_by (records_in (turns_in story)) (Some j))
unwritten n j [] h w = (tt, noted_none (Some j))
unwritten n j (Did a ∷ story) h w =
    let one = unwritten_after n j a h.0 (omega (arith, w)) in
    let rest = unwritten n j story h.1 (omega (arith, w)) in
    ((one.0, subst (λ i. IsJournaled i story) (sym one.1) rest.0), ap (λ i. Some (journal_since i story)) one.1 ∙ rest.1)
unwritten n j (Ran m turns ∷ story) h w =
    let rest = unwritten n (noted (records_in turns) j) story h.1 (omega (arith, w)) in (
      (tt, rest.0),
      rest.1 ∙ noted_then (records_in turns) (records_in (turns_in story)) (Some j)
          ∙ ap (λ r. noted_by r (Some j)) (sym (records_in-append turns (turns_in story))),
    )
unwritten n j (Changed text gone ∷ story) h w = absurd (never h.0)

-- where no line is run: the journal stays
unrun_after : (n : ℕ) (j : Journal) (a : Act) → is_of n a ≡ true → IsSettled j → MayHappen j (Did a) × (journal_after j (Did a) ≡ j)
unrun_after n j (Wrote m bytes) h s = (s, refl)
unrun_after n j (Failed m) h s = (s, refl)
unrun_after n j (Began k) h s = absurd (never h)
unrun_after n j (Kept text) h s = absurd (never h)
unrun_after n j Unkept h s = absurd (never h)
unrun_after n j Synced h s = absurd (never h)
unrun_after n j Unsynced h s = absurd (never h)
unrun_after n j (Replied text) h s = absurd (never h)
unrun_after n j act h s = (tt, refl)

unrun : (n : ℕ) (j : Journal) (story : Story) → Mine n story → times Share.Running story ≡ 0 → IsSettled j
    → IsJournaled j story × (Some (journal_since j story) ≡ noted_by (records_in (turns_in story)) (Some j))
unrun n j [] h w s = (tt, noted_none (Some j))
unrun n j (Did a ∷ story) h w s =
    let one = unrun_after n j a h.0 s in
    let rest = unrun n j story h.1 (omega (arith, w)) s in
    ((one.0, subst (λ i. IsJournaled i story) (sym one.1) rest.0), ap (λ i. Some (journal_since i story)) one.1 ∙ rest.1)
unrun n j (Ran m turns ∷ story) h w s = absurd (omega (arith, w))
unrun n j (Changed text gone ∷ story) h w s = absurd (never h.0)

no_turns : (story : Story) → times Share.Running story ≡ 0 → turns_in story ≡ []
no_turns [] w = refl
no_turns (Did a ∷ story) w = no_turns story (omega (arith, w))
no_turns (Ran m turns ∷ story) w = absurd (omega (arith, w))
no_turns (Changed text gone ∷ story) w = no_turns story (omega (arith, w))

pub settled_turn : (phase : Phase) (j : Option Journal) (story : Story) → IsOnce phase story → (phase ≡ Phase.Writes → AreSettled j)
    → phase ≡ Phase.Writes → AreSettled (noted_by (records_in (turns_in story)) j)
settled_turn phase j story once settled e =
    let w = subst (λ p. IsOnce p story) e once Share.Running in
    let none = no_turns story (omega (arith, w)) in
    subst AreSettled (noted_none j ∙ ap (λ t. noted_by (records_in t) j) (sym none)) (settled e)

-- In the first phase lines are run and nothing is written; in the second no line is run, and all is kept;
-- in the last there is neither.
pub keeps_turn : (phase : Phase) (n : ℕ) (j : Option Journal) (story : Story) → Mine n story → IsOnce phase story → (phase ≡ Phase.Writes → AreSettled j)
    → Carries j story (noted_by (records_in (turns_in story)) j)
keeps_turn phase n None story mine once settled = refl
keeps_turn Phase.Reads n (Some j) story mine once settled =
    let w = once Share.Writing in let k = unwritten n j story mine (omega (arith, w)) in (k.0, sym k.1)
keeps_turn Phase.Writes n (Some j) story mine once settled =
    let w = once Share.Running in let k = unrun n j story mine (omega (arith, w)) (settled refl) in (k.0, sym k.1)
keeps_turn Phase.Sweeps n (Some j) story mine once settled =
    let w = once Share.Writing in let k = unwritten n j story mine (omega (arith, w)) in (k.0, sym k.1)
