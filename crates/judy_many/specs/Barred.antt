-- Lines that are refused since the journal does not take records of their tenant.
--     asks_change who line          a speaker asks for a call that changes arrays
--     AreBarred barred who turns    where that is so, exactly the lines that ask for a change are refused
--     inquiry names caps keep n who takes
--                                   what is asked of the system before lines of a connection are run
--     IsInquired keep past story    at each moment of a story after this past, it was asked so, and lines were
--                                   refused by its answer
--     HasRunUnless ..               a line was run, or refused so
use Rattle.std.specs.Prelude.{◌≡◌, ◌&&◌, ℕ, Bool, true, false, not, List, [], ◌∷◌, ◌++◌, Option, Some, None, if◌then◌else◌, is_some, length, zip}
use Rattle.judy_model.specs.declared.replies.Reply.{Reply}
use Rattle.judy_model.specs.declared.requests.Line.TheVariants as request
use Rattle.judy_model.specs.Speakers.{Speaker}
use Rattle.judy_model.specs.Stream.{Heard, Login, answer_from, speaker_after}
use Rattle.judy_model.specs.Stream.Heard.{Asked, TooLong, Unclear}
use Rattle.judy_model.specs.Tenant.{changes}
use Rattle.judy_protocol.specs.Plain.{has_changed}
use Rattle.judy_protocol.specs.Services.{AreMade, Made}
use Rattle.judy_many.specs.Lives.{View}
use Rattle.judy_many.specs.Nets.{Act, Acts, DidLog}
use Rattle.judy_many.specs.Nets.Act.{Took}
use Rattle.judy_many.specs.Present.{speaker_since}
use Rattle.judy_many.specs.Sessions.{Turn, barred_answer, calls_if}
use Rattle.judy_many.specs.Stories.{Story, own, turns_in}
use Rattle.judy_many.specs.Stories.Moment.{Changed, Did, Ran}

-- whether a line asks for a call that changes arrays, and somebody speaks who makes it
abbrev pub asks_change : Option Speaker → Heard → Bool
asks_change None line = false
asks_change (Some who) (Asked (request.Call call)) = changes call
asks_change (Some who) (Asked (request.Auth name token)) = false
asks_change (Some who) (Asked request.Quit) = false
asks_change (Some who) (Asked request.Ping) = false
asks_change (Some who) (Asked request.Hello) = false
asks_change (Some who) Unclear = false
asks_change (Some who) TooLong = false

-- These lines are of this speaker. If its records are not taken, exactly those of them that ask for a change are
-- refused for it, and otherwise none.
abbrev pub AreBarred : Bool → Option Speaker → List Turn → Type 0
AreBarred barred who [] = Unit {0}
AreBarred barred who (t ∷ turns) = (t.who ≡ who) × (t.barred ≡ (barred && asks_change t.who t.line)) × AreBarred barred who turns

-- none of these lines is refused so
abbrev pub AreFree : List Turn → Type 0
AreFree [] = Unit {0}
AreFree (t ∷ turns) = (t.barred ≡ false) × AreFree turns

-- Directly before these lines of connection n the system was asked whether the journal takes records of its
-- tenant, and they were refused by its answer.
pub record HasAsked (past : Story) (n : ℕ) (who : Option Speaker) (turns : List Turn) : Type 0 where
  pub before : Story
  pub name : List ℕ
  pub limit : Option ℕ
  pub takes : Bool
  pub asked : past ≡ before ++ Did (Took n name limit takes) ∷ []
  pub barred : AreBarred (not takes) who turns

-- With a journal that is so where somebody speaks. Otherwise no line is refused so.
abbrev pub AreInquired : Bool → Story → ℕ → Option Speaker → List Turn → Type 0
AreInquired true past n (Some who) turns = HasAsked past n (Some who) turns
AreInquired true past n None turns = AreBarred false None turns
AreInquired false past n who turns = AreFree turns

abbrev pub IsInquired : Bool → Story → Story → Type 0
IsInquired keep past [] = Unit {0}
IsInquired keep past (Did a ∷ story) = IsInquired keep (past ++ Did a ∷ []) story
IsInquired keep past (Ran n turns ∷ story) =
    ((who : Option Speaker) × AreInquired keep past n who turns) × IsInquired keep (past ++ Ran n turns ∷ []) story
IsInquired keep past (Changed text left ∷ story) = IsInquired keep (past ++ Changed text left ∷ []) story

-- who speaks on the connection of a slot, if it has one, is who spoke last in this past
abbrev pub SpeaksIn : Story → Option View → Type 0
SpeaksIn past None = Unit {0}
SpeaksIn past (Some v) = speaker_since None (turns_in (own v.number past)) ≡ v.who

-- what is asked before lines of connection n are run, on which this one speaks
abbrev pub inquiry : (ℕ → List ℕ) → (ℕ → Option ℕ) → Bool → ℕ → Option Speaker → Bool → List Act
inquiry names caps true n (Some who) takes = Took n (names who.tenant) (caps who.tenant) takes ∷ []
inquiry names caps true n None takes = []
inquiry names caps false n who takes = []

-- it was asked, and this was the answer; where nothing is asked records are taken
pub record Inquires (names : ℕ → List ℕ) (caps : ℕ → Option ℕ) (keep : Bool) (n : ℕ) (who : Option Speaker) (takes : Bool) (log log' : Acts) : Type 0 where
  pub logged : DidLog log (inquiry names caps keep n who takes) log'
  pub free : (keep && is_some who) ≡ false → takes ≡ true

-- A line was run, and this text is its answer; or it was refused since the journal does not take its record, and
-- it made no call. Whether it made a call that may have changed arrays, so that it is recorded.
pub record HasRunUnless {S : Type 0} (made : Made S) (login : Login) (barred : Bool) (line : Heard) (who who' : Option Speaker) (before after : S)
    (text : List ℕ) (changed : Bool) : Type 0 where
  pub replies : List Reply
  pub speaks : who' ≡ speaker_after login who line
  pub count : length replies ≡ length (calls_if barred line who)
  pub run : AreMade made before (zip (calls_if barred line who) replies) after
  pub text_is : text ≡ (if barred then barred_answer else answer_from login who (line ∷ []) replies)
  pub changed_is : changed ≡ has_changed (calls_if barred line who) replies
