-- A segment's text that is being read for its notes.
--     Noting                    what a reader of notes shows
--     held chunk n              more of the line that is open was read
--     line_ended n              its line feed was read
--     HasSeen segment text n    this text was read
use Rattle.std.specs.Prelude.{◌≡◌, ◌++◌, ℕ, List, [], take, length}
use Rattle.judy_model.specs.Stream.{rest_of}
use Rattle.judy_journal.specs.declared.format.TheConstants.{NOTE_ROOM}
use Rattle.judy_journal.specs.Notes.{Seen, larger, seen_in, sure_of}
use Rattle.judy_journal.specs.Writes.{size_with}

-- the segment, what its whole lines told, how many bytes were read, and the front of the line that is open
pub record Noting : Type 0 where
  pub segment : ℕ
  pub seen : Seen
  pub taken : ℕ
  pub line : List ℕ

abbrev pub held : List ℕ → Noting → Noting
held chunk n = record n { taken = size_with n.taken (length chunk); line = take NOTE_ROOM (n.line ++ chunk) }

abbrev pub line_ended : Noting → Noting
line_ended n = record n {
  seen = record {
    place = size_with n.taken 1;
    surest = larger n.seen.surest (sure_of n.segment n.seen.place n.line);
  };
  taken = size_with n.taken 1;
  line = [];
}

-- this text of the segment was read
pub record HasSeen (segment : ℕ) (text : List ℕ) (n : Noting) : Type 0 where
  pub segment_is : n.segment ≡ segment
  pub seen_is : n.seen ≡ seen_in segment text
  pub taken_is : n.taken ≡ size_with 0 (length text)
  pub line_is : n.line ≡ take NOTE_ROOM (rest_of text)
