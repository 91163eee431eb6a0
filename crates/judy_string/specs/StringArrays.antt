-- A map from strings to words, by its reference.
--     IsStringArray b w                      the reference w leads to a sound map in the blocks b
--     string_in b w                          its content: each string with its value
--     string_numbers b w                     the numbers of its blocks
--     IsKeyString s                          a string that a map can hold
--     string_value_in a w s                  the value of a string
--     has_string_key a w s                   whether the string is present
--     StringGains, StringSets, StringLoses   how a call changes the content
--     first_in, next_in a w s                what a search from s finds, up
--     last_in, prev_in a w s                 and down
--     IsStringFound, string_shown            what a search finds, in the buffer and as a reply
--     StringAnswers, StringLooks             the reply to a call, and what the call leaves
--     StringBecomes                          what every call leaves of the map and of others
--     HasStringSpace a w                     its blocks have few words
use Rattle.std.specs.Prelude.{◌≡◌, ℕ, ◌*◌, ◌<◌, ◌≤◌, Bool, true, List, [], length, Option, Some, None, unwrap_or}
use Rattle.judy_arena.specs.Blocks.{Blocks, ArenaState}
use Rattle.judy_arena.specs.Frame.{Frame}
use Rattle.judy_arena.specs.Totals.{words_over}
use Rattle.judy_model.specs.declared.names.TheConstants.{KEY_LIMIT}
use Rattle.judy_model.specs.Contents.{Entries, string_order, value_of, has_key, with_entry, without_key, first, next, last, prev}
use Rattle.judy_model.specs.Pieces.{pieces_of, string_pieces}
use Rattle.judy_model.specs.declared.calls.StrCall.{StrCall}
use Rattle.judy_model.specs.declared.calls.StrCall.TheVariants as str
use Rattle.judy_model.specs.declared.replies.Reply.{Reply}
use Rattle.judy_model.specs.declared.replies.Reply.TheVariants as reply
use Rattle.judy_model.specs.declared.calls.Given.{Given}
use Rattle.judy_model.specs.Tenant.{string_step, value_replied}
use Rattle.judy_packing.specs.Packing.{IsString}
use Rattle.judy_string.specs.Changes.{with_given}
use Rattle.judy_string.specs.Strings.{IsArray, content, nested_numbers}

-- bytes, none of them 0, and at most 1000 of them
pub record IsKeyString (s : List ℕ) : Type 0 where
  pub string : IsString s
  pub short : length s ≤ KEY_LIMIT

-- the reference leads to a sound map
abbrev pub IsStringArray : Blocks → ℕ → Type 0
IsStringArray b w = IsArray b w

-- the strings of the map, each with its value
abbrev pub string_in : Blocks → ℕ → Entries (List ℕ)
string_in b w = content b w

-- the numbers of its blocks
abbrev pub string_numbers : Blocks → ℕ → List ℕ
string_numbers b w = nested_numbers b w

-- the value of the string in the map at w, or None if it is absent
abbrev pub string_value_in : ArenaState → ℕ → List ℕ → Option ℕ
string_value_in a w s = value_of string_order (string_in a.blocks w) s

-- whether the string is in the map at w
abbrev pub has_string_key : ArenaState → ℕ → List ℕ → Bool
has_string_key a w s = has_key string_order (string_in a.blocks w) s

-- the map at x in b is the one at w in a after an insertion of the string
abbrev pub StringGains : ArenaState → ℕ → List ℕ → Given → ArenaState → ℕ → Type 0
StringGains a w s given b x = string_in b.blocks x ≡ with_given string_order (string_in a.blocks w) s given

-- the map at x in b is the one at w in a after this value is written at the string
abbrev pub StringSets : ArenaState → ℕ → List ℕ → ℕ → ArenaState → ℕ → Type 0
StringSets a w s v b x = string_in b.blocks x ≡ with_entry string_order (string_in a.blocks w) s v

-- the map at x in b is the one at w in a after the string is removed
abbrev pub StringLoses : ArenaState → ℕ → List ℕ → ArenaState → ℕ → Type 0
StringLoses a w s b x = string_in b.blocks x ≡ without_key string_order (string_in a.blocks w) s

-- the least string of the map from s on, with its value
abbrev pub first_in : ArenaState → ℕ → List ℕ → Option (List ℕ × ℕ)
first_in a w s = first string_order (string_in a.blocks w) s

-- the least string above s
abbrev pub next_in : ArenaState → ℕ → List ℕ → Option (List ℕ × ℕ)
next_in a w s = next string_order (string_in a.blocks w) s

-- the greatest string up to s
abbrev pub last_in : ArenaState → ℕ → List ℕ → Option (List ℕ × ℕ)
last_in a w s = last string_order (string_in a.blocks w) s

-- the greatest string below s
abbrev pub prev_in : ArenaState → ℕ → List ℕ → Option (List ℕ × ℕ)
prev_in a w s = prev string_order (string_in a.blocks w) s

-- the buffer has the string that was found, and the result is its value; if nothing was found, the
-- buffer is empty
abbrev pub IsStringFound : Option (List ℕ × ℕ) → Option ℕ → List ℕ → Type 0
IsStringFound None answer items = (answer ≡ None) × (items ≡ [])
IsStringFound (Some e) answer items = (answer ≡ Some e.1) × (items ≡ e.0)

-- the reply that shows a value with the string in the buffer
abbrev pub string_shown : Option ℕ → List ℕ → Reply
string_shown (Some v) items = reply.ValueKey v items
string_shown None items = reply.Null

-- if there is room, the call of the map at w in a has this reply and leaves the map at x in b
abbrev pub StringAnswers : ArenaState → ℕ → StrCall → Reply → ArenaState → ℕ → Type 0
StringAnswers a w call given b x = string_step true (string_in a.blocks w) call ≡ (given, string_in b.blocks x)

-- the reply to an insertion, by what was there before
abbrev pub StringInserts : ArenaState → ℕ → List ℕ → Given → Option ℕ → ArenaState → ℕ → Type 0
StringInserts a w s given before b x = StringAnswers a w (str.Insert s given) (reply.Value (value_replied given (unwrap_or before 0))) b x

-- the call changes nothing
abbrev pub StringLooks : ArenaState → ℕ → StrCall → Reply → Type 0
StringLooks a w call given = StringAnswers a w call given a w

-- the map at w in a became the sound map at x in b, and no block of another array changed
pub record StringBecomes (a : ArenaState) (w : ℕ) (b : ArenaState) (x : ℕ) : Type 0 where
  pub sound : IsStringArray b.blocks x
  pub frame : Frame a.blocks b.blocks (string_numbers a.blocks w) (string_numbers b.blocks x)

-- the blocks of the map have at most 16 words for each piece of its strings, and at least 4 words
-- if it has a string
pub record HasStringSpace (a : ArenaState) (w : ℕ) : Type 0 where
  pub most : words_over a.blocks (string_numbers a.blocks w) ≤ 16 * pieces_of string_pieces (string_in a.blocks w)
  pub least : 0 < length (string_in a.blocks w) → 4 ≤ words_over a.blocks (string_numbers a.blocks w)
