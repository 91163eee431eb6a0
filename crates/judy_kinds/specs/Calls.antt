-- A call of an array of any kind.
--     is_of_array call             the call is of one array
--     kind_of_call, name_of_call   the kind and the name of its array
--     has_string call              the call's key is a string, if it is a JudySL call
--     asks_at b w call             the call asks for an entry that the array at w does not have
--     blocks_of_call b w call      the blocks that the call takes at most, of 512 words or less
--     AnswersAt a w call r b x with room, the reply to the call of the array at w in a is r, and
--                              the array is then at x in b
use Rattle.std.specs.Prelude.{◌≡◌, ℕ, Bool, true, false, List, [], if◌then◌else◌}
use Rattle.judy_arena.specs.Blocks.{Blocks, ArenaState}
use Rattle.judy_arena.specs.Frame.{Frame}
use Rattle.judy_model.specs.declared.calls.Call.{Call}
use Rattle.judy_model.specs.declared.calls.Call.TheVariants as call
use Rattle.judy_model.specs.declared.calls.StrCall.TheVariants as str
use Rattle.judy_model.specs.declared.calls.StrCall.{StrCall}
use Rattle.judy_model.specs.declared.replies.Reply.{Reply}
use Rattle.judy_model.specs.Grammar.{is_string}
use Rattle.judy_model.specs.Tenant.{one_step, long_step, string_step, bytes_step, one_asks_for_new, long_asks_for_new, string_asks_for_new, bytes_asks_for_new}
use Rattle.judy_model.specs.declared.commands.Kind.{Kind}
use Rattle.judy_model.specs.declared.commands.Kind.TheVariants.{One, Long, Str, Bytes}
use Rattle.judy_directory.specs.Places.{Stand}
use Rattle.judy_words.specs.OneArrays.{one_in}
use Rattle.judy_words.specs.LongArrays.{long_in}
use Rattle.judy_string.specs.StringArrays.{string_in}
use Rattle.judy_bytes.specs.BytesArrays.{bytes_in}
use Rattle.judy_kinds.specs.Kinds.{IsPlaceOf, numbers_of_array}

-- the call is of one array: not an intersection, which names two, and not one of the tenant as a whole
abbrev pub is_of_array : Call → Bool
is_of_array (call.Intersect name other i n) = false
is_of_array (call.Names from n) = false
is_of_array call.Used = false
is_of_array _ = true

-- the kind of its array
abbrev pub kind_of_call : Call → Kind
kind_of_call (call.One name c) = One
kind_of_call (call.Long name c) = Long
kind_of_call (call.Str name c) = Str
kind_of_call (call.Bytes name c) = Bytes
kind_of_call (call.Intersect name other i n) = One
kind_of_call (call.Names from n) = One
kind_of_call call.Used = One

-- the name of its array
abbrev pub name_of_call : Call → List ℕ
name_of_call (call.One name c) = name
name_of_call (call.Long name c) = name
name_of_call (call.Str name c) = name
name_of_call (call.Bytes name c) = name
name_of_call (call.Intersect name other i n) = []
name_of_call (call.Names from n) = []
name_of_call call.Used = []

-- the key of a JudySL call
abbrev pub has_key_string : StrCall → Bool
has_key_string (str.Insert k given) = is_string k
has_key_string (str.Keep k v) = is_string k
has_key_string (str.Exchange k old new) = is_string k
has_key_string (str.Delete k) = is_string k
has_key_string (str.DeleteIf k v) = is_string k
has_key_string (str.Take k) = is_string k
has_key_string (str.Pop k) = is_string k
has_key_string (str.Get k) = is_string k
has_key_string (str.First k) = is_string k
has_key_string (str.Next k) = is_string k
has_key_string (str.Last k) = is_string k
has_key_string (str.Prev k) = is_string k
has_key_string (str.Walk search k n) = is_string k
has_key_string str.Free = true

-- the key of a JudySL call is a string
abbrev pub has_string : Call → Bool
has_string (call.Str name c) = has_key_string c
has_string _ = true

-- the call asks for an entry that the array does not have
abbrev pub asks_at : Blocks → ℕ → Call → Bool
asks_at b w (call.One name c) = one_asks_for_new (one_in b w) c
asks_at b w (call.Long name c) = long_asks_for_new (long_in b w) c
asks_at b w (call.Str name c) = string_asks_for_new (string_in b w) c
asks_at b w (call.Bytes name c) = bytes_asks_for_new (bytes_in b w) c
asks_at b w (call.Intersect name other i n) = false
asks_at b w (call.Names from n) = false
asks_at b w call.Used = false

-- the blocks that an insertion into an array of this kind takes at most
abbrev pub blocks_of_kind : Kind → ℕ
blocks_of_kind One = 64
blocks_of_kind Long = 64
blocks_of_kind Str = 380
blocks_of_kind Bytes = 65

-- the blocks that the call takes at most: none unless it asks for a new entry
abbrev pub blocks_of_call : Blocks → ℕ → Call → ℕ
blocks_of_call b w call = if asks_at b w call then blocks_of_kind (kind_of_call call) else 0

-- with room, the reply to the call of the array at w in a is r, and the array is then at x in b
abbrev pub AnswersAt : Blocks → ℕ → Call → Reply → Blocks → ℕ → Type 0
AnswersAt a w (call.One name c) reply b x = one_step true (one_in a w) c ≡ (reply, one_in b x)
AnswersAt a w (call.Long name c) reply b x = long_step true (long_in a w) c ≡ (reply, long_in b x)
AnswersAt a w (call.Str name c) reply b x = string_step true (string_in a w) c ≡ (reply, string_in b x)
AnswersAt a w (call.Bytes name c) reply b x = bytes_step true (bytes_in a w) c ≡ (reply, bytes_in b x)
AnswersAt a w (call.Intersect name other i n) reply b x = ⊥
AnswersAt a w (call.Names from n) reply b x = ⊥
AnswersAt a w call.Used reply b x = ⊥

-- the array at the place p in a is the one at q in b after the change, and no block of another
-- array changed
pub record ArrayBecomes (H : List ℕ → ℕ) (kind : Kind) (a : ArenaState) (p : Stand) (b : ArenaState) (q : Stand) : Type 0 where
  pub place : IsPlaceOf H kind b.blocks q
  pub frame : Frame a.blocks b.blocks (numbers_of_array kind a.blocks p.root) (numbers_of_array kind b.blocks q.root)
