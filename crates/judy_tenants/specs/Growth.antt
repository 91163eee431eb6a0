-- What the service needs of each kind of array.
--     CallsAddOne      a call adds one entry, with its pieces, if it asks for a new one, and
--                      otherwise none
--     KindLaws H       an array survives changes of others, there is nothing at 0, and no other
--                      array is empty
--     KindsAreLawful   these laws hold of each kind, for every hash of byte keys
use Rattle.std.specs.Prelude.{ℕ, List, true}
use Rattle.judy_arena.specs.Blocks.{Blocks}
use Rattle.judy_model.specs.declared.calls.Call.{Call}
use Rattle.judy_model.specs.declared.replies.Reply.{Reply}
use Rattle.judy_model.specs.Tenant.{new_pieces}
use Rattle.judy_model.specs.WellFormed.{Grows}
use Rattle.judy_directory.specs.Shelf.{AreKept}
use Rattle.judy_kinds.specs.Kinds.{IsArrayOf, entries_of, pieces_at, IsPlaceAt, place_numbers, IsSameAt}
use Rattle.judy_kinds.specs.Calls.{kind_of_call, asks_at, AnswersAt}
use Rattle.judy_kinds.specs.Laws.{HoldsNothing, EmptyIsNothing}

-- If the call asks for a new entry, the array at x in b has one entry more than the one at w in a,
-- with the pieces of the call. Otherwise it has no more than that one.
pub record AddsOne (a : Blocks) (w : ℕ) (c : Call) (b : Blocks) (x : ℕ) : Type 0 where
  pub entries : Grows (asks_at a w c) true 1 (entries_of (kind_of_call c) a w) (entries_of (kind_of_call c) b x)
  pub pieces : Grows (asks_at a w c) true (new_pieces c) (pieces_at (kind_of_call c) a w) (pieces_at (kind_of_call c) b x)

-- a call adds one entry if it asks for a new one, and otherwise none
abbrev pub CallsAddOne : Type 0
CallsAddOne = (H : List ℕ → ℕ) (c : Call) (a b : Blocks) (w x : ℕ) (r : Reply) → IsArrayOf H (kind_of_call c) a w → AnswersAt a w c r b x → AddsOne a w c b x

-- the laws of each kind of array: it survives changes of others, there is nothing at 0, and no
-- other array is empty
pub record KindLaws (H : List ℕ → ℕ) : Type 0 where
  pub kept : AreKept (IsPlaceAt H) place_numbers IsSameAt
  pub empties : (b : Blocks) → HoldsNothing b 0 × ((w : ℕ) → EmptyIsNothing H b w)

-- these laws hold for every hash of byte keys
abbrev pub KindsAreLawful : Type 0
KindsAreLawful = (H : List ℕ → ℕ) → KindLaws H
