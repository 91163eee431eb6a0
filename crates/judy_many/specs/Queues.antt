-- The slots whose clients have a turn, in their order.
--     slot_in queue place     the slot at a place
--     AreApart queue          each slot stands in the queue once
--     awake_in q slot         the slot has a turn owed
--     stands_in q slot        the slot stands in the queue
--     IsPlaced q slot         the slot has a place in the queue
--     StayAwake q q'          slots that are awake stay so
use Rattle.std.specs.List.{list_any}
use Rattle.std.specs.Prelude.{◌≡◌, ◌==◌, ◌⊎◌, ◌<◌, ◌≤◌, ℕ, Bool, true, false, List, [], ◌∷◌, ◌++◌, length, slice_index_or}
use Rattle.judy_many.specs.declared.queue.Left.{Left}
use Rattle.judy_many.specs.declared.queue.Left.TheVariants as left
use Rattle.judy_many.specs.declared.queue.Mark.{Mark}
use Rattle.judy_many.specs.declared.queue.Mark.TheVariants as mark

-- the slot at a place; past the end it is 1,024, which no slot is
abbrev pub slot_in : List ℕ → ℕ → ℕ
slot_in queue place = slice_index_or queue place 1024

abbrev pub AreApart : List ℕ → Type 0
AreApart queue = (j k : ℕ) → j < length queue → k < length queue → slot_in queue j ≡ slot_in queue k → j ≡ k

-- a slot that stands in the queue before this place has had a turn
abbrev pub IsBefore : List ℕ → ℕ → ℕ → Type 0
IsBefore queue place i = (k : ℕ) × (k < place) × (slot_in queue k ≡ i)

-- whether a slot of this mark stands in the queue
abbrev pub stands : Mark → Bool
stands mark.Out = false
stands mark.Done = true
stands mark.Ready = true
stands mark.Ended = true
stands mark.Passed = true
stands mark.PassedEnded = true

-- whether a slot of this mark has a turn owed
abbrev pub is_awake : Mark → Bool
is_awake mark.Out = false
is_awake mark.Done = false
is_awake mark.Ready = true
is_awake mark.Ended = true
is_awake mark.Passed = true
is_awake mark.PassedEnded = true

-- whether a slot of this mark was passed over in this round
abbrev pub is_passed : Mark → Bool
is_passed mark.Out = false
is_passed mark.Done = false
is_passed mark.Ready = false
is_passed mark.Ended = false
is_passed mark.Passed = true
is_passed mark.PassedEnded = true

-- whether a client may have another turn at once
abbrev pub is_more : Left → Bool
is_more left.More = true
is_more left.Passed = true
is_more left.Nothing = false
is_more left.Blocked = false
is_more left.Closed = false

abbrev pub mark_in : List Mark → ℕ → Mark
mark_in marks slot = slice_index_or marks slot mark.Out

-- the queue: its slots in order, and what is known of each slot
pub record Line : Type 0 where
  pub order : List ℕ
  pub marks : List Mark

abbrev pub awake_in : Line → ℕ → Bool
awake_in q i = is_awake (mark_in q.marks i)

abbrev pub stands_in : Line → ℕ → Bool
stands_in q i = stands (mark_in q.marks i)

-- the slot has a place in the queue
abbrev pub IsPlaced : Line → ℕ → Type 0
IsPlaced q i = (k : ℕ) × (k < length q.order) × (slot_in q.order k ≡ i)

-- the slot is in a list
abbrev pub IsIn : ℕ → List ℕ → Type 0
IsIn i slots = (k : ℕ) × (k < length slots) × (slot_in slots k ≡ i)

-- these slots were passed over, by these marks; or none of them was
abbrev pub ArePassed : List Mark → List ℕ → Type 0
ArePassed marks slots = (k : ℕ) → k < length slots → is_passed (mark_in marks (slot_in slots k)) ≡ true

abbrev pub AreTurned : List Mark → List ℕ → Type 0
AreTurned marks slots = (k : ℕ) → k < length slots → is_passed (mark_in marks (slot_in slots k)) ≡ false

-- each slot that was passed over, by these marks, stands before each that was not
abbrev pub AreAhead : List Mark → List ℕ → Type 0
AreAhead marks slots = (j k : ℕ) → j < length slots → k < length slots → is_passed (mark_in marks (slot_in slots j)) ≡ false
    → is_passed (mark_in marks (slot_in slots k)) ≡ true → k < j

-- a slot came to the end, or none did
abbrev pub IsLonger : ℕ → List ℕ → List ℕ → Type 0
IsLonger slot slots slots' = (slots' ≡ slots) ⊎ (slots' ≡ slots ++ slot ∷ [])

-- whether a slot is among these
abbrev pub is_among : ℕ → List ℕ → Bool
is_among i told = list_any (λ j. j == i) told

-- each of these slots is awake
abbrev pub AreAwake : List ℕ → Line → Type 0
AreAwake told q = (i : ℕ) → is_among i told ≡ true → awake_in q i ≡ true

-- slots that are awake stay so
abbrev pub StayAwake : Line → Line → Type 0
StayAwake q q' = (i : ℕ) → awake_in q i ≡ true → awake_in q' i ≡ true

-- the slots before this place are apart, and they are those whose marks say that they stand in the queue
pub record IsQueue (order : List ℕ) (count : ℕ) (marks : List Mark) : Type 0 where
  pub few : count ≤ 1024
  pub apart : (j k : ℕ) → j < count → k < count → slot_in order j ≡ slot_in order k → j ≡ k
  pub stand : (k : ℕ) → k < count → stands (mark_in marks (slot_in order k)) ≡ true
  pub found : (i : ℕ) → stands (mark_in marks i) ≡ true → (k : ℕ) × (k < count) × (slot_in order k ≡ i)

-- Where a queue is sifted: the places of the slots that stay, and of those that were not looked at.
abbrev pub IsOpen : ℕ → ℕ → ℕ → ℕ → Type 0
IsOpen kept place count k = (k < kept) ⊎ ((place ≤ k) × (k < count))

-- the slots of these places are apart, and they are those that stand in the queue
pub record IsSifted (order : List ℕ) (count kept place : ℕ) (marks : List Mark) : Type 0 where
  pub few : count ≤ 1024
  pub short : kept ≤ place
  pub apart : (j k : ℕ) → IsOpen kept place count j → IsOpen kept place count k → slot_in order j ≡ slot_in order k → j ≡ k
  pub stand : (k : ℕ) → IsOpen kept place count k → stands (mark_in marks (slot_in order k)) ≡ true
  pub found : (i : ℕ) → stands (mark_in marks i) ≡ true → (k : ℕ) × IsOpen kept place count k × (slot_in order k ≡ i)
