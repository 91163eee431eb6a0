-- The slots of the queue, one after another.
use Rattle.std.proofs.Common.{◌≡◌, ◌≢◌, ◌⊎◌, inl, inr, ◌<◌, ◌≤◌, ◌+◌, ℕ, zero, suc, Bool, true, false, List, [], ◌∷◌, length, arith, ap, refl, sym, subst, ◌∙◌, eqb, ne_eqb, slice_index_or, slice_set}
use Rattle.std.specs.Prelude.{◌==◌}
use Rattle.std.specs.List.{list_any}
use Rattle.std.proofs.Math.ListN.{replicate}
use Rattle.std.proofs.lemmas.Bool.Decides.{eqb_tells, leb_tells}
use Rattle.std.proofs.lemmas.List.{get_or-set_other, get_or-set_same}
use Rattle.std.proofs.lemmas.Map.Keys.{IsDistinct-from_apart}
use Rattle.std.proofs.lemmas.Map.Steps.{length-le_from_distinct_below}
use Rattle.judy_many.specs.declared.queue.Mark.{Mark}
use Rattle.judy_many.specs.declared.queue.Mark.TheVariants as mark
use Rattle.judy_many.specs.Queues.{AreApart, IsBefore, IsOpen, IsQueue, IsSifted, is_awake, mark_in, slot_in, stands}
use Rattle.judy_many.proofs.Seats.{index_or_same}

-- what stands before a place stands before the next one, and what stands at the place too, which did
-- not before
pub before_more : (queue : List ℕ) (place : ℕ) (j : ℕ) → IsBefore queue place j → IsBefore queue (place + 1) j
before_more queue place j (k, below, is) = (k, omega (arith, below), is)

pub before_this : (queue : List ℕ) (place slot : ℕ) → slot ≡ slot_in queue place → IsBefore queue (place + 1) slot
before_this queue place slot is = (place, omega arith, sym is)

pub before_later : (queue queue' : List ℕ) (place : ℕ) (j : ℕ) → queue' ≡ queue → IsBefore queue place j → IsBefore queue' (place + 1) j
before_later queue queue' place j same h = subst (λ l. IsBefore l (place + 1) j) (sym same) (before_more queue place j h)

-- and nothing else
pub before_only : (queue : List ℕ) (place : ℕ) (j slot : ℕ) → j ≢ slot → slot ≡ slot_in queue place → IsBefore queue (place + 1) j → IsBefore queue place j
before_only queue place j slot apart is (k, below, at) = elim (eqb_tells k place) [
  | inl p ↦ absurd (apart (sym at ∙ ap (slot_in queue) p.1 ∙ sym is))
  | inr p ↦ let q = p.1 in (k, omega (arith, below, q), at)
]

pub before_not : (queue : List ℕ) (place : ℕ) → AreApart queue → place < length queue → IsBefore queue place (slot_in queue place) → ⊥
before_not queue place apart within (k, below, is) = let e = apart k place (omega (arith, below, within)) within is in absurd (omega (arith, below, e))

pub before_none : (queue : List ℕ) (j : ℕ) → IsBefore queue 0 j → ⊥
before_none queue j (k, below, is) = absurd (omega (arith, below))

-- ---- a queue that is new

-- no slot stands in a queue that is new
pub all_out : (n i : ℕ) → mark_in (replicate n mark.Out) i ≡ mark.Out
all_out zero i = refl
all_out (suc n) zero = refl
all_out (suc n) (suc i) = all_out n i

pub new_queue : (order : List ℕ) (marks : List Mark) → ((i : ℕ) → mark_in marks i ≡ mark.Out) → IsQueue order 0 marks
new_queue order marks out = record {
  few = omega arith;
  apart = λ j k few. absurd (omega (arith, few));
  stand = λ k few. absurd (omega (arith, few));
  found = λ i s. absurd (nothing (sym (ap stands (out i)) ∙ s));
}
  where
    nothing : false ≡ true → ⊥
    nothing e = cc

-- ---- a slot that comes in

-- a slot that stands in the queue has a mark
pub standing_below : (marks : List Mark) (slot : ℕ) → stands (mark_in marks slot) ≡ true → slot < length marks
standing_below [] slot s = absurd (nothing s)
  where
    nothing : false ≡ true → ⊥
    nothing e = cc
standing_below (m ∷ marks) zero s = omega arith
standing_below (m ∷ marks) (suc slot) s = let e = standing_below marks slot s in omega (arith, e)

-- one slot before others, all apart
apart_all : (slot : ℕ) (order : List ℕ) → ((k : ℕ) → k < length order → slot ≢ slot_in order k)
    → AreApart order → (i j : ℕ) (d : ℕ) → i < j → j < length (slot ∷ order)
    → eqb (slice_index_or (slot ∷ order) i d) (slice_index_or (slot ∷ order) j d) ≡ false
apart_all slot order other apart zero zero d before within = absurd (omega (arith, before))
apart_all slot order other apart zero (suc j) d before within =
    let few : j < length order = omega (arith, within) in
    ne_eqb slot (slice_index_or order j d) (λ e. other j few (e ∙ index_or_same order j d 1024 few))
apart_all slot order other apart (suc i) zero d before within = absurd (omega (arith, before))
apart_all slot order other apart (suc i) (suc j) d before within =
    let few : j < length order = omega (arith, within) in
    let less : i < length order = omega (arith, within, before) in
    ne_eqb (slice_index_or order i d) (slice_index_or order j d) (λ e.
    let same = apart i j less few (sym (index_or_same order i d 1024 less) ∙ e ∙ index_or_same order j d 1024 few) in
    absurd (omega (arith, same, before)))

all_below : (n : ℕ) (slots : List ℕ) → ((k : ℕ) → k < length slots → slot_in slots k < n) → (q : ℕ) → list_any (eqb q) slots ≡ true → q < n
all_below n [] h q any = absurd (nothing any)
  where
    nothing : false ≡ true → ⊥
    nothing e = cc
all_below n (slot ∷ slots) h q any = elim (eqb_tells q slot) [
  | inl p ↦ let few = h 0 (omega arith) in let e = p.1 in omega (arith, few, e)
  | inr p ↦ all_below n slots (λ k few. h (suc k) (omega (arith, few))) q (rw p.0 at any)
]

-- a slot that does not stand in the queue has room in it
pub has_room : (order : List ℕ) (count slot : ℕ) (marks : List Mark) → IsQueue order count marks → length order ≡ 1024 → length marks ≡ 1024
    → slot < 1024 → stands (mark_in marks slot) ≡ false → count < 1024
has_room order count slot marks h long many few out = elim (leb_tells 1024 count) [
  | inl p ↦ let full = p.1 in absurd (crowded (omega (arith, full)))
  | inr p ↦ p.1
]
  where
    nothing : (b : Bool) → b ≡ false → b ≡ true → ⊥
    nothing b e f = cc

    crowded : 1024 ≤ count → ⊥
    crowded full =
        let stand : (k : ℕ) → k < length order → stands (mark_in marks (slot_in order k)) ≡ true = λ k less. h.stand k (omega (arith, less, full, long)) in
        let distinct = IsDistinct-from_apart eqb (slot ∷ order) (apart_all slot order
        (λ k less e. nothing (stands (mark_in marks slot)) out (ap (λ i. stands (mark_in marks i)) e ∙ stand k less))
        (λ j k less fewer e. h.apart j k (omega (arith, less, full, long)) (omega (arith, fewer, full, long)) e)) in
        let most = length-le_from_distinct_below (slot ∷ order) 1024 distinct (all_below 1024 (slot ∷ order) (below stand)) in
        absurd (omega (arith, most, long))
      where
        below : ((k : ℕ) → k < length order → stands (mark_in marks (slot_in order k)) ≡ true)
            → (k : ℕ) → k < length (slot ∷ order) → slot_in (slot ∷ order) k < 1024
        below stand zero less = few
        below stand (suc k) less = let e = standing_below marks (slot_in order k) (stand k (omega (arith, less))) in omega (arith, e, many)

-- the slot comes in at the end
module _ (order : List ℕ) (count slot : ℕ) (marks : List Mark) (seen : Mark) (h : IsQueue order count marks) where
  pub queue_push : count < length order → slot < length marks → length order ≡ 1024 → stands (mark_in marks slot) ≡ false → stands seen ≡ true
      → IsQueue (slice_set order count slot) (count + 1) (slice_set marks slot seen)
  queue_push room within long out in_it = record {
    few = omega (arith, room, long);
    apart = λ j k less fewer e. both j k less fewer e (eqb_tells j count) (eqb_tells k count);
    stand = λ k less. standing k less (eqb_tells k count);
    found = λ i s. finds i s (eqb_tells i slot);
  }
    where
      here : slot_in (slice_set order count slot) count ≡ slot
      here = get_or-set_same order count slot 1024 room

      there : (k : ℕ) → k ≢ count → slot_in (slice_set order count slot) k ≡ slot_in order k
      there k d = get_or-set_other order count k slot 1024 d

      noted : mark_in (slice_set marks slot seen) slot ≡ seen
      noted = get_or-set_same marks slot seen mark.Out within

      kept : (i : ℕ) → i ≢ slot → mark_in (slice_set marks slot seen) i ≡ mark_in marks i
      kept i d = get_or-set_other marks slot i seen mark.Out d

      nothing : (b : Bool) → b ≡ false → b ≡ true → ⊥
      nothing b e f = cc

      other : (k : ℕ) → k < count → slot_in order k ≢ slot
      other k less e = nothing (stands (mark_in marks slot)) out (ap (λ i. stands (mark_in marks i)) (sym e) ∙ h.stand k less)

      standing : (k : ℕ) → k < count + 1 → (((k == count) ≡ true) × (k ≡ count)) ⊎ (((k == count) ≡ false) × (k ≢ count))
          → stands (mark_in (slice_set marks slot seen) (slot_in (slice_set order count slot) k)) ≡ true
      standing k less (inl p) = ap (λ j. stands (mark_in (slice_set marks slot seen) (slot_in (slice_set order count slot) j))) p.1
          ∙ ap (λ i. stands (mark_in (slice_set marks slot seen) i)) here ∙ ap stands noted ∙ in_it
      standing k less (inr p) =
          let d = p.1 in
          let before : k < count = omega (arith, less, d) in
          ap (λ i. stands (mark_in (slice_set marks slot seen) i)) (there k d) ∙ ap stands (kept (slot_in order k) (other k before)) ∙ h.stand k before

      both : (j k : ℕ) → j < count + 1 → k < count + 1 → slot_in (slice_set order count slot) j ≡ slot_in (slice_set order count slot) k
          → (((j == count) ≡ true) × (j ≡ count)) ⊎ (((j == count) ≡ false) × (j ≢ count)) → (((k == count) ≡ true) × (k ≡ count)) ⊎ (((k == count) ≡ false) × (k ≢ count)) → j ≡ k
      both j k less fewer e (inl p) (inl q) = p.1 ∙ sym q.1
      both j k less fewer e (inl p) (inr q) =
          let d = q.1 in
          absurd (other k (omega (arith, fewer, d)) (sym (there k d) ∙ sym e ∙ ap (λ i. slot_in (slice_set order count slot) i) p.1 ∙ here))
      both j k less fewer e (inr p) (inl q) =
          let d = p.1 in
          absurd (other j (omega (arith, less, d)) (sym (there j d) ∙ e ∙ ap (λ i. slot_in (slice_set order count slot) i) q.1 ∙ here))
      both j k less fewer e (inr p) (inr q) =
          let c = p.1 in let d = q.1 in
          h.apart j k (omega (arith, less, c)) (omega (arith, fewer, d)) (sym (there j c) ∙ e ∙ there k d)

      finds : (i : ℕ) → stands (mark_in (slice_set marks slot seen) i) ≡ true → (((i == slot) ≡ true) × (i ≡ slot)) ⊎ (((i == slot) ≡ false) × (i ≢ slot))
          → (k : ℕ) × (k < count + 1) × (slot_in (slice_set order count slot) k ≡ i)
      finds i s (inl p) = (count, omega arith, here ∙ sym p.1)
      finds i s (inr p) =
          let (k, less, e) = h.found i (sym (ap stands (kept i p.1)) ∙ s) in
          (k, omega (arith, less), there k (λ same. absurd (omega (arith, less, same))) ∙ e)

-- ---- the end of a round

-- slots that are awake stay so where one that is done leaves the queue
pub awake_out : (marks : List Mark) (slot i : ℕ) → mark_in marks slot ≡ mark.Done → is_awake (mark_in marks i) ≡ true → is_awake (mark_in (slice_set marks slot mark.Out) i) ≡ true
awake_out marks slot i done awake = elim (eqb_tells i slot) [
  | inl p ↦ absurd (nothing (sym (ap is_awake done) ∙ sym (ap (λ j. is_awake (mark_in marks j)) p.1) ∙ awake))
  | inr p ↦ ap is_awake (get_or-set_other marks slot i mark.Out mark.Out p.1) ∙ awake
]
  where
    nothing : false ≡ true → ⊥
    nothing e = cc

-- a slot that is sifted is one of the slots
pub sifted_below : (order : List ℕ) (count kept place : ℕ) (marks : List Mark) → IsSifted order count kept place marks → place < count → place < length order
    → length marks ≡ 1024 → slice_index_or order place 0 < 1024
sifted_below order count kept place marks h below within many =
    let e = standing_below marks (slot_in order place) (h.stand place (inr (omega arith, below))) in
    let same = index_or_same order place 0 1024 within in omega (arith, e, same, many)

module _ (order : List ℕ) (count kept place : ℕ) (marks : List Mark) (h : IsSifted order count kept place marks) where
  -- a place that stays, or was not looked at after this one
  abbrev Later : ℕ → Type 0
  Later k = IsOpen (kept + 1) (place + 1) count k

  old : (k : ℕ) → Later k → k ≢ kept → IsOpen kept place count k × (place ≢ k)
  old k (inl few) d = let s = h.short in (inl (omega (arith, few, d)), λ e. absurd (omega (arith, few, d, e, s)))
  old k (inr (far, below)) d = (inr (omega (arith, far), below), λ e. absurd (omega (arith, far, e)))

  -- the slot at this place leaves the queue
  pub sift_out : place < count → place < length order → IsSifted order count kept (place + 1) (slice_set marks (slice_index_or order place 0) mark.Out)
  sift_out below within = record {
    few = h.few;
    short = let s = h.short in omega (arith, s);
    apart = λ j k oj ok e. h.apart j k (wide j oj) (wide k ok) e;
    stand = λ k ok. ap stands (get_or-set_other marks slot (slot_in order k) mark.Out mark.Out (other k ok)) ∙ h.stand k (wide k ok);
    found = λ i s. finds i s (eqb_tells i slot);
  }
    where
      slot : ℕ
      slot = slice_index_or order place 0

      same : slot ≡ slot_in order place
      same = index_or_same order place 0 1024 within

      wide : (k : ℕ) → IsOpen kept (place + 1) count k → IsOpen kept place count k
      wide k (inl few) = inl few
      wide k (inr (far, under)) = inr (omega (arith, far), under)

      other : (k : ℕ) → IsOpen kept (place + 1) count k → slot_in order k ≢ slot
      other k ok e =
          let s = h.short in
          let at = h.apart k place (wide k ok) (inr (omega arith, below)) (e ∙ same) in
          beyond k ok at
        where
          beyond : (k : ℕ) → IsOpen kept (place + 1) count k → k ≡ place → ⊥
          beyond k (inl few) e = let s = h.short in absurd (omega (arith, few, e, s))
          beyond k (inr (far, under)) e = absurd (omega (arith, far, e))

      narrow : (k : ℕ) → IsOpen kept place count k → k ≢ place → IsOpen kept (place + 1) count k
      narrow k (inl few) d = inl few
      narrow k (inr (far, under)) d = inr (omega (arith, far, d), under)

      gone : stands (mark_in (slice_set marks slot mark.Out) slot) ≡ true → ⊥
      gone s =
          let few = standing_below marks (slot_in order place) (h.stand place (inr (omega arith, below))) in
          nothing (sym (ap stands (get_or-set_same marks slot mark.Out mark.Out (omega (arith, few, same)))) ∙ s)
        where
          nothing : false ≡ true → ⊥
          nothing e = cc

      finds : (i : ℕ) → stands (mark_in (slice_set marks slot mark.Out) i) ≡ true → (((i == slot) ≡ true) × (i ≡ slot)) ⊎ (((i == slot) ≡ false) × (i ≢ slot))
          → (k : ℕ) × IsOpen kept (place + 1) count k × (slot_in order k ≡ i)
      finds i s (inl p) = absurd (gone (subst (λ j. stands (mark_in (slice_set marks slot mark.Out) j) ≡ true) p.1 s))
      finds i s (inr p) =
          let (k, ok, e) = h.found i (sym (ap stands (get_or-set_other marks slot i mark.Out mark.Out p.1)) ∙ s) in
          (k, narrow k ok (λ at. p.1 (sym e ∙ ap (λ j. slot_in order j) at ∙ sym same)), e)

  -- the slot at this place stays in the queue
  pub sift_in : place < count → place < length order → IsSifted (slice_set order kept (slice_index_or order place 0)) count (kept + 1) (place + 1) marks
  sift_in below within = record {
    few = h.few;
    short = let s = h.short in omega (arith, s);
    apart = λ j k oj ok e. both j k oj ok e (eqb_tells j kept) (eqb_tells k kept);
    stand = λ k ok. standing k ok (eqb_tells k kept);
    found = λ i s. let (k, ok, e) = h.found i s in finds i k ok e (eqb_tells k place);
  }
    where
      here : slot_in (slice_set order kept (slice_index_or order place 0)) kept ≡ slot_in order place
      here = let s = h.short in get_or-set_same order kept (slice_index_or order place 0) 1024 (omega (arith, s, within)) ∙ index_or_same order place 0 1024 within

      there : (k : ℕ) → k ≢ kept → slot_in (slice_set order kept (slice_index_or order place 0)) k ≡ slot_in order k
      there k d = get_or-set_other order kept k (slice_index_or order place 0) 1024 d

      this : IsOpen kept place count place
      this = inr (omega arith, below)

      standing : (k : ℕ) → Later k → (((k == kept) ≡ true) × (k ≡ kept)) ⊎ (((k == kept) ≡ false) × (k ≢ kept))
          → stands (mark_in marks (slot_in (slice_set order kept (slice_index_or order place 0)) k)) ≡ true
      standing k ok (inl p) = subst (λ i. stands (mark_in marks (slot_in (slice_set order kept (slice_index_or order place 0)) i)) ≡ true) (sym p.1)
          (subst (λ s. stands (mark_in marks s) ≡ true) (sym here) (h.stand place this))
      standing k ok (inr p) = subst (λ s. stands (mark_in marks s) ≡ true) (sym (there k p.1)) (h.stand k (old k ok p.1).0)

      both : (j k : ℕ) → Later j → Later k → slot_in (slice_set order kept (slice_index_or order place 0)) j ≡ slot_in (slice_set order kept (slice_index_or order place 0)) k
          → (((j == kept) ≡ true) × (j ≡ kept)) ⊎ (((j == kept) ≡ false) × (j ≢ kept)) → (((k == kept) ≡ true) × (k ≡ kept)) ⊎ (((k == kept) ≡ false) × (k ≢ kept)) → j ≡ k
      both j k oj ok e (inl p) (inl q) = p.1 ∙ sym q.1
      both j k oj ok e (inl p) (inr q) =
          absurd ((old k ok q.1).1 (h.apart place k this (old k ok q.1).0
          (sym here ∙ ap (λ i. slot_in (slice_set order kept (slice_index_or order place 0)) i) (sym p.1) ∙ e ∙ there k q.1)))
      both j k oj ok e (inr p) (inl q) =
          absurd ((old j oj p.1).1 (h.apart place j this (old j oj p.1).0
          (sym here ∙ ap (λ i. slot_in (slice_set order kept (slice_index_or order place 0)) i) (sym q.1) ∙ sym e ∙ there j p.1)))
      both j k oj ok e (inr p) (inr q) = h.apart j k (old j oj p.1).0 (old k ok q.1).0 (sym (there j p.1) ∙ e ∙ there k q.1)

      later : (k : ℕ) → IsOpen kept place count k → k ≢ place → Later k × (k ≢ kept)
      later k (inl few) d = (inl (omega (arith, few)), λ e. absurd (omega (arith, few, e)))
      later k (inr (far, under)) d = let s = h.short in (inr (omega (arith, far, d), under), λ e. absurd (omega (arith, far, d, e, s)))

      finds : (i k : ℕ) → IsOpen kept place count k → slot_in order k ≡ i → (((k == place) ≡ true) × (k ≡ place)) ⊎ (((k == place) ≡ false) × (k ≢ place))
          → (k : ℕ) × Later k × (slot_in (slice_set order kept (slice_index_or order place 0)) k ≡ i)
      finds i k ok e (inl p) = (kept, inl (omega arith), here ∙ ap (λ j. slot_in order j) (sym p.1) ∙ e)
      finds i k ok e (inr p) = let l = later k ok p.1 in (k, l.0, there k l.1 ∙ e)
