-- The end of a round: slots that were passed over stay, and those that had a turn come behind them.
--     sift_passed        the slot at a place was passed over, and stays
--     awake_*            slots that are awake stay so, or are among those that come back later
use Rattle.std.proofs.Common.{◌≡◌, ◌⊎◌, inl, inr, ◌<◌, ◌≤◌, ◌+◌, ℕ, zero, suc, Bool, true, false, List, [], ◌∷◌, ◌++◌, length, arith, ap, refl, sym, subst, ◌∙◌, slice_index_or, slice_set, take}
use Rattle.std.proofs.lemmas.Bool.Decides.{eqb_tells, leb_tells}
use Rattle.std.proofs.lemmas.List.{get_or-set_other, get_or-set_same, get_or-take, length-append, length-take}
use Rattle.judy_many.specs.declared.queue.Mark.{Mark}
use Rattle.judy_many.specs.declared.queue.Mark.TheVariants as mark
use Rattle.judy_many.specs.Queues.{AreAhead, ArePassed, AreTurned, IsIn, IsLonger, IsSifted, is_awake, is_passed, mark_in, slot_in, stands}
use Rattle.judy_many.proofs.Queueing.{sift_in, standing_below}
use Rattle.judy_many.proofs.Seats.{index_or_same}

-- a slot that is awake stands in the queue
pub awake_standing : (m : Mark) → is_awake m ≡ true → stands m ≡ true
awake_standing mark.Out e = e
awake_standing mark.Done e = refl
awake_standing mark.Ready e = refl
awake_standing mark.Ended e = refl
awake_standing mark.Passed e = refl
awake_standing mark.PassedEnded e = refl

-- ---- slots in a list

slot_before : (x : ℕ) (slots : List ℕ) (k : ℕ) → k < length slots → slot_in (slots ++ x ∷ []) k ≡ slot_in slots k
slot_before x [] k few = absurd (omega (arith, few))
slot_before x (s ∷ slots) zero few = refl
slot_before x (s ∷ slots) (suc k) few = slot_before x slots k (omega (arith, few))

slot_last : (x : ℕ) (slots : List ℕ) → slot_in (slots ++ x ∷ []) (length slots) ≡ x
slot_last x [] = refl
slot_last x (s ∷ slots) = slot_last x slots

in_longer : (i x : ℕ) (slots : List ℕ) → IsIn i slots → IsIn i (slots ++ x ∷ [])
in_longer i x slots (k, few, is) = (k, (let e = length-append slots (x ∷ []) in omega (arith, e, few)), slot_before x slots k few ∙ is)

in_last : (x : ℕ) (slots : List ℕ) → IsIn x (slots ++ x ∷ [])
in_last x slots = (length slots, (let e = length-append slots (x ∷ []) in omega (arith, e)), slot_last x slots)

-- ---- one slot

-- another mark with which a slot stands in the queue
sift_mark : (order : List ℕ) (count kept place slot : ℕ) (marks : List Mark) (m : Mark) → stands m ≡ true → stands (mark_in marks slot) ≡ true → IsSifted order count kept place marks → IsSifted order count kept place (slice_set marks slot m)
sift_mark order count kept place slot marks m stays stood h = record {
  few = h.few;
  short = h.short;
  apart = h.apart;
  stand = λ k ok. standing (slot_in order k) (h.stand k ok);
  found = λ i s. h.found i (stood_before i s);
}
  where
    standing : (i : ℕ) → stands (mark_in marks i) ≡ true → stands (mark_in (slice_set marks slot m) i) ≡ true
    standing i s = elim (eqb_tells i slot) [
      | inl p ↦ subst (λ j. stands (mark_in (slice_set marks slot m) j) ≡ true) (sym p.1) (ap stands (get_or-set_same marks slot m mark.Out (standing_below marks slot stood)) ∙ stays)
      | inr p ↦ ap stands (get_or-set_other marks slot i m mark.Out p.1) ∙ s
    ]

    stood_before : (i : ℕ) → stands (mark_in (slice_set marks slot m) i) ≡ true → stands (mark_in marks i) ≡ true
    stood_before i s = elim (eqb_tells i slot) [
      | inl p ↦ subst (λ j. stands (mark_in marks j) ≡ true) (sym p.1) stood
      | inr p ↦ sym (ap stands (get_or-set_other marks slot i m mark.Out p.1)) ∙ s
    ]

-- the slot at this place was passed over, and stays
pub sift_passed : (order : List ℕ) (count kept place : ℕ) (marks : List Mark) (m : Mark) → IsSifted order count kept place marks → is_awake m ≡ true → place < count → place < length order
    → IsSifted (slice_set order kept (slice_index_or order place 0)) count (kept + 1) (place + 1) (slice_set marks (slice_index_or order place 0) m)
sift_passed order count kept place marks m h awake below within =
    sift_in order count kept place (slice_set marks slot m) (sift_mark order count kept place slot marks m (awake_standing m awake) stood h) below within
  where
    slot : ℕ
    slot = slice_index_or order place 0

    stood : stands (mark_in marks slot) ≡ true
    stood = subst (λ i. stands (mark_in marks i) ≡ true) (sym (index_or_same order place 0 1024 within)) (h.stand place (inr (omega arith, below)))

-- ---- who is awake

abbrev pub AwakeOr : List Mark → List Mark → List ℕ → Type 0
AwakeOr marks marks' later = (i : ℕ) → is_awake (mark_in marks i) ≡ true → (is_awake (mark_in marks' i) ≡ true) ⊎ IsIn i later

apart : (b : Bool) → b ≡ false → b ≡ true → ⊥
apart b e f = cc

module _ (first marks : List Mark) (later : List ℕ) (slot : ℕ) (m : Mark) (h : AwakeOr first marks later) where
  -- it stays
  pub awake_passed : slot < length marks → is_awake m ≡ true → AwakeOr first (slice_set marks slot m) later
  awake_passed within awake i e = elim (eqb_tells i slot) [
    | inl p ↦ inl (subst (λ j. is_awake (mark_in (slice_set marks slot m) j) ≡ true) (sym p.1) (ap is_awake (get_or-set_same marks slot m mark.Out within) ∙ awake))
    | inr p ↦ elim (h i e) [
      | inl a ↦ inl (ap is_awake (get_or-set_other marks slot i m mark.Out p.1) ∙ a)
      | inr q ↦ inr q
    ]
  ]

  -- it comes back later
  pub awake_later : AwakeOr first (slice_set marks slot m) (later ++ slot ∷ [])
  awake_later i e = elim (eqb_tells i slot) [
    | inl p ↦ inr (subst (λ j. IsIn j (later ++ slot ∷ [])) (sym p.1) (in_last slot later))
    | inr p ↦ elim (h i e) [
      | inl a ↦ inl (ap is_awake (get_or-set_other marks slot i m mark.Out p.1) ∙ a)
      | inr q ↦ inr (in_longer i slot later q)
    ]
  ]

  -- it is not awake
  pub awake_done : is_awake (mark_in marks slot) ≡ false → AwakeOr first (slice_set marks slot m) later
  awake_done done i e = elim (h i e) [
    | inl a ↦ elim (eqb_tells i slot) [
      | inl p ↦ absurd (apart (is_awake (mark_in marks slot)) done (subst (λ j. is_awake (mark_in marks j) ≡ true) p.1 a))
      | inr p ↦ inl (ap is_awake (get_or-set_other marks slot i m mark.Out p.1) ∙ a)
    ]
    | inr q ↦ inr q
  ]

-- ---- who was passed over

-- what was not looked at has its first marks
abbrev pub AreFirst : List Mark → List Mark → List ℕ → ℕ → ℕ → Type 0
AreFirst first marks order place count = (k : ℕ) → place ≤ k → k < count → mark_in marks (slot_in order k) ≡ mark_in first (slot_in order k)

-- the slots before a place were passed over
abbrev pub ArePassedTo : List Mark → List ℕ → ℕ → Type 0
ArePassedTo first order kept = (k : ℕ) → k < kept → is_passed (mark_in first (slot_in order k)) ≡ true

module _ (first : List Mark) (order : List ℕ) (count kept place : ℕ) (marks : List Mark) (m : Mark) (h : IsSifted order count kept place marks) (same : AreFirst first marks order place count)
    (below : place < count) (within : place < length order) where
  abbrev pub placed : ℕ
  placed = slice_index_or order place 0

  here : placed ≡ slot_in order place
  here = index_or_same order place 0 1024 within

  -- the first mark of the slot at this place
  pub first_mark : mark_in marks placed ≡ mark_in first placed
  first_mark = subst (λ i. mark_in marks i ≡ mark_in first i) (sym here) (same place (omega arith) below)

  pub first_left : AreFirst first (slice_set marks placed m) order (place + 1) count
  first_left k far few =
      get_or-set_other marks placed (slot_in order k) m mark.Out (λ e. let at = h.apart k place (inr (omega (arith, far), few)) (inr (omega arith, below)) (e ∙ here) in absurd (omega (arith, at, far)))
      ∙ same k (omega (arith, far)) few

  pub first_kept : AreFirst first (slice_set marks placed m) (slice_set order kept placed) (place + 1) count
  first_kept k far few =
      let short = h.short in
      let moved : slot_in (slice_set order kept placed) k ≡ slot_in order k = get_or-set_other order kept k placed 1024 (λ e. absurd (omega (arith, far, e, short))) in
      subst (λ i. mark_in (slice_set marks placed m) i ≡ mark_in first i) (sym moved) (first_left k far few)

  pub passed_kept : is_passed (mark_in marks placed) ≡ true → ArePassedTo first order kept → ArePassedTo first (slice_set order kept placed) (kept + 1)
  passed_kept passed before k few = elim (eqb_tells k kept) [
    | inl p ↦
        let short = h.short in
        let last : slot_in (slice_set order kept placed) kept ≡ placed = get_or-set_same order kept placed 1024 (omega (arith, short, within)) in
        subst (λ j. is_passed (mark_in first (slot_in (slice_set order kept placed) j)) ≡ true) (sym p.1)
        (subst (λ i. is_passed (mark_in first i) ≡ true) (sym last) (sym (ap is_passed first_mark) ∙ passed))
    | inr p ↦
        let d = p.1 in
        subst (λ i. is_passed (mark_in first i) ≡ true) (sym (get_or-set_other order kept k placed 1024 d)) (before k (omega (arith, few, d)))
  ]

-- one more slot in a list
pub turned_more : (first : List Mark) (later : List ℕ) (slot : ℕ) → is_passed (mark_in first slot) ≡ false → AreTurned first later → AreTurned first (later ++ slot ∷ [])
turned_more first [] slot turned h zero few = turned
turned_more first [] slot turned h (suc k) few = absurd (omega (arith, few))
turned_more first (s ∷ later) slot turned h zero few = h 0 (omega arith)
turned_more first (s ∷ later) slot turned h (suc k) few = turned_more first later slot turned (λ k few. h (suc k) (omega (arith, few))) k (omega (arith, few))

pub passed_all : (first : List Mark) (order : List ℕ) (kept : ℕ) → ArePassedTo first order kept → ArePassed first (take kept order)
passed_all first order kept h k few =
    let less : k < kept = let e = length-take kept order in omega (arith, e, few) in
    subst (λ i. is_passed (mark_in first i) ≡ true) (sym (get_or-take kept order k 1024 less)) (h k less)

-- the slots before a place were passed over, and the others were not
pub record AreParted (first : List Mark) (order : List ℕ) (place : ℕ) : Type 0 where
  pub passed : (k : ℕ) → k < place → k < length order → is_passed (mark_in first (slot_in order k)) ≡ true
  pub turned : (k : ℕ) → place ≤ k → k < length order → is_passed (mark_in first (slot_in order k)) ≡ false
  pub short : place ≤ length order

pub parted_all : (first : List Mark) (order : List ℕ) → ArePassed first order → AreParted first order (length order)
parted_all first order h = record { passed = λ k few within. h k within; turned = λ k far within. absurd (omega (arith, far, within)); short = omega arith }

-- one that was not passed over came to the end
pub parted_more : (first : List Mark) (order order' : List ℕ) (place slot : ℕ) → is_passed (mark_in first slot) ≡ false → IsLonger slot order order' → AreParted first order place → AreParted first order' place
parted_more first order order' place slot turned (inl same) h = subst (λ l. AreParted first l place) (sym same) h
parted_more first order order' place slot turned (inr longer) h = subst (λ l. AreParted first l place) (sym longer) (record {
  passed = λ k few within. let short = h.short in subst (λ i. is_passed (mark_in first i) ≡ true) (sym (slot_before slot order k (omega (arith, few, short)))) (h.passed k few (omega (arith, few, short)));
  turned = λ k far within. elim (eqb_tells k (length order)) [
    | inl p ↦ subst (λ j. is_passed (mark_in first (slot_in (order ++ slot ∷ []) j)) ≡ false) (sym p.1) (subst (λ i. is_passed (mark_in first i) ≡ false) (sym (slot_last slot order)) turned)
    | inr p ↦
        let d = p.1 in
        let less : k < length order = let e = length-append order (slot ∷ []) in omega (arith, e, within, d) in
        subst (λ i. is_passed (mark_in first i) ≡ false) (sym (slot_before slot order k less)) (h.turned k far less)
  ];
  short = let e = length-append order (slot ∷ []) in let f = h.short in omega (arith, e, f);
})

pub ahead_of : (first : List Mark) (order : List ℕ) (place : ℕ) → AreParted first order place → AreAhead first order
ahead_of first order place h j k here there turned passed = elim (leb_tells place j) [
  | inl p ↦ elim (leb_tells place k) [
    | inl q ↦ absurd (apart (is_passed (mark_in first (slot_in order k))) (h.turned k q.1 there) passed)
    | inr q ↦ let a = p.1 in let b = q.1 in omega (arith, a, b)
  ]
  | inr p ↦ absurd (apart (is_passed (mark_in first (slot_in order j))) turned (h.passed j p.1 here))
]

-- ---- those that come back

-- from this place on
abbrev pub IsFrom : ℕ → ℕ → List ℕ → Type 0
IsFrom place i later = (k : ℕ) × (place ≤ k) × (k < length later) × (slot_in later k ≡ i)

pub from_all : (i : ℕ) (later : List ℕ) → IsIn i later → IsFrom 0 i later
from_all i later (k, few, is) = (k, omega arith, few, is)

-- the slot at this place is back
pub from_next : (place i slot : ℕ) (later : List ℕ) → IsFrom place i later → slot ≡ slot_in later place → (i ≡ slot) ⊎ IsFrom (place + 1) i later
from_next place i slot later (k, far, few, is) at = elim (eqb_tells k place) [
  | inl p ↦ inl (sym is ∙ ap (slot_in later) p.1 ∙ sym at)
  | inr p ↦ let d = p.1 in inr (k, omega (arith, far, d), few, is)
]

pub from_none : (place i : ℕ) (later : List ℕ) → length later ≤ place → IsFrom place i later → ⊥
from_none place i later all (k, far, few, is) = absurd (omega (arith, all, far, few))
