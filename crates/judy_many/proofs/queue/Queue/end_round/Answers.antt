use Rattle.std.proofs.Common.{false, ◌≡◌, ◌∙◌, ◌⊎◌, inl, inr, ◌+◌, ◌<◌, ℕ, ap, arith, length, slice_index_or, subst, sym, true}
use Rattle.judy_many.specs.Queues.{awake_in, is_passed, mark_in, slot_in}
use Rattle.judy_many.proofs.Queueing.{standing_below}
use Rattle.judy_many.proofs.Seats.{index_or_same}
use Rattle.judy_many.proofs.Sifting.{IsFrom, ahead_of, awake_standing, from_all, from_next, parted_all, parted_more}
use Rattle.judy_many.proofs.queue.Queue.end_round.Goals as goal

pub loop-place-preserved : goal.loop-place-preserved
loop-place-preserved c = record {
  awake = λ i e. goes i e (c.loop-place.invariant.awake i e);
  parted = let (b, h) = c.loop-place.invariant.parted in (b, parted_more c.args.self.now.marks c.loop-place.self.order c.put_back.new.self.order b slot turned c.put_back.ensures.order h);
}
  where
    slot : ℕ
    slot = slice_index_or c.deref.result.now c.loop-place.place 0

    here : slot ≡ slot_in c.sift.new.later.items c.loop-place.place
    here = ap (λ l. slice_index_or l c.loop-place.place 0) c.deref.ensures.0 ∙ index_or_same c.sift.new.later.items c.loop-place.place 0 1024 (omega arith)

    turned : is_passed (mark_in c.args.self.now.marks slot) ≡ false
    turned = subst (λ i. is_passed (mark_in c.args.self.now.marks i) ≡ false) (sym here) (c.sift.ensures.turned c.loop-place.place (omega arith))

    goes : (i : ℕ) → awake_in c.args.self.now i ≡ true → (awake_in c.loop-place.self i ≡ true) ⊎ IsFrom c.loop-place.place i c.sift.new.later.items
        → (awake_in c.put_back.new.self i ≡ true) ⊎ IsFrom (c.loop-place.place + 1) i c.sift.new.later.items
    goes i e (inl awake) = inl (c.put_back.ensures.stay i awake)
    goes i e (inr from) = elim (from_next c.loop-place.place i slot c.sift.new.later.items from here) [
      | inl same ↦
          let below : i < length c.args.self.now.marks = standing_below c.args.self.now.marks i (awake_standing (mark_in c.args.self.now.marks i) e) in
          let few : i < length c.marks-marks.result = subst (λ l. i < length l) (sym c.marks-marks.ensures) below in
          inl (subst (λ j. awake_in c.put_back.new.self j ≡ true) (sym same) (c.put_back.ensures.wakes (omega (arith, few, same))))
      | inr rest ↦ inr rest
    ]

pub loop-place-init : goal.loop-place-init
loop-place-init c = record {
  awake = λ i e. elim (c.sift.ensures.awake i e) [ inl a ↦ inl a | inr q ↦ inr (from_all i c.sift.new.later.items q) ];
  parted = (_, parted_all c.args.self.now.marks c.sift.new.self.order c.sift.ensures.kept);
}

pub returns-clause-ahead : goal.returns-clause-ahead
returns-clause-ahead c = let (b, h) = c.loop-place.invariant.parted in ahead_of c.args.self.now.marks c.loop-place.self.order b h
