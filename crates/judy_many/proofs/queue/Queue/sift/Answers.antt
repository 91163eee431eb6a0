use Rattle.std.proofs.Common.{◌≡◌, ◌∙◌, ◌+◌, ap, arith, slice_index_or, slice_set, subst, sym, take, true}
use Rattle.judy_many.specs.declared.queue.Mark.TheVariants as mark
use Rattle.judy_many.specs.Queues.{ArePassed, AreTurned, IsSifted, awake_in, is_awake, is_passed}
use Rattle.judy_many.proofs.Queueing.{sift_out, sifted_below}
use Rattle.judy_many.proofs.Sifting.{AwakeOr, awake_done, awake_later, awake_passed, first_kept, first_left, first_mark, passed_all, passed_kept, sift_passed, turned_more}
use Rattle.judy_many.proofs.queue.Queue.sift.Goals as goal

pub bounds-self-inside-slot : goal.bounds-self-inside-slot
bounds-self-inside-slot c = sifted_below c.loop-place.self-inside.order c.loop-place.self-inside.count c.loop-place.kept c.loop-place.place c.loop-place.self-inside.marks
    c.loop-place.invariant.sifted (omega arith) (omega arith) (omega arith)

pub bounds-self-inside-slot-in-loop-place : goal.bounds-self-inside-slot-in-loop-place
bounds-self-inside-slot-in-loop-place c = sifted_below c.loop-place.self-inside.order c.loop-place.self-inside.count c.loop-place.kept c.loop-place.place c.loop-place.self-inside.marks
    c.loop-place.invariant.sifted (omega arith) (omega arith) (omega arith)

pub loop-place-preserved-then-is_passed : goal.loop-place-preserved-then-is_passed
loop-place-preserved-then-is_passed c =
    let marks = c.loop-place.self-inside.marks in
    let order = c.loop-place.self-inside.order in
    let slot = slice_index_or order c.loop-place.place 0 in
    let below = sifted_below order c.loop-place.self-inside.count c.loop-place.kept c.loop-place.place marks c.loop-place.invariant.sifted (omega arith) (omega arith) (omega arith) in
    let awake : is_awake c.sifted.result ≡ true = c.sifted.ensures.passed (sym c.is_passed.ensures ∙ c.if-is_passed.true) in
    let long = c.loop-place.invariant.long in
    let start = first_mark c.self.inside.marks order c.loop-place.self-inside.count c.loop-place.kept c.loop-place.place marks c.sifted.result c.loop-place.invariant.sifted c.loop-place.invariant.first (omega arith) (omega arith) in
    record {
      same = c.loop-place.invariant.same;
      sifted = sift_passed order c.loop-place.self-inside.count c.loop-place.kept c.loop-place.place marks c.sifted.result c.loop-place.invariant.sifted awake (omega arith) (omega arith);
      awake = awake_passed c.self.inside.marks marks c.loop-place.later.items slot c.sifted.result c.loop-place.invariant.awake (omega (arith, below)) awake;
      long = omega (arith, long);
      first = first_kept c.self.inside.marks order c.loop-place.self-inside.count c.loop-place.kept c.loop-place.place marks c.sifted.result c.loop-place.invariant.sifted c.loop-place.invariant.first (omega arith) (omega arith);
      kept = passed_kept c.self.inside.marks order c.loop-place.self-inside.count c.loop-place.kept c.loop-place.place marks c.sifted.result c.loop-place.invariant.sifted c.loop-place.invariant.first (omega arith) (omega arith)
          (sym c.is_passed.ensures ∙ c.if-is_passed.true) c.loop-place.invariant.kept;
      turned = c.loop-place.invariant.turned;
    }

pub loop-place-preserved-then-not-is_awake : goal.loop-place-preserved-then-not-is_awake
loop-place-preserved-then-not-is_awake c =
    let marks = c.loop-place.self-inside.marks in
    let order = c.loop-place.self-inside.order in
    let slot = slice_index_or order c.loop-place.place 0 in
    let out : c.sifted.result ≡ mark.Out = c.sifted.ensures.others (sym c.is_passed.ensures ∙ c.if-is_passed.false) in
    let long = c.loop-place.invariant.long in
    let start = first_mark c.self.inside.marks order c.loop-place.self-inside.count c.loop-place.kept c.loop-place.place marks c.sifted.result c.loop-place.invariant.sifted c.loop-place.invariant.first (omega arith) (omega arith) in
    record {
      same = c.loop-place.invariant.same;
      sifted = subst (λ m. IsSifted order c.loop-place.self-inside.count c.loop-place.kept (c.loop-place.place + 1) (slice_set marks slot m)) (sym out)
          (sift_out order c.loop-place.self-inside.count c.loop-place.kept c.loop-place.place marks c.loop-place.invariant.sifted (omega arith) (omega arith));
      awake = awake_done c.self.inside.marks marks c.loop-place.later.items slot c.sifted.result c.loop-place.invariant.awake (sym c.is_awake.ensures ∙ c.if-not-is_awake.true);
      long = omega (arith, long);
      first = first_left c.self.inside.marks order c.loop-place.self-inside.count c.loop-place.kept c.loop-place.place marks c.sifted.result c.loop-place.invariant.sifted c.loop-place.invariant.first (omega arith) (omega arith);
      kept = c.loop-place.invariant.kept;
      turned = c.loop-place.invariant.turned;
    }

pub loop-place-preserved : goal.loop-place-preserved
loop-place-preserved c =
    let marks = c.loop-place.self-inside.marks in
    let order = c.loop-place.self-inside.order in
    let slot = slice_index_or order c.loop-place.place 0 in
    let out : c.sifted.result ≡ mark.Out = c.sifted.ensures.others (sym c.is_passed.ensures ∙ c.if-is_passed.false) in
    let long = c.loop-place.invariant.long in
    let start = first_mark c.self.inside.marks order c.loop-place.self-inside.count c.loop-place.kept c.loop-place.place marks c.sifted.result c.loop-place.invariant.sifted c.loop-place.invariant.first (omega arith) (omega arith) in
    let more = c.push.ensures.len in
    record {
      same = c.loop-place.invariant.same;
      sifted = subst (λ m. IsSifted order c.loop-place.self-inside.count c.loop-place.kept (c.loop-place.place + 1) (slice_set marks slot m)) (sym out)
          (sift_out order c.loop-place.self-inside.count c.loop-place.kept c.loop-place.place marks c.loop-place.invariant.sifted (omega arith) (omega arith));
      awake = subst (AwakeOr c.self.inside.marks (slice_set marks slot c.sifted.result)) (sym c.push.ensures.items)
          (awake_later c.self.inside.marks marks c.loop-place.later.items slot c.sifted.result c.loop-place.invariant.awake);
      long = omega (arith, long, more);
      first = first_left c.self.inside.marks order c.loop-place.self-inside.count c.loop-place.kept c.loop-place.place marks c.sifted.result c.loop-place.invariant.sifted c.loop-place.invariant.first (omega arith) (omega arith);
      kept = c.loop-place.invariant.kept;
      turned = subst (AreTurned c.self.inside.marks) (sym c.push.ensures.items) (turned_more c.self.inside.marks c.loop-place.later.items slot (sym (ap is_passed start) ∙ sym c.is_passed.ensures ∙ c.if-is_passed.false) c.loop-place.invariant.turned);
    }

pub returns : goal.returns
returns c = record {
  awake = λ i h. c.loop-place.invariant.awake i (subst (λ q. awake_in q i ≡ true) (sym c.self.view_is) h);
  kept = subst (λ q. ArePassed q.marks (take c.loop-place.kept c.loop-place.self-inside.order)) c.self.view_is (passed_all c.self.inside.marks c.loop-place.self-inside.order c.loop-place.kept c.loop-place.invariant.kept);
  turned = subst (λ q. AreTurned q.marks c.loop-place.later.items) c.self.view_is c.loop-place.invariant.turned;
}
