use Rattle.std.proofs.Common.{◌≡◌, ◌∙◌, ◌∷◌, ◌++◌, [], ap, arith, false, inl, inr, refl, rules, true}
use Rattle.std.proofs.lemmas.Grind.{common_steps}
use Rattle.std.proofs.lemmas.List.{take_more_set}
use Rattle.judy_many.specs.Queues.{is_awake, mark_in, stands}
use Rattle.judy_many.specs.declared.queue.Mark.{Mark}
use Rattle.judy_many.specs.declared.queue.Mark.TheVariants as mark
use Rattle.judy_many.proofs.Queueing.{has_room, queue_push}
use Rattle.judy_many.proofs.queue.Queue.mark.Goals as goal

-- a slot that is awake stands in the queue
standing : (m : Mark) → is_awake m ≡ true → stands m ≡ true
standing m e = elim m as (λ m. is_awake m ≡ true → stands m ≡ true) [ mark.Out ↦ λ e. e | mark.Done ↦ λ e. refl | mark.Ready ↦ λ e. e | mark.Ended ↦ λ e. e | mark.Passed ↦ λ e. e | mark.PassedEnded ↦ λ e. e ] e

pub bounds-self-inside-self-inside : goal.bounds-self-inside-self-inside
bounds-self-inside-self-inside c =
    let out : stands (mark_in c.self.inside.marks c.args.slot) ≡ false = first_of (search rules, grind (arith, common_steps)) in
    has_room c.self.inside.order c.self.inside.count c.args.slot c.self.inside.marks c.self.invariant (omega arith) (omega arith) (omega arith) out

pub invariant_of-self : goal.invariant_of-self
invariant_of-self c =
    let out : stands (mark_in c.self.inside.marks c.args.slot) ≡ false = first_of (search rules, grind (arith, common_steps)) in
    let room = has_room c.self.inside.order c.self.inside.count c.args.slot c.self.inside.marks c.self.invariant (omega arith) (omega arith) (omega arith) out in
    queue_push c.self.inside.order c.self.inside.count c.args.slot c.self.inside.marks c.args.seen c.self.invariant (omega arith) (omega arith) (omega arith) out (standing c.args.seen c.requires)

pub returns-then-slot-ge-CLIENTS_LIMIT-clause-order : goal.returns-then-slot-ge-CLIENTS_LIMIT-clause-order
returns-then-slot-ge-CLIENTS_LIMIT-clause-order c = inl refl

pub returns-then-eq-clause-order : goal.returns-then-eq-clause-order
returns-then-eq-clause-order c =
    let out : stands (mark_in c.self.inside.marks c.args.slot) ≡ false = first_of (search rules, grind (arith, common_steps)) in
    let room = has_room c.self.inside.order c.self.inside.count c.args.slot c.self.inside.marks c.self.invariant (omega arith) (omega arith) (omega arith) out in
    inr (take_more_set c.self.inside.order c.self.inside.count c.args.slot (omega (arith, room)) ∙ ap (λ q. q.order ++ c.args.slot ∷ []) c.self.view_is)

pub returns-clause-order : goal.returns-clause-order
returns-clause-order c = inl (ap (λ q. q.order) c.self.view_is)
