use Rattle.std.proofs.Common.{◌≡◌, ◌∙◌, ◌+◌, ◌++◌, ◌≤◌, ◌<◌, Bool, true, false, get_or, add-one, ap, append-nil, arith, drop, inl, length, map, refl, slice_set, subst, sym, take, vec_len}
use Rattle.std.specs.Prelude.{if◌then◌else◌, option_map}
use Rattle.std.proofs.lemmas.List.{drop_all, length-append, length-map, take_all}
use Rattle.judy_many.specs.Kicks.{after_kick, kick_act, kick_acts, speaks_as}
use Rattle.judy_many.specs.Lives.{view_of}
use Rattle.judy_many.specs.Nets.{DidLog}
use Rattle.judy_many.specs.Questions.{gones_in}
use Rattle.judy_many.specs.Rules.{rules_of}
use Rattle.judy_many.specs.Slots.{AreKnown, IsKnownSlot}
use Rattle.judy_many.specs.Stories.Phase.{Sweeps}
use Rattle.judy_many.specs.Watches.{nobody}
use Rattle.judy_many.proofs.Crowding.{crowd_closed, shown}
use Rattle.judy_many.proofs.Kicking.{change_at, change_step, kicks_more, map_at, map_set}
use Rattle.judy_many.proofs.Known.{known-at, known-change}
use Rattle.judy_many.proofs.Living.{no_log, then_log}
use Rattle.judy_many.proofs.Questioning.{kick_stays}
use Rattle.judy_many.proofs.kicks.close_all.Goals as goal

pub loop-at-init : goal.loop-at-init
loop-at-init g c = record {
  slots = refl;
  crowd = λ limits first now start past e h. h;
  changed = refl;
  acts = no_log _;
  counted = refl;
  few = omega arith;
  known = c.requires.known;
}

pub close_at-closed-requires : goal.close_at-closed-requires
close_at-closed-requires g c = record {
  known = subst (IsKnownSlot (λ b. option_map g.S.Served.who b.value.session.speaker) (g.S.Served.seen c.args.service.now).speakers) (sym c.index_mut.ensures.value)
      (known-at (λ b. option_map g.S.Served.who b.value.session.speaker) (g.S.Served.seen c.args.service.now).speakers c.loop-at.clients.slots.items c.loop-at.at c.index_mut.result.now (omega arith) c.loop-at.invariant.known);
}

pub loop-at-preserved : goal.loop-at-preserved
loop-at-preserved g c =
    let (more, log, none, acts, did, whole) = c.close_at-closed.ensures.did in
    record {
      slots = ap vec_len c.note_closed.ensures.slots ∙ c.loop-at.invariant.slots;
      crowd = λ limits first now start past e h.
          shown (λ b. view_of g.S.Served.who g.N.Network.number b.value) (rules_of g.S.Served.made g.S.Served.seen g.S.Shows.noted g.S.Shows.status g.S.Shows.changed g.S.Shows.caps g.S.Shows.leavers) limits first start Sweeps (nobody c.note_closed.new.self.queue) past _ _ _ _ _ now (ap (λ s. s.items) c.note_closed.ensures.slots) c.note_closed.ensures.count
          (crowd_closed (λ b. view_of g.S.Served.who g.N.Network.number b.value) (rules_of g.S.Served.made g.S.Served.seen g.S.Shows.noted g.S.Shows.status g.S.Shows.changed g.S.Shows.caps g.S.Shows.leavers) limits first start c.loop-at.clients.queue c.note_closed.new.self.queue past _ _ c.loop-at.clients.slots.items c.loop-at.clients.accepted now c.loop-at.at
          c.index_mut.result.now c.close_at-closed.new.slot more c.close_at-closed.result (c.loop-at.invariant.crowd limits first now start past e h)
          (inl (tt, ap gones_in acts ∙ kick_stays (speaks_as (g.S.Served.seen c.args.service.now).names c.args.name.now) (option_map (λ b. view_of g.S.Served.who g.N.Network.number b.value) c.index_mut.result.now))) (omega arith) c.index_mut.ensures.value log
          none (did limits e) whole c.note_closed.ensures.others c.note_closed.ensures.same);
      changed = rw add-one (
          ap (λ s. map (option_map (λ b. view_of g.S.Served.who g.N.Network.number b.value)) s.items) c.note_closed.ensures.slots
          ∙ map_set (option_map (λ b. view_of g.S.Served.who g.N.Network.number b.value)) c.loop-at.clients.slots.items c.loop-at.at c.close_at-closed.new.slot
          ∙ ap (λ l. slice_set l c.loop-at.at (option_map (λ b. view_of g.S.Served.who g.N.Network.number b.value) c.close_at-closed.new.slot)) c.loop-at.invariant.changed
          ∙ ap (λ s. slice_set (map (after_kick (speaks_as (g.S.Served.seen c.args.service.now).names c.args.name.now)) (take c.loop-at.at (map (option_map (λ b. view_of g.S.Served.who g.N.Network.number b.value)) c.args.clients.now.slots.items)) ++ drop c.loop-at.at (map (option_map (λ b. view_of g.S.Served.who g.N.Network.number b.value)) c.args.clients.now.slots.items)) c.loop-at.at s) c.close_at-closed.ensures.slot
          ∙ change_step (after_kick (speaks_as (g.S.Served.seen c.args.service.now).names c.args.name.now)) (map (option_map (λ b. view_of g.S.Served.who g.N.Network.number b.value)) c.args.clients.now.slots.items) c.loop-at.at (option_map (λ b. view_of g.S.Served.who g.N.Network.number b.value) c.index_mut.result.now) within here);
      acts = subst (λ l. DidLog (g.N.Network.log c.args.network.now) l (g.N.Network.log c.close_at-closed.new.network)) (sym (rw add-one (kicks_more (speaks_as (g.S.Served.seen c.args.service.now).names c.args.name.now) (map (option_map (λ b. view_of g.S.Served.who g.N.Network.number b.value)) c.args.clients.now.slots.items) c.loop-at.at (option_map (λ b. view_of g.S.Served.who g.N.Network.number b.value) c.index_mut.result.now) within here)))
          (then_log _ _ _ (kick_acts (speaks_as (g.S.Served.seen c.args.service.now).names c.args.name.now) (take c.loop-at.at (map (option_map (λ b. view_of g.S.Served.who g.N.Network.number b.value)) c.args.clients.now.slots.items))) (kick_act (speaks_as (g.S.Served.seen c.args.service.now).names c.args.name.now) (option_map (λ b. view_of g.S.Served.who g.N.Network.number b.value) c.index_mut.result.now)) c.loop-at.invariant.acts (subst (λ l. DidLog (g.N.Network.log c.loop-at.network) l (g.N.Network.log c.close_at-closed.new.network)) acts log));
      counted = counts ∙ sym (length-append (kick_acts (speaks_as (g.S.Served.seen c.args.service.now).names c.args.name.now) (take c.loop-at.at (map (option_map (λ b. view_of g.S.Served.who g.N.Network.number b.value)) c.args.clients.now.slots.items))) (kick_act (speaks_as (g.S.Served.seen c.args.service.now).names c.args.name.now) (option_map (λ b. view_of g.S.Served.who g.N.Network.number b.value) c.index_mut.result.now))) ∙ ap length (sym (rw add-one (kicks_more (speaks_as (g.S.Served.seen c.args.service.now).names c.args.name.now) (map (option_map (λ b. view_of g.S.Served.who g.N.Network.number b.value)) c.args.clients.now.slots.items) c.loop-at.at (option_map (λ b. view_of g.S.Served.who g.N.Network.number b.value) c.index_mut.result.now) within here)));
      few = at_most c.close_at-closed.result c.one_if-count.ensures;
      known = subst (λ s. AreKnown (λ b. option_map g.S.Served.who b.value.session.speaker) (g.S.Served.seen c.args.service.now).speakers s.items) (sym c.note_closed.ensures.slots)
          (known-change _ (g.S.Served.seen c.args.service.now).speakers _ _ c.index_mut.result.now _ (omega arith) c.index_mut.ensures.value (c.close_at-closed.ensures.known (g.S.Served.seen c.args.service.now).speakers)
          c.loop-at.invariant.known);
    }
  where
    small : c.loop-at.at < length c.loop-at.clients.slots.items
    small = omega arith

    long : length (map (option_map (λ b. view_of g.S.Served.who g.N.Network.number b.value)) c.args.clients.now.slots.items) ≡ length c.args.clients.now.slots.items
    long = length-map c.args.clients.now.slots.items (option_map (λ b. view_of g.S.Served.who g.N.Network.number b.value))

    within : c.loop-at.at < length (map (option_map (λ b. view_of g.S.Served.who g.N.Network.number b.value)) c.args.clients.now.slots.items)
    within = let e = long in let f = c.loop-at.invariant.slots in omega (arith, e, f)

    here : (option_map (λ b. view_of g.S.Served.who g.N.Network.number b.value) c.index_mut.result.now) ≡ get_or (map (option_map (λ b. view_of g.S.Served.who g.N.Network.number b.value)) c.args.clients.now.slots.items) c.loop-at.at (option_map (λ b. view_of g.S.Served.who g.N.Network.number b.value) c.index_mut.result.now)
    here = change_at (after_kick (speaks_as (g.S.Served.seen c.args.service.now).names c.args.name.now)) (map (option_map (λ b. view_of g.S.Served.who g.N.Network.number b.value)) c.args.clients.now.slots.items) c.loop-at.at (option_map (λ b. view_of g.S.Served.who g.N.Network.number b.value) c.index_mut.result.now) within
        (map_at (option_map (λ b. view_of g.S.Served.who g.N.Network.number b.value)) c.loop-at.clients.slots.items c.loop-at.at c.index_mut.result.now small c.index_mut.ensures.value ∙ ap (λ l. get_or l c.loop-at.at (option_map (λ b. view_of g.S.Served.who g.N.Network.number b.value) c.index_mut.result.now)) c.loop-at.invariant.changed)

    counts : c.loop-at.count + c.one_if-count.result ≡ length (kick_acts (speaks_as (g.S.Served.seen c.args.service.now).names c.args.name.now) (take c.loop-at.at (map (option_map (λ b. view_of g.S.Served.who g.N.Network.number b.value)) c.args.clients.now.slots.items))) + length (kick_act (speaks_as (g.S.Served.seen c.args.service.now).names c.args.name.now) (option_map (λ b. view_of g.S.Served.who g.N.Network.number b.value) c.index_mut.result.now))
    counts = let a = c.loop-at.invariant.counted in let b = c.one_if-count.ensures ∙ c.close_at-closed.ensures.closed in omega (arith, a, b)

    at_most : (closed : Bool) → c.one_if-count.result ≡ (if closed then 1 else 0) → c.loop-at.count + c.one_if-count.result ≤ c.loop-at.at + 1
    at_most true e = let f = c.loop-at.invariant.few in omega (arith, e, f)
    at_most false e = let f = c.loop-at.invariant.few in omega (arith, e, f)

pub overflow_add-count : goal.overflow_add-count
overflow_add-count g c = let small = fits c.close_at-closed.result c.one_if-count.ensures in omega (arith, small)
  where
    fits : (closed : Bool) → c.one_if-count.result ≡ (if closed then 1 else 0) → c.loop-at.count + c.one_if-count.result < 18446744073709551616
    fits true e = let f = c.loop-at.invariant.few in let l = c.loop-at-test.true in let m = c.len-at-end.type_inv in omega (arith, e, f, l, m)
    fits false e = let f = c.loop-at.invariant.few in let l = c.loop-at-test.true in let m = c.len-at-end.type_inv in omega (arith, e, f, l, m)

pub returns-clause-slots : goal.returns-clause-slots
returns-clause-slots g c =
    c.loop-at.invariant.changed
    ∙ ap (λ l. map (after_kick (speaks_as (g.S.Served.seen c.args.service.now).names c.args.name.now)) l ++ drop c.loop-at.at (map (option_map (λ b. view_of g.S.Served.who g.N.Network.number b.value)) c.args.clients.now.slots.items)) (take_all c.loop-at.at (map (option_map (λ b. view_of g.S.Served.who g.N.Network.number b.value)) c.args.clients.now.slots.items) all)
    ∙ ap (λ l. map (after_kick (speaks_as (g.S.Served.seen c.args.service.now).names c.args.name.now)) (map (option_map (λ b. view_of g.S.Served.who g.N.Network.number b.value)) c.args.clients.now.slots.items) ++ l) (drop_all c.loop-at.at (map (option_map (λ b. view_of g.S.Served.who g.N.Network.number b.value)) c.args.clients.now.slots.items) all)
    ∙ append-nil (map (after_kick (speaks_as (g.S.Served.seen c.args.service.now).names c.args.name.now)) (map (option_map (λ b. view_of g.S.Served.who g.N.Network.number b.value)) c.args.clients.now.slots.items))
  where
    all : length (map (option_map (λ b. view_of g.S.Served.who g.N.Network.number b.value)) c.args.clients.now.slots.items) ≤ c.loop-at.at
    all = let e = length-map c.args.clients.now.slots.items (option_map (λ b. view_of g.S.Served.who g.N.Network.number b.value)) in let f = c.loop-at.invariant.slots in omega (arith, e, f)

pub returns-clause-closed : goal.returns-clause-closed
returns-clause-closed g c = subst (λ l. DidLog (g.N.Network.log c.args.network.now) (kick_acts (speaks_as (g.S.Served.seen c.args.service.now).names c.args.name.now) l) (g.N.Network.log c.loop-at.network)) (take_all c.loop-at.at (map (option_map (λ b. view_of g.S.Served.who g.N.Network.number b.value)) c.args.clients.now.slots.items) all) c.loop-at.invariant.acts
  where
    all : length (map (option_map (λ b. view_of g.S.Served.who g.N.Network.number b.value)) c.args.clients.now.slots.items) ≤ c.loop-at.at
    all = let e = length-map c.args.clients.now.slots.items (option_map (λ b. view_of g.S.Served.who g.N.Network.number b.value)) in let f = c.loop-at.invariant.slots in omega (arith, e, f)

pub returns-clause-count : goal.returns-clause-count
returns-clause-count g c = c.loop-at.invariant.counted ∙ ap (λ l. length (kick_acts (speaks_as (g.S.Served.seen c.args.service.now).names c.args.name.now) l)) (take_all c.loop-at.at (map (option_map (λ b. view_of g.S.Served.who g.N.Network.number b.value)) c.args.clients.now.slots.items) all)
  where
    all : length (map (option_map (λ b. view_of g.S.Served.who g.N.Network.number b.value)) c.args.clients.now.slots.items) ≤ c.loop-at.at
    all = let e = length-map c.args.clients.now.slots.items (option_map (λ b. view_of g.S.Served.who g.N.Network.number b.value)) in let f = c.loop-at.invariant.slots in omega (arith, e, f)
