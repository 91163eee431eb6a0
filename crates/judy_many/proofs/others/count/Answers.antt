use Rattle.std.proofs.Common.{◌≡◌, ◌+◌, ◌++◌, ◌∙◌, suc, add-one, ap, arith, cond, sym, take}
use Rattle.std.specs.Prelude.{count_by}
use Rattle.std.proofs.lemmas.List.Sums.{sum_by-append}
use Rattle.judy_many.specs.Lives.{view_of}
use Rattle.judy_many.specs.Others.{speaks_for}
use Rattle.judy_many.specs.Present.{speaker_at, speakers_at}
use Rattle.judy_many.proofs.Presence.{speakers_more}
use Rattle.judy_many.proofs.others.count.Goals as goal

pub loop-at-preserved : goal.loop-at-preserved
loop-at-preserved g c = record {
  counted = ap (λ n. n + c.count_at-count.result) c.loop-at.invariant.counted
      ∙ ap (λ n. count_by (speaks_for c.args.tenant) (speakers_at (λ b. view_of g.S.Served.who g.N.Network.number b.value) (take c.loop-at.at c.args.slots.now)) + n) c.count_at-count.ensures.count
      ∙ sym (sum_by-append (λ w. cond (speaks_for c.args.tenant w) 1 0) (speakers_at (λ b. view_of g.S.Served.who g.N.Network.number b.value) (take c.loop-at.at c.args.slots.now)) (speaker_at (λ b. view_of g.S.Served.who g.N.Network.number b.value) c.index-slots-at.result))
      ∙ ap (count_by (speaks_for c.args.tenant)) more;
  few = let e = c.loop-at.invariant.few in let f = c.count_at-count.ensures.few in omega (arith, e, f);
}
  where
    step : speakers_at (λ b. view_of g.S.Served.who g.N.Network.number b.value) (take (suc c.loop-at.at) c.args.slots.now)
        ≡ speakers_at (λ b. view_of g.S.Served.who g.N.Network.number b.value) (take c.loop-at.at c.args.slots.now)
        ++ speaker_at (λ b. view_of g.S.Served.who g.N.Network.number b.value) c.index-slots-at.result
    step = speakers_more (λ b. view_of g.S.Served.who g.N.Network.number b.value) c.args.slots.now c.loop-at.at c.index-slots-at.result (omega arith) c.index-slots-at.is

    more : speakers_at (λ b. view_of g.S.Served.who g.N.Network.number b.value) (take c.loop-at.at c.args.slots.now)
        ++ speaker_at (λ b. view_of g.S.Served.who g.N.Network.number b.value) c.index-slots-at.result
        ≡ speakers_at (λ b. view_of g.S.Served.who g.N.Network.number b.value) (take (c.loop-at.at + 1) c.args.slots.now)
    more = rw add-one (sym step)
