use Rattle.std.proofs.Common.{◌≡◌, Bool, true, false, None, Some, ◌∙◌, refl, sym}
use Rattle.judy_many.specs.Nets.{may_sleep}
use Rattle.judy_many.proofs.Looking.{woken}
use Rattle.judy_many.proofs.serve.wait.Goals as goal

-- where the wait may sleep, the loop is not busy
not_busy : (busy sleeps : Bool) → (busy ≡ true → sleeps ≡ false) → sleeps ≡ true → busy ≡ false
not_busy true sleeps h e = absurd (apart (sym e ∙ h refl))
  where
    apart : true ≡ false → ⊥
    apart e = cc
not_busy false sleeps h e = refl

pub returns-in_default-clause-log : goal.returns-in_default-clause-log
returns-in_default-clause-log g c =
    let (told, wakes, did) = woken None (may_sleep c.time_to_wait-time.result) c.wait.new.queue (g.N.Network.log c.args.network.now) (g.N.Network.log c.wait.new.self) c.in_default.ensures.log in
    (may_sleep c.time_to_wait-time.result, told, λ sleeps. c.is_busy-busy.ensures (not_busy _ _ c.time_to_wait-time.ensures.busy sleeps), wakes, did)

pub returns-clause-log : goal.returns-clause-log
returns-clause-log g c =
    let (told, wakes, did) = woken (Some c.in-Some.comes) (may_sleep c.time_to_wait-time.result) c.wait.new.queue (g.N.Network.log c.args.network.now) (g.N.Network.log c.wait.new.self) c.in-Some.ensures.log in
    (may_sleep c.time_to_wait-time.result, told, λ sleeps. c.is_busy-busy.ensures (not_busy _ _ c.time_to_wait-time.ensures.busy sleeps), wakes, did)
