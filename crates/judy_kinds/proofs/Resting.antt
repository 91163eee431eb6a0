-- A call that changes nothing leaves the entries.
use Rattle.std.proofs.Common.{◌≡◌, true, false, ap, sym}
use Rattle.judy_model.specs.declared.replies.Reply.{Reply}
use Rattle.judy_model.specs.Contents.{Entries, Order}
use Rattle.judy_model.specs.Tenant.{Effect, effect_changes, effect_step}
use Rattle.judy_model.specs.Tenant.Effect.{Ask, Cut, Exchange, Fill, Free, Insert, Keep, Pop, Remove, RemoveIf, Take}

pub rests : {K : Type 0} (order : Order K) (l : Entries K) (effect : Effect K) (reply : Reply) (after : Entries K)
    → effect_changes effect ≡ false → effect_step order true l effect ≡ (reply, after) → after ≡ l
rests order l (Ask answer) reply after same step = sym (ap (λ s. s.1) step)
rests order l (Insert k given reports) reply after same step = cc
rests order l (Keep k v) reply after same step = cc
rests order l (Exchange k old new) reply after same step = cc
rests order l (Remove k) reply after same step = cc
rests order l (Take k) reply after same step = cc
rests order l (RemoveIf k v) reply after same step = cc
rests order l (Pop find show lack) reply after same step = cc
rests order l (Cut find n) reply after same step = cc
rests order l (Fill x find index v) reply after same step = cc
rests order l Free reply after same step = cc
