use Rattle.std.proofs.Common.{◌∙◌, ◌++◌, List, ℕ, ap, codes, inl, inr}
use Rattle.judy_upkeep.proofs.Asked.{altered, map_ok}
use Rattle.judy_upkeep.proofs.playing.Playing.play_record.Goals as goal

pub leave_all-requires : goal.leave_all-requires
leave_all-requires g c = c.in-Some-others_gone.ensures.1

pub returns-in-Some-others_gone-clause-played : goal.returns-in-Some-others_gone-clause-played
returns-in-Some-others_gone-clause-played g c = map_ok c.leave_all.result (λ left. record {
  name = c.in-Some.name.now;
  request = c.in-Some.request.now;
  no_space = c.in-Some.ensures.0;
  cut = c.in-Some.ensures.1;
  plays = inl (record {
    others = left.0;
    gone = c.in-Some-others_gone.ensures.0 ∙ ap (λ (v : List ℕ). codes "GONE" ++ v) left.1;
    left = left.2;
  });
}) c.leave_all.ensures.left

pub returns-clause-played : goal.returns-clause-played
returns-clause-played g c = map_ok c.change.result (λ changed. record {
  name = c.in-Some.name.now;
  request = c.in-Some.request.now;
  no_space = c.in-Some.ensures.0;
  cut = c.in-Some.ensures.1;
  plays = inr (record {
    tenant = c.in_ok-tenant.tenant;
    numbered = c.in_ok-tenant.ensures;
    altered = changed;
  });
}) (altered g.S.Served.who g.S.Served.made c.args.self.now.entries.speakers.items c.in_ok-tenant.tenant c.in-Some.request.now c.change.result
    c.args.self.now.entries.service c.change.new.self.service c.change.ensures.changed)
