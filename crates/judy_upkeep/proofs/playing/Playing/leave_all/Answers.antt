use Rattle.std.proofs.Common.{◌∙◌, ◌∷◌, [], refl}
use Rattle.judy_upkeep.proofs.Played.{first-name, left-first}
use Rattle.judy_upkeep.proofs.playing.Playing.leave_all.Goals as goal

pub loop-name-init : goal.loop-name-init
loop-name-init g c = record {
  speakers = c.leave.ensures.speakers;
  are_names = c.requires;
  left = λ more new names same left. (
    more,
    same,
    left-first g.S.Served.who g.S.Served.made c.args.self.now.entries.speakers.items c.args.self.now.entries.speakers.items c.args.first.now more
        c.args.self.now.entries.service c.args.self.now.tenants.names.items c.leave.new.self.entries.service
        c.leave.new.self.tenants.names.items new names refl c.in_ok-leave.ensures.left left,
  );
}

pub loop-name-preserved : goal.loop-name-preserved
loop-name-preserved g c = record {
  speakers = c.leave-in-Some.ensures.speakers ∙ c.loop-name.invariant.speakers;
  are_names = c.in-Some.ensures.others;
  left = λ more new names same left. c.loop-name.invariant.left (c.in-Some.name.now ∷ more) new names
      (first-name c.loop-name.rest.now c.in-Some.name.now c.in-Some.after.now c.in-Some.ensures.cut.0 more c.loop-name.invariant.are_names
      c.in-Some.ensures.cut.1 same)
      (left-first g.S.Served.who g.S.Served.made c.args.self.now.entries.speakers.items c.loop-name.self.entries.speakers.items
      c.in-Some.name.now more c.loop-name.self.entries.service c.loop-name.self.tenants.names.items
      c.leave-in-Some.new.self.entries.service c.leave-in-Some.new.self.tenants.names.items new names c.loop-name.invariant.speakers
      c.in_ok-leave-2.ensures.left left);
}

pub returns-clause-left : goal.returns-clause-left
returns-clause-left g c = c.loop-name.invariant.left [] c.loop-name.self.entries.service c.loop-name.self.tenants.names.items
    c.in_default.ensures.none (refl, refl)
