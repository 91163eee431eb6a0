use Rattle.std.proofs.Common.{◌∙◌, List, Ok, Option, None, subst}
use Rattle.judy_upkeep.specs.Arrays.{TellsFirst}
use Rattle.judy_upkeep.specs.declared.kinds.Array.{Array}
use Rattle.judy_upkeep.proofs.Played.{freed-next}
use Rattle.judy_upkeep.proofs.playing.Playing.free_all.Goals as goal

pub loop-preserved : goal.loop-preserved
loop-preserved g c = record {
  speakers = c.free.ensures.speakers ∙ (c.first_array.ensures.speakers ∙ c.loop.invariant.speakers);
  names = c.free.ensures.names ∙ c.loop.invariant.names;
  freed = freed-next g.S.Served.who g.S.Served.made c.args.self.now.entries.speakers.items c.loop.self.entries.speakers.items
      c.first_array.new.self.speakers.items c.args.tenant c.args.self.now.entries.service c.loop.self.entries.service
      c.first_array.new.self.service c.free.new.self.entries.service c.in-Some.array c.in_ok-free.field-0 c.loop.invariant.speakers
      c.first_array.ensures.speakers
      (subst (λ (v : Option Array). TellsFirst g.S.Served.who g.S.Served.made c.loop.self.entries.speakers.items c.args.tenant (Ok v)
      c.loop.self.entries.service c.first_array.new.self.service) c.in-Some.is c.in_ok-array.ensures.told)
      c.in_ok-free.ensures.freed c.in_ok-free.ensures.some c.loop.invariant.freed;
}

pub returns-in_default-clause-freed : goal.returns-in_default-clause-freed
returns-in_default-clause-freed g c = record {
  count = c.loop.invariant.freed.0;
  mid = c.loop.self.entries.service;
  freed = c.loop.invariant.freed.1;
  none = subst (λ (v : List g.row.S-Speaker.Denot). TellsFirst g.S.Served.who g.S.Served.made v c.args.tenant (Ok None)
      c.loop.self.entries.service c.first_array.new.self.service) c.loop.invariant.speakers
      (subst (λ (v : Option Array). TellsFirst g.S.Served.who g.S.Served.made c.loop.self.entries.speakers.items c.args.tenant (Ok v)
      c.loop.self.entries.service c.first_array.new.self.service) c.in_default.is c.in_ok-array.ensures.told);
}
