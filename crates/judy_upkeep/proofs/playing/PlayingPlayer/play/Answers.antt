use Rattle.std.proofs.Common.{◌∙◌}
use Rattle.judy_upkeep.proofs.Played.{played-first, played-none}
use Rattle.judy_upkeep.proofs.playing.PlayingPlayer.play.Goals as goal

pub loop-record-preserved : goal.loop-record-preserved
loop-record-preserved g c = record {
  speakers = c.play_record.ensures.speakers ∙ c.loop-record.invariant.speakers;
  played = λ new names more. c.loop-record.invariant.played new names
      (played-first g.S.Served.who g.S.Served.made c.args.self.now.entries.speakers.items c.loop-record.self.entries.speakers.items
      c.loop-record.rest.now c.in-Some.record.now c.in-Some.after.now c.loop-record.self.entries.service
      c.loop-record.self.tenants.names.items c.play_record.new.self.entries.service c.play_record.new.self.tenants.names.items new names
      c.loop-record.invariant.speakers c.in-Some.ensures.0 c.in-Some.ensures.1 c.in-Ok.ensures.played more);
}

pub returns : goal.returns
returns g c = (
  c.loop-record.invariant.speakers,
  c.loop-record.invariant.played c.loop-record.self.entries.service c.loop-record.self.tenants.names.items
      (played-none g.S.Served.who g.S.Served.made c.args.self.now.entries.speakers.items c.loop-record.rest.now
      c.loop-record.self.entries.service c.loop-record.self.tenants.names.items c.in_default.ensures),
)
