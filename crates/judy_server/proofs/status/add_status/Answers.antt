use Rattle.std.specs.Prelude.{flat_map, map, option_map}
use Rattle.judy_table.specs.Shown.{seen}
use Rattle.judy_server.specs.Status.{by_call, by_kind, by_nobody, by_speaker, by_tenant, by_build, first_shares, first_totals, last_shares, one_total}
use Rattle.judy_server.specs.Tally.{tallied}
use Rattle.judy_server.specs.declared.metrics.Total.TheVariants as total
use Rattle.judy_server.proofs.Texting.{for_ok, nine-parts}
use Rattle.judy_server.proofs.status.add_status.Goals as goal

pub returns : goal.returns
returns g c =
    let t = tallied c.args.service.now c.args.tally.now in
    let who = map (option_map seen) c.args.speakers.now in
    for_ok c.add_build.result
    (nine-parts (flat_map (one_total t) first_totals) (flat_map (by_tenant t) first_shares) (by_speaker t who) (by_nobody who) (by_call t.tally) (by_kind t.tally) (flat_map (by_tenant t) last_shares) (one_total t total.UnknownLogins) by_build
    c.args.text.now.items c.add_totals.new.text.items c.add_by_tenants.new.text.items c.add_by_speaker.new.text.items c.add_by_nobody.new.text.items c.add_by_call.new.text.items c.add_by_kind.new.text.items c.add_last_by_tenants.new.text.items c.add_total.new.text.items c.add_build.new.text.items
    c.in_ok-add_totals.ensures c.in_ok-add_by_tenants.ensures c.in_ok-add_by_speaker.ensures c.in_ok-add_by_nobody.ensures c.in_ok-add_by_call.ensures c.in_ok-add_by_kind.ensures c.in_ok-add_last_by_tenants.ensures c.in_ok-add_total.ensures)
    c.add_build.ensures
