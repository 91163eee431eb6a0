use Rattle.std.proofs.Common.{◌∙◌, sym}
use Rattle.judy_server.proofs.Gathering.{gathered-first, gathered-more}
use Rattle.judy_server.proofs.leavers.add_leaver.Goals as goal

pub returns-then-is_some : goal.returns-then-is_some
returns-then-is_some c is left h =
    gathered-more left c.args.first.now c.args.name.now c.args.request.now.items c.add_gone.new.request.items
    (sym c.is_some.ensures ∙ c.if-is_some.true) h (c.add_gone.ensures is)

pub returns : goal.returns
returns c is left h =
    gathered-first left c.args.first.now c.read.result c.args.name.now c.args.request.now.items c.begin_gone.new.request.items
    (sym c.is_some.ensures ∙ c.if-is_some.false) h c.read.ensures (sym c.is_some-2.ensures ∙ is) c.begin_gone.ensures
