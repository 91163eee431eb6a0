use Rattle.std.proofs.Common.{◌∙◌, arith}
use Rattle.judy_tenants.proofs.Seen.{seen-state}
use Rattle.judy_tenants.proofs.Fresh.{fresh-state, fresh-server, fresh-names}
use Rattle.judy_tenants.proofs.service.Service.new.Goals as goal

pub invariant_of-service : goal.invariant_of-service
invariant_of-service g c = (
  fresh-server (c.kinds_are_lawful.ensures g.H.KeyHash.hashed) c.in-Ok.accounts.items c.args.table c.new-2.result.blocks c.in_ok-directory.directory.0
      c.new-2.ensures.blocks c.in_ok-directory.ensures.empty c.in-Ok.ensures.many
      c.rows_are_sound.ensures.few c.in-Ok.ensures.entries c.in-Ok.ensures.pieces,
  record { peak = (let none = c.new-2.ensures.peak in omega (arith, none)); table = (let all = c.words_for.ensures in omega (arith, all)) },
)

pub returns-clause-states : goal.returns-clause-states
returns-clause-states g c = λ t.
    seen-state c.args.table (record { arena = c.new-2.result; directory = c.in_ok-directory.directory; accounts = c.in-Ok.accounts; unplaced = 0; granted = c.words_for.result })
    (fresh-server (c.kinds_are_lawful.ensures g.H.KeyHash.hashed) c.in-Ok.accounts.items c.args.table c.new-2.result.blocks c.in_ok-directory.directory.0
    c.new-2.ensures.blocks c.in_ok-directory.ensures.empty c.in-Ok.ensures.many
    c.rows_are_sound.ensures.few c.in-Ok.ensures.entries c.in-Ok.ensures.pieces) t
    ∙ fresh-state (c.kinds_are_lawful.ensures g.H.KeyHash.hashed) c.in-Ok.accounts.items c.args.table c.new-2.result.blocks c.in_ok-directory.directory.0
    c.new-2.ensures.blocks c.in_ok-directory.ensures.empty t

pub returns-clause-names : goal.returns-clause-names
returns-clause-names g c = fresh-names (c.kinds_are_lawful.ensures g.H.KeyHash.hashed) c.in-Ok.accounts.items c.args.table
    c.new-2.result.blocks c.in_ok-directory.directory.0
    c.new-2.ensures.blocks c.in_ok-directory.ensures.empty
