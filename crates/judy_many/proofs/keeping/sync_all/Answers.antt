use Rattle.judy_many.proofs.Written.{writer_synced}
use Rattle.judy_many.proofs.keeping.sync_all.Goals as goal

pub returns-clause-written : goal.returns-clause-written
returns-clause-written g c = λ rule. writer_synced c.sync.result rule c.args.clean.now c.args.writer.now c.secure.new.self _ _ c.secure.ensures c.sync.ensures
