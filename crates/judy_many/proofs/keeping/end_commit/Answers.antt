use Rattle.judy_many.proofs.Written.{commit_kept, commit_some}
use Rattle.judy_many.proofs.keeping.end_commit.Goals as goal

pub keep_text-requires : goal.keep_text-requires
keep_text-requires g c = commit_some c.args.writer.now c.end_noted.new.self c.end_noted.ensures.ended

pub returns-clause-written : goal.returns-clause-written
returns-clause-written g c = λ rule clean. commit_kept c.keep_text.result rule clean c.args.writer.now c.end_noted.new.self _ _ c.end_noted.ensures.ended c.requires.some c.end_noted.ensures.commit c.keep_text.ensures
