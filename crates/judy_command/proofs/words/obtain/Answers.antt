use Rattle.clap.specs.Words.{rows_of, found_of}
use Rattle.judy_command.specs.CommandLine.{option_fault}
use Rattle.judy_command.proofs.Rows.{usage-stops}
use Rattle.judy_command.proofs.words.obtain.Goals as goal

pub returns-in-Some-clause-refused : goal.returns-in-Some-clause-refused
returns-in-Some-clause-refused c =
    usage-stops (option_fault (rows_of (found_of c.args.matches.now))) c.usage.result c.usage.ensures c.in-Some.ensures.some
