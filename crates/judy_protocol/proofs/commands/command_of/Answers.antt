use Rattle.std.proofs.Common.{sym, refl}
use Rattle.judy_model.specs.Commands.{commands}
use Rattle.judy_protocol.proofs.Texts.{too_short}
use Rattle.judy_protocol.proofs.commands.command_of.Goals as goal

pub returns-in_default : goal.returns-in_default
returns-in_default c = sym (too_short 2 c.args.word.now commands refl c.in_default.len_below)
