use Rattle.std.proofs.Common.{◌++◌, sym, refl, arith}
use Rattle.std.specs.Prelude.{codes}
use Rattle.std.proofs.lemmas.Bool.Decides.{nat_tests}
use Rattle.judy_model.specs.Commands.{commands}
use Rattle.judy_protocol.proofs.NoCommands.{has_known_fourth, bytes_long}
use Rattle.judy_protocol.proofs.Texts.{none_passes}
use Rattle.judy_protocol.proofs.commands.bytes_command.Goals as goal

pub returns-in_default-4 : goal.returns-in_default-4
returns-in_default-4 c = sym (none_passes (has_known_fourth 72 70) (codes "JHS" ++ c.args.letters.now) commands refl (grind (arith, nat_tests)))

pub returns-in_default-5 : goal.returns-in_default-5
returns-in_default-5 c = sym (bytes_long c.args.letters.now c.in_default.len_at_least)
