use Rattle.std.proofs.Common.{◌++◌, sym, refl, arith}
use Rattle.std.specs.Prelude.{codes}
use Rattle.std.proofs.lemmas.Bool.Decides.{nat_tests}
use Rattle.judy_model.specs.Commands.{commands}
use Rattle.judy_protocol.proofs.NoCommands.{has_known_fourth, string_long}
use Rattle.judy_protocol.proofs.Texts.{none_passes}
use Rattle.judy_protocol.proofs.commands.string_command.Goals as goal

pub returns-in_default-5 : goal.returns-in_default-5
returns-in_default-5 c = sym (none_passes (has_known_fourth 83 68) (codes "JSL" ++ c.args.letters.now) commands refl (grind (arith, nat_tests)))

pub returns-in_default-6 : goal.returns-in_default-6
returns-in_default-6 c = sym (string_long c.args.letters.now c.in_default.len_at_least)
