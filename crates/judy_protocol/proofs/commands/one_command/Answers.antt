use Rattle.std.proofs.Common.{◌++◌, sym, refl, arith}
use Rattle.std.specs.Prelude.{codes}
use Rattle.std.proofs.lemmas.Bool.Decides.{nat_tests}
use Rattle.judy_model.specs.Commands.{commands}
use Rattle.judy_protocol.proofs.NoCommands.{has_known_third, one_long}
use Rattle.judy_protocol.proofs.Texts.{none_passes}
use Rattle.judy_protocol.proofs.commands.one_command.Goals as goal

pub returns-in_default-10 : goal.returns-in_default-10
returns-in_default-10 c = sym (none_passes (has_known_third 49 83 85) (codes "J1" ++ c.args.letters.now) commands refl (grind (arith, nat_tests)))

pub returns-in_default-11 : goal.returns-in_default-11
returns-in_default-11 c = sym (one_long c.args.letters.now c.in_default.len_at_least)
