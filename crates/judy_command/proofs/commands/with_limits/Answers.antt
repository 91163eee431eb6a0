use Rattle.judy_command.proofs.commands.with_limits.Goals as goal

pub returns-clause-app : goal.returns-clause-app
returns-clause-app c = λ a h. c.with_times.ensures.app _ (c.with-command.ensures.app _ _ (c.with_clients-command.ensures.app a h) c.connections.ensures.rule)
