use Rattle.judy_command.proofs.commands.repair_command.Goals as goal

pub returns-clause-app : goal.returns-clause-app
returns-clause-app c = c.with.ensures.app _ _ (c.with-command-2.ensures.app _ _ (c.with-command.ensures.app _ _
    c.used-command.ensures.app c.placed.ensures.rule) c.flag.ensures.rule) c.flag-2.ensures.rule
