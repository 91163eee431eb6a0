use Rattle.judy_command.proofs.commands.judyd_command.Goals as goal

pub returns-clause-app : goal.returns-clause-app
returns-clause-app c = c.below.ensures.app _ _ (c.below-command-4.ensures.app _ _ (c.below-command-3.ensures.app _ _ (c.below-command-2.ensures.app _ _ (c.below-command.ensures.app _ _
    c.bare_command.ensures.app c.run_command.ensures.app) c.serve_command.ensures.app) c.compact_command.ensures.app) c.repair_command.ensures.app)
    c.journal_command.ensures.app
