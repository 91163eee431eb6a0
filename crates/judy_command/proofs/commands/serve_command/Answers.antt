use Rattle.judy_command.proofs.commands.serve_command.Goals as goal

pub returns-clause-app : goal.returns-clause-app
returns-clause-app c = c.with.ensures.app _ _ (c.with_journal-command.ensures.app _ (c.with-command.ensures.app _ _ (c.with_limits-command.ensures.app _
    (c.with_places-command.ensures.app _ c.used-command.ensures.app)) c.reserve.ensures.rule)) c.flag.ensures.rule
