use Rattle.judy_command.proofs.commands.with_clients.Goals as goal

pub returns-clause-app : goal.returns-clause-app
returns-clause-app c = λ a h. c.with.ensures.app _ _ (c.with-command-2.ensures.app _ _ (c.with-command.ensures.app a _ h c.clients.ensures.rule) c.tenant_clients.ensures.rule)
    c.share.ensures.rule
