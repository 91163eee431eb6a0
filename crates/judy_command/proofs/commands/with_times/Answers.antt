use Rattle.judy_command.proofs.commands.with_times.Goals as goal

pub returns-clause-app : goal.returns-clause-app
returns-clause-app c = λ a h. c.with.ensures.app _ _ (c.with-command-2.ensures.app _ _ (c.with-command.ensures.app a _ h c.login.ensures.rule) c.numbered.ensures.rule)
    c.numbered-2.ensures.rule
