use Rattle.judy_command.proofs.commands.with_journal.Goals as goal

pub returns-clause-app : goal.returns-clause-app
returns-clause-app c = λ a h. c.with.ensures.app _ _ (c.with-command-3.ensures.app _ _ (c.with-command-2.ensures.app _ _ (c.with-command.ensures.app a _ h c.valued.ensures.rule)
    c.valued-2.ensures.rule) c.segment.ensures.rule) c.flag.ensures.rule
