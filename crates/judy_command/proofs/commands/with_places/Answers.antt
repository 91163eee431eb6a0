use Rattle.judy_command.proofs.commands.with_places.Goals as goal

pub returns-clause-app : goal.returns-clause-app
returns-clause-app c = λ a h. c.with.ensures.app _ _ (c.with-command-3.ensures.app _ _ (c.with-command-2.ensures.app _ _ (c.with-command.ensures.app a _ h c.needed.ensures.rule)
    c.needed-2.ensures.rule) c.valued.ensures.rule) c.valued-2.ensures.rule
