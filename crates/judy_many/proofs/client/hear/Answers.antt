use Rattle.std.proofs.Common.{◌∙◌, ap, not, sym, subst}
use Rattle.judy_many.specs.Lives.{view_of}
use Rattle.judy_many.specs.Watches.{HasLine}
use Rattle.judy_many.proofs.Looking.{less_of, some_left}
use Rattle.judy_many.proofs.Living.{live_hear}
use Rattle.judy_many.specs.Rules.{rules_of}
use Rattle.judy_many.proofs.client.hear.Goals as goal

pub returns-clause-turns : goal.returns-clause-turns
returns-clause-turns g c =
    let (used, rest, turns, cut, few, leaves, some, limited, barred, free, single, steps) = c.run-ran.ensures.steps in
    let is = c.keep.ensures.waiting used rest (cut ∙ c.as_slice.ensures) few in (
      turns,
      c.takes.result,
      rw c.is_some-keep.ensures at c.takes.ensures,
      barred,
      (λ e. free (ap not e)),
      steps.run,
      λ acts ran live. live_hear acts ran (view_of g.S.Served.who g.N.Network.number c.args.client.now) live (rules_of g.S.Served.made g.S.Served.seen g.S.Shows.noted g.S.Shows.status g.S.Shows.changed g.S.Shows.caps g.S.Shows.leavers) used rest turns _ _ _ _ _ _ _ _ _ _
          c.requires.unasked c.requires.empty (cut ∙ c.as_slice.ensures) is steps,
      steps.noted,
      limited,
      single,
      record {
        some = λ room line. some (subst HasLine (sym c.as_slice.ensures) line, room);
        left = λ w. c.keep.ensures.more (some_left rest _ few (λ e. w (is ∙ e)));
        whole = λ w quits. subst HasLine (sym is) (leaves (λ e. w (is ∙ e)) quits);
        more = c.keep.ensures.same;
        less = less_of _ _ c.keep.ensures.same;
      },
    )
