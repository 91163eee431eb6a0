use Rattle.std.proofs.Common.{is_some, ap, sym, ◌∙◌}
use Rattle.judy_tree.specs.Root.{entries}
use Rattle.judy_tree.proofs.lemmas.Trees.{root-words}
use Rattle.judy_query.proofs.Cursors.{found-there}
use Rattle.judy_query.proofs.cursor.found_anew.Goals as goal

pub cursor_of-requires-clause-there : goal.cursor_of-requires-clause-there
cursor_of-requires-clause-there c =
    let l = entries c.args.values c.args.arena.now.blocks c.args.node in
    ap is_some (found-there l c.args.search c.args.x c.in_ok-found.found
    (root-words c.args.values c.args.arena.now.blocks c.args.node c.requires).0 (sym c.found_by.ensures ∙ c.in_ok-found.was))
