use Rattle.std.proofs.lemmas.Str.{is_utf8-from_IsUtf8}
use Rattle.judy_table.proofs.blames.Blame.find.Goals as goal

pub blame_tree-requires : goal.blame_tree-requires
blame_tree-requires c =
    let ok = c.in-Ok-table_from_slice.ensures.ok in
    (is_utf8-from_IsUtf8 c.args.text.now ok.0, ok.1)
