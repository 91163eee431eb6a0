use Rattle.std.proofs.Common.{◌∙◌, Some, inr, sym}
use Rattle.std.proofs.lemmas.Bool.{false≢true}
use Rattle.toml.specs.Errors.{IsMemory}
use Rattle.toml.specs.View.{table_view}
use Rattle.judy_table.proofs.Trees.{read_table-utf8, read_table-no_document}
use Rattle.judy_table.proofs.table.Table.parse.Goals as goal

pub returns-in-Ok-clause-ok : goal.returns-in-Ok-clause-ok
returns-in-Ok-clause-ok c =
    let same = read_table-utf8 c.args.text.now (Some (table_view c.in-Ok.tree)) c.in-Ok.ensures.ok.0 c.in-Ok.ensures.ok.1 in
    rw same c.read_tree.ensures.ok

pub returns-in-Ok-clause-fault : goal.returns-in-Ok-clause-fault
returns-in-Ok-clause-fault c =
    let same = read_table-utf8 c.args.text.now (Some (table_view c.in-Ok.tree)) c.in-Ok.ensures.ok.0 c.in-Ok.ensures.ok.1 in
    rw same c.read_tree.ensures.fault

pub returns-else-is_memory-clause-fault : goal.returns-else-is_memory-clause-fault
returns-else-is_memory-clause-fault c =
    let not_memory : ¬ IsMemory c.in-Err.e = λ m. false≢true (sym c.if-is_memory.false ∙ c.is_memory.ensures.1 m) in
    inr (read_table-no_document c.args.text.now (c.in-Err.ensures.refused not_memory))
