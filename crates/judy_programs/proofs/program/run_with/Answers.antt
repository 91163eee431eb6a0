use Rattle.std.proofs.Common.{take, drop, ap, ◌∙◌}
use Rattle.judy_programs.proofs.Programs.{gave_table}
use Rattle.judy_programs.proofs.program.run_with.Goals as goal

pub run_on-requires-clause-prompt : goal.run_on-requires-clause-prompt
run_on-requires-clause-prompt g c = λ s k room few p. c.requires.prompt s k room few (record {
  mid = g.R.Source.source.left c.read_table.new.r;
  text = c.split_at.result.0.now;
  script = c.split_at-in-Table.result.1.now;
  tenants = c.in-Ok.ensures.opened.0;
  before = c.in-Ok.service;
  gave = gave_table _ _ c.read_table.new.bytes.items _ _ c.in-Table.text c.in-Table.script c.in-Table.ensures.given
      c.in-Table.ensures.table.0 c.in-Table.ensures.table.1 c.in-Table.ensures.table.2
      (c.split_at.ensures.front ∙ ap (λ v. take c.in-Table.text v) c.as_slice.ensures.value)
      (c.split_at-in-Table.ensures.back ∙ ap (λ v. drop c.in-Table.script v) c.as_slice-in-Table.ensures.value);
  reads = c.in-Ok.ensures.opened.1;
  fresh = c.in-Ok.ensures.opened.2;
  prompt = p;
})
