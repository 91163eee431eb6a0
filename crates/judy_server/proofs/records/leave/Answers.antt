use Rattle.std.proofs.Common.{ℕ, List, Bool, false, get_or, ap, sym, ◌∙◌}
use Rattle.judy_server.specs.Replays.{marks_of}
use Rattle.judy_server.proofs.Leaving.{freed-by-marks, mark-known}
use Rattle.judy_server.proofs.records.leave.Goals as goal

pub free-requires : goal.free-requires
free-requires g c = record {
  known = λ t marked. mark-known c.args.left.now c.args.service.now.tenants t
      (sym (ap (λ (l : List Bool). get_or l t false) c.as_slice.ensures ∙ c.marks_of-marks.ensures t) ∙ marked);
}

pub returns : goal.returns
returns g c = record {
  held = freed-by-marks c.as_slice.result.now (marks_of c.args.left.now c.args.service.now.tenants)
      (λ t. ap (λ (l : List Bool). get_or l t false) c.as_slice.ensures ∙ c.marks_of-marks.ensures t) c.free.ensures.freed;
  sound = c.free.ensures.sound;
  tally = ap (λ (names : List (List ℕ)). record c.args.tally.now { absent = names }) c.forget.ensures;
}
