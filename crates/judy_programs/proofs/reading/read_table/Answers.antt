use Rattle.std.proofs.Common.{arith, ◌≡◌, ◌+◌, ◌≤◌, ◌<◌, ◌++◌, ℕ, List, length, take, drop, ap, subst, length-drop}
use Rattle.std.proofs.lemmas.List.{length-append, length-take-le}
use Rattle.judy_programs.specs.Tables.{IsTable}
use Rattle.judy_programs.proofs.TableLines.{script_is_new, so_far_fits, still_open}
use Rattle.judy_programs.proofs.reading.read_table.Goals as goal

pub pull-requires-clause-ready : goal.pull-requires-clause-ready
pull-requires-clause-ready g c = c.requires.open c.loop-n.r _ (omega arith) (
  c.loop-n.bytes.items,
  c.loop-n.invariant.given,
  still_open c.loop-n.bytes.items c.loop-n.lines c.loop-n.invariant.so_far,
)

pub add_pulled-requires-clause-room : goal.add_pulled-requires-clause-room
add_pulled-requires-clause-room g c = omega (
  arith,
  so_far_fits c.loop-n.bytes.items c.loop-n.lines c.loop-n.invariant.so_far,
  length-take-le c.in-Bytes.n c.pull.new.buf c.in-Bytes.ensures.bytes.1,
  c.in-Bytes.ensures.bytes.1,
  c.pull.auto.buf,
)

-- where the script begins, from what is left of the last pull
few_left : (before pulled new : List ℕ) (text script : ℕ) → new ≡ before ++ pulled → length (drop script new) < length pulled
    → length pulled ≤ 4096 → script ≤ length new → length new < script + 4096
few_left before pulled new text script e h short fits = omega (arith, h, short, fits, length-drop script new)

pub returns-in-At-clause-table : goal.returns-in-At-clause-table
returns-in-At-clause-table g c =
    let before = c.loop-n.bytes.items in
    let pulled = take c.in-Bytes.n c.pull.new.buf in
    let new = c.add_pulled.new.bytes.items in
    let text = take c.in-At.text new in
    let script = drop c.in-At.script new in
    let found = c.in-At.ensures.end in
    let opened = still_open before c.loop-n.lines c.loop-n.invariant.so_far in
    let late : length script < length pulled = script_is_new before pulled text script opened.marks
    (subst (λ s. IsTable s text script) c.in-At.ensures.bytes found.0) in
    let short : length pulled ≤ 4096 = omega (
      arith,
      length-take-le c.in-Bytes.n c.pull.new.buf c.in-Bytes.ensures.bytes.1,
      c.in-Bytes.ensures.bytes.1,
      c.pull.auto.buf,
    ) in
    (found.0, found.1, found.2, found.3, few_left before pulled new c.in-At.text c.in-At.script c.in-At.ensures.bytes late short found.3)

pub returns-in-At-clause-reads : goal.returns-in-At-clause-reads
returns-in-At-clause-reads g c = omega (
  arith,
  c.in-Bytes.ensures.gave,
  c.loop-n.invariant.reads,
  so_far_fits c.loop-n.bytes.items
      c.loop-n.lines c.loop-n.invariant.so_far,
)

pub returns-in-Nowhere-clause-reads : goal.returns-in-Nowhere-clause-reads
returns-in-Nowhere-clause-reads g c = omega (
  arith,
  c.in-Bytes.ensures.gave,
  c.loop-n.invariant.reads,
  so_far_fits
      c.loop-n.bytes.items c.loop-n.lines c.loop-n.invariant.so_far,
)

pub loop-n-smaller : goal.loop-n-smaller
loop-n-smaller g c = omega (
  arith,
  so_far_fits c.loop-n.bytes.items c.loop-n.lines c.loop-n.invariant.so_far,
  ap length c.in-Later.ensures.bytes,
  length-append c.loop-n.bytes.items (take c.in-Bytes.n c.pull.new.buf),
  length-take-le c.in-Bytes.n c.pull.new.buf c.in-Bytes.ensures.bytes.1,
  c.in-Bytes.ensures.bytes.0,
)

pub returns-in-End-clause-table : goal.returns-in-End-clause-table
returns-in-End-clause-table g c = (still_open c.loop-n.bytes.items c.loop-n.lines c.loop-n.invariant.so_far, c.in-End.ensures.end)

pub returns-in-End-clause-reads : goal.returns-in-End-clause-reads
returns-in-End-clause-reads g c = omega (
  arith,
  c.in-End.ensures.gave,
  c.loop-n.invariant.reads,
  so_far_fits c.loop-n.bytes.items
      c.loop-n.lines c.loop-n.invariant.so_far,
)

pub returns-in-Fault-clause-table : goal.returns-in-Fault-clause-table
returns-in-Fault-clause-table g c = still_open c.loop-n.bytes.items c.loop-n.lines c.loop-n.invariant.so_far

pub returns-in-Fault-clause-reads : goal.returns-in-Fault-clause-reads
returns-in-Fault-clause-reads g c = omega (
  arith,
  c.in-Fault.ensures.gave,
  c.loop-n.invariant.reads,
  so_far_fits
      c.loop-n.bytes.items c.loop-n.lines c.loop-n.invariant.so_far,
)
