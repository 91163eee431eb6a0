use Rattle.std.proofs.Common.{◌++◌, ◌∷◌, [], inr}
use Rattle.judy_disk.specs.Listings.{FindsNames}
use Rattle.judy_disk.proofs.Listed.{failed, name_more, numbers_more}
use Rattle.judy_disk.proofs.folder.Folder.names.Goals as goal

pub returns-in_err-put : goal.returns-in_err-put
returns-in_err-put g c =
    let (names, was, numbers) = c.loop-names.invariant in
    let one = name_more c.args.self.now.log.acts c.loop-names.self.log.acts c.next_listed.new.self.log.acts names c.file_name.result.now
    c.in_ok-entry.field-0 c.in-Some.entry was c.in_ok-entry.ensures.given c.in-Some.is c.file_name.ensures in
    failed c.from_residual-in_err-put.result c.in_err-put.field-0.0 (λ r. FindsNames r c.args.self.now.log.acts c.next_listed.new.self.log.acts)
    c.from_residual-in_err-put.ensures (inr (names, numbers.known, inr (c.file_name.result.now, c.in_err-put.ensures.refused, one)))

pub loop-names-preserved : goal.loop-names-preserved
loop-names-preserved g c =
    let (names, was, numbers) = c.loop-names.invariant in
    let one = name_more c.args.self.now.log.acts c.loop-names.self.log.acts c.next_listed.new.self.log.acts names c.file_name.result.now
    c.in_ok-entry.field-0 c.in-Some.entry was c.in_ok-entry.ensures.given c.in-Some.is c.file_name.ensures in (
      names ++ c.file_name.result.now ∷ [],
      one,
      numbers_more names c.file_name.result.now c.loop-names.names c.put.new.self numbers c.in_ok-put.ensures.segments c.in_ok-put.ensures.snapshots
          c.in_ok-put.ensures.torn c.in_ok-put.ensures.known,
    )
