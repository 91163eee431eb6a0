use Rattle.std.proofs.Common.{◌+◌, sym, subst, length, arith}
use Rattle.std.specs.Prelude.{Ok}
use Rattle.judy_journal.specs.Journals.{sum_at}
use Rattle.judy_journal.specs.Readings.{HasRead, LeavesLess}
use Rattle.judy_journal.specs.Recoveries.{IsDamaged}
use Rattle.judy_journal.specs.Recovered.{IsRecovered, IsUnpacked}
use Rattle.judy_journal.specs.Writes.{header_text, snapshot_line}
use Rattle.judy_journal.proofs.Unpacking.{unpacked_more, unpacked_whole}
use Rattle.std.proofs.lemmas.List.{length-append}
use Rattle.std.proofs.Common.{inl, inr, ◌++◌, ◌∷◌, append_assoc}
use Rattle.std.proofs.Common.{[], refl, append-nil}
use Rattle.judy_journal.proofs.Gathering.{halts, read_more, read_whole}
use Rattle.judy_journal.proofs.recovery.Recovery.read.Goals as goal

pub returns-in-Ok-More-clause-read : goal.returns-in-Ok-More-clause-read
returns-in-Ok-More-clause-read c segment sum done text commits h =
    let k = subst (λ v. IsRecovered segment sum done text commits v) (sym c.self.view_is) h in
    read_more segment sum done text commits c.args.bytes.now _ c.read.new.self c.in-Some.all k
    (subst (λ v. HasRead (Ok v) (segment + length done + 1) (sum_at sum k.before) text k.here c.args.bytes.now c.read.new.self) c.in-Ok-More.field-0-is
    (c.in-Ok-More.ensures.read (segment + length done + 1) (sum_at sum k.before) text k.here k.read)) (omega (arith, c.in-Some.ensures))

pub returns-in-Ok-Whole-clause-read : goal.returns-in-Ok-Whole-clause-read
returns-in-Ok-Whole-clause-read c segment sum done text commits h =
    let k = subst (λ v. IsRecovered segment sum done text commits v) (sym c.self.view_is) h in
    read_whole segment sum done text commits c.args.bytes.now _ c.read.new.self c.in-Ok-Whole.left _ k
    (subst (λ v. HasRead (Ok v) (segment + length done + 1) (sum_at sum k.before) text k.here c.args.bytes.now c.read.new.self) c.in-Ok-Whole.field-0-is
    (c.in-Ok-Whole.ensures.read (segment + length done + 1) (sum_at sum k.before) text k.here k.read))
    (omega (arith, c.in-Some.ensures, subst (λ v. LeavesLess v (length c.args.bytes.now)) c.in-Ok-Whole.field-0-is c.in-Ok-Whole.ensures.left))

pub returns-in_default-clause-snapshot : goal.returns-in_default-clause-snapshot
returns-in_default-clause-snapshot c segment sum text commits h =
    let k = subst (λ v. IsUnpacked segment sum text commits v) (sym c.self.view_is) h in
    inr (omega (
      arith,
      k.taken_is,
      c.in_default.ensures,
      length-append text c.args.bytes.now,
      length-append (snapshot_line segment sum) (10 ∷ (text ++ c.args.bytes.now)),
    ))

pub returns-in-Ok-More-clause-snapshot : goal.returns-in-Ok-More-clause-snapshot
returns-in-Ok-More-clause-snapshot c segment sum text commits h =
    let k = subst (λ v. IsUnpacked segment sum text commits v) (sym c.self.view_is) h in
    unpacked_more segment sum text commits c.args.bytes.now _ c.read.new.self c.in-Some.all _ _ k
    (subst (λ v. HasRead (Ok v) segment sum (header_text segment sum ++ text) commits c.args.bytes.now c.read.new.self) c.in-Ok-More.field-0-is
    (c.in-Ok-More.ensures.read segment sum (header_text segment sum ++ text) commits k.read)) (omega (arith, c.in-Some.ensures))

pub returns-in-Ok-Whole-clause-snapshot : goal.returns-in-Ok-Whole-clause-snapshot
returns-in-Ok-Whole-clause-snapshot c segment sum text commits h =
    let k = subst (λ v. IsUnpacked segment sum text commits v) (sym c.self.view_is) h in
    unpacked_whole segment sum text commits c.args.bytes.now _ c.read.new.self c.in-Ok-Whole.left _ _ _ k
    (subst (λ v. HasRead (Ok v) segment sum (header_text segment sum ++ text) commits c.args.bytes.now c.read.new.self) c.in-Ok-Whole.field-0-is
    (c.in-Ok-Whole.ensures.read segment sum (header_text segment sum ++ text) commits k.read))
    (omega (arith, c.in-Some.ensures, subst (λ v. LeavesLess v (length c.args.bytes.now)) c.in-Ok-Whole.field-0-is c.in-Ok-Whole.ensures.left))

pub returns-in-Err-clause-snapshot : goal.returns-in-Err-clause-snapshot
returns-in-Err-clause-snapshot c segment sum text commits h =
    let k = subst (λ v. IsUnpacked segment sum text commits v) (sym c.self.view_is) h in
    inl (subst (λ v. IsDamaged c.in-Err.damage segment sum v) (append_assoc (header_text segment sum) text c.args.bytes.now)
    (c.in-Err.ensures.read segment sum (header_text segment sum ++ text) commits k.read))

pub returns-in-Err-clause-halted : goal.returns-in-Err-clause-halted
returns-in-Err-clause-halted c segment sum done text commits h =
    let k = subst (λ v. IsRecovered segment sum done text commits v) (sym c.self.view_is) h in
    halts segment sum done text commits c.args.bytes.now _ c.read.new.self _ k
    (c.in-Err.ensures.stopped (segment + length done + 1) (sum_at sum k.before) text k.here k.read) (omega (arith, c.in-Some.ensures)) c.so_far-self-inside.ensures

pub returns-in_default-clause-halted : goal.returns-in_default-clause-halted
returns-in_default-clause-halted c segment sum done text commits h =
    let k = subst (λ v. IsRecovered segment sum done text commits v) (sym c.self.view_is) h in (
      [],
      c.args.bytes.now,
      refl,
      subst (λ v. IsRecovered segment sum done v commits c.args.self.now) (sym (append-nil text)) h,
      λ short small more. absurd (omega (arith, small, k.taken_is, c.in_default.ensures, length-append text c.args.bytes.now)),
    )
