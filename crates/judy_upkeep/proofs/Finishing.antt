-- What was found and done by a compaction.
--     last-above-0       the last segment that is found has a number above 0
--     compacted_ok       the files were replaced, or those of an earlier compaction removed
--     compacted_err      a step of that failed
use Rattle.std.proofs.Common.{◌≡◌, ◌≤◌, ◌<◌, ◌+◌, ℕ, Bool, List, Option, Some, None, Ok, Err, sym, ◌∙◌, ap, subst, inl, inr, arith}
use Rattle.std.proofs.lemmas.Bool.Decides.{nat_tests}
use Rattle.judy_disk.specs.Acts.{Act as DiskAct}
use Rattle.judy_disk.specs.Listings.{Scans, segments_in, snapshots_in, torn_among}
use Rattle.judy_disk.specs.Scans.{ArrangesFrom, IsArranged, IsRun, first_after}
use Rattle.judy_disk.specs.Manifests.{lack_of}
use Rattle.judy_disk.specs.declared.faults.DiskFault.{DiskFault}
use Rattle.judy_disk.specs.declared.manifest.Lack.{Lack}
use Rattle.judy_disk.specs.declared.manifest.Manifest.{Manifest}
use Rattle.judy_disk.specs.declared.scan.Found.{Found}
use Rattle.judy_upkeep.specs.Compacting.{FailsToFinish, FailsToReplace, HasCompacted, HasFinished, IsUpto, seen}
use Rattle.judy_upkeep.specs.Replacing.{HasRemovedLeft, HasReplaced}
use Rattle.judy_upkeep.specs.Steps.{Act}
use Rattle.judy_upkeep.specs.declared.compacting.Compacted.{Compacted}
use Rattle.judy_upkeep.specs.declared.compacting.Compacted.TheVariants as compacted

-- ---- the last segment that is found

first-above-0 : (snapshot : Option ℕ) → 0 < first_after snapshot
first-above-0 None = omega arith
first-above-0 (Some n) = grind (arith, nat_tests)

run-above-0 : (segments : List ℕ) (first n : ℕ) (last : Option ℕ) → 0 < first → IsRun segments first last → last ≡ Some n → 0 < n
run-above-0 segments first n last above run is =
    let least : first ≤ n = (subst (λ (v : Option ℕ). IsRun segments first v) is run).0 in omega arith

arranged-above-0 : (segments snapshots torn : List ℕ) (f : Found) (n : ℕ) → IsArranged segments snapshots torn f → f.last ≡ Some n → 0 < n
arranged-above-0 segments snapshots torn f n arranged is =
    run-above-0 segments f.first n f.last (subst (λ (v : ℕ). 0 < v) (sym arranged.first) (first-above-0 f.snapshot)) arranged.run is

from-above-0 : (lack : Option Lack) (m : Manifest) (segments snapshots torn : List ℕ) (f : Found) (n : ℕ)
    → ArrangesFrom lack m segments snapshots torn (Ok f) → f.last ≡ Some n → 0 < n
from-above-0 None m segments snapshots torn f n (found, fits) is = arranged-above-0 found.sorted snapshots torn f n found.arranged is
from-above-0 (Some lack) m segments snapshots torn f n unlike is = absurd (apart unlike)
  where
    apart : {e : DiskFault} → Ok f ≡ Err e → ⊥
    apart h = cc

pub last-above-0 : (f : Found) (acts acts' : List DiskAct) → Scans (Ok f) acts acts' → (n : ℕ) → f.last ≡ Some n → 0 < n
last-above-0 f acts acts' (inl lacks) n is = absurd lacks
last-above-0 f acts acts' (inr (m, read, found, inl fails)) n is = absurd fails
last-above-0 f acts acts' (inr (m, read, found, inr (names, lists, known, arranges))) n is =
    from-above-0 (lack_of m arranges.newest m.last) m (segments_in names) (snapshots_in names) (torn_among names) f n arranges.by is

-- ---- what was done

pub compacted_ok : (done : Compacted) (made : Bool) (upto : ℕ) (last : Option ℕ) (log mid log' : List Act) → mid ≡ seen log last
    → IsUpto made upto last → HasFinished {E = DiskFault} made upto (Ok done) (Some mid) (Some log') → HasCompacted (Ok done) log log'
compacted_ok (compacted.Snapshot n) made upto last log mid log' looked is (new, same, replaced) =
    let one : last ≡ Some (upto + 1) = subst (λ (b : Bool). IsUpto b upto last) new is in
    let all : HasReplaced {T = Unit {0}} {E = Unit {0}} (Ok tt) upto (Some (seen log (Some (upto + 1)))) (Some log') =
    subst (λ (v : List Act). HasReplaced {T = Unit {0}} {E = Unit {0}} (Ok tt) upto (Some v) (Some log')) (looked ∙ ap (seen log) one) replaced in
    subst (λ (v : ℕ). HasReplaced {T = Unit {0}} {E = Unit {0}} (Ok tt) v (Some (seen log (Some (v + 1)))) (Some log')) (sym same) all
compacted_ok compacted.Nothing made upto last log mid log' looked is (none, left) = (
  last,
  upto,
  subst (λ (b : Bool). IsUpto b upto last) none is,
  subst (λ (v : List Act). HasRemovedLeft {T = Unit {0}} {E = Unit {0}} (Ok tt) upto (Some v) (Some log')) looked left,
)

pub compacted_err : (made : Bool) (upto : ℕ) (last : Option ℕ) (log mid log' : List Act) → mid ≡ seen log last
    → IsUpto made upto last → FailsToFinish upto (Some mid) (Some log') → FailsToReplace log log'
compacted_err made upto last log mid log' looked is fails =
    (last, made, upto, is, subst (λ (v : List Act). FailsToFinish upto (Some v) (Some log')) looked fails)
