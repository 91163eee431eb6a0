-- no tenant so far holds more than its new quota
use Rattle.std.proofs.Common.{◌<◌, ℕ}
use Rattle.judy_tenants.specs.Changes.{StaysWithin}
use Rattle.judy_tenants.proofs.changing.first_beyond.Given as goal

abbrev pub invariant-loop-place : goal.invariant-loop-place
invariant-loop-place l = record { done : (t : ℕ) → t < l.place → StaysWithin l.table l.later l.accounts t }
