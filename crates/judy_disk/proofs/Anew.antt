-- A segment that is written anew, step by step.
--     kept_none, kept_failed, kept_named           what is torn was kept, or was not
--     anew_failed, anew_unnamed, anew_named        the new file got the name of the segment, or did not
--     cut_instead                                  a segment is cut on a full disk
use Rattle.std.proofs.Common.{◌≡◌, ◌<◌, ℕ, zero, suc, List, inl, inr, sym, subst, refl, arith}
use Rattle.std.specs.Prelude.{Result, Ok, Err}
use Rattle.judy_disk.specs.Acts.{Act, Asks, AsksAll, FailsIn, IsFull}
use Rattle.judy_disk.specs.Acts.Ask.{Remove}
use Rattle.judy_disk.specs.Folders.{Removes}
use Rattle.judy_disk.specs.Rewriting.{CutsAsItIs, FindsTorn, KeepsFound, KeepsTorn, Resumes, TriesCopy, WritesAnew, names_segment, names_torn, new_span, torn_span}
use Rattle.judy_disk.specs.declared.faults.DiskFault.{DiskFault}
use Rattle.judy_disk.specs.declared.names.Place.{Place}
use Rattle.judy_disk.specs.declared.names.Place.TheVariants as place

pub kept_none : (number len n : ℕ) (acts found : List Act) → FindsTorn number len (Ok n) acts found → n ≡ 0
    → KeepsTorn {T = Unit {0}} number len (Ok tt) acts found
kept_none number len n acts found torn none =
    inr (n, found, torn, subst (λ (k : ℕ). KeepsFound {T = Unit {0}} number len k (Ok tt) found found) (sym none) refl)

pub kept_failed : (number len n : ℕ) (acts found after : List Act) (why : DiskFault) → FindsTorn number len (Ok n) acts found → 0 < n
    → TriesCopy {T = Unit {0}} (torn_span number len) n (Err why) found after → KeepsTorn {T = Unit {0}} number len (Err why) acts after
kept_failed number len zero acts found after why torn some copy = absurd (omega (arith, some))
kept_failed number len (suc n) acts found after why torn some copy = inr (suc n, found, torn, inl copy)

pub kept_named : (number len n : ℕ) (acts found copy after : List Act) (r : Result (Unit {0}) DiskFault) → FindsTorn number len (Ok n) acts found → 0 < n
    → TriesCopy {T = Unit {0}} (torn_span number len) n (Ok tt) found copy → AsksAll (names_torn number) r copy after
    → KeepsTorn number len r acts after
kept_named number len zero acts found copy after r torn some copied named = absurd (omega (arith, some))
kept_named number len (suc n) acts found copy after (Ok done) torn some copied named = inr (suc n, found, torn, (copy, copied, named))
kept_named number len (suc n) acts found copy after (Err why) torn some copied named = inr (suc n, found, torn, inr (copy, copied, named))

-- a removal, whatever the system answers
removed_by : {T : Type 0} (p : Place) (r : Result T DiskFault) (acts acts' : List Act) → Asks (Remove p) r acts acts' → Removes p acts acts'
removed_by p (Ok done) acts acts' h = inl h.asked
removed_by p (Err why) acts acts' h = inr h.asked

pub anew_failed : {T : Type 0} (number len : ℕ) (acts copy kept after : List Act) (why : DiskFault) (r : Result T DiskFault)
    → TriesCopy {T = Unit {0}} (new_span number) len (Ok tt) acts copy → KeepsTorn {T = Unit {0}} number len (Err why) copy kept
    → Asks (Remove (place.NewSegment number)) r kept after → WritesAnew {T = Unit {0}} number len (Err why) acts after
anew_failed number len acts copy kept after why r copied keeps gone =
    inr (copy, copied, inl (kept, keeps, removed_by (place.NewSegment number) r kept after gone))

pub anew_unnamed : (number len : ℕ) (acts copy kept after : List Act) (why : DiskFault)
    → TriesCopy {T = Unit {0}} (new_span number) len (Ok tt) acts copy → KeepsTorn {T = Unit {0}} number len (Ok tt) copy kept
    → FailsIn (names_segment number) why kept after → WritesAnew {T = Unit {0}} number len (Err why) acts after
anew_unnamed number len acts copy kept after why copied keeps unnamed = inr (copy, copied, inr (kept, keeps, unnamed))

pub anew_named : (number len : ℕ) (acts copy kept after : List Act) → TriesCopy {T = Unit {0}} (new_span number) len (Ok tt) acts copy
    → KeepsTorn {T = Unit {0}} number len (Ok tt) copy kept → AsksAll {T = Unit {0}} (names_segment number) (Ok tt) kept after
    → WritesAnew {T = Unit {0}} number len (Ok tt) acts after
anew_named number len acts copy kept after copied keeps named = inr (copy, copied, (kept, keeps, named))

pub cut_instead : {T : Type 0} (number len : ℕ) (acts tried after : List Act) (why : DiskFault) (r : Result T DiskFault) → IsFull why
    → WritesAnew {T = Unit {0}} number len (Err why) acts tried → CutsAsItIs number len r tried after → Resumes number len r acts after
cut_instead number len acts tried after why (Ok done) full anew cuts = inr (why, tried, full, anew, cuts)
cut_instead number len acts tried after why (Err refused) full anew cuts = inr (why, tried, full, anew, cuts)
