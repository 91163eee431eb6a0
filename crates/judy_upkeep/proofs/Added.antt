-- What was added to a snapshot.
--     added       a record, behind a commit that was ended or not
--     ends        a commit was ended and appended
--     on_ok       what holds if a call did not fail
use Rattle.std.proofs.Common.{◌≡◌, ℕ, true, false, List, Result, Ok, Err, ◌∙◌, ap, subst, inl, inr}
use Rattle.std.specs.Prelude.{OnOk, is_err}
use Rattle.judy_disk.specs.Growth.{place_of}
use Rattle.judy_journal.specs.Writes.{Writing, ended}
use Rattle.judy_upkeep.specs.Output.{Adds, Appends, Ends, Flushes, Keeps, appended, file_in, with_record, writer_of}
use Rattle.judy_upkeep.specs.declared.output.Output.{Output}

pub added : {F A D : Type 0} (name request : List ℕ) (old mid new : Output F A D) → Flushes old mid
    → writer_of new ≡ with_record (writer_of mid) name request → file_in new ≡ file_in mid → Adds name request old new
added {F} {A} {D} name request old mid new (inl same) writes file =
    let keeps : Keeps mid (with_record (writer_of mid) name request) new = record { writes = writes; file = file } in
    inl (subst (λ (v : Output F A D). Keeps v (with_record (writer_of v) name request) new) same keeps)
added name request old mid new (inr ends) writes file = inr (mid, ends, record { writes = writes; file = file })

pub ends : {F A D : Type 0} (old mid new : Output F A D) → writer_of mid ≡ ended (writer_of old) → file_in mid ≡ file_in old
    → Appends mid new → Ends old new
ends old mid new writes file a = record {
  writer = a.writer ∙ writes;
  place = a.place ∙ ap place_of file;
  acts = a.acts ∙ ap (λ v. appended v (writer_of mid).text) file ∙ ap (λ (w : Writing). appended (file_in old) w.text) writes;
}

pub on_ok : {T E : Type 0} (P : Type 0) (r : Result T E) → is_err r ≡ false → OnOk r P → P
on_ok P (Ok done) h p = p
on_ok P (Err why) h p = absurd (apart h)
  where
    apart : true ≡ false → ⊥
    apart e = cc
