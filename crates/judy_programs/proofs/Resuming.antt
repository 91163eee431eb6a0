-- What a player of records plays to the service that it has, and how the service is made ready.
--     played-in, resumed-in     what the player played is what the service replayed
--     gone-on, looked           then its table was put in force
use Rattle.std.proofs.Common.{◌≡◌, ℕ, List, ◌++◌, Option, Some, sym, ◌∙◌, subst}
use Rattle.judy_journal.specs.Writes.{all_records}
use Rattle.judy_recovery.specs.Whole.{HasPlayedJournal, HasResumed, Kept}
use Rattle.judy_recovery.specs.declared.resuming.Resumed.{Resumed}
use Rattle.judy_table.specs.declared.tenant.Tenant.{Tenant}
use Rattle.judy_programs.specs.Journaled.{HasGoneOn, HasLooked, Replay}

module _ {P S : Type 0} (plays : P → List (List ℕ) → P → Type 0) (replays : S → List (List ℕ) → S → Type 0) (service : P → S)
    (tells : (old : P) (records : List (List ℕ)) (new : P) → plays old records new → replays (service old) records (service new)) where
  -- what the player played is what the service replayed
  pub played-in : (kept : Kept) (old new : P) → HasPlayedJournal plays kept old new → HasPlayedJournal replays kept (service old) (service new)
  played-in kept old new h = record {
    start = h.start;
    commits = h.commits;
    tail = h.tail;
    found = h.found;
    all = h.all;
    played = tells old (all_records kept.unpacked ++ all_records h.commits) new h.played;
  }

  pub resumed-in : (kept : Kept) (old : P) (at : Resumed) (new : P) → HasResumed plays kept old at new
      → HasResumed replays kept (service old) at (service new)
  resumed-in kept old at new h = record {
    journal = record {
      start = h.journal.start;
      commits = h.journal.commits;
      tail = h.journal.tail;
      found = h.journal.found;
      all = h.journal.all;
      played = tells old (all_records kept.unpacked ++ all_records h.journal.commits) new h.journal.played;
    };
    files = h.files;
    whole = h.whole;
    segment_is = h.segment_is;
    sum_is = h.sum_is;
    size_is = h.size_is;
  }

-- the same value
same-some : {A : Type 0} {a b : A} → Some a ≡ Some b → a ≡ b
same-some e = cc

-- the player keeps the table while it plays, and puts it in force at the end
module _ {P S : Type 0} (replay : Replay S) (service : P → S) (table : P → Option (List Tenant)) where
  abbrev pub PlaysOn : P → List (List ℕ) → P → Type 0
  PlaysOn old records new = replay.replayed (service old) records (service new) × (table new ≡ table old)

  abbrev pub PutsInForce : P → P → Type 0
  PutsInForce old new = (later : List Tenant) × (table old ≡ Some later) × replay.limited (service old) later (service new)

  module _ (kept : Kept) (fresh : S) (old new after : P) (rows : List Tenant) (has : table old ≡ Some rows)
      (lifted : replay.lifted fresh rows (service old)) (puts : PutsInForce new after) where
    in-force : table new ≡ table old → replay.limited (service new) rows (service after)
    in-force same =
        let (later, is, limited) = puts in
        subst (λ ts. replay.limited (service new) ts (service after)) (same-some (sym is ∙ same ∙ has)) limited

    pub gone-on : (at : Resumed) → HasResumed PlaysOn kept old at new → HasGoneOn replay kept fresh at (service after)
    gone-on at h = record {
      table = rows;
      free = service old;
      lifted = lifted;
      played = service new;
      resumed = resumed-in PlaysOn replay.replayed service (λ old records new played. played.0) kept old at new h;
      limited = in-force h.journal.played.1;
    }

    pub looked : HasPlayedJournal PlaysOn kept old new → HasLooked replay kept fresh (service after)
    looked h = record {
      table = rows;
      free = service old;
      lifted = lifted;
      played = service new;
      read = played-in PlaysOn replay.replayed service (λ old records new played. played.0) kept old new h;
      limited = in-force h.played.1;
    }
