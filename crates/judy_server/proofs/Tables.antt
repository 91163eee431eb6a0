-- Records that are played keep the table.
--     KeepsTable old new   the table stays, and the service is sound
--     replayed-table       so it is after records
use Rattle.std.proofs.Common.{◌≡◌, ℕ, Bool, true, false, List, [], ◌∷◌, Option, Some, None, Result, Ok, Err, sym, ◌∙◌, ap, subst}
use Rattle.std.specs.Prelude.{MatchBool}
use Rattle.judy_journal.specs.declared.replays.Unplayed.{Unplayed}
use Rattle.judy_journal.specs.declared.replays.Unplayed.TheVariants as unplayed
use Rattle.judy_journal.specs.Leaving.{gone_in}
use Rattle.judy_journal.specs.Replays.{Told, told}
use Rattle.judy_tenants.specs.Held.{IsSoundService}
use Rattle.judy_server.specs.Replays.{AreReplayed, Plays, PlaysAs, PlaysChange, places_in}
use Rattle.judy_server.specs.Tally.{Tallied, can_note, with_absent}

-- the table stays, and the service is sound
pub record KeepsTable (old new : Tallied) : Type 0 where
  pub tenants : new.held.tenants ≡ old.held.tenants
  pub sound : IsSoundService new.held

plays-table : (bytes : List ℕ) (old new : Tallied) → IsSoundService old.held → Plays bytes old (Ok tt) new → KeepsTable old new
plays-table bytes old new sound h = by (told bytes) (gone_in bytes) h
  where
    passed : (name : List ℕ) (b : Bool) → MatchBool b ((◌≡◌ {A = Result (Unit {0}) Unplayed} (Ok (tt {0})) (Ok (tt {0}))) × (new ≡ record old { tally = with_absent name old.tally }))
        ((◌≡◌ {A = Result (Unit {0}) Unplayed} (Ok (tt {0})) (Err unplayed.Tenant)) × (new ≡ old)) → KeepsTable old new
    passed name true (_, now) = record {
      tenants = ap (λ (s : Tallied). s.held.tenants) now;
      sound = subst (λ (s : Tallied). IsSoundService s.held) (sym now) sound;
    }
    passed name false (wrong, _) = cc

    change : (c : Told) (o : Option ℕ) → PlaysChange c o old (Ok tt) new → KeepsTable old new
    change c (Some place) h = record { tenants = h.made.keeps.tenants; sound = h.made.sound }
    change c None h = passed c.name (can_note old.tally.absent c.name) h

    by : (o : Option Told) (left : Option (List (List ℕ))) → PlaysAs o left old (Ok tt) new → KeepsTable old new
    by (Some c) left plays = change c (places_in old c.name) plays
    by None (Some names) (_, left) = record { tenants = left.held.tenants; sound = left.sound }
    by None None (wrong, _) = cc

pub replayed-table : (records : List (List ℕ)) (old new : Tallied) → IsSoundService old.held → AreReplayed old records new → KeepsTable old new
replayed-table [] old new sound same = record {
  tenants = ap (λ (s : Tallied). s.held.tenants) same;
  sound = subst (λ (s : Tallied). IsSoundService s.held) (sym same) sound;
}
replayed-table (bytes ∷ records) old new sound (mid, first, rest) =
    let one = plays-table bytes old mid sound first in
    let more : KeepsTable mid new = replayed-table records mid new one.sound rest in
    record { tenants = more.tenants ∙ one.tenants; sound = more.sound }
