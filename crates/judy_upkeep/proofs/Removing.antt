-- Steps, one after another.
use Rattle.std.proofs.Common.{◌≡◌, ℕ, Bool, true, false, List, [], ◌∷◌, ◌++◌, Some, None, Result, Ok, Err}
use Rattle.std.proofs.Common.{refl, sym, ◌∙◌, ap, subst, inr, append_assoc, append-nil}
use Rattle.std.specs.Prelude.{IsTrue}
use Rattle.std.specs.List.{list_all}
use Rattle.judy_disk.specs.declared.faults.DiskFault.{DiskFault}
use Rattle.judy_disk.specs.declared.names.Place.{Place}
use Rattle.judy_upkeep.specs.Replacing.{AreStale, HasRemoved, HasRemovedLeft, HasReplaced, is_stale, noted, placed, removals}
use Rattle.judy_upkeep.specs.Steps.{Act, Acts, Logs, act_of}
use Rattle.judy_upkeep.specs.Steps.Act.{Did, Failed}
use Rattle.judy_upkeep.specs.declared.record.Step.TheVariants.{Note, Remove, Rename, Secure, Sync}

pub logs_none : (log : Acts) → Logs log [] log
logs_none None = tt
logs_none (Some log) = ap Some (sym (append-nil log))

pub logs_then : (a b c : Acts) (xs ys : List Act) → Logs a xs b → Logs b ys c → Logs a (xs ++ ys) c
logs_then None b c xs ys h k = tt
logs_then (Some log) b c xs ys h k =
    let later : Logs (Some (log ++ xs)) ys c = subst (λ v. Logs v ys c) h k in
    later ∙ ap Some (append_assoc log xs ys)

-- ---- files that were removed

removals-append : (xs ys : List Place) → removals (xs ++ ys) ≡ removals xs ++ removals ys
removals-append [] ys = refl
removals-append (x ∷ xs) ys = ap (λ v. Did (Remove x) ∷ v) (removals-append xs ys)

both : (a b : Bool) → a ≡ true → b ≡ true → Rattle.std.specs.Prelude.◌&&◌ a b ≡ true
both true b h k = k
both false b h k = cc

stale-append : (upto : ℕ) (xs ys : List Place) → AreStale upto xs → AreStale upto ys → AreStale upto (xs ++ ys)
stale-append upto [] ys h k = k
stale-append upto (x ∷ xs) ys h k =
    let parts = Rattle.std.proofs.lemmas.Bool.and_parts (is_stale upto x) (list_all (is_stale upto) xs) h in
    both (is_stale upto x) (list_all (is_stale upto) (xs ++ ys)) parts.0 (stale-append upto xs ys parts.1 k)

-- none
pub removed_none : (upto : ℕ) (log : Acts) → HasRemoved {T = Unit {0}} {E = DiskFault} (Ok tt) upto log log
removed_none upto log = ([], refl, logs_none log)

-- one
pub removed_one : (upto : ℕ) (place : Place) (r : Result (Unit {0}) DiskFault) (log log' : Acts) → is_stale upto place ≡ true
    → Logs log (act_of (Remove place) r ∷ []) log' → HasRemoved r upto log log'
removed_one upto place (Ok done) log log' h l = (place ∷ [], both (is_stale upto place) true h refl, l)
removed_one upto place (Err fault) log log' h l = ([], place, refl, h, l)

-- some, and then others
pub removed_then : (upto : ℕ) (r : Result (Unit {0}) DiskFault) (a b c : Acts) → HasRemoved {T = Unit {0}} {E = DiskFault} (Ok tt) upto a b
    → HasRemoved r upto b c → HasRemoved r upto a c
removed_then upto (Ok done) a b c (xs, stale, l) (ys, stale', l') = (
  xs ++ ys,
  stale-append upto xs ys stale stale',
  subst (λ v. Logs a v c) (sym (removals-append xs ys)) (logs_then a b c (removals xs) (removals ys) l l'),
)
removed_then upto (Err fault) a b c (xs, stale, l) (ys, last, stale', this, l') =
    let acts : List Act = Failed (Remove last) ∷ [] in (
      xs ++ ys,
      last,
      stale-append upto xs ys stale stale',
      this,
      subst (λ v. Logs a v c) (sym (append_assoc (removals xs) (removals ys) acts) ∙ ap (λ v. v ++ acts) (sym (removals-append xs ys)))
          (logs_then a b c (removals xs) (removals ys ++ acts) l l'),
    )

-- the snapshot was put into its place, and then files were removed
pub replaced : (upto : ℕ) (r : Result (Unit {0}) DiskFault) (a b c d m e : Acts) → Logs a (Did Secure ∷ []) b → Logs b (Did (Rename upto) ∷ []) c
    → Logs c (Did Sync ∷ []) d → Logs d (Did (Note upto) ∷ []) m → HasRemoved r upto m e → HasReplaced r upto a e
replaced upto r a b c d m e s n y k rest = by r rest
  where
    there : Logs a (placed upto) m
    there = logs_then a b m (Did Secure ∷ []) (Did (Rename upto) ∷ Did Sync ∷ Did (Note upto) ∷ []) s
        (logs_then b c m (Did (Rename upto) ∷ []) (Did Sync ∷ Did (Note upto) ∷ []) n
        (logs_then c d m (Did Sync ∷ []) (Did (Note upto) ∷ []) y k))

    by : (r : Result (Unit {0}) DiskFault) → HasRemoved r upto m e → HasReplaced r upto a e
    by (Ok done) (places, stale, l) = (places, stale, logs_then a m e (placed upto) (removals places) there l)
    by (Err fault) (places, last, stale, this, l) =
        inr (inr (inr (inr (places, last, stale, this, logs_then a m e (placed upto) (removals places ++ Failed (Remove last) ∷ []) there l))))

-- the manifest names the snapshot, and then files were removed
pub removed_left : (upto : ℕ) (r : Result (Unit {0}) DiskFault) (a b c e : Acts) → Logs a (Did Sync ∷ []) b → Logs b (Did (Note upto) ∷ []) c
    → HasRemoved r upto c e → HasRemovedLeft r upto a e
removed_left upto r a b c e y k rest = by r rest
  where
    there : Logs a (noted upto) c
    there = logs_then a b c (Did Sync ∷ []) (Did (Note upto) ∷ []) y k

    by : (r : Result (Unit {0}) DiskFault) → HasRemoved r upto c e → HasRemovedLeft r upto a e
    by (Ok done) (places, stale, l) = (places, stale, logs_then a c e (noted upto) (removals places) there l)
    by (Err fault) (places, last, stale, this, l) =
        inr (inr (places, last, stale, this, logs_then a c e (noted upto) (removals places ++ Failed (Remove last) ∷ []) there l))
