-- One more name of a listing.
--     name_more, numbers_more    it is listed behind the others, with its number
--     failed                     a fault that is passed on
--     found_by                   what is found by the numbers in all names
use Rattle.std.proofs.Common.{◌≡◌, ◌∙◌, ap, inr, sym, subst, ℕ, false, List, [], ◌∷◌, ◌++◌, append_assoc}
use Rattle.std.specs.Prelude.{IfErr, IfOk, IsErr, IsErrAnd, flat_map, map, Option, Some, Result, Ok, Err}
use Rattle.std.specs.Fs.{dir_entry_name}
use Rattle.std.specs.declared.fs.dir.DirEntry.{DirEntry}
use Rattle.std.specs.List.Sorted.{IsPermutation}
use Rattle.std.proofs.lemmas.Grind.{flat_map-append}
use Rattle.std.proofs.lemmas.List.{append-nil, map-append}
use Rattle.std.proofs.lemmas.List.Elements.{All-append, All-cons, All-nil}
use Rattle.judy_disk.specs.Acts.{Act}
use Rattle.judy_disk.specs.Acts.Act.{Did, Listed}
use Rattle.judy_disk.specs.Acts.Ask.{ListNames}
use Rattle.judy_disk.specs.Listings.{Finds, GivesName, HasNumbers, ListsAll, listed, snapshots_in}
use Rattle.judy_disk.specs.Names.{named_of}
use Rattle.judy_disk.specs.Scans.{IsArranged, IsUnarranged, is_other, segment_in, snapshot_in, torn_in}
use Rattle.judy_disk.specs.declared.faults.DiskFault.{DiskFault}
use Rattle.judy_disk.specs.declared.scan.Found.{Found}
use Rattle.judy_disk.specs.declared.scan.Names.{Names}

-- the act of a name that was given
given_is : {R A F D : Type 0} (next : Option (DirEntry R A F D)) (entry : DirEntry R A F D) (before after : List Act)
    → GivesName (Ok next) before after → next ≡ Some entry → after ≡ before ++ Listed (dir_entry_name entry) ∷ []
given_is next entry before after gives is = subst (λ v. GivesName (Ok v) before after) is gives

pub name_more : {R A F D : Type 0} (acts before after : List Act) (names : List (List ℕ)) (name : List ℕ) (next : Option (DirEntry R A F D))
    (entry : DirEntry R A F D) → before ≡ listed acts names → GivesName (Ok next) before after → next ≡ Some entry
    → name ≡ dir_entry_name entry → after ≡ listed acts (names ++ name ∷ [])
name_more acts before after names name next entry was gives some is =
    given_is next entry before after gives some ∙ ap (λ v. before ++ Listed v ∷ []) (sym is) ∙ ap (λ v. v ++ Listed name ∷ []) was
    ∙ append_assoc (acts ++ Did ListNames ∷ []) (map Listed names) (Listed name ∷ [])
    ∙ ap (λ v. (acts ++ Did ListNames ∷ []) ++ v) (sym (map-append Listed names (name ∷ [])))

-- the numbers of one more name
more : (f : List ℕ → List ℕ) (names : List (List ℕ)) (name before after : List ℕ) → before ≡ flat_map f names
    → after ≡ before ++ f name → after ≡ flat_map f (names ++ name ∷ [])
more f names name before after was is =
    is ∙ ap (λ v. v ++ f name) was ∙ ap (λ v. flat_map f names ++ v) (sym (append-nil (f name)))
    ∙ sym (flat_map-append f names (name ∷ []))

pub numbers_more : (names : List (List ℕ)) (name : List ℕ) (before after : Names) → HasNumbers names before
    → after.segments.items ≡ before.segments.items ++ segment_in (named_of name)
    → after.snapshots.items ≡ before.snapshots.items ++ snapshot_in (named_of name)
    → after.torn.items ≡ before.torn.items ++ torn_in (named_of name)
    → is_other (named_of name) ≡ false → HasNumbers (names ++ name ∷ []) after
numbers_more names name before after was segments snapshots torn known = record {
  known = All-append (λ n. is_other (named_of n) ≡ false) names (name ∷ []) was.known
      (All-cons (λ n. is_other (named_of n) ≡ false) name [] known (All-nil (λ n. is_other (named_of n) ≡ false)));
  segments = more (λ n. segment_in (named_of n)) names name _ _ was.segments segments;
  snapshots = more (λ n. snapshot_in (named_of n)) names name _ _ was.snapshots snapshots;
  torn = more (λ n. torn_in (named_of n)) names name _ _ was.torn torn;
}

-- what is found by the numbers in all names
pub found_by : (acts acts' : List Act) (names : List (List ℕ)) (found : Names) (sorted : List ℕ) (result : Result Found DiskFault)
    → ListsAll names acts acts' → HasNumbers names found → IsPermutation found.segments.items sorted
    → IfOk result (IsArranged sorted found.snapshots.items found.torn.items)
    → IfErr result (IsUnarranged sorted found.snapshots.items) → Finds result acts acts'
found_by acts acts' names found sorted (Ok f) all numbers same arranged refused = (
  names,
  all,
  numbers.known,
  record {
    sorted = sorted;
    same = subst (λ (s : List ℕ). IsPermutation s sorted) numbers.segments same;
    arranged = subst (λ (t : List ℕ). IsArranged sorted (snapshots_in names) t f) numbers.torn
        (subst (λ (s : List ℕ). IsArranged sorted s found.torn.items f) numbers.snapshots arranged);
  },
)
found_by acts acts' names found sorted (Err why) all numbers same arranged refused =
    inr (
      names,
      all,
      numbers.known,
      record {
        sorted = sorted;
        same = subst (λ (s : List ℕ). IsPermutation s sorted) numbers.segments same;
        unarranged = subst (λ (s : List ℕ). IsUnarranged sorted s why) numbers.snapshots refused;
      },
    )

-- a fault that is passed on
pub failed : {T : Type 0} (r : Result T DiskFault) (why : DiskFault) (P : Result T DiskFault → Type 0)
    → IsErr r × IsErrAnd r (λ e. e ≡ why) → P (Err why) → P r
failed (Ok x) why P (none, is) p = absurd is
failed (Err e) why P (one, is) p = subst (λ (v : DiskFault). P (Err v)) (sym is) p
