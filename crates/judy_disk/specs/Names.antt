-- The names of the files of a journal's directory.
--     number_in digits           the number that twelve digits are, from 1 on
--     number_before tail name    the number before this end of a name
--     is_passed name             a file of this name is no segment and no snapshot, and may be there
--     named_of name              what a file is, by its name
--     NumbersAreRead             a segment, a snapshot and torn bytes are read as what they are
use Rattle.std.specs.Prelude.{◌≡◌, ◌&&◌, ◌||◌, ◌==◌, ◌-◌, ◌++◌, ℕ, Bool, List, codes, length, take, nat_le, if◌then◌else◌, Option, Some, None}
use lib.Dec.{eqb}
use Rattle.std.specs.List.{starts_with, ends_with}
use Rattle.std.specs.Str.{all_ascii_digits, bytes_eq}
use Rattle.std.specs.Str.Parse.{digits_value}
use Rattle.judy_disk.specs.declared.names.Named.{Named}
use Rattle.judy_disk.specs.declared.names.Named.TheVariants as named

-- one text ends with another, and begins with it
abbrev pub ends : List ℕ → List ℕ → Bool
ends name tail = ends_with eqb name tail

abbrev pub begins : List ℕ → List ℕ → Bool
begins name head = starts_with eqb name head

-- twelve digits, which are no zeros
abbrev pub is_number : List ℕ → Bool
is_number digits = (length digits == 12) && all_ascii_digits digits && nat_le 1 (digits_value 10 digits)

abbrev pub number_in : List ℕ → Option ℕ
number_in digits = if is_number digits then Some (digits_value 10 digits) else None

-- the number before this end of a name
abbrev pub number_before : List ℕ → List ℕ → Option ℕ
number_before tail name = if ends name tail then number_in (take (length name - length tail) name) else None

-- the names of the locks and of the manifest
abbrev pub is_fixed : List ℕ → Bool
is_fixed name = bytes_eq name (codes "lock") || bytes_eq name (codes "compact.lock")
    || bytes_eq name (codes "read.lock") || bytes_eq name (codes "start.lock")
    || bytes_eq name (codes "manifest.lock") || bytes_eq name (codes "manifest")

-- these, hidden files, files that were not finished, and what a file system keeps in its root
abbrev pub is_passed : List ℕ → Bool
is_passed name = is_fixed name || bytes_eq name (codes "lost+found") || begins name (codes ".") || ends name (codes ".new")

-- a file that was set aside
abbrev pub torn_by : Option ℕ → Named
torn_by (Some n) = named.Torn n
torn_by None = named.Passed

abbrev pub torn_of : List ℕ → Named
torn_of name = if ends name (codes ".torn") then torn_by (number_before (codes ".torn") name) else named.Other

abbrev pub snapshot_by : Option ℕ → List ℕ → Named
snapshot_by (Some n) name = named.Snapshot n
snapshot_by None name = torn_of name

abbrev pub segment_by : Option ℕ → List ℕ → Named
segment_by (Some n) name = named.Segment n
segment_by None name = snapshot_by (number_before (codes ".snapshot") name) name

-- what a file is, by its name
unfoldable pub named_of : List ℕ → Named
named_of name = if is_passed name then named.Passed else segment_by (number_before (codes ".journal") name) name

-- ---- a law

-- Twelve digits of a number from 1 on, and an end, are the name of what this end says.
abbrev pub NumbersAreRead : Type 0
NumbersAreRead = (digits : List ℕ) (n : ℕ) → number_in digits ≡ Some n
    → (named_of (digits ++ codes ".journal") ≡ named.Segment n)
    × (named_of (digits ++ codes ".snapshot") ≡ named.Snapshot n)
    × (named_of (digits ++ codes ".torn") ≡ named.Torn n)
