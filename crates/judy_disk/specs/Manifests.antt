-- The manifest of a journal's directory.
--     text_of manifest                  the text of its file
--     lack_of manifest snapshot last    how the files that are there do not fit it
use Rattle.std.specs.Prelude.{ℕ, List, [], ◌∷◌, ◌++◌, ◌+◌, ◌-◌, ◌*◌, ◌%◌, ◌^◌, Option, Some, None, codes, decimal, nat_lt, if◌then◌else◌}
use Rattle.std.specs.Int.{w64, to_be_bytes}
use Rattle.hex.specs.Hex.{encode_lower}
use Rattle.judy_disk.specs.declared.manifest.TheConstants.{FACTOR}
use Rattle.judy_disk.specs.declared.manifest.Manifest.{Manifest}
use Rattle.judy_disk.specs.declared.manifest.Lack.{Lack}
use Rattle.judy_disk.specs.declared.manifest.Lack.TheVariants.{Snapshot, Segment, Behind}

-- bytes as digits of a number, the greatest first, after a number, modulo 2^64
abbrev pub number_after : ℕ → List ℕ → ℕ
number_after number [] = number
number_after number (b ∷ bytes) = number_after (((number * FACTOR) % 2 ^ 64 + b) % 2 ^ 64) bytes

-- the checksum of a text, in hexadecimal digits
unfoldable pub check_of : List ℕ → List ℕ
check_of text = encode_lower (to_be_bytes w64 (number_after 0 text))

-- a number and a space
abbrev pub number_text : ℕ → List ℕ
number_text number = decimal number ++ 32 ∷ []

-- what comes before the checksum
unfoldable pub front_of : Manifest → List ℕ
front_of m = codes "judyd manifest 1 " ++ (number_text m.snapshot ++ number_text m.last)

-- the text of the file: one line with its line feed
unfoldable pub text_of : Manifest → List ℕ
text_of m = front_of m ++ (check_of (front_of m) ++ 10 ∷ [])

-- How the files that are there do not fit: the greatest snapshot, and segments after it up to the last one, 0 for
-- none. An older snapshot, or an earlier last segment, is a file that is missing. One segment may have been begun
-- since, and no more.
abbrev pub lack_of : Manifest → ℕ → ℕ → Option Lack
lack_of m snapshot last =
    if nat_lt snapshot m.snapshot then Some (Snapshot m.snapshot)
    else if nat_lt last m.last then Some (Segment (last + 1))
    else if nat_lt 1 (last - m.last) then Some (Behind m.last)
    else None
