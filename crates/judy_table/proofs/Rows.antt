-- Worked rows, by computation.
use Rattle.std.proofs.Common.{◌≡◌, [], ◌∷◌, None, Some, Ok, Err, codes, refl, replicate}
use Rattle.std.specs.Str.{is_utf8, chars}
use Rattle.std.specs.Char.{encode_utf8}
use Rattle.toml.proofs.OnLiterals.{toml_on_literals}
use Rattle.hex.specs.Hex.{decode_pairs}
use Rattle.judy_table.specs.declared.fault.TableFault.TheVariants as fault
use Rattle.judy_table.specs.Tenants.{read_table}

empty_text : read_table [] ≡ Err fault.Count
unfolding toml_on_literals is_utf8 chars encode_utf8
empty_text = refl

no_table : read_table (codes "alice = 1") ≡ Err fault.Shape
unfolding toml_on_literals is_utf8 chars encode_utf8
no_table = refl

not_closed : read_table (codes "[alice") ≡ Err fault.Toml
unfolding toml_on_literals is_utf8 chars encode_utf8
not_closed = refl

short_digest : read_table (codes "[alice]\nsha256 = \"ba78\"\nquota = 4") ≡ Err fault.Digest
unfolding toml_on_literals is_utf8 chars encode_utf8 decode_pairs
short_digest = refl

text_quota : read_table (codes "[alice]\nsha256 = \"ba78\"\nquota = \"4\"") ≡ Err fault.Shape
unfolding toml_on_literals is_utf8 chars encode_utf8 decode_pairs
text_quota = refl

spaced_name : read_table (codes "[\"a b\"]\nsha256 = \"ba78\"\nquota = 4") ≡ Err fault.Name
unfolding toml_on_literals is_utf8 chars encode_utf8 decode_pairs
spaced_name = refl

much : read_table (codes "[alice]\nsha256 = \"ba7816bf8f01cfea414140de5dae2223b00361a396177a9cb410ff61f20015ad\"\nquota = 16777217") ≡ Err fault.Quota
unfolding toml_on_literals is_utf8 chars encode_utf8 decode_pairs
much = refl

alice : read_table (codes "[alice]\nsha256 = \"BA7816bf8f01cfea414140de5dae2223b00361a396177a9cb410ff61f20015ad\"\nquota = 4") ≡ Ok (record {
  name = codes "alice";
  digest = 186 ∷ 120 ∷ 22 ∷ 191 ∷ 143 ∷ 1 ∷ 207 ∷ 234 ∷ 65 ∷ 65 ∷ 64 ∷ 222 ∷ 93 ∷ 174 ∷ 34 ∷ 35 ∷ 176 ∷ 3 ∷ 97 ∷ 163 ∷ 150 ∷ 23
      ∷ 122 ∷ 156 ∷ 180 ∷ 16 ∷ 255 ∷ 97 ∷ 242 ∷ 0 ∷ 21 ∷ 173 ∷ [];
  others = record { look = None; former = None; former_look = None };
  quota = record { entries = 4; pieces = 504 };
  journal = None;
  frozen = None;
} ∷ [])
unfolding toml_on_literals is_utf8 chars encode_utf8 decode_pairs
alice = refl

pieces_over : read_table
    (codes "[alice]\nsha256 = \"ba7816bf8f01cfea414140de5dae2223b00361a396177a9cb410ff61f20015ad\"\nquota = 4\npieces = 2113929217")
    ≡ Err fault.Pieces
unfolding toml_on_literals is_utf8 chars encode_utf8 decode_pairs
pieces_over = refl

no_limit : read_table
    (codes "[alice]\nsha256 = \"ba7816bf8f01cfea414140de5dae2223b00361a396177a9cb410ff61f20015ad\"\nquota = 4\npieces = -1\njournal = 0")
    ≡ Err fault.Quota
unfolding toml_on_literals is_utf8 chars encode_utf8 decode_pairs
no_limit = refl

a_limit : read_table
    (codes "[alice]\nsha256 = \"BA7816bf8f01cfea414140de5dae2223b00361a396177a9cb410ff61f20015ad\"\nquota = 4\njournal = 65536")
    ≡ Ok (record {
      name = codes "alice";
      digest = 186 ∷ 120 ∷ 22 ∷ 191 ∷ 143 ∷ 1 ∷ 207 ∷ 234 ∷ 65 ∷ 65 ∷ 64 ∷ 222 ∷ 93 ∷ 174 ∷ 34 ∷ 35 ∷ 176 ∷ 3 ∷ 97 ∷ 163 ∷ 150 ∷ 23
          ∷ 122 ∷ 156 ∷ 180 ∷ 16 ∷ 255 ∷ 97 ∷ 242 ∷ 0 ∷ 21 ∷ 173 ∷ [];
      others = record { look = None; former = None; former_look = None };
      quota = record { entries = 4; pieces = 504 };
      journal = Some 65536;
      frozen = None;
    } ∷ [])
unfolding toml_on_literals is_utf8 chars encode_utf8 decode_pairs
a_limit = refl

text_pieces : read_table (codes "[alice]\nsha256 = \"ba78\"\nquota = 4\npieces = \"3\"") ≡ Err fault.Shape
unfolding toml_on_literals is_utf8 chars encode_utf8 decode_pairs
text_pieces = refl

quota_before_pieces : read_table
    (codes "[alice]\nsha256 = \"ba7816bf8f01cfea414140de5dae2223b00361a396177a9cb410ff61f20015ad\"\nquota = 16777217\npieces = -1")
    ≡ Err fault.Quota
unfolding toml_on_literals is_utf8 chars encode_utf8 decode_pairs
quota_before_pieces = refl

number_for_looking : read_table (codes "[alice]\nsha256 = \"ba78\"\nquota = 4\nread_sha256 = 3") ≡ Err fault.Shape
unfolding toml_on_literals is_utf8 chars encode_utf8 decode_pairs
number_for_looking = refl

short_for_looking : read_table
    (codes "[alice]\nsha256 = \"ba7816bf8f01cfea414140de5dae2223b00361a396177a9cb410ff61f20015ad\"\nquota = 16777217\nread_sha256 = \"ba78\"")
    ≡ Err fault.Digest
unfolding toml_on_literals is_utf8 chars encode_utf8 decode_pairs
short_for_looking = refl

other_key : read_table (codes "[alice]\nsha256 = \"ba78\"\nquota = 4\ncolour = 4") ≡ Err fault.Shape
unfolding toml_on_literals is_utf8 chars encode_utf8 decode_pairs
other_key = refl

old_digests : read_table
    (codes "[alice]\nsha256 = \"ba7816bf8f01cfea414140de5dae2223b00361a396177a9cb410ff61f20015ad\"\nquota = 0\nold_sha256 = \"0000000000000000000000000000000000000000000000000000000000000000\"\nold_read_sha256 = \"0101010101010101010101010101010101010101010101010101010101010101\"")
    ≡ Ok (record {
      name = codes "alice";
      digest = 186 ∷ 120 ∷ 22 ∷ 191 ∷ 143 ∷ 1 ∷ 207 ∷ 234 ∷ 65 ∷ 65 ∷ 64 ∷ 222 ∷ 93 ∷ 174 ∷ 34 ∷ 35 ∷ 176 ∷ 3 ∷ 97 ∷ 163 ∷ 150 ∷ 23
          ∷ 122 ∷ 156 ∷ 180 ∷ 16 ∷ 255 ∷ 97 ∷ 242 ∷ 0 ∷ 21 ∷ 173 ∷ [];
      others = record { look = None; former = Some (replicate 32 0); former_look = Some (replicate 32 1) };
      quota = record { entries = 0; pieces = 0 };
      journal = None;
      frozen = None;
    } ∷ [])
unfolding toml_on_literals is_utf8 chars encode_utf8 decode_pairs
old_digests = refl

short_old_digest : read_table
    (codes "[alice]\nsha256 = \"ba7816bf8f01cfea414140de5dae2223b00361a396177a9cb410ff61f20015ad\"\nquota = 16777217\nold_sha256 = \"ba78\"")
    ≡ Err fault.Digest
unfolding toml_on_literals is_utf8 chars encode_utf8 decode_pairs
short_old_digest = refl

number_for_old_looking : read_table (codes "[alice]\nsha256 = \"ba78\"\nquota = 4\nold_read_sha256 = 3") ≡ Err fault.Shape
unfolding toml_on_literals is_utf8 chars encode_utf8 decode_pairs
number_for_old_looking = refl
