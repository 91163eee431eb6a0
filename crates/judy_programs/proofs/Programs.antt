-- What the whole program did, from what its parts did.
use Rattle.std.proofs.Common.{◌≡◌, ◌≤◌, ◌<◌, ◌+◌, ℕ, List, length, take, drop, sym, ap, subst, arith}
use Rattle.std.specs.Io.KnownBytes.{Consumes}
use Rattle.std.proofs.lemmas.List.{length-take-le}
use Rattle.std.proofs.Common.{length-drop}
use Rattle.judy_protocol.specs.Serving.{MaybeBytes}
use Rattle.judy_programs.specs.Program.{GaveTable}
use Rattle.judy_programs.specs.Tables.{IsTable, table_limit}

-- the table and the script in the bytes that were read
pub gave_table : (left mid : MaybeBytes) (bytes text script : List ℕ) (m n : ℕ) → Consumes left mid bytes → IsTable bytes
    (take m bytes) (drop n bytes) → m ≤ table_limit → m ≤ length bytes
    → text ≡ take m bytes → script ≡ drop n bytes → GaveTable left mid text script
gave_table left mid bytes text script m n read table short fits is_text is_script = record {
  given = bytes;
  read = read;
  table = subst (λ t. IsTable bytes t script) (sym is_text) (subst (λ s. IsTable bytes (take m bytes) s) (sym is_script) table);
  short = omega (arith, short, ap length is_text, length-take-le m bytes fits);
}

-- what comes after the table in the last pull
pub script_fits : (bytes script : List ℕ) (n : ℕ) → length bytes < n + 4096 → script ≡ drop n bytes → length script ≤ 4096
script_fits bytes script n few is = omega (arith, few, ap length is, length-drop n bytes)
