-- The hash words of the order of walks.
--     digest_word   they are the words of SHA-256
use Rattle.std.proofs.Common.{◌≡◌, ◌∷◌, ℕ, List, [], take, length, arith}
use Rattle.std.specs.Int.{from_be_bytes, w64}
use Rattle.std.proofs.lemmas.List.{length-take-le}
use Rattle.sha2.specs.Sha256.{sha256}
use Rattle.sha2.proofs.Facts256.{length-sha256}
use Rattle.judy_model.specs.Walks.{key_word}
use Rattle.judy_packing.specs.Packing.{pack, pack_at}

-- eight bytes as a number, the first byte highest
same_number : (a b c d e f g h : ℕ) → pack (a ∷ b ∷ c ∷ d ∷ e ∷ f ∷ g ∷ h ∷ []) ≡ from_be_bytes w64 (a ∷ b ∷ c ∷ d ∷ e ∷ f ∷ g ∷ h ∷ [])
unfolding pack_at
same_number a b c d e f g h = omega arith

eight_bytes : (s : List ℕ) → length s ≡ 8 → pack s ≡ from_be_bytes w64 s
eight_bytes [] n = absurd (omega arith)
eight_bytes (a ∷ []) n = absurd (omega arith)
eight_bytes (a ∷ b ∷ []) n = absurd (omega arith)
eight_bytes (a ∷ b ∷ c ∷ []) n = absurd (omega arith)
eight_bytes (a ∷ b ∷ c ∷ d ∷ []) n = absurd (omega arith)
eight_bytes (a ∷ b ∷ c ∷ d ∷ e ∷ []) n = absurd (omega arith)
eight_bytes (a ∷ b ∷ c ∷ d ∷ e ∷ f ∷ []) n = absurd (omega arith)
eight_bytes (a ∷ b ∷ c ∷ d ∷ e ∷ f ∷ g ∷ []) n = absurd (omega arith)
eight_bytes (a ∷ b ∷ c ∷ d ∷ e ∷ f ∷ g ∷ h ∷ []) n = same_number a b c d e f g h
eight_bytes (a ∷ b ∷ c ∷ d ∷ e ∷ f ∷ g ∷ h ∷ i ∷ s) n = absurd (omega arith)

-- the word of a key's digest is the word of the order
pub digest_word : (key : List ℕ) → pack (take 8 (sha256 key)) ≡ key_word key
unfolding key_word
digest_word key = eight_bytes (take 8 (sha256 key)) (length-take-le 8 (sha256 key) (let n = length-sha256 key in omega (arith, n)))
