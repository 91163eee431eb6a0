-- Laws of a list after a part is overwritten.
use Rattle.std.proofs.Common.{◌≡◌, ℕ, ◌+◌, ◌≤◌, List, ◌++◌, length, take, drop, ap, sym, ◌∙◌, arith, append_assoc}
use Rattle.std.proofs.lemmas.List.{length-take, length-drop, length-append, take_all}
use Rattle.std.specs.List.{refill, length_refill}
use lib.Seq.{take_at, paste}
use Rattle.judy_region.specs.Parts.{with_part}

-- as many new words as old ones replace all of them
pub refilled : (n : ℕ) (old ws : List ℕ) → length ws ≡ n → refill n old ws ≡ ws
refilled n old ws e = take_at ws (drop (length ws) old) n e

-- the definition for a part inside the list and a new part of the same size
pub with_part_is : (words : List ℕ) (start len : ℕ) (ws : List ℕ) → start + len ≤ length words → length ws ≡ len
    → with_part words start len ws ≡ take start words ++ (ws ++ drop (start + len) words)
with_part_is words start len ws within e =
    let inner = refilled len (take len (drop start words)) ws e in
    let a = length-append (take start words) (ws ++ drop (start + len) words) in let b = length-append ws (drop (start + len) words) in
    let c = length-take start words in let d = length-drop (start + len) words in
    ap (λ v. refill (length words) words (take start words ++ (v ++ drop (start + len) words))) inner
    ∙ refilled (length words) words (take start words ++ (ws ++ drop (start + len) words)) (omega (arith, a, b, c, d, within, e))

-- a part inside the list has this many words
pub part_long : (words : List ℕ) (start len : ℕ) → start + len ≤ length words → length (take len (drop start words)) ≡ len
part_long words start len within = let t = length-take len (drop start words) in let d = length-drop start words in omega (arith, t, d, within)

-- the same, in terms of `paste`
pub with_part_by : (words : List ℕ) (start len : ℕ) (ws : List ℕ) → start + len ≤ length words → length ws ≡ len → with_part words
    start len ws ≡ paste words start ws len
with_part_by words start len ws within e =
    with_part_is words start len ws within e ∙ ap (λ v. take start words ++ (v ++ drop (start + len) words)) (sym (take_all len ws (omega (arith, e))))
    ∙ sym (append_assoc (take start words) (take len ws) (drop (start + len) words))

-- any new words of the same size are pasted over the part
pub with_part_paste : (words : List ℕ) (start len : ℕ) (ws : List ℕ) → start + len ≤ length words
    → with_part words start len ws ≡ paste words start (refill len (take len (drop start words)) ws) len
with_part_paste words start len ws within =
    let part = take len (drop start words) in
    let p = part_long words start len within in
    let s = sym (length_refill len part ws (sym p)) in
    ap (λ v. refill (length words) words (take start words ++ (v ++ drop (start + len) words))) (sym (refilled len part (refill len part ws) s))
    ∙ with_part_by words start len (refill len part ws) within s
