-- A call adds entries and pieces only if there is room, so their numbers fit words.
use Rattle.std.proofs.Common.{◌≡◌, ℕ, ◌+◌, ◌<◌, ◌≤◌, ◌^◌, Bool, true, false, cond, List, [], ◌∷◌, length, refl, sym, ap}
use Rattle.std.proofs.Common.{arith, Ok, Err, Result, IfOk, OnErr}
use Rattle.std.specs.Prelude.{◌&&◌, nat_lt, nat_le}
use Rattle.judy_model.specs.declared.replies.Reply.{Reply}
use Rattle.judy_model.specs.Contents.{Order, Entries}
use Rattle.std.proofs.lemmas.List.Sums.{sum_by-cons}
use Rattle.judy_model.proofs.lemmas.PieceLemmas.{pieces_of-words}
use Rattle.judy_model.specs.Pieces.{word_pieces, pieces_of}
use Rattle.judy_model.specs.Tenant.{Arrays, content_of, entries_in, pieces_in}
use Rattle.judy_model.specs.WellFormed.{Grows}
use Rattle.judy_model.proofs.lemmas.TestLemmas.{and_left, and_right}
use Rattle.judy_model.proofs.lemmas.StateLemmas.{total, total-with_content}
use Rattle.judy_model.proofs.lemmas.EntryLemmas.{lt_of}
use Rattle.judy_model.proofs.lemmas.GapLemmas.{le_of}
use Rattle.judy_reference.specs.Store.{AreKept, on_array}
use Rattle.judy_reference.proofs.KeptLemmas.{names_rise}

-- it grows by at most n, and only with room
abbrev pub GrowsWithin : Bool → ℕ → ℕ → ℕ → Type 0
GrowsWithin room n before after = after ≤ before + cond room n 0

-- a number that grows only for a new entry with room grows in this way
fits : (asks room : Bool) (n before after : ℕ) → Grows asks room n before after → GrowsWithin room n before after
fits true true n before after h = omega (arith, h)
fits true false n before after h = omega (arith, h)
fits false true n before after h = omega (arith, h)
fits false false n before after h = omega (arith, h)

-- what holds of one array holds of all of its kind, also after a refusal
pub arrays_fit : {K E : Type 0} (R : Order K) (size : Entries K → ℕ) (none : size [] ≡ 0) (arrays new : Arrays K) (name : List ℕ)
    → (does : Entries K → Reply × Entries K) (asks room : Bool) (n : ℕ) (r : Result Reply E)
    → AreKept R arrays → Grows asks room n (size (content_of arrays name)) (size (does (content_of arrays name)).1)
    → IfOk r (λ reply. on_array arrays name does ≡ (reply, new)) → OnErr r (new ≡ arrays) → GrowsWithin room n (total size none arrays) (total size none new)
arrays_fit R size none arrays new name does asks room n (Ok reply) kept grows ok err =
    let after = (does (content_of arrays name)).1 in
    omega (
      arith,
      fits asks room n (size (content_of arrays name)) (size after) grows,
      total-with_content size none arrays name
          after (names_rise R arrays kept),
      ap (λ p. total size none p.1) ok,
    )
arrays_fit R size none arrays new name does asks room n (Err e) kept grows ok err = omega (arith, ap (total size none) err)

-- the number of entries fits a word if there is room
entries_word : (room : Bool) (entries used pieces n most after : ℕ) → room ≡ (nat_lt used entries && nat_le (pieces + n) most)
    → GrowsWithin room 1 used after → used < 2 ^ 64 → entries < 2 ^ 64 → after < 2 ^ 64
entries_word true entries used pieces n most after is grows old top =
    let less : used < entries = lt_of used entries (and_left (nat_lt used entries) _ (sym is)) in omega (arith, less, grows)
entries_word false entries used pieces n most after is grows old top = omega (arith, grows)

-- the same of the number of pieces
pieces_word : (room : Bool) (entries used pieces n most after : ℕ) → room ≡ (nat_lt used entries && nat_le (pieces + n) most)
    → GrowsWithin room n pieces after → pieces < 2 ^ 64 → most < 2 ^ 64 → after < 2 ^ 64
pieces_word true entries used pieces n most after is grows old top =
    let less : pieces + n ≤ most = le_of (pieces + n) most (and_right (nat_lt used entries) _ (sym is)) in omega (arith, less, grows)
pieces_word false entries used pieces n most after is grows old top = omega (arith, grows)

-- after a call of one array, if the other kinds have this many entries and pieces
pub stay_words : {K E : Type 0} (R : Order K) (size : K → ℕ) (arrays new : Arrays K) (name : List ℕ) (does : Entries K → Reply × Entries K) (asks room : Bool)
    → (n entries used pieces most others larger : ℕ) (r : Result Reply E) → AreKept R arrays
    → Grows asks room 1 (length (content_of arrays name)) (length (does (content_of arrays name)).1)
    → Grows asks room n (pieces_of size (content_of arrays name)) (pieces_of size (does (content_of arrays name)).1)
    → IfOk r (λ reply. on_array arrays name does ≡ (reply, new)) → OnErr r (new ≡ arrays)
    → room ≡ (nat_lt used entries && nat_le (pieces + n) most)
    → used ≡ entries_in arrays + others → pieces ≡ pieces_in size arrays + larger
    → used < 2 ^ 64 → pieces < 2 ^ 64 → entries < 2 ^ 64 → most < 2 ^ 64
    → (entries_in new + others < 2 ^ 64) × (pieces_in size new + larger < 2 ^ 64)
stay_words R size arrays new name does asks room n entries used pieces most others larger r kept counts weighs ok err is u p few small top top' =
    let more = arrays_fit R length refl arrays new name does asks room 1 r kept counts ok err in
    let larger_by = arrays_fit R (pieces_of size) refl arrays new name does asks room n r kept weighs ok err in (
      entries_word room entries used pieces n most (entries_in new + others) is (omega (arith, more, u)) few top,
      pieces_word room entries used pieces n most (pieces_in size new + larger) is (omega (arith, larger_by, p)) small top',
    )

-- word arrays have as many pieces as entries
pub words_pieces : (arrays : Arrays ℕ) → pieces_in word_pieces arrays ≡ entries_in arrays
words_pieces [] = refl
words_pieces (a ∷ more) =
    let one = sum_by-cons (λ (x : List ℕ × Entries ℕ). pieces_of word_pieces x.1) a more in
    let two = sum_by-cons (λ (x : List ℕ × Entries ℕ). length x.1) a more in
    omega (arith, one, two, words_pieces more, pieces_of-words a.1)
