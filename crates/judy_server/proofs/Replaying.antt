-- How records are played, one after another.
use Rattle.std.proofs.Common.{◌≡◌, ◌<◌, ◌≤◌, ◌+◌, ℕ, zero, suc, true, false, cond, List, [], ◌∷◌, ◌++◌, length, take, drop, get_or}
use Rattle.std.proofs.Common.{refl, sym, ◌∙◌, ap, subst, arith, append_assoc, append-nil, length-append, Option, Some, None, Ok, Err}
use Rattle.std.specs.Prelude.{option_map}
use Rattle.judy_model.specs.Grammar.{is_space}
use Rattle.judy_journal.specs.Replays.{parts_of}
use Rattle.judy_model.specs.Stream.{lines_of}
use Rattle.judy_journal.specs.declared.replays.Unplayed.{Unplayed}
use Rattle.judy_model.proofs.lemmas.LineLemmas.{IsOneLine, lines_of-bytes, lines_of-line}
use Rattle.judy_server.specs.Replays.{Plays, AreReplayed, IsHalted}
use Rattle.judy_server.specs.Tally.{Tallied}

-- ---- the parts of a record

-- the first space cuts it
pub cut_at : (bytes : List ℕ) (i : ℕ) → i < length bytes → is_space (get_or bytes i 0) ≡ true → ((k : ℕ) → k < i → is_space (get_or bytes k 0) ≡ false)
    → parts_of bytes ≡ Some (take i bytes, drop 1 (drop i bytes))
cut_at [] i h is before = absurd (omega arith)
cut_at (b ∷ bytes) zero h is before =
    ap (λ t. cond {A = Option (List ℕ × List ℕ)} t (Some ([], bytes)) (option_map (λ p. (b ∷ p.0, p.1)) (parts_of bytes))) is
cut_at (b ∷ bytes) (suc i) h is before =
    let first : is_space b ≡ false = before 0 (omega arith) in
    ap (λ t. cond {A = Option (List ℕ × List ℕ)} t (Some ([], bytes)) (option_map (λ p. (b ∷ p.0, p.1)) (parts_of bytes))) first
    ∙ ap (option_map (λ p. (b ∷ p.0, p.1))) (cut_at bytes i (omega arith) is (λ k lt. before (suc k) (omega arith)))

-- no space, no parts
pub no_cut : (bytes : List ℕ) → ((k : ℕ) → k < length bytes → is_space (get_or bytes k 0) ≡ false) → parts_of bytes ≡ None
no_cut [] none = refl
no_cut (b ∷ bytes) none =
    let first : is_space b ≡ false = none 0 (omega arith) in
    ap (λ t. cond {A = Option (List ℕ × List ℕ)} t (Some ([], bytes)) (option_map (λ p. (b ∷ p.0, p.1)) (parts_of bytes))) first
    ∙ ap (option_map (λ p. (b ∷ p.0, p.1))) (no_cut bytes (λ k lt. none (suc k) (omega arith)))

-- ---- records, one after another

-- one more record was played
pub AreReplayed-push : (done : List (List ℕ)) (old mid new : Tallied) (bytes : List ℕ) → AreReplayed old done mid → Plays bytes mid (Ok tt) new
    → AreReplayed old (done ++ bytes ∷ []) new
AreReplayed-push [] old mid new bytes same plays = (new, subst (λ (t : Tallied). Plays bytes t (Ok tt) new) same plays, refl)
AreReplayed-push (first ∷ done) old mid new bytes (next, was, rest) plays = (next, was, AreReplayed-push done next mid new bytes rest plays)

-- the records before the rest of a text were played
pub record HasPlayed (all rest : List ℕ) (played : ℕ) (old new : Tallied) : Type 0 where
  pub done : List (List ℕ)
  pub lines : lines_of all ≡ done ++ lines_of rest
  pub count : length done ≡ played
  pub fits : played + length rest ≤ length all
  pub replayed : AreReplayed old done new

-- none yet
pub played_none : (all : List ℕ) (old : Tallied) → HasPlayed all all 0 old old
played_none all old = record { done = []; lines = refl; count = refl; fits = omega arith; replayed = refl }

-- the lines of the rest, from its first
lines_from : (all rest bytes after : List ℕ) (done : List (List ℕ)) → lines_of all ≡ done ++ lines_of rest → IsOneLine bytes
    → rest ≡ bytes ++ 10 ∷ after → lines_of all ≡ done ++ bytes ∷ lines_of after
lines_from all rest bytes after done lines one is = lines ∙ ap (λ ls. done ++ ls) (ap lines_of is ∙ lines_of-line bytes after one)

-- one more
pub played_more : (all rest bytes after : List ℕ) (played : ℕ) (old mid new : Tallied) → HasPlayed all rest played old mid → IsOneLine bytes
    → rest ≡ bytes ++ 10 ∷ after → Plays bytes mid (Ok tt) new → HasPlayed all after (played + 1) old new
played_more all rest bytes after played old mid new h one is plays = record {
  done = h.done ++ bytes ∷ [];
  lines = lines_from all rest bytes after h.done h.lines one is ∙ sym (append_assoc h.done (bytes ∷ []) (lines_of after));
  count = omega (arith, length-append h.done (bytes ∷ []), h.count);
  fits = omega (arith, h.fits, ap length is, length-append bytes (10 ∷ after));
  replayed = AreReplayed-push h.done old mid new bytes h.replayed plays;
}

-- all of them
pub played_all : (all rest : List ℕ) (played : ℕ) (old new : Tallied) → HasPlayed all rest played old new → IsOneLine rest
    → AreReplayed old (lines_of all) new
played_all all rest played old new h one =
    let same : h.done ≡ lines_of all = sym (h.lines ∙ ap (λ ls. h.done ++ ls) (lines_of-bytes rest one) ∙ append-nil h.done) in
    subst (λ records. AreReplayed old records new) same h.replayed

-- all before one that was not played
pub played_until : (all rest bytes after : List ℕ) (played : ℕ) (why : Unplayed) (old mid new : Tallied) → HasPlayed all rest played old mid
    → IsOneLine bytes → rest ≡ bytes ++ 10 ∷ after → Plays bytes mid (Err why) new
    → IsHalted old (lines_of all) (record { played = played; why = why }) new
played_until all rest bytes after played why old mid new h one is plays = record {
  done = h.done;
  bytes = bytes;
  rest = lines_of after;
  parts = lines_from all rest bytes after h.done h.lines one is;
  count = h.count;
  mid = mid;
  played = h.replayed;
  halted = plays;
}
