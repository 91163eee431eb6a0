use Rattle.std.proofs.Common.{◌≡◌, ◌≤◌, ℕ, zero, suc, List, [], ◌∷◌, length, map, None, refl, arith}
use Rattle.std.specs.Prelude.{slice_get}
use Rattle.std.proofs.lemmas.List.{length-map}
use Rattle.std.proofs.lemmas.Option.{slice_get-map}
use Rattle.judy_leaf.specs.Bytes.{bitmap_entries}
use Rattle.judy_leaf.proofs.BitmapLaws.{entries-keys, bits-length, bits-few}
use Rattle.judy_leaf.proofs.bitmap.Bits.nth.Goals as goal

past : (xs : List ℕ) (i : ℕ) → length xs ≤ i → None ≡ slice_get xs i
past [] zero h = refl
past [] (suc i) h = refl
past (x ∷ xs) zero h = absurd (omega arith)
past (x ∷ xs) (suc i) h = past xs i (omega arith)

pub returns-then-rank-ge256 : goal.returns-then-rank-ge256
returns-then-rank-ge256 c =
    let e = length-map (bitmap_entries c.args.self.values c.args.self.words.now) (λ (e : ℕ × ℕ). e.0) in
    past (map (λ (e : ℕ × ℕ). e.0) (bitmap_entries c.args.self.values c.args.self.words.now)) c.args.rank
    (omega (
      arith,
      length-map (bitmap_entries c.args.self.values c.args.self.words.now) (λ (e : ℕ × ℕ). e.0),
      bits-length c.args.self.values
          c.args.self.words.now c.args.self.sound,
      bits-few c.args.self.values c.args.self.words.now c.args.self.sound,
      c.if-rank-ge256.true,
    ))

pub returns-in-Some : goal.returns-in-Some
returns-in-Some c =
    let words = c.args.self.words.now in
    rw (entries-keys c.args.self.values words c.args.self.sound, slice_get-map, ← c.bits_of.ensures, ← c.in-Some.ensures.item, c.from.ensures) refl

pub returns-in-None : goal.returns-in-None
returns-in-None c =
    let words = c.args.self.words.now in
    rw (entries-keys c.args.self.values words c.args.self.sound, slice_get-map, ← c.bits_of.ensures, ← c.in-None.ensures.item) refl
