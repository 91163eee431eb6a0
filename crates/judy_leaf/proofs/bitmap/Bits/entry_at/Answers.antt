use Rattle.std.proofs.Common.{ℕ, sym, ◌∙◌, arith}
use Rattle.std.proofs.lemmas.List.{length-map}
use Rattle.std.proofs.lemmas.Option.{none-some, slice_get-get_or}
use Rattle.judy_leaf.specs.Keys.{keys_of}
use Rattle.judy_leaf.specs.Views.{of_bits}
use Rattle.judy_leaf.proofs.BitmapLaws.{bits-length}
use Rattle.judy_leaf.proofs.Founds.{entry-at}
use Rattle.judy_leaf.proofs.bitmap.Bits.entry_at.Goals as goal

pub returns : goal.returns
returns c = entry-at (of_bits c.args.self) c.args.rank c.in-Some.key c.value_at.result (sym c.nth.ensures ∙ c.in-Some.is) c.value_at.ensures

pub unreachable-requires : goal.unreachable-requires
unreachable-requires c =
    let n = length-map (of_bits c.args.self) (λ (e : ℕ × ℕ). e.0) in
    let m = bits-length c.args.self.values c.args.self.words.now c.args.self.sound in
    none-some _ (sym c.in-None.is ∙ c.nth.ensures ∙ slice_get-get_or (keys_of (of_bits c.args.self)) c.args.rank 0 (omega (arith, n, m, c.requires)))
