use Rattle.std.proofs.Common.{◌≡◌, ◌+◌, ℕ, List, set, get_or, ap, sym, refl, ◌∙◌, subst, arith}
use lib.Seq.{paste}
use Rattle.judy_bitmap.specs.ByteSets.{members, with_byte}
use Rattle.judy_model.specs.Contents.{word_order, with_entry}
use Rattle.judy_branch.specs.declared.shape.Shape.TheVariants.{Bitmap}
use Rattle.judy_branch.specs.Children.{bitmap_in, children_in}
use Rattle.judy_branch.specs.Written.{BranchBecomes}
use Rattle.judy_branch.proofs.Taking.{cut_bitmap}
use Rattle.judy_branch.proofs.Becoming.{bitmap-inserted}
use Rattle.judy_branch.proofs.bitmap.insert.Goals as goal

pub returns : goal.returns
returns c =
    let f : List ℕ = c.args.words.now in
    let g : List ℕ = c.open_gap.new.words in
    let h : List ℕ = c.write_member.new.words in
    let bw : List ℕ = bitmap_in h in
    let before : bitmap_in g ≡ bitmap_in f = sym (cut_bitmap g (7 + c.missing-place.result) (omega arith)) ∙ ap bitmap_in c.open_gap.ensures.before
    ∙ cut_bitmap f (7 + c.missing-place.result) (omega arith) in
    let bits : members bw ≡ with_byte (members (bitmap_in f)) c.args.byte = c.write_member.ensures.bits
    ∙ ap (λ l. with_byte (members l) c.args.byte) before in
    let all : h ≡ paste g 3 bw 4 = c.write_member.ensures.others in
    subst (λ l. BranchBecomes Bitmap f (set l 0 (get_or f 0 0 + 1)) (with_entry word_order (children_in Bitmap f) c.args.byte c.args.child)) (sym all)
    (bitmap-inserted f g bw c.args.byte c.missing-place.result c.args.child c.requires.laid c.requires.few c.requires.room
    c.ranges.byte.fits c.requires.child c.missing-place.ensures.place c.open_gap.ensures refl bits)
