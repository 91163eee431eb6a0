use Rattle.std.proofs.Common.{◌≡◌, ◌+◌, ◌-◌, ℕ, List, set, get_or, ap, sym, refl, ◌∙◌, subst, arith}
use lib.Seq.{paste}
use Rattle.judy_bitmap.specs.ByteSets.{members, without_byte}
use Rattle.judy_model.specs.Contents.{word_order, without_key}
use Rattle.judy_branch.specs.declared.shape.Shape.TheVariants.{Bitmap}
use Rattle.judy_branch.specs.Children.{bitmap_in, children_in}
use Rattle.judy_branch.specs.Written.{BranchBecomes}
use Rattle.judy_branch.proofs.Taking.{cut_bitmap}
use Rattle.judy_branch.proofs.Becoming.{bitmap-removed}
use Rattle.judy_branch.proofs.bitmap.remove.Goals as goal

pub returns : goal.returns
returns c =
    let f : List ℕ = c.args.words.now in
    let g : List ℕ = c.close_gap.new.words in
    let h : List ℕ = c.clear_member.new.words in
    let bw : List ℕ = bitmap_in h in
    let before : bitmap_in g ≡ bitmap_in f = sym (cut_bitmap g (7 + c.there-place.result) (omega arith)) ∙ ap bitmap_in c.close_gap.ensures.before
    ∙ cut_bitmap f (7 + c.there-place.result) (omega arith) in
    let bits : members bw ≡ without_byte (members (bitmap_in f)) c.args.byte = c.clear_member.ensures.bits
    ∙ ap (λ l. without_byte (members l) c.args.byte) before in
    let all : h ≡ paste g 3 bw 4 = c.clear_member.ensures.others in
    subst (λ l. BranchBecomes Bitmap f (set l 0 (get_or f 0 0 - 1)) (without_key word_order (children_in Bitmap f) c.args.byte)) (sym all)
    (bitmap-removed f g bw c.args.byte c.there-place.result c.requires.laid c.ranges.byte.fits c.there-place.ensures.place c.close_gap.ensures refl bits)
