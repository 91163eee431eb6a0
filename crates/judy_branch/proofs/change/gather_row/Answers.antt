use Rattle.std.proofs.Common.{◌≡◌, ◌<◌, ◌∷◌, ◌++◌, [], take, length, get_or, ap, sym, ◌∙◌, ◌%◌, arith}
use Rattle.std.proofs.Math.Seq.{take-length}
use Rattle.std.proofs.lemmas.List.{take_more, take_more_set}
use Rattle.std.proofs.lemmas.Option.{get_or_from_slice_get}
use Rattle.judy_model.specs.Contents.{Entries}
use Rattle.judy_branch.specs.declared.shape.Shape.TheVariants.{Linear}
use Rattle.judy_branch.specs.Children.{children_in}
use Rattle.judy_branch.proofs.Branches.{child-reference}
use Rattle.judy_branch.proofs.Lists.{laid-count}
use Rattle.judy_branch.proofs.Lasts.{nth-sound}
use Rattle.judy_branch.proofs.change.gather_row.Goals as goal

pub nth-byte-requires-clause-within : goal.nth-byte-requires-clause-within
nth-byte-requires-clause-within c =
    let n = laid-count Linear c.args.words.now c.requires.laid in
    let t = c.loop-at-test.true in
    omega arith

pub known-requires : goal.known-requires
known-requires c =
    let n = laid-count Linear c.args.words.now c.requires.laid in
    let t = c.loop-at-test.true in
    child-reference c.nth-byte.result.1 (nth-sound (children_in Linear c.args.words.now) c.loop-at.at
    c.nth-byte.result.0 c.nth-byte.result.1 c.requires.laid.sound (omega arith) c.nth-byte.ensures)

pub loop-at-preserved : goal.loop-at-preserved
loop-at-preserved c =
    let es : Entries _ = children_in Linear c.args.words.now in
    let n = laid-count Linear c.args.words.now c.requires.laid in
    let t = c.loop-at-test.true in
    let r = c.requires.room in
    let l = c.loop-at.auto.list in
    let inside : c.loop-at.at < length es = omega arith in
    let fits : c.loop-at.at < length c.loop-at.list = omega arith in
    let word : c.known.result ≡ c.nth-byte.result.1 = c.known.ensures in
    take_more_set c.loop-at.list c.loop-at.at (c.nth-byte.result.0, c.known.result) fits
    ∙ ap (λ l. l ++ (c.nth-byte.result.0, c.known.result) ∷ []) c.loop-at.invariant
    ∙ ap (λ w. take c.loop-at.at es ++ (c.nth-byte.result.0, w) ∷ []) word
    ∙ ap (λ e. take c.loop-at.at es ++ e ∷ []) (sym (get_or_from_slice_get es c.loop-at.at c.nth-byte.result (0, 0) c.nth-byte.ensures))
    ∙ sym (take_more es c.loop-at.at (0, 0) inside)

pub returns-clause-all : goal.returns-clause-all
returns-clause-all c =
    let es : Entries _ = children_in Linear c.args.words.now in
    let n = laid-count Linear c.args.words.now c.requires.laid in
    let t = c.loop-at-test.false in
    let e = c.loop-at.auto.at-end in
    let end : c.loop-at.at ≡ get_or c.args.words.now 0 0 % 512 = omega arith in
    ap (λ k. take k c.loop-at.list) (sym end) ∙ c.loop-at.invariant ∙ ap (λ k. take k es) (end ∙ sym n) ∙ take-length es
