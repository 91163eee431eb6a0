use Rattle.std.proofs.Common.{◌≡◌, ◌+◌, ◌<◌, ℕ, ◌∷◌, ◌++◌, [], length, nat_lt, ap, sym, ◌∙◌, arith, length-append}
use Rattle.std.specs.Prelude.{filter}
use Rattle.std.proofs.lemmas.List.{take_more_set}
use Rattle.judy_model.specs.Contents.{Entries}
use Rattle.judy_branch.specs.Children.{children_in}
use Rattle.judy_branch.proofs.Branches.{found-reference, child-reference}
use Rattle.judy_branch.proofs.Lists.{none-below, below-more, below-same, all-below, few-below, laid-count}
use Rattle.judy_branch.proofs.change.gather_each.Goals as goal

pub loop-at-init : goal.loop-at-init
loop-at-init c =
    let e = none-below (children_in c.args.shape c.args.words.now) in
    record { count = sym (ap length e); all = sym e }

pub known-requires : goal.known-requires
known-requires c = child-reference c.in-Some.word (found-reference c.args.shape c.args.words.now c.loop-at.at c.in-Some.word
    c.requires.laid (sym c.child_in.ensures ∙ c.in-Some.is))

pub bounds-list-count : goal.bounds-list-count
bounds-list-count c =
    let es : Entries ℕ = children_in c.args.shape c.args.words.now in
    let more = below-more es c.loop-at.at c.in-Some.word c.requires.laid.rising (sym c.child_in.ensures ∙ c.in-Some.is) in
    let few = few-below es (c.loop-at.at + 1) in
    let k = c.loop-at.invariant.count in
    let n = laid-count c.args.shape c.args.words.now c.requires.laid in
    let r = c.requires.room in
    let l = c.loop-at.auto.list in
    omega (arith, ap length more, length-append (filter (λ e. nat_lt e.0 c.loop-at.at) es) ((c.loop-at.at, c.in-Some.word) ∷ []))

pub loop-at-preserved : goal.loop-at-preserved
loop-at-preserved c =
    let es : Entries ℕ = children_in c.args.shape c.args.words.now in
    let more = below-more es c.loop-at.at c.in-Some.word c.requires.laid.rising (sym c.child_in.ensures ∙ c.in-Some.is) in
    let few = few-below es (c.loop-at.at + 1) in
    let k = c.loop-at.invariant.count in
    let n = laid-count c.args.shape c.args.words.now c.requires.laid in
    let r = c.requires.room in
    let l = c.loop-at.auto.list in
    let total : length (filter (λ e. nat_lt e.0 (c.loop-at.at + 1)) es) ≡ length (filter (λ e. nat_lt e.0 c.loop-at.at) es) + 1 =
    ap length more ∙ length-append (filter (λ e. nat_lt e.0 c.loop-at.at) es) ((c.loop-at.at, c.in-Some.word) ∷ []) in
    let fits : c.loop-at.count < length c.loop-at.list = omega arith in
    let word : c.known.result ≡ c.in-Some.word = c.known.ensures in
    record {
      count = ap (λ n. n + 1) k ∙ sym total;
      all =
          take_more_set c.loop-at.list c.loop-at.count (c.loop-at.at, c.known.result) fits
          ∙ ap (λ l. l ++ (c.loop-at.at, c.known.result) ∷ []) c.loop-at.invariant.all
          ∙ ap (λ w. filter (λ e. nat_lt e.0 c.loop-at.at) es ++ (c.loop-at.at, w) ∷ []) word ∙ sym more;
    }

pub loop-at-preserved-in_default : goal.loop-at-preserved-in_default
loop-at-preserved-in_default c =
    let same = below-same (children_in c.args.shape c.args.words.now) c.loop-at.at (sym c.child_in.ensures ∙ c.in_default.is) in
    record { count = c.loop-at.invariant.count ∙ sym (ap length same); all = c.loop-at.invariant.all ∙ sym same }

pub returns-clause-count : goal.returns-clause-count
returns-clause-count c =
    let es : Entries ℕ = children_in c.args.shape c.args.words.now in
    let t = c.loop-at-test.false in
    let n = c.loop-at.auto.at-end in
    let end : c.loop-at.at ≡ 256 = omega arith in
    c.loop-at.invariant.count ∙ ap (λ k. length (filter (λ e. nat_lt e.0 k) es)) end
    ∙ ap length (all-below es c.requires.laid.sound) ∙ laid-count c.args.shape c.args.words.now c.requires.laid

pub returns-clause-all : goal.returns-clause-all
returns-clause-all c =
    let es : Entries ℕ = children_in c.args.shape c.args.words.now in
    let t = c.loop-at-test.false in
    let n = c.loop-at.auto.at-end in
    let end : c.loop-at.at ≡ 256 = omega arith in
    c.loop-at.invariant.all ∙ ap (λ k. filter (λ e. nat_lt e.0 k) es) end ∙ all-below es c.requires.laid.sound
