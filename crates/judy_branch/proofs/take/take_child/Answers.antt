use Rattle.std.proofs.Common.{◌≡◌, ◌≢◌, ◌%◌, ◌∷◌, [], ℕ, List, get_or, length, refl, ap, sym, ◌∙◌, subst, arith}
use Rattle.std.specs.Prelude.{IsTrue}
use Rattle.judy_refs.specs.References.{is_reference}
use Rattle.judy_arena.specs.Frame.{Frame}
use Rattle.judy_model.specs.Contents.{word_order, has_key, without_key}
use Rattle.judy_branch.specs.Children.{IsLaid, count_in, children_in}
use Rattle.judy_branch.specs.Branch.{branch_number}
use Rattle.judy_arena.proofs.lemmas.BlockLaws.{put-then}
use Rattle.judy_branch.proofs.Taking.{only-child}
use Rattle.judy_branch.proofs.Branches.{is-some, has-shape}
use Rattle.judy_branch.proofs.Changes.{own-shaped, own-live, own-children, own-frame, least-two, used-five}
use Rattle.judy_branch.proofs.Changes.{only-reference, gone-frame}
use Rattle.judy_branch.proofs.Removed.{Settled, removed, settled}
use Rattle.judy_branch.proofs.take.take_child.Goals as goal

pub read_shape-shape-requires : goal.read_shape-shape-requires
read_shape-shape-requires c = has-shape c.args.arena.now.blocks c.args.branch c.requires.branch

pub block-own-requires : goal.block-own-requires
block-own-requires c = is-some c.args.arena.now.blocks c.args.branch c.requires.branch

pub words_mut-requires : goal.words_mut-requires
words_mut-requires c = own-live c.args.arena.now.blocks c.args.branch c.block-own.result c.read_shape-shape.result
    c.requires.branch c.read_shape-shape.ensures c.block-own.ensures

pub remove_with-left-requires-clause-laid : goal.remove_with-left-requires-clause-laid
remove_with-left-requires-clause-laid c = subst (IsLaid c.read_shape-shape.result) (sym c.words_mut.ensures.value)
    (own-shaped c.args.arena.now.blocks c.args.branch c.block-own.result c.read_shape-shape.result c.requires.branch
    c.read_shape-shape.ensures c.block-own.ensures).laid

pub remove_with-left-requires-clause-there : goal.remove_with-left-requires-clause-there
remove_with-left-requires-clause-there c =
    ap (λ l. has_key word_order (children_in c.read_shape-shape.result l) c.args.byte) c.words_mut.ensures.value
    ∙ ap (λ es. has_key word_order es c.args.byte)
    (sym (own-children c.args.arena.now.blocks c.args.branch c.block-own.result c.read_shape-shape.result c.requires.branch
    c.read_shape-shape.ensures c.block-own.ensures)) ∙ c.requires.there

pub get-requires : goal.get-requires
get-requires c =
    let k = removed c.requires.branch c.read_shape-shape.ensures c.block-own.ensures c.requires.there c.words_mut.ensures.value
    c.remove_with-left.ensures.built c.remove_with-left.auto.words in
    let one : count_in c.remove_with-left.new.words ≡ 1 = sym c.remove_with-left.ensures.count ∙ c.if-left-eq1.true in
    let five = used-five c.read_shape-shape.result (count_in c.remove_with-left.new.words) (omega (arith, one)) in
    omega (arith, five, k.less.laid.room, ap length k.at)

pub known-only-requires : goal.known-only-requires
known-only-requires c =
    let k = removed c.requires.branch c.read_shape-shape.ensures c.block-own.ensures c.requires.there c.words_mut.ensures.value
    c.remove_with-left.ensures.built c.remove_with-left.auto.words in
    let one : count_in c.remove_with-left.new.words ≡ 1 = sym c.remove_with-left.ensures.count ∙ c.if-left-eq1.true in
    subst (λ w. IsTrue (is_reference w)) (sym (c.get.ensures ∙ ap (λ l. get_or l 4 0) k.at))
    (only-reference c.read_shape-shape.result c.remove_with-left.new.words k.less.laid one (omega (arith, one, k.fewer, k.shaped.least)))

pub release-requires : goal.release-requires
release-requires c =
    let k = removed c.requires.branch c.read_shape-shape.ensures c.block-own.ensures c.requires.there c.words_mut.ensures.value
    c.remove_with-left.ensures.built c.remove_with-left.auto.words in
    omega (arith, k.live, k.size, ap length k.at)

pub returns-then-left-eq1-clause-taken : goal.returns-then-left-eq1-clause-taken
returns-then-left-eq1-clause-taken c =
    let k = removed c.requires.branch c.read_shape-shape.ensures c.block-own.ensures c.requires.there c.words_mut.ensures.value
    c.remove_with-left.ensures.built c.remove_with-left.auto.words in
    let g : List ℕ = c.remove_with-left.new.words in
    let one : count_in g ≡ 1 = sym c.remove_with-left.ensures.count ∙ c.if-left-eq1.true in
    let last = (only-child c.read_shape-shape.result g k.less.laid one (omega (arith, one, k.fewer, k.shaped.least))).1 in
    let word : get_or g 4 0 ≡ c.known-only.result = sym (c.get.ensures ∙ ap (λ l. get_or l 4 0) k.at) ∙ sym c.known-only.ensures in
    record {
      last = get_or g 3 0 % 256;
      only = ap (λ es. without_key word_order es c.args.byte) k.own ∙ sym k.less.children ∙ last
          ∙ ap (λ w. (get_or c.remove_with-left.new.words 3 0 % 256, w) ∷ []) word;
      frame = gone-frame c.args.arena.now.blocks _ c.release.new.self.blocks c.args.branch c.block-own.result _ c.block-own.ensures refl
          c.release.ensures.blocks;
    }

pub words_mut-requires-2 : goal.words_mut-requires-2
words_mut-requires-2 c =
    let k = removed c.requires.branch c.read_shape-shape.ensures c.block-own.ensures c.requires.there c.words_mut.ensures.value
    c.remove_with-left.ensures.built c.remove_with-left.auto.words in
    omega (arith, k.live, k.size, ap length k.at)

pub settle-target-requires-clause-laid : goal.settle-target-requires-clause-laid
settle-target-requires-clause-laid c =
    let k = removed c.requires.branch c.read_shape-shape.ensures c.block-own.ensures c.requires.there c.words_mut.ensures.value
    c.remove_with-left.ensures.built c.remove_with-left.auto.words in
    subst (IsLaid c.read_shape-shape.result) (sym (c.words_mut-2.ensures.value ∙ k.at)) k.less.laid

pub settle-target-requires-clause-some : goal.settle-target-requires-clause-some
settle-target-requires-clause-some c =
    let k = removed c.requires.branch c.read_shape-shape.ensures c.block-own.ensures c.requires.there c.words_mut.ensures.value
    c.remove_with-left.ensures.built c.remove_with-left.auto.words in
    let two_s = least-two c.read_shape-shape.result in
    let not_one : count_in c.remove_with-left.new.words ≢ 1 = λ e. c.if-left-eq1.false (c.remove_with-left.ensures.count ∙ e) in
    omega (arith, two_s, not_one, k.fewer, k.shaped.least, ap count_in (c.words_mut-2.ensures.value ∙ k.at))

pub settle-target-requires-clause-near : goal.settle-target-requires-clause-near
settle-target-requires-clause-near c =
    let k = removed c.requires.branch c.read_shape-shape.ensures c.block-own.ensures c.requires.there c.words_mut.ensures.value
    c.remove_with-left.ensures.built c.remove_with-left.auto.words in
    omega (arith, k.fewer, k.shaped.least, ap count_in (c.words_mut-2.ensures.value ∙ k.at))

settled_as : (c : goal.After-size) → Settled c.args.arena.now.blocks c.args.branch c.block-own.result c.remove_with-left.new.words
    c.args.byte c.args.population c.settle-target.result c.settle-target.new.words c.size.result
settled_as c =
    let k = removed c.requires.branch c.read_shape-shape.ensures c.block-own.ensures c.requires.there c.words_mut.ensures.value
    c.remove_with-left.ensures.built c.remove_with-left.auto.words in
    settled k c.remove_with-left.ensures.count c.words_mut-2.ensures.value c.settle-target.ensures.moved
    c.settle-target.ensures.least c.settle-target.auto.words c.size.ensures

pub cut-requires-clause-some : goal.cut-requires-clause-some
cut-requires-clause-some c = (settled_as c).some

pub cut-requires-clause-within : goal.cut-requires-clause-within
cut-requires-clause-within c = (settled_as c).within

pub cut-requires-clause-sized : goal.cut-requires-clause-sized
cut-requires-clause-sized c = (settled_as c).sized

pub returns-clause-taken : goal.returns-clause-taken
returns-clause-taken c =
    let k = removed c.requires.branch c.read_shape-shape.ensures c.block-own.ensures c.requires.there c.words_mut.ensures.value
    c.remove_with-left.ensures.built c.remove_with-left.auto.words in
    let done = settled k c.remove_with-left.ensures.count c.words_mut-2.ensures.value c.settle-target.ensures.moved
    c.settle-target.ensures.least c.settle-target.auto.words c.size.ensures in
    record {
      branch = done.taken c.cut.new.arena.blocks c.refer.result c.cut.ensures.words c.refer.ensures.shape c.refer.ensures.block;
      frame = subst (λ k. Frame c.args.arena.now.blocks c.cut.new.arena.blocks (branch_number c.args.branch ∷ []) (k ∷ []))
          (sym c.block-own.ensures ∙ sym c.refer.ensures.block)
          (own-frame c.args.arena.now.blocks c.args.branch c.block-own.result c.read_shape-shape.result c.requires.branch
          c.read_shape-shape.ensures c.block-own.ensures c.cut.new.arena.blocks _
          (put-then c.args.arena.now.blocks _ _ c.block-own.result _ _ (put-then c.args.arena.now.blocks _ _ c.block-own.result _ _ refl refl)
          c.cut.ensures.only));
    }
