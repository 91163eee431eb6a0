use Rattle.std.proofs.Common.{◌≡◌, ◌+◌, ◌≤◌, true, ◌++◌, ℕ, length, take, drop, replicate, ap, sym, ◌∙◌, subst, arith}
use Rattle.std.specs.FinMap.{is_sorted}
use Rattle.judy_model.specs.Contents.{Entries, word_order, pairs}
use Rattle.judy_leaf.specs.Laws.{ContentIsSoundIn}
use Rattle.judy_leaf.specs.Views.{of_leaf}
use Rattle.judy_leaf.specs.Calls.{Makes}
use Rattle.judy_leaf.proofs.Gathered.{in-front, one-stretch, rezip, stretched, stretch-rises, zero-value}
use Rattle.judy_leaf.proofs.lemmas.OwnBlock.{is_sound}
use Rattle.judy_leaf.proofs.leaf.part.Goals as goal

pub make-requires-clause-rising : goal.make-requires-clause-rising
make-requires-clause-rising c =
    let l : Entries ℕ = of_leaf c.open-leaf.result in
    let within = subst (λ l. c.args.from + c.args.count ≤ length l) (sym c.open-leaf.ensures) c.requires.within in
    let ks = in-front (λ (e : ℕ × ℕ). e.0) l c.args.from c.args.count (replicate 31 0) c.gather.new.keys c.requires.few
    within c.gather.ensures.keys in
    let vs = in-front (λ (e : ℕ × ℕ). e.1) l c.args.from c.args.count (replicate 31 0) c.gather.new.vals c.requires.few
    within c.gather.ensures.values in
    let sound = subst (ContentIsSoundIn c.args.values) (sym c.open-leaf.ensures)
    (is_sound c.args.values c.args.arena.now.blocks c.args.leaf c.requires.leaf) in
    let both : pairs (take c.args.count (c.gather.new.keys ++ drop c.args.count (replicate 31 0)))
    (take c.args.count (c.gather.new.vals ++ drop c.args.count (replicate 31 0))) ≡ take c.args.count (drop c.args.from l) =
    (λ i. pairs (ks i) (vs i)) ∙ rezip (take c.args.count (drop c.args.from l)) in
    subst (λ m. is_sorted word_order m ≡ true) (sym both) (stretch-rises c.args.from c.args.count l sound.keys.0)

pub returns-clause-making : goal.returns-clause-making
returns-clause-making c =
    let l : Entries ℕ = of_leaf c.open-leaf.result in
    let within = subst (λ l. c.args.from + c.args.count ≤ length l) (sym c.open-leaf.ensures) c.requires.within in
    let ks = in-front (λ (e : ℕ × ℕ). e.0) l c.args.from c.args.count (replicate 31 0) c.gather.new.keys c.requires.few
    within c.gather.ensures.keys in
    let vs = in-front (λ (e : ℕ × ℕ). e.1) l c.args.from c.args.count (replicate 31 0) c.gather.new.vals c.requires.few
    within c.gather.ensures.values in
    let sound = subst (ContentIsSoundIn c.args.values) (sym c.open-leaf.ensures)
    (is_sound c.args.values c.args.arena.now.blocks c.args.leaf c.requires.leaf) in
    subst (λ m. Makes c.args.values c.args.arena.now c.make.new.arena m c.make.result)
    (stretched c.args.values l c.args.from c.args.count
    (take c.args.count (c.gather.new.keys ++ drop c.args.count (replicate 31 0)))
    (take c.args.count (c.gather.new.vals ++ drop c.args.count (replicate 31 0))) sound.set ks vs
    ∙ ap (λ l. take c.args.count (drop c.args.from l)) c.open-leaf.ensures)
    c.make.ensures.making

pub single-requires : goal.single-requires
single-requires c = record {
  plain = λ none.
      let l : Entries ℕ = of_leaf c.open-leaf.result in
      let sound = subst (ContentIsSoundIn c.args.values) (sym c.open-leaf.ensures)
      (is_sound c.args.values c.args.arena.now.blocks c.args.leaf c.requires.leaf) in
      let within = subst (λ l. c.args.from + c.args.count ≤ length l) (sym c.open-leaf.ensures) c.requires.within in
      let some = c.requires.some in
      ap (λ (e : ℕ × ℕ). e.1) c.entry_at-key.ensures ∙ zero-value l c.args.from (sound.set none) (omega arith);
}

pub returns-then-count-eq1-clause-making : goal.returns-then-count-eq1-clause-making
returns-then-count-eq1-clause-making c =
    let l : Entries ℕ = of_leaf c.open-leaf.result in
    let within = subst (λ l. c.args.from + c.args.count ≤ length l) (sym c.open-leaf.ensures) c.requires.within in
    let some = c.requires.some in
    subst (λ m. Makes c.args.values c.args.arena.now c.single.new.arena m c.single.result)
    (one-stretch l c.args.from c.entry_at-key.result.0 c.entry_at-key.result.1 (omega arith)
    (ap (λ (e : ℕ × ℕ). e.0) c.entry_at-key.ensures) (ap (λ (e : ℕ × ℕ). e.1) c.entry_at-key.ensures)
    ∙ ap (λ n. take n (drop c.args.from l)) (sym c.if-count-eq1.true)
    ∙ ap (λ l. take c.args.count (drop c.args.from l)) c.open-leaf.ensures)
    c.single.ensures.making
