use Rattle.std.proofs.Common.{◌≡◌, ℕ, ◌+◌, ◌*◌, ◌≤◌, List, ◌++◌, take, drop, length, ap, sym, subst, ◌∙◌, arith, length-append, length-drop}
use Rattle.std.specs.List.{insert}
use Rattle.std.proofs.lemmas.List.{length-take-le}
use Rattle.std.proofs.lemmas.List.Edits.{length-insert}
use lib.Seq.{take_at}
use Rattle.judy_leaf.specs.Linear.{leaf_count, linear_size}
use Rattle.judy_leaf.proofs.LinearLaws.{inserted-map, inserted-set}
use Rattle.judy_leaf.proofs.linear.insert.Goals as goal

pub returns-then-values : goal.returns-then-values
returns-then-values c =
    let ws : List ℕ = c.args.words.now in let u = c.size-used.result in
    let front : List ℕ = insert (take u ws) (1 + leaf_count ws + c.args.place) c.args.value in
    let rest : List ℕ = drop (u + 1) ws in
    let size : u ≡ 1 + 2 * leaf_count ws = c.size-used.ensures ∙ ap (λ v. linear_size v (leaf_count ws)) c.if-values.true in
    let more : 1 + 2 * (leaf_count ws + 1) ≤ length ws = subst (λ v. linear_size v (leaf_count ws + 1) ≤ length ws) c.if-values.true c.requires.room in
    let within : c.args.place ≤ leaf_count ws = c.requires.place.0 in
    let whole : length (take u ws) ≡ u = length-take-le u ws (omega (arith, size, more)) in
    let long : length front ≡ u + 1 = length-insert (take u ws) (1 + leaf_count ws + c.args.place) c.args.value (omega (arith, whole, size, within))
    ∙ ap (λ n. n + 1) whole in
    let same : length (front ++ rest) ≡ length ws = omega (arith, length-append front rest, long, length-drop (u + 1) ws, size, more) in
    let one : take (u + 1) (front ++ rest) ≡ front = take_at front rest (u + 1) long in
    let two : u + 2 ≡ u + 1 + 1 = omega arith in
    let r = inserted-map c.args.values ws c.requires.leaf c.args.place c.args.key u c.size-used.ensures c.args.value (front ++ rest) c.open_two.new.words
    c.if-values.true c.requires.place c.ranges.key.fits c.ranges.value.fits c.requires.few c.requires.room same (c.open_two.auto.words ∙ sym same) one
    (ap (λ n. take n c.open_two.new.words) (sym two) ∙ c.open_two.ensures ∙ ap (λ l. insert l (1 + c.args.place) c.args.key) (sym one)) in
    record { leaf = r.0; entries = r.1; count = r.2 }

pub returns : goal.returns
returns c =
    let r = inserted-set c.args.values c.args.words.now c.requires.leaf c.args.place c.args.key c.size-used.result
    c.size-used.ensures c.args.value c.open.new.words
    c.if-values.false c.requires.plain c.requires.place c.ranges.key.fits c.requires.few c.requires.room c.open.auto.words c.open.ensures in
    record { leaf = r.0; entries = r.1; count = r.2 }
