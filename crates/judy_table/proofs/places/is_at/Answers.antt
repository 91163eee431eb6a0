use Rattle.std.proofs.Common.{◌≡◌, ◌∙◌, ◌++◌, sym, ap, drop, length, take, true, rules}
use Rattle.std.proofs.lemmas.Bool.Decides.{Decides-eqb}
use Rattle.std.proofs.lemmas.List.{take-append-drop}
use Rattle.std.proofs.lemmas.Slice.Eq.{starts_is}
use Rattle.judy_table.proofs.places.is_at.Goals as goal

pub returns : goal.returns
returns c = λ _.
    let from = c.split_at.result.1.now in
    let starts : c.starts_with.result ≡ true = search rules in
    let cut = (starts_is Decides-eqb from c.args.word.now c.starts_with.result c.starts_with.ensures.value).0 starts in
    let whole = sym (take-append-drop c.args.at c.args.text.now) in
    (drop (length c.args.word.now) from, whole ∙ ap (λ rest. take c.args.at c.args.text.now ++ rest) (sym c.split_at.ensures.back ∙ cut))
