use Rattle.std.proofs.Common.{◌≡◌, ◌+◌, ◌-◌, ◌∷◌, ◌++◌, ◌∙◌, drop, ap, arith, append-nil}
use Rattle.std.specs.Fmt.{decimal}
use Rattle.std.proofs.lemmas.Fmt.{length-decimal-le}
use Rattle.std.proofs.lemmas.List.{drop-set, drop_all}
use Rattle.judy_model.proofs.lists.spaced.Goals as goal

pub write_digits-space-requires : goal.write_digits-space-requires
write_digits-space-requires c = (omega (arith, length-decimal-le 20 c.args.number (omega arith) (omega arith) (omega arith)), omega arith)

pub overflow_sub-space : goal.overflow_sub-space
overflow_sub-space c = omega (arith, length-decimal-le 20 c.args.number (omega arith) (omega arith) (omega arith))

pub returns-clause-text : goal.returns-clause-text
returns-clause-text c =
    let w = c.write_digits-space in
    let long = length-decimal-le 20 c.args.number (omega arith) (omega arith) (omega arith) in
    let next : w.result - 1 + 1 ≡ w.result = omega (arith, w.ensures.start, long) in
    let over = drop_all 21 c.args.room.now (omega arith) in
    let digits : drop w.result w.new.buf ≡ decimal c.args.number =
    w.ensures.written ∙ ap (λ ds. decimal c.args.number ++ ds) over ∙ append-nil (decimal c.args.number) in
    let spaced = drop-set w.new.buf (w.result - 1) 32 (omega (arith, w.ensures.start, long)) ∙ ap (λ ds. 32 ∷ ds) (ap (λ k. drop k w.new.buf) next ∙ digits) in
    c.split_at.ensures.back ∙ spaced
