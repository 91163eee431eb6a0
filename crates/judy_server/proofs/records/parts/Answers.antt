use Rattle.std.proofs.Common.{◌<◌, ℕ, List, Some, length, drop, sym, ap, ◌∙◌, arith, eq-eqb, get_or}
use Rattle.judy_server.proofs.Replaying.{cut_at, no_cut}
use Rattle.judy_server.proofs.records.parts.Goals as goal

pub returns-then-b-eq32 : goal.returns-then-b-eq32
returns-then-b-eq32 c =
    let at : ℕ = c.loop-at.at in
    let all : List ℕ = c.args.bytes.now in
    let within : at < length all = omega arith in
    cut_at all at within (eq-eqb (get_or all at 0) 32 c.if-b-eq32.true) c.loop-at.invariant
    ∙ ap (λ name. Some (name, drop 1 (drop at all))) (sym c.split_at.ensures.front)
    ∙ ap (λ line. Some (c.split_at.result.0.now, line))
    (ap (drop 1) (sym c.split_at.ensures.back) ∙ sym c.split_at-then-b-eq32.ensures.back)

pub returns : goal.returns
returns c = no_cut c.args.bytes.now (λ k lt. c.loop-at.invariant k (omega arith))
