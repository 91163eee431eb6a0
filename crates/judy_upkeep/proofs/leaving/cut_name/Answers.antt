use Rattle.std.proofs.Common.{◌≡◌, ◌<◌, ℕ, zero, suc, true, ◌==◌, List, [], ◌∷◌, length, drop, get_or, append-nil, ap, sym, ◌∙◌, inr, arith}
use Rattle.std.proofs.lemmas.Bool.Decides.{nat_tests}
use Rattle.judy_upkeep.proofs.leaving.cut_name.Goals as goal

-- src/leaving.rt:23:1
pub returns-in-None-clause-cut : goal.returns-in-None-clause-cut
returns-in-None-clause-cut c =
    (c.in_ok-rest.field-0-0.now, c.in_ok-rest.ensures.cases.0 ∙ ap (λ r. c.in_ok-rest.field-0-0.now ∷ r) (sym (append-nil c.in_ok-rest.rest.now)))

-- the byte at a place, and what comes after it
drop-at : (bytes : List ℕ) (n : ℕ) → n < length bytes → (get_or bytes n 0 == 32) ≡ true → drop n bytes ≡ 32 ∷ drop 1 (drop n bytes)
drop-at [] n h is = absurd (omega arith)
drop-at (b ∷ bytes) zero h is = let e : b ≡ 32 = grind (arith, nat_tests) in ap (λ v. v ∷ bytes) e
drop-at (b ∷ bytes) (suc n) h is = drop-at bytes n (omega arith) is

pub returns-in-Some-clause-others : goal.returns-in-Some-clause-others
returns-in-Some-clause-others c =
    let rest : List ℕ = c.in_ok-rest.rest.now in
    let first = c.in-Some.ensures.0 in
    inr (drop 1 (drop c.in-Some.at rest), c.split_at.ensures.back ∙ drop-at rest c.in-Some.at first.high c.in-Some.ensures.1)
