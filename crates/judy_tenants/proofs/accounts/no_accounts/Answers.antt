use Rattle.std.proofs.Common.{◌≡◌, ℕ, List, IfOk, ap, ◌∙◌, get_or, map, replicate, rules, refl}
use Rattle.judy_tenants.specs.declared.accounts.Account.{Account}
use Rattle.std.proofs.lemmas.Result.{IfOk-weaker}
use Rattle.judy_tenants.proofs.Counts.{nobody}
use Rattle.judy_tenants.proofs.accounts.no_accounts.Goals as goal

-- each account is the one that was given
items_are : (c : goal.After-vec) → IfOk c.vec.result (λ accounts. accounts.items ≡ replicate 128 (record { entries = 0; pieces = 0 }))
items_are c = search rules

none_in : (f : Account → ℕ) (n : ℕ) (a : Account) (xs : List Account) → f a ≡ 0 → xs ≡ replicate n a → (t : ℕ) → get_or (map f xs) t 0 ≡ 0
none_in f n a xs e h t = ap (λ l. get_or (map f l) t 0) h ∙ nobody f n a e t

pub returns-clause-entries : goal.returns-clause-entries
returns-clause-entries c =
    IfOk-weaker c.vec.result _ _ (λ accounts. none_in (λ (a : Account). a.entries) 128
    (record { entries = 0; pieces = 0 }) accounts.items refl) (items_are c)

pub returns-clause-pieces : goal.returns-clause-pieces
returns-clause-pieces c =
    IfOk-weaker c.vec.result _ _ (λ accounts. none_in (λ (a : Account). a.pieces) 128
    (record { entries = 0; pieces = 0 }) accounts.items refl) (items_are c)
