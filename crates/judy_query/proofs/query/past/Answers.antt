use Rattle.std.proofs.Common.{rules, arith, ◌≡◌, ℕ, ◌+◌, ◌-◌, ◌*◌, ◌/◌, ◌%◌, ◌^◌, ◌<◌, ◌≤◌, ap, subst}
use Rattle.std.specs.Prelude.{Option, IfSome, IfNone}
use Rattle.std.specs.Option.{SomeIff}
use Rattle.std.proofs.lemmas.Nat.{one_shl}
use Rattle.std.proofs.Math.Nat.{div-add-mod}
use Rattle.judy_tree.specs.Nodes.{head_at}
use Rattle.judy_query.proofs.query.past.Goals as goal

-- the word after those with the same multiple of the size
after : (x n u : ℕ) → n ≡ u → (x - x % n) + n ≡ (x / u + 1) * u
after x n u e =
    let parts : u * (x / u) + x % u ≡ x = div-add-mod x u in
    let more : (x / u + 1) * u ≡ u * (x / u) + u = step (x / u) u in
    let r : x % n ≡ x % u = ap (λ m. x % m) e in
    omega arith
  where
    step : (a u : ℕ) → (a + 1) * u ≡ u * a + u
    step a u = grind arith

pub returns-clause-some : goal.returns-clause-some
unfolding head_at
returns-clause-some c =
    let k : ℕ = 56 - 8 * c.args.level in
    let e = after c.args.x (1 * 2 ^ k % 18446744073709551616) (2 ^ k) (one_shl k 64 (omega arith)) in
    let f = subst (λ n. SomeIff c.checked_add.result (n < 18446744073709551616) n) e c.checked_add.ensures in
    shown c.checked_add.result _ f
  where
    shown : (o : Option ℕ) (n : ℕ) → SomeIff o (n < 18446744073709551616) n → IfSome o (λ e. e ≡ n)
    shown o n h = search rules

pub returns-clause-none : goal.returns-clause-none
unfolding head_at
returns-clause-none c =
    let k : ℕ = 56 - 8 * c.args.level in
    let e = after c.args.x (1 * 2 ^ k % 18446744073709551616) (2 ^ k) (one_shl k 64 (omega arith)) in
    let f = subst (λ n. SomeIff c.checked_add.result (n < 18446744073709551616) n) e c.checked_add.ensures in
    none c.checked_add.result _ f
  where
    none : (o : Option ℕ) (n : ℕ) → SomeIff o (n < 18446744073709551616) n → IfNone o (18446744073709551616 ≤ n)
    none o n h = search rules
