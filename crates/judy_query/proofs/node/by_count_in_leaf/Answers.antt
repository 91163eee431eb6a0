use Rattle.std.proofs.Common.{◌≡◌, ℕ, zero, suc, ◌-◌, [], ◌∷◌, ap, sym, ◌∙◌, refl, arith, map}
use Rattle.std.specs.Prelude.{slice_get}
use Rattle.judy_model.specs.Contents.{Entries, nth}
use Rattle.judy_query.specs.Keys.{key_found}
use Rattle.judy_leaf.specs.Leaf.{leaf_entries}
use Rattle.judy_query.proofs.node.by_count_in_leaf.Goals as goal

mapped : (l : Entries ℕ) (i : ℕ) → slice_get (map (λ e. e.0) l) i ≡ key_found (slice_get l i)
mapped [] zero = refl
mapped [] (suc i) = refl
mapped (e ∷ l) zero = refl
mapped (e ∷ l) (suc i) = mapped l i

nth_of : (l : Entries ℕ) (n m : ℕ) → n ≡ suc m → key_found (nth l n) ≡ key_found (slice_get l m)
nth_of l n m e = ap (λ n. key_found (nth l n)) e

pub returns : goal.returns
returns c = c.nth.ensures ∙ mapped (leaf_entries c.args.values c.args.arena.now.blocks c.args.leaf) (c.args.n - 1)
    ∙ sym (nth_of (leaf_entries c.args.values c.args.arena.now.blocks c.args.leaf) c.args.n (c.args.n - 1)
    (let z = c.if-n-eq0.false in omega arith))
