-- The next array of a kind is the first of its arrays that comes behind the key.
use Rattle.std.proofs.Common.{◌≡◌, ◌∷◌, ℕ, Bool, true, false, cond, List, [], length, refl}
use Rattle.std.specs.Prelude.{Option, Some, find, filter, option_map}
use Rattle.std.specs.Ordering.{is_gt}
use Rattle.judy_model.specs.declared.commands.Kind.{Kind}
use Rattle.judy_model.specs.ArrayLists.{array_key, counted}
use Rattle.judy_model.specs.Contents.{head_of, next, string_order}
use Rattle.judy_model.specs.Tenant.{Arrays}

pub next_counted : {K : Type 0} (k : Kind) (arrays : Arrays K) (key : List ℕ) → next string_order (counted k arrays) key
    ≡ option_map (λ a. (array_key k a.0, length a.1)) (find (λ a. is_gt (string_order (array_key k a.0) key)) arrays)
next_counted k [] key = refl
next_counted k (a ∷ arrays) key = by (is_gt (string_order (array_key k a.0) key)) (next_counted k arrays key)
  where
    behind : Option (List ℕ × ℕ)
    behind = option_map (λ b. (array_key k b.0, length b.1)) (find (λ b. is_gt (string_order (array_key k b.0) key)) arrays)

    by : (t : Bool) → next string_order (counted k arrays) key ≡ behind
        → head_of (cond t ((array_key k a.0, length a.1) ∷ filter (λ e. is_gt (string_order e.0 key)) (counted k arrays))
        (filter (λ e. is_gt (string_order e.0 key)) (counted k arrays)))
        ≡ option_map (λ b. (array_key k b.0, length b.1)) (cond t (Some a) (find (λ b. is_gt (string_order (array_key k b.0) key)) arrays))
    by true rest = refl
    by false rest = rest
