-- Runs of segments.
--     run_more      one more number
--     run_gap       the one that is missing
--     greatest_more, greatest_all    the greatest of numbers
use Rattle.std.proofs.Common.{sym, arith, subst, inl, inr, ⊎_elim}
use Rattle.std.proofs.lemmas.Grind.{common_steps}
use Rattle.std.specs.Prelude.{◌≡◌, ◌≤◌, ◌<◌, ◌+◌, ℕ, List, [], ◌∷◌, ◌++◌, length, max, take, slice_index_or, Option, Some, None}
use Rattle.std.specs.List.{All, Contains}
use Rattle.std.specs.List.Sorted.{IsNonDecreasing}
use Rattle.std.proofs.lemmas.List.Elements.{All-append, All-cons, All-nil, Contains-append_left, Contains-get_or, Contains-push}
use Rattle.std.proofs.lemmas.Bool.{cases_lt}
use Rattle.std.proofs.lemmas.List.{get_or-take, take_all, take_more}
use Rattle.judy_disk.specs.Scans.{Continues, IsGap, IsRun, Misses}

with_one : (P : ℕ → Type 0) (done : List ℕ) (n : ℕ) → All P done → P n → All P (done ++ n ∷ [])
with_one P done n all one = All-append P done (n ∷ []) all (All-cons P n [] one (All-nil P))

pub run_more : (done : List ℕ) (first : ℕ) (last : Option ℕ) (n : ℕ) (after : Option ℕ) → IsRun done first last → Continues first last n after
    → IsRun (done ++ n ∷ []) first after
run_more done first None n after run (inl (below, e)) = subst (λ a. IsRun (done ++ n ∷ []) first a) (sym e) (with_one (λ m. m < first) done n run below)
run_more done first None n after run (inr (same, e)) =
    subst (λ a. IsRun (done ++ n ∷ []) first a) (sym e) (
      omega (arith, same),
      (λ k low high. let is : n ≡ k = omega (arith, same, low, high) in subst (λ (x : ℕ). Contains (done ++ n ∷ []) x) is (Contains-push done n)),
      with_one (λ m. m ≤ n) done n (λ k d l. let small : slice_index_or done k d < first = run k d l in omega (arith, same, small)) (omega arith),
    )
run_more done first (Some last) n after (low, all, top) (inl (cases, e)) =
    let small : n ≤ last = ⊎_elim (λ (below : n < first). omega (arith, below, low)) (λ (below : n ≤ last). below) cases in
    subst (λ a. IsRun (done ++ n ∷ []) first a) (sym e)
    (low, (λ k from to. Contains-append_left done (n ∷ []) k (all k from to)), with_one (λ m. m ≤ last) done n top small)
run_more done first (Some last) n after (low, all, top) (inr (next, e)) =
    subst (λ a. IsRun (done ++ n ∷ []) first a) (sym e) (
      omega (arith, next, low),
      (λ k from to. ⊎_elim (λ (before : k < n). Contains-append_left done (n ∷ []) k (all k from (omega (arith, before, next))))
          (λ (not_before : n ≤ k). let is : n ≡ k = omega (arith, to, not_before) in subst (λ (x : ℕ). Contains (done ++ n ∷ []) x) is (Contains-push done n)) (cases_lt k n)),
      with_one (λ m. m ≤ n) done n (λ k d l. let small : slice_index_or done k d ≤ last = top k d l in omega (arith, next, small)) (omega arith),
    )

-- the numbers before a place are below what is wanted there
before_it : (first : ℕ) (last : Option ℕ) (n wanted : ℕ) (done : List ℕ) → IsRun done first last → Misses first last n wanted → All (λ m. m < wanted) done
before_it first None n wanted done run (is, above) = λ k d l. let small : slice_index_or done k d < first = run k d l in omega (arith, small, is)
before_it first (Some last) n wanted done (low, all, top) (is, above, not_below) =
    λ k d l. let small : slice_index_or done k d ≤ last = top k d l in omega (arith, small, is)

above_it : (first : ℕ) (last : Option ℕ) (n wanted : ℕ) → Misses first last n wanted → wanted < n
above_it first None n wanted (is, above) = rw is above
above_it first (Some last) n wanted (is, above, not_below) = above

within_it : (done : List ℕ) (first : ℕ) (last : Option ℕ) (n wanted : ℕ) → IsRun done first last → Misses first last n wanted → first ≤ wanted
within_it done first None n wanted run (is, above) = omega (arith, is)
within_it done first (Some last) n wanted (low, all, top) (is, above, not_below) = omega (arith, is, low)

pub run_gap : (xs : List ℕ) (i first : ℕ) (last : Option ℕ) (wanted : ℕ) → IsNonDecreasing xs → i < length xs → IsRun (take i xs) first last
    → Misses first last (slice_index_or xs i 0) wanted → IsGap xs first wanted
run_gap xs i first last wanted sorted l run misses =
    let n : ℕ = slice_index_or xs i 0 in
    let above : wanted < slice_index_or xs i 0 = above_it first last n wanted misses in
    let front : All (λ m. m < wanted) (take i xs) = before_it first last n wanted (take i xs) run misses in
    record {
      within = within_it (take i xs) first last n wanted run misses;
      missing = λ k d inside is. ⊎_elim
          (λ (before : k < i).
          let small : slice_index_or (take i xs) k d < wanted = front k d (grind (arith, common_steps)) in
          let same : slice_index_or (take i xs) k d ≡ slice_index_or xs k d = get_or-take i xs k d before in
          omega (arith, small, same, is))
          (λ (behind : i ≤ k).
          let up : slice_index_or xs i d ≤ slice_index_or xs k d = sorted i k d behind inside in
          let same : slice_index_or xs i d ≡ slice_index_or xs i 0 = grind (arith, common_steps) in
          omega (arith, up, same, is, above))
          (cases_lt k i);
      later = (n, above, Contains-get_or xs i 0 l);
    }

-- the greatest so far, and of all
pub greatest_more : (xs : List ℕ) (i most : ℕ) → i < length xs → Contains xs most → All (λ m. m ≤ most) (take i xs)
    → Contains xs (max most (slice_index_or xs i 0)) × All (λ m. m ≤ max most (slice_index_or xs i 0)) (take (i + 1) xs)
greatest_more xs i most l is all = ⊎_elim
    (λ (less : most < slice_index_or xs i 0).
    let best : max most (slice_index_or xs i 0) ≡ slice_index_or xs i 0 = omega (arith, less) in
    rw best (
      Contains-get_or xs i 0 l,
      subst (λ ys. All (λ m. m ≤ slice_index_or xs i 0) ys) (sym (take_more xs i 0 l))
          (with_one (λ m. m ≤ slice_index_or xs i 0) (take i xs) (slice_index_or xs i 0)
          (λ k d n. let small : slice_index_or (take i xs) k d ≤ most = all k d n in omega (arith, small, less)) (omega arith)),
    ))
    (λ (not_less : slice_index_or xs i 0 ≤ most).
    let best : max most (slice_index_or xs i 0) ≡ most = omega (arith, not_less) in
    rw best (
      is,
      subst (λ ys. All (λ m. m ≤ most) ys) (sym (take_more xs i 0 l))
          (with_one (λ m. m ≤ most) (take i xs) (slice_index_or xs i 0) all not_less),
    ))
    (cases_lt most (slice_index_or xs i 0))

pub greatest_all : (xs : List ℕ) (i most : ℕ) → length xs ≤ i → All (λ m. m ≤ most) (take i xs) → All (λ m. m ≤ most) xs
greatest_all xs i most l all = subst (λ ys. All (λ m. m ≤ most) ys) (take_all i xs l) all
