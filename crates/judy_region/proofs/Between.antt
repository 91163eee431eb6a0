-- Words are copied from one chunk to another, the chunks being cut in two between them.
use Rattle.std.proofs.Common.{◌≡◌, ℕ, zero, suc, ◌+◌, ◌-◌, ◌<◌, ◌≤◌, List, [], ◌∷◌, ◌++◌, length, get_or, set, take, drop, sym, ap, ◌∙◌, arith, refl}
use Rattle.std.specs.Prelude.{slice_range}
use Rattle.std.proofs.lemmas.List.{set-append_right, set-append_left, get_or-append_right, get_or_append_left, length-take, length-drop, length-append}
use lib.Seq.{paste}
use Rattle.judy_region.proofs.lemmas.Flat.{sure}

-- what is read of a part of a chunk, and written over another
taken : (from to part : List ℕ) (i at len : ℕ) → i + len ≤ length from → part ≡ slice_range from i (i + len) → paste to at part
    (length part) ≡ paste to at (drop i from) len
taken from to part i at len ends e =
    let m : i + len - i ≡ len = omega arith in
    let p : part ≡ take len (drop i from) = e ∙ ap (λ k. take k (drop i from)) m in
    let t = length-take len (drop i from) in let d = length-drop i from in
    let n : length part ≡ len = ap length p ∙ omega (arith, t, d, ends) in
    ap (λ k. paste to at part k) n ∙ ap (λ v. take at to ++ v ++ drop (at + len) to) (ap (take len) p ∙ twice len (drop i from))
  where
    twice : (k : ℕ) (v : List ℕ) → take k (take k v) ≡ take k v
    twice zero v = refl
    twice (suc k) [] = refl
    twice (suc k) (x ∷ v) = ap (λ w. x ∷ w) (twice k v)

module _ (all low high : List (List ℕ)) (from to part new : List ℕ) (source i target at len : ℕ) (value : all ≡ low ++ high) where
  pub copied-up : length low ≡ target → source < target → i + len ≤ length (get_or all source []) → target < length all
      → part ≡ slice_range (get_or low source from) i (i + len) → new ≡ paste (get_or high 0 to) at part (length part)
      → low ++ set high 0 new ≡ set all target (paste (get_or all target []) at (drop i (get_or all source [])) len)
  copied-up front less ends there is wrote =
      let k : target - target ≡ 0 = omega arith in
      let n = length-append low high in
      let l = ap length value in
      let some : 0 < length high = omega arith in
      let s : get_or low source from ≡ get_or all source [] = sure low source from [] (omega arith)
      ∙ sym (ap (λ v. get_or v source []) value ∙ get_or_append_left low high [] source (omega arith)) in
      let t : get_or high 0 to ≡ get_or all target [] = sure high 0 to [] some
      ∙ sym (ap (λ v. get_or v target []) value ∙ get_or-append_right low high target target [] front (omega arith)
      ∙ ap (λ j. get_or high j []) k) in
      let w : new ≡ paste (get_or all target []) at (drop i (get_or all source [])) len =
      wrote ∙ ap (λ v. paste v at part (length part)) t ∙ taken (get_or all source []) (get_or all target []) part i at len ends
      (is ∙ ap (λ v. slice_range v i (i + len)) s) in
      ap (λ v. low ++ set high 0 v) w
      ∙ sym (ap (λ v. set v target (paste (get_or all target []) at (drop i (get_or all source [])) len)) value
      ∙ set-append_right low high target target _ front (omega arith)
      ∙ ap (λ j. low ++ set high j (paste (get_or all target []) at (drop i (get_or all source [])) len)) k)

  pub copied-down : length low ≡ source → target < source → i + len ≤ length (get_or all source []) → source < length all
      → part ≡ slice_range (get_or high 0 from) i (i + len) → new ≡ paste (get_or low target to) at part (length part)
      → set low target new ++ high ≡ set all target (paste (get_or all target []) at (drop i (get_or all source [])) len)
  copied-down front less ends there is wrote =
      let k : source - source ≡ 0 = omega arith in
      let n = length-append low high in
      let l = ap length value in
      let some : 0 < length high = omega arith in
      let s : get_or high 0 from ≡ get_or all source [] = sure high 0 from [] some
      ∙ sym (ap (λ v. get_or v source []) value ∙ get_or-append_right low high source source [] front (omega arith)
      ∙ ap (λ j. get_or high j []) k) in
      let t : get_or low target to ≡ get_or all target [] = sure low target to [] (omega arith)
      ∙ sym (ap (λ v. get_or v target []) value ∙ get_or_append_left low high [] target (omega arith)) in
      let w : new ≡ paste (get_or all target []) at (drop i (get_or all source [])) len =
      wrote ∙ ap (λ v. paste v at part (length part)) t ∙ taken (get_or all source []) (get_or all target []) part i at len ends
      (is ∙ ap (λ v. slice_range v i (i + len)) s) in
      ap (λ v. set low target v ++ high) w
      ∙ sym (ap (λ v. set v target (paste (get_or all target []) at (drop i (get_or all source [])) len)) value
      ∙ set-append_left low high target _ (omega arith))
