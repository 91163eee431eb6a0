-- Two gaps opened in a list of words at once.
use Rattle.std.proofs.Common.{◌≡◌, ℕ, ◌+◌, ◌-◌, ◌<◌, ◌≤◌, List, ◌++◌, take, drop, set, length, get_or, ap, sym, ◌∙◌, inl, inr, arith}
use Rattle.std.proofs.Common.{length-drop, length-append, length-set}
use Rattle.std.specs.List.{insert}
use Rattle.std.proofs.lemmas.Bool.{cases_lt}
use Rattle.std.proofs.lemmas.List.{length-take-le, get_or-take, get_or-drop, get_or_append_left, get_or-append_right, get_or-set_same, get_or-set_other}
use Rattle.std.proofs.lemmas.Grind.{same_number_lists}
use Rattle.std.proofs.lemmas.List.Edits.{length-paste, length-insert, get_or-insert_below, get_or-insert_at, get_or-insert_above}
use lib.Seq.{paste}

-- what a copy inside a list leaves, word by word
module _ (ws : List ℕ) (at from n : ℕ) (target : at + n ≤ length ws) (source : from + n ≤ length ws) where
  abbrev pub moved : List ℕ
  moved = paste ws at (drop from ws) n

  window : length (take n (drop from ws)) ≡ n
  window = length-take-le n (drop from ws) (omega (arith, length-drop from ws, source))

  front : length (take at ws) ≡ at
  front = length-take-le at ws (omega (arith, target))

  both : length (take at ws ++ take n (drop from ws)) ≡ at + n
  both = omega (arith, length-append (take at ws) (take n (drop from ws)), window, front)

  pub moved-size : length moved ≡ length ws
  moved-size = length-paste ws at (drop from ws) n target (omega (arith, length-drop from ws, source))

  pub moved-below : (k : ℕ) → k < at → get_or moved k 0 ≡ get_or ws k 0
  moved-below k h =
      get_or_append_left (take at ws ++ take n (drop from ws)) (drop (at + n) ws) 0 k (omega (arith, both, h))
      ∙ get_or_append_left (take at ws) (take n (drop from ws)) 0 k (omega (arith, front, h)) ∙ get_or-take at ws k 0 h

  pub moved-in : (k : ℕ) → k < n → get_or moved (at + k) 0 ≡ get_or ws (from + k) 0
  moved-in k h =
      let e : at + k - at ≡ k = omega arith in
      get_or_append_left (take at ws ++ take n (drop from ws)) (drop (at + n) ws) 0 (at + k) (omega (arith, both, h))
      ∙ get_or-append_right (take at ws) (take n (drop from ws)) at (at + k) 0 front (omega arith)
      ∙ ap (λ i. get_or (take n (drop from ws)) i 0) e ∙ get_or-take n (drop from ws) k 0 h ∙ get_or-drop from ws k 0

  pub moved-above : (k : ℕ) → at + n ≤ k → get_or moved k 0 ≡ get_or ws k 0
  moved-above k h =
      let e : at + n + (k - (at + n)) ≡ k = omega (arith, h) in
      get_or-append_right (take at ws ++ take n (drop from ws)) (drop (at + n) ws) (at + n) k 0 both h
      ∙ get_or-drop (at + n) ws (k - (at + n)) 0 ∙ ap (λ i. get_or ws i 0) e

module _ (ws : List ℕ) (used low high one other : ℕ) (order : low ≤ high) (place : high ≤ used) (room : used + 1 < length ws) where
  abbrev first : List ℕ
  first = paste ws (high + 2) (drop high ws) (used - high)

  abbrev second : List ℕ
  second = paste first (low + 1) (drop low first) (high - low)

  abbrev new : List ℕ
  new = set (set second low one) (high + 1) other

  abbrev wanted : List ℕ
  wanted = insert (insert (take used ws) high other) low one

  high-target : high + 2 + (used - high) ≤ length ws
  high-target = omega (arith, place, room)

  high-source : high + (used - high) ≤ length ws
  high-source = omega (arith, place, room)

  first-size : length first ≡ length ws
  first-size = moved-size ws (high + 2) high (used - high) high-target high-source

  low-target : low + 1 + (high - low) ≤ length first
  low-target = omega (arith, first-size, order, place, room)

  low-source : low + (high - low) ≤ length first
  low-source = omega (arith, first-size, order, place, room)

  second-size : length second ≡ length ws
  second-size = moved-size first (low + 1) low (high - low) low-target low-source ∙ first-size

  kept : length (take used ws) ≡ used
  kept = length-take-le used ws (omega (arith, room))

  inner : length (insert (take used ws) high other) ≡ used + 1
  inner = length-insert (take used ws) high other (omega (arith, kept, place)) ∙ ap (λ n. n + 1) kept

  outer : length wanted ≡ used + 2
  outer = let e = length-insert (insert (take used ws) high other) low one (omega (arith, inner, order, place)) in omega (arith, e, inner)

  new-size : length new ≡ length ws
  new-size = length-set (set second low one) (high + 1) other ∙ length-set second low one ∙ second-size

  -- the words below the first gap
  below : (k : ℕ) → k < low → get_or new k 0 ≡ get_or wanted k 0
  below k h =
      get_or-set_other (set second low one) (high + 1) k other 0 (omega (arith, h, order))
      ∙ get_or-set_other second low k one 0 (omega (arith, h))
      ∙ moved-below first (low + 1) low (high - low) low-target low-source k (omega (arith, h))
      ∙ moved-below ws (high + 2) high (used - high) high-target high-source k (omega (arith, h, order))
      ∙ sym (get_or-take used ws k 0 (omega (arith, h, order, place)))
      ∙ sym (get_or-insert_below (take used ws) high other 0 k (omega (arith, h, order)) (omega (arith, kept, place)))
      ∙ sym (get_or-insert_below (insert (take used ws) high other) low one 0 k h (omega (arith, inner, order, place)))

  -- the word in the first gap
  in-low : get_or new low 0 ≡ get_or wanted low 0
  in-low =
      get_or-set_other (set second low one) (high + 1) low other 0 (omega (arith, order))
      ∙ get_or-set_same second low one 0 (omega (arith, second-size, order, place, room))
      ∙ sym (get_or-insert_at (insert (take used ws) high other) low one 0 (omega (arith, inner, order, place)))

  -- the words between the gaps
  between : (k : ℕ) → low ≤ k → k < high → get_or new (k + 1) 0 ≡ get_or wanted (k + 1) 0
  between k l h =
      let e : low + 1 + (k - low) ≡ k + 1 = omega (arith, l) in let g : low + (k - low) ≡ k = omega (arith, l) in
      get_or-set_other (set second low one) (high + 1) (k + 1) other 0 (omega (arith, h))
      ∙ get_or-set_other second low (k + 1) one 0 (omega (arith, l))
      ∙ ap (λ i. get_or second i 0) (sym e)
      ∙ moved-in first (low + 1) low (high - low) low-target low-source (k - low) (omega (arith, l, h))
      ∙ ap (λ i. get_or first i 0) g
      ∙ moved-below ws (high + 2) high (used - high) high-target high-source k (omega (arith, h))
      ∙ sym (get_or-take used ws k 0 (omega (arith, h, place)))
      ∙ sym (get_or-insert_below (take used ws) high other 0 k h (omega (arith, kept, place)))
      ∙ sym (get_or-insert_above (insert (take used ws) high other) low one 0 k l (omega (arith, inner, order, place)))

  -- the word in the second gap
  in-high : get_or new (high + 1) 0 ≡ get_or wanted (high + 1) 0
  in-high =
      get_or-set_same (set second low one) (high + 1) other 0 (omega (arith, length-set second low one, second-size, place, room))
      ∙ sym (get_or-insert_at (take used ws) high other 0 (omega (arith, kept, place)))
      ∙ sym (get_or-insert_above (insert (take used ws) high other) low one 0 high order (omega (arith, inner, order, place)))

  -- the words above the second gap
  above : (k : ℕ) → high ≤ k → k < used → get_or new (k + 2) 0 ≡ get_or wanted (k + 2) 0
  above k l h =
      let e : high + 2 + (k - high) ≡ k + 2 = omega (arith, l) in let g : high + (k - high) ≡ k = omega (arith, l) in
      let t : k + 2 ≡ k + 1 + 1 = omega arith in
      get_or-set_other (set second low one) (high + 1) (k + 2) other 0 (omega (arith, l))
      ∙ get_or-set_other second low (k + 2) one 0 (omega (arith, l, order))
      ∙ moved-above first (low + 1) low (high - low) low-target low-source (k + 2) (omega (arith, l, order))
      ∙ ap (λ i. get_or first i 0) (sym e)
      ∙ moved-in ws (high + 2) high (used - high) high-target high-source (k - high) (omega (arith, l, h))
      ∙ ap (λ i. get_or ws i 0) g
      ∙ sym (get_or-take used ws k 0 h)
      ∙ sym (get_or-insert_above (take used ws) high other 0 k l (omega (arith, kept, place)))
      ∙ sym (get_or-insert_above (insert (take used ws) high other) low one 0 (k + 1) (omega (arith, l, order)) (omega (arith, inner, order, place)))
      ∙ ap (λ i. get_or wanted i 0) (sym t)

  high-side : (k : ℕ) → high < k → k < used + 2 → get_or new k 0 ≡ get_or wanted k 0
  high-side k l h = elim (cases_lt k (high + 2)) [
    | inl lt ↦ (let e : k ≡ high + 1 = omega (arith, lt, l) in ap (λ i. get_or new i 0) e ∙ in-high ∙ ap (λ i. get_or wanted i 0) (sym e))
    | inr ge ↦ (let e : k ≡ k - 2 + 2 = omega (arith, ge) in
        ap (λ i. get_or new i 0) e ∙ above (k - 2) (omega (arith, ge)) (omega (arith, ge, h)) ∙ ap (λ i. get_or wanted i 0) (sym e))
  ]

  low-side : (k : ℕ) → k ≤ high → get_or new k 0 ≡ get_or wanted k 0
  low-side k h = elim (cases_lt k low) [
    | inl lt ↦ below k lt
    | inr ge ↦ elim (cases_lt low k) [
      | inl gt ↦ (let e : k ≡ k - 1 + 1 = omega (arith, gt) in
          ap (λ i. get_or new i 0) e ∙ between (k - 1) (omega (arith, gt)) (omega (arith, gt, h)) ∙ ap (λ i. get_or wanted i 0) (sym e))
      | inr le ↦ (let e : k ≡ low = omega (arith, le, ge) in ap (λ i. get_or new i 0) e ∙ in-low ∙ ap (λ i. get_or wanted i 0) (sym e))
    ]
  ]

  pub opened-two : take (used + 2) new ≡ wanted
  opened-two = same_number_lists (take (used + 2) new) wanted
      (length-take-le (used + 2) new (omega (arith, new-size, room)) ∙ sym outer)
      (λ k h. let l : k < used + 2 = omega (arith, h, length-take-le (used + 2) new (omega (arith, new-size, room))) in
      get_or-take (used + 2) new k 0 l ∙ elim (cases_lt high k) [ inl gt ↦ high-side k gt l | inr le ↦ low-side k le ])
