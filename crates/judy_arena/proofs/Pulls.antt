-- What is known of the links of a free block that is taken out of its list.
use Rattle.std.proofs.Common.{◌≡◌, ◌≢◌, ℕ, suc, ◌+◌, ◌-◌, ◌*◌, ◌<◌, ◌≤◌, arith, ap, sym, subst, ◌∙◌, List, length, length-set, get_or, set}
use Rattle.judy_arena.specs.Layout.{linked, IsSound}
use Rattle.judy_arena.proofs.Chains.{by_eq}
use Rattle.judy_arena.proofs.LaidOut.{in_middle, before-free, after-free}
use Rattle.judy_arena.proofs.Seen.{Takes, takes-first, takes-middle}

-- what stays sound
pub after-take : (marks words heads words' heads' : List ℕ) (n k : ℕ) (sound : IsSound marks words heads) → Takes marks words heads sound.0 sound.1 k n words' heads'
    → length heads' ≡ length heads → IsSound (set marks n (k + 1)) words' heads'
after-take marks words heads words' heads' n k sound t e = let l = length-set marks n (k + 1) in let m = sound.2 in let r = sound.3 in
    (t.after, e ∙ sound.1, omega (arith, l, m), omega (arith, l, r))

-- the block is the first of its list
pub pull-first : (marks words heads : List ℕ) (sound : IsSound marks words heads) (n k next : ℕ) → k < 8 → get_or heads k 0 ≡ n + 1 → next ≡ get_or words (n * 4) 0
    → Takes marks words heads sound.0 sound.1 k n words (set heads k next)
pull-first marks words heads sound n k next class is e =
    subst (λ j. Takes marks words heads sound.0 sound.1 k n words (set heads k j)) (sym e) (takes-first marks words heads sound.0 sound.1 k n class (omega (arith, is)))

-- it is another one: back and next are its links
module _ (marks words heads : List ℕ) (sound : IsSound marks words heads) (n k next back : ℕ) (class : k < 8) (free : get_or marks n 0 ≡ k + 9)
    (not_first : get_or heads k 0 ≢ n + 1) (is_next : next ≡ get_or words (n * 4) 0) (is_back : back ≡ get_or words (n * 4 + 1) 0) where
  no_first : get_or heads k 0 ≢ suc n
  no_first e = not_first (omega (arith, e))

  back_is : get_or words (n * 4 + 1) 0 ≡ suc (back - 1)
  back_is = let m = (in_middle marks words heads sound.0 sound.1 k class n free no_first).is in omega (arith, m, is_back)

  pub back-some : 1 ≤ back
  back-some = let b = back_is in omega (arith, b, is_back)

  pub back-there : back - 1 < length marks
  back-there = (before-free marks words heads sound.0 sound.1 k class n free no_first (back - 1) back_is).0

  pub next-there : next ≤ length marks
  next-there = by_eq next 0 (λ z. omega (arith, z))
      (λ some. let f = (after-free marks words heads sound.0 sound.1 k class n free no_first (back - 1) back_is (next - 1) (omega (arith, is_next, some))).0 in
      omega (arith, f, some))

  pub pull-middle : (words' : List ℕ) → words' ≡ linked words (back - 1) next → Takes marks words heads sound.0 sound.1 k n words' heads
  pull-middle words' e = subst (λ ws. Takes marks words heads sound.0 sound.1 k n ws heads) (sym (e ∙ ap (linked words (back - 1)) is_next))
      (takes-middle marks words heads sound.0 sound.1 k n (back - 1) class free no_first back_is)
