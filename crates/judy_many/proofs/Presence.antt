-- Who speaks on the open connections of a crowd: those in its slots, and no others.
use Rattle.std.proofs.Common.{◌≡◌, ◌⊎◌, inl, inr, ◌<◌, ◌≤◌, ◌+◌, ℕ, zero, suc, Bool, true, false, List, [], ◌∷◌, ◌++◌, Option, None, Some, arith, sym, ◌∙◌, ap, refl, subst, cond, append-nil, append_assoc, get_or, length, take}
use Rattle.std.specs.Prelude.{◌==◌, count_by, if◌then◌else◌, nat_lt}
use Rattle.std.proofs.lemmas.Bool.Decides.{eqb_tells}
use Rattle.std.proofs.lemmas.List.Sums.{sum_by-append, sum_by-cons}
use Rattle.judy_model.specs.Speakers.{Speaker}
use Rattle.judy_many.specs.Crowds.{At, Crowd, IsThere, Past}
use Rattle.judy_many.specs.Lives.{Lives, View}
use Rattle.judy_many.specs.Nets.{Acts}
use Rattle.judy_many.specs.Present.{AreOpen, speaker_at, speaker_of, speaker_since, speakers_at, speakers_below}
use Rattle.judy_many.specs.Rules.{Rules}
use Rattle.judy_many.specs.Sessions.{Speaks, Turn}
use Rattle.judy_many.specs.Stories.{Phase, Story, acts_in, came_in, closed_in, own, turns_in}
use Rattle.judy_many.specs.Watches.{Queued}
use Rattle.judy_many.specs.declared.serve.Limits.{Limits}

pub speaks_since : (who : Option Speaker) (turns : List Turn) (last : Option Speaker) → Speaks who turns last → last ≡ speaker_since who turns
speaks_since who [] last h = h
speaks_since who (t ∷ turns) last h = speaks_since t.after turns last h.2

-- one slot more
pub speakers_more : {B : Type 0} (view : B → View) (slots : List (Option B)) (i : ℕ) (s : Option B) → i < length slots → s ≡ get_or slots i s
    → speakers_at view (take (suc i) slots) ≡ speakers_at view (take i slots) ++ speaker_at view s
speakers_more view [] i s few e = absurd (omega (arith, few))
speakers_more view (t ∷ slots) zero s few e = append-nil (speaker_at view t) ∙ ap (speaker_at view) (sym e)
speakers_more view (t ∷ slots) (suc i) s few e =
    ap (λ l. speaker_at view t ++ l) (speakers_more view slots i s (omega (arith, few)) e)
    ∙ sym (append_assoc (speaker_at view t) (speakers_at view (take i slots)) (speaker_at view s))

none_plus : (n : ℕ) → 0 + n ≡ n
none_plus n = omega arith

module _ {B : Type 0} (view : B → View) (test : Option Speaker → Bool) where
  -- a client whose connection has this number, and whose speaker passes the test
  abbrev weight : ℕ → Option B → ℕ
  weight n None = 0
  weight n (Some b) = if (view b).number == n then cond (test (view b).who) 1 0 else 0

  abbrev weights : ℕ → List (Option B) → ℕ
  weights n [] = 0
  weights n (s ∷ slots) = weight n s + weights n slots

  -- over all numbers below this one
  abbrev over : ℕ → List (Option B) → ℕ
  over zero slots = 0
  over (suc n) slots = over n slots + weights n slots

  abbrev over_one : ℕ → Option B → ℕ
  over_one zero s = 0
  over_one (suc n) s = over_one n s + weight n s

  over_cons : (n : ℕ) (s : Option B) (slots : List (Option B)) → over n (s ∷ slots) ≡ over_one n s + over n slots
  over_cons zero s slots = omega arith
  over_cons (suc n) s slots = let e = over_cons n s slots in omega (arith, e)

  over_nil : (n : ℕ) → over n [] ≡ 0
  over_nil zero = refl
  over_nil (suc n) = let e = over_nil n in omega (arith, e)

  over_none : (n : ℕ) → over_one n None ≡ 0
  over_none zero = refl
  over_none (suc n) = let e = over_none n in omega (arith, e)

  weight_here : (n : ℕ) (b : B) → ((view b).number == n) ≡ true → weight n (Some b) ≡ cond (test (view b).who) 1 0
  weight_here n b e = rw e refl

  weight_off : (n : ℕ) (b : B) → ((view b).number == n) ≡ false → weight n (Some b) ≡ 0
  weight_off n b e = rw e refl

  over_low : (n : ℕ) (b : B) → n ≤ (view b).number → over_one n (Some b) ≡ 0
  over_low zero b low = refl
  over_low (suc n) b low = elim (eqb_tells (view b).number n) [
    | inl p ↦ let q = p.1 in absurd (omega (arith, low, q))
    | inr p ↦ let e = over_low n b (omega (arith, low)) in let w = weight_off n b p.0 in omega (arith, e, w)
  ]

  over_high : (n : ℕ) (b : B) → (view b).number < n → over_one n (Some b) ≡ cond (test (view b).who) 1 0
  over_high zero b few = absurd (omega (arith, few))
  over_high (suc n) b few = elim (eqb_tells (view b).number n) [
    | inl p ↦ let q = p.1 in let e = over_low n b (omega (arith, q)) in let w = weight_here n b p.0 in omega (arith, e, w)
    | inr p ↦ let e = over_high n b (below n b few p.1) in let w = weight_off n b p.0 in omega (arith, e, w)
  ]
    where
      below : (n : ℕ) (b : B) → (view b).number < suc n → ((view b).number ≡ n → ⊥) → (view b).number < n
      below n b few apart = omega (arith, few, apart)

  over_all : (count : ℕ) (slots : List (Option B)) → ((i : ℕ) (b : B) → At slots i b → (view b).number < count) → over count slots ≡ count_by test (speakers_at view slots)
  over_all count [] few = over_nil count
  over_all count (None ∷ slots) few = over_cons count None slots ∙ ap (λ n. n + over count slots) (over_none count)
      ∙ none_plus (over count slots) ∙ over_all count slots (λ i b there. few (suc i) b there)
  over_all count (Some b ∷ slots) few =
      over_cons count (Some b) slots ∙ ap (λ n. n + over count slots) (over_high count b (few 0 b refl))
      ∙ ap (λ n. cond (test (view b).who) 1 0 + n) (over_all count slots (λ i b there. few (suc i) b there))
      ∙ sym (sum_by-cons (λ w. cond (test w) 1 0) (view b).who (speakers_at view slots))

  weights_no : (n : ℕ) (slots : List (Option B)) → ((j : ℕ) (c : B) → At slots j c → (view c).number ≡ n → ⊥) → weights n slots ≡ 0
  weights_no n [] none = refl
  weights_no n (None ∷ slots) none = none_plus (weights n slots) ∙ weights_no n slots (λ j c there. none (suc j) c there)
  weights_no n (Some c ∷ slots) none = elim (eqb_tells (view c).number n) [
    | inl p ↦ absurd (none 0 c refl p.1)
    | inr p ↦ let w = weight_off n c p.0 in let e = weights_no n slots (λ j c there. none (suc j) c there) in omega (arith, w, e)
  ]

  weights_of : (n : ℕ) (slots : List (Option B)) (i : ℕ) (b : B) → At slots i b → (view b).number ≡ n
      → ((j : ℕ) (c : B) → At slots j c → (view c).number ≡ n → j ≡ i) → weights n slots ≡ cond (test (view b).who) 1 0
  weights_of n [] i b there is only = absurd there
  weights_of n (s ∷ slots) zero b there is only =
      let none = weights_no n slots (λ j c at e. absurd (some j (only (suc j) c at e))) in
      ap (λ s. weight n s + weights n slots) there ∙ ap (λ m. weight n (Some b) + m) none ∙ here (eqb_tells (view b).number n)
    where
      some : (j : ℕ) → suc j ≡ 0 → ⊥
      some j e = omega (arith, e)

      here : ((((view b).number == n) ≡ true) × ((view b).number ≡ n)) ⊎ ((((view b).number == n) ≡ false) × ((view b).number ≡ n → ⊥)) → weight n (Some b) + 0 ≡ cond (test (view b).who) 1 0
      here (inl p) = let w = weight_here n b p.0 in omega (arith, w)
      here (inr p) = absurd (p.1 is)
  weights_of n (None ∷ slots) (suc i) b there is only = none_plus (weights n slots) ∙ weights_of n slots i b there is (λ j c at e. let k = only (suc j) c at e in omega (arith, k))
  weights_of n (Some c ∷ slots) (suc i) b there is only = elim (eqb_tells (view c).number n) [
    | inl p ↦ let k = only 0 c refl p.1 in absurd (omega (arith, k))
    | inr p ↦
        let w = weight_off n c p.0 in
        let e = weights_of n slots i b there is (λ j c at e. let k = only (suc j) c at e in omega (arith, k)) in
        omega (arith, w, e)
  ]

  over_alike : (count : ℕ) (slots : List (Option B)) (story : Story) → ((n : ℕ) → n < count → weights n slots ≡ count_by test (speaker_of (own n story)))
      → over count slots ≡ count_by test (speakers_below count story)
  over_alike zero slots story each = refl
  over_alike (suc n) slots story each =
      ap (λ m. m + weights n slots) (over_alike n slots story (λ m few. each m (omega (arith, few))))
      ∙ ap (λ m. count_by test (speakers_below n story) + m) (each n (omega arith))
      ∙ sym (sum_by-append (λ w. cond (test w) 1 0) (speakers_below n story) (speaker_of (own n story)))

-- of a connection that was closed, and of one that is open
closed_speaker : (test : Option Speaker → Bool) (mine : Story) → closed_in (acts_in mine) ≡ 1 → came_in (acts_in mine) ≡ 1 → count_by test (speaker_of mine) ≡ 0
closed_speaker test mine closed came = ap (λ b. count_by test (if b then speaker_since None (turns_in mine) ∷ [] else [])) (not_below (closed_in (acts_in mine)) (came_in (acts_in mine)) closed came)
  where
    not_below : (m n : ℕ) → m ≡ 1 → n ≡ 1 → nat_lt m n ≡ false
    not_below m n e f = ap (λ k. nat_lt k n) e ∙ ap (λ k. nat_lt 1 k) f

pub open_speaker : (test : Option Speaker → Bool) (mine : Story) (v : View) → Lives mine v → count_by test (speaker_of mine) ≡ cond (test v.who) 1 0
open_speaker test mine v l =
    ap (λ b. count_by test (if b then speaker_since None (turns_in mine) ∷ [] else [])) (below (closed_in (acts_in mine)) (came_in (acts_in mine)) l.unclosed l.came)
    ∙ ap (λ w. count_by test (w ∷ [])) (sym (speaks_since None (turns_in mine) v.who l.live.speaks))
    ∙ sum_by-cons (λ w. cond (test w) 1 0) v.who [] ∙ plus_none (cond (test v.who) 1 0)
  where
    below : (m n : ℕ) → m ≡ 0 → n ≡ 1 → nat_lt m n ≡ true
    below m n e f = ap (λ k. nat_lt k n) e ∙ ap (λ k. nat_lt 0 k) f

    plus_none : (n : ℕ) → n + 0 ≡ n
    plus_none n = omega arith

pub present : {B S : Type 0} (view : B → View) (rules : Rules S) (limits : Limits) (first : S) (start : Acts) (phase : Phase) (queued : Queued) (past : Past) (log : Acts) (slots : List (Option B)) (count : ℕ) (now : S)
    → (h : Crowd view rules limits first start phase queued past log slots count now) → AreOpen h.story (speakers_at view slots)
present {B} {S} view rules limits first start phase queued past log slots count now h test =
    sym (over_all view test count slots h.below) ∙ over_alike view test count slots h.story each
    ∙ ap (λ n. count_by test (speakers_below n h.story)) (sym h.is_told.total)
  where
    there_of : (n : ℕ) → IsThere view slots n → weights view test n slots ≡ count_by test (speaker_of (own n h.story))
    there_of n q =
        weights_of view test n slots q.i q.b q.there q.is (λ j c at e. h.apart j q.i c q.b at q.there (e ∙ sym q.is))
        ∙ sym (open_speaker test (own n h.story) (view q.b) (subst (λ m. Lives (own m h.story) (view q.b)) q.is (h.live q.i q.b q.there)))

    closed_of : (n : ℕ) → closed_in (acts_in (own n h.story)) ≡ 1 → weights view test n slots ≡ count_by test (speaker_of (own n h.story))
    closed_of n closed =
        weights_no view test n slots (λ j c at e. absurd (gone (subst (λ m. Lives (own m h.story) (view c)) e (h.live j c at)).unclosed))
        ∙ sym (closed_speaker test (own n h.story) closed (once (came_in (acts_in (own n h.story))) (h.served n).once.0 (h.served n).once.1))
      where
        gone : closed_in (acts_in (own n h.story)) ≡ 0 → ⊥
        gone e = omega (arith, e, closed)

        once : (m : ℕ) → m ≤ 1 → closed_in (acts_in (own n h.story)) ≤ m → m ≡ 1
        once m few more = omega (arith, few, more, closed)

    each : (n : ℕ) → n < count → weights view test n slots ≡ count_by test (speaker_of (own n h.story))
    each n below = elim (h.ends n below) [ inl closed ↦ closed_of n closed | inr q ↦ there_of n q ]
