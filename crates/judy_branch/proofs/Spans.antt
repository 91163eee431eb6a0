-- The words of some of a branch's children, in one stretch.
use Rattle.std.proofs.Common.{◌≡◌, ℕ, zero, suc, ◌+◌, ◌-◌, ◌<◌, ◌≤◌, Bool, true, false, cond, not, ◌&&◌, ◌==◌, nat_lt, List}
use Rattle.std.proofs.Common.{[], ◌∷◌, take, drop, length, get_or, ap, sym, ◌∙◌, refl, subst, arith, inl, inr}
use Rattle.std.specs.Prelude.{filter, nat_le}
use Rattle.std.proofs.lemmas.Bool.{cases_lt, and_right as and_no}
use Rattle.std.specs.List.{list_all}
use Rattle.std.specs.FinMap.{is_sorted}
use Rattle.std.specs.FinMap.Entries.{below_all}
use Rattle.std.specs.Ordering.{nat_cmp, is_lt}
use Rattle.std.proofs.Math.Seq.{drop-nil, take-nil}
use Rattle.judy_model.specs.Contents.{Entries, word_order, pairs}
use Rattle.judy_model.proofs.lemmas.WordLemmas.{le-test, le-not, lt-test, lt-not}
use Rattle.judy_model.proofs.lemmas.TestLemmas.{and_right, and_left}
use Rattle.judy_model.proofs.lemmas.EntryLemmas.{from_less}
use Rattle.judy_branch.specs.declared.shape.Shape.{Shape}
use Rattle.judy_branch.specs.declared.shape.Shape.TheVariants.{Linear, Full}
use Rattle.judy_branch.specs.Found.{IsPlace, IsThere, IsMissing}
use Rattle.judy_branch.specs.Children.{numbered, child_bytes, refs_in, children_in, count_in, most, start, is_child, is_child_entry, IsLaid}
use Rattle.judy_branch.specs.Slots.{some_words, child_words}
use Rattle.judy_branch.proofs.Shapes.{IsPaired, linear-paired}
use Rattle.judy_branch.proofs.Stretches.{all-some}
use Rattle.judy_branch.proofs.Windows.{drop_more, take_take, drop_take}

-- the children from a byte to below another
abbrev pub part : ℕ → ℕ → Entries ℕ → Entries ℕ
part z h es = filter (λ c. nat_le z c.0 && nat_lt c.0 h) es

-- a place, from what a search says
pub there-place : (ks : List ℕ) (k r : ℕ) → IsThere ks k r → IsPlace ks k r
there-place ks k r h = let i = h.inside in let e = h.here in record { within = omega arith; below = h.below; above = λ _. omega arith }

pub missing-place : (ks : List ℕ) (k r : ℕ) → IsMissing ks k r → IsPlace ks k r
missing-place ks k r h = record { within = h.within; below = h.below; above = λ i. let a = h.above i in omega arith }

-- all bytes are below 256
pub byte-at : (ks vs : List ℕ) (i : ℕ) → length vs ≡ length ks → i < length ks → list_all is_child_entry (pairs ks vs) ≡ true → get_or ks i 0 < 256
byte-at [] vs i e h s = absurd (omega arith)
byte-at (k ∷ ks) [] i e h s = absurd (omega arith)
byte-at (k ∷ ks) (v ∷ vs) zero e h s = less k (and_left (nat_lt k 256) (is_child v) (and_left (is_child_entry (k, v)) _ s))
  where
    less : (k : ℕ) → nat_lt k 256 ≡ true → k < 256
    less k h = grind arith
byte-at (k ∷ ks) (v ∷ vs) (suc i) e h s = byte-at ks vs i (omega arith) (omega arith) (and_right (is_child_entry (k, v)) _ s)

pub end-place : (shape : Shape) (ws : List ℕ) (laid : IsLaid shape ws) (paired : IsPaired shape ws) (k : ℕ) → 255 < k
    → IsPlace (child_bytes shape ws) k (count_in ws)
end-place shape ws laid paired k h =
    let m = paired.many in
    let s = paired.same in
    record {
      within = omega arith;
      below = λ i j. let b = byte-at (child_bytes shape ws) (refs_in shape ws) i (omega arith) (omega arith)
          (subst (λ es. list_all is_child_entry es ≡ true) paired.are laid.sound) in omega arith;
      above = λ j. absurd (omega arith);
    }

above-none : (h x : ℕ) (es : Entries ℕ) (z : ℕ) → h ≤ x → below_all word_order x es ≡ true → part z h es ≡ []
above-none h x [] z le s = refl
above-none h x (e ∷ es) z le s =
    let lt : x < e.0 = from_less x e.0 (and_left (is_lt (nat_cmp x e.0)) _ s) in
    rw (and_no (nat_le z e.0) (nat_lt e.0 h) (lt-not e.0 h (omega arith))) (above-none h x es z le (and_right (is_lt (nat_cmp x e.0)) _ s))

-- the children of a stretch of bytes are the references of a stretch
pairs-part : (ks vs : List ℕ) (z h a b : ℕ) → length vs ≡ length ks → is_sorted word_order (pairs ks vs) ≡ true → z ≤ h → IsPlace ks z a → IsPlace ks h b
    → child_words (part z h (pairs ks vs)) ≡ take (b - a) (drop a vs)
pairs-part [] [] z h a b e s le p q = sym (ap (take (b - a)) (drop-nil a) ∙ take-nil (b - a))
pairs-part [] (v ∷ vs) z h a b e s le p q = absurd (omega arith)
pairs-part (k ∷ ks) [] z h a b e s le p q = absurd (omega arith)
pairs-part (k ∷ ks) (v ∷ vs) z h (suc a) (suc b) e s le p q =
    let lt : k < z = p.below 0 (omega arith) in
    let n : b - a ≡ suc b - suc a = omega arith in
    rw (le-not z k lt) (pairs-part ks vs z h a b (omega arith) (and_right (below_all word_order k (pairs ks vs)) _ s) le
    (later ks k z a p) (later ks k h b q) ∙ ap (λ n. take n (drop a vs)) n)
  where
    later : (ks : List ℕ) (k z a : ℕ) → IsPlace (k ∷ ks) z (suc a) → IsPlace ks z a
    later ks k z a p = let w = p.within in record { within = omega arith; below = λ i j. p.below (suc i) (omega arith); above = λ j. p.above (omega arith) }
pairs-part (k ∷ ks) (v ∷ vs) z h (suc a) zero e s le p q = absurd (let lt : k < z = p.below 0 (omega arith) in
    let ge : h ≤ k = q.above (omega arith) in omega arith)
pairs-part (k ∷ ks) (v ∷ vs) z h zero (suc b) e s le p q =
    let ge : z ≤ k = p.above (omega arith) in
    let lt : k < h = q.below 0 (omega arith) in
    let n : suc b - 0 ≡ suc b = omega arith in
    let m : b - 0 ≡ b = omega arith in
    rw (le-test z k ge, lt-test k h lt)
    (ap (λ l. v ∷ l) (pairs-part ks vs z h 0 b (omega arith) (and_right (below_all word_order k (pairs ks vs)) _ s) le first
    (later ks k h b q) ∙ ap (λ n. take n vs) m) ∙ ap (λ n. take n (v ∷ vs)) (sym n))
  where
    later : (ks : List ℕ) (k z a : ℕ) → IsPlace (k ∷ ks) z (suc a) → IsPlace ks z a
    later ks k z a p = let w = p.within in record { within = omega arith; below = λ i j. p.below (suc i) (omega arith); above = λ j. p.above (omega arith) }

    next : (ks vs : List ℕ) → below_all word_order k (pairs ks vs) ≡ true → length vs ≡ length ks → 0 < length ks → k < get_or ks 0 0
    next [] vs s e h = absurd (omega arith)
    next (x ∷ ks) [] s e h = absurd (omega arith)
    next (x ∷ ks) (y ∷ vs) s e h = from_less k x (and_left (is_lt (nat_cmp k x)) _ s)

    first : IsPlace ks z 0
    first =
        let ge : z ≤ k = p.above (omega arith) in
        record {
          within = omega arith;
          below = λ i j. absurd (omega arith);
          above = λ j. let n = next ks vs
              (and_left (below_all word_order k (pairs ks vs)) _ s) (omega arith) j in omega arith;
        }
pairs-part (k ∷ ks) (v ∷ vs) z h zero zero e s le p q =
    let ge : h ≤ k = q.above (omega arith) in
    let n : 0 - 0 ≡ 0 = omega arith in
    rw (and_no (nat_le z k) (nat_lt k h) (lt-not k h ge))
    (ap (λ es. child_words es) (above-none h k (pairs ks vs) z ge (and_left (below_all word_order k (pairs ks vs)) _ s))
    ∙ ap (λ n. take n (v ∷ vs)) (sym n))

-- some of the children are sound too
filter-sound : (p : ℕ × ℕ → Bool) (es : Entries ℕ) → list_all is_child_entry es ≡ true → list_all is_child_entry (filter p es) ≡ true
filter-sound p [] s = refl
filter-sound p (e ∷ es) s =
    let r = filter-sound p es (and_right (is_child_entry e) _ s) in
    elim (p e) as (λ t. list_all is_child_entry (cond t (e ∷ filter p es) (filter p es)) ≡ true) [
      | true ↦ ap (λ t. t && list_all is_child_entry (filter p es)) (and_left (is_child_entry e) _ s) ∙ r
      | false ↦ r
    ]

-- what stands between two places of a stretch that begins at s
inner : (ws : List ℕ) (s n a b : ℕ) → b ≤ n → take (b - a) (drop a (take n (drop s ws))) ≡ take ((s + b) - (s + a)) (drop (s + a) ws)
inner ws s n a b le =
    elim (cases_lt n a) [
      | inl i ↦
          let z : b - a ≡ 0 = omega arith in
          let y : 0 ≡ (s + b) - (s + a) = omega arith in
          ap (λ k. take k (drop a (take n (drop s ws)))) z ∙ ap (λ k. take k (drop (s + a) ws)) y
      | inr i ↦
          let m : b - a ≤ n - a = omega arith in
          let d : b - a ≡ (s + b) - (s + a) = omega arith in
          ap (take (b - a)) (drop_take a n (drop s ws) i) ∙ take_take (b - a) (n - a) (drop a (drop s ws)) m ∙ ap (take (b - a))
          (drop_more a s ws) ∙ ap (λ n. take n (drop (s + a) ws)) d
    ]

-- in a linear and a bitmap branch
pub paired-span : (shape : Shape) (ws : List ℕ) (laid : IsLaid shape ws) (paired : IsPaired shape ws) (z h a b : ℕ) → z ≤ h
    → IsPlace (child_bytes shape ws) z a → IsPlace (child_bytes shape ws) h b
    → some_words (take ((start shape + b) - (start shape + a)) (drop (start shape + a) ws)) ≡ child_words (part z h (children_in shape ws))
unfolding refs_in
paired-span shape ws laid paired z h a b le p q =
    let w = q.within in
    let m = paired.many in
    let words : child_words (part z h (children_in shape ws)) ≡ take ((start shape + b) - (start shape + a)) (drop (start shape + a) ws) =
    ap (λ es. child_words (part z h es)) paired.are
    ∙ pairs-part (child_bytes shape ws) (refs_in shape ws) z h a b (paired.same ∙ sym paired.many)
    (subst (λ es. is_sorted word_order es ≡ true) paired.are laid.rising) le p q
    ∙ inner ws (start shape) (count_in ws) a b (omega arith) in
    ap (λ l. some_words l) (sym words) ∙ all-some (part z h (children_in shape ws)) (filter-sound _ (children_in shape ws) laid.sound)

-- in a branch that has one of these shapes
pub shape-span : (shape s : Shape) (ws : List ℕ) (paired : IsLaid s ws → IsPaired s ws) (low z h a b : ℕ) → shape ≡ s → IsLaid shape ws → low ≡ z
    → z ≤ h → IsPlace (child_bytes s ws) low a → IsPlace (child_bytes s ws) h b
    → some_words (take ((start s + b) - (start s + a)) (drop (start s + a) ws)) ≡ child_words (part z h (children_in shape ws))
shape-span shape s ws paired low z h a b is laid e le p q =
    let same : IsLaid s ws = subst (λ s. IsLaid s ws) is laid in
    paired-span s ws same (paired same) z h a b le (subst (λ k. IsPlace (child_bytes s ws) k a) e p) q
    ∙ ap (λ s. child_words (part z h (children_in s ws))) (sym is)

-- the places of a linear branch lie in its words
pub linear-fits : (shape : Shape) (ws : List ℕ) (k r : ℕ) → shape ≡ Linear → IsLaid shape ws → IsPlace (child_bytes Linear ws) k r
    → (r ≤ most Linear) × (start Linear + r ≤ length ws)
linear-fits shape ws k r is laid p =
    let same : IsLaid Linear ws = subst (λ s. IsLaid s ws) is laid in
    let many = (linear-paired ws same).many in
    let few = same.most in
    let room = same.room in
    let within = p.within in
    (omega arith, omega arith)

-- the numbers from one on are none below it
numbered-none : (k z h : ℕ) (ws : List ℕ) → h ≤ k → part z h (numbered k ws) ≡ []
numbered-none k z h [] le = refl
numbered-none k z h (w ∷ ws) le =
    let r = numbered-none (suc k) z h ws (omega arith) in
    elim (w == 0) as (λ t. part z h (cond t (numbered (suc k) ws) ((k, w) ∷ numbered (suc k) ws)) ≡ []) [
      | true ↦ r
      | false ↦ ap (λ t. cond t ((k, w) ∷ part z h (numbered (suc k) ws)) (part z h (numbered (suc k) ws)))
          (and_no (nat_le z k) (nat_lt k h) (lt-not k h le)) ∙ r
    ]

numbered-part : (k a b z h : ℕ) (ws : List ℕ) → z ≡ k + a → h ≡ k + b → a ≤ b → child_words (part z h (numbered k ws)) ≡ some_words (take (b - a) (drop a ws))
numbered-part k a b z h [] d e le = sym (ap (λ l. some_words l) (ap (take (b - a)) (drop-nil a) ∙ take-nil (b - a)))
numbered-part k zero zero z h (w ∷ ws) d e le = ap (λ es. child_words es) (numbered-none k z h (w ∷ ws) (omega arith))
numbered-part k (suc a) zero z h (w ∷ ws) d e le = absurd (omega arith)
numbered-part k (suc a) (suc b) z h (w ∷ ws) d e le =
    let r = numbered-part (suc k) a b z h ws (omega arith) (omega arith) (omega arith) in
    let n : b - a ≡ suc b - suc a = omega arith in
    (elim (w == 0) as (λ t. child_words (part z h (cond t (numbered (suc k) ws) ((k, w) ∷ numbered (suc k) ws))) ≡ child_words
    (part z h (numbered (suc k) ws))) [
      | true ↦ refl
      | false ↦ ap
          (λ t. child_words (cond (t && nat_lt k h) ((k, w) ∷ part z h (numbered (suc k) ws)) (part z h (numbered (suc k) ws))))
          (le-not z k (omega arith))
    ]) ∙ r ∙ ap (λ n. some_words (take n (drop a ws))) n
numbered-part k zero (suc b) z h (w ∷ ws) d e le =
    let f : child_words (part (suc k) h (numbered (suc k) ws)) ≡ some_words (take (b - 0) ws) = numbered-part (suc k) 0 b (suc k) h
    ws (omega arith) (omega arith) (omega arith) in
    let m : b - 0 ≡ b = omega arith in
    let n : suc b ≡ suc b - 0 = omega arith in
    let r : child_words (part z h (numbered (suc k) ws)) ≡ some_words (take b ws) = ap (λ es. child_words es)
    (from-more (suc k) z (suc k) h ws (omega arith) (omega arith)) ∙ f ∙ ap (λ n. some_words (take n ws)) m in
    (elim (w == 0) as (λ t. child_words (part z h (cond t (numbered (suc k) ws) ((k, w) ∷ numbered (suc k) ws))) ≡ cond (not t)
    (w ∷ some_words (take b ws)) (some_words (take b ws))) [
      | true ↦ r
      | false ↦ ap
          (λ t. child_words (cond (t && nat_lt k h) ((k, w) ∷ part z h (numbered (suc k) ws)) (part z h (numbered (suc k) ws))))
          (le-test z k (omega arith))
          ∙ ap (λ t. child_words (cond t ((k, w) ∷ part z h (numbered (suc k) ws)) (part z h (numbered (suc k) ws))))
          (lt-test k h (omega arith)) ∙ ap (λ l. w ∷ l) r
    ]) ∙ ap (λ n. some_words (take n (w ∷ ws))) n
  where
    from-more : (k y z h : ℕ) (ws : List ℕ) → y ≤ k → z ≤ k → part y h (numbered k ws) ≡ part z h (numbered k ws)
    from-more k y z h [] i j = refl
    from-more k y z h (w ∷ ws) i j =
        let r = from-more (suc k) y z h ws (omega arith) (omega arith) in
        elim (w == 0) as (λ t. part y h (cond t (numbered (suc k) ws) ((k, w) ∷ numbered (suc k) ws)) ≡ part z h
        (cond t (numbered (suc k) ws) ((k, w) ∷ numbered (suc k) ws))) [
          | true ↦ r
          | false ↦ ap (λ t. cond (t && nat_lt k h) ((k, w) ∷ part y h (numbered (suc k) ws)) (part y h (numbered (suc k) ws))) (le-test y k i)
              ∙ ap (λ l. cond (nat_lt k h) ((k, w) ∷ l) l) r
              ∙ sym (ap (λ t. cond (t && nat_lt k h) ((k, w) ∷ part z h (numbered (suc k) ws)) (part z h (numbered (suc k) ws))) (le-test z k j))
        ]

-- in a full one
pub full-span : (ws : List ℕ) (z h : ℕ) → z ≤ h → h ≤ 256 → some_words (take ((3 + h) - (3 + z)) (drop (3 + z) ws)) ≡ child_words
    (part z h (children_in Full ws))
unfolding children_in
full-span ws z h le small =
    let d : z ≡ 0 + z = omega arith in
    let e : h ≡ 0 + h = omega arith in
    ap (λ l. some_words l) (sym (inner ws 3 256 z h small)) ∙ sym (numbered-part 0 z h z h (take 256 (drop 3 ws)) d e le)
