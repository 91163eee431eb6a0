-- The lists of free blocks: what keeps one, and what putting a block in front of it and taking a
-- block out of it make of it.
use Rattle.std.proofs.Common.{◌≡◌, ◌≢◌, ℕ, suc, ◌+◌, ◌-◌, ◌*◌, ◌<◌, ◌≤◌, true, false, cond, nat_lt, List, [], ◌∷◌, length}
use Rattle.std.proofs.Common.{get_or, set, refl, sym, ap, subst, ◌∙◌, arith, length-set, inl, inr, add-one}
use Rattle.std.proofs.Common.{ltb, ltb→lt, nltb→le, T, not}
use Rattle.std.proofs.lemmas.Bool.Decides.{nat_tests}
use Rattle.std.proofs.lemmas.List.{get_or-set_same, get_or-set_other}
use Rattle.judy_arena.specs.Layout.{IsIn, IsChain, linked}

pub by_lt : {P : Type 0} (a b : ℕ) → (a < b → P) → (b ≤ a → P) → P
by_lt {P = P} a b f g = elim (ltb a b) as (λ v. ltb a b ≡ v → P) [
  | true ↦ λ e. f (ltb→lt a b (subst T (sym e) tt))
  | false ↦ λ e.
      g (nltb→le a b (subst (λ v. T (not v)) (sym e) tt))
] refl

pub by_eq : {P : Type 0} (a b : ℕ) → (a ≡ b → P) → (a ≢ b → P) → P
by_eq a b f g = by_lt a b (λ l. g (λ e. omega (arith, l, e))) (λ le. by_lt b a (λ l. g (λ e. omega (arith, l, e))) (λ le'. f (omega (arith, le, le'))))

-- ---- the links that a block got
pub length-linked : (words : List ℕ) (n h : ℕ) → length (linked words n h) ≡ length words
unfolding linked
length-linked words n h = elim (nat_lt 0 h) as
    (λ b. length (cond b (set (set words (n * 4) h) ((h - 1) * 4 + 1) (n + 1)) (set words (n * 4) h)) ≡ length words) [
      | true ↦ length-set (set words (n * 4) h) ((h - 1) * 4 + 1) (n + 1) ∙ length-set words (n * 4) h
      | false ↦ length-set words (n * 4) h
    ]

pub linked-none : (words : List ℕ) (n h : ℕ) → h ≡ 0 → linked words n h ≡ set words (n * 4) h
unfolding linked
linked-none words n h z = let e : nat_lt 0 h ≡ false = grind (arith, nat_tests, z) in rw e refl

pub linked-some : (words : List ℕ) (n h p : ℕ) → h ≡ suc p → linked words n h ≡ set (set words (n * 4) h) (p * 4 + 1) (n + 1)
unfolding linked
linked-some words n h p s =
    let e : nat_lt 0 h ≡ true = grind (arith, nat_tests, s) in
    let f : h - 1 ≡ p = omega (arith, s) in rw (e, f) refl

-- a word that is neither of the two
pub linked-other : (words : List ℕ) (n h i : ℕ) → i ≢ n * 4 → ((p : ℕ) → h ≡ suc p → i ≢ p * 4 + 1) → get_or (linked words n h) i 0 ≡ get_or words i 0
linked-other words n h i d e = by_eq h 0
    (λ z. ap (λ v. get_or v i 0) (linked-none words n h z) ∙ get_or-set_other words (n * 4) i h 0 d)
    (λ some. let s : h ≡ suc (h - 1) = omega (arith, some) in
    ap (λ v. get_or v i 0) (linked-some words n h (h - 1) s)
    ∙ get_or-set_other (set words (n * 4) h) ((h - 1) * 4 + 1) i (n + 1) 0 (e (h - 1) s) ∙ get_or-set_other words (n * 4) i h 0 d)

-- the link to the next block
pub linked-next : (words : List ℕ) (n h : ℕ) → n * 4 < length words → get_or (linked words n h) (n * 4) 0 ≡ h
linked-next words n h l = by_eq h 0
    (λ z. ap (λ v. get_or v (n * 4) 0) (linked-none words n h z) ∙ get_or-set_same words (n * 4) h 0 l)
    (λ some. let s : h ≡ suc (h - 1) = omega (arith, some) in
    ap (λ v. get_or v (n * 4) 0) (linked-some words n h (h - 1) s)
    ∙ get_or-set_other (set words (n * 4) h) ((h - 1) * 4 + 1) (n * 4) (n + 1) 0 (λ e. omega (arith, e)) ∙ get_or-set_same words (n * 4) h 0 l)

-- the link back
pub linked-back : (words : List ℕ) (n h p : ℕ) → h ≡ suc p → p * 4 + 1 < length words → get_or (linked words n h) (p * 4 + 1) 0 ≡ suc n
linked-back words n h p s l =
    ap (λ v. get_or v (p * 4 + 1) 0) (linked-some words n h p s)
    ∙ get_or-set_same (set words (n * 4) h) (p * 4 + 1) (n + 1) 0 (let e = length-set words (n * 4) h in omega (arith, l, e)) ∙ add-one n

-- ---- chains
-- each block of a chain has its mark
pub chain-marked : (marks words : List ℕ) (k b h : ℕ) (ps : List ℕ) → IsChain marks words k b h ps → (q : ℕ) → IsIn q ps
    → (q < length marks) × (get_or marks q 0 ≡ k + 9)
chain-marked marks words k b h [] c q i = absurd i
chain-marked marks words k b h (p ∷ ps) c q (inl e) = (subst (λ j. j < length marks) (sym e) c.1, ap (λ j. get_or marks j 0) e ∙ c.2)
chain-marked marks words k b h (p ∷ ps) c q (inr i) = chain-marked marks words k (suc p) (get_or words (p * 4) 0) ps c.5 q i

-- what stays at the places of a chain
abbrev pub Stays : (marks words marks' words' : List ℕ) → ℕ → Type 0
Stays marks words marks' words' q = (get_or marks' q 0 ≡ get_or marks q 0) × (get_or words' (q * 4) 0 ≡ get_or words (q * 4) 0)
    × (get_or words' (q * 4 + 1) 0 ≡ get_or words (q * 4 + 1) 0)

-- a chain stays where the marks and the links of its places do
pub chain-keep : (marks words marks' words' : List ℕ) (k : ℕ) → length marks' ≡ length marks → (b h : ℕ) (ps : List ℕ)
    → ((q : ℕ) → IsIn q ps → Stays marks words marks' words' q) → IsChain marks words k b h ps → IsChain marks' words' k b h ps
chain-keep marks words marks' words' k len b h [] same c = c
chain-keep marks words marks' words' k len b h (p ∷ ps) same c =
    let kept = same p (inl refl) in (
      c.0,
      omega (arith, c.1, len),
      kept.0 ∙ c.2,
      c.3,
      λ some. kept.2 ∙ c.4 some,
      subst (λ g. IsChain marks' words' k (suc p) g ps) (sym kept.1)
          (chain-keep marks words marks' words' k len (suc p) (get_or words (p * 4) 0) ps (λ q i. same q (inr i)) c.5),
    )

-- and so it does where another block comes before the first one
pub chain-after : (marks words marks' words' : List ℕ) (k : ℕ) → length marks' ≡ length marks → (b b' h : ℕ) (ps : List ℕ)
    → ((q : ℕ) → IsIn q ps → h ≢ suc q → Stays marks words marks' words' q)
    → ((q : ℕ) → IsIn q ps → h ≡ suc q → (get_or marks' q 0 ≡ get_or marks q 0) × (get_or words' (q * 4) 0 ≡ get_or words (q * 4) 0)
    × (get_or words' (q * 4 + 1) 0 ≡ b'))
    → IsChain marks words k b h ps → IsChain marks' words' k b' h ps
chain-after marks words marks' words' k len b b' h [] same first c = c
chain-after marks words marks' words' k len b b' h (p ∷ ps) same first c =
    let kept = first p (inl refl) c.0 in (
      c.0,
      omega (arith, c.1, len),
      kept.0 ∙ c.2,
      c.3,
      λ some. kept.2,
      subst (λ g. IsChain marks' words' k (suc p) g ps) (sym kept.1)
          (chain-keep marks words marks' words' k len (suc p) (get_or words (p * 4) 0) ps
          (λ q i. same q (inr i) (λ e. c.3 (subst (λ j. IsIn j ps) (let f = c.0 in omega (arith, e, f)) i))) c.5),
    )

-- ---- a block of a chain that is not the first
module _ (marks words : List ℕ) (k p : ℕ) where
  abbrev next : ℕ
  next = get_or words (p * 4) 0

  -- the one before it and the one after it are in the chain
  pub record Middle (ps : List ℕ) : Type 0 where
    pub before : ℕ
    pub is : get_or words (p * 4 + 1) 0 ≡ suc before
    pub there : IsIn before ps
    pub after : (q : ℕ) → next ≡ suc q → IsIn q ps

  follows : (b h : ℕ) (ps : List ℕ) → IsChain marks words k b h ps → (q : ℕ) → h ≡ suc q → IsIn q ps
  follows b h [] c q e = absurd (omega (arith, c, e))
  follows b h (x ∷ ps) c q e = inl (let f = c.0 in omega (arith, e, f))

  -- p is not the first, and so it is in the rest
  rest : (h x : ℕ) (ps : List ℕ) → h ≡ suc x → h ≢ suc p → IsIn p (x ∷ ps) → IsIn p ps
  rest h x ps e d (inl s) = absurd (d (e ∙ ap suc (sym s)))
  rest h x ps e d (inr i) = i

  pub middle : (b h : ℕ) (ps : List ℕ) → h ≢ suc p → IsIn p ps → IsChain marks words k b h ps → Middle ps
  middle b h [] d i c = absurd i
  middle b h (x ∷ []) d i c = absurd (rest h x [] c.0 d i)
  middle b h (x ∷ y ∷ ys) d i c =
      let t : IsChain marks words k (suc x) (get_or words (x * 4) 0) (y ∷ ys) = c.5 in
      by_eq p y
      (λ e. let back : get_or words (y * 4 + 1) 0 ≡ suc x = t.4 (omega arith) in
      record {
        before = x;
        is = ap (λ j. get_or words (j * 4 + 1) 0) e ∙ back;
        there = inl refl;
        after = λ q n. inr (inr (follows (suc y) (get_or words (y * 4) 0) ys t.5 q (sym (ap (λ j. get_or words (j * 4) 0) e) ∙ n)));
      })
      (λ o. let g = t.0 in
      let r = middle (suc x) (get_or words (x * 4) 0) (y ∷ ys) (λ f. o (omega (arith, f, g))) (rest h x (y ∷ ys) c.0 d i) t in
      record { before = r.before; is = r.is; there = inr r.there; after = λ q n. inr (r.after q n) })

  -- ---- it is taken out: a, the one before it, gets its next one, and that one leads back to a
  module _ (marks' words' : List ℕ) (a : ℕ) (back : get_or words (p * 4 + 1) 0 ≡ suc a) (len : length marks' ≡ length marks)
      (others : (q : ℕ) → q ≢ p → get_or marks' q 0 ≡ get_or marks q 0)
      (nexts : (q : ℕ) → q ≢ a → get_or words' (q * 4) 0 ≡ get_or words (q * 4) 0)
      (here : get_or words' (a * 4) 0 ≡ next)
      (backs : (q : ℕ) → next ≢ suc q → get_or words' (q * 4 + 1) 0 ≡ get_or words (q * 4 + 1) 0)
      (turned : (q : ℕ) → next ≡ suc q → q < length marks → get_or words' (q * 4 + 1) 0 ≡ suc a) where
    pub record Pulled (b h : ℕ) (ps : List ℕ) : Type 0 where
      pub left : List ℕ
      pub chain : IsChain marks' words' k b h left
      pub all : (q : ℕ) → q ≢ p → IsIn q ps → IsIn q left
      pub within : (q : ℕ) → IsIn q left → IsIn q ps

    pub pulled : (b h : ℕ) (ps : List ℕ) → h ≢ suc p → IsIn p ps → IsChain marks words k b h ps → Pulled b h ps
    pulled b h [] d i c = absurd i
    pulled b h (x ∷ []) d i c = absurd (rest h x [] c.0 d i)
    pulled b h (x ∷ y ∷ ys) d i c =
        let t : IsChain marks words k (suc x) (get_or words (x * 4) 0) (y ∷ ys) = c.5 in
        let x_p : x ≢ p = λ e. d (c.0 ∙ ap suc e) in
        by_eq p y
        (λ e. let back_x : get_or words (y * 4 + 1) 0 ≡ suc x = t.4 (omega arith) in
        let same_a : a ≡ x = let f = ap (λ j. get_or words (j * 4 + 1) 0) e in omega (arith, back, back_x, f) in
        let next_y : get_or words (y * 4) 0 ≡ next = sym (ap (λ j. get_or words (j * 4) 0) e) in
        let f : IsChain marks words k (suc y) next ys = subst (λ g. IsChain marks words k (suc y) g ys) next_y t.5 in
        let in_ys : (q : ℕ) → next ≡ suc q → IsIn q ys = follows (suc y) next ys f in
        record {
          left = x ∷ ys;
          chain = (
            c.0,
            omega (arith, c.1, len),
            others x x_p ∙ c.2,
            λ j. c.3 (inr j),
            λ some. backs x (λ n. c.3 (inr (in_ys x n))) ∙ c.4 some,
            subst (λ g. IsChain marks' words' k (suc x) g ys) (sym (sym (ap (λ j. get_or words' (j * 4) 0) same_a) ∙ here))
                (chain-after marks words marks' words' k len (suc y) (suc x) next ys
                (λ q j n. (
                  others q (λ g. t.3 (subst (λ v. IsIn v ys) (g ∙ e) j)),
                  nexts q (λ g. c.3 (inr (subst (λ v. IsIn v ys) (g ∙ same_a) j))),
                  backs q n,
                ))
                (λ q j n. (
                  others q (λ g. t.3 (subst (λ v. IsIn v ys) (g ∙ e) j)),
                  nexts q (λ g. c.3 (inr (subst (λ v. IsIn v ys) (g ∙ same_a) j))),
                  turned q n (chain-marked marks words k (suc y) next ys f q j).0 ∙ ap suc same_a,
                )) f),
          );
          all = λ q o j. elim j as (λ _. IsIn q (x ∷ ys)) [
            | inl s ↦ inl s
            | inr (inl s) ↦ absurd (o (s ∙ sym e))
            | inr (inr s) ↦ inr s
          ];
          within = λ q j. elim j as (λ _. IsIn q (x ∷ y ∷ ys)) [ inl s ↦ inl s | inr s ↦ inr (inr s) ];
        })
        (λ o. let g = t.0 in
        let r = pulled (suc x) (get_or words (x * 4) 0) (y ∷ ys) (λ f. o (omega (arith, f, g))) (rest h x (y ∷ ys) c.0 d i) t in
        let m = middle (suc x) (get_or words (x * 4) 0) (y ∷ ys) (λ f. o (omega (arith, f, g))) (rest h x (y ∷ ys) c.0 d i) t in
        let x_a : x ≢ a = λ f. c.3 (subst (λ j. IsIn j (y ∷ ys)) (let u = m.is in omega (arith, f, u, back)) m.there) in
        record {
          left = x ∷ r.left;
          chain = (
            c.0,
            omega (arith, c.1, len),
            others x x_p ∙ c.2,
            λ j. c.3 (r.within x j),
            λ some. backs x (λ n. c.3 (m.after x n)) ∙ c.4 some,
            subst (λ v. IsChain marks' words' k (suc x) v r.left) (sym (nexts x x_a)) r.chain,
          );
          all = λ q f j. elim j as (λ _. IsIn q (x ∷ r.left)) [ inl s ↦ inl s | inr s ↦ inr (r.all q f s) ];
          within = λ q j. elim j as (λ _. IsIn q (x ∷ y ∷ ys)) [ inl s ↦ inl s | inr s ↦ inr (r.within q s) ];
        })
