-- A block of zeros with a head: a branch with no child yet.
use Rattle.std.proofs.Common.{◌≡◌, ℕ, zero, suc, ◌+◌, ◌-◌, ◌*◌, ◌/◌, ◌%◌, ◌^◌, ◌<◌, ◌≤◌, cond, ◌==◌, List, [], ◌∷◌, take, drop, set, length, get_or}
use Rattle.std.proofs.Common.{replicate, Some, ap, sym, ◌∙◌, refl, subst, arith, length-set, get_or-set_same, get_or-set_other, eq-eqb}
use Rattle.std.proofs.lemmas.List.{get_or-drop}
use Rattle.std.proofs.lemmas.Nat.Bits.{bit_at-zero}
use Rattle.std.specs.Int.{bit_at}
use Rattle.std.specs.FinMap.{is_sorted}
use Rattle.std.specs.List.{list_all}
use Rattle.judy_arena.specs.Blocks.{Blocks, zeros}
use Rattle.judy_arena.specs.Room.{room}
use Rattle.judy_refs.specs.References.{word_of, kind_of_number, number_of}
use Rattle.judy_arena.proofs.lemmas.RoomLaws.{length-zeros}
use Rattle.judy_bitmap.specs.ByteSets.{members, has_bit}
use Rattle.judy_bitmap.proofs.lemmas.Places.{places-none}
use Rattle.judy_bitmap.proofs.lemmas.SetLemmas.{members-places}
use Rattle.judy_model.specs.Contents.{Entries, word_order, pairs}
use Rattle.judy_branch.specs.declared.shape.Shape.{Shape}
use Rattle.judy_branch.specs.declared.shape.Shape.TheVariants.{Linear, Bitmap, Full}
use Rattle.judy_branch.specs.Packed.{unpacked}
use Rattle.judy_branch.specs.Children.{numbered, count_in, level_in, child_bytes, refs_in, bitmap_in, children_in, least, used_words}
use Rattle.judy_branch.specs.Children.{shape_of, shape_by, kind_for, IsLaid, IsShaped, IsCounted, IsBuilt, is_child_entry}
use Rattle.judy_branch.specs.Branch.{IsBranch, IsBranchOf, View, IsShapedBy, branch_words}
use Rattle.judy_branch.specs.Written.{BranchBecomes}
use Rattle.judy_branch.proofs.Branches.{view-is}
use Rattle.judy_branch.proofs.Lists.{used-mono, laid-count}

replicated : (n i : ℕ) → get_or (replicate {A = ℕ} n 0) i 0 ≡ 0
replicated zero i = refl
replicated (suc n) zero = refl
replicated (suc n) (suc i) = replicated n i

zeros-at : (n i : ℕ) → get_or (zeros n) i 0 ≡ 0
unfolding zeros
zeros-at n i = replicated n i

at_take : (xs : List ℕ) (k i : ℕ) → ((j : ℕ) → get_or xs j 0 ≡ 0) → get_or (take k xs) i 0 ≡ 0
at_take xs zero i h = refl
at_take [] (suc k) i h = refl
at_take (x ∷ xs) (suc k) zero h = h 0
at_take (x ∷ xs) (suc k) (suc i) h = at_take xs k i (λ j. h (suc j))

numbered-none : (k : ℕ) (ws : List ℕ) → ((i : ℕ) → get_or ws i 0 ≡ 0) → numbered k ws ≡ []
numbered-none k [] h = refl
numbered-none k (w ∷ ws) h = ap (λ t. cond t (numbered (suc k) ws) ((k, w) ∷ numbered (suc k) ws)) (eq-eqb w 0 (h 0))
    ∙ numbered-none (suc k) ws (λ i. h (suc i))

pub no_members : (l : List ℕ) → ((i : ℕ) → get_or l i 0 ≡ 0) → members l ≡ []
no_members l h = members-places l ∙ places-none (has_bit l) 0 256 (λ i _ _. ap (λ w. bit_at w (i % 64) == 1) (h (i / 64))
    ∙ ap (λ b. b == 1) (bit_at-zero (i % 64)))

pub length_zeros : (n : ℕ) → length (zeros n) ≡ n
length_zeros n = length-zeros n

module _ (n l p m : ℕ) (some : 3 < n) where
  abbrev started : List ℕ
  started = set (set (set (zeros n) 0 (512 * l)) 1 p) 2 m

  started_length : length started ≡ n
  started_length = length-set (set (set (zeros n) 0 (512 * l)) 1 p) 2 m ∙ length-set (set (zeros n) 0 (512 * l)) 1 p
      ∙ length-set (zeros n) 0 (512 * l) ∙ length-zeros n

  started_first : get_or started 0 0 ≡ 512 * l
  started_first =
      get_or-set_other (set (set (zeros n) 0 (512 * l)) 1 p) 2 0 m 0 (omega arith) ∙ get_or-set_other (set (zeros n) 0 (512 * l)) 1 0 p 0 (omega arith)
      ∙ get_or-set_same (zeros n) 0 (512 * l) 0 (omega (arith, length-zeros n))

  started_second : get_or started 1 0 ≡ p
  started_second =
      get_or-set_other (set (set (zeros n) 0 (512 * l)) 1 p) 2 1 m 0 (omega arith)
      ∙ get_or-set_same (set (zeros n) 0 (512 * l)) 1 p 0 (omega (arith, length-set (zeros n) 0 (512 * l), length-zeros n))

  started_third : get_or started 2 0 ≡ m
  started_third = get_or-set_same (set (set (zeros n) 0 (512 * l)) 1 p) 2 m 0
      (omega (arith, length-set (set (zeros n) 0 (512 * l)) 1 p, length-set (zeros n) 0 (512 * l), length-zeros n))

  started_rest : (i : ℕ) → 2 < i → get_or started i 0 ≡ 0
  started_rest i h =
      get_or-set_other (set (set (zeros n) 0 (512 * l)) 1 p) 2 i m 0 (omega arith) ∙ get_or-set_other (set (zeros n) 0 (512 * l)) 1 i p 0 (omega arith)
      ∙ get_or-set_other (zeros n) 0 i (512 * l) 0 (omega arith) ∙ zeros-at n i

  started_count : count_in started ≡ 0
  started_count = ap (λ h. h % 512) started_first ∙ (let e : 512 * l % 512 ≡ 0 = omega arith in e)

  started_bits : members (bitmap_in started) ≡ []
  started_bits = no_members (bitmap_in started) at
    where
      at : (i : ℕ) → get_or (bitmap_in started) i 0 ≡ 0
      at zero = started_rest 3 (omega arith)
      at (suc zero) = started_rest 4 (omega arith)
      at (suc (suc zero)) = started_rest 5 (omega arith)
      at (suc (suc (suc zero))) = started_rest 6 (omega arith)
      at (suc (suc (suc (suc i)))) = refl

  pub started_children : (s : Shape) → children_in s started ≡ []
  unfolding children_in child_bytes unpacked
  started_children Linear = ap (λ k. pairs (unpacked k (get_or started 3 0)) (refs_in Linear started)) started_count
  started_children Bitmap = ap (λ l. pairs l (refs_in Bitmap started)) started_bits
  started_children Full = numbered-none 0 (take 256 (drop 3 started)) at
    where
      at : (i : ℕ) → get_or (take 256 (drop 3 started)) i 0 ≡ 0
      at i = at_take (drop 3 started) 256 i (λ j. get_or-drop 3 started j 0 ∙ started_rest (3 + j) (omega arith))

  started_counted : (s : Shape) → IsCounted s started
  unfolding child_bytes
  started_counted Linear = let e = started_rest 3 (omega arith) in let f = ap (λ n. 256 ^ n) started_count in omega arith
  started_counted Bitmap = ap length started_bits ∙ sym started_count
  started_counted Full = ap length (started_children Full) ∙ sym started_count

  pub started-laid : (s : Shape) (k : ℕ) → used_words s k ≤ n → IsLaid s started
  started-laid s k room =
      let c = started_count in
      let len = started_length in
      let u = used-mono s (count_in started) k (omega arith) in
      record {
        most = omega arith;
        room = omega arith;
        counted = started_counted s;
        rising = ap (is_sorted word_order) (started_children s);
        sound = ap (list_all is_child_entry) (started_children s);
      }

  pub started-built : (s : Shape) (ws : List ℕ) (list : Entries ℕ) → BranchBecomes s started ws list → IsBuilt s ws l p m list
  started-built s ws list b = record {
    laid = b.laid;
    level = b.head.level ∙ ap (λ h. h / 512) started_first ∙ (let e : 512 * l / 512 ≡ l = omega arith in e);
    prefix = b.head.prefix ∙ started_second;
    population = b.head.population ∙ started_third;
    children = b.children;
  }

-- ---- references to branches

pub shape-refer : (s : Shape) (n : ℕ) → n < 4294967296 → shape_of (word_of (kind_for s) n) ≡ Some s
unfolding shape_of
shape-refer Linear n h = let e : (4 * 4294967296 + n) / 4294967296 ≡ 4 = omega arith in ap (λ k. shape_by (kind_of_number k)) e
shape-refer Bitmap n h = let e : (5 * 4294967296 + n) / 4294967296 ≡ 5 = omega arith in ap (λ k. shape_by (kind_of_number k)) e
shape-refer Full n h = let e : (6 * 4294967296 + n) / 4294967296 ≡ 6 = omega arith in ap (λ k. shape_by (kind_of_number k)) e

pub number-refer : (s : Shape) (n : ℕ) → n < 4294967296 → number_of (word_of (kind_for s) n) ≡ n
number-refer Linear n h = omega arith
number-refer Bitmap n h = omega arith
number-refer Full n h = omega arith

abbrev a_view : ℕ → ℕ → ℕ → Entries ℕ → View
a_view l p m list = record { level = l; prefix = p; population = m; children = list }

-- what was built is a branch
pub built-branch : (b : Blocks) (w : ℕ) (s : Shape) (l p m : ℕ) (list : Entries ℕ) → shape_of w ≡ Some s → IsBuilt s (branch_words b w) l p m list
    → length (branch_words b w) ≡ room (used_words s (length list)) → l ≤ 6 → p % 2 ^ (64 - 8 * l) ≡ 0 → least s ≤ length list
    → IsBranchOf b w (record { level = l; prefix = p; population = m; children = list })
unfolding IsBranch
built-branch b w s l p m list e built size level prefix some =
    let n = laid-count s (branch_words b w) built.laid in
    let k = ap length built.children in
    let le = built.level in
    let count : count_in (branch_words b w) ≡ length list = omega arith in
    let shaped : IsShaped s (branch_words b w) = record {
      laid = built.laid;
      size = size ∙ ap (λ n. room (used_words s n)) (sym count);
      least = omega arith;
      level = omega arith;
      prefix = ap (λ p. p % 2 ^ (64 - 8 * level_in (branch_words b w))) built.prefix ∙ ap (λ l. p % 2 ^ (64 - 8 * l)) built.level ∙ prefix;
    } in
    record {
      branch = subst (λ o. IsShapedBy o (branch_words b w)) (sym e) shaped;
      view = view-is b w s e ∙ same_view built.level built.prefix built.population built.children;
    }
  where
    same_view : {l1 l2 p1 p2 m1 m2 : ℕ} {es1 es2 : Entries ℕ} → l1 ≡ l2 → p1 ≡ p2 → m1 ≡ m2 → es1 ≡ es2
        → a_view l1 p1 m1 es1 ≡ a_view l2 p2 m2 es2
    same_view a b c d = cc
