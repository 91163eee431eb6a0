-- A map whose chains are cleared one after another, and then its JudyL.
--     IsPartly H a now w place found count     so many chains are cleared, with so many keys; found is the next
--     partly-start, partly-next, partly-end    before the first chain, after one more, after all
use Rattle.std.proofs.Common.{◌≡◌, ℕ, suc, ◌+◌, ◌<◌, ◌≤◌, true, false, cond, ◌∷◌, List, [], ◌++◌, length, Option, Some, None}
use Rattle.std.proofs.Common.{ap, sym, ◌∙◌, refl, subst, arith, unwrap_or, length-append, ◌==◌, ◌||◌, Bool}
use Rattle.std.specs.Prelude.{nat_le, nat_lt}
use Rattle.std.proofs.lemmas.Bool.Decides.{nat_tests}
use Rattle.std.proofs.lemmas.List.Elements.{filter_agree}
use Rattle.std.proofs.lemmas.Option.{none-some}
use Rattle.std.specs.declared.cmp.Ordering.TheVariants.{Less, Equal, Greater}
use Rattle.std.specs.Ordering.{nat_cmp, is_eq, is_ge, is_gt}
use Rattle.std.specs.FinMap.Entries.{by_order}
use Rattle.judy_arena.specs.Blocks.{Blocks, block, without}
use Rattle.judy_arena.specs.Frame.{holds, Frame}
use Rattle.judy_arena.specs.Totals.{are_distinct}
use Rattle.judy_arena.proofs.lemmas.FrameLaws.{frame-stays, frame-then, frame-release, joint, both}
use Rattle.judy_arena.proofs.lemmas.BlockLaws.{block-without, apart}
use Rattle.judy_refs.specs.References.{block_of}
use Rattle.judy_bytes.specs.Buckets.{next_of}
use Rattle.judy_model.specs.Contents.{Entries, word_order, string_order, value_of, with_entry, first, next, head_of}
use Rattle.judy_model.proofs.lemmas.WordLemmas.{is_ge-words, is_gt-words}
use Rattle.judy_tree.proofs.lemmas.Counts.{pigeons}
use Rattle.judy_words.specs.LongArrays.{IsLongArray, long_in, long_numbers}
use Rattle.judy_tree.specs.Nodes.{joined}
use Rattle.judy_tree.specs.Parts.{from}
use Rattle.judy_tree.proofs.lemmas.Clearing.{IsCleared, cleared-start, cleared-next, cleared-end, child-apart, own-not-gone, from-zero, next-from, found-from}
use Rattle.judy_bytes.specs.Chains.{ByteEntries, chain, HasEachOnce, IsBucketChain}
use Rattle.judy_bytes.specs.BytesArrays.{bucket_numbers, in_order, bytes_in, bytes_numbers, IsBytesArray}
use Rattle.judy_bytes.proofs.Below.{words-rise, words-kept, words-live, words-none, words-empty}
use Rattle.judy_bytes.proofs.Counts.{entries-length, numbers-once, few-keys}
use Rattle.judy_bytes.proofs.Links.{begins, Stays, chain-stays, all-live, all-low}
use Rattle.judy_bytes.proofs.Numbers.{found-ordered}
use Rattle.judy_bytes.proofs.Space.{once}

-- ---- counts

put-new : (l : ByteEntries) (key : List ℕ) (v : ℕ) → value_of string_order l key ≡ None → length (with_entry string_order l key v) ≡ suc (length l)
put-new [] key v h = refl
put-new (e ∷ l) key v h = elim (string_order key e.0) as (λ o. cond (is_eq o) (Some e.1) (value_of string_order l key) ≡ None
    → length (by_order o ((key, v) ∷ e ∷ l) ((e.0, v) ∷ l) (e ∷ with_entry string_order l key v)) ≡ suc (suc (length l))) [
      | Less ↦ λ k. refl
      | Equal ↦ λ k. absurd (none-some _ (sym k))
      | Greater ↦ λ k. ap suc (put-new l key v k)
    ] h

ordered-same : (es : ByteEntries) → HasEachOnce es → length (in_order es) ≡ length es
ordered-same [] h = refl
ordered-same (e ∷ es) h = put-new (in_order es) e.0 e.1 (found-ordered es e.0 ∙ h.0) ∙ ap suc (ordered-same es h.1)

gathered : (b : Blocks) (es : Entries ℕ) → bucket_numbers b es ≡ joined (chain b) es
gathered b [] = refl
gathered b (e ∷ es) = ap (λ l. chain b e.1 ++ l) (gathered b es)

whole-numbers : (b : Blocks) (w : ℕ) → bytes_numbers b w ≡ long_numbers b w ++ joined (chain b) (long_in b w)
unfolding bytes_numbers
whole-numbers b w = ap (λ l. long_numbers b w ++ l) (gathered b (long_in b w))

whole-count : (H : List ℕ → ℕ) (b : Blocks) (w : ℕ) → IsBytesArray H b w → length (bytes_in b w) ≡ length (joined (chain b) (long_in b w))
unfolding bytes_in
whole-count H b w h = ordered-same _ (once H b w h) ∙ entries-length b (bucket_numbers b (long_in b w)) ∙ ap length (gathered b (long_in b w))

-- ---- searches

pub first-is : (es : Entries ℕ) (x : ℕ) → first word_order es x ≡ head_of (from x es)
first-is es x = ap head_of (filter_agree (λ (e : ℕ × ℕ). is_ge (nat_cmp e.0 x)) (λ e. nat_le x e.0) (λ e. is_ge-words e.0 x) es)

pub next-is : (es : Entries ℕ) (x : ℕ) → next word_order es x ≡ head_of (from (suc x) es)
next-is es x = ap head_of (filter_agree (λ (e : ℕ × ℕ). is_gt (nat_cmp e.0 x)) (λ e. nat_le (suc x) e.0) (λ e. is_gt-words e.0 x ∙ above e.0) es)
  where
    above : (a : ℕ) → nat_lt x a ≡ nat_le (suc x) a
    above a = grind (arith, nat_tests)

no_head : (es : Entries ℕ) → head_of es ≡ None → es ≡ []
no_head [] h = refl
no_head (e ∷ es) h = cc

none-left : (es : Entries ℕ) → length es ≡ 0 → head_of es ≡ None
none-left [] h = refl
none-left (e ∷ es) h = absurd (omega arith)

-- ---- the chains below a hash word are gone

-- so many chains are cleared, which had so many keys; found is the next entry of the JudyL
pub record IsPartly (H : List ℕ → ℕ) (a now : Blocks) (w place : ℕ) (found : Option (ℕ × ℕ)) (count : ℕ) : Type 0 where
  pub low : ℕ
  pub next : found ≡ head_of (from low (long_in a w))
  pub placed : place + length (from low (long_in a w)) ≡ length (long_in a w)
  pub cleared : IsCleared (chain a) (long_numbers a w) (long_in a w) a now low
  pub counted : count + length (joined (chain a) (from low (long_in a w))) ≡ length (joined (chain a) (long_in a w))

module _ (H : List ℕ → ℕ) (a : Blocks) (w : ℕ) (h : IsBytesArray H a w) where
  pub partly-start : (found : Option (ℕ × ℕ)) → found ≡ first word_order (long_in a w) 0 → IsPartly H a a w 0 found 0
  partly-start found is = let all = from-zero (long_in a w) in let n = ap length all in
      let m = ap (λ l. length (joined (chain a) l)) all in
      record {
        low = 0;
        next = is ∙ first-is (long_in a w) 0;
        placed = omega (arith, n);
        cleared = cleared-start (chain a) (long_numbers a w) (long_in a w) a (ap are_distinct (sym (whole-numbers a w)) ∙ numbers-once H a w h);
        counted = omega (arith, m);
      }

  -- the JudyL is as it was
  words-under : (b : Blocks) (low : ℕ) → IsCleared (chain a) (long_numbers a w) (long_in a w) a b low
      → IsLongArray b w × (long_in b w ≡ long_in a w) × (long_numbers b w ≡ long_numbers a w)
  words-under b low c = words-kept a b w h.words (λ q k. (frame-stays a b c.gone [] q c.frame (words-live a w h.words q k)
      (own-not-gone (chain a) (long_numbers a w) (long_in a w) a b low c q k)).1)

  module _ (now : Blocks) (place : ℕ) (found : Option (ℕ × ℕ)) (count : ℕ) (p : IsPartly H a now w place found count) where
    pub words-here : IsLongArray now w × (long_in now w ≡ long_in a w) × (long_numbers now w ≡ long_numbers a w)
    words-here = words-under now p.low p.cleared

    pub none-yet : place < length (long_in a w) → found ≡ None → ⊥
    none-yet less is =
        let n = p.placed in
        let z = ap length (no_head (from p.low (long_in a w)) (sym p.next ∙ is)) in
        let f : place < place = omega (arith, less, n, z) in
        omega (arith, f)

    -- after all chains the JudyL is released
    pub partly-end : (d : Blocks) → place ≡ length (long_in a w) → Frame now d (long_numbers now w) [] → Frame a d (bytes_numbers a w) []
    partly-end d last f =
        let n = p.placed in
        let none : head_of (from p.low (long_in a w)) ≡ None = none-left (from p.low (long_in a w)) (omega (arith, n, last)) in
        subst (λ l. Frame a d l []) (sym (whole-numbers a w))
        (cleared-end (chain a) (long_numbers a w) (long_in a w) a now d p.low none p.cleared
        (subst (λ l. Frame now d l []) words-here.2 f))

    pub partly-count : place ≡ length (long_in a w) → count ≡ length (bytes_in a w)
    partly-count last =
        let n = p.placed in
        let none : head_of (from p.low (long_in a w)) ≡ None = none-left (from p.low (long_in a w)) (omega (arith, n, last)) in
        let z = ap (λ l. length (joined (chain a) l)) (no_head (from p.low (long_in a w)) none) in
        let c = p.counted in
        let all = whole-count H a w h in
        omega (arith, z, c, all)

    module _ (e : ℕ × ℕ) (is : found ≡ Some e) where
      there : head_of (from p.low (long_in a w)) ≡ Some e
      there = sym p.next ∙ is

      rest : from p.low (long_in a w) ≡ e ∷ from (suc e.0) (long_in a w)
      rest = (next-from p.low (long_in a w) e (words-rise a w h.words) there).1

      whole : IsBucketChain a e.1
      whole = subst (IsBucketChain a) (ap (λ o. unwrap_or o 0) (found-from p.low (long_in a w) e (words-rise a w h.words) there)) (h.chains e.0)

      -- the next chain is as it was
      pub chain-here : Stays a now e.1
      chain-here = chain-stays a now e.1 whole (λ q k. (frame-stays a now p.cleared.gone [] q p.cleared.frame
          (all-live a e.1 (chain a e.1) whole.linked q k)
          (child-apart (chain a) (long_numbers a w) (long_in a w) a now now p.low e.0 e.1 (words-rise a w h.words) there p.cleared q k)).1)

      module _ (d : Blocks) (m : ℕ) (f : Frame now d (chain now e.1) []) (many : m ≡ length (chain now e.1)) where
        more : IsCleared (chain a) (long_numbers a w) (long_in a w) a d (suc e.0)
        more = cleared-next (chain a) (long_numbers a w) (long_in a w) a now d p.low e.0 e.1 (words-rise a w h.words) there p.cleared
            (subst (λ l. Frame now d l []) chain-here.chain_is f)

        size : length (joined (chain a) (from p.low (long_in a w))) ≡ m + length (joined (chain a) (from (suc e.0) (long_in a w)))
        size =
            let s = ap (λ l. length (joined (chain a) l)) rest in
            let t = length-append (chain a e.1) (joined (chain a) (from (suc e.0) (long_in a w))) in
            let u = ap length chain-here.chain_is in
            omega (arith, s, t, u, many)

        -- the JudyL is still as it was
        pub words-then : IsLongArray d w × (long_in d w ≡ long_in a w) × (long_numbers d w ≡ long_numbers a w)
        words-then = words-under d (suc e.0) more

        -- one chain more is cleared
        pub partly-next : (found' : Option (ℕ × ℕ)) → found' ≡ next word_order (long_in d w) e.0 → IsPartly H a d w (place + 1) found' (count + m)
        partly-next found' next_is = let n = p.placed in let k = ap length rest in let c = p.counted in record {
          low = suc e.0;
          next = next_is ∙ ap (λ l. next word_order l e.0) words-then.1 ∙ next-is (long_in a w) e.0;
          placed = omega (arith, n, k);
          cleared = more;
          counted = omega (arith, c, size);
        }

        -- the count is small
        pub few-so-far : count + m ≤ 4294967296
        few-so-far =
            let c = p.counted in
            let all = whole-count H a w h in
            let few = few-keys H a w h in
            omega (arith, c, size, all, few)

-- ---- one chain

one_number : (s t : Bool) → (s || t) ≡ joint (s || false) false t
one_number true t = refl
one_number false true = refl
one_number false false = refl

module _ (a : Blocks) (w n : ℕ) (h : IsBucketChain a w) (is : block_of w ≡ Some n) (c : Blocks) (e : c ≡ without a n) where
  -- the rest of the chain is as it was
  pub rest-stays : Stays a c (next_of a n)
  rest-stays = chain-stays a c (next_of a n) (begins a w n h is).tail (λ q k.
      ap (λ x. block x q) e ∙ block-without a n q
      ∙ ap (λ t. cond t None (block a q)) (apart q n (λ i. both q (chain a (next_of a n)) k
      (ap (λ z. holds z (chain a (next_of a n))) i ∙ (begins a w n h is).out))))

  -- and then it is released
  pub all-gone : (d : Blocks) → Frame c d (chain c (next_of a n)) [] → Frame a d (chain a w) []
  all-gone d g =
      frame-then a c d (n ∷ []) [] (chain c (next_of a n)) [] (chain a w) []
      (subst (λ x. Frame a x (n ∷ []) []) (sym e) (frame-release a n)) g
      (λ q. ap (holds q) ((begins a w n h is).whole ∙ ap (λ l. n ∷ l) (sym rest-stays.chain_is))
      ∙ one_number (q == n) (holds q (chain c (next_of a n)))) (λ q. refl)

  pub all-counted : (m : ℕ) → m ≡ length (chain c (next_of a n)) → m + 1 ≡ length (chain a w)
  all-counted m k =
      let s = ap length rest-stays.chain_is in
      let t = ap length (begins a w n h is).whole in
      omega (arith, k, s, t)

-- a chain has at most so many buckets
pub chain-few : (a : Blocks) (w : ℕ) → IsBucketChain a w → length (chain a w) ≤ 4294967296
chain-few a w h = pigeons 4294967296 (chain a w) h.once (all-low a w (chain a w) h.linked)

-- ---- nothing is left

pub no-numbers : (b : Blocks) (w : ℕ) → w ≡ 0 → bytes_numbers b w ≡ []
unfolding bytes_numbers
no-numbers b w e =
    ap (λ v. long_numbers b v ++ bucket_numbers b (long_in b v)) e
    ∙ ap (λ l. l ++ bucket_numbers b (long_in b 0)) (words-none b).2 ∙ ap (bucket_numbers b) (words-none b).1

-- the JudyL was cleared
pub words-gone : (a d : Blocks) (w x : ℕ) → IsLongArray d x → long_in d x ≡ [] → Frame a d (long_numbers a w) (long_numbers d x)
    → Frame a d (long_numbers a w) []
words-gone a d w x sound none f = subst (Frame a d (long_numbers a w)) (ap (long_numbers d) (words-empty d x sound none) ∙ (words-none d).2) f
