-- A word array whose root is a branch is cleared part by part. Each part is a word array of its own,
-- and a sound one over its nodes.
use Rattle.std.proofs.Common.{◌≡◌, ℕ, suc, ◌+◌, ◌<◌, ◌≤◌, Bool, true, false, cond, List, [], ◌∷◌, ◌++◌, length}
use Rattle.std.proofs.Common.{Some, None, ap, sym, ◌∙◌, refl, subst, arith, length-append, ◌||◌}
use Rattle.std.specs.Prelude.{nat_lt}
use Rattle.std.proofs.lemmas.Bool.{false_from_ne_true}
use Rattle.judy_arena.specs.Blocks.{Blocks, block}
use Rattle.judy_arena.specs.Frame.{holds, Frame}
use Rattle.judy_arena.specs.Totals.{are_distinct}
use Rattle.judy_arena.proofs.lemmas.BlockLaws.{itself}
use Rattle.judy_arena.proofs.lemmas.FrameLaws.{frame-stays, in-left}
use Rattle.judy_model.specs.Contents.{Entries, word_order, value_of, head_of}
use Rattle.judy_model.proofs.lemmas.TestLemmas.{not_both}
use Rattle.judy_tree.specs.Nodes.{is_branch, joined, depth}
use Rattle.judy_tree.specs.Parts.{parts, from, root_number}
use Rattle.judy_tree.specs.Root.{entries, numbers as own_numbers}
use Rattle.judy_tree.proofs.lemmas.BranchLaws.{branch-kept, Kept as BranchKept, branch-live}
use Rattle.judy_tree.proofs.lemmas.Clearing.{IsCleared, cleared-start, cleared-next, cleared-end, child-apart, own-not-gone, next-from, found-from, from-zero}
use Rattle.judy_tree.proofs.lemmas.PartLaws.{part-root, part-deeper, part-byte, part-found, part-blocks}
use Rattle.judy_tree.proofs.lemmas.Joins.{times, times-append, holds-times, distinct-times, times-distinct}
use Rattle.judy_tree.proofs.lemmas.Trees.{Top, root-top, root-kept}
use Rattle.judy_string.specs.Strings.{Strings, part, joined_strings, part_numbers, nested_content_at, nested_numbers_at, Leads}
use Rattle.judy_string.proofs.Clears.{joined-both}
use Rattle.judy_string.proofs.Counts.{strings-few}
use Rattle.judy_string.proofs.Nests.{Nest, nest-kind, nest-content, nest-numbers, node-once, array-of}
use Rattle.judy_string.proofs.Numbers.{IsKept, array-kept, all-live}

no_more : (low : ℕ) (cs : Entries ℕ) → head_of (from low cs) ≡ None → from low cs ≡ []
no_more low cs = none (from low cs)
  where
    none : (l : Entries ℕ) → head_of l ≡ None → l ≡ []
    none [] e = refl
    none (c ∷ l) e = cc

module _ (r : ℕ) (a : Blocks) where
  -- the blocks of a word array and of all nodes below it
  abbrev pub all_under : ℕ → List ℕ
  all_under c = own_numbers a c ++ joined_strings (part_numbers (nested_numbers_at r a)) (entries true a c)

  abbrev pub strings_under : ℕ → Strings
  strings_under c = joined_strings (part (nested_content_at r a)) (entries true a c)

  times_parts : (q : ℕ) (cs : Entries ℕ) → times q (joined (own_numbers a) cs)
      + times q (joined_strings (part_numbers (nested_numbers_at r a)) (joined (entries true a) cs)) ≡ times q (joined all_under cs)
  times_parts q [] = omega arith
  times_parts q (k ∷ cs) =
      let i = times_parts q cs in
      let o = times-append q (own_numbers a k.1) (joined (own_numbers a) cs) in
      let s = ap (times q) (joined-both (part_numbers (nested_numbers_at r a)) (entries true a k.1) (joined (entries true a) cs)) in
      let t = times-append q (joined_strings (part_numbers (nested_numbers_at r a)) (entries true a k.1))
      (joined_strings (part_numbers (nested_numbers_at r a)) (joined (entries true a) cs)) in
      let u = times-append q (all_under k.1) (joined all_under cs) in
      let v = times-append q (own_numbers a k.1) (joined_strings (part_numbers (nested_numbers_at r a)) (entries true a k.1)) in
      omega (arith, i, o, s, t, u, v)

  strings_parts : (cs : Entries ℕ) → joined_strings (part (nested_content_at r a)) (joined (entries true a) cs) ≡ joined strings_under cs
  strings_parts [] = refl
  strings_parts (k ∷ cs) = joined-both (part (nested_content_at r a)) (entries true a k.1) (joined (entries true a) cs)
      ∙ ap (λ l. strings_under k.1 ++ l) (strings_parts cs)

  -- the parts below low are gone, and they had this many strings
  pub record IsPartly (w : ℕ) (b : Blocks) (low count : ℕ) : Type 0 where
    pub cleared : IsCleared all_under (root_number w ∷ []) (parts a w) a b low
    pub counted : count + length (joined strings_under (from low (parts a w))) ≡ length (nested_content_at (suc r) a w)

  module _ (w : ℕ) (n : Nest r a w) (is : is_branch w ≡ true) where
    top : Top true a w
    top = root-top true a w is n.root

    abbrev kids : Entries ℕ
    kids = parts a w

    abbrev own : List ℕ
    own = root_number w ∷ []

    module _ (x c : ℕ) (at : value_of word_order kids x ≡ Some c) where
      found_up : (k v : ℕ) → value_of word_order (entries true a c) k ≡ Some v → value_of word_order (entries true a w) k ≡ Some v
      found_up = part-found true a w is n.root x c at

      leads_up : (k v : ℕ) → Leads a c k v → Leads a w k v
      leads_up k v l = record { found = found_up k v l.found; more = l.more }

      -- a part of a sound array is sound
      pub part-nest : Nest r a c
      part-nest = record {
        root = part-root true a w is n.root x c at;
        spelt = λ k v i. n.spelt k v (found_up k v i);
        short = λ k v i. n.short k v (found_up k v i);
        sound = λ k v l. n.sound k v (leads_up k v l);
        filled = λ k v l. n.filled k v (leads_up k v l);
        own_apart = λ k v q l i. false_from_ne_true _ (λ gone.
            not_both (holds q (own_numbers a w)) (part-blocks true a w is n.root x c at q gone) (n.own_apart k v q (leads_up k v l) i));
        apart = λ k l u v q i j s t. n.apart k l u v q (leads_up k u i) (leads_up l v j) s t;
      }

      part_numbers_are : nested_numbers_at (suc r) a c ≡ all_under c
      part_numbers_are = nest-numbers r a c (nest-kind r a c part-nest)

      part_strings_are : nested_content_at (suc r) a c ≡ strings_under c
      part_strings_are = nest-content r a c (nest-kind r a c part-nest)

    -- the branch and its parts have all blocks of the array
    all_times : (q : ℕ) → times q (nested_numbers_at (suc r) a w) ≡ times q (own ++ joined all_under kids)
    all_times q =
        let s = ap (times q) (nest-numbers r a w (nest-kind r a w n)) in
        let t = times-append q (own_numbers a w) (joined_strings (part_numbers (nested_numbers_at r a)) (entries true a w)) in
        let o = ap (times q) top.blocks in
        let e = ap (λ es. times q (joined_strings (part_numbers (nested_numbers_at r a)) es)) top.content in
        let p = times_parts q kids in
        omega (arith, s, t, o, e, p)

    all_held : (q : ℕ) → holds q (nested_numbers_at (suc r) a w) ≡ holds q (own ++ joined all_under kids)
    all_held q = holds-times q (nested_numbers_at (suc r) a w) ∙ ap (nat_lt 0) (all_times q) ∙ sym (holds-times q (own ++ joined all_under kids))

    all_once : are_distinct (own ++ joined all_under kids) ≡ true
    all_once = times-distinct (own ++ joined all_under kids) (λ q.
        let t = all_times q in
        let d = distinct-times (nested_numbers_at (suc r) a w) (node-once (suc r) a w (array-of r a w n)) q in
        omega (arith, t, d))

    all_strings : length (nested_content_at (suc r) a w) ≡ length (joined strings_under kids)
    all_strings = ap length (nest-content r a w (nest-kind r a w n)
        ∙ ap (joined_strings (part (nested_content_at r a))) top.content ∙ strings_parts kids)

    -- the root chooses by a byte
    pub root-high : depth a w < 8
    unfolding depth
    root-high = high (is_branch w) _ is top.view.level
      where
        high : (t : Bool) (l : ℕ) → t ≡ true → l ≤ 6 → cond t l 8 < 8
        high true l e few = omega (arith, few)
        high false l e few = absurd (not_both false e refl)

    pub partly-start : IsPartly w a 0 0
    partly-start = record {
      cleared = cleared-start all_under own kids a all_once;
      counted = let z = ap (λ l. length (joined strings_under l)) (from-zero kids) in let s = all_strings in omega (arith, z, s);
    }

    module _ (b : Blocks) (low count : ℕ) (h : IsPartly w b low count) where
      -- the branch is as it was
      pub own-here : BranchKept a b w
      own-here = branch-kept a b w top.branch
          (frame-stays a b h.cleared.gone [] (root_number w) h.cleared.frame (branch-live a w top.branch)
          (own-not-gone all_under own kids a b low h.cleared (root_number w) (ap (λ t. t || false) (itself (root_number w))))).1

      -- the whole is gone
      pub partly-end : (d : Blocks) → head_of (from low (parts b w)) ≡ None → Frame b d own []
          → Frame a d (nested_numbers_at (suc r) a w) [] × (count ≡ length (nested_content_at (suc r) a w))
      partly-end d e g =
          let none : head_of (from low kids) ≡ None = ap (λ z. head_of (from low z.children)) (sym own-here.view) ∙ e in
          let f = cleared-end all_under own kids a b d low none h.cleared g in
          let c = h.counted in
          let z = ap (λ l. length (joined strings_under l)) (no_more low kids none) in (
            record {
              outside = λ q out. f.outside q out ∙ ap (λ t. cond t None (block a q)) (sym (all_held q));
              inside = λ q yes_. absurd (not_both false yes_ refl);
              fresh = λ q yes_. absurd (not_both false yes_ refl);
            },
            omega (arith, c, z),
          )

      module _ (x c : ℕ) (e : head_of (from low (parts b w)) ≡ Some (x, c)) where
        there : head_of (from low kids) ≡ Some (x, c)
        there = ap (λ z. head_of (from low z.children)) (sym own-here.view) ∙ e

        found : value_of word_order kids x ≡ Some c
        found = found-from low kids (x, c) top.view.rising there

        untouched : (q : ℕ) → holds q (nested_numbers_at (suc r) a c) ≡ true → block b q ≡ block a q
        untouched q k = (frame-stays a b h.cleared.gone [] q h.cleared.frame
            (all-live (suc r) a c (array-of r a c (part-nest x c found)) q k)
            (child-apart all_under own kids a b b low x c top.view.rising there h.cleared q
            (ap (holds q) (sym (part_numbers_are x c found)) ∙ k))).1

        -- the part is as it was
        pub here : IsKept (suc r) a b c
        here = array-kept (suc r) a b c (array-of r a c (part-nest x c found)) untouched

        -- its root is further down
        pub deeper : depth a w < depth b c
        deeper =
            let k = root-kept true a b c (part-root true a w is n.root x c found) (λ q o. untouched q (ap (holds q) (part_numbers_are x c found)
            ∙ in-left q (own_numbers a c) (joined_strings (part_numbers (nested_numbers_at r a)) (entries true a c)) o)) in
            let d = k.deep in
            let l = part-deeper true a w is n.root x c found in
            omega (arith, d, l)

        -- its byte is from low on, and a byte
        pub above : low ≤ x
        above = (next-from low kids (x, c) top.view.rising there).0

        pub byte : x < 256
        byte = part-byte true a w is n.root x c found

        rest_count : (m : ℕ) → m ≡ length (nested_content_at (suc r) b c)
            → count + m + length (joined strings_under (from (suc x) kids)) ≡ length (nested_content_at (suc r) a w)
        rest_count m same =
            let t = h.counted in
            let s = ap (λ l. length (joined strings_under l)) (next-from low kids (x, c) top.view.rising there).1 in
            let l = length-append (strings_under c) (joined strings_under (from (suc x) kids)) in
            let k = ap length (here.content ∙ part_strings_are x c found) in
            omega (arith, t, s, l, k, same)

        -- and it goes
        pub partly-next : (d : Blocks) (m low' : ℕ) → low' ≡ x + 1 → Frame b d (nested_numbers_at (suc r) b c) []
            → m ≡ length (nested_content_at (suc r) b c) → IsPartly w d low' (count + m)
        partly-next d m low' next g same =
            subst (λ l. IsPartly w d l (count + m)) (let i : suc x ≡ low' = omega (arith, next) in i) (record {
              cleared = cleared-next all_under own kids a b d low x c top.view.rising there h.cleared
                  (subst (λ l. Frame b d l []) (here.numbers ∙ part_numbers_are x c found) g);
              counted = rest_count m same;
            })

        -- the count is small
        pub partly-small : (m : ℕ) → m ≡ length (nested_content_at (suc r) b c) → count + m < 1152921504606846976
        partly-small m same =
            let f = strings-few (suc r) a w (array-of r a w n) in
            let t = rest_count m same in
            omega (arith, f, t)
