-- One level of a descent: what is found, and what each change makes of the whole.
use Rattle.std.proofs.Common.{◌≡◌, ◌≢◌, ℕ, zero, suc, ◌*◌, ◌<◌, ◌≤◌, true, false, cond, List, [], ◌∷◌, ◌++◌, take, drop}
use Rattle.std.proofs.Common.{length, Option, Some, None, ap, sym, ◌∙◌, refl, subst, arith}
use Rattle.std.specs.Ordering.{eq_by_cmp}
use Rattle.std.specs.Cmp.{nat_cmp_total}
use Rattle.std.specs.Cmp.Lexicographic.{nat_list_cmp_total}
use Rattle.std.specs.FinMap.Entries.{find-put}
use Rattle.std.proofs.lemmas.Bool.{false≢true as not_true}
use Rattle.std.proofs.lemmas.Option.{none-some}
use Rattle.judy_arena.specs.Blocks.{Blocks}
use Rattle.judy_arena.specs.Frame.{holds, Frame}
use Rattle.judy_arena.proofs.lemmas.FrameLaws.{frame-none}
use Rattle.judy_model.specs.Contents.{Entries, string_order, word_order, value_of, with_entry, without_key}
use Rattle.judy_model.proofs.lemmas.EntryLemmas.{word_itself, same_Some}
use Rattle.judy_model.proofs.lemmas.StateLemmas.{same_name}
use Rattle.judy_tree.specs.Root.{IsRoot, entries, numbers as own_numbers}
use Rattle.judy_tree.proofs.lemmas.Joins.{find-without as find_without_word, word_other, found-first}
use Rattle.judy_tree.proofs.lemmas.RootLaws.{none-root}
use Rattle.judy_string.proofs.Maps.{none-entries, none-numbers, no-entries}
use Rattle.judy_packing.specs.Packing.{pack, word_bytes, is_last, IsString}
use Rattle.judy_string.specs.Strings.{IsChanged, Strings, joined_strings, part, after, part_numbers, nested_content_at, nested_numbers_at, IsNestedAt, Leads}
use Rattle.judy_string.specs.Lookup.{then_in}
use Rattle.judy_packing.proofs.lemmas.Packs.{last-word, more-word, bytes-pack}
use Rattle.judy_string.specs.Suffixes.{suffix_entry}
use Rattle.judy_string.proofs.Nests.{Nest, node-cases, suffix-content, array-of, none-array, find-without, nest-content}
use Rattle.judy_string.proofs.Nests.{nest-numbers, string-found, string-spelt, Changes, content-with, content-without}
use Rattle.judy_string.proofs.Nests.{below_it, then_last, then_below}
use Rattle.judy_string.proofs.Attach.{root-stays, other-kept, new-kept, changed-nest, changed-frame}

pub few_bytes : (r : ℕ) (rest : List ℕ) → IsString rest → length rest ≤ 8 * r → length (word_bytes (pack rest)) ≤ 8 * r
few_bytes r rest is fit = omega (arith, ap length (bytes-pack 8 rest is), take_at_most 8 rest)
  where
    take_at_most : (n : ℕ) (s : List ℕ) → length (take n s) ≤ length s
    take_at_most zero s = omega arith
    take_at_most (suc n) [] = omega arith
    take_at_most (suc n) (c ∷ s) = let h = take_at_most n s in omega arith

-- an empty array
pub zero-array : (r : ℕ) (b : Blocks) → IsNestedAt (suc r) b 0 × (nested_content_at (suc r) b 0 ≡ []) × (nested_numbers_at (suc r) b 0 ≡ [])
zero-array r b =
    let no : entries true b 0 ≡ [] = none-entries true b 0 refl in
    let none : (k v : ℕ) → value_of word_order (entries true b 0) k ≡ Some v → ⊥ = λ k v h. none-some _ (sym (ap (λ es. value_of word_order es k) no) ∙ h) in (
      array-of r b 0 (record {
        root = none-root true b 0 refl;
        spelt = λ k v h. absurd (none k v h);
        short = λ k v h. absurd (none k v h);
        sound = λ k v l. absurd (none k v l.found);
        filled = λ k v l. absurd (none k v l.found);
        own_apart = λ k v q l i. absurd (none k v l.found);
        apart = λ k l u v q i j s t. absurd (none k u i.found);
      }),
      nest-content r b 0 refl ∙ ap (joined_strings (part (nested_content_at r b))) no,
      nest-numbers r b 0 refl ∙ ap (λ l. l ++ joined_strings (part_numbers (nested_numbers_at r b)) (entries true b 0))
          (none-numbers true b 0 refl) ∙ ap (joined_strings (part_numbers (nested_numbers_at r b))) no,
    )

-- one that holds something is not it
pub some-word : (r : ℕ) (b : Blocks) (w : ℕ) (s : List ℕ) (v : ℕ) → value_of string_order (nested_content_at (suc r) b w) s ≡ Some v → w ≢ 0
some-word r b w s v h e = none-some _ (sym (ap (λ l. value_of string_order l s) (ap (nested_content_at (suc r) b) e ∙ (zero-array r b).1)) ∙ h)

module _ (r : ℕ) (a : Blocks) (w : ℕ) (rest : List ℕ) (is : IsString rest) (fit : length rest ≤ 8 * r) (h : Nest r a w) where
  pub found-none : value_of word_order (entries true a w) (pack rest) ≡ None → value_of string_order (nested_content_at (suc r) a w) rest ≡ None
  found-none e = string-found r a w h rest is ∙ ap (then_in (nested_content_at r a) rest) e

  pub found-last : length rest < 8 → value_of string_order (nested_content_at (suc r) a w) rest ≡ value_of word_order (entries true a w) (pack rest)
  found-last short = string-found r a w h rest is ∙ then_last (nested_content_at r a) rest
      (value_of word_order (entries true a w) (pack rest)) (last-word rest is short)

  leads : (v : ℕ) → 8 ≤ length rest → value_of word_order (entries true a w) (pack rest) ≡ Some v → Leads a w (pack rest) v
  leads v long e = record { found = e; more = more-word rest is long }

  pub found-child : (v : ℕ) → 8 ≤ length rest → value_of word_order (entries true a w) (pack rest) ≡ Some v → IsNestedAt r a v
  found-child v long e = (h).sound (pack rest) v (leads v long e)

  pub found-inner : (v : ℕ) → 8 ≤ length rest → value_of word_order (entries true a w) (pack rest) ≡ Some v
      → value_of string_order (nested_content_at (suc r) a w) rest ≡ value_of string_order (nested_content_at r a v) (drop 8 rest)
  unfolding below_it
  found-inner v long e = string-found r a w h rest is ∙ then_below (nested_content_at r a) rest
      (value_of word_order (entries true a w) (pack rest)) (more-word rest is long)
      ∙ ap (λ o. below_it (nested_content_at r a) o (drop 8 rest)) e

  -- ---- the string's last word

  module _ (short : length rest < 8) (c : Blocks) (x : ℕ) (root : IsRoot true c x) (g : Frame a c (own_numbers a w) (own_numbers c x)) where
    not_inner : (b : Blocks) (y v : ℕ) → Leads b y (pack rest) v → ⊥
    not_inner b y v l = not_true (sym l.more ∙ last-word rest is short)

    none_held : (q : ℕ) → holds q [] ≡ true → ⊥
    none_held q i = not_true i

    module _ (new : Option ℕ) (found : (k : ℕ) → value_of word_order (entries true c x) k ≡ cond
        (eq_by_cmp word_order k (pack rest)) new (value_of word_order (entries true a w) k)) where
      last-nest : Nest r c x
      last-nest = changed-nest r a a w (pack rest) [] [] (h) (frame-none a) (λ v l. absurd (not_inner a w v l)) (λ q i. absurd (none_held q i))
          c x new (string-spelt rest is) (few_bytes r rest is fit) root g found (λ v l. absurd (not_inner c x v l)) (λ q i. absurd (none_held q i))

      last-frame : Frame a c (nested_numbers_at (suc r) a w) (nested_numbers_at (suc r) c x)
      last-frame = changed-frame r a a w (pack rest) [] [] (h) (frame-none a) (λ v l. absurd (not_inner a w v l)) (λ q i. absurd (none_held q i))
          c x new (string-spelt rest is) (few_bytes r rest is fit) root g found (λ v l. absurd (not_inner c x v l)) (λ q i. absurd (none_held q i))

      last-changes : Changes (nested_content_at r a) (nested_content_at r c) (entries true a w) (entries true c x) rest new
      last-changes = record {
        others = λ k ne. found k ∙ ap (λ t. cond t new (value_of word_order (entries true a w) k)) (word_other k (pack rest) ne);
        stay = λ k v ne i j. (other-kept r a a w (pack rest) [] [] (h) (frame-none a) (λ v l. absurd (not_inner a w v l)) (λ q i. absurd (none_held q i))
            c x new (string-spelt rest is) (few_bytes r rest is fit) root g found (λ v l. absurd (not_inner c x v l))
            (λ q i. absurd (none_held q i)) k v ne (record { found = i; more = j })).content;
        last = λ i. found (pack rest) ∙ ap (λ t. cond t new (value_of word_order (entries true a w) (pack rest))) (word_itself (pack rest));
        inner = λ i t. absurd (not_true (sym i ∙ last-word rest is short));
      }

    pub last-with : (v : ℕ) → entries true c x ≡ with_entry word_order (entries true a w) (pack rest) v → IsChanged (suc r) a c w
        x (with_entry string_order (nested_content_at (suc r) a w) rest v)
    last-with v e =
        let found : (k : ℕ) → value_of word_order (entries true c x) k ≡ cond (eq_by_cmp word_order k (pack rest)) (Some v)
        (value_of word_order (entries true a w) k) = λ k. ap (λ es. value_of word_order es k) e ∙ find-put word_order
        nat_cmp_total k (pack rest) v (entries true a w) in
        record {
          array = array-of r c x (last-nest (Some v) found);
          content = content-with r a c w x rest v is h
              (last-nest (Some v) found) (last-changes (Some v) found);
          frame = last-frame (Some v) found;
        }

    pub last-without : entries true c x ≡ without_key word_order (entries true a w) (pack rest) → IsChanged (suc r) a c w x
        (without_key string_order (nested_content_at (suc r) a w) rest)
    last-without e =
        let found : (k : ℕ) → value_of word_order (entries true c x) k ≡ cond (eq_by_cmp word_order k (pack rest)) None
        (value_of word_order (entries true a w) k) = λ k. ap (λ es. value_of word_order es k) e ∙ find_without_word
        (entries true a w) (pack rest) k in
        record {
          array = array-of r c x (last-nest None found);
          content = content-without r a c w x rest is h
              (last-nest None found) (last-changes None found);
          frame = last-frame None found;
        }

  -- ---- another word: the array below changes first

  module _ (long : 8 ≤ length rest) (b : Blocks) (o n : List ℕ) (f : Frame a b o n) (old : Option ℕ)
      (old_at : value_of word_order (entries true a w) (pack rest) ≡ old)
      (old_is : (v : ℕ) → old ≡ Some v → nested_numbers_at r a v ≡ o) (old_some : (q : ℕ) → holds q o ≡ true → (v : ℕ) × (old ≡ Some v)) where
    old_leads : (v : ℕ) → Leads a w (pack rest) v → nested_numbers_at r a v ≡ o
    old_leads v l = old_is v (sym old_at ∙ l.found)

    old_held : (q : ℕ) → holds q o ≡ true → (v : ℕ) × Leads a w (pack rest) v
    old_held q i = let s = old_some q i in (s.0, leads s.0 long (old_at ∙ s.1))

    -- the array's own words are still there
    pub inner-stays : IsRoot true b w × (entries true b w ≡ entries true a w) × (own_numbers b w ≡ own_numbers a w)
    inner-stays = root-stays r a b w (pack rest) o n (h) f old_leads old_held

    module _ (c : Blocks) (x : ℕ) (new : Option ℕ) (root : IsRoot true c x) (g : Frame b c (own_numbers b w) (own_numbers c x))
        (found : (k : ℕ) → value_of word_order (entries true c x) k ≡ cond (eq_by_cmp word_order k (pack rest)) new (value_of word_order (entries true b w) k))
        (new_is : (v : ℕ) → new ≡ Some v → (v ≢ 0) × IsNestedAt r b v × (nested_numbers_at r b v ≡ n))
        (new_some : (q : ℕ) → holds q n ≡ true → (v : ℕ) × (new ≡ Some v)) where
      found_a : (k : ℕ) → value_of word_order (entries true c x) k ≡ cond (eq_by_cmp word_order k (pack rest)) new (value_of word_order (entries true a w) k)
      found_a k = found k ∙ ap (λ es. cond (eq_by_cmp word_order k (pack rest)) new (value_of word_order es k)) inner-stays.1

      new_at : value_of word_order (entries true c x) (pack rest) ≡ new
      new_at = found_a (pack rest) ∙ ap (λ t. cond t new (value_of word_order (entries true a w) (pack rest))) (word_itself (pack rest))

      new_leads : (v : ℕ) → Leads c x (pack rest) v → (v ≢ 0) × IsNestedAt r b v × (nested_numbers_at r b v ≡ n)
      new_leads v l = new_is v (sym new_at ∙ l.found)

      new_held : (q : ℕ) → holds q n ≡ true → (v : ℕ) × Leads c x (pack rest) v
      new_held q i = let s = new_some q i in (s.0, record { found = new_at ∙ s.1; more = more-word rest is long })

      pub inner-nest : Nest r c x
      inner-nest = changed-nest r a b w (pack rest) o n (h) f old_leads old_held c x new (string-spelt rest is)
          (few_bytes r rest is fit) root g found_a new_leads new_held

      pub inner-frame : Frame a c (nested_numbers_at (suc r) a w) (nested_numbers_at (suc r) c x)
      inner-frame = changed-frame r a b w (pack rest) o n (h) f old_leads old_held c x new (string-spelt rest is)
          (few_bytes r rest is fit) root g found_a new_leads new_held

      kept_below : (u : Option ℕ) → new ≡ u → (t : List ℕ) → below_it (nested_content_at r c) u t ≡ below_it (nested_content_at r b) u t
      unfolding below_it
      kept_below None e t = refl
      kept_below (Some v) e t = ap (λ l. value_of string_order l t) (new-kept r a b w (pack rest) o n (h) f old_leads old_held c x
          new (string-spelt rest is) (few_bytes r rest is fit) root g found_a new_leads new_held v
          (record { found = new_at ∙ e; more = more-word rest is long })).content

      inner-changes : (value : Option ℕ)
          → ((t : List ℕ) → below_it (nested_content_at r b) new t ≡ cond (eq_by_cmp string_order t (drop 8 rest)) value
          (below_it (nested_content_at r a) old t))
          → Changes (nested_content_at r a) (nested_content_at r c) (entries true a w) (entries true c x) rest value
      inner-changes value below = record {
        others = λ k ne. found_a k ∙ ap (λ t. cond t new (value_of word_order (entries true a w) k)) (word_other k (pack rest) ne);
        stay = λ k v ne i j. (other-kept r a b w (pack rest) o n (h) f old_leads old_held c x new (string-spelt rest is)
            (few_bytes r rest is fit) root g found_a new_leads new_held k v ne (record { found = i; more = j })).content;
        last = λ i. absurd (not_true (sym (more-word rest is long) ∙ i));
        inner = λ i t. ap (λ u. below_it (nested_content_at r c) u t) new_at ∙ kept_below new refl t ∙ below t
            ∙ ap (λ u. cond (eq_by_cmp string_order t (drop 8 rest)) value (below_it (nested_content_at r a) u t)) (sym old_at);
      }

      pub inner-with : (v : ℕ) → ((t : List ℕ) → below_it (nested_content_at r b) new t ≡ cond (eq_by_cmp string_order t (drop 8 rest))
          (Some v) (below_it (nested_content_at r a) old t))
          → IsChanged (suc r) a c w x (with_entry string_order (nested_content_at (suc r) a w) rest v)
      inner-with v below =
          record {
            array = array-of r c x inner-nest;
            content = content-with r a c w x rest v is h inner-nest
                (inner-changes (Some v) below);
            frame = inner-frame;
          }

      pub inner-without : ((t : List ℕ) → below_it (nested_content_at r b) new t ≡ cond (eq_by_cmp string_order t (drop 8 rest)) None
          (below_it (nested_content_at r a) old t))
          → IsChanged (suc r) a c w x (without_key string_order (nested_content_at (suc r) a w) rest)
      inner-without below =
          record { array = array-of r c x inner-nest; content = content-without r a c w x rest is h inner-nest (inner-changes None below); frame = inner-frame }

pub filled : (r : ℕ) (b : Blocks) (y : ℕ) (s : List ℕ) (v : ℕ) → IsNestedAt r b y → value_of string_order (nested_content_at r b y) s ≡ Some v → y ≢ 0
filled zero b y s v h i = absurd (none-array b y h)
filled (suc r) b y s v h i = some-word r b y s v i

pub nothing : (r : ℕ) (b : Blocks) (y : ℕ) → IsNestedAt r b y → (a : Blocks) → (nested_content_at r a 0 ≡ []) × (nested_numbers_at r a 0 ≡ [])
nothing zero b y h a = absurd (none-array b y h)
nothing (suc r) b y h a = ((zero-array r a).1, (zero-array r a).2)

pub with-here : (l m : Strings) (s : List ℕ) (v : ℕ) → l ≡ with_entry string_order m s v → value_of string_order l s ≡ Some v
with-here l m s v e = ap (λ x. value_of string_order x s) e ∙ find-put string_order nat_list_cmp_total s s v m
    ∙ ap (λ t. cond t (Some v) (value_of string_order m s)) (same_name s)

no_number : {P : Type 0} (q : ℕ) → holds q [] ≡ true → P
no_number q i = absurd (not_true i)

module _ (r : ℕ) (a : Blocks) (w : ℕ) (rest : List ℕ) (is : IsString rest) (fit : length rest ≤ 8 * r) (h : Nest r a w) (long : 8 ≤ length rest) where
  -- an array stands below already
  module _ (u : ℕ) (at : value_of word_order (entries true a w) (pack rest) ≡ Some u) (b : Blocks) where
    pub stays-some : (n : List ℕ) → Frame a b (nested_numbers_at r a u) n → IsRoot true b w × (entries true b w ≡ entries true a w)
        × (own_numbers b w ≡ own_numbers a w)
    stays-some n f = inner-stays r a w rest is fit h long b (nested_numbers_at r a u) n f (Some u) at
        (λ v e. ap (nested_numbers_at r a) (sym (same_Some e))) (λ q i. (u, refl))

    module _ (y : ℕ) (c : Blocks) (x : ℕ) (root : IsRoot true c x) (g : Frame b c (own_numbers b w) (own_numbers c x)) where
      pub child-with : (v : ℕ) → IsChanged r a b u y (with_entry string_order (nested_content_at r a u) (drop 8 rest) v) → entries true c
          x ≡ with_entry word_order (entries true b w) (pack rest) y
          → IsChanged (suc r) a c w x (with_entry string_order (nested_content_at (suc r) a w) rest v)
      unfolding below_it
      child-with v ch e = inner-with r a w rest is fit h long b (nested_numbers_at r a u) (nested_numbers_at r b y) ch.frame (Some u) at
          (λ v e. ap (nested_numbers_at r a) (sym (same_Some e))) (λ q i. (u, refl))
          c x (Some y) root g (λ k. ap (λ es. value_of word_order es k) e ∙ find-put word_order nat_cmp_total k (pack rest) y (entries true b w))
          (λ z i. subst (λ z. (z ≢ 0) × IsNestedAt r b z × (nested_numbers_at r b z ≡ nested_numbers_at r b y)) (same_Some i) (
            filled r b y (drop 8 rest) v ch.array (with-here (nested_content_at r b y) (nested_content_at r a u) (drop 8 rest) v ch.content),
            ch.array,
            refl,
          ))
          (λ q i. (y, refl)) v
          (λ t. ap (λ l. value_of string_order l t) ch.content ∙ find-put string_order nat_list_cmp_total t (drop 8 rest) v (nested_content_at r a u))

      pub child-without : y ≢ 0 → IsChanged r a b u y (without_key string_order (nested_content_at r a u) (drop 8 rest)) → entries true c
          x ≡ with_entry word_order (entries true b w) (pack rest) y
          → IsChanged (suc r) a c w x (without_key string_order (nested_content_at (suc r) a w) rest)
      unfolding below_it
      child-without some ch e = inner-without r a w rest is fit h long b (nested_numbers_at r a u) (nested_numbers_at r b y) ch.frame (Some u)
          at (λ v e. ap (nested_numbers_at r a) (sym (same_Some e))) (λ q i. (u, refl))
          c x (Some y) root g (λ k. ap (λ es. value_of word_order es k) e ∙ find-put word_order nat_cmp_total k (pack rest) y (entries true b w))
          (λ z i. subst (λ z. (z ≢ 0) × IsNestedAt r b z × (nested_numbers_at r b z ≡ nested_numbers_at r b y)) (same_Some i) (some, ch.array, refl))
          (λ q i. (y, refl))
          (λ t. ap (λ l. value_of string_order l t) ch.content ∙ find-without (nested_content_at r a u) (drop 8 rest) t)

      pub child-gone : y ≡ 0 → IsChanged r a b u y (without_key string_order (nested_content_at r a u) (drop 8 rest)) → entries true c x
          ≡ without_key word_order (entries true b w) (pack rest)
          → IsChanged (suc r) a c w x (without_key string_order (nested_content_at (suc r) a w) rest)
      unfolding below_it
      child-gone zero_ ch e =
          let none : (nested_content_at r b 0 ≡ []) × (nested_numbers_at r b 0 ≡ []) = nothing r b y ch.array b in
          inner-without r a w rest is fit h long b (nested_numbers_at r a u) []
          (subst (Frame a b (nested_numbers_at r a u)) (ap (nested_numbers_at r b) zero_ ∙ none.1) ch.frame) (Some u) at
          (λ v e. ap (nested_numbers_at r a) (sym (same_Some e))) (λ q i. (u, refl))
          c x None root g (λ k. ap (λ es. value_of word_order es k) e ∙ find_without_word (entries true b w) (pack rest) k)
          (λ z i. absurd (none-some _ i)) (λ q i. no_number q i)
          (λ t. sym (ap (λ l. value_of string_order l t) (ap (nested_content_at r b) zero_ ∙ none.0))
          ∙ ap (λ l. value_of string_order l t) ch.content ∙ find-without (nested_content_at r a u) (drop 8 rest) t)

  -- none does
  module _ (at : value_of word_order (entries true a w) (pack rest) ≡ None) (b : Blocks) (y v : ℕ)
      (ch : IsChanged r a b 0 y (with_entry string_order (nested_content_at r a 0) (drop 8 rest) v)) where
    none_before : (nested_content_at r a 0 ≡ []) × (nested_numbers_at r a 0 ≡ [])
    none_before = nothing r b y ch.array a

    pub new-frame : Frame a b [] (nested_numbers_at r b y)
    new-frame = subst (λ l. Frame a b l (nested_numbers_at r b y)) none_before.1 ch.frame

    pub stays-none : IsRoot true b w × (entries true b w ≡ entries true a w) × (own_numbers b w ≡ own_numbers a w)
    stays-none = inner-stays r a w rest is fit h long b [] (nested_numbers_at r b y) new-frame None at (λ v e. absurd (none-some _ e)) (λ q i. no_number q i)

    pub new-with : (c : Blocks) (x : ℕ) → IsRoot true c x → Frame b c (own_numbers b w) (own_numbers c x) → entries true c x
        ≡ with_entry word_order (entries true b w) (pack rest) y
        → IsChanged (suc r) a c w x (with_entry string_order (nested_content_at (suc r) a w) rest v)
    unfolding below_it
    new-with c x root g e = inner-with r a w rest is fit h long b [] (nested_numbers_at r b y) new-frame None at (λ v e. absurd (none-some _ e))
        (λ q i. no_number q i)
        c x (Some y) root g (λ k. ap (λ es. value_of word_order es k) e ∙ find-put word_order nat_cmp_total k (pack rest) y (entries true b w))
        (λ z i. subst (λ z. (z ≢ 0) × IsNestedAt r b z × (nested_numbers_at r b z ≡ nested_numbers_at r b y)) (same_Some i) (
          filled r b y (drop 8 rest) v ch.array (with-here (nested_content_at r b y) (nested_content_at r a 0) (drop 8 rest) v ch.content),
          ch.array,
          refl,
        ))
        (λ q i. (y, refl)) v
        (λ t. ap (λ l. value_of string_order l t) ch.content ∙ find-put string_order nat_list_cmp_total t (drop 8 rest) v (nested_content_at r a 0)
        ∙ ap (λ l. cond (eq_by_cmp string_order t (drop 8 rest)) (Some v) (value_of string_order l t)) none_before.0)

after_none : (p : List ℕ) (l : Strings) → after p l ≡ [] → l ≡ []
after_none p [] h = refl
after_none p (e ∷ l) h = absurd (let n : suc (length (after p l)) ≡ 0 = ap length h in omega arith)

join_none : (xs ys : Strings) → xs ++ ys ≡ [] → xs ≡ []
join_none [] ys h = refl
join_none (x ∷ xs) ys h = absurd (let n : suc (length (xs ++ ys)) ≡ 0 = ap length h in omega arith)

one_none : (x : List ℕ × ℕ) → x ∷ [] ≡ [] → ⊥
one_none x h = let n : suc zero ≡ 0 = ap length h in omega arith

no_parts : (f : ℕ → Strings) (es : Entries ℕ) → ((k v : ℕ) → value_of word_order es k ≡ Some v → is_last k ≡ false → f v ≡ [] → ⊥)
    → joined_strings (part f) es ≡ [] → es ≡ []
no_parts f [] none e = refl
no_parts f (x ∷ es) none e =
    elim (is_last x.0) as (λ t. is_last x.0 ≡ t → cond t ((word_bytes x.0, x.1) ∷ []) (after (word_bytes x.0) (f x.1)) ≡ [] → x ∷ es ≡ []) [
      | true ↦ λ i j. absurd (one_none (word_bytes x.0, x.1) j)
      | false ↦ λ i j. absurd (none x.0 x.1 (found-first x es) i (after_none (word_bytes x.0) (f x.1) j))
    ] refl (join_none (part f x) (joined_strings (part f) es) e)

-- only the reference 0 spells nothing
pub spells-nothing : (r : ℕ) (b : Blocks) (w : ℕ) → IsNestedAt r b w → nested_content_at r b w ≡ [] → w ≡ 0
spells-nothing zero b w h e = absurd (none-array b w h)
spells-nothing (suc r) b w h e = node-cases r b w h
    (λ k s. absurd (one_none (suffix_entry b w) (sym (suffix-content r b w k) ∙ e)))
    (λ k n. no-entries true b w n.root (no_parts (nested_content_at r b) (entries true b w)
    (λ k v i j m. n.filled k v (record { found = i; more = j }) (spells-nothing r b v (n.sound k v (record { found = i; more = j })) m))
    (sym (nest-content r b w k) ∙ e)))
