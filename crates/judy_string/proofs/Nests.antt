-- A nest of arrays: what is found in it, that it is sorted, and what a change under one word
-- changes.
use Rattle.std.proofs.Common.{◌≡◌, ◌≢◌, ℕ, zero, suc, ◌<◌, ◌≤◌, Bool, true, false, cond, ◌*◌, not, List, [], ◌∷◌, ◌++◌, take}
use Rattle.std.proofs.Common.{drop, length, Option, Some, None, ap, sym, ◌∙◌, refl, subst, arith}
use Rattle.std.specs.Ordering.{eq_by_cmp}
use Rattle.std.specs.Cmp.Lexicographic.{nat_list_cmp_total}
use Rattle.std.specs.FinMap.{is_sorted, slice_cmp-IsAntisymmetric, nat_cmp-IsAntisymmetric}
use Rattle.std.specs.FinMap.Entries.{find-put, find-where_key, same_entries, is_sorted-put, is_sorted-where_key}
use Rattle.judy_arena.specs.Blocks.{Blocks}
use Rattle.judy_arena.specs.Frame.{holds}
use Rattle.judy_model.specs.Contents.{Entries, string_order, word_order, value_of, with_entry, without_key}
use Rattle.judy_model.proofs.lemmas.TestLemmas.{to_T}
use Rattle.judy_model.proofs.lemmas.EntryLemmas.{same_word, same_string, string_is}
use Rattle.judy_tree.specs.Root.{IsRoot, entries, numbers as own_numbers}
use Rattle.judy_tree.proofs.lemmas.Joins.{word_is, string_other}
use Rattle.judy_tree.proofs.lemmas.Trees.{root-words, numbers-once}
use Rattle.judy_string.proofs.Maps.{map-kind}
use Rattle.judy_string.proofs.Onces.{once-of, of-once}
use Rattle.std.specs.Bool.{MatchBool}
use Rattle.std.proofs.lemmas.Bool.{false≢true as not_true}
use Rattle.judy_refs.specs.References.{number_of}
use Rattle.judy_arena.specs.Totals.{are_distinct}
use Rattle.judy_string.specs.Suffixes.{is_suffix, suffix_entry, IsSuffix}
use Rattle.judy_packing.specs.Packing.{pack, word_bytes, is_last, IsString}
use Rattle.judy_string.specs.Strings.{Strings, part, joined_strings, part_numbers, nested_content_at, nested_numbers_at, IsNestedAt, IsNest, Leads, IsSpelt}
use Rattle.judy_string.specs.Lookup.{then_in, fits, look_under}
use Rattle.judy_packing.proofs.lemmas.Packs.{bytes-pack, pack-take, short-take, take-drop}
use Rattle.judy_string.proofs.Joins.{find-joined, sorted-joined, last_short}

-- ---- one level

-- a nest of nodes, with what is said of its numbers said of each node
pub record Nest (r : ℕ) (b : Blocks) (w : ℕ) : Type 0 where
  pub root : IsRoot true b w
  pub spelt : (k v : ℕ) → value_of word_order (entries true b w) k ≡ Some v → IsSpelt k
  pub short : (k v : ℕ) → value_of word_order (entries true b w) k ≡ Some v → length (word_bytes k) ≤ 8 * r
  pub sound : (k v : ℕ) → Leads b w k v → IsNestedAt r b v
  pub filled : (k v : ℕ) → Leads b w k v → v ≢ 0
  pub own_apart : (k v q : ℕ) → Leads b w k v → holds q (nested_numbers_at r b v) ≡ true → holds q (own_numbers b w) ≡ false
  pub apart : (k l u v q : ℕ) → Leads b w k u → Leads b w l v → holds q (nested_numbers_at r b u) ≡ true → holds q (nested_numbers_at r b v) ≡ true → k ≡ l

module _ (r : ℕ) (b : Blocks) (w : ℕ) where
  pub nest-content : is_suffix w ≡ false → nested_content_at (suc r) b w ≡ joined_strings (part (nested_content_at r b)) (entries true b w)
  unfolding nested_content_at
  nest-content e = ap (λ t. cond t (suffix_entry b w ∷ []) (joined_strings (part (nested_content_at r b)) (entries true b w))) e

  pub suffix-content : is_suffix w ≡ true → nested_content_at (suc r) b w ≡ suffix_entry b w ∷ []
  unfolding nested_content_at
  suffix-content e = ap (λ t. cond t (suffix_entry b w ∷ []) (joined_strings (part (nested_content_at r b)) (entries true b w))) e

  pub nest-numbers : is_suffix w ≡ false → nested_numbers_at (suc r) b w
      ≡ own_numbers b w ++ joined_strings (part_numbers (nested_numbers_at r b)) (entries true b w)
  unfolding nested_numbers_at
  nest-numbers e = ap (λ t. cond t (number_of w ∷ []) (own_numbers b w ++ joined_strings (part_numbers (nested_numbers_at r b)) (entries true b w))) e

  pub suffix-numbers : is_suffix w ≡ true → nested_numbers_at (suc r) b w ≡ number_of w ∷ []
  unfolding nested_numbers_at
  suffix-numbers e = ap (λ t. cond t (number_of w ∷ []) (own_numbers b w ++ joined_strings (part_numbers (nested_numbers_at r b)) (entries true b w))) e

  is-nest : is_suffix w ≡ false → IsNestedAt (suc r) b w → IsNest (8 * r) b w (IsNestedAt r b) (nested_numbers_at r b)
  unfolding IsNestedAt
  is-nest e h = subst (λ t. MatchBool t (IsSuffix r b w) (IsNest (8 * r) b w (IsNestedAt r b) (nested_numbers_at r b))) e h

  node-of : is_suffix w ≡ false → IsNest (8 * r) b w (IsNestedAt r b) (nested_numbers_at r b) → IsNestedAt (suc r) b w
  unfolding IsNestedAt
  node-of e h = subst (λ t. MatchBool t (IsSuffix r b w) (IsNest (8 * r) b w (IsNestedAt r b) (nested_numbers_at r b))) (sym e) h

  pub suffix-of : is_suffix w ≡ true → IsNestedAt (suc r) b w → IsSuffix r b w
  unfolding IsNestedAt
  suffix-of e h = subst (λ t. MatchBool t (IsSuffix r b w) (IsNest (8 * r) b w (IsNestedAt r b) (nested_numbers_at r b))) e h

  pub of-suffix : is_suffix w ≡ true → IsSuffix r b w → IsNestedAt (suc r) b w
  unfolding IsNestedAt
  of-suffix e h = subst (λ t. MatchBool t (IsSuffix r b w) (IsNest (8 * r) b w (IsNestedAt r b) (nested_numbers_at r b))) (sym e) h

  pub nest-sorted : Nest r b w → is_sorted word_order (entries true b w) ≡ true
  nest-sorted h = (root-words true b w h.root).0

  pub nest-kind : Nest r b w → is_suffix w ≡ false
  nest-kind h = map-kind b w h.root

  pub nest-of : is_suffix w ≡ false → IsNestedAt (suc r) b w → Nest r b w
  nest-of e h =
      let n = is-nest e h in
      let o = once-of (own_numbers b w) (nested_numbers_at r b) (entries true b w) n.once in
      record {
        root = n.root;
        spelt = n.spelt;
        short = n.short;
        sound = n.sound;
        filled = n.filled;
        own_apart = λ k v q l i. o.own_apart k v q l.found l.more i;
        apart = λ k l u v q i j s t. o.nodes.apart k l u v q i.found i.more j.found j.more s t;
      }

-- no number of a node stands twice
pub node-once : (r : ℕ) (b : Blocks) (w : ℕ) → IsNestedAt r b w → are_distinct (nested_numbers_at r b w) ≡ true
unfolding IsNestedAt
node-once zero b w h = absurd h
node-once (suc r) b w h = elim (is_suffix w) as (λ t. is_suffix w ≡ t → are_distinct (nested_numbers_at (suc r) b w) ≡ true) [
  | true ↦ λ e. ap are_distinct (suffix-numbers r b w e)
  | false ↦ λ e. ap are_distinct (nest-numbers r b w e) ∙ (is-nest r b w e h).once
] refl

pub array-of : (r : ℕ) (b : Blocks) (w : ℕ) → Nest r b w → IsNestedAt (suc r) b w
array-of r b w h = node-of r b w (nest-kind r b w h) (record {
  root = h.root;
  spelt = h.spelt;
  short = h.short;
  sound = h.sound;
  filled = h.filled;
  once = of-once (own_numbers b w) (nested_numbers_at r b) (entries true b w) (nest-sorted r b w h) (record {
    own_once = numbers-once true b w h.root;
    nodes = record {
      each = λ k v i m. node-once r b v (h.sound k v (record { found = i; more = m }));
      apart = λ k l u v q i mi j mj s t. h.apart k l u v q (record { found = i; more = mi }) (record { found = j; more = mj }) s t;
    };
    own_apart = λ k v q i m s. h.own_apart k v q (record { found = i; more = m }) s;
  });
})

pub none-array : (b : Blocks) (w : ℕ) → IsNestedAt zero b w → ⊥
unfolding IsNestedAt
none-array b w h = h

-- the two kinds of node
pub node-cases : {P : Type 0} (r : ℕ) (b : Blocks) (w : ℕ) → IsNestedAt (suc r) b w → (is_suffix w ≡ true → IsSuffix r b w → P)
    → (is_suffix w ≡ false → Nest r b w → P) → P
node-cases {P} r b w h f g = elim (is_suffix w) as (λ t. is_suffix w ≡ t → P) [
  | true ↦ λ e. f e (suffix-of r b w e h)
  | false ↦ λ e. g e (nest-of r b w e h)
] refl

pub content-sorted : (r : ℕ) (b : Blocks) (w : ℕ) → IsNestedAt r b w → is_sorted string_order (nested_content_at r b w) ≡ true
content-sorted zero b w h = absurd (none-array b w h)
content-sorted (suc r) b w h = node-cases r b w h
    (λ e s. ap (is_sorted string_order) (suffix-content r b w e))
    (λ e n. subst (λ l. is_sorted string_order l ≡ true) (sym (nest-content r b w e))
    (sorted-joined (nested_content_at r b) (entries true b w) (nest-sorted r b w n) n.spelt
    (λ k v i j. content-sorted r b v (n.sound k v (record { found = i; more = j })))))

pub content-found : (r : ℕ) (b : Blocks) (w : ℕ) → Nest r b w → (s : List ℕ) → value_of string_order (nested_content_at (suc r) b w) s
    ≡ look_under (nested_content_at r b) s (entries true b w)
content-found r b w n s =
    ap (λ l. value_of string_order l s) (nest-content r b w (nest-kind r b w n)) ∙ find-joined (nested_content_at r b) s
    (entries true b w) (nest-sorted r b w n) n.spelt

-- ---- strings of the interface

pub string-fits : (s : List ℕ) → IsString s → fits s ≡ true
string-fits s h = string_is (take 8 s) (word_bytes (pack s)) (sym (bytes-pack 8 s h))

take_string : (n : ℕ) (s : List ℕ) → IsString s → IsString (take n s)
take_string zero s h = tt
take_string (suc n) [] h = tt
take_string (suc n) (c ∷ s) h = (h.0, h.1, take_string n s h.2)

pub drop-string : (n : ℕ) (s : List ℕ) → IsString s → IsString (drop n s)
drop-string zero s h = h
drop-string (suc n) [] h = tt
drop-string (suc n) (c ∷ s) h = drop-string n s h.2

pub string-spelt : (s : List ℕ) → IsString s → IsSpelt (pack s)
string-spelt s h = let e = bytes-pack 8 s h in record { bytes = subst IsString (sym e) (take_string 8 s h); packed = ap pack e ∙ pack-take 8 s }

pub string-found : (r : ℕ) (b : Blocks) (w : ℕ) → Nest r b w → (s : List ℕ) → IsString s → value_of string_order
    (nested_content_at (suc r) b w) s ≡ then_in (nested_content_at r b) s (value_of word_order (entries true b w) (pack s))
string-found r b w h s is = content-found r b w h s
    ∙ ap (λ t. cond t (then_in (nested_content_at r b) s (value_of word_order (entries true b w) (pack s))) None) (string-fits s is)

-- ---- a change under one word

-- what is found in an array that may not be there
unfoldable pub below_it : (ℕ → Strings) → Option ℕ → List ℕ → Option ℕ
below_it f None t = None
below_it f (Some v) t = value_of string_order (f v) t

pub then_below : (f : ℕ → Strings) (s : List ℕ) (o : Option ℕ) → is_last (pack s) ≡ false → then_in f s o ≡ below_it f o (drop 8 s)
unfolding below_it
then_below f s None h = refl
then_below f s (Some v) h = ap (λ t. cond t (Some v) (value_of string_order (f v) (drop 8 s))) h

pub then_last : (f : ℕ → Strings) (s : List ℕ) (o : Option ℕ) → is_last (pack s) ≡ true → then_in f s o ≡ o
then_last f s None h = refl
then_last f s (Some v) h = ap (λ t. cond t (Some v) (value_of string_order (f v) (drop 8 s))) h

then_same : (f g : ℕ → Strings) (s : List ℕ) (o : Option ℕ) → ((v : ℕ) → o ≡ Some v → is_last (pack s) ≡ false → g v ≡ f v) → then_in g s o ≡ then_in f s o
then_same f g s None h = refl
then_same f g s (Some v) h = elim (is_last (pack s)) as
    (λ t. is_last (pack s) ≡ t → cond t (Some v) (value_of string_order (g v) (drop 8 s)) ≡ cond t (Some v)
    (value_of string_order (f v) (drop 8 s))) [
      | true ↦ λ e. refl
      | false ↦ λ e. ap (λ l. value_of string_order l (drop 8 s)) (h v refl e)
    ] refl

same_rest : (s key : List ℕ) → take 8 s ≡ take 8 key → drop 8 s ≡ drop 8 key → s ≡ key
same_rest s key h k = sym (take-drop 8 s) ∙ ap (λ l. l ++ drop 8 s) h ∙ ap (λ l. take 8 key ++ l) k ∙ take-drop 8 key

same_tests : (s key : List ℕ) → take 8 s ≡ take 8 key → eq_by_cmp string_order (drop 8 s) (drop 8 key) ≡ eq_by_cmp string_order s key
same_tests s key h = elim (eq_by_cmp string_order s key) as (λ t. eq_by_cmp string_order s key ≡ t → eq_by_cmp string_order (drop 8 s) (drop 8 key) ≡ t) [
  | true ↦ λ e. string_is (drop 8 s) (drop 8 key) (ap (drop 8) (same_string s key e))
  | false ↦ λ e. string_other (drop 8 s) (drop 8 key) (λ k. not_true (sym e ∙ string_is s key (same_rest s key h k)))
] refl

-- the strings at the word of the key change as one string does, and the others stay
pub record Changes (f g : ℕ → Strings) (es fs : Entries ℕ) (key : List ℕ) (new : Option ℕ) : Type 0 where
  pub others : (k : ℕ) → k ≢ pack key → value_of word_order fs k ≡ value_of word_order es k
  pub stay : (k v : ℕ) → k ≢ pack key → value_of word_order es k ≡ Some v → is_last k ≡ false → g v ≡ f v
  pub last : is_last (pack key) ≡ true → value_of word_order fs (pack key) ≡ new
  pub inner : is_last (pack key) ≡ false → (t : List ℕ) → below_it g (value_of word_order fs (pack key)) t ≡ cond
      (eq_by_cmp string_order t (drop 8 key)) new (below_it f (value_of word_order es (pack key)) t)

pub look-changed : (f g : ℕ → Strings) (es fs : Entries ℕ) (key : List ℕ) (new : Option ℕ) → IsString key → Changes f g es fs key
    new → (s : List ℕ) → look_under g s fs ≡ cond (eq_by_cmp string_order s key) new (look_under f s es)
look-changed f g es fs key new is ch s =
    elim (fits s) as (λ t. fits s ≡ t → cond t (then_in g s (value_of word_order fs (pack s))) None ≡ cond
    (eq_by_cmp string_order s key) new (cond t (then_in f s (value_of word_order es (pack s))) None)) [
      | false ↦ λ e. sym (ap (λ t. cond t new None) (string_other s key (λ i. not_true (sym e ∙ ap fits i ∙ string-fits key is))))
      | true ↦ λ e. elim (eq_by_cmp word_order (pack s) (pack key)) as (λ t. eq_by_cmp word_order (pack s) (pack key) ≡ t
          → then_in g s (value_of word_order fs (pack s)) ≡ cond (eq_by_cmp string_order s key) new
          (then_in f s (value_of word_order es (pack s)))) [
            | false ↦ λ i.
                let other : pack s ≢ pack key = λ j. not_true (sym i ∙ word_is (pack s) (pack key) j) in
                ap (then_in g s) (ch.others (pack s) other)
                ∙ then_same f g s (value_of word_order es (pack s)) (λ v j k. ch.stay (pack s) v other j k)
                ∙ sym (ap (λ t. cond t new (then_in f s (value_of word_order es (pack s)))) (string_other s key (λ j. other (ap pack j))))
            | true ↦ λ i.
                let same : pack s ≡ pack key = same_word (pack s) (pack key) i in
                let front : take 8 s ≡ take 8 key = same_string (take 8 s) (word_bytes (pack s)) e ∙ ap word_bytes same ∙ bytes-pack 8 key is in
                elim (is_last (pack key)) as (λ t. is_last (pack key) ≡ t → then_in g s (value_of word_order fs (pack s)) ≡ cond
                (eq_by_cmp string_order s key) new (then_in f s (value_of word_order es (pack s)))) [
                  | true ↦ λ l.
                      let ls : is_last (pack s) ≡ true = ap is_last same ∙ l in
                      let short : length (take 8 key) < 8 = omega (arith, ap length (bytes-pack 8 key is), last_short (pack key) l) in
                      let short' : length (take 8 s) < 8 = omega (arith, ap length front) in
                      let whole : s ≡ key = sym (short-take 8 s short') ∙ front ∙ short-take 8 key short in
                      then_last g s (value_of word_order fs (pack s)) ls ∙ ap (value_of word_order fs) same ∙ ch.last l
                      ∙ sym (ap (λ t. cond t new (then_in f s (value_of word_order es (pack s)))) (string_is s key whole))
                  | false ↦ λ l.
                      let ls : is_last (pack s) ≡ false = ap is_last same ∙ l in
                      then_below g s (value_of word_order fs (pack s)) ls
                      ∙ ap (λ k. below_it g (value_of word_order fs k) (drop 8 s)) same ∙ ch.inner l (drop 8 s)
                      ∙ ap (λ k. cond (eq_by_cmp string_order (drop 8 s) (drop 8 key)) new (below_it f (value_of word_order es k) (drop 8 s))) (sym same)
                      ∙ ap (λ t. cond t new (below_it f (value_of word_order es (pack s)) (drop 8 s))) (same_tests s key front)
                      ∙ ap (cond (eq_by_cmp string_order s key) new) (sym (then_below f s (value_of word_order es (pack s)) ls))
                ] refl
          ] refl
    ] refl

-- so the content changes at the key
pub content-with : (r : ℕ) (a b : Blocks) (w x : ℕ) (key : List ℕ) (v : ℕ) → IsString key → Nest r a w → Nest r b x
    → Changes (nested_content_at r a) (nested_content_at r b) (entries true a w) (entries true b x) key (Some v) → nested_content_at (suc r) b x
    ≡ with_entry string_order (nested_content_at (suc r) a w) key v
content-with r a b w x key v is h k ch =
    same_entries string_order nat_list_cmp_total (slice_cmp-IsAntisymmetric nat_cmp-IsAntisymmetric) (nested_content_at (suc r) b x)
    (with_entry string_order (nested_content_at (suc r) a w) key v)
    (to_T _ (content-sorted (suc r) b x (array-of r b x k))) (is_sorted-put string_order nat_list_cmp_total key v
    (nested_content_at (suc r) a w) (to_T _ (content-sorted (suc r) a w (array-of r a w h))))
    (λ s. content-found r b x k s ∙ look-changed (nested_content_at r a) (nested_content_at r b) (entries true a w) (entries true b x) key (Some v) is ch s
    ∙ ap (cond (eq_by_cmp string_order s key) (Some v)) (sym (content-found r a w h s))
    ∙ sym (find-put string_order nat_list_cmp_total s key v (nested_content_at (suc r) a w)))

pub find-without : (l : Strings) (key s : List ℕ) → value_of string_order (without_key string_order l key) s ≡ cond
    (eq_by_cmp string_order s key) None (value_of string_order l s)
find-without l key s =
    find-where_key string_order (λ x. not (eq_by_cmp string_order key x)) s (λ x e. ap (λ y. not (eq_by_cmp string_order key y))
    (sym (slice_cmp-IsAntisymmetric nat_cmp-IsAntisymmetric s x e))) l
    ∙ turned (eq_by_cmp string_order key s) (eq_by_cmp string_order s key) (value_of string_order l s)
    (elim (eq_by_cmp string_order s key) as (λ t. eq_by_cmp string_order s key ≡ t → eq_by_cmp string_order key s ≡ t) [
      | true ↦ λ e. string_is key s (sym (same_string s key e))
      | false ↦ λ e. string_other key s (λ i. not_true (sym e ∙ string_is s key (sym i)))
    ] refl)
  where
    turned : (t u : Bool) (o : Option ℕ) → t ≡ u → cond (not t) o None ≡ cond u None o
    turned true true o h = refl
    turned true false o h = absurd (not_true (sym h))
    turned false true o h = absurd (not_true h)
    turned false false o h = refl

pub content-without : (r : ℕ) (a b : Blocks) (w x : ℕ) (key : List ℕ) → IsString key → Nest r a w → Nest r b x
    → Changes (nested_content_at r a) (nested_content_at r b) (entries true a w) (entries true b x) key None → nested_content_at (suc r) b x
    ≡ without_key string_order (nested_content_at (suc r) a w) key
content-without r a b w x key is h k ch =
    same_entries string_order nat_list_cmp_total (slice_cmp-IsAntisymmetric nat_cmp-IsAntisymmetric) (nested_content_at (suc r) b x)
    (without_key string_order (nested_content_at (suc r) a w) key)
    (to_T _ (content-sorted (suc r) b x (array-of r b x k)))
    (is_sorted-where_key string_order (λ y. not (eq_by_cmp string_order key y)) (nested_content_at (suc r) a w)
    (to_T _ (content-sorted (suc r) a w (array-of r a w h))))
    (λ s. content-found r b x k s ∙ look-changed (nested_content_at r a) (nested_content_at r b) (entries true a w) (entries true b x) key None is ch s
    ∙ ap (cond (eq_by_cmp string_order s key) None) (sym (content-found r a w h s)) ∙ sym (find-without (nested_content_at (suc r) a w) key s))
