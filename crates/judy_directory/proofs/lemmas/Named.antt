-- An owner's arrays among all arrays, and how a change of one place affects them.
use Rattle.std.proofs.Common.{◌≡◌, ℕ, Bool, true, false, cond, not, ◌&&◌, ◌==◌, List, [], ◌∷◌, Option, Some, None}
use Rattle.std.proofs.Common.{ap, sym, ◌∙◌, refl, subst}
use Rattle.std.specs.Prelude.{T, unwrap_or, option_map}
use Rattle.std.specs.declared.cmp.Ordering.{Ordering}
use Rattle.std.specs.declared.cmp.Ordering.TheVariants.{Less, Equal, Greater}
use Rattle.std.specs.Ordering.{nat_cmp, ordering_then, eq_by_cmp, is_eq, is_lt}
use Rattle.std.specs.Cmp.{unsigned_tied, tied_itself, nat_cmp_total, eq_by_cmp_equiv, alike_right}
use Rattle.std.specs.FinMap.{find, get, entries, is_sorted, get-entries, entries_sorted}
use Rattle.std.specs.FinMap.Entries.{below_all, same_entries, find-put, find-where_key, is_sorted-put, is_sorted-where_key}
use Rattle.judy_arena.specs.Blocks.{Blocks}
use Rattle.judy_arena.proofs.lemmas.BlockLaws.{same_test, itself}
use Rattle.judy_model.specs.Contents.{Entries, string_order}
use Rattle.judy_model.specs.Tenant.{Arrays, with_content, content_of}
use Rattle.judy_model.proofs.lemmas.FormLemmas.{names_apart}
use Rattle.judy_model.proofs.lemmas.TestLemmas.{turned}
use Rattle.judy_directory.specs.Places.{Stand, at, nothing, some_stand, with_place}
use Rattle.judy_directory.specs.Shelf.{Places, pick, picked, arrays_of}
use Rattle.judy_directory.proofs.lemmas.Changes.{total, get-with_place}

is_eq-then : (r s : Ordering) → is_eq (ordering_then r s) ≡ (is_eq r && is_eq s)
is_eq-then Less s = refl
is_eq-then Equal s = refl
is_eq-then Greater s = refl

-- two keys are equal if their first bytes are equal and their rests are equal
pub tied-cons : (o b : ℕ) (m n : List ℕ) → eq_by_cmp string_order (o ∷ m) (b ∷ n) ≡ ((o == b) && eq_by_cmp string_order m n)
tied-cons o b m n = is_eq-then (nat_cmp o b) (string_order m n) ∙ ap (λ r. r && eq_by_cmp string_order m n) (unsigned_tied o b)

first : (a b : Bool) → T (a && b) → T a
first true b h = tt
first false b h = h

second : (a b : Bool) → T (a && b) → T b
second true b h = h
second false b h = absurd h

both : (a b : Bool) → T a → T b → T (a && b)
both true b g h = h
both false b g h = g

-- keys with the same first byte compare as their rests do
by_rest : (o b : ℕ) (m n : List ℕ) → (o == b) ≡ true → string_order (o ∷ m) (b ∷ n) ≡ string_order m n
by_rest o b m n e = ap (λ x. string_order (o ∷ m) (x ∷ n)) (sym (same_test o b e))
    ∙ ap (λ r. ordering_then r (string_order m n)) (tied_itself nat_cmp_total o)

-- the entries, or None if there are none
abbrev pub some_list : {A : Type 0} → List A → Option (List A)
some_list [] = None
some_list (x ∷ xs) = Some (x ∷ xs)

-- a function of a choice is a choice of its results
mapped_cond : {X Y : Type 0} (f : X → Y) (b : Bool) (x : X) (o : Option X) → cond b (Some (f x)) (option_map f o) ≡ option_map f (cond b (Some x) o)
mapped_cond f true x o = refl
mapped_cond f false x o = refl

module _ {K : Type 0} (content : ℕ → Entries K) (o : ℕ) where
  -- the entries of a place's array
  abbrev shown : Stand → Entries K
  shown p = content p.root

  found_by : (t : Bool) (m n : List ℕ) (p : Stand) (rest : Arrays K) (r : Option Stand) → find string_order m rest ≡ option_map (λ p. content p.root) r
      → find string_order m (cond t ((n, content p.root) ∷ rest) rest) ≡ option_map (λ p. content p.root) (cond (t && eq_by_cmp string_order m n) (Some p) r)
  found_by true m n p rest r h = ap (cond (eq_by_cmp string_order m n) (Some (content p.root))) h ∙ mapped_cond
      (λ (z : Stand). content z.root) (eq_by_cmp string_order m n) p r
  found_by false m n p rest r h = h

  found_at : (m s : List ℕ) (p : Stand) (rest : Arrays K) (r : Option Stand) → find string_order m rest ≡ option_map (λ p. content p.root) r
      → find string_order m (pick content o s p rest) ≡ option_map (λ p. content p.root) (cond (eq_by_cmp string_order (o ∷ m) s) (Some p) r)
  found_at m [] p rest r h = h
  found_at m (b ∷ n) p rest r h =
      found_by (o == b) m n p rest r h ∙ ap (λ t. option_map (λ (z : Stand). content z.root) (cond t (Some p) r)) (sym (tied-cons o b m n))

  -- looking up a name among an owner's arrays is looking up its key among all places
  pub find-picked : (m : List ℕ) (es : List (List ℕ × Stand)) → find string_order m (picked content o es) ≡ option_map
      (λ p. content p.root) (find string_order (o ∷ m) es)
  find-picked m [] = refl
  find-picked m (e ∷ es) = found_at m e.0 e.1 (picked content o es) (find string_order (o ∷ m) es) (find-picked m es)

  -- keys above a key of the owner have names above its name
  below_at : (n s : List ℕ) (p : Stand) (rest : Arrays K) → T (is_lt (string_order (o ∷ n) s)) → T (below_all string_order n rest)
      → T (below_all string_order n (pick content o s p rest))
  below_at n [] p rest h g = g
  below_at n (b ∷ m) p rest h g = elim (o == b) as (λ t. (o == b) ≡ t → T (below_all string_order n (cond t ((m, content p.root) ∷ rest) rest))) [
    | true ↦ λ e. both _ _ (subst (λ r. T (is_lt r)) (by_rest o b n m e) h) g
    | false ↦ λ e. g
  ] refl

  below_picked : (n : List ℕ) (es : List (List ℕ × Stand)) → T (below_all string_order (o ∷ n) es) → T (below_all string_order n (picked content o es))
  below_picked n [] h = tt
  below_picked n (e ∷ es) h =
      below_at n e.0 e.1 (picked content o es) (first (is_lt (string_order (o ∷ n) e.0)) _ h)
      (below_picked n es (second (is_lt (string_order (o ∷ n) e.0)) _ h))

  sorted_at : (s : List ℕ) (p : Stand) (es : List (List ℕ × Stand)) → T (below_all string_order s es) → T (is_sorted string_order (picked content o es))
      → T (is_sorted string_order (pick content o s p (picked content o es)))
  sorted_at [] p es h g = g
  sorted_at (b ∷ m) p es h g = elim (o == b) as
      (λ t. (o == b) ≡ t → T (is_sorted string_order (cond t ((m, content p.root) ∷ picked content o es) (picked content o es)))) [
        | true ↦ λ e. both _ _ (below_picked m es (subst (λ x. T (below_all string_order (x ∷ m) es)) (sym (same_test o b e)) h)) g
        | false ↦ λ e. g
      ] refl

  -- an owner's names are sorted
  pub sorted-picked : (es : List (List ℕ × Stand)) → T (is_sorted string_order es) → T (is_sorted string_order (picked content o es))
  sorted-picked [] h = tt
  sorted-picked (e ∷ es) h =
      sorted_at e.0 e.1 es (first (below_all string_order e.0 es) _ h) (sorted-picked es (second (below_all string_order e.0 es) _ h))

module _ {K : Type 0} where
  -- the array of a name, after one array was replaced
  pub find-with_content : (arrays : Arrays K) (key : List ℕ) (l : Entries K) (q : List ℕ)
      → find string_order q (with_content arrays key l) ≡ cond (eq_by_cmp string_order q key) (some_list l) (find string_order q arrays)
  find-with_content arrays key [] q =
      find-where_key string_order (λ n. not (eq_by_cmp string_order key n)) q (λ x e. ap (λ r. not (is_eq r)) (sym (alike_right total q x key e))) arrays
      ∙ turned (eq_by_cmp string_order key q) _ _ ∙ ap (λ b. cond b None (find string_order q arrays)) ((eq_by_cmp_equiv total).symm key q)
  find-with_content arrays key (e ∷ es) q = find-put string_order total q key (e ∷ es) arrays

  -- the names stay sorted after one array is replaced
  pub sorted-with_content : (arrays : Arrays K) (key : List ℕ) (l : Entries K) → T (is_sorted string_order arrays)
      → T (is_sorted string_order (with_content arrays key l))
  sorted-with_content arrays key [] h = is_sorted-where_key string_order (λ n. not (eq_by_cmp string_order key n)) arrays h
  sorted-with_content arrays key (e ∷ es) h = is_sorted-put string_order total key (e ∷ es) arrays h

module _ {K : Type 0} (content : Blocks → ℕ → Entries K) (o : ℕ) where
  -- the array of an owner's name is the array at its place
  pub find-arrays_of : (b : Blocks) (d : Places) (m : List ℕ) → find string_order m (arrays_of content o b d) ≡ option_map
      (λ p. content b p.root) (get d (o ∷ m))
  find-arrays_of b d m = find-picked (content b) o m (entries d) ∙ ap (option_map (λ (p : Stand). content b p.root)) (sym (get-entries d (o ∷ m)))

  pub sorted-arrays_of : (b : Blocks) (d : Places) → T (is_sorted string_order (arrays_of content o b d))
  sorted-arrays_of b d = sorted-picked (content b) o (entries d) (entries_sorted d)

  -- the content of an optional place
  found_content : (b : Blocks) → content b 0 ≡ [] → (g : Option Stand) → unwrap_or (option_map (λ p. content b p.root) g) []
      ≡ content b (unwrap_or g nothing).root
  found_content b z None = sym z
  found_content b z (Some p) = refl

  -- the content of a name is the content at its place
  pub content-of : (b : Blocks) → content b 0 ≡ [] → (d : Places) (m : List ℕ) → content_of (arrays_of content o b d) m ≡ content b (at d (o ∷ m)).root
  content-of b z d m = ap (λ g. unwrap_or g []) (find-arrays_of b d m) ∙ found_content b z (get d (o ∷ m))

  -- every other place of the owner keeps its content
  module _ (a b : Blocks) (d : Places) (n : List ℕ) (p : Stand)
      (stays : (m : List ℕ) → eq_by_cmp string_order (o ∷ m) (o ∷ n) ≡ false → content b (at d (o ∷ m)).root ≡ content a (at d (o ∷ m)).root) where
    some_listed : (l : Entries K) → (l ≡ [] → ⊥) → Some l ≡ some_list l
    some_listed [] h = absurd (h refl)
    some_listed (e ∷ l) h = refl

    stayed : (g : Option Stand) → content b (unwrap_or g nothing).root ≡ content a (unwrap_or g nothing).root
        → option_map (λ (x : Stand). content b x.root) g ≡ option_map (λ (x : Stand). content a x.root) g
    stayed None h = refl
    stayed (Some x) h = ap Some h

    -- the array that was written is listed unless it is empty
    written : content b 0 ≡ [] → (content b p.root ≡ [] → p.root ≡ 0) → option_map (λ (x : Stand). content b x.root)
        (some_stand p) ≡ some_list (content b p.root)
    written z only = elim (p.root == 0) as (λ r. (p.root == 0) ≡ r → option_map (λ (x : Stand). content b x.root)
        (cond r None (Some p)) ≡ some_list (content b p.root)) [
          | true ↦ λ e. sym (ap (λ w. some_list (content b w)) (same_test p.root 0 e) ∙ ap some_list z)
          | false ↦ λ e. some_listed (content b p.root) (λ h. not_zero e (only h))
        ] refl
      where
        not_zero : (p.root == 0) ≡ false → p.root ≡ 0 → ⊥
        not_zero e h = let t : (p.root == 0) ≡ true = ap (λ w. w == 0) h in cc

    -- the owner's arrays are those with this one replaced
    pub own-changed : content b 0 ≡ [] → (content b p.root ≡ [] → p.root ≡ 0) → arrays_of content o b (with_place d (o ∷ n) p)
        ≡ with_content (arrays_of content o a d) n (content b p.root)
    own-changed z only = same_entries string_order total names_apart _ _ (sorted-arrays_of b (with_place d (o ∷ n) p))
        (sorted-with_content (arrays_of content o a d) n (content b p.root) (sorted-arrays_of a d)) (λ m.
        find-arrays_of b (with_place d (o ∷ n) p) m
        ∙ ap (option_map (λ (x : Stand). content b x.root)) (get-with_place d (o ∷ n) p (o ∷ m))
        ∙ by m (eq_by_cmp string_order (o ∷ m) (o ∷ n)) refl
        ∙ ap (λ t. cond t (some_list (content b p.root)) (find string_order m (arrays_of content o a d)))
        (tied-cons o o m n ∙ ap (λ t. t && eq_by_cmp string_order m n) (itself o))
        ∙ sym (find-with_content (arrays_of content o a d) n (content b p.root) m))
      where
        by : (m : List ℕ) (r : Bool) → eq_by_cmp string_order (o ∷ m) (o ∷ n) ≡ r
            → option_map (λ (x : Stand). content b x.root) (cond r (some_stand p) (get d (o ∷ m))) ≡ cond r
            (some_list (content b p.root)) (find string_order m (arrays_of content o a d))
        by m true e = written z only
        by m false e = stayed (get d (o ∷ m)) (stays m e) ∙ sym (find-arrays_of a d m)

  -- an owner whose places did not change has the same arrays as before
  pub others-same : (a b : Blocks) (d : Places) (c : ℕ) (n : List ℕ) (p : Stand) → (o == c) ≡ false
      → ((m : List ℕ) → eq_by_cmp string_order (o ∷ m) (c ∷ n) ≡ false → content b (at d (o ∷ m)).root ≡ content a (at d (o ∷ m)).root)
      → arrays_of content o b (with_place d (c ∷ n) p) ≡ arrays_of content o a d
  others-same a b d c n p apart stays = same_entries string_order total names_apart _ _
      (sorted-arrays_of b (with_place d (c ∷ n) p)) (sorted-arrays_of a d) (λ m.
      find-arrays_of b (with_place d (c ∷ n) p) m
      ∙ ap (option_map (λ (x : Stand). content b x.root)) (get-with_place d (c ∷ n) p (o ∷ m))
      ∙ ap (λ t. option_map (λ (x : Stand). content b x.root) (cond t (some_stand p) (get d (o ∷ m)))) (none m)
      ∙ stayed-place (get d (o ∷ m)) (stays m (none m))
      ∙ sym (find-arrays_of a d m))
    where
      none : (m : List ℕ) → eq_by_cmp string_order (o ∷ m) (c ∷ n) ≡ false
      none m = tied-cons o c m n ∙ ap (λ t. t && eq_by_cmp string_order m n) apart

      stayed-place : (g : Option Stand) → content b (unwrap_or g nothing).root ≡ content a (unwrap_or g nothing).root
          → option_map (λ (x : Stand). content b x.root) g ≡ option_map (λ (x : Stand). content a x.root) g
      stayed-place None h = refl
      stayed-place (Some x) h = ap Some h
