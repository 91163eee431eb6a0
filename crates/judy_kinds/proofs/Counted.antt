-- The counts of a place, as entries are added and removed.
use Rattle.std.proofs.Common.{◌≡◌, ℕ, suc, ◌+◌, ◌-◌, ◌<◌, ◌≤◌, ◌^◌, Bool, true, false, cond, List, [], ◌∷◌, length, get_or}
use Rattle.std.proofs.Common.{Option, Some, None, is_some, Fits, w8, ap, sym, ◌∙◌, refl, subst, arith}
use Rattle.std.proofs.lemmas.Bool.Decides.{nat_tests}
use Rattle.std.specs.Prelude.{nat_lt, nat_le}
use Rattle.std.specs.List.{list_all}
use Rattle.std.specs.Cmp.Lexicographic.{nat_list_cmp_total}
use Rattle.std.specs.FinMap.{is_sorted}
use Rattle.std.specs.FinMap.Entries.{length-put, length_without}
use Rattle.judy_model.specs.Contents.{Entries, string_order, value_of, has_key, with_entry, without_key}
use Rattle.judy_model.specs.Grammar.{is_string}
use Rattle.judy_model.specs.Pieces.{word_pieces, string_pieces, pieces_of}
use Rattle.judy_model.proofs.lemmas.PieceLemmas.{pieces_of-words, pieces_of-with_entry, pieces_of-without_key}
use Rattle.judy_model.specs.declared.calls.Given.{Given}
use Rattle.judy_model.specs.Tenant.Reports.{ReportsValue}
use Rattle.judy_model.specs.Tenant.{insert, insert_over, value_after}
use Rattle.judy_model.proofs.lemmas.TestLemmas.{and_left, and_right, to_T}
use Rattle.judy_model.specs.declared.replies.Reply.{Reply}
use Rattle.judy_model.proofs.lemmas.FormLemmas.{names_apart}
use Rattle.judy_directory.specs.Places.{Stand}
use Rattle.judy_packing.specs.Packing.{IsString}
use Rattle.judy_string.specs.StringArrays.{IsKeyString}
use Rattle.judy_kinds.specs.Counts.{HasCounts}

-- word arrays have as many pieces as entries
pub words-counted : (l : Entries ℕ) (q : Stand) (w n : ℕ) → q ≡ record { root = w; entries = n; pieces = n } → n ≡ length l → HasCounts word_pieces l q
words-counted l q w n is e = record { entries = ap (λ z. z.entries) is ∙ e; pieces = ap (λ z. z.pieces) is ∙ e ∙ sym (pieces_of-words l) }

module _ (l : Entries (List ℕ)) (p : Stand) (sorted : is_sorted string_order l ≡ true) (h : HasCounts string_pieces l p) where
  -- the entries after an insertion, by what it found
  entered : (k : List ℕ) (given : Given) (o : Option ℕ) → o ≡ value_of string_order l k
      → (insert string_order true l k given ReportsValue).1 ≡ (insert_over string_order true l k given ReportsValue o).1
  entered k given o is = ap (λ z. (insert_over string_order true l k given ReportsValue z).1) (sym is)

  -- the number of entries after an insertion
  lengths : (k : List ℕ) (v : ℕ) → length (with_entry string_order l k v) ≡ cond (has_key string_order l k) (length l) (length l + 1)
  lengths k v = length-put string_order nat_list_cmp_total k v l (to_T _ sorted)

  -- the number of pieces after an insertion
  sizes : (k : List ℕ) (v : ℕ) → pieces_of string_pieces (with_entry string_order l k v) ≡ cond (has_key string_order l k)
      (pieces_of string_pieces l) (pieces_of string_pieces l + string_pieces k)
  sizes k v = pieces_of-with_entry string_order nat_list_cmp_total names_apart string_pieces l k v sorted

  module _ (n : Entries (List ℕ)) (k : List ℕ) (given : Given) (done : (insert string_order true l k given ReportsValue).1 ≡ n) where
    -- a new key is one entry more
    longer : None ≡ value_of string_order l k → length n ≡ length l + 1
    longer none = ap length (sym done ∙ entered k given None none) ∙ lengths k (value_after given 0)
        ∙ ap (λ o. cond (is_some o) (length l) (length l + 1)) (sym none)

    larger : None ≡ value_of string_order l k → pieces_of string_pieces n ≡ pieces_of string_pieces l + string_pieces k
    larger none =
        ap (pieces_of string_pieces) (sym done ∙ entered k given None none) ∙ sizes k (value_after given 0)
        ∙ ap (λ o. cond (is_some o) (pieces_of string_pieces l) (pieces_of string_pieces l + string_pieces k)) (sym none)

    -- so there is room to count it
    pub countable : None ≡ value_of string_order l k → length n < 2 ^ 64 → p.entries + 1 < 2 ^ 64
    countable none small = let e = longer none in let c = h.entries in omega (arith, e, c, small)

    -- an insertion of an absent key
    pub new-counted : None ≡ value_of string_order l k → (q : Stand) (w : ℕ)
        → q ≡ record { root = w; entries = p.entries + 1; pieces = p.pieces + string_pieces k } → HasCounts string_pieces n q
    new-counted none q w is = record {
      entries = ap (λ z. z.entries) is ∙ ap (λ c. c + 1) h.entries ∙ sym (longer none);
      pieces = ap (λ z. z.pieces) is ∙ ap (λ c. c + string_pieces k) h.pieces ∙ sym (larger none);
    }

    -- an insertion of a present key
    pub old-counted : (v : ℕ) → Some v ≡ value_of string_order l k → (q : Stand) (w : ℕ) → q ≡ record p { root = w } → HasCounts string_pieces n q
    old-counted v some q w is = record {
      entries = ap (λ z. z.entries) is ∙ h.entries
          ∙ sym (ap length (sym done ∙ entered k given (Some v) some) ∙ lengths k (value_after given v)
          ∙ ap (λ o. cond (is_some o) (length l) (length l + 1)) (sym some));
      pieces = ap (λ z. z.pieces) is ∙ h.pieces
          ∙ sym (ap (pieces_of string_pieces) (sym done ∙ entered k given (Some v) some) ∙ sizes k (value_after given v)
          ∙ ap (λ o. cond (is_some o) (pieces_of string_pieces l) (pieces_of string_pieces l + string_pieces k)) (sym some));
    }

  module _ (n : Entries (List ℕ)) (k : List ℕ) (done : n ≡ without_key string_order l k) where
    -- the number of entries after a removal
    shorter : (b : Bool) → b ≡ has_key string_order l k → length n + cond b 1 0 ≡ length l
    shorter b is =
        let all = length_without string_order nat_list_cmp_total k l (to_T _ sorted) in
        ap (λ m. length m + cond b 1 0) done ∙ ap (λ t. length (without_key string_order l k) + cond t 1 0) is
        ∙ omega (arith, all)

    -- the number of pieces after a removal
    smaller : (b : Bool) → b ≡ has_key string_order l k → pieces_of string_pieces n + cond b (string_pieces k) 0 ≡ pieces_of string_pieces l
    smaller b is =
        ap (λ m. pieces_of string_pieces m + cond b (string_pieces k) 0) done
        ∙ ap (λ t. pieces_of string_pieces (without_key string_order l k) + cond t (string_pieces k) 0) is
        ∙ pieces_of-without_key string_order nat_list_cmp_total names_apart string_pieces l k sorted

    -- a present key has its pieces in the array
    pub pieces-there : true ≡ has_key string_order l k → string_pieces k ≤ p.pieces
    pieces-there there = let e = smaller true there in let c = h.pieces in omega (arith, e, c)

    -- a present key was removed
    pub gone-counted : true ≡ has_key string_order l k → (q : Stand) (w : ℕ)
        → q ≡ record { root = w; entries = p.entries - 1; pieces = p.pieces - string_pieces k } → HasCounts string_pieces n q
    gone-counted there q w is = record {
      entries = ap (λ z. z.entries) is ∙ (let e = shorter true there in let c = h.entries in omega (arith, e, c));
      pieces = ap (λ z. z.pieces) is ∙ (let e = smaller true there in let c = h.pieces in omega (arith, e, c));
    }

    -- an absent key was to be removed
    pub stay-counted : false ≡ has_key string_order l k → (q : Stand) (w : ℕ) → q ≡ record p { root = w } → HasCounts string_pieces n q
    stay-counted absent q w is = record {
      entries = ap (λ z. z.entries) is ∙ (let e = shorter false absent in let c = h.entries in omega (arith, e, c));
      pieces = ap (λ z. z.pieces) is ∙ (let e = smaller false absent in let c = h.pieces in omega (arith, e, c));
    }

-- ---- the same for the map at a place; its reference was w, the key is s, and its reference is now
-- x

module _ (old new : ℕ → Entries (List ℕ)) (p : Stand) (w x : ℕ) (k s : List ℕ) (from : w ≡ p.root) (key : s ≡ k)
    (sorted : is_sorted string_order (old p.root) ≡ true) (h : HasCounts string_pieces (old p.root) p) where
  -- the place q with the root y leads to the map
  moved : (q : Stand) (y e f : ℕ) → y ≡ x → q ≡ record { root = y; entries = e; pieces = f } → HasCounts string_pieces (new x) q
      → HasCounts string_pieces (new q.root) q
  moved q y e f to is counts = subst (λ z. HasCounts string_pieces (new z) q) (sym (ap (λ z. z.root) is ∙ to)) counts

  -- the map after an insertion, which found the value `before`
  module _ (given : Given) (r : Reply) (step : insert string_order true (old w) s given ReportsValue ≡ (r, new x)) (before : Option ℕ)
      (told : before ≡ value_of string_order (old w) s) where
    left : (insert string_order true (old p.root) k given ReportsValue).1 ≡ new x
    left =
        ap (λ z. (insert string_order true (old z) k given ReportsValue).1) (sym from) ∙ ap (λ z. (insert string_order true (old w) z given ReportsValue).1) (sym key)
        ∙ ap (λ z. z.1) step

    was : before ≡ value_of string_order (old p.root) k
    was = told ∙ ap (λ z. value_of string_order (old z) s) from ∙ ap (value_of string_order (old p.root)) key

    pub counts-inserted : (q : Stand) (y : ℕ) → y ≡ x
        → (is_some before ≡ false → q ≡ record { root = y; entries = p.entries + 1; pieces = p.pieces + string_pieces k })
        → (is_some before ≡ true → q ≡ record p { root = y }) → HasCounts string_pieces (new q.root) q
    counts-inserted q y to grown kept = by before was grown kept
      where
        by : (o : Option ℕ) → o ≡ value_of string_order (old p.root) k
            → (is_some o ≡ false → q ≡ record { root = y; entries = p.entries + 1; pieces = p.pieces + string_pieces k })
            → (is_some o ≡ true → q ≡ record p { root = y }) → HasCounts string_pieces (new q.root) q
        by None is grown kept = moved q y _ _ to (grown refl) (new-counted (old p.root) p sorted h (new x) k given left is q y (grown refl))
        by (Some v) is grown kept = moved q y _ _ to (kept refl) (old-counted (old p.root) p sorted h (new x) k given left v is q y (kept refl))

    pub room-new : is_some before ≡ false → length (new x) < 2 ^ 64 → p.entries + 1 < 2 ^ 64
    room-new none small = countable (old p.root) p sorted h (new x) k given left (sym (no_value before none) ∙ was) small
      where
        no_value : (o : Option ℕ) → is_some o ≡ false → o ≡ None
        no_value None h = refl
        no_value (Some v) h = cc

  -- the reply to a removal, and the map afterwards
  module _ (b : Bool) (told : b ≡ has_key string_order (old w) s) (content : new x ≡ without_key string_order (old w) s) where
    there : b ≡ has_key string_order (old p.root) k
    there = told ∙ ap (λ z. has_key string_order (old z) s) from ∙ ap (has_key string_order (old p.root)) key

    without : new x ≡ without_key string_order (old p.root) k
    without = content ∙ ap (λ z. without_key string_order (old z) s) from ∙ ap (without_key string_order (old p.root)) key

    pub pieces-held : b ≡ true → string_pieces k ≤ p.pieces
    pieces-held held = pieces-there (old p.root) p sorted h (new x) k without (sym held ∙ there)

    pub counts-gone : b ≡ true → (q : Stand) (y : ℕ) → y ≡ x → q ≡ record {
      root = y;
      entries = p.entries - 1;
      pieces =
          p.pieces - string_pieces k;
    } → HasCounts string_pieces (new q.root) q
    counts-gone held q y to is = moved q y _ _ to is (gone-counted (old p.root) p sorted h (new x) k without (sym held ∙ there) q y is)

    pub counts-stay : b ≡ false → (q : Stand) (y : ℕ) → y ≡ x → q ≡ record p { root = y } → HasCounts string_pieces (new q.root) q
    counts-stay none q y to is = moved q y _ _ to is (stay-counted (old p.root) p sorted h (new x) k without (sym none ∙ there) q y is)

-- bytes without a 0
is-string : (s : List ℕ) → ((i : ℕ) → Fits w8 (get_or s i 0)) → list_all (λ b. nat_lt 0 b) s ≡ true → IsString s
is-string [] small h = tt
is-string (c ∷ s) small h = (some c (and_left _ _ h), let k = small 0 in omega (arith, k), is-string s (λ i. small (suc i)) (and_right _ _ h))
  where
    some : (n : ℕ) → nat_lt 0 n ≡ true → 0 < n
    some n h = grind (arith, nat_tests)

-- the key of a JudySL call is a string
pub key-string : (s : List ℕ) → ((i : ℕ) → Fits w8 (get_or s i 0)) → is_string s ≡ true → IsKeyString s
key-string s small h = record { string = is-string s small (and_right _ _ h); short = few (length s) (and_left _ _ h) }
  where
    few : (n : ℕ) → nat_le n 1000 ≡ true → n ≤ 1000
    few n h = grind (arith, nat_tests)
