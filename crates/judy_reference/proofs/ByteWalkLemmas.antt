-- Walks over byte keys: the words of keys, and the first of the entries that a search has seen.
use Rattle.std.proofs.Common.{◌≡◌, ◌∙◌, ◌∷◌, ◌++◌, ◌+◌, ◌<◌, ◌≤◌, ℕ, Bool, true, false, cond, List, [], Option, Some, None}
use Rattle.std.proofs.Common.{get_or, length, drop, map, take, refl, sym, ap, subst}
use Rattle.std.specs.Prelude.{slice_index, unwrap_or}
use Rattle.std.specs.Int.{from_be_bytes, w64}
use Rattle.std.specs.Ordering.{eq_by_cmp, is_gt, is_lt}
use Rattle.std.specs.Cmp.{tied_itself}
use Rattle.std.specs.Cmp.Lexicographic.{nat_list_cmp_total}
use Rattle.std.proofs.lemmas.List.{take_all, take_more}
use Rattle.std.proofs.lemmas.Option.{none-some}
use Rattle.judy_model.specs.Contents.{Entries, next, string_order, value_of}
use Rattle.judy_model.specs.declared.calls.Search.TheVariants.{Next}
use Rattle.judy_model.specs.Walks.{by_hash, hashed_key, key_words, listed, listed_from, walk, walk_bytes, walk_from}
use Rattle.judy_model.proofs.lemmas.ByteLemmas.{by_hash_rises, key_by_hash, least_next, none_next, value_by_hash}
use Rattle.judy_model.proofs.lemmas.EntryLemmas.{same_string, string_is}
use Rattle.judy_model.proofs.lemmas.TestLemmas.{is_Less, not_both}
use Rattle.judy_reference.specs.Store.{comes_behind, comes_first}

-- ---- words of keys

-- eight bytes one by one are the first eight
pub first_eight : (d : List ℕ) → from_be_bytes w64 (slice_index d 0 ∷ slice_index d 1 ∷ slice_index d 2 ∷ slice_index d 3 ∷ slice_index d 4
    ∷ slice_index d 5 ∷ slice_index d 6 ∷ slice_index d 7 ∷ []) ≡ from_be_bytes w64 (take 8 d)
first_eight [] = refl
first_eight (a ∷ []) = refl
first_eight (a ∷ b ∷ []) = refl
first_eight (a ∷ b ∷ c ∷ []) = refl
first_eight (a ∷ b ∷ c ∷ d ∷ []) = refl
first_eight (a ∷ b ∷ c ∷ d ∷ e ∷ []) = refl
first_eight (a ∷ b ∷ c ∷ d ∷ e ∷ f ∷ []) = refl
first_eight (a ∷ b ∷ c ∷ d ∷ e ∷ f ∷ g ∷ []) = refl
first_eight (a ∷ b ∷ c ∷ d ∷ e ∷ f ∷ g ∷ h ∷ more) = refl

-- ---- one more entry at the end

-- a key that has a value keeps it
stays : (l : Entries (List ℕ)) (e : List ℕ × ℕ) (k : List ℕ) (v : ℕ) → value_of string_order l k ≡ Some v → value_of string_order (l ++ e ∷ []) k ≡ Some v
stays [] e k v h = absurd (none-some v h)
stays (x ∷ xs) e k v h = by (eq_by_cmp string_order k x.0) h (stays xs e k v)
  where
    by : (b : Bool) → cond b (Some x.1) (value_of string_order xs k) ≡ Some v
        → (value_of string_order xs k ≡ Some v → value_of string_order (xs ++ e ∷ []) k ≡ Some v)
        → cond b (Some x.1) (value_of string_order (xs ++ e ∷ []) k) ≡ Some v
    by true h rest = h
    by false h rest = rest h

-- a key that has a value then had one, or it is the new key
comes : {P : Type 0} (l : Entries (List ℕ)) (e : List ℕ × ℕ) (k : List ℕ) (v : ℕ) → value_of string_order (l ++ e ∷ []) k ≡ Some v
    → (value_of string_order l k ≡ Some v → P) → (k ≡ e.0 → P) → P
comes {P} [] e k v h had new = by (eq_by_cmp string_order k e.0) refl h
  where
    by : (b : Bool) → eq_by_cmp string_order k e.0 ≡ b → cond b (Some e.1) None ≡ Some v → P
    by true is h = new (same_string k e.0 is)
    by false is h = absurd (none-some v h)
comes {P} (x ∷ xs) e k v h had new = by (eq_by_cmp string_order k x.0) h had (λ g had. comes xs e k v g had new)
  where
    by : (b : Bool) → cond b (Some x.1) (value_of string_order (xs ++ e ∷ []) k) ≡ Some v
        → (cond b (Some x.1) (value_of string_order xs k) ≡ Some v → P)
        → (value_of string_order (xs ++ e ∷ []) k ≡ Some v → (value_of string_order xs k ≡ Some v → P) → P) → P
    by true h had rest = had h
    by false h had rest = rest h had

-- a new key gets the value of its entry
arrives : (l : Entries (List ℕ)) (e : List ℕ × ℕ) → ((v : ℕ) → value_of string_order l e.0 ≡ Some v → ⊥) → value_of string_order (l ++ e ∷ []) e.0 ≡ Some e.1
arrives [] e new = ap (λ b. cond b (Some e.1) None) (string_is e.0 e.0 refl)
arrives (x ∷ xs) e new = by (eq_by_cmp string_order e.0 x.0) new (arrives xs e)
  where
    by : (b : Bool) → ((v : ℕ) → cond b (Some x.1) (value_of string_order xs e.0) ≡ Some v → ⊥)
        → (((v : ℕ) → value_of string_order xs e.0 ≡ Some v → ⊥) → value_of string_order (xs ++ e ∷ []) e.0 ≡ Some e.1)
        → cond b (Some x.1) (value_of string_order (xs ++ e ∷ []) e.0) ≡ Some e.1
    by true new rest = absurd (new x.1 refl)
    by false new rest = rest new

-- ---- the first entry of a walk

-- Of these entries, the one at this place is the first behind `from`.
pub record IsFirst (l : Entries (List ℕ)) (from place : List ℕ) (value : ℕ) : Type 0 where
  pub key : List ℕ
  pub its : place ≡ hashed_key key
  pub held : value_of string_order l key ≡ Some value
  pub behind : is_gt (string_order place from) ≡ true
  pub least : (k : List ℕ) (v : ℕ) → value_of string_order l k ≡ Some v → is_gt (string_order (hashed_key k) from) ≡ true
      → is_lt (string_order (hashed_key k) place) ≡ false

-- what was found is the first one behind `from`, or there is none
abbrev pub IsBest : Entries (List ℕ) → List ℕ → Option (List ℕ × ℕ) → Type 0
IsBest l from None = (k : List ℕ) (v : ℕ) → value_of string_order l k ≡ Some v → is_gt (string_order (hashed_key k) from) ≡ false
IsBest l from (Some e) = IsFirst l from e.0 e.1

-- there is none at the start
pub best_none : (from : List ℕ) → IsBest [] from None
best_none from = λ k v h. absurd (none-some v h)

-- at the end it is what comes next
pub best_next : (l : Entries (List ℕ)) (from : List ℕ) (o : Option (List ℕ × ℕ)) → IsBest l from o → o ≡ next string_order (by_hash l) from
best_next l from None best =
    sym (none_next (by_hash l) from (λ q v h. let (key, is, found) = key_by_hash l q v h in
    ap (λ p. is_gt (string_order p from)) is ∙ best key v found) (by_hash_rises l))
best_next l from (Some e) best =
    sym (least_next (by_hash l) from e.0 e.1 (by_hash_rises l)
    (ap (value_of string_order (by_hash l)) best.its ∙ value_by_hash l best.key ∙ best.held) best.behind
    (λ q v h up. let (key, is, found) = key_by_hash l q v h in
    ap (λ p. is_lt (string_order p e.0)) is ∙ best.least key v found (ap (λ p. is_gt (string_order p from)) (sym is) ∙ up)))

-- an entry that is not behind `from`, or not before what was found
pub best_stays : (l : Entries (List ℕ)) (from : List ℕ) (o : Option (List ℕ × ℕ)) (e : List ℕ × ℕ) → IsBest l from o
    → (is_gt (string_order (hashed_key e.0) from) ≡ true → comes_first (hashed_key e.0) o ≡ false) → IsBest (l ++ e ∷ []) from o
best_stays l from None e best later =
    λ k v h. comes l e k v h (best k v) (λ is. ap (λ j. is_gt (string_order (hashed_key j) from)) is ∙ low (is_gt (string_order (hashed_key e.0) from)) later)
  where
    low : (b : Bool) → (b ≡ true → true ≡ false) → b ≡ false
    low true never = never refl
    low false never = refl
best_stays l from (Some f) e best later = record {
  key = best.key;
  its = best.its;
  held = stays l e best.key f.1 best.held;
  behind = best.behind;
  least = λ k v h up. comes l e k v h (λ had. best.least k v had up)
      (λ is. ap (λ j. is_lt (string_order (hashed_key j) f.0)) is ∙ later (ap (λ j. is_gt (string_order (hashed_key j) from)) (sym is) ∙ up));
}

-- no key is before itself
itself : (x : List ℕ) → is_lt (string_order x x) ≡ false
itself x = ap is_lt (tied_itself nat_list_cmp_total x)

-- what is not before one is not before a lesser one
not_below : (k e b : List ℕ) → is_lt (string_order e b) ≡ true → is_lt (string_order k b) ≡ false → is_lt (string_order k e) ≡ false
not_below k e b less from = by (is_lt (string_order k e)) refl
  where
    by : (t : Bool) → is_lt (string_order k e) ≡ t → t ≡ false
    by false is = refl
    by true is = absurd (not_both (is_lt (string_order k b))
        (ap is_lt (nat_list_cmp_total.trans k e b (is_Less (string_order k e) is) (is_Less (string_order e b) less))) from)

-- an entry behind `from` and before what was found
pub best_moves : (l : Entries (List ℕ)) (from : List ℕ) (o : Option (List ℕ × ℕ)) (e : List ℕ × ℕ) → IsBest l from o
    → is_gt (string_order (hashed_key e.0) from) ≡ true → comes_first (hashed_key e.0) o ≡ true → IsBest (l ++ e ∷ []) from (Some (hashed_key e.0, e.1))
best_moves l from None e best up first = record {
  key = e.0;
  its = refl;
  held = arrives l e (λ v h. not_both (is_gt (string_order (hashed_key e.0) from)) up (best e.0 v h));
  behind = up;
  least = λ k v h above. comes l e k v h (λ had. absurd (not_both (is_gt (string_order (hashed_key k) from)) above (best k v had)))
      (λ is. ap (λ j. is_lt (string_order (hashed_key j) (hashed_key e.0))) is ∙ itself (hashed_key e.0));
}
best_moves l from (Some f) e best up first = record {
  key = e.0;
  its = refl;
  held = arrives l e (λ v h. not_both (is_lt (string_order (hashed_key e.0) f.0)) first (best.least e.0 v h up));
  behind = up;
  least = λ k v h above. comes l e k v h (λ had. not_below (hashed_key k) (hashed_key e.0) f.0 first (best.least k v had above))
      (λ is. ap (λ j. is_lt (string_order (hashed_key j) (hashed_key e.0))) is ∙ itself (hashed_key e.0));
}

-- ---- a search's loop

-- each place is behind the beginning
pub behind_is : (k : List ℕ) (from : Option (List ℕ)) → comes_behind (hashed_key k) from ≡ is_gt (string_order (hashed_key k) (unwrap_or from []))
behind_is k None = refl
behind_is k (Some from) = refl

-- the entries seen so far, and one more
seen : {A : Type 0} (xs : List A) (i : ℕ) (x : A) → i < length xs → x ≡ get_or xs i x → take i xs ++ x ∷ [] ≡ take (i + 1) xs
seen xs i x h is = ap (λ y. take i xs ++ y ∷ []) is ∙ sym (take_more xs i x h)

pub search_stays : (xs : Entries (List ℕ)) (i : ℕ) (from : Option (List ℕ)) (o : Option (List ℕ × ℕ)) (e : List ℕ × ℕ)
    → i < length xs → e ≡ get_or xs i e → IsBest (take i xs) (unwrap_or from []) o
    → (comes_behind (hashed_key e.0) from ≡ true → comes_first (hashed_key e.0) o ≡ false) → IsBest (take (i + 1) xs) (unwrap_or from []) o
search_stays xs i from o e h is best later = subst (λ l. IsBest l (unwrap_or from []) o) (seen xs i e h is)
    (best_stays (take i xs) (unwrap_or from []) o e best (λ up. later (behind_is e.0 from ∙ up)))

pub search_moves : (xs : Entries (List ℕ)) (i : ℕ) (from : Option (List ℕ)) (o : Option (List ℕ × ℕ)) (e : List ℕ × ℕ)
    → i < length xs → e ≡ get_or xs i e → IsBest (take i xs) (unwrap_or from []) o
    → comes_behind (hashed_key e.0) from ≡ true → comes_first (hashed_key e.0) o ≡ true
    → IsBest (take (i + 1) xs) (unwrap_or from []) (Some (hashed_key e.0, e.1))
search_moves xs i from o e h is best up first = subst (λ l. IsBest l (unwrap_or from []) (Some (hashed_key e.0, e.1))) (seen xs i e h is)
    (best_moves (take i xs) (unwrap_or from []) o e best (sym (behind_is e.0 from) ∙ up) first)

-- after the end all entries were seen
pub seen_all : (xs : Entries (List ℕ)) (i : ℕ) (from : List ℕ) (o : Option (List ℕ × ℕ)) → length xs ≤ i → IsBest (take i xs) from o → IsBest xs from o
seen_all xs i from o h best = subst (λ l. IsBest l from o) (take_all i xs h) best

-- ---- the text of a walk

-- the text of an entry at its place
abbrev pub place_words : List ℕ × ℕ → List ℕ
place_words e = key_words (drop 1 e.0, e.1)

shown : (l : Entries (List ℕ)) → map place_words l ≡ map key_words (map (λ e. (drop 1 e.0, e.1)) l)
shown [] = refl
shown (e ∷ l) = ap (λ texts. place_words e ∷ texts) (shown l)

-- the list of a walk over byte keys, by their places
pub walk_places : (l : Entries (List ℕ)) (from : List ℕ) (most : ℕ) (found : Option (List ℕ × ℕ)) → found ≡ next string_order (by_hash l) from
    → listed_from 0 [] (map place_words (walk_from (λ e. next string_order (by_hash l) e.0) most found)) ≡ listed (map key_words (walk_bytes l from most))
walk_places l from most found is =
    ap (λ o. listed_from 0 [] (map place_words (walk_from (λ e. next string_order (by_hash l) e.0) most o))) is
    ∙ ap (listed_from 0 []) (shown (walk string_order (by_hash l) Next from most))
