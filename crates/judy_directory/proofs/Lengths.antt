-- The bytes of names, and how they change with the places.
--     lengths-insert    a new name adds its bytes
--     lengths-remove    a name that goes takes its bytes along
--     lengths-set       a new place of a name changes nothing
--     bytes-recent      nor does the name used last
--     lengths-listed    the bytes of the names of a map are those of its list, if no name is twice there
use Rattle.std.proofs.Common.{◌≡◌, ℕ, ◌+◌, ◌-◌, ◌%◌, ◌^◌, ◌<◌, Bool, true, false, cond, List, [], ◌∷◌, ◌++◌, length}
use Rattle.std.proofs.Common.{Option, Some, None, is_some, IsTrue, ap, sym, ◌∙◌, refl, arith}
use Rattle.std.proofs.lemmas.Bool.{false≢true}
use Rattle.std.proofs.lemmas.List.{length-append}
use Rattle.std.proofs.lemmas.List.Sums.{sum_by-cons}
use Rattle.std.specs.declared.cmp.Ordering.{Ordering}
use Rattle.std.specs.declared.cmp.Ordering.TheVariants.{Less, Equal, Greater}
use Rattle.std.specs.Cmp.Lexicographic.{bytes_decides}
use Rattle.std.specs.Ordering.{eq_by_cmp, is_eq}
use Rattle.std.specs.FinMap.{FinMap, entries, keys, find, put, get, insert, remove, empty, from_entries, contains_key, len-entries, len-empty}
use Rattle.std.specs.FinMap.{get-entries, get-insert, get-remove, entries-insert, same_map}
use Rattle.std.specs.FinMap.Entries.{by_order}
use Rattle.judy_arena.proofs.lemmas.BlockLaws.{twice}
use Rattle.judy_model.specs.Contents.{string_order}
use Rattle.judy_model.proofs.lemmas.FormLemmas.{names_apart}
use Rattle.judy_directory.specs.Lengths.{length_if, lengths, name_bytes, name_length}
use Rattle.judy_directory.specs.Places.{Stand}
use Rattle.judy_directory.specs.Recent.{with_recent, has_recent}
use Rattle.judy_directory.specs.Rooms.{alike, AreOnce, HasListRoom}
use Rattle.judy_directory.specs.declared.recent.Recent.{Recent}
use Rattle.judy_directory.proofs.Leaving.{has-listed, keys_in, once-listed}
use Rattle.judy_directory.proofs.Rooms.{joined, one}
use Rattle.judy_directory.proofs.RecentPlaces.{none_of, tied-alike}
use Rattle.judy_directory.proofs.lemmas.Changes.{total}

-- the names that have a place
abbrev Names : Type 0
Names = FinMap string_order Stand

-- nothing is not something
not_both : {A : Type 0} (x : A) → Some x ≡ None → ⊥
not_both x e = let is = ap is_some e in absurd (false≢true (sym is))

-- a new entry adds the bytes of its name
put-new : (k : List ℕ) (v : Stand) (es : List (List ℕ × Stand)) → find string_order k es ≡ None
    → lengths (keys_in (put string_order k v es)) ≡ name_length k + lengths (keys_in es)
put-new k v [] h = sum_by-cons name_length k []
put-new k v (e ∷ es) h = by (string_order k e.0) h (put-new k v es)
  where
    by : (r : Ordering) → cond (is_eq r) (Some e.1) (find string_order k es) ≡ None
        → (find string_order k es ≡ None → lengths (keys_in (put string_order k v es)) ≡ name_length k + lengths (keys_in es))
        → lengths (keys_in (by_order r ((k, v) ∷ e ∷ es) ((e.0, v) ∷ es) (e ∷ put string_order k v es))) ≡ name_length k + lengths (keys_in (e ∷ es))
    by Less g more = sum_by-cons name_length k (keys_in (e ∷ es))
    by Equal g more = absurd (not_both e.1 g)
    by Greater g more =
        let rest = more g in
        let longer = sum_by-cons name_length e.0 (keys_in (put string_order k v es)) in
        let here = sum_by-cons name_length e.0 (keys_in es) in
        omega (arith, rest, longer, here)

-- a new name adds its bytes
pub lengths-insert : (m : Names) (k : List ℕ) (v : Stand) → get m k ≡ None → lengths (keys (insert m k v)) ≡ name_length k + lengths (keys m)
lengths-insert m k v none =
    ap (λ es. lengths (keys_in es)) (entries-insert total m k v) ∙ put-new k v (entries m) (sym (get-entries m k) ∙ none)

module _ (m : Names) (k : List ℕ) where
  -- a name that went has no place
  gone : get (remove m k) k ≡ None
  gone = get-remove total m k k ∙ ap (λ b. cond b None (get m k)) (tied-alike k k ∙ (bytes_decides k k).1 refl)

  -- a name that goes and comes again is there as before
  again : (v : Stand) → get m k ≡ Some v → insert (remove m k) k v ≡ m
  again v is = same_map total names_apart _ _ (λ q.
      get-insert total (remove m k) k v q ∙ ap (cond (eq_by_cmp string_order q k) (Some v)) (get-remove total m k q)
      ∙ twice (eq_by_cmp string_order q k) (Some v) None (get m q)
      ∙ ap (λ b. cond b (Some v) (get m q)) (tied-alike q k) ∙ back q (alike k q) refl)
    where
      back : (q : List ℕ) (b : Bool) → alike k q ≡ b → cond b (Some v) (get m q) ≡ get m q
      back q true e = sym is ∙ ap (get m) (one k q e)
      back q false e = refl

  -- a name that goes and comes with another place
  set-again : (v : Stand) → insert (remove m k) k v ≡ insert m k v
  set-again v = same_map total names_apart _ _ (λ q.
      get-insert total (remove m k) k v q ∙ ap (cond (eq_by_cmp string_order q k) (Some v)) (get-remove total m k q)
      ∙ twice (eq_by_cmp string_order q k) (Some v) None (get m q) ∙ sym (get-insert total m k v q))

  -- a name that goes takes its bytes along
  pub lengths-remove : (v : Stand) → get m k ≡ Some v → lengths (keys m) ≡ name_length k + lengths (keys (remove m k))
  lengths-remove v is = ap (λ x. lengths (keys x)) (sym (again v is)) ∙ lengths-insert (remove m k) k v gone

  -- where there is no name, none goes
  pub none-removed : get m k ≡ None → remove m k ≡ m
  none-removed none = same_map total names_apart _ _ (λ q.
      get-remove total m k q ∙ ap (λ b. cond b None (get m q)) (tied-alike q k) ∙ back q (alike k q) refl)
    where
      back : (q : List ℕ) (b : Bool) → alike k q ≡ b → cond b None (get m q) ≡ get m q
      back q true e = sym none ∙ ap (get m) (one k q e)
      back q false e = refl

  -- a new place of a name changes nothing
  pub lengths-set : (v : Stand) → IsTrue (contains_key m k) → lengths (keys (insert m k v)) ≡ lengths (keys m)
  lengths-set v there = by (get m k) refl there
    where
      by : (o : Option Stand) → get m k ≡ o → IsTrue (is_some o) → lengths (keys (insert m k v)) ≡ lengths (keys m)
      by None e h = cc
      by (Some w) e h = ap (λ x. lengths (keys x)) (sym (set-again v)) ∙ lengths-insert (remove m k) k v gone ∙ sym (lengths-remove w e)

-- the name used last is one of the names
pub lengths-recent : (r : Option Recent) (m : Names) → IsTrue (has_recent r m) → lengths (keys (with_recent r m)) ≡ lengths (keys m)
lengths-recent None m h = refl
lengths-recent (Some r) m h = lengths-set m r.spot r.place h

no_lengths : (es : List (List ℕ × Stand)) → length es ≡ 0 → lengths (keys_in es) ≡ 0
no_lengths [] h = refl
no_lengths (e ∷ es) h = absurd (omega (arith, h))

-- without names there are no bytes
pub lengths-empty : lengths (keys (empty {X = Stand} {R = string_order})) ≡ 0
lengths-empty =
    no_lengths (entries (empty {X = Stand} {R = string_order})) (sym (len-entries (empty {X = Stand} {R = string_order})) ∙ len-empty string_order Stand)

-- the bytes of the names of a map are those of its list, if no name is twice there
pub lengths-listed : (es : List (List ℕ × Stand)) → AreOnce (keys_in es) → lengths (keys (from_entries {R = string_order} es)) ≡ lengths (keys_in es)
lengths-listed [] h = lengths-empty
lengths-listed (e ∷ es) h =
    lengths-insert (from_entries {R = string_order} es) e.0 e.1 (none_of _ (has-listed e.0 es ∙ h.0))
    ∙ ap (λ n. name_length e.0 + n) (lengths-listed es h.1) ∙ sym (sum_by-cons name_length e.0 (keys_in es))

-- ---- the count modulo 2^64

bytes-are : (m : Names) → name_bytes m ≡ lengths (keys m) % 2 ^ 64
unfolding name_bytes
bytes-are m = refl

-- the name used last is one of the names
pub bytes-recent : (r : Option Recent) (m : Names) → IsTrue (has_recent r m) → name_bytes (with_recent r m) ≡ name_bytes m
bytes-recent r m h = bytes-are (with_recent r m) ∙ ap (λ n. n % 2 ^ 64) (lengths-recent r m h) ∙ sym (bytes-are m)

-- without names there are no bytes
pub bytes-none : (es fs : List (List ℕ × Stand)) → es ≡ [] → fs ≡ [] → 0 ≡ name_bytes (joined es fs)
bytes-none es fs e f =
    ap (λ n. n % 2 ^ 64) (sym lengths-empty) ∙ sym (bytes-are (empty {X = Stand} {R = string_order}))
    ∙ ap (λ l. name_bytes (from_entries {R = string_order} l)) (sym (ap (λ l. l ++ fs) e ∙ f))

-- the names of both lists, counted anew
pub bytes-listed : (es fs : List (List ℕ × Stand)) (room : ℕ) → HasListRoom es fs room → lengths (keys_in (es ++ fs)) % 2 ^ 64 ≡ name_bytes (joined es fs)
bytes-listed es fs room s =
    let both : length (es ++ fs) ≡ length es + length fs = length-append es fs in
    let many = s.many in
    ap (λ n. n % 2 ^ 64) (sym (lengths-listed (es ++ fs) (once-listed (es ++ fs) (omega (arith, many, both))))) ∙ sym (bytes-are (joined es fs))

module _ (bytes : ℕ) (m : Names) (is : bytes ≡ name_bytes m) where
  -- a new name is counted
  pub counted-insert : (k : List ℕ) (v : Stand) (n : Names) → n ≡ insert m k v → get m k ≡ None → (bytes + name_length k) % 2 ^ 64 ≡ name_bytes n
  counted-insert k v n same none =
      let more = lengths-insert m k v none in
      let before = bytes-are m in
      let sum : (bytes + name_length k) % 2 ^ 64 ≡ lengths (keys (insert m k v)) % 2 ^ 64 = omega (arith, is, before, more) in
      sum ∙ sym (bytes-are (insert m k v)) ∙ ap name_bytes (sym same)

  -- the same names have the same bytes
  pub counted-same : (n : Names) → n ≡ m → bytes ≡ name_bytes n
  counted-same n same = is ∙ ap name_bytes (sym same)

  -- a new place of a name is no name
  pub counted-set : (k : List ℕ) (v : Stand) (n : Names) → n ≡ insert m k v → IsTrue (contains_key m k) → bytes ≡ name_bytes n
  counted-set k v n same there =
      is ∙ bytes-are m ∙ ap (λ x. x % 2 ^ 64) (sym (lengths-set m k v there)) ∙ sym (bytes-are (insert m k v)) ∙ ap name_bytes (sym same)

  -- a name that goes is counted no more
  pub counted-remove : (k : List ℕ) (o : Option Stand) (n : Names) → n ≡ remove m k → get m k ≡ o → (less : ℕ) → less < 2 ^ 64
      → less ≡ length_if o k → (bytes + (2 ^ 64 - less)) % 2 ^ 64 ≡ name_bytes n
  counted-remove k None n same none less low sum =
      let all = bytes-are m in
      let left : (bytes + (2 ^ 64 - less)) % 2 ^ 64 ≡ bytes = omega (arith, low, sum, is, all) in
      left ∙ counted-same n (same ∙ none-removed m k none)
  counted-remove k (Some v) n same there less low sum =
      let all = bytes-are m in
      let parts = lengths-remove m k v there in
      let left : (bytes + (2 ^ 64 - less)) % 2 ^ 64 ≡ lengths (keys (remove m k)) % 2 ^ 64 = omega (arith, low, sum, is, all, parts) in
      left ∙ sym (bytes-are (remove m k)) ∙ ap name_bytes (sym same)
