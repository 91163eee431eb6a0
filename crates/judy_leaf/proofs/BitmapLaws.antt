-- What a bitmap leaf's entries are around one key.
use Rattle.std.proofs.Common.{◌≡◌, ◌≢◌, ℕ, suc, ◌+◌, ◌-◌, ◌%◌, ◌<◌, ◌≤◌, Bool, true, false, List, [], ◌∷◌, ◌++◌, length, map}
use Rattle.std.proofs.Common.{take, drop, get_or, refl, sym, ◌∙◌, ap, inl, inr, arith, Some, None, length-take-le}
use Rattle.std.proofs.Common.{length-append, drop-cons, length-drop, eq-eqb, ne_eqb, true≢false, subst, ◌^◌}
use Rattle.std.specs.Prelude.{filter, nat_lt, is_some, slice_index, if◌then◌else◌, cond}
use Rattle.std.specs.List.{zip, insert, remove}
use Rattle.std.specs.FinMap.{find, put}
use Rattle.std.specs.Ordering.{nat_cmp}
use Rattle.std.proofs.lemmas.Bool.{cases_eq}
use Rattle.std.proofs.lemmas.List.{length-map, map-append, length-replicate, take-append-drop, get_or-replicate, get_or-take, drop-take, take-take}
use Rattle.judy_bitmap.specs.ByteSets.{members, has_bit}
use Rattle.judy_leaf.specs.Entries.{share_bytes}
use Rattle.std.specs.List.{range_with_len}
use Rattle.std.specs.Prelude.{◌==◌, ◌&&◌, ◌/◌}
use Rattle.std.proofs.lemmas.List.FromFn.{length-range_with_len}
use Rattle.judy_leaf.specs.Linear.{leaf_count}
use lib.ListN.{length-take}
use Rattle.judy_bitmap.specs.ByteSets.{is_member, below, above, with_byte, without_byte}
use Rattle.judy_bitmap.proofs.lemmas.Each.{Each, Each-weaken, Each-map}
use Rattle.judy_bitmap.proofs.lemmas.MemberLaws.{below-each, above-each, members-each, members-around, Rises, members-rise}
use Rattle.std.specs.FinMap.{is_sorted}
use Rattle.std.specs.FinMap.Entries.{below_all}
use Rattle.std.specs.Cmp.{nat_cmp_is}
use Rattle.std.specs.declared.cmp.Ordering.TheVariants.{Less}
use Rattle.judy_leaf.proofs.OfWords.{has_key, with_entry, without_key, rank_of, keys_of, SameHead}
use Rattle.judy_leaf.specs.Bytes.{bitmap_bytes, bitmap_values, bitmap_entries, byte_entries, bitmap_size, leaf_shared, IsBits}
use Rattle.judy_leaf.proofs.Places.{values-with, values-without}
use lib.Seq.{get_or-set_other, drop-set-add, take-set-lt}
use Rattle.std.specs.Prelude.{slice_get}
use Rattle.std.proofs.lemmas.List.{get_or-map}
use Rattle.std.proofs.Common.{set, zero, length-set}
use Rattle.judy_leaf.proofs.Zipped.{find-none, put-between, find-between, without-between, rank-between, zip-keys, zip-values}
use Rattle.judy_model.proofs.lemmas.EntryLemmas.{place-old, keys-rise}
use Rattle.judy_model.specs.Contents.{HasWordValues}

Each-append : (P : ℕ → Type 0) (xs ys : List ℕ) → Each P xs → Each P ys → Each P (xs ++ ys)
Each-append P [] ys a b = b
Each-append P (x ∷ xs) ys a b = (a.0, Each-append P xs ys a.1 b)

-- ---- a set of bytes with values beside it, around one byte

module _ (shared byte : ℕ) (low high vs : List ℕ) (under : Each (λ x. x < byte) low) (over : Each (λ x. byte < x) high) (room : length low ≤ length vs) where
  abbrev onto : List ℕ → List ℕ
  onto bytes = map (λ b. shared + b) bytes

  onto-append : (xs ys : List ℕ) → onto (xs ++ ys) ≡ onto xs ++ onto ys
  onto-append xs ys = map-append (λ b. shared + b) xs ys

  keys_under : Each (λ x. x < shared + byte) (onto low)
  keys_under = Each-map (λ x. x < shared + byte) (λ b. shared + b) low
      (Each-weaken (λ x. x < byte) (λ x. shared + x < shared + byte) (λ x h. omega arith) low under)

  keys_over : Each (λ x. shared + byte < x) (onto high)
  keys_over = Each-map (λ x. shared + byte < x) (λ b. shared + b) high
      (Each-weaken (λ x. byte < x) (λ x. shared + byte < shared + x) (λ x h. omega arith) high over)

  front : length (take (length low) vs) ≡ length (onto low)
  front = length-take-le (length low) vs room ∙ sym (length-map low (λ b. shared + b))

  pub find-absent : find nat_cmp (shared + byte) (zip (onto (low ++ high)) vs) ≡ None
  find-absent =
      rw (onto-append low high)
      (find-none (shared + byte) (onto low ++ onto high) vs
      (Each-append (λ x. shared + byte ≢ x) (onto low) (onto high)
      (Each-weaken (λ x. x < shared + byte) (λ x. shared + byte ≢ x) (λ x h e. absurd (omega arith)) (onto low) keys_under)
      (Each-weaken (λ x. shared + byte < x) (λ x. shared + byte ≢ x) (λ x h e. absurd (omega arith)) (onto high) keys_over)))

  pub put-absent : (v : ℕ) → put nat_cmp (shared + byte) v (zip (onto (low ++ high)) vs) ≡ zip (onto (low ++ (byte ∷ high))) (insert vs (length low) v)
  put-absent v =
      rw (onto-append low high, onto-append low (byte ∷ high))
      (ap (λ l. put nat_cmp (shared + byte) v (zip (onto low ++ onto high) l)) (sym (take-append-drop (length low) vs))
      ∙ put-between (shared + byte) (onto low) (onto high) (take (length low) vs) (drop (length low) vs) v front keys_under keys_over)

  module _ (more : length low < length vs) where
    parts : vs ≡ take (length low) vs ++ (get_or vs (length low) 0 ∷ drop (suc (length low)) vs)
    parts = sym (take-append-drop (length low) vs) ∙ ap (λ l. take (length low) vs ++ l) (drop-cons vs (length low) 0 more)

    pub find-present : find nat_cmp (shared + byte) (zip (onto (low ++ (byte ∷ high))) vs) ≡ Some (get_or vs (length low) 0)
    find-present =
        rw (onto-append low (byte ∷ high))
        (ap (λ l. find nat_cmp (shared + byte) (zip (onto low ++ ((shared + byte) ∷ onto high)) l)) parts
        ∙ find-between (shared + byte) (onto low) (onto high) (take (length low) vs) (drop (suc (length low)) vs) (get_or vs (length low) 0) front keys_under)

    pub without-present : without_key (zip (onto (low ++ (byte ∷ high))) vs) (shared + byte) ≡ zip (onto (low ++ high)) (remove vs (length low))
    without-present =
        rw (onto-append low (byte ∷ high), onto-append low high)
        (ap (λ l. without_key (zip (onto low ++ ((shared + byte) ∷ onto high)) l) (shared + byte)) parts
        ∙ without-between (shared + byte) (onto low) (onto high) (take (length low) vs) (drop (suc (length low)) vs)
        (get_or vs (length low) 0) front keys_under keys_over)

    pub rank-present : length (filter (λ (e : ℕ × ℕ). nat_lt e.0 (shared + byte)) (zip (onto (low ++ (byte ∷ high))) vs)) ≡ length low
    rank-present =
        rw (onto-append low (byte ∷ high))
        (ap (λ l. length (filter (λ (e : ℕ × ℕ). nat_lt e.0 (shared + byte)) (zip (onto low ++ ((shared + byte) ∷ onto high)) l))) parts
        ∙ rank-between (shared + byte) (onto low) ((shared + byte) ∷ onto high) (take (length low) vs)
        (get_or vs (length low) 0 ∷ drop (suc (length low)) vs) front keys_under
        (omega arith, Each-weaken (λ x. shared + byte < x) (λ x. shared + byte ≤ x) (λ x h. omega arith) (onto high) keys_over)
        ∙ length-map low (λ b. shared + b))

without-above : (byte : ℕ) (high : List ℕ) → Each (λ x. byte < x) high → without_byte high byte ≡ high
without-above byte [] over = refl
without-above byte (x ∷ high) over = rw (ne_eqb x byte (λ e. absurd (omega (arith, over.0)))) (ap (λ l. x ∷ l) (without-above byte high over.1))

without-parts : (byte : ℕ) (low high : List ℕ) → Each (λ x. x < byte) low → Each (λ x. byte < x) high → without_byte (low ++ (byte ∷ high)) byte ≡ low ++ high
without-parts byte [] high under over = rw (eq-eqb byte byte refl) (without-above byte high over)
without-parts byte (x ∷ low) high under over = rw (ne_eqb x byte (λ e. absurd (omega (arith, under.0))))
    (ap (λ l. x ∷ l) (without-parts byte low high under.1 over))

-- ---- the entries of a leaf

pub values-length : (values : Bool) (n : ℕ) (words : List ℕ) → bitmap_size values n ≤ length words → length (bitmap_values values n words) ≡ n
values-length true n words room = length-take-le n (drop 6 words) (omega (arith, length-drop 6 words))
values-length false n words room = length-replicate n 0

-- the bitmap's words
abbrev bitmap : List ℕ → List ℕ
bitmap words = slice_index words 2 ∷ slice_index words 3 ∷ slice_index words 4 ∷ slice_index words 5 ∷ []

module _ (values : Bool) (words : List ℕ) (leaf : IsBits values words) where
  abbrev all : List ℕ
  all = bitmap_values values (slice_index words 0) words

  pub all-length : length all ≡ length (bitmap_bytes words)
  all-length = values-length values (slice_index words 0) words leaf.room ∙ leaf.count

  pub entries-keys : map (λ (e : ℕ × ℕ). e.0) (bitmap_entries values words) ≡ keys_of words
  unfolding bitmap_entries byte_entries
  entries-keys = zip-keys (keys_of words) all (all-length ∙ sym (length-map (bitmap_bytes words) (λ b. slice_index words 1 + b)))

  pub entries-values : map (λ (e : ℕ × ℕ). e.1) (bitmap_entries values words) ≡ all
  unfolding bitmap_entries byte_entries
  entries-values = zip-values (keys_of words) all (all-length ∙ sym (length-map (bitmap_bytes words) (λ b. slice_index words 1 + b)))

  -- a key with other shared bytes
  pub find-other : (key : ℕ) → key - key % 256 ≢ slice_index words 1 → find nat_cmp key (bitmap_entries values words) ≡ None
  unfolding bitmap_entries byte_entries
  find-other key other =
      find-none key (keys_of words) all
      (Each-map (λ x. key ≢ x) (λ b. slice_index words 1 + b) (bitmap_bytes words)
      (Each-weaken (λ b. b < 256) (λ b. key ≢ slice_index words 1 + b) (λ b h e. other (omega (arith, leaf.shared)))
      (bitmap_bytes words) (members-each (bitmap words))))

  module _ (byte : ℕ) (fits : byte < 256) where
    abbrev low : List ℕ
    low = below (bitmap_bytes words) byte

    abbrev high : List ℕ
    high = above (bitmap_bytes words) byte

    around_absent : is_member (bitmap_bytes words) byte ≡ false → bitmap_bytes words ≡ low ++ high
    around_absent absent = rw absent at (members-around (bitmap words) byte fits)

    around_present : is_member (bitmap_bytes words) byte ≡ true → bitmap_bytes words ≡ low ++ (byte ∷ high)
    around_present present = rw present at (members-around (bitmap words) byte fits)

    pub rank_absent : is_member (bitmap_bytes words) byte ≡ false → length low ≤ length (bitmap_bytes words)
    rank_absent absent = omega (arith, ap length (around_absent absent), length-append low high)

    pub rank_present : is_member (bitmap_bytes words) byte ≡ true → length low < length (bitmap_bytes words)
    rank_present present = omega (arith, ap length (around_present present), length-append low (byte ∷ high))

    pub leaf-find_absent : is_member (bitmap_bytes words) byte ≡ false → find nat_cmp (slice_index words 1 + byte) (bitmap_entries values words) ≡ None
    unfolding bitmap_entries byte_entries
    leaf-find_absent absent =
        ap (λ bytes. find nat_cmp (slice_index words 1 + byte) (zip (map (λ b. slice_index words 1 + b) bytes) all)) (around_absent absent)
        ∙ find-absent (slice_index words 1) byte low high all (below-each (bitmap_bytes words) byte)
        (above-each (bitmap_bytes words) byte) (omega (arith, all-length, rank_absent absent))

    pub leaf-find_present : is_member (bitmap_bytes words) byte ≡ true → find nat_cmp (slice_index words 1 + byte)
        (bitmap_entries values words) ≡ Some (get_or all (length low) 0)
    unfolding bitmap_entries byte_entries
    leaf-find_present present =
        ap (λ bytes. find nat_cmp (slice_index words 1 + byte) (zip (map (λ b. slice_index words 1 + b) bytes) all)) (around_present present)
        ∙ find-present (slice_index words 1) byte low high all (below-each (bitmap_bytes words) byte)
        (above-each (bitmap_bytes words) byte) (omega (arith, all-length, rank_present present))
        (omega (arith, all-length, rank_present present))

    pub leaf-rank : is_member (bitmap_bytes words) byte ≡ true
        → length (filter (λ (e : ℕ × ℕ). nat_lt e.0 (slice_index words 1 + byte)) (bitmap_entries values words)) ≡ length low
    unfolding bitmap_entries byte_entries
    leaf-rank present =
        ap (λ bytes. length (filter (λ (e : ℕ × ℕ). nat_lt e.0 (slice_index words 1 + byte))
        (zip (map (λ b. slice_index words 1 + b) bytes) all))) (around_present present)
        ∙ rank-present (slice_index words 1) byte low high all (below-each (bitmap_bytes words) byte)
        (above-each (bitmap_bytes words) byte) (omega (arith, all-length, rank_present present))
        (omega (arith, all-length, rank_present present))

    pub rank_of-present : is_member (bitmap_bytes words) byte ≡ true → rank_of (bitmap_entries values words) (slice_index words 1 + byte) ≡ Some (length low)
    rank_of-present present = rw (leaf-find_present present, leaf-rank present) refl

    pub rank_of-absent : is_member (bitmap_bytes words) byte ≡ false → rank_of (bitmap_entries values words) (slice_index words 1 + byte) ≡ None
    rank_of-absent absent = rw (leaf-find_absent absent) refl

    -- whether a key is present, by its byte
    pub has_key-byte : has_key (bitmap_entries values words) (slice_index words 1 + byte) ≡ is_member (bitmap_bytes words) byte
    has_key-byte =
        elim (is_member (bitmap_bytes words) byte) as (λ t. is_member (bitmap_bytes words) byte ≡ t
        → has_key (bitmap_entries values words) (slice_index words 1 + byte) ≡ t) [
          | true ↦ λ present. ap is_some (leaf-find_present present)
          | false ↦ λ absent. ap is_some (leaf-find_absent absent)
        ] refl

    -- a byte more, and a byte less
    module _ (new : List ℕ) (shared : slice_index new 1 ≡ slice_index words 1) where
      pub inserted : (y : ℕ) → is_member (bitmap_bytes words) byte ≡ false → slice_index new 0 ≡ slice_index words 0 + 1
          → bitmap_bytes new ≡ with_byte (bitmap_bytes words) byte
          → bitmap_values values (slice_index words 0 + 1) new ≡ insert all (length low) y
          → bitmap_entries values new ≡ with_entry (bitmap_entries values words) (slice_index words 1 + byte) y
      unfolding bitmap_entries byte_entries
      inserted y absent count bytes more =
          rw (count, shared, bytes, more)
          (sym (put-absent (slice_index words 1) byte low high all (below-each (bitmap_bytes words) byte)
          (above-each (bitmap_bytes words) byte) (omega (arith, all-length, rank_absent absent)) y)
          ∙ ap (λ set. put nat_cmp (slice_index words 1 + byte) y (zip (map (λ b. slice_index words 1 + b) set) all)) (sym (around_absent absent)))

      pub removed : is_member (bitmap_bytes words) byte ≡ true → slice_index new 0 ≡ slice_index words 0 - 1
          → bitmap_bytes new ≡ low ++ high
          → bitmap_values values (slice_index words 0 - 1) new ≡ remove all (length low)
          → bitmap_entries values new ≡ without_key (bitmap_entries values words) (slice_index words 1 + byte)
      unfolding bitmap_entries byte_entries
      removed present count bytes less =
          rw (count, shared, bytes, less)
          (sym (without-present (slice_index words 1) byte low high all (below-each (bitmap_bytes words) byte)
          (above-each (bitmap_bytes words) byte) (omega (arith, all-length, rank_present present))
          (omega (arith, all-length, rank_present present)))
          ∙ ap (λ set. without_key (zip (map (λ b. slice_index words 1 + b) set) all) (slice_index words 1 + byte)) (sym (around_present present)))

    -- the bytes that are left
    pub without-around : is_member (bitmap_bytes words) byte ≡ true → without_byte (bitmap_bytes words) byte ≡ low ++ high
    without-around present = ap (λ set. without_byte set byte) (around_present present) ∙ without-parts byte low high
        (below-each (bitmap_bytes words) byte) (above-each (bitmap_bytes words) byte)

-- ---- by whole keys

-- a key is the shared bytes and its last byte
pub whole : (key shared : ℕ) → key - key % 256 ≡ shared → shared + key % 256 ≡ key
whole key shared e = omega arith

module _ (values : Bool) (words : List ℕ) (leaf : IsBits values words) (key : ℕ) where
  pub rank_of-other : key - key % 256 ≢ slice_index words 1 → rank_of (bitmap_entries values words) key ≡ None
  rank_of-other other = rw (find-other values words leaf key other) refl

  module _ (same : key - key % 256 ≡ slice_index words 1) where
    pub rank_of-shared_present : is_member (bitmap_bytes words) (key % 256) ≡ true → rank_of (bitmap_entries values words) key
        ≡ Some (length (below (bitmap_bytes words) (key % 256)))
    rank_of-shared_present present =
        ap (rank_of (bitmap_entries values words)) (sym (whole key (slice_index words 1) same)) ∙ rank_of-present values words
        leaf (key % 256) (omega arith) present

    pub rank_of-shared_absent : is_member (bitmap_bytes words) (key % 256) ≡ false → rank_of (bitmap_entries values words) key ≡ None
    rank_of-shared_absent absent =
        ap (rank_of (bitmap_entries values words)) (sym (whole key (slice_index words 1) same)) ∙ rank_of-absent values words leaf
        (key % 256) (omega arith) absent

    pub has_key-shared : has_key (bitmap_entries values words) key ≡ is_member (bitmap_bytes words) (key % 256)
    has_key-shared = ap (has_key (bitmap_entries values words)) (sym (whole key (slice_index words 1) same)) ∙ has_key-byte values
        words leaf (key % 256) (omega arith)

  -- a key that is present has the shared bytes
  pub shared-present : has_key (bitmap_entries values words) key ≡ true → key - key % 256 ≡ slice_index words 1
  shared-present present =
      elim (cases_eq (key - key % 256) (slice_index words 1)) [
        | inl same ↦ same
        | inr other ↦ absurd (true≢false (sym present ∙ ap is_some (find-other values words leaf key other)))
      ]

  pub is_member-present : has_key (bitmap_entries values words) key ≡ true → is_member (bitmap_bytes words) (key % 256) ≡ true
  is_member-present present = sym (has_key-shared (shared-present present)) ∙ present

  pub rank-within : has_key (bitmap_entries values words) key ≡ true → length (below (bitmap_bytes words) (key % 256)) < length (bitmap_bytes words)
  rank-within present = rank_present values words leaf (key % 256) (omega arith) (is_member-present present)

  pub value-present : has_key (bitmap_entries values words) key ≡ true
      → find nat_cmp key (bitmap_entries values words) ≡ Some (get_or (bitmap_values values (slice_index words 0) words)
      (length (below (bitmap_bytes words) (key % 256))) 0)
  value-present present =
      ap (λ k. find nat_cmp k (bitmap_entries values words)) (sym (whole key (slice_index words 1) (shared-present present)))
      ∙ leaf-find_present values words leaf (key % 256) (omega arith) (is_member-present present)

-- the value of a rank, as the code reads it
pub value-read : (values : Bool) (n rank : ℕ) (words : List ℕ) → rank < n → bitmap_size values n ≤ length words
    → get_or (bitmap_values values n words) rank 0 ≡ (if values then slice_index (drop 6 words) rank else 0)
value-read true n rank words within room = get_or-take n (drop 6 words) rank 0 within
value-read false n rank words within room = get_or-replicate n rank 0 0 within

pub room-for : (values : Bool) (n rank size : ℕ) → rank < n → bitmap_size values n ≤ size → cond values (6 + (rank + 1)) 6 ≤ size
room-for true n rank size within room = omega arith
room-for false n rank size within room = omega arith

-- ---- what the steps of an insertion and of a removal leave

values-rest : (values : Bool) (n : ℕ) (mid new : List ℕ) → drop 6 new ≡ drop 6 mid → bitmap_values values n new ≡ bitmap_values values n mid
values-rest true n mid new rest = ap (take n) rest
values-rest false n mid new rest = refl

-- the facts on a block before, after its values were moved, and after its head was written
pub record Rewritten (values : Bool) (old mid new set changed bytes : List ℕ) (count now : ℕ) : Type 0 where
  pub was : set ≡ bitmap_bytes old
  pub counted : count ≡ length set
  pub head : SameHead old mid
  pub number : slice_index new 0 ≡ now
  pub shared : slice_index new 1 ≡ slice_index mid 1
  pub bits : bitmap_bytes new ≡ changed
  pub rest : drop 6 new ≡ drop 6 mid
  pub moved : bitmap_values values now mid ≡ bytes

module _ (values : Bool) (old mid new : List ℕ) (leaf : IsBits values old) (key : ℕ) (set changed moved : List ℕ) (count now : ℕ)
    (h : Rewritten values old mid new set changed moved count now) (same : key - key % 256 ≡ slice_index old 1) where
  abbrev last : ℕ
  last = key % 256

  last_fits : last < 256
  last_fits = omega arith

  number_is : count ≡ slice_index old 0
  number_is = h.counted ∙ ap length h.was ∙ sym leaf.count

  shared_is : slice_index new 1 ≡ slice_index old 1
  shared_is = h.shared ∙ h.head.word 1 (omega arith)

  rank_is : length (below set last) ≡ length (below (bitmap_bytes old) last)
  rank_is = ap (λ l. length (below l last)) h.was

  pub insertion : (y : ℕ) → y < 2 ^ 64 → has_key (bitmap_entries values old) key ≡ false → bitmap_size values
      (slice_index old 0 + 1) ≤ length new → length new ≡ length old
      → changed ≡ with_byte set last → moved ≡ insert (bitmap_values values count old) (length (below set last)) y → now ≡ count + 1
      → IsBits values new × (bitmap_entries values new ≡ with_entry (bitmap_entries values old) key y)
  insertion y word absent room size with inserted_is one =
      let none : is_member (bitmap_bytes old) last ≡ false = sym (has_key-shared values old leaf key same) ∙ absent in
      let number : slice_index new 0 ≡ slice_index old 0 + 1 = omega (arith, h.number, one, number_is) in
      let bytes : bitmap_bytes new ≡ with_byte (bitmap_bytes old) last = h.bits ∙ with ∙ ap (λ l. with_byte l last) h.was in
      let next : slice_index old 0 + 1 ≡ now = omega (arith, one, number_is) in
      let more : bitmap_values values (slice_index old 0 + 1) new ≡ insert (bitmap_values values (slice_index old 0) old)
      (length (below (bitmap_bytes old) last)) y =
      values-rest values (slice_index old 0 + 1) mid new h.rest ∙ ap (λ n. bitmap_values values n mid) next ∙ h.moved ∙ inserted_is
      ∙ (λ i. insert (bitmap_values values (number_is i) old) (rank_is i) y) in
      let e : bitmap_entries values new ≡ with_entry (bitmap_entries values old) key y = inserted values old leaf last last_fits
      new shared_is y none number bytes more ∙ ap (λ k. with_entry (bitmap_entries values old) k y)
      (whole key (slice_index old 1) same) in (
        record {
          room = rw number room;
          back = rw size leaf.back;
          word = rw shared_is leaf.word;
          values = subst HasWordValues (sym e) (values-with key y (bitmap_entries values old) word leaf.values);
          count = number ∙ rw bytes (omega (
            arith,
            leaf.count,
            ap length (around_absent values old leaf last last_fits none),
            length-append (below (bitmap_bytes old) last) (above (bitmap_bytes old) last),
            length-append
                (below (bitmap_bytes old) last) (last ∷ above (bitmap_bytes old) last),
          ));
          shared = rw shared_is leaf.shared;
        },
        e,
      )

  pub removal : has_key (bitmap_entries values old) key ≡ true → length new ≡ length old
      → changed ≡ without_byte set last → moved ≡ remove (bitmap_values values count old) (length (below set last)) → now ≡ count - 1
      → IsBits values new × (bitmap_entries values new ≡ without_key (bitmap_entries values old) key)
  removal present size without removed_is one =
      let some : is_member (bitmap_bytes old) last ≡ true = sym (has_key-shared values old leaf key same) ∙ present in
      let number : slice_index new 0 ≡ slice_index old 0 - 1 = omega (arith, h.number, one, number_is) in
      let bytes : bitmap_bytes new ≡ below (bitmap_bytes old) last ++ above (bitmap_bytes old) last =
      h.bits ∙ without ∙ ap (λ l. without_byte l last) h.was ∙ without-around values old leaf last last_fits some in
      let next : slice_index old 0 - 1 ≡ now = omega (arith, one, number_is) in
      let less : bitmap_values values (slice_index old 0 - 1) new ≡ remove (bitmap_values values (slice_index old 0) old)
      (length (below (bitmap_bytes old) last)) =
      values-rest values (slice_index old 0 - 1) mid new h.rest ∙ ap (λ n. bitmap_values values n mid) next ∙ h.moved ∙ removed_is
      ∙ (λ i. remove (bitmap_values values (number_is i) old) (rank_is i)) in
      let e : bitmap_entries values new ≡ without_key (bitmap_entries values old) key = removed values old leaf last last_fits new
      shared_is some number bytes less ∙ ap (λ k. without_key (bitmap_entries values old) k)
      (whole key (slice_index old 1) same) in (
        record {
          room = rw (number, size) (shorter values (slice_index old 0) (length old) leaf.room);
          back = rw size leaf.back;
          word = rw shared_is leaf.word;
          values = subst HasWordValues (sym e) (values-without key (bitmap_entries values old) leaf.values);
          count = number ∙ rw bytes (omega (
            arith,
            leaf.count,
            ap length (around_present values old leaf last last_fits some),
            length-append (below (bitmap_bytes old) last) (above (bitmap_bytes old) last),
            length-append
                (below (bitmap_bytes old) last) (last ∷ above (bitmap_bytes old) last),
          ));
          shared = rw shared_is leaf.shared;
        },
        e,
      )
    where
      shorter : (v : Bool) (n size : ℕ) → bitmap_size v n ≤ size → bitmap_size v (n - 1) ≤ size
      shorter true n size room = omega arith
      shorter false n size room = omega arith

-- ---- the keys rise

Rises-onto : (base : ℕ) (bytes : List ℕ) → Rises bytes → Rises (map (λ b. base + b) bytes)
Rises-onto base [] rise = tt
Rises-onto base (x ∷ bytes) rise = (
  Each-map (λ y. base + x < y) (λ b. base + b) bytes (Each-weaken (λ y. x < y) (λ y. base + x < base + y) (λ y h. omega arith) bytes rise.0),
  Rises-onto base bytes rise.1,
)

below-zip : (x : ℕ) (ks vs : List ℕ) → Each (λ y. x < y) ks → below_all nat_cmp x (zip ks vs) ≡ true
below-zip x [] vs each = refl
below-zip x (k ∷ ks) [] each = refl
below-zip x (k ∷ ks) (v ∷ vs) each = let e : nat_cmp x k ≡ Less = sym (nat_cmp_is x k Less each.0) in rw e (below-zip x ks vs each.1)

zip-sorted : (ks vs : List ℕ) → Rises ks → is_sorted nat_cmp (zip ks vs) ≡ true
zip-sorted [] vs rise = refl
zip-sorted (k ∷ ks) [] rise = refl
zip-sorted (k ∷ ks) (v ∷ vs) rise = rw (below-zip k ks vs rise.0) (zip-sorted ks vs rise.1)

-- what a block spells is sorted by its keys
pub entries-sorted : (values : Bool) (words : List ℕ) → is_sorted nat_cmp (bitmap_entries values words) ≡ true
unfolding bitmap_entries byte_entries
entries-sorted values words =
    zip-sorted (keys_of words) (bitmap_values values (slice_index words 0) words)
    (Rises-onto (slice_index words 1) (bitmap_bytes words) (members-rise (bitmap words)))

-- ---- a bitmap leaf is told by the words that it uses

-- two blocks that begin alike hold the same bitmap leaf
pub record SameBits (v : Bool) (f g : List ℕ) : Type 0 where
  pub leaf : IsBits v g
  pub entries : bitmap_entries v g ≡ bitmap_entries v f
  pub count : leaf_count g ≡ leaf_count f
  pub shared : leaf_shared g ≡ leaf_shared f

six : (v : Bool) (n : ℕ) → 6 ≤ bitmap_size v n
six true n = omega arith
six false n = omega arith

pub same-bits : (v : Bool) (f g : List ℕ) → IsBits v f → take (bitmap_size v (leaf_count f)) g ≡ take
    (bitmap_size v (leaf_count f)) f → bitmap_size v (leaf_count f) ≤ length g → cond v 15 8 ≤ length g → SameBits v f g
unfolding bitmap_entries byte_entries
same-bits v f g leaf same room back =
    let n : ℕ = leaf_count f in
    let u : ℕ = bitmap_size v n in
    let at = λ (i : ℕ) (h : i < 6). let s = six v n in
    let r : get_or g i 0 ≡ get_or f i 0 = sym (get_or-take u g i 0 (omega arith)) ∙ ap (λ l. get_or l i 0) same ∙ get_or-take u
    f i 0 (omega arith) in r in
    let count : leaf_count g ≡ n = at 0 (omega arith) in
    let shared : leaf_shared g ≡ leaf_shared f = at 1 (omega arith) in
    let bytes : bitmap_bytes g ≡ bitmap_bytes f =
    (λ i. members (at 2 (omega arith) i ∷ at 3 (omega arith) i ∷ at 4 (omega arith) i ∷ at 5 (omega arith) i ∷ [])) in
    let values : bitmap_values v (leaf_count g) g ≡ bitmap_values v n f = ap (λ m. bitmap_values v m g) count ∙ behind v n f g same in
    let e : bitmap_entries v g ≡ bitmap_entries v f = (λ i. zip (map (λ b. shared i + b) (bytes i)) (values i)) in
    record {
      leaf = record {
        room = subst (λ m. bitmap_size v m ≤ length g) (sym count) room;
        back = back;
        count = count ∙ leaf.count ∙ ap length (sym bytes);
        shared = ap (λ k. k % 256) shared ∙ leaf.shared;
        word = subst (λ k. k < 2 ^ 64) (sym shared) leaf.word;
        values = subst HasWordValues (sym e) leaf.values;
      };
      entries = e;
      count = count;
      shared = shared;
    }
  where
    behind : (v : Bool) (n : ℕ) (f g : List ℕ) → take (bitmap_size v n) g ≡ take (bitmap_size v n) f → bitmap_values v n g ≡ bitmap_values v n f
    behind true n f g e = sym (drop-take 6 n g) ∙ ap (drop 6) e ∙ drop-take 6 n f
    behind false n f g e = refl

-- the leaf in a block that was cut
pub cut-bits : (v : Bool) (f : List ℕ) (m : ℕ) → IsBits v f → bitmap_size v (leaf_count f) ≤ m → cond v 15 8 ≤ m → SameBits v f (take m f)
cut-bits v f m leaf h b = same-bits v f (take m f) leaf (take-take (bitmap_size v (leaf_count f)) m f h) (shorter m f h leaf.room) (shorter m f b leaf.back)
  where
    shorter : {k : ℕ} (m : ℕ) (f : List ℕ) → k ≤ m → k ≤ length f → k ≤ length (take m f)
    shorter {k} m f h r = let e = length-take m f in omega arith

-- a leaf has words
pub bits-live : (v : Bool) (f : List ℕ) → IsBits v f → 0 < length f
bits-live true f leaf = let b = leaf.back in omega arith
bits-live false f leaf = let b = leaf.back in omega arith

-- the leaf in a block that was taken for one key more
pub moved-bits : (v : Bool) (f g x : List ℕ) (u len : ℕ) → IsBits v f → 8 ≤ leaf_count f → x ≡ f → u ≡ bitmap_size v
    (leaf_count x) → len ≡ bitmap_size v (leaf_count x + 1) → length x < len → take u g ≡ take u f → len ≤ length g → SameBits v f g
moved-bits true f g x u len leaf many is used more short same room =
    let e : u ≡ 6 + leaf_count f = used ∙ ap (λ y. 6 + leaf_count y) is in
    let k : len ≡ 6 + (leaf_count f + 1) = more ∙ ap (λ y. 6 + (leaf_count y + 1)) is in
    same-bits true f g leaf (subst (λ m. take m g ≡ take m f) e same) (omega arith) (omega arith)
moved-bits false f g x u len leaf many is used more short same room = absurd (let b = leaf.back in let e = ap length is in omega arith)

few-left : (p : ℕ → Bool) (xs : List ℕ) → length (filter p xs) ≤ length xs
few-left p [] = omega arith
few-left p (x ∷ xs) = elim (p x) as (λ t. length (cond t (x ∷ filter p xs) (filter p xs)) ≤ length (x ∷ xs))
    [ true ↦ let h = few-left p xs in omega arith | false ↦ let h = few-left p xs in omega arith ]

-- there are at most 256 bits
pub bits-few : (v : Bool) (f : List ℕ) → IsBits v f → leaf_count f ≤ 256
unfolding members
bits-few v f leaf = omega (
  arith,
  leaf.count,
  few-left (has_bit (get_or f 2 0 ∷ get_or f 3 0 ∷ get_or f 4 0 ∷ get_or f 5 0 ∷ []))
      (range_with_len 0 256),
  length-range_with_len 0 256,
)

-- a key with other shared bytes can't join the keys of a leaf
pub bits-other : (v : Bool) (f : List ℕ) → IsBits v f → 8 ≤ leaf_count f → (key : ℕ) → key - key % 256 ≢ leaf_shared f
    → share_bytes (bitmap_entries v f) key ≡ false
unfolding bitmap_entries byte_entries
bits-other v f leaf many key other =
    never (leaf_shared f) (bitmap_bytes f) (bitmap_values v (leaf_count f) f) (members-each (bitmap f))
    (omega (arith, leaf.count)) (omega (arith, leaf.count, all-length v f leaf)) leaf.shared other
  where
    ne : (a b : ℕ) → a ≢ b → (a == b) ≡ false
    ne a b h = ne_eqb a b h

    never : (s : ℕ) (bytes vs : List ℕ) → Each (λ b. b < 256) bytes → 0 < length bytes → 0 < length vs → s % 256 ≡ 0 → key - key %
        256 ≢ s → share_bytes (zip (map (λ b. s + b) bytes) vs) key ≡ false
    never s [] vs each some more h o = absurd (omega arith)
    never s (b ∷ bytes) [] each some more h o = absurd (omega arith)
    never s (b ∷ bytes) (x ∷ vs) each some more h o = ap (λ t. t && share_bytes (zip (map (λ b. s + b) bytes) vs) key)
        (ne ((s + b) / 256) (key / 256) (λ e. o (omega (arith, each.0, h, e))))

-- a key that has the shared bytes shares bytes 0 to 6 with all keys
pub bits-share : (v : Bool) (f : List ℕ) → IsBits v f → (key : ℕ) → key - key % 256 ≡ leaf_shared f → share_bytes (bitmap_entries v f) key ≡ true
unfolding bitmap_entries byte_entries
bits-share v f leaf key same = all_of (leaf_shared f) (bitmap_bytes f) (bitmap_values v (leaf_count f) f) (members-each (bitmap f)) leaf.shared same
  where
    all_of : (s : ℕ) (bytes vs : List ℕ) → Each (λ b. b < 256) bytes → s % 256 ≡ 0 → key - key % 256 ≡ s → share_bytes
        (zip (map (λ b. s + b) bytes) vs) key ≡ true
    all_of s [] vs each h o = refl
    all_of s (b ∷ bytes) [] each h o = refl
    all_of s (b ∷ bytes) (x ∷ vs) each h o =
        let e : (s + b) / 256 ≡ key / 256 = omega (arith, each.0, h, o) in
        ap (λ t. t && share_bytes (zip (map (λ b. s + b) bytes) vs) key) (eq-eqb ((s + b) / 256) (key / 256) e) ∙ all_of s bytes vs each.1 h o

-- a leaf has as many entries as it says
pub bits-length : (v : Bool) (f : List ℕ) → IsBits v f → length (bitmap_entries v f) ≡ leaf_count f
bits-length v f leaf =
    sym (length-map (bitmap_entries v f) (λ (e : ℕ × ℕ). e.0)) ∙ ap length (entries-keys v f leaf) ∙ length-map (bitmap_bytes f)
    (λ b. leaf_shared f + b) ∙ sym leaf.count

slice_at : (xs : List ℕ) (i b : ℕ) → slice_get xs i ≡ Some b → (i < length xs) × (get_or xs i 0 ≡ b)
slice_at [] zero b e = cc
slice_at [] (suc i) b e = cc
slice_at (x ∷ xs) zero b e = let f : x ≡ b = cc in (omega arith, f)
slice_at (x ∷ xs) (suc i) b e = let r = slice_at xs i b e in let l = r.0 in (omega arith, r.1)

-- a value is written
pub bits-written : (f : List ℕ) (leaf : IsBits true f) (r key x : ℕ) → r < leaf_count f → slice_get (bitmap_bytes f) r ≡ Some
    (key % 256) → key - key % 256 ≡ leaf_shared f → x < 2 ^ 64
    → IsBits true (set f (6 + r) x) × (bitmap_entries true (set f (6 + r) x) ≡ with_entry (bitmap_entries true f) key x)
    × (leaf_count (set f (6 + r) x) ≡ leaf_count f)
unfolding bitmap_entries byte_entries
bits-written f leaf r key x within at same word =
    let g : List ℕ = set f (6 + r) x in
    let n : ℕ = leaf_count f in
    let ks : List ℕ = map (λ b. leaf_shared f + b) (bitmap_bytes f) in
    let vs : List ℕ = bitmap_values true n f in
    let word_at = λ (i : ℕ) (h : i < 6). let ne : i ≢ 6 + r = omega arith in let e : get_or g i 0 ≡ get_or f i 0 = get_or-set_other f (6 + r) i x 0 ne in e in
    let count : leaf_count g ≡ n = word_at 0 (omega arith) in
    let shared : leaf_shared g ≡ leaf_shared f = word_at 1 (omega arith) in
    let bytes : bitmap_bytes g ≡ bitmap_bytes f =
    (λ i. members (word_at 2 (omega arith) i ∷ word_at 3 (omega arith) i ∷ word_at 4 (omega arith) i ∷ word_at 5 (omega arith) i ∷ [])) in
    let values : bitmap_values true (leaf_count g) g ≡ set vs r x = ap (λ m. bitmap_values true m g) count ∙ ap (take n)
    (drop-set-add 6 f r x) ∙ take-set-lt n (drop 6 f) r x within in
    let here = slice_at (bitmap_bytes f) r (key % 256) at in
    let kn : length ks ≡ length (bitmap_bytes f) = length-map (bitmap_bytes f) (λ b. leaf_shared f + b) in
    let vn : length vs ≡ length ks = all-length true f leaf ∙ sym kn in
    let key_at : get_or ks r 0 ≡ key = get_or-map (λ b. leaf_shared f + b) (bitmap_bytes f) r 0 0 here.0
    ∙ ap (λ b. leaf_shared f + b) here.1 ∙ whole key (leaf_shared f) same in
    let put : with_entry (zip ks vs) key x ≡ zip ks (set vs r x) = place-old ks vs r key x vn (omega (arith, here.0, kn))
    (λ i less. subst (λ z. get_or ks i 0 < z) key_at (keys-rise ks vs i r (entries-sorted true f) vn less
    (omega (arith, here.0, kn)))) key_at in
    let e : bitmap_entries true g ≡ with_entry (bitmap_entries true f) key x = (λ i. zip (map (λ b. shared i + b) (bytes i)) (values i)) ∙ sym put in (
      record {
        room = let rm = leaf.room in omega (arith, count, length-set f (6 + r) x);
        back = let bk = leaf.back in omega (arith, length-set f (6 + r) x);
        count = count ∙ leaf.count ∙ ap length (sym bytes);
        shared = ap (λ k. k % 256) shared ∙ leaf.shared;
        word = subst (λ k. k < 2 ^ 64) (sym shared) leaf.word;
        values = subst HasWordValues (sym e) (values-with key x (bitmap_entries true f) word leaf.values);
      },
      e,
      count,
    )
