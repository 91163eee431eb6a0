-- What holds of a service at all times: the form, the quota and the words of each tenant.
use Rattle.std.proofs.Common.{max, ◌≡◌, ℕ, ◌+◌, ◌*◌, ◌≤◌, ◌<◌, Bool, true, false, cond, ◌&&◌, List, [], ◌∷◌, length, Option, Some}
use Rattle.std.proofs.Common.{None, is_some, ap, sym, ◌∙◌, refl, subst, arith}
use Rattle.std.specs.Prelude.{unwrap_or, option_map}
use Rattle.std.specs.List.{list_all}
use Rattle.std.specs.Ordering.{eq_by_cmp}
use Rattle.std.specs.FinMap.{find, get, is_sorted}
use Rattle.std.specs.FinMap.Entries.{below_all}
use Rattle.std.proofs.lemmas.Bool.{and_from}
use Rattle.std.proofs.lemmas.List.Sums.{sum_by-cons}
use Rattle.std.proofs.lemmas.Option.{none-some}
use Rattle.judy_arena.specs.Blocks.{Blocks, total_words}
use Rattle.judy_arena.specs.Totals.{TotalsOver}
use Rattle.judy_model.specs.Contents.{Entries, word_order, string_order}
use Rattle.judy_model.specs.Pieces.{word_pieces, string_pieces, pieces_of}
use Rattle.judy_model.proofs.lemmas.StateLemmas.{not_found}
use Rattle.judy_model.proofs.lemmas.TestLemmas.{and_left, and_right, from_T}
use Rattle.judy_model.specs.Tenant.{Arrays, State, content_of, pieces, pieces_in}
use Rattle.judy_model.specs.WellFormed.{is_one_entry, is_long_entry, is_string_entry, is_bytes_entry, is_content, has_entries}
use Rattle.judy_model.specs.WellFormed.{IsWellFormed, IsWithin}
use Rattle.judy_model.proofs.lemmas.EntryLemmas.{same_string, string_is}
use Rattle.judy_directory.specs.Places.{Stand, at, nothing}
use Rattle.judy_directory.specs.Kinds.{owner_byte, spot_of}
use Rattle.judy_model.specs.declared.commands.Kind.{Kind}
use Rattle.judy_model.specs.declared.commands.Kind.TheVariants.{One, Long, Str, Bytes}
use Rattle.judy_directory.specs.Shelf.{Places}
use Rattle.judy_directory.proofs.lemmas.Changes.{total}
use Rattle.judy_directory.proofs.lemmas.Named.{find-arrays_of, sorted-arrays_of}
use Rattle.judy_table.specs.declared.tenant.Tenant.{Tenant}
use Rattle.judy_kinds.specs.Kinds.{IsPlaceOf}
use Rattle.judy_kinds.specs.Laws.{AreFewWords, IsSmall, PlacesAreSmall, IsInForm, ContentsAreInForm}
use Rattle.judy_tenants.specs.declared.stock.Stock.{Stock}
use Rattle.judy_tenants.specs.Held.{Held, states_of, quotas_of, words_named, summed_words, tenant_words, HasLeastOf, HasLeast, IsShare, IsSoundService}
use Rattle.judy_tenants.specs.States.{state_in, words_at, sized, sizes_in, IsHeld}
use Rattle.judy_tenants.specs.Growth.{KindLaws}
use Rattle.judy_tenants.proofs.StateLaws.{KeyOf, content_at, size_at, arrays_at, arrays_at-state_in, place-in, entries-in}
use Rattle.judy_tenants.specs.Stocks.{held_of, IsGranted, IsStocked}
use Rattle.judy_tenants.proofs.Names.{has_some}
use Rattle.judy_tenants.proofs.Seen.{seen-state, seen-sizes, seen-sum, seen-space, seen-names}

-- ---- what holds of each array that can be found holds of all

module _ {A : Type 0} (a : List ℕ × A) (arrays : List (List ℕ × A)) (rise : is_sorted string_order (a ∷ arrays) ≡ true) where
  -- the first array is found by its name
  first_found : find string_order a.0 (a ∷ arrays) ≡ Some a.1
  first_found = ap (λ r. cond r (Some a.1) (find string_order a.0 arrays)) (string_is a.0 a.0 refl)

  -- the first name does not occur again
  not_further : find string_order a.0 arrays ≡ None
  not_further = not_found string_order total a.0 arrays (and_left (below_all string_order a.0 arrays) _ rise)

  -- so an array that is found further on is found
  later_found : (m : List ℕ) (l : A) → find string_order m arrays ≡ Some l → find string_order m (a ∷ arrays) ≡ Some l
  later_found m l h = elim (eq_by_cmp string_order m a.0) as (λ r. eq_by_cmp string_order m a.0 ≡ r → cond r (Some a.1) (find string_order m arrays) ≡ Some l) [
    | true ↦ λ i. absurd (none-some l (sym not_further ∙ ap (λ k. find string_order k arrays) (sym (same_string m a.0 i)) ∙ h))
    | false ↦ λ i. h
  ] refl

  rest_rises : is_sorted string_order arrays ≡ true
  rest_rises = and_right (below_all string_order a.0 arrays) _ rise

-- a test
all_pass : {A : Type 0} (test : List ℕ × A → Bool) (arrays : List (List ℕ × A)) → is_sorted string_order arrays ≡ true
    → ((m : List ℕ) (l : A) → find string_order m arrays ≡ Some l → test (m, l) ≡ true) → list_all test arrays ≡ true
all_pass test [] rise h = refl
all_pass test (a ∷ arrays) rise h =
    and_from (test a) _ (h a.0 a.1 (first_found a arrays rise)) (all_pass test arrays (rest_rises a arrays rise)
    (λ m l i. h m l (later_found a arrays rise m l i)))

-- a bound on words
few_in_all : {K : Type 0} (words : List ℕ → ℕ) (size : K → ℕ) (arrays : Arrays K) → is_sorted string_order arrays ≡ true
    → ((m : List ℕ) (l : Entries K) → find string_order m arrays ≡ Some l → words m ≤ 16 * pieces_of size l)
    → summed_words (sized words arrays) ≤ 16 * pieces_in size arrays
few_in_all words size [] rise h = omega arith
few_in_all words size (a ∷ arrays) rise h =
    let here = h a.0 a.1 (first_found a arrays rise) in
    let rest = few_in_all words size arrays (rest_rises a arrays rise) (λ m l i. h m l (later_found a arrays rise m l i)) in
    let sizes = sum_by-cons (λ (z : List ℕ × ℕ). z.1) (a.0, words a.0) (sized words arrays) in
    let both = sum_by-cons (λ (z : List ℕ × Entries _). pieces_of size z.1) a arrays in
    omega (arith, here, rest, sizes, both)

-- the words of a name are found if its array is
find-sized : {K : Type 0} (words : List ℕ → ℕ) (arrays : Arrays K) (m : List ℕ)
    → find string_order m (sized words arrays) ≡ option_map (λ l. words m) (find string_order m arrays)
find-sized words [] m = refl
find-sized words (a ∷ arrays) m = elim (eq_by_cmp string_order m a.0) as (λ r. eq_by_cmp string_order m a.0 ≡ r
    → cond r (Some (words a.0)) (find string_order m (sized words arrays)) ≡ option_map (λ l. words m) (cond r (Some a.1) (find string_order m arrays))) [
      | true ↦ λ i. ap (λ k. Some (words k)) (sym (same_string m a.0 i))
      | false ↦ λ i. find-sized words arrays m
    ] refl

-- ---- the arrays of a tenant

module _ {H : List ℕ → ℕ} (laws : KindLaws H) (b : Blocks) (d : Places) (shelf : IsHeld H b d) (t : ℕ) where
  -- the names of its arrays are sorted
  names_rise : (kind : Kind) → is_sorted string_order (arrays_at kind (state_in b d t)) ≡ true
  names_rise kind = ap (is_sorted string_order) (arrays_at-state_in kind b d t) ∙ from_T _ (sorted-arrays_of (content_at kind) (owner_byte t kind) b d)

  -- an array that is found is the one at its place, and has entries
  is_placed : (kind : Kind) (m : List ℕ) (l : Entries (KeyOf kind)) → find string_order m (arrays_at kind (state_in b d t)) ≡ Some l
      → (content_at kind b (at d (spot_of t kind m)).root ≡ l) × (has_entries l ≡ true)
  is_placed kind m l h = by (get d (spot_of t kind m)) refl
      (sym (find-arrays_of (content_at kind) (owner_byte t kind) b d m) ∙ ap (find string_order m) (sym (arrays_at-state_in kind b d t)) ∙ h)
    where
      same : {A : Type 0} (x y : A) → Some x ≡ Some y → x ≡ y
      same x y e = cc

      by : (g : Option Stand) → get d (spot_of t kind m) ≡ g → option_map (λ p. content_at kind b p.root) g ≡ Some l
          → (content_at kind b (at d (spot_of t kind m)).root ≡ l) × (has_entries l ≡ true)
      by None e i = absurd (none-some l i)
      by (Some p) e i =
          let there : at d (spot_of t kind m) ≡ p = ap (λ g. unwrap_or g nothing) e in
          let content : content_at kind b p.root ≡ l = same (content_at kind b p.root) l i in (
            ap (λ (q : Stand). content_at kind b q.root) there ∙ content,
            ap has_entries (sym content) ∙ has_some laws kind p (subst (IsPlaceOf H kind b) there (place-in laws kind b d t m shelf))
                (λ z. shelf.filled (spot_of t kind m) (ap is_some e) (ap (λ (q : Stand). q.root) there ∙ z)),
          )

  module _ (formed : ContentsAreInForm) where
    in_form : (kind : Kind) (m : List ℕ) → IsInForm kind b (at d (spot_of t kind m)).root
    in_form kind m = formed H kind b (at d (spot_of t kind m)).root (place-in laws kind b d t m shelf).sound

    passes : {K : Type 0} (test : Entries K → Bool) (l x : Entries K) → test x ≡ true → x ≡ l → has_entries l ≡ true → (has_entries l && test l) ≡ true
    passes test l x h e some = and_from (has_entries l) (test l) some (ap test (sym e) ∙ h)

    -- they are well-formed
    pub form-in : IsWellFormed (state_in b d t)
    form-in = record {
      one = and_from (is_sorted string_order (state_in b d t).one) _ (names_rise One)
          (all_pass (λ a. has_entries a.1 && is_content word_order is_one_entry a.1) (state_in b d t).one (names_rise One)
          (λ m l h. let p = is_placed One m l h in passes (is_content word_order is_one_entry) l _ (in_form One m) p.0 p.1));
      long = and_from (is_sorted string_order (state_in b d t).long) _ (names_rise Long)
          (all_pass (λ a. has_entries a.1 && is_content word_order is_long_entry a.1) (state_in b d t).long (names_rise Long)
          (λ m l h. let p = is_placed Long m l h in passes (is_content word_order is_long_entry) l _ (in_form Long m) p.0 p.1));
      string = and_from (is_sorted string_order (state_in b d t).string) _ (names_rise Str)
          (all_pass (λ a. has_entries a.1 && is_content string_order is_string_entry a.1) (state_in b d t).string (names_rise Str)
          (λ m l h. let p = is_placed Str m l h in passes (is_content string_order is_string_entry) l _ (in_form Str m) p.0 p.1));
      bytes = and_from (is_sorted string_order (state_in b d t).bytes) _ (names_rise Bytes)
          (all_pass (λ a. has_entries a.1 && is_content string_order is_bytes_entry a.1) (state_in b d t).bytes
          (names_rise Bytes)
          (λ m l h. let p = is_placed Bytes m l h in passes (is_content string_order is_bytes_entry) l _ (in_form Bytes m) p.0 p.1));
    }

  module _ (small : PlacesAreSmall) where
    few : (kind : Kind) (m : List ℕ) → IsSmall kind b (at d (spot_of t kind m))
    few kind m = small H kind b (at d (spot_of t kind m)) (place-in laws kind b d t m shelf)

    pieces_there : (kind : Kind) (m : List ℕ) → (at d (spot_of t kind m)).pieces ≡ pieces_of (size_at kind)
        (content_at kind b (at d (spot_of t kind m)).root)
    pieces_there One m = (place-in laws One b d t m shelf).pieces
    pieces_there Long m = (place-in laws Long b d t m shelf).pieces
    pieces_there Str m = (place-in laws Str b d t m shelf).pieces
    pieces_there Bytes m = (place-in laws Bytes b d t m shelf).pieces

    -- at most 16 words for each piece of an array
    few_there : (kind : Kind) (m : List ℕ) (l : Entries (KeyOf kind)) → find string_order m (arrays_at kind (state_in b d t)) ≡ Some l
        → words_at kind b d t m ≤ 16 * pieces_of (size_at kind) l
    few_there kind m l h = subst (λ n. words_at kind b d t m ≤ 16 * n) (pieces_there kind m ∙ ap (pieces_of (size_at kind))
        (is_placed kind m l h).0) (few kind m).most

    -- so at most 16 for each piece of all
    pub few-in : tenant_words (sizes_in b d t) ≤ 16 * pieces (state_in b d t)
    few-in =
        let ones = few_in_all (words_at One b d t) word_pieces (state_in b d t).one (names_rise One) (few_there One) in
        let longs = few_in_all (words_at Long b d t) word_pieces (state_in b d t).long (names_rise Long) (few_there Long) in
        let strings = few_in_all (words_at Str b d t) string_pieces (state_in b d t).string (names_rise Str) (few_there Str) in
        let byte_maps = few_in_all (words_at Bytes b d t) string_pieces (state_in b d t).bytes (names_rise Bytes) (few_there Bytes) in
        omega (arith, ones, longs, strings, byte_maps)

    -- the words of an array that is found; none if it is not
    tight_at : {K : Type 0} (words : ℕ) (g : Option (Entries K)) → ((l : Entries K) → g ≡ Some l → AreFewWords (length l) words)
        → AreFewWords (length (unwrap_or g [])) (unwrap_or (option_map (λ l. words) g) 0)
    tight_at words None h = refl
    tight_at words (Some l) h = h l refl

    pub tight-ones : (m : List ℕ) → AreFewWords (length (content_of (state_in b d t).one m)) (words_named (sizes_in b d t).one m)
    tight-ones m =
        subst (λ (g : Option ℕ). AreFewWords (length (content_of (state_in b d t).one m)) (unwrap_or g 0))
        (sym (find-sized (words_at One b d t) (state_in b d t).one m))
        (tight_at (words_at One b d t m) (find string_order m (state_in b d t).one) (λ l h.
        subst (λ n. AreFewWords n (words_at One b d t m)) ((place-in laws One b d t m shelf).entries
        ∙ ap length (is_placed One m l h).0) ((few One m).tight refl)))

    -- at least 4 words for each array that has entries
    least_at : {K : Type 0} (words : ℕ) (g : Option (Entries K)) → ((l : Entries K) → g ≡ Some l → 4 ≤ words)
        → has_entries (unwrap_or g []) ≡ true → 4 ≤ unwrap_or (option_map (λ l. words) g) 0
    least_at words None h some = cc
    least_at words (Some l) h some = h l refl

    -- the number of entries of an array that has some
    some_there : (kind : Kind) (m : List ℕ) (l : Entries (KeyOf kind)) → find string_order m (arrays_at kind (state_in b d t)) ≡ Some l
        → 0 < (at d (spot_of t kind m)).entries
    some_there kind m l h =
        let p = is_placed kind m l h in
        let e = entries-in laws kind b (at d (spot_of t kind m)) (place-in laws kind b d t m shelf) in
        by l (sym e ∙ ap length p.0) p.1
      where
        by : {K : Type 0} {n : ℕ} (l : Entries K) → n ≡ length l → has_entries l ≡ true → 0 < n
        by [] e some = cc
        by (x ∷ l) e some = omega (arith, e)

    pub least-of : (kind : Kind) → HasLeastOf (arrays_at kind (state_in b d t)) (sized (words_at kind b d t) (arrays_at kind (state_in b d t)))
    least-of kind m some =
        subst (λ (g : Option ℕ). 4 ≤ unwrap_or g 0) (sym (find-sized (words_at kind b d t) (arrays_at kind (state_in b d t)) m))
        (least_at (words_at kind b d t m) (find string_order m (arrays_at kind (state_in b d t)))
        (λ l h. (few kind m).least (some_there kind m l h)) some)

    pub least-in : HasLeast (state_in b d t) (sizes_in b d t)
    least-in = record { one = least-of One; long = least-of Long; string = least-of Str; bytes = least-of Bytes }

    pub tight-longs : (m : List ℕ) → AreFewWords (length (content_of (state_in b d t).long m)) (words_named (sizes_in b d t).long m)
    tight-longs m =
        subst (λ (g : Option ℕ). AreFewWords (length (content_of (state_in b d t).long m)) (unwrap_or g 0))
        (sym (find-sized (words_at Long b d t) (state_in b d t).long m))
        (tight_at (words_at Long b d t m) (find string_order m (state_in b d t).long) (λ l h.
        subst (λ n. AreFewWords n (words_at Long b d t m)) ((place-in laws Long b d t m shelf).entries
        ∙ ap length (is_placed Long m l h).0) ((few Long m).tight refl)))

-- ---- the service

module _ {H : List ℕ → ℕ} (laws : KindLaws H) (small : PlacesAreSmall) (totals : TotalsOver) (formed : ContentsAreInForm)
    (tenants : List Tenant) (stock : Stock) (s : IsStocked H tenants stock) where
  abbrev held : Held
  held = held_of tenants stock

  within-in : (t : ℕ) → IsWithin (quotas_of tenants t) (state_in stock.arena.blocks stock.directory.0 t)
  within-in t = (
    subst (λ n. n ≤ (quotas_of tenants t).entries) (s.entries t) (s.entries_within t),
    subst (λ n. n ≤ (quotas_of tenants t).pieces) (s.pieces t) (s.pieces_within t),
  )

  share-in : (t : ℕ) → IsShare (quotas_of tenants t) (state_in stock.arena.blocks stock.directory.0 t) (sizes_in stock.arena.blocks stock.directory.0 t)
  share-in t = record {
    pieces = few-in laws stock.arena.blocks stock.directory.0 s.held t small;
    most = (let w = few-in laws stock.arena.blocks stock.directory.0 s.held t small in let p = (within-in t).1 in omega (arith, w, p));
    least = least-in laws stock.arena.blocks stock.directory.0 s.held t small;
    one = tight-ones laws stock.arena.blocks stock.directory.0 s.held t small;
    long = tight-longs laws stock.arena.blocks stock.directory.0 s.held t small;
  }

  pub seen-sound : stock.arena.live ≡ total_words stock.arena.blocks → total_words stock.arena.blocks ≤ stock.arena.peak
      → stock.arena.region ≤ max stock.arena.reserved (128 * stock.arena.peak + 512) → IsGranted tenants stock → 256 ≤ stock.directory.1.room
      → IsSoundService held
  seen-sound count live region granted room = record {
    form = λ t. subst IsWellFormed (sym (seen-state tenants stock s t)) (form-in laws stock.arena.blocks stock.directory.0 s.held t formed);
    within = λ t. subst (IsWithin (quotas_of tenants t)) (sym (seen-state tenants stock s t)) (within-in t);
    sum = count ∙ seen-sum laws small totals tenants stock s;
    space = seen-space laws small totals tenants stock s count;
    shares = λ t. subst (IsShare (quotas_of tenants t) (states_of held t)) (sym (seen-sizes tenants stock s t))
        (subst (λ (z : State). IsShare (quotas_of tenants t) z (sizes_in stock.arena.blocks stock.directory.0 t))
        (sym (seen-state tenants stock s t)) (share-in t));
    names = seen-names laws tenants stock s;
    room = room;
    live = omega (arith, count, live);
    region = region;
    peak = granted.peak;
    machine = (let peak = granted.peak in omega (arith, region, peak));
    granted = granted.table;
  }
