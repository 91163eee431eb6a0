-- Lists of arrays: their keys rise, they hold the number of entries of each array, and what comes next in two lists.
use Rattle.std.proofs.Common.{◌≡◌, ◌∙◌, ◌∷◌, ◌++◌, ◌&&◌, ℕ, Bool, true, false, cond, List, [], Some, None, length, refl, sym, ap, arith}
use Rattle.std.specs.Prelude.{◌==◌, filter, nat_lt, unwrap_or}
use Rattle.std.specs.List.{list_all}
use Rattle.std.proofs.lemmas.Bool.{and_from}
use Rattle.std.proofs.lemmas.Bool.Decides.{nat_tests}
use Rattle.std.proofs.lemmas.List.{append-nil}
use Rattle.std.proofs.lemmas.Option.{none-some}
use Rattle.std.specs.declared.cmp.Ordering.TheVariants.{Less}
use Rattle.std.specs.Ordering.{eq_by_cmp, is_eq, is_gt, is_lt, ordering_then}
use Rattle.std.specs.Cmp.{nat_cmp_total, tied_itself}
use Rattle.std.specs.Cmp.Lexicographic.{nat_list_cmp_total}
use Rattle.std.specs.FinMap.{find, is_sorted}
use Rattle.std.specs.FinMap.Entries.{below_all}
use Rattle.judy_model.specs.declared.commands.Kind.{Kind}
use Rattle.judy_model.specs.declared.commands.Kind.TheVariants as kind
use Rattle.judy_model.specs.ArrayLists.{array_key, counted}
use Rattle.judy_model.specs.Commands.{kind_number}
use Rattle.judy_model.specs.Contents.{Entries, IsRising, head_of, next, string_order, value_of, word_order}
use Rattle.judy_model.specs.Tenant.{Arrays, State, array_counts, content_of}
use Rattle.judy_model.specs.WellFormed.{IsWellFormed, entries_of_array, has_entries, some_entries}
use Rattle.judy_model.specs.WellFormed.{is_bytes_entry, is_content, is_long_entry, is_one_entry, is_string_entry}
use Rattle.judy_model.proofs.lemmas.EntryLemmas.{less, lt_of, same_string}
use Rattle.judy_model.proofs.lemmas.StateLemmas.{below_less}
use Rattle.judy_model.proofs.lemmas.TestLemmas.{and_left, and_right}

-- ---- the order of keys

-- keys of one kind are in the order of their names
same_kind : (k : Kind) (a b : List ℕ) → string_order (array_key k a) (array_key k b) ≡ string_order a b
same_kind k a b = ap (λ o. ordering_then o (string_order a b)) (tied_itself nat_cmp_total (kind_number k))

-- they are below those of a later kind
later_kind : (k j : Kind) (a b : List ℕ) → nat_lt (kind_number k) (kind_number j) ≡ true → string_order (array_key k a) (array_key j b) ≡ Less
later_kind k j a b h = ap (λ o. ordering_then o (string_order a b)) (less (kind_number k) (kind_number j) (lt_of (kind_number k) (kind_number j) h))

-- no key is of two kinds
other_kind : (k j : Kind) (a b : List ℕ) → (kind_number k == kind_number j) ≡ false → eq_by_cmp string_order (array_key k a) (array_key j b) ≡ false
other_kind k j a b h = test (eq_by_cmp string_order (array_key k a) (array_key j b)) refl
  where
    test : (t : Bool) → eq_by_cmp string_order (array_key k a) (array_key j b) ≡ t → t ≡ false
    test false is = refl
    test true is =
        let same : kind_number k ≡ kind_number j = ap (λ l. unwrap_or (head_of l) 0) (same_string (array_key k a) (array_key j b) is) in
        grind (arith, nat_tests, same, h)

-- ---- the list rises

-- the list, with an empty rest at its end, as the lemmas on one kind have it
abbrev counts_of : State → Entries (List ℕ)
counts_of s = counted kind.One s.one ++ (counted kind.Long s.long ++ (counted kind.Str s.string ++ (counted kind.Bytes s.bytes ++ [])))

counts_are : (s : State) → array_counts s ≡ counts_of s
counts_are s =
    ap (λ l. counted kind.One s.one ++ (counted kind.Long s.long ++ (counted kind.Str s.string ++ l)))
    (sym (append-nil (counted kind.Bytes s.bytes)))

-- all keys of a list are above all that a kind can have
abbrev AreBehind : Kind → Entries (List ℕ) → Type 0
AreBehind k l = (name : List ℕ) → below_all string_order (array_key k name) l ≡ true

-- a key below two lists is below both together
below_both : (x : List ℕ) (l more : Entries (List ℕ)) → below_all string_order x l ≡ true → below_all string_order x more ≡ true
    → below_all string_order x (l ++ more) ≡ true
below_both x [] more h rest = rest
below_both x (e ∷ es) more h rest =
    and_from (is_lt (string_order x e.0)) _ (and_left (is_lt (string_order x e.0)) _ h)
    (below_both x es more (and_right (is_lt (string_order x e.0)) _ h) rest)

module _ {K : Type 0} where
  -- names above one have keys above its key
  names_above : (k : Kind) (name : List ℕ) (arrays : Arrays K) → below_all string_order name arrays ≡ true
      → below_all string_order (array_key k name) (counted k arrays) ≡ true
  names_above k name [] h = refl
  names_above k name (a ∷ more) h =
      and_from (is_lt (string_order (array_key k name) (array_key k a.0))) _
      (ap is_lt (same_kind k name a.0) ∙ and_left (is_lt (string_order name a.0)) _ h)
      (names_above k name more (and_right (is_lt (string_order name a.0)) _ h))

  -- the arrays of a later kind are behind those of a kind
  kind_behind : (k j : Kind) (arrays : Arrays K) (more : Entries (List ℕ)) → nat_lt (kind_number k) (kind_number j) ≡ true → AreBehind j more
      → AreBehind k (counted j arrays ++ more)
  kind_behind k j [] more h behind name =
      below_less string_order nat_list_cmp_total (array_key k name) (array_key j []) more (later_kind k j name [] h) (behind [])
  kind_behind k j (a ∷ arrays) more h behind name =
      and_from (is_lt (string_order (array_key k name) (array_key j a.0))) _ (ap is_lt (later_kind k j name a.0 h))
      (kind_behind k j arrays more h behind name)

  -- the arrays of a kind, and then those behind it
  kind_rises : (k : Kind) (arrays : Arrays K) (more : Entries (List ℕ)) → is_sorted string_order arrays ≡ true → AreBehind k more
      → is_sorted string_order more ≡ true → is_sorted string_order (counted k arrays ++ more) ≡ true
  kind_rises k [] more sorted behind rest = rest
  kind_rises k (a ∷ arrays) more sorted behind rest =
      and_from (below_all string_order (array_key k a.0) (counted k arrays ++ more)) _
      (below_both (array_key k a.0) (counted k arrays) more
      (names_above k a.0 arrays (and_left (below_all string_order a.0 arrays) _ sorted)) (behind a.0))
      (kind_rises k arrays more (and_right (below_all string_order a.0 arrays) _ sorted) behind rest)

-- the keys of the list rise
pub counts_rise : (s : State) → IsWellFormed s → IsRising string_order (array_counts s)
counts_rise s form =
    let after_string : AreBehind kind.Str (counted kind.Bytes s.bytes ++ []) = kind_behind kind.Str kind.Bytes s.bytes [] refl (λ name. refl) in
    let after_long : AreBehind kind.Long (counted kind.Str s.string ++ (counted kind.Bytes s.bytes ++ [])) =
    kind_behind kind.Long kind.Str s.string _ refl after_string in
    let after_one : AreBehind kind.One (counted kind.Long s.long ++ (counted kind.Str s.string ++ (counted kind.Bytes s.bytes ++ []))) =
    kind_behind kind.One kind.Long s.long _ refl after_long in
    ap (is_sorted string_order) (counts_are s)
    ∙ kind_rises kind.One s.one _ (and_left (is_sorted string_order s.one) _ form.one) after_one
    (kind_rises kind.Long s.long _ (and_left (is_sorted string_order s.long) _ form.long) after_long
    (kind_rises kind.Str s.string _ (and_left (is_sorted string_order s.string) _ form.string) after_string
    (kind_rises kind.Bytes s.bytes [] (and_left (is_sorted string_order s.bytes) _ form.bytes) (λ name. refl) refl)))

-- ---- the number of entries of an array

module _ {K : Type 0} where
  -- arrays of another kind have nothing under a key
  not_of_kind : (k j : Kind) (arrays : Arrays K) (more : Entries (List ℕ)) (name : List ℕ) → (kind_number k == kind_number j) ≡ false
      → value_of string_order (counted j arrays ++ more) (array_key k name) ≡ value_of string_order more (array_key k name)
  not_of_kind k j [] more name h = refl
  not_of_kind k j (a ∷ arrays) more name h =
      ap (λ t. cond t (Some (length a.1)) (value_of string_order (counted j arrays ++ more) (array_key k name))) (other_kind k j name a.0 h)
      ∙ not_of_kind k j arrays more name h

  -- an array with entries has some number of them
  some_of : (l : Entries K) → has_entries l ≡ true → Some (length l) ≡ some_entries (length l)
  some_of [] h = cc
  some_of (e ∷ es) h =
      let more : (length (e ∷ es) == 0) ≡ false = grind (arith, nat_tests) in
      rw more refl

  -- the key of an array of a kind has the number of its entries
  of_kind : (p : Entries K → Bool) (k : Kind) (arrays : Arrays K) (more : Entries (List ℕ)) (name : List ℕ)
      → list_all (λ a. has_entries a.1 && p a.1) arrays ≡ true → value_of string_order more (array_key k name) ≡ None
      → value_of string_order (counted k arrays ++ more) (array_key k name) ≡ some_entries (length (content_of arrays name))
  of_kind p k [] more name h none = none
  of_kind p k (a ∷ arrays) more name h none =
      ap (λ o. cond (is_eq o) (Some (length a.1)) (value_of string_order (counted k arrays ++ more) (array_key k name))) (same_kind k name a.0)
      ∙ by (eq_by_cmp string_order name a.0) (of_kind p k arrays more name (and_right (has_entries a.1 && p a.1) _ h) none)
    where
      by : (t : Bool) → value_of string_order (counted k arrays ++ more) (array_key k name) ≡ some_entries (length (content_of arrays name))
          → cond t (Some (length a.1)) (value_of string_order (counted k arrays ++ more) (array_key k name))
          ≡ some_entries (length (unwrap_or (cond t (Some a.1) (find string_order name arrays)) []))
      by true rest = some_of a.1 (and_left (has_entries a.1) _ (and_left (has_entries a.1 && p a.1) _ h))
      by false rest = rest

-- the key of any array has the number of its entries, if it has entries
pub count_at : (s : State) → IsWellFormed s → (kind : Kind) (name : List ℕ)
    → value_of string_order (array_counts s) (array_key kind name) ≡ some_entries (entries_of_array s kind name)
count_at s form k name = ap (λ l. value_of string_order l (array_key k name)) (counts_are s) ∙ at k
  where
    at : (k : Kind) → value_of string_order (counts_of s) (array_key k name) ≡ some_entries (entries_of_array s k name)
    at kind.One = of_kind (is_content word_order is_one_entry) kind.One s.one _ name (and_right (is_sorted string_order s.one) _ form.one)
        (not_of_kind kind.One kind.Long s.long _ name refl ∙ not_of_kind kind.One kind.Str s.string _ name refl
        ∙ not_of_kind kind.One kind.Bytes s.bytes [] name refl)
    at kind.Long = not_of_kind kind.Long kind.One s.one _ name refl
        ∙ of_kind (is_content word_order is_long_entry) kind.Long s.long _ name (and_right (is_sorted string_order s.long) _ form.long)
        (not_of_kind kind.Long kind.Str s.string _ name refl ∙ not_of_kind kind.Long kind.Bytes s.bytes [] name refl)
    at kind.Str = not_of_kind kind.Str kind.One s.one _ name refl ∙ not_of_kind kind.Str kind.Long s.long _ name refl
        ∙ of_kind (is_content string_order is_string_entry) kind.Str s.string _ name (and_right (is_sorted string_order s.string) _ form.string)
        (not_of_kind kind.Str kind.Bytes s.bytes [] name refl)
    at kind.Bytes = not_of_kind kind.Bytes kind.One s.one _ name refl ∙ not_of_kind kind.Bytes kind.Long s.long _ name refl
        ∙ not_of_kind kind.Bytes kind.Str s.string _ name refl
        ∙ of_kind (is_content string_order is_bytes_entry) kind.Bytes s.bytes [] name (and_right (is_sorted string_order s.bytes) _ form.bytes) refl

-- a key is that of an array
abbrev IsArrayKey : List ℕ → Type 0
IsArrayKey key = (k : Kind) × (name : List ℕ) × (key ≡ array_key k name)

-- A key that has a value is that of an array of a kind, or has the value behind them.
of_kind_or_behind : {K : Type 0} (k : Kind) (arrays : Arrays K) (more : Entries (List ℕ)) (key : List ℕ) (n : ℕ)
    → (value_of string_order more key ≡ Some n → IsArrayKey key) → value_of string_order (counted k arrays ++ more) key ≡ Some n → IsArrayKey key
of_kind_or_behind k [] more key n behind h = behind h
of_kind_or_behind k (a ∷ arrays) more key n behind h =
    by (eq_by_cmp string_order key (array_key k a.0)) refl (of_kind_or_behind k arrays more key n behind) h
  where
    by : (t : Bool) → eq_by_cmp string_order key (array_key k a.0) ≡ t
        → (value_of string_order (counted k arrays ++ more) key ≡ Some n → IsArrayKey key)
        → cond t (Some (length a.1)) (value_of string_order (counted k arrays ++ more) key) ≡ Some n → IsArrayKey key
    by true is rest f = (k, a.0, same_string key (array_key k a.0) is)
    by false is rest f = rest f

-- each key in the list is an array's
pub is_array_key : (s : State) (key : List ℕ) (n : ℕ) → value_of string_order (array_counts s) key ≡ Some n
    → (kind : Kind) × (name : List ℕ) × (key ≡ array_key kind name)
is_array_key s key n h =
    of_kind_or_behind kind.One s.one _ key n (of_kind_or_behind kind.Long s.long _ key n (of_kind_or_behind kind.Str s.string _ key n
    (of_kind_or_behind kind.Bytes s.bytes [] key n (λ none. absurd (none-some n none)))))
    (ap (λ l. value_of string_order l key) (sym (counts_are s)) ∙ h)

-- ---- one list behind another

-- what comes next in the first list comes next in both
pub next_in_front : (l m : Entries (List ℕ)) (x : List ℕ) (e : List ℕ × ℕ) → next string_order l x ≡ Some e → next string_order (l ++ m) x ≡ Some e
next_in_front [] m x e h = cc
next_in_front (f ∷ l) m x e h = by (is_gt (string_order f.0 x)) (next_in_front l m x e) h
  where
    by : (b : Bool) → (next string_order l x ≡ Some e → next string_order (l ++ m) x ≡ Some e)
        → head_of (cond b (f ∷ filter (λ a. is_gt (string_order a.0 x)) l) (filter (λ a. is_gt (string_order a.0 x)) l)) ≡ Some e
        → head_of (cond b (f ∷ filter (λ a. is_gt (string_order a.0 x)) (l ++ m)) (filter (λ a. is_gt (string_order a.0 x)) (l ++ m))) ≡ Some e
    by true rest h = h
    by false rest h = rest h

-- if nothing comes next in the first list, what comes next is in the second
pub next_behind : (l m : Entries (List ℕ)) (x : List ℕ) → next string_order l x ≡ None → next string_order (l ++ m) x ≡ next string_order m x
next_behind [] m x h = refl
next_behind (f ∷ l) m x h = by (is_gt (string_order f.0 x)) (next_behind l m x) h
  where
    by : (b : Bool) → (next string_order l x ≡ None → next string_order (l ++ m) x ≡ next string_order m x)
        → head_of (cond b (f ∷ filter (λ a. is_gt (string_order a.0 x)) l) (filter (λ a. is_gt (string_order a.0 x)) l)) ≡ None
        → head_of (cond b (f ∷ filter (λ a. is_gt (string_order a.0 x)) (l ++ m)) (filter (λ a. is_gt (string_order a.0 x)) (l ++ m)))
        ≡ next string_order m x
    by true rest h = cc
    by false rest h = rest h
