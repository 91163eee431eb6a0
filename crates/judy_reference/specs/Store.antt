-- A tenant's arrays in plain sorted vectors.
use Rattle.std.specs.Prelude.{ℕ, ◌+◌, Bool, true, List, [], ◌∷◌, IsTrue, Option, Some, None, Result, Ok, Err}
use Rattle.std.specs.Ordering.{is_gt, is_lt}
use Rattle.std.specs.FinMap.Entries.{by_order}
use Rattle.judy_model.specs.declared.replies.Reply.{Reply}
use Rattle.judy_model.specs.Contents.{Order, Entries, word_order, string_order}
use Rattle.judy_model.specs.Tenant.{Arrays, State, content_of, with_content}
use Rattle.judy_model.specs.WellFormed.{are_arrays}

-- a place moved on by this many places
abbrev pub later : ℕ → Result ℕ ℕ → Result ℕ ℕ
later n (Ok i) = Ok (n + i)
later n (Err i) = Err (n + i)

-- Ok with the place of the key among sorted entries, or Err with the place where it would go
abbrev pub sorted_place : {K V : Type 0} → Order K → K → List (K × V) → Result ℕ ℕ
sorted_place order key [] = Err 0
sorted_place order key (e ∷ es) = by_order (order key e.0) (Err 0) (Ok 0) (later 1 (sorted_place order key es))

-- the names are sorted, each array has entries, and its keys are sorted
abbrev pub AreKept : {K : Type 0} → Order K → Arrays K → Type 0
AreKept order arrays = IsTrue (are_arrays order (λ e. true) arrays)

-- a call of the array of this name, which does this to the array's entries: its reply, and the
-- arrays afterwards
abbrev pub on_array : {K : Type 0} → Arrays K → List ℕ → (Entries K → Reply × Entries K) → Reply × Arrays K
on_array arrays name does = let (r, l) = does (content_of arrays name) in (r, with_content arrays name l)

-- whether a place in a walk is behind another one; with none it is the beginning, which each is behind
abbrev pub comes_behind : List ℕ → Option (List ℕ) → Bool
comes_behind place None = true
comes_behind place (Some from) = is_gt (string_order place from)

-- whether a place in a walk comes before that of the entry found so far; where none was found it does
abbrev pub comes_first : List ℕ → Option (List ℕ × ℕ) → Bool
comes_first place None = true
comes_first place (Some e) = is_lt (string_order place e.0)

-- the arrays of each kind satisfy `AreKept`
pub record IsKept (s : State) : Type 0 where
  pub one : AreKept word_order s.one
  pub long : AreKept word_order s.long
  pub string : AreKept string_order s.string
  pub bytes : AreKept string_order s.bytes
