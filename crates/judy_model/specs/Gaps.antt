-- The words that are absent from an array.
use Rattle.std.specs.Prelude.{MatchBool, ◌≡◌, ℕ, zero, suc, ◌+◌, ◌-◌, ◌≤◌, false, [], ◌∷◌, reverse, Option, Some, None, nat_le, nat_lt, ◌==◌, if◌then◌else◌, filter}
use Rattle.judy_model.specs.Contents.{Entries, IsWordArray, max_word, word_order, has_key, count}

-- the word is absent
abbrev pub IsAbsent : Entries ℕ → ℕ → Type 0
IsAbsent entries x = has_key word_order entries x ≡ false

-- the answer is the least absent word from x on: all words from x below it are present; None if all
-- words from x on are present
abbrev pub IsFirstEmpty : Entries ℕ → ℕ → Option ℕ → Type 0
IsFirstEmpty entries x (Some e) = (x ≤ e) × (e ≤ max_word) × IsAbsent entries e × (count entries x e ≡ e - x)
IsFirstEmpty entries x None = count entries x max_word ≡ max_word - x + 1

-- the answer is the greatest absent word up to x: all words above it up to x are present; None if
-- all words up to x are present
abbrev pub IsLastEmpty : Entries ℕ → ℕ → Option ℕ → Type 0
IsLastEmpty entries x (Some e) = (e ≤ x) × IsAbsent entries e × (count entries e x ≡ x - e)
IsLastEmpty entries x None = count entries 0 x ≡ x + 1

-- the answer is the least absent word above x; None for the greatest word
abbrev pub IsNextEmpty : Entries ℕ → ℕ → Option ℕ → Type 0
IsNextEmpty entries x answer = MatchBool (nat_lt x max_word) (IsFirstEmpty entries (x + 1) answer) (answer ≡ None)

-- the answer is the greatest absent word below x; None for 0
abbrev pub IsPrevEmpty : Entries ℕ → ℕ → Option ℕ → Type 0
IsPrevEmpty entries zero answer = answer ≡ None
IsPrevEmpty entries (suc x) answer = IsLastEmpty entries x answer

-- where the run of keys x, x + 1, .. ends; the entries are those from x on
abbrev pub end_of_run : ℕ → Entries ℕ → ℕ
end_of_run x [] = x
end_of_run x (e ∷ es) = if e.0 == x then end_of_run (x + 1) es else x

-- the same downwards; the entries are those up to x, greatest first
abbrev pub start_of_run : ℕ → Entries ℕ → Option ℕ
start_of_run x [] = Some x
start_of_run zero (e ∷ es) = if e.0 == zero then None else Some zero
start_of_run (suc x) (e ∷ es) = if e.0 == suc x then start_of_run x es else Some (suc x)

-- the least absent word from x on
abbrev pub first_empty : Entries ℕ → ℕ → Option ℕ
first_empty entries x =
    let e = end_of_run x (filter (λ e. nat_le x e.0) entries) in
    if nat_le e max_word then Some e else None

-- the greatest absent word up to x
abbrev pub last_empty : Entries ℕ → ℕ → Option ℕ
last_empty entries x = start_of_run x (reverse (filter (λ e. nat_le e.0 x) entries))

-- the least absent word above x
abbrev pub next_empty : Entries ℕ → ℕ → Option ℕ
next_empty entries x = if nat_lt x max_word then first_empty entries (x + 1) else None

-- the greatest absent word below x
abbrev pub prev_empty : Entries ℕ → ℕ → Option ℕ
prev_empty entries zero = None
prev_empty entries (suc x) = last_empty entries x

-- the computed answers satisfy the relations
abbrev pub GapsAreFound : Type 0
GapsAreFound = (entries : Entries ℕ) (x : ℕ) → IsWordArray entries → x ≤ max_word
    → IsFirstEmpty entries x (first_empty entries x)
    × IsLastEmpty entries x (last_empty entries x)
    × IsNextEmpty entries x (next_empty entries x)
    × IsPrevEmpty entries x (prev_empty entries x)

-- at most one answer is related to an array and a word
abbrev pub HasOneAnswer : (Entries ℕ → ℕ → Option ℕ → Type 0) → Entries ℕ → ℕ → Type 0
HasOneAnswer relation entries x = (answer other : Option ℕ) → relation entries x answer → relation entries x other → answer ≡ other

-- each of the four relations has one answer
abbrev pub GapsHaveOneAnswer : Type 0
GapsHaveOneAnswer = (entries : Entries ℕ) (x : ℕ) → IsWordArray entries → x ≤ max_word
    → HasOneAnswer IsFirstEmpty entries x
    × HasOneAnswer IsLastEmpty entries x
    × HasOneAnswer IsNextEmpty entries x
    × HasOneAnswer IsPrevEmpty entries x
