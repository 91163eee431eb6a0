-- Sums of the bytes of shares, and the first words of lines.
use Rattle.std.proofs.Common.{◌≡◌, ◌<◌, ◌≤◌, ◌+◌, ◌-◌, ◌^◌, ℕ, zero, suc, Bool, true, false, ◌==◌, cond, List, [], ◌∷◌, ◌++◌, length, take, get_or, sym, ap, ◌∙◌, refl, arith, drop}
use Rattle.std.specs.Prelude.{min, slice_get, slice_index_or, slice_set, IsSomeAnd, if◌then◌else◌}
use Rattle.judy_model.specs.Stream.{lines_of}
use Rattle.judy_model.proofs.lemmas.LineLemmas.{lines_of-bytes, lines_of-line}
use Rattle.judy_protocol.specs.Talks.{HasNoLf}
use Rattle.judy_disk.specs.Spending.{bytes_if, first_word, spent_by, spent_in, line_bytes}
use Rattle.judy_disk.specs.declared.spent.Share.{Share}

-- a byte that is no space goes on
no_space : (b : ℕ) (line : List ℕ) → ((b == 32) ≡ true → ⊥) → first_word (b ∷ line) ≡ b ∷ first_word line
no_space b line none = is_no (b == 32) refl none
  where
    is_no : (t : Bool) → t ≡ (b == 32) → ((b == 32) ≡ true → ⊥) → first_word (b ∷ line) ≡ b ∷ first_word line
    is_no true e none = absurd (none (sym e))
    is_no false e none = sym (ap (λ t. cond t [] (b ∷ first_word line)) e)

-- the bytes before a place are the first word, if there is a space there and none before it
pub front_is : (line : List ℕ) (at : ℕ) → at < length line → ((k : ℕ) → k < at → (get_or line k 0 == 32) ≡ true → ⊥)
    → (get_or line at 0 == 32) ≡ true → take at line ≡ first_word line
front_is [] at h before is = absurd (omega arith)
front_is (b ∷ line) zero h before is = sym (ap (λ t. cond t [] (b ∷ first_word line)) is)
front_is (b ∷ line) (suc at) h before is =
    ap (λ t. b ∷ t) (front_is line at (omega arith) (λ k lt. before (suc k) (omega arith)) is)
    ∙ sym (no_space b line (before zero (omega arith)))

-- a line without a space is its first word
pub whole_is : (line : List ℕ) → ((k : ℕ) → k < length line → (get_or line k 0 == 32) ≡ true → ⊥) → line ≡ first_word line
whole_is [] none = refl
whole_is (b ∷ line) none =
    ap (λ t. b ∷ t) (whole_is line (λ k lt. none (suc k) (omega arith))) ∙ sym (no_space b line (none zero (omega arith)))

-- a share behind the others
pub pushed : (chosen : ℕ → List ℕ → Bool) (shares : List Share) (s : Share)
    → spent_by chosen (shares ++ s ∷ []) ≡ spent_by chosen shares + bytes_if (chosen s.segment s.tenant) s.bytes
pushed chosen [] s = omega arith
pushed chosen (t ∷ shares) s = let rest = pushed chosen shares s in omega (arith, rest)

-- more bytes, if they are chosen
more_if : (b : Bool) (x y : ℕ) → bytes_if b (x + y) ≡ bytes_if b x + bytes_if b y
more_if true x y = refl
more_if false x y = refl

-- a place where something is
pub within : {X : Type 0} (P : X → Type 0) (xs : List X) (place : ℕ) → IsSomeAnd (slice_get xs place) P → place < length xs
within P [] place h = absurd h
within P (x ∷ xs) zero h = omega arith
within P (x ∷ xs) (suc place) h = let rest = within P xs place h in omega (arith, rest)

-- the bytes of a share whose segment and tenant are known
same_if : (chosen : ℕ → List ℕ → Bool) (a segment : ℕ) (b tenant : List ℕ) (bytes : ℕ) → a ≡ segment → b ≡ tenant
    → bytes_if (chosen a b) bytes ≡ bytes_if (chosen segment tenant) bytes
same_if chosen a segment b tenant bytes one two =
    ap (λ v. bytes_if (chosen v b) bytes) one ∙ ap (λ v. bytes_if (chosen segment v) bytes) two

-- a share that has more bytes
pub raised : (chosen : ℕ → List ℕ → Bool) (shares : List Share) (place : ℕ) (x y : Share) (segment : ℕ) (tenant : List ℕ) (more sum : ℕ)
    → IsSomeAnd (slice_get shares place) (λ s. (s.segment ≡ segment) × (s.tenant ≡ tenant))
    → x ≡ slice_index_or shares place x → y ≡ slice_index_or shares place y → sum ≡ x.bytes + more
    → spent_by chosen (slice_set shares place (record { segment = y.segment; tenant = y.tenant; bytes = sum }))
    ≡ spent_by chosen shares + bytes_if (chosen segment tenant) more
raised chosen [] place x y segment tenant more sum there hx hy is = absurd there
raised chosen (t ∷ shares) zero x y segment tenant more sum there hx hy is =
    let bytes : sum ≡ t.bytes + more = is ∙ ap (λ s. s.bytes + more) hx in
    let all = same_if chosen y.segment segment y.tenant tenant sum (ap (λ s. s.segment) hy ∙ there.0) (ap (λ s. s.tenant) hy ∙ there.1)
    ∙ ap (λ n. bytes_if (chosen segment tenant) n) bytes ∙ more_if (chosen segment tenant) t.bytes more in
    let old = same_if chosen t.segment segment t.tenant tenant t.bytes there.0 there.1 in
    omega (arith, all, old)
raised chosen (t ∷ shares) (suc place) x y segment tenant more sum there hx hy is =
    let rest = raised chosen shares place x y segment tenant more sum there hx hy is in omega (arith, rest)

-- a share behind others, if there was memory for it
pub pushed_if : (chosen : ℕ → List ℕ → Bool) (shares after : List Share) (s : Share) (b : Bool)
    → after ≡ (if b then shares ++ s ∷ [] else shares) → b ≡ true
    → spent_by chosen after ≡ spent_by chosen shares + bytes_if (chosen s.segment s.tenant) s.bytes
pushed_if chosen shares after s b is done =
    ap (spent_by chosen) (is ∙ ap (λ v. if v then shares ++ s ∷ [] else shares) done) ∙ pushed chosen shares s

-- one more line of a text
pub line_more : (chosen : ℕ → List ℕ → Bool) (segment before now : ℕ) (line rest : List ℕ) (all : ℕ)
    → before + spent_in chosen segment (lines_of rest) ≡ all → now ≡ before + line_bytes chosen segment line
    → (text : List ℕ) → HasNoLf line → rest ≡ line ++ 10 ∷ text
    → now + spent_in chosen segment (lines_of text) ≡ all
line_more chosen segment before now line rest all sum more text one is =
    let cut = ap (λ v. spent_in chosen segment (lines_of v)) is ∙ ap (spent_in chosen segment) (lines_of-line line text one) in
    omega (arith, sum, more, cut)

-- the end of a text
pub line_none : (chosen : ℕ → List ℕ → Bool) (segment before : ℕ) (rest : List ℕ) (all : ℕ)
    → before + spent_in chosen segment (lines_of rest) ≡ all → HasNoLf rest → before ≡ all
line_none chosen segment before rest all sum one =
    let none = ap (spent_in chosen segment) (lines_of-bytes rest one) in omega (arith, sum, none)

-- nothing is behind the end
past : {X : Type 0} (xs : List X) (n : ℕ) → length xs ≤ n → drop n xs ≡ []
past [] zero h = refl
past [] (suc n) h = refl
past (x ∷ xs) zero h = absurd (omega arith)
past (x ∷ xs) (suc n) h = past xs n (omega arith)

plus_none : (n : ℕ) → n + 0 ≡ n
plus_none n = omega arith

least : (n : ℕ) → n ≤ 2 ^ 64 - 1 → min n (2 ^ 64 - 1) ≡ n
least n h = omega (arith, h)

-- the sum of all shares
pub all_added : (chosen : ℕ → List ℕ → Bool) (shares : List Share) (n sum : ℕ) → length shares ≤ n → sum ≤ 2 ^ 64 - 1
    → min (sum + spent_by chosen (drop n shares)) (2 ^ 64 - 1) ≡ min (spent_by chosen shares) (2 ^ 64 - 1)
    → sum ≡ min (spent_by chosen shares) (2 ^ 64 - 1)
all_added chosen shares n sum end fits is =
    let none : sum + spent_by chosen (drop n shares) ≡ sum = ap (λ v. sum + spent_by chosen v) (past shares n end) ∙ plus_none sum in
    let few : min (sum + spent_by chosen (drop n shares)) (2 ^ 64 - 1) ≡ sum = ap (λ v. min v (2 ^ 64 - 1)) none ∙ least sum fits in
    sym few ∙ is
