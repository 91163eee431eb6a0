-- The four ordered searches. Each keeps some of the strings and takes one end of those.
--     found_by h s l             what the search h from the string s finds in l
--     IsShown p o answer items   the buffer has the bytes p and then the string found; its value is
--                                the result
use Rattle.std.specs.Prelude.{◌≡◌, ℕ, suc, Bool, true, List, [], ◌∷◌, ◌++◌, Option, Some, None, filter}
use Rattle.std.specs.declared.cmp.Ordering.{Ordering}
use Rattle.std.specs.Ordering.{is_lt, is_le, is_gt, is_ge}
use Rattle.judy_arena.specs.Blocks.{Blocks}
use Rattle.judy_model.specs.Contents.{Entries, string_order, word_order, value_of, head_of, last_of, next, prev}
use Rattle.judy_tree.specs.Root.{entries}
use Rattle.judy_packing.specs.Packing.{pack}
use Rattle.judy_string.specs.Strings.{Strings, part, nested_content_at, content_under}
use Rattle.judy_string.specs.Suffixes.{suffix_entry}
use Rattle.judy_model.specs.declared.calls.Search.{Search}
use Rattle.judy_model.specs.declared.calls.Search.TheVariants.{First, Next, Last, Prev}

-- whether the search keeps a string that compares so with the string that it starts from
abbrev pub keeps : Search → Ordering → Bool
keeps First o = is_ge o
keeps Next o = is_gt o
keeps Last o = is_le o
keeps Prev o = is_lt o

-- the end of the list that the search takes
abbrev pub end_of : {A : Type 0} → Search → List A → Option A
end_of First l = head_of l
end_of Next l = head_of l
end_of Last l = last_of l
end_of Prev l = last_of l

-- the strings that compare with s as the test says
abbrev pub kept_strings : (Ordering → Bool) → List ℕ → Entries (List ℕ) → Entries (List ℕ)
kept_strings p s l = filter (λ e. p (string_order e.0 s)) l

-- the strings under the word of s itself; f gives the strings below a node
abbrev pub here : (Ordering → Bool) → (ℕ → Strings) → List ℕ → Option ℕ → Strings
here p f s None = []
here p f s (Some v) = kept_strings p s (part f (pack s, v))

-- what the search finds
abbrev pub found_by : Search → List ℕ → Entries (List ℕ) → Option (List ℕ × ℕ)
found_by h s l = end_of h (kept_strings (keeps h) s l)

-- the word next to this one, in the direction of the search
abbrev pub beside : Search → Entries ℕ → ℕ → Option (ℕ × ℕ)
beside First es k = next word_order es k
beside Next es k = next word_order es k
beside Last es k = prev word_order es k
beside Prev es k = prev word_order es k

-- the first or last string under a node, for at most 8 * r bytes left
abbrev pub end_at : Search → ℕ → Blocks → ℕ → Option (List ℕ × ℕ)
end_at h r b w = end_of h (nested_content_at (suc r) b w)

-- the first or last string under one entry of a word array
abbrev pub end_under : Search → ℕ → Blocks → ℕ × ℕ → Option (List ℕ × ℕ)
end_under h r b e = end_of h (content_under r b e)

-- what the search finds at a suffix
abbrev pub found_in_suffix : Search → List ℕ → Blocks → ℕ → Option (List ℕ × ℕ)
found_in_suffix h s b w = found_by h s (suffix_entry b w ∷ [])

-- what the search finds under a node, for at most 8 * r bytes left
abbrev pub found_at : Search → List ℕ → ℕ → Blocks → ℕ → Option (List ℕ × ℕ)
found_at h s r b w = found_by h s (nested_content_at (suc r) b w)

-- what the search finds under the word of s itself
abbrev pub found_here : Search → List ℕ → ℕ → Blocks → ℕ → Option (List ℕ × ℕ)
found_here h s r b w = end_of h (here (keeps h) (nested_content_at r b) s (value_of word_order (entries true b w) (pack s)))

-- the buffer has the bytes p and then the string, and the result is its value; if nothing was
-- found, the buffer has only p
abbrev pub IsShown : List ℕ → Option (List ℕ × ℕ) → Option ℕ → List ℕ → Type 0
IsShown p None answer items = (answer ≡ None) × (items ≡ p)
IsShown p (Some e) answer items = (answer ≡ Some e.1) × (items ≡ p ++ e.0)
