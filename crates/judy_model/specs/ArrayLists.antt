-- The arrays of a tenant, as a call lists them: those that have entries, with how many they have.
--     array_key kind name      the key of an array: arrays are in the order of their kinds, then of their names
--     counted kind arrays      the number of entries of each array of a kind, by its key
--     key_of_start from        the key behind which a list begins; [] comes before all keys
--     kind_word, kind_named    the word of a kind in a line, and the kind that a word names
--     array_words e            the text of an array in a list
--     names_reply counts from n  the reply that lists at most n arrays
use Rattle.std.specs.Prelude.{ℕ, List, [], ◌∷◌, ◌++◌, map, drop, length, slice_index, codes, Option}
use Rattle.std.specs.FinMap.{find}
use Rattle.judy_model.specs.declared.calls.ArraysFrom.{ArraysFrom}
use Rattle.judy_model.specs.declared.calls.ArraysFrom.TheVariants.{First, Behind}
use Rattle.judy_model.specs.declared.calls.Search.TheVariants as search
use Rattle.judy_model.specs.declared.commands.Kind.{Kind}
use Rattle.judy_model.specs.declared.commands.Kind.TheVariants as kind
use Rattle.judy_model.specs.declared.lists.ArrayCount.{ArrayCount}
use Rattle.judy_model.specs.declared.replies.Reply.{Reply}
use Rattle.judy_model.specs.declared.replies.Reply.TheVariants as reply
use Rattle.judy_model.specs.Commands.{kind_number, kind_with}
use Rattle.judy_model.specs.Contents.{Entries, string_order}
use Rattle.judy_model.specs.Walks.{index_words, listed, walk}

-- the key of an array: the number of its kind, then the bytes of its name
abbrev pub array_key : Kind → List ℕ → List ℕ
array_key kind name = kind_number kind ∷ name

-- an array with its number of entries, by its key
abbrev pub count_of : ArrayCount → List ℕ × ℕ
count_of array = (array_key array.kind array.name, array.entries)

-- the number of entries of each array of a kind, by its key
abbrev pub counted : {K : Type 0} → Kind → List (List ℕ × Entries K) → Entries (List ℕ)
counted kind arrays = map (λ a. (array_key kind a.0, length a.1)) arrays

-- the key behind which a list begins; [] comes before all keys
abbrev pub key_of_start : ArraysFrom → List ℕ
key_of_start First = []
key_of_start (Behind kind name) = array_key kind name

-- the word of a kind in a line
abbrev pub kind_word : Kind → List ℕ
kind_word kind.One = codes "J1"
kind_word kind.Long = codes "JL"
kind_word kind.Str = codes "JSL"
kind_word kind.Bytes = codes "JHS"

-- the kind that a word names
abbrev pub kind_named : List ℕ → Option Kind
kind_named word = find string_order word
    ((kind_word kind.One, kind.One) ∷ (kind_word kind.Long, kind.Long) ∷ (kind_word kind.Str, kind.Str) ∷ (kind_word kind.Bytes, kind.Bytes) ∷ [])

-- the text of an array in a list: its kind, its name, and how many entries it has
abbrev pub array_words : List ℕ × ℕ → List ℕ
array_words e = 32 ∷ kind_word (kind_with (slice_index e.0 0)) ++ (32 ∷ drop 1 e.0 ++ index_words e.1)

-- the arrays behind a key, at most n, as texts
abbrev pub array_texts : Entries (List ℕ) → List ℕ → ℕ → List (List ℕ)
array_texts counts key n = map array_words (walk string_order counts search.Next key n)

-- the reply that lists them: as many as fit
abbrev pub names_reply : Entries (List ℕ) → ArraysFrom → ℕ → Reply
names_reply counts from n = let l = listed (array_texts counts (key_of_start from) n) in reply.Entries l.0 l.1
