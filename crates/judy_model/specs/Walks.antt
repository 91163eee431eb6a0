-- Walks: what a search finds, and each time what follows it; and the text that lists this in a reply.
--     found_by, index_by, absent_by            what a search finds: an entry, its index, an absent word
--     search_on                                the search that goes on behind it
--     walk, walk_indexes, walk_empty           at most n of them, one after another
--     index_words, entry_words, key_words      the text of one of them, after a space
--     listed texts                             how many of these texts fit into a reply, and the text of these
--     hashed_key, by_hash, walk_bytes          the order of byte keys, and a walk in it
--     ByteWalksAreWhole                        which entries it shows
--     in_direction, WalksAreTakes              the entries that a search looks among; a walk is the first n of them
use Rattle.std.specs.Prelude.{ℕ, zero, suc, ◌+◌, List, [], ◌∷◌, ◌++◌, length, Option, Some, None, option_map, nat_le, if◌then◌else◌, codes, decimal}
use Rattle.std.specs.Prelude.{◌≡◌, map, take, drop, filter, reverse}
use Rattle.std.specs.Ordering.{is_ge, is_gt, is_le, is_lt}
use Rattle.hex.specs.Hex.{encode_lower}
use Rattle.std.specs.Int.{from_be_bytes, w64}
use Rattle.sha2.specs.Sha256.{sha256}
use Rattle.judy_model.specs.declared.calls.Search.{Search}
use Rattle.judy_model.specs.declared.calls.Search.TheVariants.{First, Next, Last, Prev}
use Rattle.judy_model.specs.declared.lists.TheConstants.{LIST_LIMIT}
use Rattle.judy_model.specs.Contents.{Order, Entries, IsRising, word_order, string_order, value_of, with_entry, first, next, last, prev}
use Rattle.judy_model.specs.Gaps.{first_empty, last_empty, next_empty, prev_empty}

-- ---- what is found

-- the entry that a search finds
abbrev pub found_by : {K : Type 0} → Order K → Entries K → Search → K → Option (K × ℕ)
found_by order l First x = first order l x
found_by order l Next x = next order l x
found_by order l Last x = last order l x
found_by order l Prev x = prev order l x

-- the index that a search of a set finds
abbrev pub index_by : Entries ℕ → Search → ℕ → Option ℕ
index_by l search x = option_map (λ e. e.0) (found_by word_order l search x)

-- the absent word that a search finds
abbrev pub absent_by : Entries ℕ → Search → ℕ → Option ℕ
absent_by l First x = first_empty l x
absent_by l Next x = next_empty l x
absent_by l Last x = last_empty l x
absent_by l Prev x = prev_empty l x

-- the search that goes on behind what a search found, in its direction
abbrev pub search_on : Search → Search
search_on First = Next
search_on Next = Next
search_on Last = Prev
search_on Prev = Prev

-- at most n: this one, and each time what is behind it
abbrev pub walk_from : {E : Type 0} → (E → Option E) → ℕ → Option E → List E
walk_from on zero found = []
walk_from on (suc n) None = []
walk_from on (suc n) (Some e) = e ∷ walk_from on n (on e)

-- the entries of a walk
abbrev pub walk : {K : Type 0} → Order K → Entries K → Search → K → ℕ → List (K × ℕ)
walk order l search x n = walk_from (λ e. found_by order l (search_on search) e.0) n (found_by order l search x)

-- the indexes of a walk over a set
abbrev pub walk_indexes : Entries ℕ → Search → ℕ → ℕ → List ℕ
walk_indexes l search x n = walk_from (λ y. index_by l (search_on search) y) n (index_by l search x)

-- the absent words of a walk
abbrev pub walk_empty : Entries ℕ → Search → ℕ → ℕ → List ℕ
walk_empty l search x n = walk_from (λ y. absent_by l (search_on search) y) n (absent_by l search x)

-- the entries that a search looks among, in its direction
abbrev pub in_direction : {K : Type 0} → Order K → Entries K → Search → K → Entries K
in_direction order l First x = filter (λ e. is_ge (order e.0 x)) l
in_direction order l Next x = filter (λ e. is_gt (order e.0 x)) l
in_direction order l Last x = reverse (filter (λ e. is_le (order e.0 x)) l)
in_direction order l Prev x = reverse (filter (λ e. is_lt (order e.0 x)) l)

-- A walk is the first n entries that its search looks among. So it is over a map of words, over a set, which
-- shows the indexes alone, and over a map of strings.
abbrev pub WalksAreTakes : Type 0
WalksAreTakes = ((l : Entries ℕ) (search : Search) (x n : ℕ) → IsRising word_order l → walk word_order l search x n ≡ take n (in_direction word_order l search x))
    × ((l : Entries ℕ) (search : Search) (x n : ℕ) → IsRising word_order l
    → walk_indexes l search x n ≡ map (λ e. e.0) (take n (in_direction word_order l search x)))
    × ((l : Entries (List ℕ)) (search : Search) (x : List ℕ) (n : ℕ) → IsRising string_order l
    → walk string_order l search x n ≡ take n (in_direction string_order l search x))

-- ---- byte keys

-- the first 8 bytes of a key's SHA-256 as a number, the first byte highest
unfoldable pub key_word : List ℕ → ℕ
key_word key = from_be_bytes w64 (take 8 (sha256 key))

-- A byte key behind its word. Walks over byte keys are in the order of these lists.
abbrev pub hashed_key : List ℕ → List ℕ
hashed_key key = key_word key ∷ key

-- the entries of a JudyHS in that order, each under its hashed key
abbrev pub by_hash : Entries (List ℕ) → Entries (List ℕ)
by_hash [] = []
by_hash (e ∷ es) = with_entry string_order (by_hash es) (hashed_key e.0) e.1

-- the entries of a walk over a JudyHS, at most n, behind a hashed key; [] comes before all of them
abbrev pub walk_bytes : Entries (List ℕ) → List ℕ → ℕ → Entries (List ℕ)
walk_bytes l from n = map (λ e. (drop 1 e.0, e.1)) (walk string_order (by_hash l) Next from n)

-- Walks over a JudyHS are in the order of the keys' words, then of the keys. They go over all of its entries, each
-- once, and over no others.
abbrev pub ByteWalksAreWhole : Type 0
ByteWalksAreWhole = (l : Entries (List ℕ)) → IsRising string_order l
    → IsRising string_order (by_hash l)
    × (length (by_hash l) ≡ length l)
    × ((key : List ℕ) → value_of string_order (by_hash l) (hashed_key key) ≡ value_of string_order l key)
    × ((from : List ℕ) (n : ℕ) → walk_bytes l from n ≡ map (λ e. (drop 1 e.0, e.1)) (take n (in_direction string_order (by_hash l) Next from)))

-- ---- their text

-- an index
abbrev pub index_words : ℕ → List ℕ
index_words x = 32 ∷ decimal x

-- the value and the index of an entry of a JudyL
abbrev pub entry_words : ℕ × ℕ → List ℕ
entry_words e = index_words e.1 ++ index_words e.0

-- the value and the string of an entry of a JudySL
abbrev pub key_words : List ℕ × ℕ → List ℕ
key_words e = index_words e.1 ++ (codes " x" ++ encode_lower e.0)

-- These texts added to a text, one after another, up to the first that does not fit into a reply: how many
-- texts there are then, and the text.
abbrev pub listed_from : ℕ → List ℕ → List (List ℕ) → ℕ × List ℕ
listed_from count text [] = (count, text)
listed_from count text (t ∷ ts) = if nat_le (length text + length t) LIST_LIMIT then listed_from (count + 1) (text ++ t) ts else (count, text)

-- the longest front of these texts that fits into a reply: how many they are, and their text
abbrev pub listed : List (List ℕ) → ℕ × List ℕ
listed texts = listed_from 0 [] texts
