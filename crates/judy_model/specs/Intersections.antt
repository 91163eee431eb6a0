-- The indexes that two sets share, as a call finds them step by step, and what they are.
--     meet l m x            what a step at x finds: the word where the next one goes on, and whether both sets have it
--     intersect l m x n     where the next call goes on, how many indexes this one shows, and their text
--     shared l m x          the indexes from x on that both sets have
--     IntersectionsAreExact the indexes shown are all that both sets have below the word where the next call goes on
use Rattle.std.specs.Prelude.{◌≡◌, ℕ, zero, suc, ◌+◌, ◌<◌, ◌≤◌, Bool, true, false, ◌&&◌, ◌==◌, List, [], ◌∷◌, ◌++◌, map, filter, length, Option, Some, None, option_map, option_and_then, unwrap_or, nat_le, nat_lt, if◌then◌else◌}
use Rattle.judy_model.specs.declared.lists.TheConstants.{INTERSECTION_LIMIT, INTERSECTION_STEPS}
use Rattle.judy_model.specs.declared.replies.Reply.{Reply}
use Rattle.judy_model.specs.declared.replies.Reply.TheVariants as reply
use Rattle.judy_model.specs.Contents.{Entries, IsWordArray, word_order, max_word, first, has_key}
use Rattle.judy_model.specs.Walks.{index_words}

-- ---- how they are found

-- What a step at x finds: the least index of the first set from x on, and the least index of the second from
-- there on. The next step goes on at the latter; it is an index of both if it is the former too. None: one of
-- the sets has no more.
abbrev pub meet : Entries ℕ → Entries ℕ → ℕ → Option (ℕ × Bool)
meet l m x = option_and_then (λ e. option_map (λ f. (f.0, f.0 == e.0)) (first word_order m e.0)) (first word_order l x)

-- the word behind x, if there is one
abbrev pub behind : ℕ → Option ℕ
behind x = if nat_lt x max_word then Some (x + 1) else None

-- what an intersection shows
pub record Intersection : Type 0 where
  -- the least word that was not looked at, if there is one
  pub next : Option ℕ
  -- how many indexes the text has
  pub count : ℕ
  pub text : List ℕ

-- At most so many steps from x on, and at most n indexes; the last argument is what the step at x finds. Indexes
-- are added to a text, up to the first that does not fit into a reply.
abbrev pub intersect_from : Entries ℕ → Entries ℕ → ℕ → ℕ → ℕ → List ℕ → Option ℕ → Option (ℕ × Bool) → Intersection
intersect_from l m zero n count text x met = record { next = x; count = count; text = text }
intersect_from l m (suc steps) zero count text x met = record { next = x; count = count; text = text }
intersect_from l m (suc steps) (suc n) count text x None = record { next = None; count = count; text = text }
intersect_from l m (suc steps) (suc n) count text x (Some (y, false)) = intersect_from l m steps (suc n) count text (Some y) (meet l m y)
intersect_from l m (suc steps) (suc n) count text x (Some (y, true)) =
    if nat_le (length text + length (index_words y)) INTERSECTION_LIMIT
    then intersect_from l m steps n (count + 1) (text ++ index_words y) (behind y) (option_and_then (λ z. meet l m z) (behind y))
    else record { next = Some y; count = count; text = text }

abbrev pub intersect : Entries ℕ → Entries ℕ → ℕ → ℕ → Intersection
intersect l m x n = intersect_from l m INTERSECTION_STEPS n 0 [] (Some x) (meet l m x)

-- the reply that shows them: 0 stands for no word to go on at
abbrev pub intersection_reply : Intersection → Reply
intersection_reply r = reply.Intersection (unwrap_or r.next 0) r.count r.text

-- ---- what they are

-- the indexes from x on that both sets have
abbrev pub shared : Entries ℕ → Entries ℕ → ℕ → List ℕ
shared l m x = filter (λ k. nat_le x k && has_key word_order m k) (map (λ e. e.0) l)

-- those below a word; all, if there is none
abbrev pub below : Option ℕ → List ℕ → List ℕ
below (Some y) ks = filter (λ k. nat_lt k y) ks
below None ks = ks

-- the text of indexes
abbrev pub index_texts : List ℕ → List ℕ
index_texts [] = []
index_texts (k ∷ ks) = index_words k ++ index_texts ks

-- a word behind x, or none
abbrev pub IsBehind : ℕ → Option ℕ → Type 0
IsBehind x (Some y) = (x < y) × (y ≤ max_word)
IsBehind x None = Unit {0}

-- The indexes shown are all that both sets have from x on and below the word where the next call goes on, or all
-- that they have, if there is no such word; they are at most n. The next call goes on at a word behind x, so that
-- calls come to an end.
abbrev pub IntersectionsAreExact : Type 0
IntersectionsAreExact = (l m : Entries ℕ) (x n : ℕ) → IsWordArray l → IsWordArray m → nat_le x max_word ≡ true → nat_lt 0 n ≡ true
    → let r = intersect l m x n in let found = below r.next (shared l m x) in
    (r.count ≡ length found) × (r.count ≤ n) × (r.text ≡ index_texts found) × IsBehind x r.next
