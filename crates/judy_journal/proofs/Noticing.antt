-- The notes of a text, line after line.
use Rattle.std.proofs.Common.{◌≡◌, ℕ, zero, suc, ◌+◌, ◌<◌, ◌≤◌, ◌^◌, Bool, true, false, ◌&&◌, List, [], ◌∷◌, ◌++◌, length, take, drop, sym, ◌∙◌, ap, subst, refl, arith, append-nil, Some, None}
use Rattle.std.specs.Prelude.{IsTrue, ◌==◌, ◌-◌, nat_le, not, slice_index, if◌then◌else◌}
use Rattle.std.specs.List.{list_all}
use Rattle.std.specs.Str.{bytes_eq}
use Rattle.std.proofs.lemmas.Bool.Decides.{nat_tests}
use Rattle.std.proofs.lemmas.List.{drop-append-le, length-append, take-append-drop, take-append-le, take_all}
use Rattle.judy_model.specs.Stream.{lines_of, rest_of}
use Rattle.judy_model.proofs.lemmas.LineLemmas.{IsOneLine, lines_of-more_bytes, lines_of-push, rest_of-more_bytes, rest_of-push}
use Rattle.std.specs.Prelude.{codes, decimal}
use Rattle.std.specs.Int.{w64, to_be_bytes}
use Rattle.hex.specs.Hex.{encode_lower}
use Rattle.judy_journal.specs.Journals.{Commit, is_line, is_record, joined, numbered}
use Rattle.judy_journal.specs.Notes.{Seen, changes_in, check, is_note, larger, note, number_in, seen_in, seen_line, seen_lines, seen_nothing, sure_of}
use Rattle.judy_journal.specs.Noting.{HasSeen, Noting, held, line_ended}
use Rattle.judy_journal.specs.Writes.{size_with}
use Rattle.judy_journal.proofs.Lines.{both, numbered-line, record-line, sum-line, text_is}

-- ---- a line of which a front is held

take_front : (n : ℕ) (a b : List ℕ) → take n (take n a ++ b) ≡ take n (a ++ b)
take_front zero a b = refl
take_front (suc n) [] b = refl
take_front (suc n) (x ∷ a) b = ap (λ v. x ∷ v) (take_front n a b)

third : (a b c d : Bool) → c ≡ false → (a && b && c && d) ≡ false
third true true c d e = rw e refl
third true false c d e = refl
third false b c d e = refl

none_if_long : (segment place : ℕ) (line : List ℕ) → 40 ≤ length line → sure_of segment place line ≡ None
none_if_long segment place line long =
    let no : nat_le (length line) 39 ≡ false = grind (arith, nat_tests, long) in
    ap (λ b. if b then Some (number_in line) else None)
    (third (is_note line) (nat_le 19 (length line)) (nat_le (length line) 39) (bytes_eq line (note segment place (number_in line))) no)

length-take_front : (n : ℕ) (line : List ℕ) → n ≤ length line → length (take n line) ≡ n
length-take_front zero line h = refl
length-take_front (suc n) [] h = absurd (omega (arith, h))
length-take_front (suc n) (x ∷ line) h = ap suc (length-take_front n line (omega (arith, h)))

sure_of-front : (segment place : ℕ) (line : List ℕ) → sure_of segment place (take 40 line) ≡ sure_of segment place line
sure_of-front segment place line = by (nat_le (length line) 40) refl
  where
    by : (b : Bool) → nat_le (length line) 40 ≡ b → sure_of segment place (take 40 line) ≡ sure_of segment place line
    by true is =
        let short : length line ≤ 40 = grind (arith, nat_tests, is) in
        ap (sure_of segment place) (take_all 40 line short)
    by false is =
        let long : 40 ≤ length line = grind (arith, nat_tests, is) in
        none_if_long segment place (take 40 line) (omega (arith, length-take_front 40 line long)) ∙ sym (none_if_long segment place line long)

-- ---- lines, one after another

seen-snoc : (segment : ℕ) (s : Seen) (lines : List (List ℕ)) (line : List ℕ)
    → seen_lines segment s (lines ++ line ∷ []) ≡ seen_line segment (seen_lines segment s lines) line
seen-snoc segment s [] line = refl
seen-snoc segment s (l ∷ lines) line = seen-snoc segment (seen_line segment s l) lines line

place_after : (segment n : ℕ) (s : Seen) (lines : List (List ℕ)) → s.place ≡ size_with 0 n
    → (seen_lines segment s lines).place ≡ size_with 0 (n + length (joined lines))
place_after segment n s [] h = h ∙ ap (size_with 0) (omega arith)
place_after segment n s (l ∷ lines) h =
    let next : (seen_line segment s l).place ≡ size_with 0 (n + (length l + 1)) = omega (arith, h) in
    place_after segment (n + (length l + 1)) (seen_line segment s l) lines next
    ∙ ap (size_with 0) (omega (arith, length-append l (10 ∷ joined lines)))

place_in : (segment : ℕ) (text : List ℕ) → (seen_in segment text).place ≡ size_with 0 (length (joined (lines_of text)))
place_in segment text = place_after segment 0 seen_nothing (lines_of text) (omega arith) ∙ ap (size_with 0) (omega arith)

length_is : (text : List ℕ) → length text ≡ length (joined (lines_of text)) + length (rest_of text)
length_is text = ap length (sym (text_is text)) ∙ length-append (joined (lines_of text)) (rest_of text)

pub nothing_seen : (segment : ℕ) → HasSeen segment [] (record { segment = segment; seen = seen_nothing; taken = 0; line = [] })
nothing_seen segment = record { segment_is = refl; seen_is = refl; taken_is = omega arith; line_is = refl }

-- the rest of a line
pub rest_seen : (segment : ℕ) (text chunk : List ℕ) (n m : Noting) → IsOneLine chunk → HasSeen segment text n → m ≡ held chunk n
    → HasSeen segment (text ++ chunk) m
rest_seen segment text chunk n m one h is = subst (HasSeen segment (text ++ chunk)) (sym is) (record {
  segment_is = h.segment_is;
  seen_is = h.seen_is ∙ ap (seen_lines segment seen_nothing) (sym (lines_of-more_bytes text chunk one));
  taken_is = omega (arith, h.taken_is, length-append text chunk);
  line_is = ap (λ v. take 40 (v ++ chunk)) h.line_is ∙ take_front 40 (rest_of text) chunk ∙ ap (take 40) (sym (rest_of-more_bytes text chunk one));
})

-- the rest of a line and its line feed
pub line_seen : (segment : ℕ) (text chunk : List ℕ) (n m k : Noting) → IsOneLine chunk → HasSeen segment text n → m ≡ held chunk n
    → k ≡ line_ended m → HasSeen segment (text ++ (chunk ++ 10 ∷ [])) k
line_seen segment text chunk n m k one h is ends =
    let line = rest_of text ++ chunk in
    let all = text ++ (chunk ++ 10 ∷ []) in
    let front : (held chunk n).line ≡ take 40 line = ap (λ v. take 40 (v ++ chunk)) h.line_is ∙ take_front 40 (rest_of text) chunk in
    let sure : sure_of n.segment n.seen.place (held chunk n).line ≡ sure_of segment (seen_in segment text).place line =
    ap (sure_of n.segment n.seen.place) front ∙ sure_of-front n.segment n.seen.place line
    ∙ ap (λ i. sure_of i n.seen.place line) h.segment_is ∙ ap (λ s. sure_of segment s.place line) h.seen_is in
    let place : size_with (held chunk n).taken 1 ≡ size_with (seen_in segment text).place (length line + 1) =
    omega (arith, h.taken_is, place_in segment text, length_is text, length-append (rest_of text) chunk) in
    let seen : (line_ended (held chunk n)).seen ≡ seen_line segment (seen_in segment text) line =
    ap (λ p. record {
      place = p;
      surest = larger n.seen.surest (sure_of n.segment n.seen.place (held chunk n).line);
    }) place
    ∙ ap (λ o. record {
      place = size_with (seen_in segment text).place (length line + 1);
      surest = larger n.seen.surest o;
    }) sure
    ∙ ap (λ s. record {
      place = size_with (seen_in segment text).place (length line + 1);
      surest = larger s.surest (sure_of segment (seen_in segment text).place line);
    }) h.seen_is in
    subst (HasSeen segment all) (sym (ends ∙ ap line_ended is)) (record {
      segment_is = h.segment_is;
      seen_is = seen ∙ sym (ap (seen_lines segment seen_nothing) (lines_of-push text chunk one) ∙ seen-snoc segment seen_nothing (lines_of text) line);
      taken_is = omega (arith, h.taken_is, length-append text (chunk ++ 10 ∷ []), length-append chunk (10 ∷ []));
      line_is = ap (take 40) (sym (rest_of-push text chunk one));
    })

-- ---- one line

pub told : (segment place sure : ℕ) (line : List ℕ) (b : Bool) → 19 ≤ length line → length line < 40 → is_note line ≡ true → sure ≡ number_in line
    → bytes_eq line (note segment place sure) ≡ b → (if b then Some sure else None) ≡ sure_of segment place line
told segment place sure line b some short is same eq =
    let long : nat_le 19 (length line) ≡ true = grind (arith, nat_tests, some) in
    let small : nat_le (length line) 39 ≡ true = grind (arith, nat_tests, short) in
    let eq' : bytes_eq line (note segment place (number_in line)) ≡ b = ap (λ n. bytes_eq line (note segment place n)) (sym same) ∙ eq in
    let all : (is_note line && nat_le 19 (length line) && nat_le (length line) 39 && bytes_eq line (note segment place (number_in line))) ≡ b =
    ap (λ v. v && nat_le 19 (length line) && nat_le (length line) 39 && bytes_eq line (note segment place (number_in line))) is
    ∙ ap (λ v. v && nat_le (length line) 39 && bytes_eq line (note segment place (number_in line))) long
    ∙ ap (λ v. v && bytes_eq line (note segment place (number_in line))) small ∙ eq' in
    ap (λ n. if b then Some n else None) same ∙ sym (ap (λ v. if v then Some (number_in line) else None) all)

-- ---- the note of a commit

pub changes_in-snoc : (rs : Commit) (r : List ℕ) → changes_in (rs ++ r ∷ []) ≡ (if is_note r then rs else rs ++ r ∷ [])
changes_in-snoc [] r = refl
changes_in-snoc (a ∷ []) r = by (is_note r) refl
  where
    by : (b : Bool) → is_note r ≡ b → a ∷ (if is_note r then [] else r ∷ []) ≡ (if is_note r then a ∷ [] else a ∷ r ∷ [])
    by true is = rw is refl
    by false is = rw is refl
changes_in-snoc (a ∷ c ∷ rs) r = ap (λ v. a ∷ v) (changes_in-snoc (c ∷ rs) r) ∙ by (is_note r) refl
  where
    by : (b : Bool) → is_note r ≡ b → a ∷ (if is_note r then c ∷ rs else c ∷ rs ++ r ∷ []) ≡ (if is_note r then a ∷ c ∷ rs else a ∷ c ∷ rs ++ r ∷ [])
    by true is = rw is refl
    by false is = rw is refl

-- ---- where the last line begins

is_no : (b : Bool) → (b ≡ true → ⊥) → not b ≡ true
is_no true h = absurd (h refl)
is_no false h = refl

-- if each byte from a place on is no line feed, they are one line
one_line-from : (text : List ℕ) (n : ℕ) → ((k : ℕ) → n ≤ k → k < length text → (slice_index text k == 10) ≡ true → ⊥) → IsOneLine (drop n text)
one_line-from [] zero h = refl
one_line-from [] (suc n) h = refl
one_line-from (b ∷ text) zero h =
    both (not (b == 10)) (list_all (λ b. not (b == 10)) text) (is_no (b == 10) (h 0 (omega arith) (omega arith)))
    (one_line-from text 0 (λ k le lt. h (suc k) (omega arith) (omega (arith, lt))))
one_line-from (b ∷ text) (suc n) h = one_line-from text n (λ k le lt. h (suc k) (omega (arith, le)) (omega (arith, lt)))

cut_after : (text : List ℕ) (n : ℕ) → n < length text → (slice_index text n == 10) ≡ true → take (suc n) text ≡ take n text ++ 10 ∷ []
cut_after [] n h is = absurd (omega (arith, h))
cut_after (b ∷ text) zero h is = let e : b ≡ 10 = grind (arith, nat_tests, is) in ap (λ v. v ∷ []) e
cut_after (b ∷ text) (suc n) h is = ap (λ v. b ∷ v) (cut_after text n (omega (arith, h)) is)

pub record IsLastStart (text : List ℕ) (start : ℕ) : Type 0 where
  pub front : lines_of (take start text) ≡ lines_of text
  pub last : drop start text ≡ rest_of text

pub starts_after : (text : List ℕ) (at : ℕ) → at < length text → (slice_index text at == 10) ≡ true
    → ((k : ℕ) → at + 1 ≤ k → k < length text → (slice_index text k == 10) ≡ true → ⊥) → IsLastStart text (at + 1)
starts_after text at h is none =
    let one : IsOneLine (drop (at + 1) text) = one_line-from text (at + 1) none in
    let next : at + 1 ≡ suc at = omega arith in
    let cut : take (at + 1) text ≡ take at text ++ ([] ++ 10 ∷ []) = ap (λ k. take k text) next ∙ cut_after text at h is in
    let rest : rest_of (take (at + 1) text) ≡ [] = ap rest_of cut ∙ rest_of-push (take at text) [] refl in
    let all : take (at + 1) text ++ drop (at + 1) text ≡ text = take-append-drop (at + 1) text in
    record {
      front = sym (lines_of-more_bytes (take (at + 1) text) (drop (at + 1) text) one) ∙ ap lines_of all;
      last = ap (λ v. v ++ drop (at + 1) text) (sym rest) ∙ sym (rest_of-more_bytes (take (at + 1) text) (drop (at + 1) text) one) ∙ ap rest_of all;
    }

pub starts_first : (text : List ℕ) → ((k : ℕ) → 0 ≤ k → k < length text → (slice_index text k == 10) ≡ true → ⊥) → IsLastStart text 0
starts_first text none =
    let one : IsOneLine text = one_line-from text 0 none in
    record { front = sym (lines_of-more_bytes [] text one); last = sym (rest_of-more_bytes [] text one) }

-- ---- records and their note

ends_line : (body : List ℕ) (b : ℕ) → rest_of (body ++ b ∷ []) ≡ [] → b ≡ 10
ends_line body b none = by (b == 10) refl
  where
    some_no : (xs : List ℕ) (x : ℕ) → xs ++ x ∷ [] ≡ [] → ⊥
    some_no [] x e = cc
    some_no (y ∷ xs) x e = cc

    by : (v : Bool) → (b == 10) ≡ v → b ≡ 10
    by true is = grind (arith, nat_tests, is)
    by false is =
        let one : IsOneLine (b ∷ []) = rw is refl in
        absurd (some_no (rest_of body) b (sym (rest_of-more_bytes body (b ∷ []) one) ∙ none))

is_note-line : (line : List ℕ) → is_note (line ++ 10 ∷ []) ≡ is_note line
is_note-line [] = refl
is_note-line (b ∷ line) = refl

-- whole lines, cut before the last one
pub cut_note : (records : List ℕ) (start : ℕ) → rest_of records ≡ [] → 0 < length records
    → start ≤ length (take (length records - 1) records) → IsLastStart (take (length records - 1) records) start
    → (if is_note (drop start records) then lines_of (take start records) else lines_of records) ≡ changes_in (lines_of records)
cut_note records start none some bound at =
    let n = length records - 1 in
    let body = take n records in
    let one : length (drop n records) ≡ 1 = omega (arith, some, ap length (take-append-drop n records), length-append body (drop n records), take_len n records (omega (arith, some))) in
    let all : body ++ drop n records ≡ records = take-append-drop n records in
    let (b, is) = single (drop n records) one in
    let parts : body ++ b ∷ [] ≡ records = ap (λ v. body ++ v) (sym is) ∙ all in
    let feed : b ≡ 10 = ends_line body b (ap rest_of parts ∙ none) in
    let text : body ++ ([] ++ 10 ∷ []) ≡ records = ap (λ c. body ++ c ∷ []) (sym feed) ∙ parts in
    let lines : lines_of records ≡ lines_of body ++ rest_of body ∷ [] =
    ap lines_of (sym text) ∙ lines_of-push body [] refl ∙ ap (λ v. lines_of body ++ v ∷ []) (append-nil (rest_of body)) in
    let front : take start records ≡ take start body = ap (take start) (sym text) ∙ take-append-le start body (10 ∷ []) bound in
    let back : drop start records ≡ rest_of body ++ 10 ∷ [] =
    ap (drop start) (sym text) ∙ drop-append-le start body (10 ∷ []) bound ∙ ap (λ v. v ++ 10 ∷ []) at.last in
    let note : is_note (drop start records) ≡ is_note (rest_of body) = ap is_note back ∙ is_note-line (rest_of body) in
    ap (λ b. if b then lines_of (take start records) else lines_of records) note
    ∙ ap (λ v. if is_note (rest_of body) then v else lines_of records) (ap lines_of front ∙ at.front)
    ∙ ap (λ v. if is_note (rest_of body) then lines_of body else v) lines
    ∙ sym (ap changes_in lines ∙ changes_in-snoc (lines_of body) (rest_of body))
  where
    take_len : (n : ℕ) (xs : List ℕ) → n ≤ length xs → length (take n xs) ≡ n
    take_len n xs h = length-take_front n xs h

    single : (xs : List ℕ) → length xs ≡ 1 → (b : ℕ) × (xs ≡ b ∷ [])
    single [] e = absurd (omega (arith, e))
    single (b ∷ []) e = (b, refl)
    single (b ∷ c ∷ xs) e = absurd (omega (arith, e))

-- ---- what a hold takes

pub take_over : (n : ℕ) (a b : List ℕ) → length a ≤ n → take n (a ++ b) ≡ a ++ take (n - length a) b
take_over n [] b h = ap (λ k. take k b) (omega arith)
take_over zero (x ∷ a) b h = absurd (omega (arith, h))
take_over (suc n) (x ∷ a) b h =
    let same : n - length a ≡ suc n - length (x ∷ a) = omega arith in
    ap (λ v. x ∷ v) (take_over n a b (omega (arith, h)) ∙ ap (λ k. a ++ take k b) same)

-- ---- the text of a note

pub record IsNoteText (segment place sure : ℕ) (text : List ℕ) : Type 0 where
  pub lines : lines_of text ≡ note segment place sure ∷ []
  pub rest : rest_of text ≡ []
  pub records : IsTrue (list_all is_record (lines_of text))

note-line : (segment place sure : ℕ) → sure < 2 ^ 64 → IsOneLine (note segment place sure)
note-line segment place sure h = numbered-line (codes "@ ") sure (check segment place sure) refl h
    (sum-line (encode_lower (to_be_bytes w64 segment)) (decimal place ++ 32 ∷ decimal sure))

pub note-record : (segment place sure : ℕ) → sure < 2 ^ 64 → IsTrue (is_record (note segment place sure))
unfolding numbered
note-record segment place sure h = both (is_line (note segment place sure)) true (note-line segment place sure h) refl

pub note_text : (segment place sure : ℕ) (text : List ℕ) → IsTrue (is_record (note segment place sure)) → text ≡ note segment place sure ++ 10 ∷ [] → IsNoteText segment place sure text
note_text segment place sure text h is =
    let one = record-line (note segment place sure) h in
    let lines : lines_of text ≡ note segment place sure ∷ [] = ap lines_of is ∙ lines_of-push [] (note segment place sure) one in
    record {
      lines = lines;
      rest = ap rest_of is ∙ rest_of-push [] (note segment place sure) one;
      records = subst (λ v. IsTrue (list_all is_record v)) (sym lines)
          (both (is_record (note segment place sure)) true h refl);
    }
