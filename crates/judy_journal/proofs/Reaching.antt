-- The first whole commits of a text, whatever comes after them.
--     found-reaches      what is found is reached
--     torn-reaches       so is what was read of a text that was read to its end
--     damage-reaches     and what comes before a line that should end a commit, and has another count or checksum
--     long-reaches       and what comes before too many records, or a line that is too long
--     header-is-none     a text with another first line has none
--     any-reaches        in any text with a first line something is reached
--     any-is-found       in any last file something is found
--     reaches-once       only one thing is reached
use Rattle.std.proofs.Common.{◌≡◌, ◌≢◌, ◌⊎◌, inl, inr, ℕ, zero, suc, ◌<◌, ◌≤◌, ◌+◌, ◌*◌, ◌^◌, Bool, true, false, not, List, [], ◌∷◌, ◌++◌, length, sym, ◌∙◌, ap, subst, refl, arith, append_assoc, append-nil}
use Rattle.std.specs.Prelude.{IsTrue, ◌==◌, codes, decimal, nat_le}
use Rattle.std.specs.Int.{w64, to_be_bytes}
use Rattle.std.specs.List.{list_all}
use Rattle.std.specs.Str.{bytes_eq}
use Rattle.std.proofs.lemmas.Bool.Decides.{nat_tests}
use Rattle.std.proofs.lemmas.Fmt.{length-decimal-le}
use Rattle.std.proofs.lemmas.List.{append_cancel_left, length-append}
use Rattle.std.proofs.lemmas.Slice.Eq.{bytes_eq-Decides}
use Rattle.hex.specs.Hex.{encode_with, lower_digits}
use Rattle.judy_model.specs.Stream.{lines_of, rest_of}
use Rattle.judy_model.proofs.lemmas.LineLemmas.{lines_of-bytes, lines_of-line, lines_of-more_bytes, lines_of-push, rest_of-IsOneLine}
use Rattle.judy_model.proofs.lemmas.TestLemmas.{and_left, and_right}
use Rattle.judy_journal.specs.Journals.{Commit, AreCommits, joined, is_line, is_mark, is_record, is_commit, number_after, numbered, sum_of, sum_after, mark, header, commits_lines, journal_text, sum_at}
use Rattle.judy_journal.specs.Readings.{HasShortHeader}
use Rattle.judy_journal.specs.Recoveries.{Found, FoundLast, HasNoHeader, HasNoMark, HasOtherHeader, HasOtherMark, Reaches}
use Rattle.judy_journal.specs.Writes.{commit_text, header_text}
use Rattle.judy_journal.proofs.Lines.{both, few, header-line, joined-append, line-append, lines-append, lines_of-joined, mark-marks, records-lines, text_is}
use Rattle.judy_journal.proofs.Fronts.{Line, Same, commits_are_lines, commits_lines-append, first_mark, later, neither, none_there, records_of}

-- ---- the text of one more commit, as lines

pub next_lines : (s : List ℕ) (next : Commit) (rest : List ℕ) → IsTrue (is_commit next)
    → lines_of (commit_text s next ++ rest) ≡ next ++ mark s next ∷ lines_of rest
next_lines s next rest h =
    let one : AreCommits (next ∷ []) = both (is_commit next) true h refl in
    lines_of-joined (commits_lines s (next ∷ [])) rest (commits_are_lines s (next ∷ []) one)
    ∙ append_assoc next (mark s next ∷ []) (lines_of rest)

-- commits that begin with this one
pub next_text : (s : List ℕ) (next : Commit) (cs : List Commit)
    → joined (commits_lines s (next ∷ cs)) ≡ commit_text s next ++ joined (commits_lines (sum_after s next) cs)
next_text s next cs =
    ap joined (commits_lines-append s (next ∷ []) cs) ∙ joined-append (commits_lines s (next ∷ [])) (commits_lines (sum_after s next) cs)

-- no whole commit comes first in these lines
abbrev pub NoNext : List ℕ → List Line → Type 0
NoNext s lines = (next : Commit) (rest : List Line) → IsTrue (is_commit next) → lines ≡ next ++ mark s next ∷ rest → ⊥

-- a whole commit does
abbrev HasNext : List ℕ → List Line → Type 0
HasNext s lines = (next : Commit) × (rest : List Line) × IsTrue (is_commit next) × (lines ≡ next ++ mark s next ∷ rest)

-- the lines of a text that begin with a commit
begins_with : (s t : List ℕ) (next : Commit) (rest : List Line) → lines_of t ≡ next ++ mark s next ∷ rest
    → t ≡ commit_text s next ++ (joined rest ++ rest_of t)
begins_with s t next rest e =
    sym (text_is t) ∙ ap (λ v. joined v ++ rest_of t) (e ∙ sym (append_assoc next (mark s next ∷ []) rest))
    ∙ ap (λ v. v ++ rest_of t) (joined-append (next ++ mark s next ∷ []) rest)
    ∙ append_assoc (commit_text s next) (joined rest) (rest_of t)

-- a text that begins with no commit has lines that begin with none
pub no_next_line : (segment : ℕ) (sum text : List ℕ) (commits : List Commit) (tail : List ℕ) → Reaches segment sum text commits tail
    → NoNext (sum_at sum commits) (lines_of tail)
no_next_line segment sum text commits tail f next rest h e =
    f.no_next next (joined rest ++ rest_of tail) h (begins_with (sum_at sum commits) tail next rest e)

-- records without a mark are no commit
pub no_next_record : (s : List ℕ) (records : List Line) → IsTrue (list_all is_record records) → NoNext s records
no_next_record s records h next rest k e = none_there records next (mark s next) rest h (mark-marks s next) e

-- ---- what each reading reaches

pub found-reaches : (segment : ℕ) (sum text : List ℕ) (commits : List Commit) (tail : List ℕ) → Found segment sum text commits tail
    → Reaches segment sum text commits tail
found-reaches segment sum text commits tail f = record {
  begins = f.text_is;
  commits_are = f.commits_are;
  no_next = λ next rest h e. no_next_record (sum_at sum commits) (lines_of tail) f.unended next (lines_of rest) h
      (ap lines_of e ∙ next_lines (sum_at sum commits) next rest h);
}

pub damage-reaches : (segment : ℕ) (sum text : List ℕ) → (d : HasOtherMark segment sum text)
    → Reaches segment sum text d.commits (joined (d.records ++ d.line ∷ []) ++ d.more)
damage-reaches segment sum text d = record {
  begins = d.text_is ∙ append_assoc (journal_text segment sum d.commits) (joined (d.records ++ d.line ∷ [])) d.more;
  commits_are = d.commits_are;
  no_next = λ next rest h e.
      let s : Same d.records next d.line (mark (sum_at sum d.commits) next) (lines_of d.more) (lines_of rest) =
      first_mark d.records next d.line (mark (sum_at sum d.commits) next) (lines_of d.more) (lines_of rest) d.records_are
      (and_left (list_all is_record next) _ h) d.marks (mark-marks (sum_at sum d.commits) next)
      (sym there ∙ ap lines_of e ∙ next_lines (sum_at sum d.commits) next rest h) in
      d.other (s.mark_is ∙ ap (mark (sum_at sum d.commits)) (sym s.records));
}
  where
    last : IsTrue (list_all is_line (d.records ++ d.line ∷ []))
    last = lines-append d.records (d.line ∷ []) is_line (records-lines d.records d.records_are) (both (is_line d.line) true d.one refl)

    there : lines_of (joined (d.records ++ d.line ∷ []) ++ d.more) ≡ d.records ++ d.line ∷ lines_of d.more
    there = lines_of-joined (d.records ++ d.line ∷ []) d.more last ∙ append_assoc d.records (d.line ∷ []) (lines_of d.more)

-- ---- a line that is too long

-- records come before a mark
record Ahead (a b : List Line) (m : Line) (x y : List Line) : Type 0 where
  others : List Line
  all : b ≡ a ++ others
  rest : x ≡ others ++ m ∷ y

ahead : (a b : List Line) (m : Line) (x y : List Line) → IsTrue (list_all is_record a) → is_mark m ≡ true → a ++ x ≡ b ++ m ∷ y → Ahead a b m x y
ahead [] b m x y h k e = record { others = b; all = refl; rest = e }
ahead (l ∷ a) [] m x y h k e =
    let same : m ≡ l = cc in
    neither l (and_left (is_record l) (list_all is_record a) h) (subst (λ v. is_mark v ≡ true) same k)
ahead (l ∷ a) (n ∷ b) m x y h k e =
    let same : l ≡ n = cc in
    let tail : a ++ x ≡ b ++ m ∷ y = cc in
    let p = ahead a b m x y (and_right (is_record l) (list_all is_record a) h) k tail in
    record { others = p.others; all = ap (λ v. v ∷ b) (sym same) ∙ ap (λ v. l ∷ v) p.all; rest = p.rest }

-- the first line of bytes has all that comes before its line feed
first_long : (more line : List ℕ) (l : Line) (ls : List Line) → IsTrue (is_line line) → lines_of (line ++ more) ≡ l ∷ ls → length line ≤ length l
first_long [] line l ls h e =
    absurd (Rattle.judy_journal.proofs.Lines.some_are_none l ls (sym e ∙ ap lines_of (append-nil line) ∙ lines_of-bytes line h))
first_long (b ∷ more) line l ls h e = by (b == 10) refl (λ longer one is. first_long more longer l ls one is)
  where
    by : (v : Bool) → (b == 10) ≡ v
        → ((longer : List ℕ) → IsTrue (is_line longer) → lines_of (longer ++ more) ≡ l ∷ ls → length longer ≤ length l) → length line ≤ length l
    by true is again =
        let feed : b ≡ 10 = grind (arith, nat_tests, is) in
        let cut : lines_of (line ++ 10 ∷ more) ≡ line ∷ lines_of more = lines_of-line line more h in
        let whole : line ∷ lines_of more ≡ l ∷ ls = sym cut ∙ ap (λ c. lines_of (line ++ c ∷ more)) (sym feed) ∙ e in
        let same : line ≡ l = cc in
        omega (arith, ap length same)
    by false is again =
        let one : IsTrue (is_line (line ++ b ∷ [])) = line-append line (b ∷ []) h (rw is refl) in
        let longer = again (line ++ b ∷ []) one (ap lines_of (append_assoc line (b ∷ []) more) ∙ e) in
        omega (arith, longer, length-append line (b ∷ []))

encoded_len : (bytes : List ℕ) → length (encode_with lower_digits bytes) ≡ 2 * length bytes
unfolding encode_with
encoded_len [] = refl
encoded_len (b ∷ bytes) = omega (arith, encoded_len bytes)

pub sum_len : (sum text : List ℕ) → length (sum_of sum text) ≡ 16
unfolding sum_of
sum_len sum text = encoded_len (to_be_bytes w64 (number_after (number_after 0 sum) text))

mark_len : (sum : List ℕ) (commit : Commit) → length commit < 2 ^ 64 → length (mark sum commit) ≤ 39
unfolding numbered
mark_len sum commit few =
    let digits : length (decimal (length commit)) ≤ 20 = length-decimal-le 20 (length commit) (omega arith) (omega (arith, few)) few in
    omega (
      arith,
      digits,
      sum_len sum (joined commit),
      length-append (decimal (length commit)) (32 ∷ sum_after sum commit),
      length-append (codes "# ") (decimal (length commit) ++ 32 ∷ sum_after sum commit),
    )

-- no commit has a record that is so long, or so many of them
no_long : (s : List ℕ) (records : Commit) (line more : List ℕ) (next : Commit) (rest : List ℕ) → IsTrue (list_all is_record records)
    → IsTrue (is_line line) → (16282 < length (joined records)) ⊎ (16282 < length line) → IsTrue (is_commit next)
    → (joined records ++ line) ++ more ≡ commit_text s next ++ rest → ⊥
no_long s records line more next rest are one long h e = by long
  where
    lines : records ++ lines_of (line ++ more) ≡ next ++ mark s next ∷ lines_of rest
    lines = sym (ap lines_of (append_assoc (joined records) line more) ∙ lines_of-joined records (line ++ more) (records-lines records are))
        ∙ ap lines_of e ∙ next_lines s next rest h

    p : Ahead records next (mark s next) (lines_of (line ++ more)) (lines_of rest)
    p = ahead records next (mark s next) (lines_of (line ++ more)) (lines_of rest) are (mark-marks s next) lines

    small : length (joined next) ≤ 16282
    small = grind (arith, nat_tests, and_right (list_all is_record next) (nat_le (length (joined next)) 16282) h)

    size : length (joined next) ≡ length (joined records) + length (joined p.others)
    size = ap (λ v. length (joined v)) p.all ∙ ap length (joined-append records p.others) ∙ length-append (joined records) (joined p.others)

    first : (others : List Line) → lines_of (line ++ more) ≡ others ++ mark s next ∷ lines_of rest → length (joined others) ≤ 16282 → length line ≤ 16282
    first [] is fits = omega (arith, first_long more line (mark s next) (lines_of rest) one is, mark_len s next (few next h))
    first (l ∷ others) is fits =
        omega (arith, first_long more line l (others ++ mark s next ∷ lines_of rest) one is, fits, length-append l (10 ∷ joined others))

    by : (16282 < length (joined records)) ⊎ (16282 < length line) → ⊥
    by (inl many) = omega (arith, many, small, size)
    by (inr wide) = omega (arith, wide, first p.others p.rest (omega (arith, small, size)))

pub long-reaches : (segment : ℕ) (sum text : List ℕ) → (d : HasNoMark segment sum text)
    → Reaches segment sum text d.commits ((joined d.records ++ d.line) ++ d.more)
long-reaches segment sum text d = record {
  begins = d.text_is ∙ append_assoc (journal_text segment sum d.commits) (joined d.records ++ d.line) d.more;
  commits_are = d.commits_are;
  no_next = λ next rest h e. no_long (sum_at sum d.commits) d.records d.line d.more next rest d.records_are d.one d.long h e;
}

-- ---- no first line

-- a text with a first line has it as its first line
first_line : (segment : ℕ) (sum line more rest : List ℕ) → IsTrue (is_line line) → IsTrue (is_line (header segment sum))
    → line ++ 10 ∷ more ≡ header_text segment sum ++ rest → line ≡ header segment sum
first_line segment sum line more rest one head e =
    let lines : line ∷ lines_of more ≡ header segment sum ∷ lines_of rest =
    sym (lines_of-line line more one) ∙ ap lines_of (e ∙ append_assoc (header segment sum) (10 ∷ []) rest) ∙ lines_of-line (header segment sum) rest head in
    cc

-- bytes without a line feed have no first line
pub no_feed_yet : (segment : ℕ) (sum text rest : List ℕ) → IsTrue (is_line text) → text ≢ header_text segment sum ++ rest
no_feed_yet segment sum text rest one e =
    no (header segment sum) rest (subst (λ v. IsTrue (is_line v)) (e ∙ append_assoc (header segment sum) (10 ∷ []) rest) one)
  where
    false_true : false ≡ true → ⊥
    false_true e = cc

    no : (xs ys : List ℕ) → IsTrue (is_line (xs ++ 10 ∷ ys)) → ⊥
    no [] ys h = false_true h
    no (x ∷ xs) ys h = no xs ys (and_right (not (x == 10)) (is_line (xs ++ 10 ∷ ys)) h)

pub header-is-none : (segment : ℕ) (sum text : List ℕ) → IsTrue (is_line (header segment sum)) → HasOtherHeader segment sum text
    → (rest : List ℕ) → text ≢ header_text segment sum ++ rest
header-is-none segment sum text head d rest e = d.other (first_line segment sum d.line d.more rest d.one head (sym d.text_is ∙ e))

-- a first line that is too long is another one
pub no-header-is-none : (segment : ℕ) (sum text : List ℕ) → HasShortHeader segment sum → HasNoHeader text
    → (rest : List ℕ) → text ≢ header_text segment sum ++ rest
no-header-is-none segment sum text (head, short) d rest e =
    let long = first_long d.more d.front (header segment sum) (lines_of rest) d.one
    (ap lines_of (sym d.text_is ∙ e ∙ append_assoc (header segment sum) (10 ∷ []) rest) ∙ lines_of-line (header segment sum) rest head) in
    omega (arith, long, d.long, short)

-- the first line of a segment is short if its number has 64 bits and its checksum is one
pub short-header : (segment : ℕ) (sum : List ℕ) → segment < 2 ^ 64 → IsTrue (is_line sum) → length sum ≤ 16 → HasShortHeader segment sum
unfolding numbered
short-header segment sum h s few =
    let digits : length (decimal segment) ≤ 20 = length-decimal-le 20 segment (omega arith) (omega (arith, h)) h in (
      header-line segment sum h s,
      omega (arith, few, digits, length-append (decimal segment) (32 ∷ sum), length-append (codes "judyd journal 1 ") (decimal segment ++ 32 ∷ sum)),
    )

-- the same commits are reached with what comes after them
pub reaches-with : (segment : ℕ) (sum text : List ℕ) (commits : List Commit) (t t' : List ℕ) → Reaches segment sum text commits t
    → text ≡ journal_text segment sum commits ++ t' → Reaches segment sum text commits t'
reaches-with segment sum text commits t t' f e = record {
  begins = e;
  commits_are = f.commits_are;
  no_next = subst (λ v. (next : Commit) (rest : List ℕ) → IsTrue (is_commit next) → v ≢ commit_text (sum_at sum commits) next ++ rest)
      (append_cancel_left (journal_text segment sum commits) t t' (sym f.begins ∙ e)) f.no_next;
}

-- ---- one reading

-- lines are read in one way
pub one_reach : (sum : List ℕ) (a b : List Commit) (o p : List Line) → AreCommits a → AreCommits b
    → NoNext (sum_at sum a) o → NoNext (sum_at sum b) p → commits_lines sum a ++ o ≡ commits_lines sum b ++ p → a ≡ b
one_reach sum [] [] o p ha hb ho hp e = refl
one_reach sum [] (c ∷ b) o p ha hb ho hp e =
    absurd (ho c (commits_lines (sum_after sum c) b ++ p) (and_left (is_commit c) (list_all is_commit b) hb)
    (e ∙ append_assoc c (mark sum c ∷ commits_lines (sum_after sum c) b) p))
one_reach sum (c ∷ a) [] o p ha hb ho hp e =
    absurd (hp c (commits_lines (sum_after sum c) a ++ o) (and_left (is_commit c) (list_all is_commit a) ha)
    (sym e ∙ append_assoc c (mark sum c ∷ commits_lines (sum_after sum c) a) o))
one_reach sum (c ∷ a) (d ∷ b) o p ha hb ho hp e =
    let s = first_mark c d (mark sum c) (mark sum d) (commits_lines (sum_after sum c) a ++ o) (commits_lines (sum_after sum d) b ++ p)
    (records_of c a ha) (records_of d b hb) (mark-marks sum c) (mark-marks sum d)
    (sym (append_assoc c (mark sum c ∷ commits_lines (sum_after sum c) a) o) ∙ e ∙ append_assoc d (mark sum d ∷ commits_lines (sum_after sum d) b) p) in
    let next : a ≡ b = one_reach (sum_after sum c) a b o p (later c a ha) (later d b hb) ho
    (subst (λ v. NoNext (sum_at (sum_after sum v) b) p) (sym s.records) hp)
    (s.rest ∙ ap (λ v. commits_lines (sum_after sum v) b ++ p) (sym s.records)) in
    ap (λ v. v ∷ a) s.records ∙ ap (λ v. d ∷ v) next

-- the lines behind the first one
pub reached_lines : (segment : ℕ) (sum text : List ℕ) (commits : List Commit) (tail : List ℕ) → AreCommits commits
    → lines_of (joined (commits_lines sum commits) ++ tail) ≡ commits_lines sum commits ++ lines_of tail
reached_lines segment sum text commits tail are = lines_of-joined (commits_lines sum commits) tail (commits_are_lines sum commits are)

pub reaches-once : (segment : ℕ) (sum text : List ℕ) (a b : List Commit) (x y : List ℕ) → Reaches segment sum text a x → Reaches segment sum text b y → a ≡ b
reaches-once segment sum text a b x y f g =
    let behind : joined (commits_lines sum a) ++ x ≡ joined (commits_lines sum b) ++ y =
    append_cancel_left (header_text segment sum) (joined (commits_lines sum a) ++ x) (joined (commits_lines sum b) ++ y)
    (sym (cut a x) ∙ sym f.begins ∙ g.begins ∙ cut b y) in
    one_reach sum a b (lines_of x) (lines_of y) f.commits_are g.commits_are (no_next_line segment sum text a x f) (no_next_line segment sum text b y g)
    (sym (reached_lines segment sum text a x f.commits_are) ∙ ap lines_of behind ∙ reached_lines segment sum text b y g.commits_are)
  where
    cut : (cs : List Commit) (t : List ℕ) → journal_text segment sum cs ++ t ≡ header_text segment sum ++ (joined (commits_lines sum cs) ++ t)
    cut cs t =
        append_assoc (header segment sum) (10 ∷ joined (commits_lines sum cs)) t
        ∙ sym (append_assoc (header segment sum) (10 ∷ []) (joined (commits_lines sum cs) ++ t))

-- commits that begin the lines of others begin them
pub first_commits : (sum : List ℕ) (a b : List Commit) (x : List Line) → AreCommits a → AreCommits b → commits_lines sum a ++ x ≡ commits_lines sum b
    → (others : List Commit) × (b ≡ a ++ others)
first_commits sum [] b x ha hb e = (b, refl)
first_commits sum (c ∷ a) [] x ha hb e = none_there [] c (mark sum c) (commits_lines (sum_after sum c) a ++ x) refl (mark-marks sum c)
    (sym e ∙ append_assoc c (mark sum c ∷ commits_lines (sum_after sum c) a) x)
first_commits sum (c ∷ a) (d ∷ b) x ha hb e =
    let s = first_mark c d (mark sum c) (mark sum d) (commits_lines (sum_after sum c) a ++ x) (commits_lines (sum_after sum d) b)
    (records_of c a ha) (records_of d b hb) (mark-marks sum c) (mark-marks sum d)
    (sym (append_assoc c (mark sum c ∷ commits_lines (sum_after sum c) a) x) ∙ e) in
    let (others, is) = first_commits (sum_after sum c) a b x (later c a ha) (later d b hb)
    (s.rest ∙ ap (λ v. commits_lines (sum_after sum v) b) (sym s.records)) in
    (others, ap (λ v. d ∷ v) is ∙ ap (λ v. v ∷ a ++ others) (sym s.records))

-- ---- something is reached

-- lines have no line feed
lines_onto : (t s : List ℕ) → IsTrue (list_all is_line (lines_of s)) → IsTrue (list_all is_line (lines_of (s ++ t)))
lines_onto [] s h = subst (λ v. IsTrue (list_all is_line (lines_of v))) (sym (append-nil s)) h
lines_onto (b ∷ t) s h =
    subst (λ v. IsTrue (list_all is_line (lines_of v))) (append_assoc s (b ∷ []) t) (lines_onto t (s ++ b ∷ []) (by (b == 10) refl))
  where
    by : (v : Bool) → (b == 10) ≡ v → IsTrue (list_all is_line (lines_of (s ++ b ∷ [])))
    by true is =
        let feed : b ≡ 10 = grind (arith, nat_tests, is) in
        let one : IsTrue (is_line (rest_of s ++ [])) = subst (λ v. IsTrue (is_line v)) (sym (append-nil (rest_of s))) (rest_of-IsOneLine s) in
        let cut : lines_of (s ++ b ∷ []) ≡ lines_of s ++ (rest_of s ++ []) ∷ [] = ap (λ c. lines_of (s ++ c ∷ [])) feed ∙ lines_of-push s [] refl in
        subst (λ v. IsTrue (list_all is_line v)) (sym cut)
        (lines-append (lines_of s) ((rest_of s ++ []) ∷ []) is_line h (both (is_line (rest_of s ++ [])) true one refl))
    by false is =
        let one : IsTrue (is_line (b ∷ [])) = rw is refl in
        subst (λ v. IsTrue (list_all is_line v)) (sym (lines_of-more_bytes s (b ∷ []) one)) h

pub are_lines : (t : List ℕ) → IsTrue (list_all is_line (lines_of t))
are_lines t = lines_onto t [] refl

-- whether a commit comes first in lines
look : (s : List ℕ) (front : Commit) (lines : List Line) → IsTrue (list_all is_record front) → IsTrue (list_all is_line lines)
    → HasNext s (front ++ lines) ⊎ NoNext s (front ++ lines)
look s front [] are have = inr (subst (NoNext s) (sym (append-nil front)) (no_next_record s front are))
look s front (m ∷ lines) are have =
    by (is_mark m) refl (λ one. look s (front ++ m ∷ []) lines (lines-append front (m ∷ []) is_record are (both (is_record m) true one refl))
    (and_right (is_line m) (list_all is_line lines) have))
  where
    Goal : Type 0
    Goal = HasNext s (front ++ m ∷ lines) ⊎ NoNext s (front ++ m ∷ lines)

    false_true : false ≡ true → ⊥
    false_true e = cc

    at_mark : is_mark m ≡ true → (same fits : Bool) → bytes_eq m (mark s front) ≡ same → is_commit front ≡ fits → Goal
    at_mark marks true true same fits = inl (front, lines, fits, ap (λ v. front ++ v ∷ lines) ((bytes_eq-Decides m (mark s front)).0 same))
    at_mark marks true false same fits = inr (λ next rest h e.
        let t = first_mark front next m (mark s next) lines rest are (and_left (list_all is_record next) _ h) marks (mark-marks s next) e in
        false_true (sym fits ∙ ap is_commit t.records ∙ h))
    at_mark marks false fit same fits = inr (λ next rest h e.
        let t = first_mark front next m (mark s next) lines rest are (and_left (list_all is_record next) _ h) marks (mark-marks s next) e in
        false_true (sym same ∙ (bytes_eq-Decides m (mark s front)).1 (t.mark_is ∙ ap (mark s) (sym t.records))))

    by : (v : Bool) → is_mark m ≡ v
        → (IsTrue (is_record m) → HasNext s ((front ++ m ∷ []) ++ lines) ⊎ NoNext s ((front ++ m ∷ []) ++ lines)) → Goal
    by true is more = at_mark is (bytes_eq m (mark s front)) (is_commit front) refl refl
    by false is more =
        subst (λ v. HasNext s v ⊎ NoNext s v) (append_assoc front (m ∷ []) lines)
        (more (rw is (both (is_line m) true (and_left (is_line m) (list_all is_line lines) have) refl)))

-- what these bytes reach behind a checksum
record Reach (sum t : List ℕ) : Type 0 where
  commits : List Commit
  tail : List ℕ
  are : AreCommits commits
  text : t ≡ joined (commits_lines sum commits) ++ tail
  no_next : (next : Commit) (rest : List ℕ) → IsTrue (is_commit next) → tail ≢ commit_text (sum_at sum commits) next ++ rest

-- one more commit before these bytes
one_more : (sum t : List ℕ) (next : Commit) (left : List ℕ) → IsTrue (is_commit next) → t ≡ commit_text sum next ++ left → Reach (sum_after sum next) left → Reach sum t
one_more sum t next left is cut k = record {
  commits = next ∷ k.commits;
  tail = k.tail;
  are = both (is_commit next) (list_all is_commit k.commits) is k.are;
  text = cut ∙ ap (λ v. commit_text sum next ++ v) k.text
      ∙ sym (append_assoc (commit_text sum next) (joined (commits_lines (sum_after sum next) k.commits)) k.tail)
      ∙ ap (λ v. v ++ k.tail) (sym (next_text sum next k.commits));
  no_next = k.no_next;
}

-- it takes at least a byte
shorter : (sum t : List ℕ) (next : Commit) (left : List ℕ) → t ≡ commit_text sum next ++ left → length left < length t
shorter sum t next left cut =
    let some : length (commit_text sum next) ≡ length (joined next) + length (joined (mark sum next ∷ [])) =
    ap length (joined-append next (mark sum next ∷ [])) ∙ length-append (joined next) (joined (mark sum next ∷ [])) in
    omega (arith, ap length cut, length-append (commit_text sum next) left, some, length-append (mark sum next) (10 ∷ []))

reach : (n : ℕ) (sum t : List ℕ) → length t < n → Reach sum t
reach zero sum t h = absurd (omega (arith, h))
reach (suc n) sum t h = by (λ s rest less. reach n s rest less) (look sum [] (lines_of t) refl (are_lines t))
  where
    by : ((s rest : List ℕ) → length rest < n → Reach s rest) → HasNext sum (lines_of t) ⊎ NoNext sum (lines_of t) → Reach sum t
    by again (inl (next, rest, is, e)) =
        let left : List ℕ = joined rest ++ rest_of t in
        let cut : t ≡ commit_text sum next ++ left = begins_with sum t next rest e in
        one_more sum t next left is cut (again (sum_after sum next) left (omega (arith, h, shorter sum t next left cut)))
    by again (inr none) = record {
      commits = [];
      tail = t;
      are = refl;
      text = refl;
      no_next = λ next rest is e. none next (lines_of rest) is (ap lines_of e ∙ next_lines sum next rest is);
    }

pub any-reaches : (segment : ℕ) (sum more : List ℕ)
    → (commits : List Commit) × (tail : List ℕ) × Reaches segment sum (header_text segment sum ++ more) commits tail
any-reaches segment sum more =
    let k = reach (suc (length more)) sum more (omega arith) in (
      k.commits,
      k.tail,
      record {
        begins = append_assoc (header segment sum) (10 ∷ []) more ∙ ap (λ v. header segment sum ++ 10 ∷ v) k.text
            ∙ sym (append_assoc (header segment sum) (10 ∷ joined (commits_lines sum k.commits)) k.tail);
        commits_are = k.are;
        no_next = k.no_next;
      },
    )

-- bytes begin with others, or not
front_or_not : (xs ys : List ℕ) → ((rest : List ℕ) × (ys ≡ xs ++ rest)) ⊎ ((rest : List ℕ) → ys ≡ xs ++ rest → ⊥)
front_or_not [] ys = inl (ys, refl)
front_or_not (x ∷ xs) [] = inr (λ rest e. Rattle.judy_journal.proofs.Lines.some_are_none x (xs ++ rest) (sym e))
front_or_not (x ∷ xs) (y ∷ ys) = by (y == x) refl (front_or_not xs ys)
  where
    by : (v : Bool) → (y == x) ≡ v → ((rest : List ℕ) × (ys ≡ xs ++ rest)) ⊎ ((rest : List ℕ) → ys ≡ xs ++ rest → ⊥)
        → ((rest : List ℕ) × (y ∷ ys ≡ x ∷ xs ++ rest)) ⊎ ((rest : List ℕ) → y ∷ ys ≡ x ∷ xs ++ rest → ⊥)
    by true is (inl (rest, e)) =
        let same : y ≡ x = grind (arith, nat_tests, is) in
        inl (rest, ap (λ v. v ∷ ys) same ∙ ap (λ v. x ∷ v) e)
    by true is (inr never) = inr (λ rest e. let tail : ys ≡ xs ++ rest = cc in never rest tail)
    by false is more = inr (λ rest e.
        let same : y ≡ x = cc in
        let not : ⊥ = grind (arith, nat_tests, is, same) in
        not)

pub any-is-found : (segment : ℕ) (sum text : List ℕ) → (commits : List Commit) × (tail : List ℕ) × FoundLast segment sum text commits tail
any-is-found segment sum text = by (front_or_not (header_text segment sum) text)
  where
    by : ((rest : List ℕ) × (text ≡ header_text segment sum ++ rest)) ⊎ ((rest : List ℕ) → text ≡ header_text segment sum ++ rest → ⊥)
        → (commits : List Commit) × (tail : List ℕ) × FoundLast segment sum text commits tail
    by (inl (rest, e)) =
        let (commits, tail, k) = any-reaches segment sum rest in
        (commits, tail, inl (subst (λ v. Reaches segment sum v commits tail) (sym e) k))
    by (inr never) = ([], text, inr (record { other = never; none = refl; tail_is = refl }))
