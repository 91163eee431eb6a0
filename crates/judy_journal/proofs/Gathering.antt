-- The files of a journal that is being recovered, one after another.
use Rattle.std.proofs.Common.{◌≡◌, ℕ, zero, suc, ◌<◌, ◌+◌, ◌^◌, Bool, true, false, List, [], ◌∷◌, ◌++◌, length, sym, ◌∙◌, ap, subst, refl, arith, append_assoc, append-nil, inl, inr}
use Rattle.std.specs.Prelude.{IsTrue, Ok, ◌==◌, if◌then◌else◌}
use Rattle.std.proofs.lemmas.List.{length-append}
use Rattle.judy_journal.specs.declared.reader.Read.TheVariants.{More, Whole}
use Rattle.judy_journal.specs.Acts.{Left}
use Rattle.judy_journal.specs.Crashes.{FoundAll}
use Rattle.judy_journal.specs.Journals.{Commit, commits_lines, header, is_line, joined, journal_text, sum_at}
use Rattle.judy_journal.specs.Readings.{HasRead, HasShortHeader, HasStopped, IsRead, Reading, front, tail_of}
use Rattle.judy_journal.specs.Recovered.{AreFound, EndsAt, HasHalted, HasRecovered, IsRecovered, RecoveryIsFound, Recovering, last_size, place_of, read_in}
use Rattle.judy_journal.specs.Recoveries.{Found, FoundLast}
use Rattle.judy_journal.specs.Writes.{header_text, size_with}
use Rattle.judy_journal.proofs.Fronts.{sum_at-append}
use Rattle.judy_journal.proofs.Reaching.{found-reaches, no_feed_yet}
use Rattle.judy_journal.proofs.Stepping.{reading_is_found}

-- ---- one more file

start : (k : ℕ) → k + 0 + 1 ≡ k + 1
start k = omega arith

-- the sum after two files' commits
after_both : (sum : List ℕ) (both a b : List Commit) → both ≡ a ++ b → sum_at sum both ≡ sum_at (sum_at sum a) b
after_both sum both a b e = ap (sum_at sum) e ∙ sum_at-append sum a b

pub found-append : (k : ℕ) (sum : List ℕ) (done : List Left) (l : Left) (before here : List Commit) → AreFound k sum done before
    → l.number ≡ k + length done + 1 → Found (k + length done + 1) (sum_at sum before) l.bytes here [] → AreFound k sum (done ++ l ∷ []) (before ++ here)
found-append k sum [] l before here none number found = (
  here,
  [],
  ap (λ v. v ++ here) none ∙ sym (append-nil here),
  number ∙ start k,
  subst (λ n. Found n sum l.bytes here []) (start k) (subst (λ v. Found (k + 0 + 1) (sum_at sum v) l.bytes here []) none found),
  refl,
)
found-append k sum (d ∷ done) l before here (first, later, joins, at, whole, rest) number found = (
  first,
  later ++ here,
  ap (λ v. v ++ here) joins ∙ append_assoc first later here,
  at,
  whole,
  found-append (k + 1) (sum_at sum first) done l later here rest (number ∙ omega arith)
      (subst (λ n. Found n (sum_at (sum_at sum first) later) l.bytes here []) (omega arith)
      (subst (λ v. Found (k + length (d ∷ done) + 1) v l.bytes here []) (after_both sum before first later joins) found)),
)

abbrev IsLast : ℕ → List ℕ → Left → List Commit → List ℕ → Type 0
IsLast number sum l here tail = (l.number ≡ number) × FoundLast number sum l.bytes here tail

all_found : (k : ℕ) (sum : List ℕ) (done : List Left) (l : Left) (before here : List Commit) (tail : List ℕ) → AreFound k sum done before
    → IsLast (k + length done + 1) (sum_at sum before) l here tail → FoundAll k sum (done ++ l ∷ []) (before ++ here) tail
all_found k sum [] l before here tail none last =
    subst (λ v. IsLast (k + 1) sum l (v ++ here) tail) (sym none)
    (subst (λ n. IsLast n sum l here tail) (start k) (subst (λ v. IsLast (k + 0 + 1) (sum_at sum v) l here tail) none last))
all_found k sum (d ∷ []) l before here tail (first, later, joins, at, whole, rest) last = (
  first,
  later ++ here,
  ap (λ v. v ++ here) joins ∙ append_assoc first later here,
  at,
  whole,
  all_found (k + 1) (sum_at sum first) [] l later here tail rest
      (subst (λ n. IsLast n (sum_at (sum_at sum first) later) l here tail) (omega arith)
      (subst (λ v. IsLast (k + length (d ∷ []) + 1) v l here tail) (after_both sum before first later joins) last)),
)
all_found k sum (d ∷ e ∷ done) l before here tail (first, later, joins, at, whole, rest) last = (
  first,
  later ++ here,
  ap (λ v. v ++ here) joins ∙ append_assoc first later here,
  at,
  whole,
  all_found (k + 1) (sum_at sum first) (e ∷ done) l later here tail rest
      (subst (λ n. IsLast n (sum_at (sum_at sum first) later) l here tail) (omega arith)
      (subst (λ v. IsLast (k + length (d ∷ e ∷ done) + 1) v l here tail) (after_both sum before first later joins) last)),
)

-- what was read is found, or is a front of the first line
last_is : (number : ℕ) (sum text : List ℕ) (here : List Commit) (r : Reading) → IsRead number sum text here r
    → FoundLast number sum text here (tail_of r)
last_is number sum text here r h = by r.begun refl
  where
    by : (b : Bool) → r.begun ≡ b → FoundLast number sum text here (tail_of r)
    by true has = inl (found-reaches number sum text here (tail_of r) (reading_is_found number sum text here r h has))
    by false not =
        let (none, no_records, unended) = h.none not in
        let all : text ≡ tail_of r = h.text_is ∙ ap (λ b. front b number sum here ++ tail_of r) not in
        let tail : tail_of r ≡ r.line = ap (λ b. if b then [] else joined r.records ++ r.line) unended ∙ ap (λ v. joined v ++ r.line) no_records in
        let one : IsTrue (is_line text) = subst (λ v. IsTrue (is_line v)) (sym (all ∙ tail)) h.line_is in
        inr (record { other = λ rest e. no_feed_yet number sum text rest one e; none = none; tail_is = sym all })

pub recovered_is_found : RecoveryIsFound
recovered_is_found k sum done text commits r h =
    subst (λ v. FoundAll k sum (done ++ record { number = k + length done + 1; bytes = text } ∷ []) v (tail_of r.reading)) (sym h.joins)
    (all_found k sum done (record { number = k + length done + 1; bytes = text }) h.before h.here (tail_of r.reading) h.found
    (refl, last_is (k + length done + 1) (sum_at sum h.before) text h.here r.reading h.read))

last_size-append : (done : List Left) (l : Left) → last_size (done ++ l ∷ []) ≡ length l.bytes
last_size-append [] l = refl
last_size-append (d ∷ []) l = refl
last_size-append (d ∷ e ∷ done) l = last_size-append (e ∷ done) l

-- the next file begins
pub next_begins : (k : ℕ) (sum : List ℕ) (done : List Left) (text : List ℕ) (commits : List Commit) (r : Recovering) (now : Reading)
    → (h : IsRecovered k sum done text commits r) → Found (k + length done + 1) (sum_at sum h.before) text h.here []
    → IsRead (k + length done + 1 + 1) (sum_at (sum_at sum h.before) h.here) [] [] now
    → IsRecovered k sum (done ++ record { number = k + length done + 1; bytes = text } ∷ []) [] commits (record { reading = now; taken = 0; ended = 0; before = r.taken })
next_begins k sum done text commits r now h whole read =
    let l : Left = record { number = k + length done + 1; bytes = text } in
    record {
      before = h.before ++ h.here;
      here = [];
      joins = h.joins ∙ sym (append-nil (h.before ++ h.here));
      found = found-append k sum done l h.before h.here h.found refl whole;
      read = subst (λ n. IsRead n (sum_at sum (h.before ++ h.here)) [] [] now) (omega (arith, length-append done (l ∷ [])))
          (subst (λ s. IsRead (k + length done + 1 + 1) s [] [] now) (sym (sum_at-append sum h.before h.here)) read);
      taken_is = refl;
      before_is = h.taken_is ∙ sym (last_size-append done l);
      ended_is = refl;
    }

-- ---- more of a file

pub read_more : (k : ℕ) (sum : List ℕ) (done : List Left) (text : List ℕ) (commits : List Commit) (bytes : List ℕ) (r : Recovering) (now : Reading) (all : ℕ)
    → (h : IsRecovered k sum done text commits r) → HasRead (Ok More) (k + length done + 1) (sum_at sum h.before) text h.here bytes now
    → all ≡ r.taken + length bytes → HasRecovered (Ok More) k sum done text commits bytes (record { reading = now; taken = all; ended = r.ended; before = r.before })
read_more k sum done text commits bytes r now all h (read, unended) more = (
  record {
    before = h.before;
    here = h.here;
    joins = h.joins;
    found = h.found;
    read = read;
    taken_is = omega (arith, more, h.taken_is, length-append text bytes);
    before_is = h.before_is;
    ended_is = h.ended_is;
  },
  unended,
)

ends_at : (number : ℕ) (sum : List ℕ) (commits : List Commit) (c : Commit) (ended : ℕ) → ended ≡ length (journal_text number sum (commits ++ c ∷ []))
    → EndsAt number sum (commits ++ c ∷ []) ended
ends_at number sum [] c ended e = e
ends_at number sum (d ∷ commits) c ended e = e

-- a text that ends with a commit
pub all_whole : (number : ℕ) (sum text : List ℕ) (here : List Commit) (r : Reading) → IsRead number sum text here r → r.whole ≡ true → text ≡ journal_text number sum here
all_whole number sum text here r h whole = by r.begun refl
  where
    none : tail_of r ≡ []
    none = ap (λ b. if b then [] else joined r.records ++ r.line) whole

    by : (b : Bool) → r.begun ≡ b → text ≡ journal_text number sum here
    by true has = h.text_is ∙ ap (λ b. front b number sum here ++ tail_of r) has ∙ ap (λ v. journal_text number sum here ++ v) none
        ∙ append-nil (journal_text number sum here)
    by false not = absurd (true_false (sym whole ∙ (h.none not).2))
      where
        true_false : true ≡ false → ⊥
        true_false e = cc

pub read_whole : (k : ℕ) (sum : List ℕ) (done : List Left) (text : List ℕ) (commits : List Commit) (bytes : List ℕ) (r : Recovering) (now : Reading) (left taken : ℕ)
    → (h : IsRecovered k sum done text commits r) → HasRead (Ok (Whole left)) (k + length done + 1) (sum_at sum h.before) text h.here bytes now
    → taken + left ≡ r.taken + length bytes
    → HasRecovered (Ok (Whole left)) k sum done text commits bytes (record { reading = now; taken = taken; ended = taken; before = r.before })
read_whole k sum done text commits bytes r now left taken h (used, rest, cut, len, read, whole) more =
    let number : ℕ = k + length done + 1 in
    let first : List ℕ = sum_at sum h.before in
    let size : taken ≡ length (text ++ used) =
    omega (arith, more, h.taken_is, len, ap length cut, length-append used rest, length-append text used) in
    let all = all_whole number first (text ++ used) (h.here ++ now.records ∷ []) now read whole in (
      used,
      rest,
      cut,
      len,
      record {
        before = h.before;
        here = h.here ++ now.records ∷ [];
        joins = ap (λ v. v ++ now.records ∷ []) h.joins ∙ append_assoc h.before h.here (now.records ∷ []);
        found = h.found;
        read = read;
        taken_is = size;
        before_is = h.before_is;
        ended_is = ends_at number first h.here now.records taken (size ∙ ap length all);
      },
      whole,
    )

-- ---- where the file is whole

size_of : (n x : ℕ) → 0 < n → (if n == 0 then x else n) ≡ n
size_of zero x h = absurd (omega (arith, h))
size_of (suc n) x h =
    let no : (suc n == 0) ≡ false = grind (arith, Rattle.std.proofs.lemmas.Bool.Decides.nat_tests) in
    ap (λ b. if b then x else suc n) no

-- up to the last whole commit, or the first line
pub whole_size : (number : ℕ) (first text : List ℕ) (here : List Commit) (r : Reading) (ended size : ℕ) → IsRead number first text here r → EndsAt number first here ended
    → size ≡ (if ended == 0 then length (header_text r.segment r.first) else ended) → size ≡ length (journal_text number first here)
whole_size number first text here r ended size h at is = by here at
  where
    title : header_text r.segment r.first ≡ header_text number first
    title = ap (λ n. header_text n r.first) h.segment_is ∙ ap (header_text number) h.first_is

    by : (cs : List Commit) → EndsAt number first cs ended → size ≡ length (journal_text number first cs)
    by [] zeroed = is ∙ ap (λ n. if n == 0 then length (header_text r.segment r.first) else n) zeroed ∙ ap length title
    by (c ∷ cs) ends =
        let some : 0 < ended = omega (arith, ends, length-append (header number first) (10 ∷ joined (commits_lines first (c ∷ cs)))) in
        is ∙ size_of ended (length (header_text r.segment r.first)) some ∙ ends

pub position_size : (k : ℕ) (sum : List ℕ) (done : List Left) (text : List ℕ) (commits : List Commit) (r : Recovering) (size : ℕ) → IsRecovered k sum done text commits r
    → r.reading.begun ≡ true → size ≡ (if r.ended == 0 then length (header_text r.reading.segment r.reading.first) else r.ended)
    → size + length (tail_of r.reading) ≡ length text
position_size k sum done text commits r size h has is =
    let number : ℕ = k + length done + 1 in
    let first : List ℕ = sum_at sum h.before in
    let all : text ≡ journal_text number first h.here ++ tail_of r.reading =
    h.read.text_is ∙ ap (λ b. front b number first h.here ++ tail_of r.reading) has in
    omega (arith, whole_size number first text h.here r.reading r.ended size h.read h.ended_is is, ap length all, length-append (journal_text number first h.here) (tail_of r.reading))

-- ---- the place of damage

-- how many bytes are read, if they fit a word
read_size : (number : ℕ) (first text : List ℕ) (here : List Commit) (r : Reading) (ended : ℕ) → IsRead number first text here r → EndsAt number first here ended
    → length text < 2 ^ 64 → (b : Bool) → r.begun ≡ b
    → (if b then size_with (if ended == 0 then length (header_text r.segment r.first) else ended) (length (tail_of r)) else length (tail_of r)) ≡ length text
read_size number first text here r ended h at fits true has =
    let all : text ≡ journal_text number first here ++ tail_of r = h.text_is ∙ ap (λ b. front b number first here ++ tail_of r) has in
    let size = if ended == 0 then length (header_text r.segment r.first) else ended in
    omega (arith, fits, whole_size number first text here r ended size h at refl, ap length all, length-append (journal_text number first here) (tail_of r))
read_size number first text here r ended h at fits false not =
    ap length (sym (h.text_is ∙ ap (λ b. front b number first here ++ tail_of r) not))

pub halts : (k : ℕ) (sum : List ℕ) (done : List Left) (text : List ℕ) (commits : List Commit) (bytes : List ℕ) (r : Recovering) (now : Reading) (taken : ℕ)
    → (h : IsRecovered k sum done text commits r) → HasStopped bytes (k + length done + 1) (sum_at sum h.before) text h.here now
    → r.taken + length bytes < 2 ^ 64 → taken ≡ read_in (record { reading = now; taken = r.taken; ended = r.ended; before = r.before })
    → HasHalted k sum done text commits bytes (record { reading = now; taken = taken; ended = r.ended; before = r.before })
halts k sum done text commits bytes r now taken h (used, rest, cut, read, alone) fits is =
    let few : length (text ++ used) < 2 ^ 64 = omega (arith, fits, h.taken_is, ap length cut, length-append used rest, length-append text used) in (
      used,
      rest,
      cut,
      record {
        before = h.before;
        here = h.here;
        joins = h.joins;
        found = h.found;
        read = read;
        taken_is = is ∙ read_size (k + length done + 1) (sum_at sum h.before) (text ++ used) h.here now r.ended read h.ended_is few now.begun refl;
        before_is = h.before_is;
        ended_is = h.ended_is;
      },
      λ short small more.
          let l : Left = record { number = k + length done + 1; bytes = text ++ (bytes ++ more) } in
          let here : HasShortHeader (k + length done + 1) (sum_at sum h.before) =
          subst (HasShortHeader (k + length done + 1)) read.first_is (subst (λ n. HasShortHeader n now.first) read.segment_is short) in
          subst (λ v. FoundAll k sum (done ++ l ∷ []) v (tail_of now ++ (rest ++ more))) (sym h.joins)
          (all_found k sum done l h.before h.here (tail_of now ++ (rest ++ more)) h.found (refl, alone here more)),
    )

pub bare_place : (number : ℕ) (sum text : List ℕ) (commits : List Commit) (r : Reading) → IsRead number sum text commits r → r.begun ≡ false
    → 0 ≡ place_of number sum commits r
bare_place number sum text commits r h bare =
    let (none, no_records, unended) = h.none bare in
    let zeroed : 0 ≡ size_with 0 0 = omega arith in
    zeroed ∙ ap (λ b. size_with (length (front b number sum commits)) 0) (sym bare)
    ∙ ap (λ v. size_with (length (front r.begun number sum commits)) (length (joined v))) (sym no_records)
    ∙ ap (λ b. size_with (length (front r.begun number sum commits)) (if b then 0 else length (joined r.records))) (sym unended)

pub headed_place : (number : ℕ) (sum text : List ℕ) (commits : List Commit) (r : Reading) (ended size shut result : ℕ) → IsRead number sum text commits r
    → EndsAt number sum commits ended → r.begun ≡ true → size ≡ (if ended == 0 then length (header_text r.segment r.first) else ended)
    → shut ≡ (if r.whole then 0 else length (joined r.records)) → result ≡ size_with size shut → result ≡ place_of number sum commits r
headed_place number sum text commits r ended size shut result h at has is opens e =
    e ∙ ap (λ n. size_with n shut) (whole_size number sum text commits r ended size h at is)
    ∙ ap (λ b. size_with (length (front b number sum commits)) shut) (sym has)
    ∙ ap (size_with (length (front r.begun number sum commits))) opens
