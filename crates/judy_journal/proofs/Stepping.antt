-- One more line of a journal that is being read.
use Rattle.std.proofs.Common.{◌≡◌, ◌≢◌, ℕ, ◌<◌, ◌+◌, Bool, true, false, List, [], ◌∷◌, ◌++◌, length, sym, ◌∙◌, ap, subst, refl, arith, append_assoc, append-nil, inl, inr}
use Rattle.std.specs.Prelude.{IsTrue, codes, if◌then◌else◌}
use Rattle.std.specs.List.{list_all}
use Rattle.std.proofs.lemmas.List.{length-append}
use Rattle.std.proofs.lemmas.List.Folds.{list_all-append}
use Rattle.judy_model.specs.Stream.{lines_of, rest_of}
use Rattle.judy_journal.specs.Journals.{Commit, joined, is_commit, is_line, is_mark, is_record, numbered, sum_of, sum_after, sum_at, mark, header, journal_text}
use Rattle.std.specs.Prelude.{OnErr, Result, Ok, Err}
use Rattle.judy_journal.specs.declared.damage.Damage.{Damage}
use Rattle.judy_journal.specs.declared.damage.Damage.TheVariants as damage
use Rattle.judy_journal.specs.Readings.{ReadingIsFound, HasEnded, HasTaken, Reading, IsRead, forgotten, front, tail_of}
use Rattle.judy_journal.specs.Recoveries.{HasOtherHeader, HasOtherMark, HasNoHeader, HasNoMark, IsDamaged}
use Rattle.judy_journal.proofs.Lines.{both, line-append, lines-append, joined-append, lines_of-joined, records-lines}
use Rattle.judy_model.proofs.lemmas.LineLemmas.{lines_of-bytes}
use Rattle.judy_journal.proofs.Fronts.{sum_at-append}
use Rattle.judy_journal.proofs.Pushing.{whole}
use Rattle.judy_journal.proofs.Recovering.{text-append}

pub sum_is : (sum t body s : List ℕ) → rest_of t ≡ [] → body ≡ t → s ≡ sum_of sum body → s ≡ sum_after sum (lines_of t)
sum_is sum t body s none be se = se ∙ ap (sum_of sum) (be ∙ sym (whole t none))

pub mark_is : (sum t body s : List ℕ) (count : ℕ) → rest_of t ≡ [] → count ≡ length (lines_of t) → body ≡ t → s ≡ sum_of sum body
    → numbered (codes "# ") count s ≡ mark sum (lines_of t)
mark_is sum t body s count none is be se =
    ap (λ v. numbered (codes "# ") count v) (sum_is sum t body s none be se)
    ∙ ap (λ n. numbered (codes "# ") n (sum_after sum (lines_of t))) is

-- a line behind records
pub one_line : (front : List ℕ) (records : Commit) (line more : List ℕ)
    → (front ++ (joined records ++ line)) ++ 10 ∷ more ≡ front ++ joined (records ++ line ∷ []) ++ more
one_line front records line more =
    let all : joined (records ++ line ∷ []) ≡ (joined records ++ line) ++ 10 ∷ [] =
    joined-append records (line ∷ []) ∙ sym (append_assoc (joined records) line (10 ∷ [])) in
    append_assoc front (joined records ++ line) (10 ∷ more)
    ∙ ap (λ v. front ++ v) (sym (append_assoc (joined records ++ line) (10 ∷ []) more))
    ∙ sym (append_assoc front ((joined records ++ line) ++ 10 ∷ []) more)
    ∙ ap (λ v. front ++ v ++ more) (sym all)

module _ (segment : ℕ) (first text : List ℕ) (commits : List Commit) (r : Reading) (h : IsRead segment first text commits r) (unended : r.whole ≡ false) where
  tail_is : tail_of r ≡ joined r.records ++ r.line
  tail_is = ap (λ b. if b then [] else joined r.records ++ r.line) unended

  -- before the header there is one line alone
  alone : r.begun ≡ false → text ≡ r.line
  alone not = h.text_is ∙ ap (λ b. front b segment first commits ++ tail_of r) not ∙ tail_is ∙ ap (λ rs. joined rs ++ r.line) (h.none not).1

  -- after it, the commits, records and a line
  pub after : r.begun ≡ true → text ≡ journal_text segment first commits ++ (joined r.records ++ r.line)
  after has = h.text_is ∙ ap (λ b. front b segment first commits ++ tail_of r) has ∙ ap (λ v. journal_text segment first commits ++ v) tail_is

  pub began : (r' : Reading) → r.begun ≡ false → r.line ≡ header r.segment r.first → r' ≡ record r { begun = true; line = [] }
      → IsRead segment first (text ++ 10 ∷ []) commits r' × (r'.whole ≡ false)
  began r' not is e =
      let none = h.none not in
      let now : Reading = record r { begun = true; line = [] } in
      let tail : tail_of now ≡ [] = ap (λ b. if b then [] else joined r.records ++ []) unended ∙ ap (λ rs. joined rs ++ []) none.1 in
      let line : text ≡ header segment first = alone not ∙ is ∙ ap (λ n. header n r.first) h.segment_is ∙ ap (header segment) h.first_is in
      let all : text ++ 10 ∷ [] ≡ journal_text segment first commits ++ tail_of now =
      ap (λ v. v ++ 10 ∷ []) line ∙ sym (append-nil (header segment first ++ 10 ∷ []))
      ∙ ap (λ v. journal_text segment first [] ++ v) (sym tail) ∙ ap (λ cs. journal_text segment first cs ++ tail_of now) (sym none.0) in
      subst (λ v. IsRead segment first (text ++ 10 ∷ []) commits v × (v.whole ≡ false)) (sym e) (
        record {
          segment_is = h.segment_is;
          first_is = h.first_is;
          text_is = all;
          sum_is = h.sum_is;
          commits_are = h.commits_are;
          records_are = h.records_are;
          line_is = refl;
          none = λ no_more. absurd (true_false no_more);
          done = λ w. refl;
        },
        unended,
      )
    where
      true_false : true ≡ false → ⊥
      true_false e = cc

  pub closed : (r' : Reading) → r.begun ≡ true → IsTrue (is_commit r.records) → r.line ≡ mark r.sum r.records
      → r' ≡ record r { sum = sum_after r.sum r.records; whole = true; line = [] }
      → IsRead segment first (text ++ 10 ∷ []) (commits ++ r.records ∷ []) r' × (r'.whole ≡ true) × (r'.records ≡ r.records)
  closed r' has commit is e =
      let line : r.line ≡ mark (sum_at first commits) r.records = is ∙ ap (λ s. mark s r.records) h.sum_is in
      let all : text ++ 10 ∷ [] ≡ journal_text segment first (commits ++ r.records ∷ []) ++ [] =
      ap (λ v. v ++ 10 ∷ []) (after has) ∙ one_line (journal_text segment first commits) r.records r.line []
      ∙ ap (λ l. journal_text segment first commits ++ joined (r.records ++ l ∷ []) ++ []) line
      ∙ ap (λ v. v ++ []) (sym (text-append segment first commits (r.records ∷ []))) in
      subst (λ v. IsRead segment first (text ++ 10 ∷ []) (commits ++ r.records ∷ []) v × (v.whole ≡ true) × (v.records ≡ r.records)) (sym e) (
        record {
          segment_is = h.segment_is;
          first_is = h.first_is;
          text_is = all ∙ ap (λ b. front b segment first (commits ++ r.records ∷ []) ++ []) (sym has);
          sum_is = ap (λ s. sum_after s r.records) h.sum_is ∙ sym (sum_at-append first commits (r.records ∷ []));
          commits_are = subst IsTrue (sym (list_all-append is_commit commits (r.records ∷ [])))
              (both (list_all is_commit commits) (list_all is_commit (r.records ∷ [])) h.commits_are (both (is_commit r.records) true commit refl));
          records_are = h.records_are;
          line_is = refl;
          none = λ not. absurd (true_false (sym has ∙ not));
          done = λ w. refl;
        },
        refl,
        refl,
      )
    where
      true_false : true ≡ false → ⊥
      true_false e = cc

  pub kept : (r' : Reading) → r.begun ≡ true → IsTrue (is_record r.line) → r' ≡ record r { records = r.records ++ r.line ∷ []; line = [] }
      → IsRead segment first (text ++ 10 ∷ []) commits r' × (r'.whole ≡ false)
  kept r' has is e =
      let now : Reading = record r { records = r.records ++ r.line ∷ []; line = [] } in
      let tail : tail_of now ≡ joined (r.records ++ r.line ∷ []) ++ [] = ap (λ b. if b then [] else joined (r.records ++ r.line ∷ []) ++ []) unended in
      let all : text ++ 10 ∷ [] ≡ journal_text segment first commits ++ tail_of now =
      ap (λ v. v ++ 10 ∷ []) (after has) ∙ one_line (journal_text segment first commits) r.records r.line []
      ∙ append_assoc (journal_text segment first commits) (joined (r.records ++ r.line ∷ [])) []
      ∙ ap (λ v. journal_text segment first commits ++ v) (sym tail) in
      subst (λ v. IsRead segment first (text ++ 10 ∷ []) commits v × (v.whole ≡ false)) (sym e) (
        record {
          segment_is = h.segment_is;
          first_is = h.first_is;
          text_is = all ∙ ap (λ b. front b segment first commits ++ tail_of now) (sym has);
          sum_is = h.sum_is;
          commits_are = h.commits_are;
          records_are = lines-append r.records (r.line ∷ []) is_record h.records_are (both (is_record r.line) true is refl);
          line_is = refl;
          none = λ not. absurd (true_false (sym has ∙ not));
          done = λ w. refl;
        },
        unended,
      )
    where
      true_false : true ≡ false → ⊥
      true_false e = cc

  pub other_header : r.begun ≡ false → r.line ≢ header r.segment r.first → (more : List ℕ) → HasOtherHeader segment first (text ++ 10 ∷ more)
  other_header not other more = record {
    line = r.line;
    more = more;
    text_is = ap (λ v. v ++ 10 ∷ more) (alone not);
    one = h.line_is;
    other = λ e. other (e ∙ ap (λ n. header n first) (sym h.segment_is) ∙ ap (header r.segment) (sym h.first_is));
  }

  unfoldable pub other_mark : r.begun ≡ true → is_mark r.line ≡ true → r.line ≢ mark r.sum r.records → (more : List ℕ) → HasOtherMark segment first (text ++ 10 ∷ more)
  other_mark has marks other more = record {
    commits = commits;
    commits_are = h.commits_are;
    records = r.records;
    records_are = h.records_are;
    line = r.line;
    more = more;
    text_is = ap (λ v. v ++ 10 ∷ more) (after has) ∙ one_line (journal_text segment first commits) r.records r.line more;
    one = h.line_is;
    marks = marks;
    other = λ e. other (e ∙ ap (λ s. mark s r.records) (sym h.sum_is));
  }

  unfoldable pub no_room : r.begun ≡ true → IsTrue (is_record r.line) → 16282 < length (joined r.records) + length r.line + 1 → (more : List ℕ)
      → HasNoMark segment first (text ++ 10 ∷ more)
  no_room has is long more = record {
    commits = commits;
    commits_are = h.commits_are;
    records = r.records ++ r.line ∷ [];
    records_are = lines-append r.records (r.line ∷ []) is_record h.records_are (both (is_record r.line) true is refl);
    line = [];
    more = more;
    text_is = ap (λ v. v ++ 10 ∷ more) (after has) ∙ one_line (journal_text segment first commits) r.records r.line more
        ∙ ap (λ v. journal_text segment first commits ++ v ++ more) (sym (append-nil (joined (r.records ++ r.line ∷ []))));
    one = refl;
    long = inl (omega (arith, long, ap length (joined-append r.records (r.line ∷ [])), length-append (joined r.records) (r.line ++ 10 ∷ []), length-append r.line (10 ∷ [])));
  }

pub record_if : (line : List ℕ) → IsTrue (is_line line) → is_mark line ≡ false → IsTrue (is_record line)
record_if line h k = rw k (both (is_line line) true h refl)

-- a commit that was whole is forgotten
pub forgot : (segment : ℕ) (first text : List ℕ) (commits : List Commit) (r : Reading) → IsRead segment first text commits r
    → IsRead segment first text commits (forgotten r) × ((forgotten r).whole ≡ false)
forgot segment first text commits r h = by r.whole refl
  where
    by : (b : Bool) → r.whole ≡ b → IsRead segment first text commits (forgotten r) × ((forgotten r).whole ≡ false)
    by true is =
        let line : r.line ≡ [] = h.done is in
        let records : (forgotten r).records ≡ [] = ap (λ b. if b then [] else r.records) is in
        let old : tail_of r ≡ [] = ap (λ b. if b then [] else joined r.records ++ r.line) is in
        let tail : tail_of (forgotten r) ≡ [] = ap (λ rs. joined rs ++ r.line) records ∙ line in (
          record {
            segment_is = h.segment_is;
            first_is = h.first_is;
            text_is = h.text_is ∙ ap (λ v. front r.begun segment first commits ++ v) (old ∙ sym tail);
            sum_is = h.sum_is;
            commits_are = h.commits_are;
            records_are = subst (λ rs. IsTrue (list_all is_record rs)) (sym records) refl;
            line_is = h.line_is;
            none = λ not. ((h.none not).0, records, refl);
            done = λ w. line;
          },
          refl,
        )
    by false is =
        let records : (forgotten r).records ≡ r.records = ap (λ b. if b then [] else r.records) is in
        let old : tail_of r ≡ joined r.records ++ r.line = ap (λ b. if b then [] else joined r.records ++ r.line) is in
        let tail : tail_of (forgotten r) ≡ joined r.records ++ r.line = ap (λ rs. joined rs ++ r.line) records in (
          record {
            segment_is = h.segment_is;
            first_is = h.first_is;
            text_is = h.text_is ∙ ap (λ v. front r.begun segment first commits ++ v) (old ∙ sym tail);
            sum_is = h.sum_is;
            commits_are = h.commits_are;
            records_are = subst (λ rs. IsTrue (list_all is_record rs)) (sym records) h.records_are;
            line_is = h.line_is;
            none = λ not. ((h.none not).0, records ∙ (h.none not).1, refl);
            done = λ w. absurd (false_true w);
          },
          refl,
        )
      where
        false_true : false ≡ true → ⊥
        false_true e = cc

module _ (segment : ℕ) (first text : List ℕ) (commits : List Commit) (r : Reading) (h : IsRead segment first text commits r) (unended : r.whole ≡ false)
    (chunk : List ℕ) (one : IsTrue (is_line chunk)) where
  tail_more : tail_of (record r { line = r.line ++ chunk }) ≡ tail_of r ++ chunk
  tail_more = ap (λ b. if b then [] else joined r.records ++ (r.line ++ chunk)) unended ∙ sym (append_assoc (joined r.records) r.line chunk)
      ∙ ap (λ b. (if b then [] else joined r.records ++ r.line) ++ chunk) (sym unended)

  -- more of a line
  pub held : (r' : Reading) → r' ≡ record r { line = r.line ++ chunk } → IsRead segment first (text ++ chunk) commits r' × (r'.whole ≡ false)
  held r' e = subst (λ v. IsRead segment first (text ++ chunk) commits v × (v.whole ≡ false)) (sym e) (
    record {
      segment_is = h.segment_is;
      first_is = h.first_is;
      text_is = ap (λ v. v ++ chunk) h.text_is ∙ append_assoc (front r.begun segment first commits) (tail_of r) chunk
          ∙ ap (λ v. front r.begun segment first commits ++ v) (sym tail_more);
      sum_is = h.sum_is;
      commits_are = h.commits_are;
      records_are = h.records_are;
      line_is = line-append r.line chunk h.line_is one;
      none = h.none;
      done = λ w. absurd (false_true (sym unended ∙ w));
    },
    unended,
  )
    where
      false_true : false ≡ true → ⊥
      false_true e = cc

  -- a line that is too long
  unfoldable pub long_line : r.begun ≡ true → 16282 < length r.line + length chunk → (more : List ℕ) → HasNoMark segment first (text ++ (chunk ++ more))
  long_line has long more = record {
    commits = commits;
    commits_are = h.commits_are;
    records = r.records;
    records_are = h.records_are;
    line = r.line ++ chunk;
    more = more;
    text_is = sym (append_assoc text chunk more) ∙ ap (λ v. v ++ chunk ++ more) (after segment first text commits r h unended has)
        ∙ ap (λ v. v ++ more) (append_assoc (journal_text segment first commits) (joined r.records ++ r.line) chunk
        ∙ ap (λ v. journal_text segment first commits ++ v) (append_assoc (joined r.records) r.line chunk));
    one = line-append r.line chunk h.line_is one;
    long = inr (omega (arith, long, length-append r.line chunk));
  }

  pub long_header : r.begun ≡ false → 16282 < length r.line + length chunk → (more : List ℕ) → HasNoHeader (text ++ (chunk ++ more))
  long_header not long more = record {
    front = r.line ++ chunk;
    more = more;
    text_is = sym (append_assoc text chunk more) ∙ ap (λ v. v ++ chunk ++ more) (alone segment first text commits r h unended not);
    one = line-append r.line chunk h.line_is one;
    long = omega (arith, long, length-append r.line chunk);
  }

  pub long_damage : 16282 < length r.line + length chunk → (more : List ℕ)
      → IsDamaged (if r.begun then damage.Long else damage.NoHeader) segment first (text ++ (chunk ++ more))
  long_damage long more = by r.begun refl
    where
      by : (b : Bool) → r.begun ≡ b → IsDamaged (if r.begun then damage.Long else damage.NoHeader) segment first (text ++ (chunk ++ more))
      by true has = subst (λ b. IsDamaged (if b then damage.Long else damage.NoHeader) segment first (text ++ (chunk ++ more))) (sym has) (long_line has long more)
      by false not = subst (λ b. IsDamaged (if b then damage.Long else damage.NoHeader) segment first (text ++ (chunk ++ more))) (sym not) (long_header not long more)

-- a line, by the rest of it
pub taken : (segment : ℕ) (first text : List ℕ) (commits : List Commit) (chunk : List ℕ) (records : Commit) (r : Reading) (result : Result Bool Damage)
    → HasEnded result segment first (text ++ chunk) commits records r → HasTaken result segment first text commits chunk r
taken segment first text commits chunk records r (Ok false) h =
    subst (λ v. IsRead segment first v commits r × (r.whole ≡ false)) (append_assoc text chunk (10 ∷ [])) h
taken segment first text commits chunk records r (Ok true) h =
    subst (λ v. IsRead segment first v (commits ++ r.records ∷ []) r × (r.whole ≡ true)) (append_assoc text chunk (10 ∷ []))
    (subst (λ rs. IsRead segment first ((text ++ chunk) ++ 10 ∷ []) (commits ++ rs ∷ []) r × (r.whole ≡ true)) (sym h.2) (h.0, h.1))
taken segment first text commits chunk records r (Err d) h =
    λ more. subst (IsDamaged d segment first) (append_assoc text chunk (10 ∷ more)) (h more)

-- one more line was read
pub cut_more : (used chunk after rest bytes : List ℕ) → used ++ rest ≡ bytes → rest ≡ chunk ++ 10 ∷ after → (used ++ (chunk ++ 10 ∷ [])) ++ after ≡ bytes
cut_more used chunk after rest bytes h e =
    append_assoc used (chunk ++ 10 ∷ []) after ∙ ap (λ v. used ++ v) (append_assoc chunk (10 ∷ []) after ∙ sym e) ∙ h

-- what was read with it
pub read_more : (segment : ℕ) (first text used line : List ℕ) (commits : List Commit) (r : Reading) (b : Bool) → IsRead segment first ((text ++ used) ++ line) commits r × (r.whole ≡ b)
    → IsRead segment first (text ++ (used ++ line)) commits r × (r.whole ≡ b)
read_more segment first text used line commits r b h = subst (λ v. IsRead segment first v commits r × (r.whole ≡ b)) (append_assoc text used line) h

-- what was read is found
pub reading_is_found : ReadingIsFound
reading_is_found segment first text commits r h has = record {
  text_is = h.text_is ∙ ap (λ b. front b segment first commits ++ tail_of r) has;
  commits_are = h.commits_are;
  unended = by r.whole refl;
}
  where
    by : (b : Bool) → r.whole ≡ b → IsTrue (list_all is_record (lines_of (tail_of r)))
    by true is =
        let none : tail_of r ≡ [] = ap (λ b. if b then [] else joined r.records ++ r.line) is in
        subst (λ t. IsTrue (list_all is_record (lines_of t))) (sym none) refl
    by false is =
        let tail : tail_of r ≡ joined r.records ++ r.line = ap (λ b. if b then [] else joined r.records ++ r.line) is in
        let lines : lines_of (tail_of r) ≡ r.records = ap lines_of tail ∙ lines_of-joined r.records r.line (records-lines r.records h.records_are)
        ∙ ap (λ v. r.records ++ v) (lines_of-bytes r.line h.line_is) ∙ append-nil r.records in
        subst (λ ls. IsTrue (list_all is_record ls)) (sym lines) h.records_are

-- what holds after an error, both of it, and so something else
pub on_both : {T E O P Q : Type 0} (r : Result T E) → (O → P → Q) → OnErr r O → OnErr r P → OnErr r Q
on_both (Ok x) f h k = h
on_both (Err e) f h k = f h k
