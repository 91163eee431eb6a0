-- The fronts of a journal's lines, and what is read of them.
use Rattle.std.proofs.Common.{◌≡◌, ℕ, true, false, not, List, [], ◌∷◌, ◌++◌, sym, ◌∙◌, ap, subst, refl, append_assoc}
use Rattle.std.specs.Prelude.{IsTrue}
use Rattle.std.specs.List.{list_all}
use Rattle.std.proofs.lemmas.Bool.{not-true}
use Rattle.judy_model.proofs.lemmas.TestLemmas.{and_left, and_right}
use Rattle.judy_journal.specs.Journals.{Commit, AreCommits, is_line, is_mark, is_record, is_commit, mark, commits_lines, sum_at, sum_after}
use Rattle.judy_journal.proofs.Lines.{both, lines-append, records-lines, few, mark-line}

abbrev pub Line : Type 0
Line = List ℕ

-- a record is no mark
pub no_mark : (line : Line) → IsTrue (is_record line) → is_mark line ≡ false
no_mark line h = not-true (is_mark line) (and_right (is_line line) (not (is_mark line)) h)

-- a line is not both
pub neither : {A : Type 0} (line : Line) → IsTrue (is_record line) → is_mark line ≡ true → A
neither line h k = let e : false ≡ true = sym (no_mark line h) ∙ k in cc

-- ---- up to the first mark, two lists of lines have the same records, the same mark and the same rest

pub record Same (a b : List Line) (m n : Line) (x y : List Line) : Type 0 where
  pub records : a ≡ b
  pub mark_is : m ≡ n
  pub rest : x ≡ y

pub first_mark : (a b : List Line) (m n : Line) (x y : List Line) → IsTrue (list_all is_record a) → IsTrue (list_all is_record b)
    → is_mark m ≡ true → is_mark n ≡ true → a ++ m ∷ x ≡ b ++ n ∷ y → Same a b m n x y
first_mark [] [] m n x y ha hb hm hn e = record { records = refl; mark_is = cc; rest = cc }
first_mark [] (l ∷ b) m n x y ha hb hm hn e =
    let same : m ≡ l = cc in
    neither l (and_left (is_record l) (list_all is_record b) hb) (subst (λ v. is_mark v ≡ true) same hm)
first_mark (l ∷ a) [] m n x y ha hb hm hn e =
    let same : n ≡ l = cc in
    neither l (and_left (is_record l) (list_all is_record a) ha) (subst (λ v. is_mark v ≡ true) same hn)
first_mark (l ∷ a) (k ∷ b) m n x y ha hb hm hn e =
    let head : l ≡ k = cc in
    let tail : a ++ m ∷ x ≡ b ++ n ∷ y = cc in
    let s = first_mark a b m n x y (and_right (is_record l) (list_all is_record a) ha) (and_right (is_record k) (list_all is_record b) hb) hm hn tail in
    record { records = ap (λ v. l ∷ v) s.records ∙ ap (λ v. v ∷ b) head; mark_is = s.mark_is; rest = s.rest }

-- records have no mark
pub none_there : {A : Type 0} (a b : List Line) (m : Line) (x : List Line) → IsTrue (list_all is_record a) → is_mark m ≡ true → a ≡ b ++ m ∷ x → A
none_there [] [] m x h k e = cc
none_there [] (l ∷ b) m x h k e = cc
none_there (l ∷ a) [] m x h k e =
    let same : m ≡ l = cc in
    neither l (and_left (is_record l) (list_all is_record a) h) (subst (λ v. is_mark v ≡ true) same k)
none_there (l ∷ a) (n ∷ b) m x h k e =
    let tail : a ≡ b ++ m ∷ x = cc in
    none_there a b m x (and_right (is_record l) (list_all is_record a) h) k tail

-- ---- commits

pub records_of : (c : Commit) (cs : List Commit) → AreCommits (c ∷ cs) → IsTrue (list_all is_record c)
records_of c cs h = and_left (list_all is_record c) _ (and_left (is_commit c) (list_all is_commit cs) h)

pub later : (c : Commit) (cs : List Commit) → AreCommits (c ∷ cs) → AreCommits cs
later c cs h = and_right (is_commit c) (list_all is_commit cs) h

-- the lines of commits have no line feed
pub commits_are_lines : (sum : List ℕ) (cs : List Commit) → AreCommits cs → IsTrue (list_all is_line (commits_lines sum cs))
commits_are_lines sum [] h = refl
commits_are_lines sum (c ∷ cs) h =
    lines-append c (mark sum c ∷ commits_lines (sum_after sum c) cs) is_line (records-lines c (records_of c cs h))
    (both (is_line (mark sum c)) (list_all is_line (commits_lines (sum_after sum c) cs))
    (mark-line sum c (few c (and_left (is_commit c) (list_all is_commit cs) h))) (commits_are_lines (sum_after sum c) cs (later c cs h)))

-- commits one after another
pub commits_lines-append : (sum : List ℕ) (a b : List Commit) → commits_lines sum (a ++ b) ≡ commits_lines sum a ++ commits_lines (sum_at sum a) b
commits_lines-append sum [] b = refl
commits_lines-append sum (c ∷ a) b =
    ap (λ v. c ++ mark sum c ∷ v) (commits_lines-append (sum_after sum c) a b)
    ∙ sym (append_assoc c (mark sum c ∷ commits_lines (sum_after sum c) a) (commits_lines (sum_at (sum_after sum c) a) b))

pub sum_at-append : (sum : List ℕ) (a b : List Commit) → sum_at sum (a ++ b) ≡ sum_at (sum_at sum a) b
sum_at-append sum [] b = refl
sum_at-append sum (c ∷ a) b = sum_at-append (sum_after sum c) a b

-- ---- a front of the lines of commits is some of them, and records

pub record Cut (sum : List ℕ) (cs : List Commit) (front : List Line) : Type 0 where
  pub taken : List Commit
  pub lost : List Commit
  pub records : List Line
  pub all : taken ++ lost ≡ cs
  pub front_is : front ≡ commits_lines sum taken ++ records
  pub records_are : IsTrue (list_all is_record records)

-- a front of a commit's records, or all of them and its mark
pub data Within (c : Commit) (m : Line) (rest front back : List Line) : Type 0 where
  Before : IsTrue (list_all is_record front) → Within c m rest front back
  Past : (x : List Line) → front ≡ c ++ m ∷ x → x ++ back ≡ rest → Within c m rest front back

pub within : (c : Commit) (m : Line) (rest front back : List Line) → IsTrue (list_all is_record c) → front ++ back ≡ c ++ m ∷ rest → Within c m rest front back
within c m rest [] back h e = Before refl
within [] m rest (l ∷ front) back h e = let same : l ≡ m = cc in Past front (ap (λ v. v ∷ front) same) cc
within (k ∷ c) m rest (l ∷ front) back h e =
    let same : l ≡ k = cc in
    let tail : front ++ back ≡ c ++ m ∷ rest = cc in
    by same (within c m rest front back (and_right (is_record k) (list_all is_record c) h) tail)
  where
    by : l ≡ k → Within c m rest front back → Within (k ∷ c) m rest (l ∷ front) back
    by same (Before all) = Before (both (is_record l) (list_all is_record front)
        (subst (λ v. IsTrue (is_record v)) (sym same) (and_left (is_record k) (list_all is_record c) h)) all)
    by same (Past x is more) = Past x (ap (λ v. l ∷ v) is ∙ ap (λ v. v ∷ c ++ m ∷ x) same) more

pub cut : (sum : List ℕ) (cs : List Commit) (front back : List Line) → AreCommits cs → front ++ back ≡ commits_lines sum cs → Cut sum cs front
cut sum [] [] back h e = record { taken = []; lost = []; records = []; all = refl; front_is = refl; records_are = refl }
cut sum [] (l ∷ front) back h e = absurd (Rattle.judy_journal.proofs.Lines.some_are_none l (front ++ back) e)
cut sum (c ∷ cs) front back h e =
    by (λ x more. cut (sum_after sum c) cs x back (later c cs h) more) (within c (mark sum c) (commits_lines (sum_after sum c) cs) front back (records_of c cs h) e)
  where
    by : ((x : List Line) → x ++ back ≡ commits_lines (sum_after sum c) cs → Cut (sum_after sum c) cs x)
        → Within c (mark sum c) (commits_lines (sum_after sum c) cs) front back → Cut sum (c ∷ cs) front
    by again (Before all) = record { taken = []; lost = c ∷ cs; records = front; all = refl; front_is = refl; records_are = all }
    by again (Past x is more) =
        let k = again x more in
        record {
          taken = c ∷ k.taken;
          lost = k.lost;
          records = k.records;
          all = ap (λ v. c ∷ v) k.all;
          front_is = is ∙ ap (λ v. c ++ mark sum c ∷ v) k.front_is
              ∙ sym (append_assoc c (mark sum c ∷ commits_lines (sum_after sum c) k.taken) k.records);
          records_are = k.records_are;
        }
