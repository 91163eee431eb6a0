-- A crash leaves no damage of a header or of a mark.
use Rattle.std.proofs.Common.{◌≡◌, ℕ, true, List, [], ◌∷◌, ◌++◌, sym, ◌∙◌, ap, refl, append_assoc, append-nil}
use Rattle.std.specs.Prelude.{IsTrue}
use Rattle.std.specs.List.{list_all}
use Rattle.judy_model.specs.Stream.{lines_of, rest_of}
use Rattle.judy_model.proofs.lemmas.LineLemmas.{lines_of-append, lines_of-line}
use Rattle.judy_journal.specs.Journals.{Commit, AreCommits, joined, is_line, is_mark, is_record, mark, header, commits_lines, journal_text, sum_at, sum_after}
use Rattle.judy_journal.specs.Recoveries.{HasOtherHeader, HasOtherMark, CrashesKeepMarks}
use Rattle.judy_journal.proofs.Lines.{both, lines-append, lines_of-joined, mark-marks, records-lines}
use Rattle.judy_journal.proofs.Fronts.{Line, first_mark, later, none_there, records_of}
use Rattle.judy_journal.proofs.Recovering.{text_lines}

-- the next mark after some commits is the one of the records before it
right_mark : (sum : List ℕ) (ds cs : List Commit) (records : Commit) (line : Line) (x : List Line) → AreCommits ds → AreCommits cs
    → IsTrue (list_all is_record records) → is_mark line ≡ true
    → commits_lines sum ds ++ (records ++ line ∷ x) ≡ commits_lines sum cs → line ≡ mark (sum_at sum ds) records
right_mark sum [] [] records line x hd hc hr k e = none_there [] records line x refl k (sym e)
right_mark sum [] (c ∷ cs) records line x hd hc hr k e =
    let s = first_mark records c line (mark sum c) x (commits_lines (sum_after sum c) cs) hr (records_of c cs hc) k (mark-marks sum c) e in
    s.mark_is ∙ ap (mark sum) (sym s.records)
right_mark sum (d ∷ ds) [] records line x hd hc hr k e =
    none_there [] d (mark sum d) (commits_lines (sum_after sum d) ds ++ (records ++ line ∷ x)) refl (mark-marks sum d)
    (sym e ∙ append_assoc d (mark sum d ∷ commits_lines (sum_after sum d) ds) (records ++ line ∷ x))
right_mark sum (d ∷ ds) (c ∷ cs) records line x hd hc hr k e =
    let s = first_mark d c (mark sum d) (mark sum c) (commits_lines (sum_after sum d) ds ++ (records ++ line ∷ x)) (commits_lines (sum_after sum c) cs)
    (records_of d ds hd) (records_of c cs hc) (mark-marks sum d) (mark-marks sum c)
    (sym (append_assoc d (mark sum d ∷ commits_lines (sum_after sum d) ds) (records ++ line ∷ x)) ∙ e) in
    right_mark (sum_after sum d) ds cs records line x (later d ds hd) (later c cs hc) hr k
    (s.rest ∙ ap (λ v. commits_lines (sum_after sum v) cs) (sym s.records))

tail : {A : Type 0} (x y : A) (xs ys : List A) → x ∷ xs ≡ y ∷ ys → xs ≡ ys
tail x y xs ys e = cc

head : {A : Type 0} (x y : A) (xs ys : List A) → x ∷ xs ≡ y ∷ ys → x ≡ y
head x y xs ys e = cc

-- the lines that a crash lost, or cut
abbrev back : List ℕ → List ℕ → List Line
back file lost = lines_of (rest_of file ++ lost)

pub crashes_keep_marks : CrashesKeepMarks
crashes_keep_marks segment sum cs file lost h s are whole = (no_header, no_mark)
  where
    all : lines_of file ++ back file lost ≡ header segment sum ∷ commits_lines sum cs
    all = sym (lines_of-append file lost) ∙ ap lines_of (whole ∙ sym (append-nil (journal_text segment sum cs)))
        ∙ text_lines segment sum cs [] h s are ∙ ap (λ v. header segment sum ∷ v) (append-nil (commits_lines sum cs))

    no_header : HasOtherHeader segment sum file → ⊥
    no_header d =
        let line : lines_of file ≡ d.line ∷ lines_of d.more = ap lines_of d.text_is ∙ lines_of-line d.line d.more d.one in
        d.other (head d.line (header segment sum) (lines_of d.more ++ back file lost) (commits_lines sum cs) (ap (λ v. v ++ back file lost) (sym line) ∙ all))

    no_mark : HasOtherMark segment sum file → ⊥
    no_mark d =
        let last : IsTrue (list_all is_line (d.records ++ d.line ∷ [])) = lines-append d.records (d.line ∷ []) is_line (records-lines d.records d.records_are)
        (both (is_line d.line) true d.one refl) in
        let there : lines_of (joined (d.records ++ d.line ∷ []) ++ d.more) ≡ d.records ++ d.line ∷ lines_of d.more =
        lines_of-joined (d.records ++ d.line ∷ []) d.more last ∙ append_assoc d.records (d.line ∷ []) (lines_of d.more) in
        let line : lines_of file ≡ header segment sum ∷ (commits_lines sum d.commits ++ (d.records ++ d.line ∷ lines_of d.more)) =
        ap lines_of (d.text_is ∙ append_assoc (journal_text segment sum d.commits) (joined (d.records ++ d.line ∷ [])) d.more)
        ∙ text_lines segment sum d.commits (joined (d.records ++ d.line ∷ []) ++ d.more) h s d.commits_are
        ∙ ap (λ v. header segment sum ∷ (commits_lines sum d.commits ++ v)) there in
        let rest : (commits_lines sum d.commits ++ (d.records ++ d.line ∷ lines_of d.more)) ++ back file lost ≡ commits_lines sum cs =
        tail (header segment sum) (header segment sum) ((commits_lines sum d.commits ++ (d.records ++ d.line ∷ lines_of d.more)) ++ back file lost)
        (commits_lines sum cs) (ap (λ v. v ++ back file lost) (sym line) ∙ all) in
        d.other (right_mark sum d.commits cs d.records d.line (lines_of d.more ++ back file lost) d.commits_are are d.records_are d.marks
        (sym (append_assoc (commits_lines sum d.commits) (d.records ++ d.line ∷ lines_of d.more) (back file lost)
        ∙ ap (λ v. commits_lines sum d.commits ++ v) (append_assoc d.records (d.line ∷ lines_of d.more) (back file lost))) ∙ rest))
