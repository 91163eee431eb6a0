-- After a crash exactly the front of the commits is found.
--     front-may-be-left   a front of what was written, which has all that was synced, may be left
--     front-recovery      what is found in such a front
--     no-next-is-told     bytes behind what was synced are told without their checksums if no whole commit comes first in them
--     unended-is-told     so are bytes without an end of a commit
--     recovery            what is found in any file that a crash may leave
--     undamaged-recovery  what is found in a file without damage, under a premise that speaks only of such files
use Rattle.std.proofs.Common.{◌≡◌, ◌⊎◌, inl, inr, ℕ, ◌<◌, ◌^◌, List, [], ◌∷◌, ◌++◌, sym, ◌∙◌, ap, subst, refl, append_assoc, append-nil}
use Rattle.std.specs.Prelude.{IsTrue, codes, decimal}
use Rattle.std.specs.List.{list_all}
use Rattle.std.proofs.lemmas.List.{append_cancel_left}
use Rattle.std.proofs.lemmas.List.Folds.{list_all-append}
use Rattle.judy_model.specs.Stream.{lines_of, rest_of}
use Rattle.judy_model.proofs.lemmas.LineLemmas.{lines_of-append}
use Rattle.judy_model.proofs.lemmas.TestLemmas.{and_left, and_right}
use Rattle.judy_journal.specs.Disks.{MayLeave}
use Rattle.judy_journal.specs.Journals.{Commit, AreCommits, joined, is_line, is_commit, header, numbered, commits_lines, journal_text, sum_after, sum_at}
use Rattle.judy_journal.specs.Recoveries.{Found, IsTold, IsUnended, Reaches, RecoveryIsExact}
use Rattle.judy_journal.specs.Writes.{commit_text, header_text}
use Rattle.judy_journal.proofs.Lines.{both, joined-append, lines_of-joined, header-line}
use Rattle.judy_journal.proofs.Fronts.{cut, commits_are_lines, commits_lines-append}
use Rattle.judy_journal.proofs.Reaching.{first_commits, found-reaches, next_text, no_next_line, no_next_record, one_reach, reaches-once}

-- the lines of a segment's text, and of what comes after it
pub text_lines : (segment : ℕ) (sum : List ℕ) (cs : List Commit) (tail : List ℕ) → segment < 2 ^ 64 → IsTrue (is_line sum) → AreCommits cs
    → lines_of (journal_text segment sum cs ++ tail) ≡ header segment sum ∷ (commits_lines sum cs ++ lines_of tail)
text_lines segment sum cs tail h s are =
    lines_of-joined (header segment sum ∷ commits_lines sum cs) tail
    (both (is_line (header segment sum)) (list_all is_line (commits_lines sum cs)) (header-line segment sum h s) (commits_are_lines sum cs are))

-- commits and more of them
pub text-append : (segment : ℕ) (sum : List ℕ) (a b : List Commit)
    → journal_text segment sum (a ++ b) ≡ journal_text segment sum a ++ joined (commits_lines (sum_at sum a) b)
text-append segment sum a b =
    ap (λ v. joined (header segment sum ∷ v)) (commits_lines-append sum a b)
    ∙ joined-append (header segment sum ∷ commits_lines sum a) (commits_lines (sum_at sum a) b)

pub are_first : (a b : List Commit) → AreCommits (a ++ b) → AreCommits a
are_first [] b h = refl
are_first (c ∷ a) b h = both (is_commit c) (list_all is_commit a) (and_left (is_commit c) (list_all is_commit (a ++ b)) h)
    (are_first a b (and_right (is_commit c) (list_all is_commit (a ++ b)) h))

pub are_last : (a b : List Commit) → AreCommits (a ++ b) → AreCommits b
are_last [] b h = h
are_last (c ∷ a) b h = are_last a b (and_right (is_commit c) (list_all is_commit (a ++ b)) h)

tail_of : {A : Type 0} (x y : A) (xs ys : List A) → x ∷ xs ≡ y ∷ ys → xs ≡ ys
tail_of x y xs ys e = cc

-- ---- of a front of what was written

-- the file is a front of what was written, and has all that was synced
abbrev pub IsFrontWith : List ℕ → List ℕ → List ℕ → Type 0
IsFrontWith synced written file = (more : List ℕ) × (lost : List ℕ) × (file ≡ synced ++ more) × (file ++ lost ≡ written)

-- Such a file may be left. So what is proved of all files holds of a disk that keeps the order of what was written.
pub front-may-be-left : (segment : ℕ) (synced written file : List ℕ) → IsFrontWith synced written file → MayLeave synced file × IsTold segment written file
front-may-be-left segment synced written file (more, lost, file_is, whole) = (
  (more, file_is),
  λ sum commits tail line found. (
    tail ++ lost,
    sym (append_assoc (journal_text segment sum commits) tail lost) ∙ ap (λ v. v ++ lost) (sym found.begins) ∙ whole,
  ),
)

pub front-recovery : (segment : ℕ) (sum : List ℕ) (kept more : List Commit) (file : List ℕ)
    → segment < 2 ^ 64 → IsTrue (is_line sum) → AreCommits (kept ++ more)
    → IsFrontWith (journal_text segment sum kept) (journal_text segment sum (kept ++ more)) file
    → (found : List Commit) (tail : List ℕ) → Reaches segment sum file found tail
    → (taken : List Commit) × (lost : List Commit) × (taken ++ lost ≡ more) × (found ≡ kept ++ taken)
front-recovery segment sum kept more file h s are (after, gone, file_is, whole) found tail f =
    let first = are_first kept more are in
    let last = are_last kept more are in
    let left : after ++ gone ≡ joined (commits_lines (sum_at sum kept) more) =
    append_cancel_left (journal_text segment sum kept) (after ++ gone) (joined (commits_lines (sum_at sum kept) more))
    (sym (append_assoc (journal_text segment sum kept) after gone) ∙ ap (λ v. v ++ gone) (sym file_is) ∙ whole ∙ text-append segment sum kept more) in
    let marked = commits_are_lines (sum_at sum kept) more last in
    let lines : lines_of after ++ lines_of (rest_of after ++ gone) ≡ commits_lines (sum_at sum kept) more =
    sym (lines_of-append after gone) ∙ ap lines_of (left ∙ sym (append-nil (joined (commits_lines (sum_at sum kept) more))))
    ∙ lines_of-joined (commits_lines (sum_at sum kept) more) [] marked ∙ append-nil (commits_lines (sum_at sum kept) more) in
    let k = cut (sum_at sum kept) more (lines_of after) (lines_of (rest_of after ++ gone)) last lines in
    let some : AreCommits (kept ++ k.taken) = lines-append-commits kept k.taken first (are_first k.taken k.lost (subst AreCommits (sym k.all) last)) in
    let here : lines_of file ≡ header segment sum ∷ (commits_lines sum kept ++ lines_of after) =
    ap lines_of file_is ∙ text_lines segment sum kept after h s first in
    let there : lines_of file ≡ header segment sum ∷ (commits_lines sum found ++ lines_of tail) =
    ap lines_of f.begins ∙ text_lines segment sum found tail h s f.commits_are in
    let both_ways : commits_lines sum found ++ lines_of tail ≡ commits_lines sum (kept ++ k.taken) ++ k.records =
    tail_of (header segment sum) (header segment sum) (commits_lines sum found ++ lines_of tail) (commits_lines sum kept ++ lines_of after) (sym there ∙ here)
    ∙ ap (λ v. commits_lines sum kept ++ v) k.front_is
    ∙ sym (append_assoc (commits_lines sum kept) (commits_lines (sum_at sum kept) k.taken) k.records)
    ∙ ap (λ v. v ++ k.records) (sym (commits_lines-append sum kept k.taken)) in (
      k.taken,
      k.lost,
      k.all,
      one_reach sum found (kept ++ k.taken) (lines_of tail) k.records f.commits_are some
          (no_next_line segment sum file found tail f) (no_next_record (sum_at sum (kept ++ k.taken)) k.records k.records_are) both_ways,
    )
  where
    lines-append-commits : (a b : List Commit) → AreCommits a → AreCommits b → AreCommits (a ++ b)
    lines-append-commits a b x y = subst IsTrue (sym (list_all-append is_commit a b)) (both (list_all is_commit a) (list_all is_commit b) x y)

-- ---- of any file that a crash may leave

-- two first lines of one segment are equal only with the same checksum
same_sum : (segment : ℕ) (a b : List ℕ) → header segment a ≡ header segment b → a ≡ b
unfolding numbered
same_sum segment a b e =
    let rest : decimal segment ++ 32 ∷ a ≡ decimal segment ++ 32 ∷ b =
    append_cancel_left (codes "judyd journal 1 ") (decimal segment ++ 32 ∷ a) (decimal segment ++ 32 ∷ b) e in
    tail_of 32 32 a b (append_cancel_left (decimal segment) (32 ∷ a) (32 ∷ b) rest)

head_of : {A : Type 0} (x y : A) (xs ys : List A) → x ∷ xs ≡ y ∷ ys → x ≡ y
head_of x y xs ys e = cc

-- Behind what was synced any bytes are told, whatever the checksums are, that do not begin with a further whole commit.
pub no-next-is-told : (segment : ℕ) (sum : List ℕ) (kept more : List Commit) (junk : List ℕ) → segment < 2 ^ 64 → IsTrue (is_line sum)
    → Reaches segment sum (journal_text segment sum kept ++ junk) kept junk
    → IsTold segment (journal_text segment sum (kept ++ more)) (journal_text segment sum kept ++ junk)
no-next-is-told segment sum kept more junk h s all first found tail line f =
    let lines : header segment first ∷ (commits_lines first found ++ lines_of tail) ≡ header segment sum ∷ (commits_lines sum kept ++ lines_of junk) =
    sym (text_lines segment first found tail h line f.commits_are) ∙ ap lines_of (sym f.begins) ∙ text_lines segment sum kept junk h s all.commits_are in
    let same : first ≡ sum =
    same_sum segment first sum
    (head_of (header segment first) (header segment sum) (commits_lines first found ++ lines_of tail) (commits_lines sum kept ++ lines_of junk) lines) in
    let kept_is : found ≡ kept =
    reaches-once segment sum (journal_text segment sum kept ++ junk) found kept tail junk
    (subst (λ v. Reaches segment v (journal_text segment sum kept ++ junk) found tail) same f) all in
    let others : List ℕ = joined (commits_lines (sum_at sum kept) more) in (
      others,
      ap (λ v. journal_text segment v found ++ others) same ∙ ap (λ v. journal_text segment sum v ++ others) kept_is ∙ sym (text-append segment sum kept more),
    )

-- So are any bytes of which no line ends a commit.
pub unended-is-told : (segment : ℕ) (sum : List ℕ) (kept more : List Commit) (junk : List ℕ)
    → segment < 2 ^ 64 → IsTrue (is_line sum) → AreCommits kept → IsUnended junk
    → IsTold segment (journal_text segment sum (kept ++ more)) (journal_text segment sum kept ++ junk)
unended-is-told segment sum kept more junk h s are none =
    no-next-is-told segment sum kept more junk h s
    (found-reaches segment sum (journal_text segment sum kept ++ junk) kept junk (record { text_is = refl; commits_are = are; unended = none }))

-- of two fronts of a text one is a front of the other
fronts : (a b x y : List ℕ) → a ++ x ≡ b ++ y → ((more : List ℕ) × (a ≡ b ++ more)) ⊎ ((more : List ℕ) × (b ≡ a ++ more))
fronts a [] x y e = inl (a, refl)
fronts [] (c ∷ b) x y e = inr (c ∷ b, refl)
fronts (d ∷ a) (c ∷ b) x y e =
    let same : d ≡ c = cc in
    let rest : a ++ x ≡ b ++ y = cc in
    by same (fronts a b x y rest)
  where
    by : d ≡ c → ((more : List ℕ) × (a ≡ b ++ more)) ⊎ ((more : List ℕ) × (b ≡ a ++ more))
        → ((more : List ℕ) × (d ∷ a ≡ c ∷ b ++ more)) ⊎ ((more : List ℕ) × (c ∷ b ≡ d ∷ a ++ more))
    by same (inl (more, is)) = inl (more, ap (λ v. d ∷ v) is ∙ ap (λ v. v ∷ b ++ more) same)
    by same (inr (more, is)) = inr (more, ap (λ v. c ∷ v) is ∙ ap (λ v. v ∷ a ++ more) (sym same))

-- The commits that are found have all of those that were synced: else one of these comes next. So they are found in their
-- own text too, which is a front of what was written.
pub recovery : RecoveryIsExact
recovery segment sum kept more file h s all (after, file_is) told found tail f = by (told sum found tail s f)
  where
    synced : List ℕ
    synced = journal_text segment sum kept

    text : List ℕ
    text = journal_text segment sum found

    others : List ℕ
    others = joined (commits_lines (sum_at sum kept) more)

    written_is : journal_text segment sum (kept ++ more) ≡ synced ++ others
    written_is = text-append segment sum kept more

    Goal : Type 0
    Goal = (taken : List Commit) × (lost : List Commit) × (taken ++ lost ≡ more) × (found ≡ kept ++ taken)

    in_text : (lost x : List ℕ) → text ++ lost ≡ journal_text segment sum (kept ++ more) → text ≡ synced ++ x → Goal
    in_text lost x whole is =
        front-recovery segment sum kept more text h s all (x, lost, is, whole) found []
        (found-reaches segment sum text found [] (record { text_is = sym (append-nil text); commits_are = f.commits_are; unended = refl }))

    in_synced : (x : List ℕ) → synced ≡ text ++ x → Goal
    in_synced x is = which others_is.0 others_is.1
      where
        are : AreCommits kept
        are = are_first kept more all

        rest : joined (commits_lines sum found) ++ x ≡ joined (commits_lines sum kept)
        rest =
            append_cancel_left (header_text segment sum) (joined (commits_lines sum found) ++ x) (joined (commits_lines sum kept))
            (append_assoc (header segment sum) (10 ∷ []) (joined (commits_lines sum found) ++ x)
            ∙ sym (append_assoc (header segment sum) (10 ∷ joined (commits_lines sum found)) x) ∙ sym is
            ∙ sym (append_assoc (header segment sum) (10 ∷ []) (joined (commits_lines sum kept))))

        others_is : (others : List Commit) × (kept ≡ found ++ others)
        others_is =
            first_commits sum found kept (lines_of x) f.commits_are are
            (sym (lines_of-joined (commits_lines sum found) x (commits_are_lines sum found f.commits_are)) ∙ ap lines_of rest
            ∙ ap lines_of (sym (append-nil (joined (commits_lines sum kept))))
            ∙ lines_of-joined (commits_lines sum kept) [] (commits_are_lines sum kept are) ∙ append-nil (commits_lines sum kept))

        which : (c : List Commit) → kept ≡ found ++ c → Goal
        which [] e = ([], more, refl, sym (append-nil found) ∙ sym e ∙ sym (append-nil kept))
        which (next ∷ c) e =
            let s : List ℕ = sum_at sum found in
            let back : List ℕ = joined (commits_lines (sum_after s next) c) in
            let x_is : x ≡ commit_text s next ++ back =
            append_cancel_left text x (commit_text s next ++ back)
            (sym is ∙ ap (journal_text segment sum) e ∙ text-append segment sum found (next ∷ c) ∙ ap (λ v. text ++ v) (next_text s next c)) in
            let tail_is : tail ≡ x ++ after =
            append_cancel_left text tail (x ++ after) (sym f.begins ∙ file_is ∙ ap (λ v. v ++ after) is ∙ append_assoc text x after) in
            absurd (f.no_next next (back ++ after)
            (and_left (is_commit next) (list_all is_commit c) (are_last found (next ∷ c) (subst AreCommits e are)))
            (tail_is ∙ ap (λ v. v ++ after) x_is ∙ append_assoc (commit_text s next) back after))

    by : (lost : List ℕ) × (text ++ lost ≡ journal_text segment sum (kept ++ more)) → Goal
    by (lost, whole) = which (fronts text synced lost others (whole ∙ written_is))
      where
        which : ((x : List ℕ) × (text ≡ synced ++ x)) ⊎ ((x : List ℕ) × (synced ≡ text ++ x)) → Goal
        which (inl (x, is)) = in_text lost x whole is
        which (inr (x, is)) = in_synced x is

-- ---- of a file without damage

-- A premise on checksums that speaks only of files of which the rest has no line that ends a commit.
abbrev pub IsToldOfFound : ℕ → List ℕ → List ℕ → Type 0
IsToldOfFound segment written file = (sum : List ℕ) (commits : List Commit) (tail : List ℕ) → IsTrue (is_line sum)
    → Found segment sum file commits tail → (lost : List ℕ) × (journal_text segment sum commits ++ lost ≡ written)

-- Of such a file it says all that the premise of the law says.
pub told-alike : (segment : ℕ) (sum written file : List ℕ) (commits : List Commit) (tail : List ℕ) → segment < 2 ^ 64 → IsTrue (is_line sum)
    → Found segment sum file commits tail → IsToldOfFound segment written file → IsTold segment written file
told-alike segment sum written file commits tail h s f told first found rest line g =
    let lines : header segment first ∷ (commits_lines first found ++ lines_of rest) ≡ header segment sum ∷ (commits_lines sum commits ++ lines_of tail) =
    sym (text_lines segment first found rest h line g.commits_are) ∙ ap lines_of (sym g.begins ∙ f.text_is) ∙ text_lines segment sum commits tail h s f.commits_are in
    let same : first ≡ sum =
    same_sum segment first sum
    (head_of (header segment first) (header segment sum) (commits_lines first found ++ lines_of rest) (commits_lines sum commits ++ lines_of tail) lines) in
    let found_is : found ≡ commits =
    reaches-once segment sum file found commits rest tail
    (subst (λ v. Reaches segment v file found rest) same g) (found-reaches segment sum file commits tail f) in
    let (lost, whole) = told sum commits tail s f in
    (lost, ap (λ v. journal_text segment v found ++ lost) same ∙ ap (λ v. journal_text segment sum v ++ lost) found_is ∙ whole)

-- So it is enough for such a file.
pub undamaged-recovery : (segment : ℕ) (sum : List ℕ) (kept more : List Commit) (file : List ℕ)
    → segment < 2 ^ 64 → IsTrue (is_line sum) → AreCommits (kept ++ more)
    → MayLeave (journal_text segment sum kept) file → IsToldOfFound segment (journal_text segment sum (kept ++ more)) file
    → (found : List Commit) (tail : List ℕ) → Found segment sum file found tail
    → (taken : List Commit) × (lost : List Commit) × (taken ++ lost ≡ more) × (found ≡ kept ++ taken)
undamaged-recovery segment sum kept more file h s are may told found tail f =
    recovery segment sum kept more file h s are may (told-alike segment sum (journal_text segment sum (kept ++ more)) file found tail h s f told) found tail
    (found-reaches segment sum file found tail f)
