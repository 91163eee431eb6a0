-- How the files of a journal are played one after another.
use Rattle.std.proofs.Common.{◌≡◌, ◌≢◌, ◌+◌, ◌-◌, ◌≤◌, ◌<◌, ◌^◌, ◌⊎◌, ℕ, Bool, true, false, List, [], ◌∷◌, ◌++◌, length, Option, Some, None}
use Rattle.std.proofs.Common.{refl, sym, ◌∙◌, ap, subst, arith, append_assoc, append-nil, length-append, inl, inr}
use Rattle.std.specs.Prelude.{Err, IfOk, IfSome, IsTrue, Ok, Result}
use Rattle.judy_journal.specs.Acts.{AreWhole, Left}
use Rattle.judy_journal.specs.Journals.{Commit, is_line, commits_lines, header, joined, journal_text, sum_at}
use Rattle.judy_journal.specs.Notes.{is_torn_end, seen_in}
use Rattle.judy_journal.specs.Noting.{HasSeen, Noting}
use Rattle.judy_journal.specs.Crashes.{FoundAll}
use Rattle.judy_journal.specs.Readings.{HasShortHeader, front, tail_of}
use Rattle.judy_journal.specs.Recovered.{HasEndedSnapshot, IsPosition, IsRecovered, IsUnpacked, RecoveredIsWhole, Recovering, RecoveryIsFound, files_kept}
use Rattle.judy_journal.specs.Writes.{all_records, snapshot_line}
use Rattle.judy_journal.specs.declared.recovery.Position.{Position}
use Rattle.judy_recovery.specs.Played.{HasReadLast, IsDamagedFile, ReadsAll, ReadsUpTo}
use Rattle.judy_recovery.specs.Whole.{AllGave, AreAllIn, EndsIn, EndsThere, Gave, HasRecoveredAll, HasStarted, IsStart, ReadsFiles, ReadsLast, ReadsSegment, segment_before, with_last}
use Rattle.judy_recovery.specs.declared.ends.End.{End}
use Rattle.judy_recovery.specs.declared.pieces.Damaged.{Damaged}
use Rattle.judy_journal.proofs.lemmas.ReachingLemmas.{recovered-short}
use Rattle.judy_recovery.proofs.Playing.{Laws, all_records-append}

-- the size is the position's if the position is in the file of this number, and 0 if not
pub record IsSizeIn (number : ℕ) (p : Position) (size : ℕ) : Type 0 where
  pub here : p.segment ≡ number → size ≡ p.size
  pub none : p.segment ≢ number → size ≡ 0

-- a line has a byte
has_line : (line rest : List ℕ) → 0 < length (line ++ 10 ∷ rest)
has_line line rest = omega (arith, length-append line (10 ∷ rest))

-- where the last file ends, by the position behind it
pub ends_there : (number size torn segment : ℕ) (sum : List ℕ) (done : List Left) (text : List ℕ) (commits : List Commit) (r : Recovering)
    (p : Position) → IsRecovered segment sum done text commits r → IsSizeIn number p size → IsPosition segment sum done text commits r p
    → number ≡ segment + length done + 1
    → EndsThere segment sum done text commits r (record { segment = number; sum = p.sum; size = size; torn = torn })
ends_there number size torn segment sum done text commits r p h is at there = record {
  position = p;
  stands = at;
  segment_is = there;
  sum_is = at.sum_is;
  size_is = size_is;
  some = λ begun.
      let all = h.read.text_is ∙ ap (λ b. front b (segment + length done + 1) (sum_at sum h.before) h.here ++ tail_of r.reading) begun in
      let text' = journal_text (segment + length done + 1) (sum_at sum h.before) h.here in
      omega (
        arith,
        size_is begun,
        ap length all,
        length-append text' (tail_of r.reading),
        has_line (header (segment + length done + 1) (sum_at sum h.before)) (joined (commits_lines (sum_at sum h.before) h.here)),
      );
  none = λ bare. is.none (λ same. omega (arith, same, at.before bare, there));
}
  where
    size_is : r.reading.begun ≡ true → size + length (tail_of r.reading) ≡ length text
    size_is begun = ap (λ n. n + length (tail_of r.reading)) (is.here (at.here begun ∙ sym there)) ∙ at.size_is begun

-- the files are whole, with the last one up to the end's size
whole_to_end : RecoveredIsWhole → (segment : ℕ) (sum : List ℕ) (done : List Left) (text : List ℕ) (commits : List Commit) (r : Recovering)
    (end : End) → IsRecovered segment sum done text commits r → EndsThere segment sum done text commits r end
    → AreWhole segment sum (files_kept r.reading.begun segment done text end.size) commits
whole_to_end law segment sum done text commits r end h e = by r.reading.begun refl (law segment sum done text commits r e.position h e.stands).0
  where
    by : (b : Bool) → r.reading.begun ≡ b → AreWhole segment sum (files_kept b segment done text e.position.size) commits
        → AreWhole segment sum (files_kept b segment done text end.size) commits
    by true begun w =
        let same : e.position.size ≡ end.size = omega (arith, e.stands.size_is begun, e.size_is begun) in
        subst (λ n. AreWhole segment sum (files_kept true segment done text n) commits) same w
    by false bare w = w

-- with all bytes of the last file
all_in : (segment : ℕ) (sum : List ℕ) (done : List Left) (text junk bytes : List ℕ) (commits : List Commit) (r : Recovering) → RecoveryIsFound
    → IsRecovered segment sum done text commits r → text ++ junk ≡ bytes → HasShortHeader r.reading.segment r.reading.first
    → (junk ≡ []) ⊎ (HasShortHeader r.reading.segment r.reading.first → AreAllIn segment sum done bytes commits (tail_of r.reading ++ junk))
    → AreAllIn segment sum done (text ++ junk) commits (tail_of r.reading ++ junk)
all_in segment sum done text junk bytes commits r is_found h cut short (inl none) small =
    let tail : List ℕ = tail_of r.reading in
    subst (λ v. FoundAll segment sum (with_last segment done (text ++ v)) commits (tail ++ v)) (sym none)
    (subst (λ v. FoundAll segment sum (with_last segment done v) commits (tail ++ [])) (sym (append-nil text))
    (subst (FoundAll segment sum (with_last segment done text) commits) (sym (append-nil tail)) (is_found segment sum done text commits r h)))
all_in segment sum done text junk bytes commits r is_found h cut short (inr all) small =
    subst (λ v. AreAllIn segment sum done v commits (tail_of r.reading ++ junk)) (sym cut) (all short) small

-- the first segment continues from a line
line_of_start : (snapshot : Option ℕ) (sum : List ℕ) (commits : List Commit) → IsStart snapshot sum commits → IsTrue (is_line sum)
line_of_start None sum commits (is, none) = subst (λ v. IsTrue (is_line v)) (sym is) refl
line_of_start (Some number) sum commits start = start.0

module _ {P File : Type 0} (plays : P → List (List ℕ) → P → Type 0) (remaining : File → Option (List ℕ)) where
  -- files and one more gave their bytes
  gave-append : (files : List Left) (l : Left) → AllGave remaining files → Gave remaining l.bytes → AllGave remaining (files ++ l ∷ [])
  gave-append [] l all given = (given, tt)
  gave-append (f ∷ files) l (first, all) given = (first, gave-append files l all given)

  -- a snapshot was read to its end, and ended
  pub snapshot_started : (number : ℕ) (sum : List ℕ) (file : File) (left' : Option (List ℕ)) (r r' r'' : Recovering) (old new : P)
      → IsTrue (is_line sum) → length sum ≡ 16 → IsUnpacked number sum [] [] r → ReadsAll plays (remaining file) left' r old r' new
      → ((segment : ℕ) (sum : List ℕ) (text : List ℕ) (commits : List Commit) → IsUnpacked segment sum text commits r'
      → HasEndedSnapshot segment sum text commits r'')
      → HasStarted plays remaining (Some number) old r'' new
  snapshot_started number sum file left' r r' r'' old new line len was all ended =
      let h = all.reads.snapshot number sum [] [] was in
      let e : HasEndedSnapshot number sum all.bytes h.more r'' = ended number sum all.bytes h.more h.read in
      let records : all_records h.more ≡ all_records e.others =
      ap all_records e.commits_are ∙ all_records-append e.others ([] ∷ []) ∙ append-nil (all_records e.others) in
      record {
        sum = sum;
        commits = e.others;
        start = (line, snapshot_line number sum ++ 10 ∷ all.bytes, e.snapshot);
        sum_len = len;
        given = (all.bytes, (file, left', all.given, all.ended), e.snapshot);
        next = e.next;
        played = subst (λ v. plays old v new) records h.played;
      }

  -- a source was read to its end, and it was that of a segment
  pub segment_read : (number size torn : ℕ) (file : File) (left' : Option (List ℕ)) (r r' : Recovering) (old new : P) (p : Position)
      → ReadsAll plays (remaining file) left' r old r' new → IsSizeIn number p size
      → ((segment : ℕ) (sum : List ℕ) (done : List Left) (text : List ℕ) (commits : List Commit) → IsRecovered segment sum done text commits r'
      → IsPosition segment sum done text commits r' p)
      → ReadsSegment plays remaining number r old (record { segment = number; sum = p.sum; size = size; torn = torn }) r' new
  segment_read number size torn file left' r r' old new p all is at = record {
    bytes = all.bytes;
    given = (file, left', all.given, all.ended);
    reads = all.reads;
    ends = λ segment sum done text commits h there.
        ends_there number size torn segment sum done text commits r' p h is (at segment sum done text commits h) there;
  }

  -- a segment that was read to its end without damage
  pub as_last : (number : ℕ) (r r' : Recovering) (old new : P) (end : End) → ReadsSegment plays remaining number r old end r' new
      → ReadsLast plays remaining number r old end r' new
  as_last number r r' old new end h = record {
    bytes = h.bytes;
    given = h.given;
    reads = λ segment sum done commits was there.
        let k = h.reads.segments segment sum done [] commits was in
        record {
          text = h.bytes;
          junk = [];
          cut = append-nil h.bytes;
          more = k.more;
          read = k.read;
          played = k.played;
          ends = h.ends segment sum done h.bytes (commits ++ k.more) k.read there;
          follows = inl refl;
          alone = inl refl;
        };
  }

  pub if_last : {E : Type 0} (number : ℕ) (r r' : Recovering) (old new : P) (result : Result End E)
      → IfOk result (λ end. ReadsSegment plays remaining number r old end r' new) → IfOk result (λ end. ReadsLast plays remaining number r old end r' new)
  if_last number r r' old new (Ok end) h = as_last number r r' old new end h
  if_last number r r' old new (Err e) h = tt

  -- the last segment was read to its end, and its damage may be what a crash left
  pub last_read : (number size torn : ℕ) (file : File) (left' : Option (List ℕ)) (found : Option Damaged) (r r' : Recovering) (old new : P)
      (n n' : Noting) (p : Position) → HasReadLast plays (remaining file) left' found r old n r' new n' → HasSeen number [] n → IsSizeIn number p size
      → ((segment : ℕ) (sum : List ℕ) (done : List Left) (text : List ℕ) (commits : List Commit) → IsRecovered segment sum done text commits r'
      → IsPosition segment sum done text commits r' p)
      → IfSome found (λ damaged. is_torn_end n'.segment n'.seen size ≡ true)
      → ReadsLast plays remaining number r old (record { segment = number; sum = p.sum; size = size; torn = torn }) r' new
  last_read number size torn file left' found r r' old new n n' p all none is at passed = record {
    bytes = all.bytes;
    given = (file, left', all.given, all.ended);
    reads = λ segment sum done commits was there. by found all.reads passed segment sum done commits was there;
  }
    where
      end : End
      end = record { segment = number; sum = p.sum; size = size; torn = torn }

      seen : n'.seen ≡ seen_in number all.bytes
      seen = (all.noted number [] none).seen_is

      by : (found : Option Damaged) → ReadsUpTo plays found r all.bytes old r' new → IfSome found (λ damaged. is_torn_end n'.segment n'.seen size ≡ true)
          → (segment : ℕ) (sum : List ℕ) (done : List Left) (commits : List Commit) → IsRecovered segment sum done [] commits r
          → number ≡ segment + length done + 1 → EndsIn plays segment sum done commits all.bytes old end r' new
      by None reads passed segment sum done commits was there =
          let k = reads.segments segment sum done [] commits was in
          record {
            text = all.bytes;
            junk = [];
            cut = append-nil all.bytes;
            more = k.more;
            read = k.read;
            played = k.played;
            ends = ends_there number size torn segment sum done all.bytes (commits ++ k.more) r' p k.read is
                (at segment sum done all.bytes (commits ++ k.more) k.read) there;
            follows = inl refl;
            alone = inl refl;
          }
      by (Some damaged) (front, more, cut, breaks) passed segment sum done commits was there =
          let k = breaks segment sum done [] commits was in
          let whole : k.used ++ (k.rest ++ more) ≡ all.bytes = sym (append_assoc k.used k.rest more) ∙ ap (λ v. v ++ more) k.cut ∙ cut in
          record {
            text = k.used;
            junk = k.rest ++ more;
            cut = whole;
            more = k.more;
            read = k.read;
            played = k.played;
            ends = ends_there number size torn segment sum done k.used (commits ++ k.more) r' p k.read is
                (at segment sum done k.used (commits ++ k.more) k.read) there;
            follows = inr (record {
              damage = damaged.damage;
              seen = k.rest;
              more = more;
              junk_is = refl;
              damaged = subst (IsDamagedFile damaged.damage segment sum done (commits ++ k.more)) (sym k.cut) k.damaged;
              torn = ap (λ m. is_torn_end m (seen_in m (k.used ++ (k.rest ++ more))) size) (sym there)
                  ∙ ap (λ v. is_torn_end number (seen_in number v) size) whole ∙ ap (λ s. is_torn_end number s size) (sym seen)
                  ∙ ap (λ m. is_torn_end m n'.seen size) (sym (all.noted number [] none).segment_is) ∙ passed;
            });
            alone = inr (λ short small.
                subst (λ v. FoundAll segment sum (with_last segment done v) (commits ++ k.more) (tail_of r'.reading ++ (k.rest ++ more))) cut
                (k.alone short (omega (arith, small, ap length cut, length-append front more)) more));
          }

  module _ (laws : Laws plays) where
    -- nothing is played before the first segment if there is no snapshot
    pub none_started : (sum : List ℕ) (r : Recovering) (p : P) → sum ≡ Rattle.judy_recovery.specs.declared.ends.TheConstants.FIRST_SUM
        → IsRecovered 0 sum [] [] [] r → HasStarted plays remaining None p r p
    none_started sum r p is h = record { sum = sum; commits = []; start = (is, refl); sum_len = ap length is; given = tt; next = h; played = laws.rests p }

    -- no files
    pub files_none : (first : ℕ) (r : Recovering) (p : P) → ReadsFiles plays remaining (first - first) r p r p
    files_none first r p segment sum done commits h = record {
      files = [];
      count_is = omega (arith);
      given = tt;
      more = [];
      read = subst (λ d. IsRecovered segment sum d [] (commits ++ []) r) (sym (append-nil done))
          (subst (λ v. IsRecovered segment sum done [] v r) (sym (append-nil commits)) h);
      played = laws.rests p;
    }

    -- files and one more
    pub files_more : (count more number : ℕ) (r r' r'' r''' : Recovering) (old mid new : P) (end : End)
        → ReadsFiles plays remaining count r old r' mid → ReadsSegment plays remaining number r' mid end r'' new
        → ((segment : ℕ) (sum : List ℕ) (done : List Left) (text : List ℕ) (commits : List Commit) → IsRecovered segment sum done text commits r''
        → IsRecovered segment sum (done ++ record { number = segment + length done + 1; bytes = text } ∷ []) [] commits r''')
        → more ≡ count + 1 → ReadsFiles plays remaining more r old r''' new
    files_more count more number r r' r'' r''' old mid new end files reads ended is segment sum done commits h =
        let f = files segment sum done commits h in
        let k = reads.reads.segments segment sum (done ++ f.files) [] (commits ++ f.more) f.read in
        let l : Left = record { number = segment + length (done ++ f.files) + 1; bytes = reads.bytes } in
        let e : IsRecovered segment sum ((done ++ f.files) ++ l ∷ []) [] ((commits ++ f.more) ++ k.more) r''' =
        ended segment sum (done ++ f.files) reads.bytes ((commits ++ f.more) ++ k.more) k.read in
        let e' : IsRecovered segment sum (done ++ (f.files ++ l ∷ [])) [] ((commits ++ f.more) ++ k.more) r''' =
        subst (λ d. IsRecovered segment sum d [] ((commits ++ f.more) ++ k.more) r''') (append_assoc done f.files (l ∷ [])) e in
        record {
          files = f.files ++ l ∷ [];
          count_is = omega (arith, length-append f.files (l ∷ []), f.count_is, is);
          given = gave-append f.files l f.given reads.given;
          more = f.more ++ k.more;
          read = subst (λ v. IsRecovered segment sum (done ++ (f.files ++ l ∷ [])) [] v r''') (append_assoc commits f.more k.more) e';
          played = subst (λ v. plays old v new) (sym (all_records-append f.more k.more))
              (laws.joins old mid new (all_records f.more) (all_records k.more) f.played k.played);
        }

    -- the snapshot, the whole files and the last one
    pub recovered_all : RecoveryIsFound → RecoveredIsWhole → (snapshot : Option ℕ) (first last : ℕ) (r r' r'' : Recovering) (old p p' new : P) (end : End)
        → HasStarted plays remaining snapshot old r p → ReadsFiles plays remaining (last - first) r p r' p' → ReadsLast plays remaining last r' p' end r'' new
        → first ≡ segment_before snapshot + 1 → first ≤ last → last < 2 ^ 64 → HasRecoveredAll plays remaining snapshot last old end new
    recovered_all is_found is_whole snapshot first last r r' r'' old p p' new end started files reads first_is not_less small =
        let f = files (segment_before snapshot) started.sum [] [] started.next in
        let last_is : last ≡ segment_before snapshot + length f.files + 1 = omega (arith, f.count_is, first_is, not_less) in
        let k = reads.reads (segment_before snapshot) started.sum f.files f.more f.read last_is in
        let played : plays p (all_records (f.more ++ k.more)) new =
        subst (λ v. plays p v new) (sym (all_records-append f.more k.more))
        (laws.joins p p' new (all_records f.more) (all_records k.more) f.played k.played) in
        let l : Left = record { number = segment_before snapshot + length f.files + 1; bytes = k.text ++ k.junk } in
        let short : HasShortHeader r''.reading.segment r''.reading.first =
        recovered-short (segment_before snapshot) started.sum f.files k.text (f.more ++ k.more) r'' k.read (omega (arith, small, last_is))
        (line_of_start snapshot started.sum started.commits started.start) (omega (arith, started.sum_len)) in
        record {
          sum = started.sum;
          unpacked = started.commits;
          start = started.start;
          done = f.files;
          text = k.text;
          junk = k.junk;
          commits = f.more ++ k.more;
          r = r'';
          read = k.read;
          found = is_found (segment_before snapshot) started.sum f.files k.text (f.more ++ k.more) r'' k.read;
          all = all_in (segment_before snapshot) started.sum f.files k.text k.junk reads.bytes (f.more ++ k.more) r'' is_found k.read k.cut short k.alone;
          began = started.given;
          given = gave-append f.files l f.given (subst (Gave remaining) (sym k.cut) reads.given);
          follows = k.follows;
          last_is = last_is;
          ends = k.ends;
          whole = whole_to_end is_whole (segment_before snapshot) started.sum f.files k.text (f.more ++ k.more) r'' end k.read k.ends;
          played = laws.joins old p new (all_records started.commits) (all_records (f.more ++ k.more)) started.played played;
        }
