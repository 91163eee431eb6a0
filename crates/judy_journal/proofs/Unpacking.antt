-- A snapshot that is being read.
use Rattle.std.proofs.Common.{◌≡◌, ℕ, ◌≤◌, ◌+◌, true, false, List, [], ◌∷◌, ◌++◌, length, drop, sym, ◌∙◌, ap, subst, refl, arith, append_assoc}
use Rattle.std.specs.Prelude.{Ok, decimal}
use Rattle.std.proofs.Math.Seq.{drop-append_seam}
use Rattle.std.proofs.lemmas.List.{append_cancel_left, length-append}
use Rattle.judy_journal.specs.declared.reader.Read.TheVariants.{More, Whole}
use Rattle.judy_journal.specs.Journals.{AreCommits, Commit, commits_lines, header, joined, numbered}
use Rattle.judy_journal.specs.Readings.{HasRead, IsRead, Reading, restarted}
use Rattle.judy_journal.specs.Recovered.{HasEndedSnapshot, HasUnpacked, IsUnpacked, Recovering}
use Rattle.judy_journal.specs.Writes.{header_text, snapshot_line}
use Rattle.judy_journal.proofs.Gathering.{all_whole}
use Rattle.judy_journal.proofs.Recovering.{are_first}

-- ---- a line with a number and a checksum

seam : (front : List ℕ) (n : ℕ) (sum : List ℕ) → numbered front n sum ≡ (front ++ (decimal n ++ 32 ∷ [])) ++ sum
unfolding numbered
seam front n sum = ap (λ v. front ++ v) (sym (append_assoc (decimal n) (32 ∷ []) sum)) ∙ sym (append_assoc front (decimal n ++ 32 ∷ []) sum)

pub long_line : (front : List ℕ) (n : ℕ) (sum : List ℕ) → length sum ≤ length (numbered front n sum)
long_line front n sum = omega (arith, ap length (seam front n sum), length-append (front ++ (decimal n ++ 32 ∷ [])) sum)

pub its_sum : (front : List ℕ) (n : ℕ) (sum line : List ℕ) (at : ℕ) → line ≡ numbered front n sum → at + length sum ≡ length line → drop at line ≡ sum
its_sum front n sum line at e is =
    let xs : List ℕ = front ++ (decimal n ++ 32 ∷ []) in
    let here : at ≡ length xs = omega (arith, is, ap length e, ap length (seam front n sum), length-append xs sum) in
    ap (λ v. drop at v) (e ∙ seam front n sum) ∙ ap (λ v. drop v (xs ++ sum)) here ∙ drop-append_seam xs sum

-- ---- more of a snapshot

false_true : {A : Type 0} → false ≡ true → A
false_true e = absurd (no e)
  where
    no : false ≡ true → ⊥
    no e = cc

pub unpacked_more : (k : ℕ) (sum text : List ℕ) (commits : List Commit) (bytes : List ℕ) (r : Recovering) (now : Reading) (all ended before : ℕ)
    → IsUnpacked k sum text commits r → HasRead (Ok More) k sum (header_text k sum ++ text) commits bytes now
    → all ≡ r.taken + length bytes → HasUnpacked (Ok More) k sum text commits bytes (record { reading = now; taken = all; ended = ended; before = before })
unpacked_more k sum text commits bytes r now all ended before h (read, unended) more = (
  record {
    read = subst (λ v. IsRead k sum v commits now) (append_assoc (header_text k sum) text bytes) read;
    taken_is = omega (arith, more, h.taken_is, length-append text bytes);
    last = λ whole. false_true (sym unended ∙ whole);
  },
  unended,
)

pub unpacked_whole : (k : ℕ) (sum text : List ℕ) (commits : List Commit) (bytes : List ℕ) (r : Recovering) (now : Reading) (left taken ended before : ℕ)
    → IsUnpacked k sum text commits r → HasRead (Ok (Whole left)) k sum (header_text k sum ++ text) commits bytes now
    → taken + left ≡ r.taken + length bytes
    → HasUnpacked (Ok (Whole left)) k sum text commits bytes (record { reading = now; taken = taken; ended = ended; before = before })
unpacked_whole k sum text commits bytes r now left taken ended before h (used, rest, cut, len, read, whole) more = (
  used,
  rest,
  cut,
  len,
  record {
    read = subst (λ v. IsRead k sum v (commits ++ now.records ∷ []) now) (append_assoc (header_text k sum) text used) read;
    taken_is = omega (arith, more, h.taken_is, len, ap length cut, length-append used rest, length-append text used);
    last = λ e. (commits, refl);
  },
  whole,
)

-- the end of it
pub snapshot_ends : (k : ℕ) (sum text : List ℕ) (commits : List Commit) (r : Recovering) (now : Reading) → IsUnpacked k sum text commits r
    → r.reading.whole ≡ true → r.reading.records ≡ [] → now ≡ restarted r.reading
    → HasEndedSnapshot k sum text commits (record { reading = now; taken = 0; ended = 0; before = 0 })
snapshot_ends k sum text commits r now h whole none is =
    let (others, all) = h.last whole in
    let ends : commits ≡ others ++ [] ∷ [] = all ∙ ap (λ v. others ++ v ∷ []) none in
    let lines : List ℕ = joined (commits_lines sum commits) in
    let body : text ≡ lines =
    append_cancel_left (header_text k sum) text lines
    (all_whole k sum (header_text k sum ++ text) commits r.reading h.read whole ∙ sym (append_assoc (header k sum) (10 ∷ []) lines)) in
    record {
      others = others;
      commits_are = ends;
      snapshot = record {
        bytes_are = ap (λ v. snapshot_line k sum ++ 10 ∷ v) (body ∙ ap (λ v. joined (commits_lines sum v)) ends);
        commits_are = are_first others ([] ∷ []) (subst AreCommits ends h.read.commits_are);
      };
      next = subst (λ v. Rattle.judy_journal.specs.Recovered.IsRecovered k sum [] [] [] (record { reading = v; taken = 0; ended = 0; before = 0 })) (sym is) (record {
        before = [];
        here = [];
        joins = refl;
        found = refl;
        read = record {
          segment_is = omega (arith, h.read.segment_is);
          first_is = h.read.first_is;
          text_is = refl;
          sum_is = h.read.first_is;
          commits_are = refl;
          records_are = refl;
          line_is = refl;
          none = λ e. (refl, refl, refl);
          done = λ e. refl;
        };
        taken_is = refl;
        before_is = refl;
        ended_is = refl;
      });
    }
