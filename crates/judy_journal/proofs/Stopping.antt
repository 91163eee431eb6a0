-- Whatever comes after damage, the commits before it are all the first whole ones.
use Rattle.std.proofs.Common.{◌≡◌, ◌≢◌, inl, inr, ℕ, ◌<◌, ◌+◌, Bool, true, false, List, [], ◌∷◌, ◌++◌, length, sym, ◌∙◌, ap, subst, refl, append_assoc}
use Rattle.std.specs.Prelude.{IsTrue}
use Rattle.judy_journal.specs.Journals.{Commit, header, is_line, is_mark, is_record, joined, journal_text, mark}
use Rattle.judy_journal.specs.Readings.{AreAllFirst, HasStopped, IsRead, Reading, front, tail_of}
use Rattle.judy_journal.specs.Recoveries.{FoundLast}
use Rattle.judy_journal.specs.Writes.{header_text}
use Rattle.judy_journal.proofs.Reaching.{damage-reaches, header-is-none, long-reaches, no-header-is-none, reaches-with}
use Rattle.judy_journal.proofs.Stepping.{long_header, long_line, no_room, other_header, other_mark}

module _ (segment : ℕ) (first text : List ℕ) (commits : List Commit) (r : Reading) (h : IsRead segment first text commits r) where
  -- the text, as whole commits and what is held behind them
  held_behind : r.begun ≡ true → (more : List ℕ) → text ++ more ≡ journal_text segment first commits ++ (tail_of r ++ more)
  held_behind has more =
      ap (λ v. v ++ more) (h.text_is ∙ ap (λ b. front b segment first commits ++ tail_of r) has)
      ∙ append_assoc (journal_text segment first commits) (tail_of r) more

  -- before the header all of the text is held
  all_held : r.begun ≡ false → (more : List ℕ) → tail_of r ++ more ≡ text ++ more
  all_held not more = ap (λ v. v ++ more) (sym (h.text_is ∙ ap (λ b. front b segment first commits ++ tail_of r) not))

  -- nothing is found without a header
  headless : r.begun ≡ false → (more : List ℕ) → ((rest : List ℕ) → text ++ more ≢ header_text segment first ++ rest)
      → FoundLast segment first (text ++ more) commits (tail_of r ++ more)
  headless not more other = inr (record { other = other; none = (h.none not).0; tail_is = all_held not more })

  module _ (unended : r.whole ≡ false) where
    pub stops-at-header : r.begun ≡ false → r.line ≢ header r.segment r.first → AreAllFirst segment first text (10 ∷ []) commits r (10 ∷ [])
    stops-at-header not other short more =
        headless not (10 ∷ more)
        (header-is-none segment first (text ++ 10 ∷ more) short.0 (other_header segment first text commits r h unended not other more))

    pub stops-at-mark : r.begun ≡ true → is_mark r.line ≡ true → r.line ≢ mark r.sum r.records → AreAllFirst segment first text (10 ∷ []) commits r (10 ∷ [])
    unfolding other_mark
    stops-at-mark has marks other short more =
        let d = other_mark segment first text commits r h unended has marks other more in
        inl (reaches-with segment first (text ++ 10 ∷ more) commits (joined (d.records ++ d.line ∷ []) ++ d.more) (tail_of r ++ 10 ∷ more)
        (damage-reaches segment first (text ++ 10 ∷ more) d) (held_behind has (10 ∷ more)))

    pub stops-at-record : r.begun ≡ true → IsTrue (is_record r.line) → 16282 < length (joined r.records) + length r.line + 1
        → AreAllFirst segment first text (10 ∷ []) commits r (10 ∷ [])
    unfolding no_room
    stops-at-record has is long short more =
        let d = no_room segment first text commits r h unended has is long more in
        inl (reaches-with segment first (text ++ 10 ∷ more) commits ((joined d.records ++ d.line) ++ d.more) (tail_of r ++ 10 ∷ more)
        (long-reaches segment first (text ++ 10 ∷ more) d) (held_behind has (10 ∷ more)))

    module _ (chunk : List ℕ) (one : IsTrue (is_line chunk)) (long : 16282 < length r.line + length chunk) where
      long_there : (more : List ℕ) → (b : Bool) → r.begun ≡ b → AreAllFirst segment first text (chunk ++ more) commits r (chunk ++ more)
      unfolding long_line
      long_there behind true has short more =
          let all : List ℕ = (chunk ++ behind) ++ more in
          let is : chunk ++ (behind ++ more) ≡ all = sym (append_assoc chunk behind more) in
          subst (λ v. FoundLast segment first (text ++ v) commits (tail_of r ++ v)) is
          (let d = long_line segment first text commits r h unended chunk one has long (behind ++ more) in
          inl (reaches-with segment first (text ++ (chunk ++ (behind ++ more))) commits ((joined d.records ++ d.line) ++ d.more)
          (tail_of r ++ (chunk ++ (behind ++ more))) (long-reaches segment first (text ++ (chunk ++ (behind ++ more))) d)
          (held_behind has (chunk ++ (behind ++ more)))))
      long_there behind false not short more =
          let is : chunk ++ (behind ++ more) ≡ (chunk ++ behind) ++ more = sym (append_assoc chunk behind more) in
          subst (λ v. FoundLast segment first (text ++ v) commits (tail_of r ++ v)) is
          (headless not (chunk ++ (behind ++ more))
          (no-header-is-none segment first (text ++ (chunk ++ (behind ++ more))) short
          (long_header segment first text commits r h unended chunk one not long (behind ++ more))))

      pub stops-at-line : (more : List ℕ) → AreAllFirst segment first text (chunk ++ more) commits r (chunk ++ more)
      stops-at-line more = long_there more r.begun refl

-- damage at the line feed of this line
pub stops-behind : (segment : ℕ) (first text chunk : List ℕ) (commits : List Commit) (r : Reading)
    → AreAllFirst segment first (text ++ chunk) (10 ∷ []) commits r (10 ∷ []) → AreAllFirst segment first text (chunk ++ 10 ∷ []) commits r (10 ∷ [])
stops-behind segment first text chunk commits r alone short more =
    subst (λ v. FoundLast segment first v commits (tail_of r ++ 10 ∷ more))
    (append_assoc text chunk (10 ∷ more) ∙ ap (λ v. text ++ v) (sym (append_assoc chunk (10 ∷ []) more))) (alone short more)

-- damage in more bytes, behind bytes that were read
pub stops-later : (segment : ℕ) (first text used here bytes after : List ℕ) (commits : List Commit) (r : Reading)
    → HasStopped here segment first (text ++ used) commits r → used ++ (here ++ after) ≡ bytes → HasStopped bytes segment first text commits r
stops-later segment first text used here bytes after commits r (front, rest, cut, read, alone) all = (
  used ++ front,
  rest ++ after,
  append_assoc used front (rest ++ after) ∙ ap (λ v. used ++ v) (sym (append_assoc front rest after) ∙ ap (λ v. v ++ after) cut) ∙ all,
  subst (λ v. IsRead segment first v commits r) (append_assoc text used front) read,
  λ short more.
      let tail : rest ++ (after ++ more) ≡ (rest ++ after) ++ more = sym (append_assoc rest after more) in
      let whole : (text ++ used) ++ (here ++ (after ++ more)) ≡ text ++ (bytes ++ more) =
      append_assoc text used (here ++ (after ++ more))
      ∙ ap (λ v. text ++ v) (ap (λ v. used ++ v) (sym (append_assoc here after more)) ∙ sym (append_assoc used (here ++ after) more) ∙ ap (λ v. v ++ more) all) in
      subst (λ v. FoundLast segment first v commits (tail_of r ++ ((rest ++ after) ++ more))) whole
      (subst (λ v. FoundLast segment first ((text ++ used) ++ (here ++ (after ++ more))) commits (tail_of r ++ v)) tail (alone short (after ++ more))),
)
