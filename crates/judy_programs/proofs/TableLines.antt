-- Lines that end a table, and lines that do not.
use Rattle.std.proofs.Common.{◌≡◌, ◌⊎◌, inl, inr, ℕ, zero, suc, ◌+◌, ◌<◌, ◌≤◌, Bool, true, false, not, ◌||◌, List}
use Rattle.std.proofs.Common.{[], ◌∷◌, ◌++◌, length, take, drop, refl, sym, ◌∙◌, ap, subst, arith, append_assoc}
use Rattle.std.specs.Prelude.{codes, ◌==◌}
use Rattle.std.specs.List.{list_any, list_all}
use Rattle.std.specs.Str.{bytes_eq}
use Rattle.std.proofs.Math.Seq.{take-append_seam, drop-append_seam}
use Rattle.std.proofs.lemmas.Bool.Decides.{nat_tests}
use Rattle.std.proofs.lemmas.List.{length-append}
use Rattle.std.proofs.lemmas.List.Folds.{list_any-append, list_all-append}
use Rattle.std.proofs.lemmas.Slice.Eq.{bytes_eq-Decides}
use Rattle.judy_model.specs.Stream.{lines_of, rest_of}
use Rattle.judy_model.proofs.lemmas.LineLemmas.{lines_of-append, lines_of-line, lines_of-push, lines_of-more_bytes, rest_of-append, rest_of-bytes, rest_of-push}
use Rattle.judy_model.proofs.lemmas.TestLemmas.{and_left, and_right}
use Rattle.judy_protocol.specs.Talks.{HasNoLf}
use Rattle.judy_programs.specs.Tables.{IsLong, IsOpen, IsTable, IsWhole, is_mark, table_limit}
use Rattle.judy_programs.specs.TableEnds.{BeginsMark, HasLines, IsSoFar, MayEnd}

-- ---- tests

or_true : (a b : Bool) → (a || b) ≡ true → (a ≡ true) ⊎ (b ≡ true)
or_true true b h = inl refl
or_true false b h = inr h

or_right : (a b : Bool) → b ≡ true → (a || b) ≡ true
or_right true b h = refl
or_right false b h = h

or_left : (a b : Bool) → a ≡ true → (a || b) ≡ true
or_left true b h = refl
or_left false b h = cc

pub le_or_lt : (m n : ℕ) → (m ≤ n) ⊎ (n < m)
le_or_lt zero n = inl (omega arith)
le_or_lt (suc m) zero = inr (omega arith)
le_or_lt (suc m) (suc n) = elim (le_or_lt m n) [
  | inl h ↦ inl (omega (arith, h))
  | inr h ↦ inr (omega (arith, h))
]

-- ---- one list cut in two ways

pub two_cuts : (a b c d : List ℕ) → a ++ b ≡ c ++ d → length a ≤ length c → (m : List ℕ) × (c ≡ a ++ m) × (b ≡ m ++ d)
two_cuts [] b c d e h = (c, refl, e)
two_cuts (x ∷ a) b [] d e h = absurd (omega (arith, h))
two_cuts (x ∷ a) b (y ∷ c) d e h =
    let tails : a ++ b ≡ c ++ d = cc in
    let heads : y ≡ x = cc in
    let (m, is, rest) = two_cuts a b c d tails (omega (arith, h)) in
    (m, ap (λ v. y ∷ v) is ∙ ap (λ v. v ∷ (a ++ m)) heads, rest)

-- ---- bytes without a line feed

left_line : (a b : List ℕ) → HasNoLf (a ++ b) → HasNoLf a
left_line a b h = and_left (list_all (λ x. not (x == 10)) a) (list_all (λ x. not (x == 10)) b) (sym (list_all-append (λ x. not (x == 10)) a b) ∙ h)

right_line : (a b : List ℕ) → HasNoLf (a ++ b) → HasNoLf b
right_line a b h = and_right (list_all (λ x. not (x == 10)) a) (list_all (λ x. not (x == 10)) b) (sym (list_all-append (λ x. not (x == 10)) a b) ∙ h)

-- bytes have no line feed, or a first one
cut_first : (m : List ℕ) → HasNoLf m ⊎ ((l : List ℕ) × (after : List ℕ) × HasNoLf l × (m ≡ l ++ 10 ∷ after))
cut_first [] = inl refl
cut_first (b ∷ m) = by (b == 10) refl (cut_first m)
  where
    by : (v : Bool) → (b == 10) ≡ v → HasNoLf m ⊎ ((l : List ℕ) × (after : List ℕ) × HasNoLf l × (m ≡ l ++ 10 ∷ after))
        → HasNoLf (b ∷ m) ⊎ ((l : List ℕ) × (after : List ℕ) × HasNoLf l × (b ∷ m ≡ l ++ 10 ∷ after))
    by true e h = let is : b ≡ 10 = grind (arith, nat_tests) in inr ([], m, refl, ap (λ v. v ∷ m) is)
    by false e (inl h) = inl (rw e h)
    by false e (inr (l, after, h, is)) = inr (b ∷ l, after, rw e h, ap (λ v. b ∷ v) is)

-- the first line of a stream is one
same_line : (l m line more : List ℕ) → HasNoLf l → HasNoLf line → l ++ 10 ∷ m ≡ line ++ 10 ∷ more → l ≡ line
same_line l m line more h k e =
    let both : l ∷ lines_of m ≡ line ∷ lines_of more = sym (lines_of-line l m h) ∙ ap lines_of e ∙ lines_of-line line more k in
    cc

-- ---- lines that end a table

-- what a line that ends a table is
pub mark_is : (line : List ℕ) → is_mark line ≡ true → (line ≡ codes "---") ⊎ (line ≡ codes "---" ++ 13 ∷ [])
mark_is line h = elim (or_true (bytes_eq line (codes "---")) (bytes_eq line (codes "---" ++ 13 ∷ [])) h) [
  | inl a ↦ inl ((bytes_eq-Decides line (codes "---")).0 a)
  | inr b ↦ inr ((bytes_eq-Decides line (codes "---" ++ 13 ∷ [])).0 b)
]

mark_line : (line : List ℕ) → is_mark line ≡ true → HasNoLf line
mark_line line h = elim (mark_is line h) [
  | inl e ↦ subst HasNoLf (sym e) refl
  | inr e ↦ subst HasNoLf (sym e) refl
]

-- a line after whole lines
pub whole_line : (done line : List ℕ) → IsWhole done → HasNoLf line → is_mark line ≡ false → IsWhole (done ++ (line ++ 10 ∷ []))
whole_line done line w lacks plain = record {
  rest = rest_of-push done line lacks;
  marks =
      ap (list_any is_mark) (lines_of-push done line lacks) ∙ list_any-append is_mark (lines_of done) ((rest_of done ++ line) ∷ [])
      ∙ ap (λ b. b || list_any is_mark ((rest_of done ++ line) ∷ [])) w.marks ∙ ap (λ r. is_mark (r ++ line) || false) w.rest ∙ ap (λ b. b || false) plain;
}

-- a line that ends a table, after whole lines, is one of the lines
mark_inside : (text mark more : List ℕ) → rest_of text ≡ [] → is_mark mark ≡ true → list_any is_mark (lines_of (text ++ (mark ++ 10 ∷ more))) ≡ true
mark_inside text mark more whole ends =
    ap (list_any is_mark) (lines_of-append text (mark ++ 10 ∷ more))
    ∙ list_any-append is_mark (lines_of text) (lines_of (rest_of text ++ (mark ++ 10 ∷ more)))
    ∙ ap (λ r. list_any is_mark (lines_of text) || list_any is_mark (lines_of (r ++ (mark ++ 10 ∷ more)))) whole
    ∙ ap (λ ls. list_any is_mark (lines_of text) || list_any is_mark ls) (lines_of-line mark more (mark_line mark ends))
    ∙ or_right (list_any is_mark (lines_of text)) (is_mark mark || list_any is_mark (lines_of more))
    (or_left (is_mark mark) (list_any is_mark (lines_of more)) ends)

no_mark_inside : (given text mark more : List ℕ) → list_any is_mark (lines_of given) ≡ false → rest_of text ≡ [] → is_mark mark
    ≡ true → given ≡ text ++ (mark ++ 10 ∷ more) → ⊥
no_mark_inside given text mark more none whole ends is =
    let bad : false ≡ true = sym none ∙ ap (λ s. list_any is_mark (lines_of s)) is ∙ mark_inside text mark more whole ends in cc

-- what is left after whole lines is the rest of the bytes
rest_behind : (done m : List ℕ) → rest_of done ≡ [] → rest_of (done ++ m) ≡ rest_of m
rest_behind done m whole = rest_of-append done m ∙ ap (λ r. rest_of (r ++ m)) whole

-- whole lines that do not end a table are part of every table
behind : (done x text script : List ℕ) → IsWhole done → IsTable (done ++ x) text script → length done ≤ length text
behind done x text script w t = elim (le_or_lt (length done) (length text)) [
  | inl h ↦ h
  | inr h ↦ absurd (inside h (two_cuts text (t.mark ++ 10 ∷ script) done x (sym t.cut) (omega (arith, h))))
]
  where
    inside : length text < length done → (m : List ℕ) × (done ≡ text ++ m) × (t.mark ++ 10 ∷ script ≡ m ++ x) → ⊥
    inside h (m, is, rest) = by (cut_first m)
      where
        empty : rest_of m ≡ []
        empty = sym (rest_behind text m t.whole.rest) ∙ ap rest_of (sym is) ∙ w.rest

        by : HasNoLf m ⊎ ((l : List ℕ) × (after : List ℕ) × HasNoLf l × (m ≡ l ++ 10 ∷ after)) → ⊥
        by (inl one) =
            let none : m ≡ [] = sym (rest_of-bytes m one) ∙ empty in
            omega (arith, h, ap length is, ap length none, length-append text m)
        by (inr (l, after, one, cut)) =
            let same : l ≡ t.mark
            = same_line l (after ++ x) t.mark script one (mark_line t.mark t.ends) (sym (append_assoc l (10 ∷ after) x)
            ∙ ap (λ v. v ++ x) (sym cut) ∙ sym rest) in
            no_mark_inside done text l after w.marks t.whole.rest (ap is_mark same ∙ t.ends) (is ∙ ap (λ v. text ++ v) cut)

-- ---- what follows from the bytes that came

table_on : (done rest more text script : List ℕ) → IsTable ((done ++ rest) ++ more) text script → IsTable (done ++ (rest ++ more)) text script
table_on done rest more text script t = subst (λ s. IsTable s text script) (append_assoc done rest more) t

-- too many whole lines
pub long_lines : (done rest : List ℕ) → IsWhole done → table_limit < length done → IsLong (done ++ rest)
long_lines done rest w h more text script t = omega (arith, h, behind done (rest ++ more) text script w (table_on done rest more text script t))

begins_dashes : (line rest p : List ℕ) → is_mark line ≡ true → line ≡ rest ++ p → BeginsMark rest
begins_dashes line rest p ends is = elim (mark_is line ends) [
  | inl e ↦ (p ++ 13 ∷ [], sym (append_assoc rest p (13 ∷ [])) ∙ ap (λ v. v ++ 13 ∷ []) (sym is ∙ e))
  | inr e ↦ (p, sym is ∙ e)
]

-- a line that begins with bytes without a line feed
begins : (mark script rest more : List ℕ) → is_mark mark ≡ true → HasNoLf rest → mark ++ 10 ∷ script ≡ rest ++ more → BeginsMark rest
begins mark script rest more ends lacks e = elim (le_or_lt (length rest) (length mark)) [
  | inl h ↦ let (p, is, later) = two_cuts rest more mark (10 ∷ script) (sym e) h in begins_dashes mark rest p ends is
  | inr h ↦ absurd (over h (two_cuts mark (10 ∷ script) rest more e (omega (arith, h))))
]
  where
    feed : (p : List ℕ) → HasNoLf p → 10 ∷ script ≡ p ++ more → 0 < length p → ⊥
    feed [] l e h = omega (arith, h)
    feed (y ∷ p) l e h =
        let is : y ≡ 10 = cc in
        let bad : HasNoLf (10 ∷ p) = subst (λ v. HasNoLf (v ∷ p)) is l in cc

    over : length mark < length rest → (p : List ℕ) × (rest ≡ mark ++ p) × (10 ∷ script ≡ p ++ more) → ⊥
    over h (p, is, later) = feed p (right_line mark p (subst HasNoLf is lacks)) later (omega (arith, h, ap length is, length-append mark p))

-- whole lines and the beginning of a line, after which no table that is short enough can end
pub long_line : (done rest : List ℕ) → IsWhole done → HasNoLf rest → (MayEnd (length done) rest → ⊥) → IsLong (done ++ rest)
long_line done rest w lacks never more text script t = by (two_cuts done (rest ++ more) text (u.mark ++ 10 ∷ script) u.cut
    (behind done (rest ++ more) text script w u))
  where
    u : IsTable (done ++ (rest ++ more)) text script
    u = table_on done rest more text script t

    full : table_limit ≤ length done + length rest
    full = elim (le_or_lt table_limit (length done + length rest)) [
      | inl h ↦ h
      | inr h ↦ absurd (never (inr h))
    ]

    by : (m : List ℕ) × (text ≡ done ++ m) × (rest ++ more ≡ m ++ (u.mark ++ 10 ∷ script)) → table_limit < length text
    by (m, is, after) = elim (le_or_lt (length m) (length rest)) [
      | inl h ↦ absurd (within (two_cuts m (u.mark ++ 10 ∷ script) rest more (sym after) h))
      | inr h ↦ omega (arith, h, full, ap length is, length-append done m)
    ]
      where
        within : (q : List ℕ) × (rest ≡ m ++ q) × (u.mark ++ 10 ∷ script ≡ q ++ more) → ⊥
        within (q, cut, later) =
            let one : HasNoLf m = left_line m q (subst HasNoLf cut lacks) in
            let none : m ≡ [] = sym (rest_of-bytes m one) ∙ sym (rest_behind done m w.rest) ∙ ap rest_of (sym is) ∙ u.whole.rest in
            let same : rest ≡ q = cut ∙ ap (λ v. v ++ q) none in
            never (inl (begins u.mark script rest more u.ends lacks (later ∙ ap (λ v. v ++ more) (sym same))))

-- ---- bytes after which a table may still end

pub still_open : (bytes : List ℕ) (at : ℕ) → IsSoFar bytes at → IsOpen bytes
still_open bytes at s = by s.may (is_mark s.rest) refl
  where
    none : list_any is_mark (lines_of bytes) ≡ false
    none = ap (λ v. list_any is_mark (lines_of v)) s.cut ∙ ap (list_any is_mark) (lines_of-more_bytes s.done s.rest s.line) ∙ s.whole.marks

    fits : length s.done ≤ table_limit
    fits = omega (arith, s.few, s.count)

    ending : (more mark script : List ℕ) → s.rest ++ more ≡ mark ++ 10 ∷ script → is_mark mark ≡ true → IsOpen bytes
    ending more mark script e ends = record {
      marks = none;
      more = more;
      text = s.done;
      script = script;
      table = record { mark = mark; cut = ap (λ v. v ++ more) s.cut ∙ append_assoc s.done s.rest more ∙ ap (λ v. s.done ++ v) e; ends = ends; whole = s.whole };
      short = fits;
    }

    by : MayEnd at s.rest → (v : Bool) → is_mark s.rest ≡ v → IsOpen bytes
    by (inl (p, is)) v e = ending (p ++ 10 ∷ []) (codes "---" ++ 13 ∷ []) [] (sym (append_assoc s.rest p (10 ∷ [])) ∙ ap (λ v. v ++ 10 ∷ []) is) refl
    by (inr h) true e = ending (10 ∷ []) s.rest [] refl e
    by (inr h) false e = record {
      marks = none;
      more = 10 ∷ (codes "---" ++ 10 ∷ []);
      text = s.done ++ (s.rest ++ 10 ∷ []);
      script = [];
      table = record {
        mark = codes "---";
        cut = ap (λ v. v ++ 10 ∷ (codes "---" ++ 10 ∷ [])) s.cut ∙ append_assoc s.done s.rest (10 ∷ (codes "---" ++ 10 ∷ []))
            ∙ ap (λ v. s.done ++ v) (sym (append_assoc s.rest (10 ∷ []) (codes "---" ++ 10 ∷ [])))
            ∙ sym (append_assoc s.done (s.rest ++ 10 ∷ []) (codes "---" ++ 10 ∷ []));
        ends = refl;
        whole = whole_line s.done s.rest s.whole s.line e;
      };
      short = omega (arith, h, s.count, length-append s.done (s.rest ++ 10 ∷ []), length-append s.rest (10 ∷ []));
    }

-- more bytes, after those that came
pub more_lines : (bytes pulled : List ℕ) (at : ℕ) → IsSoFar bytes at → HasLines (bytes ++ pulled) at
more_lines bytes pulled at s = record {
  done = s.done;
  rest = s.rest ++ pulled;
  cut = ap (λ v. v ++ pulled) s.cut ∙ append_assoc s.done s.rest pulled;
  count = s.count;
  whole = s.whole;
}

-- the script begins in the last pull
pub script_is_new : (before pulled text script : List ℕ) → list_any is_mark (lines_of before) ≡ false → IsTable (before ++ pulled)
    text script → length script < length pulled
script_is_new before pulled text script none t = elim (le_or_lt (length pulled) (length script)) [
  | inr h ↦ h
  | inl h ↦ absurd
      (old (two_cuts (text ++ (t.mark ++ 10 ∷ [])) script before pulled (sym again)
      (omega (arith, h, ap length again, length-append before pulled, length-append (text ++ (t.mark ++ 10 ∷ [])) script))))
]
  where
    again : before ++ pulled ≡ (text ++ (t.mark ++ 10 ∷ [])) ++ script
    again = t.cut ∙ ap (λ v. text ++ v) (sym (append_assoc t.mark (10 ∷ []) script)) ∙ sym (append_assoc text (t.mark ++ 10 ∷ []) script)

    old : (m : List ℕ) × (before ≡ (text ++ (t.mark ++ 10 ∷ [])) ++ m) × (script ≡ m ++ pulled) → ⊥
    old (m, is, later) =
        no_mark_inside before text t.mark m none t.whole.rest t.ends
        (is ∙ append_assoc text (t.mark ++ 10 ∷ []) m ∙ ap (λ v. text ++ v) (append_assoc t.mark (10 ∷ []) m))

-- ---- the places of a table's end

pub table_at : (bytes done line after : List ℕ) (at next : ℕ) → bytes ≡ done ++ (line ++ 10 ∷ after) → at ≡ length done → next ≡ at + length line + 1
    → IsWhole done → is_mark line ≡ true → IsTable bytes (take at bytes) (drop next bytes)
table_at bytes done line after at next is count places w ends = record {
  mark = line;
  cut = is ∙ ap (λ v. v ++ (line ++ 10 ∷ after)) (sym text_is) ∙ ap (λ v. take at bytes ++ (line ++ 10 ∷ v)) (sym script_is);
  ends = ends;
  whole = subst IsWhole (sym text_is) w;
}
  where
    text_is : take at bytes ≡ done
    text_is = ap (λ v. take at v) is ∙ ap (λ n. take n (done ++ (line ++ 10 ∷ after))) count ∙ take-append_seam done (line ++ 10 ∷ after)

    front : bytes ≡ (done ++ (line ++ 10 ∷ [])) ++ after
    front = is ∙ ap (λ v. done ++ v) (sym (append_assoc line (10 ∷ []) after)) ∙ sym (append_assoc done (line ++ 10 ∷ []) after)

    count_is : next ≡ length (done ++ (line ++ 10 ∷ []))
    count_is = omega (arith, places, count, length-append done (line ++ 10 ∷ []), length-append line (10 ∷ []))

    script_is : drop next bytes ≡ after
    script_is = ap (λ v. drop next v) front ∙ ap (λ n. drop n ((done ++ (line ++ 10 ∷ [])) ++ after)) count_is ∙ drop-append_seam
        (done ++ (line ++ 10 ∷ [])) after

-- while a table may still end, at most 65,540 bytes have come
pub so_far_fits : (bytes : List ℕ) (at : ℕ) → IsSoFar bytes at → length bytes ≤ 65540
so_far_fits bytes at s = elim s.may [
  | inl (p, is) ↦ omega (arith, s.few, s.count, ap length s.cut, length-append s.done s.rest, ap length is, length-append s.rest p)
  | inr h ↦ omega (arith, h, s.count, ap length s.cut, length-append s.done s.rest)
]

-- before the first read
pub nothing_yet : (bytes : List ℕ) → bytes ≡ [] → IsSoFar bytes 0
nothing_yet bytes e = record {
  done = [];
  rest = [];
  cut = e;
  count = refl;
  whole = record { rest = refl; marks = refl };
  line = refl;
  few = omega arith;
  may = inr (omega arith);
}
