-- Pieces of a file that were read one behind another.
--     read_more, read_failed        one more piece was read, or was not
--     copied_more, copied_failed    one more piece was read and written, or was not
use Rattle.std.proofs.Common.{◌≡◌, ◌∙◌, ◌<◌, ◌≤◌, ◌+◌, ◌-◌, ◌*◌, ◌/◌, ◌%◌, ◌^◌, ℕ, List, [], ◌∷◌, ◌++◌, length, sym, ap, subst, refl, arith, append_assoc}
use Rattle.std.specs.Prelude.{IfOk, Result, Ok, Err}
use Rattle.std.specs.List.{concat}
use Rattle.std.proofs.lemmas.List.{append-nil, length-append}
use Rattle.std.proofs.lemmas.List.Folds.{concat-append}
use Rattle.judy_disk.specs.Acts.{Act, GivesAt}
use Rattle.judy_disk.specs.Acts.Act.{Did, Failed, GaveAt}
use Rattle.judy_disk.specs.Acts.Ask.{ReadAt, Write}
use Rattle.judy_disk.specs.Rewriting.{Copies, CopiesPiece, ReadsTorn, copied, end_after, len_before_zeros, reads}
use Rattle.judy_disk.specs.declared.faults.DiskFault.{DiskFault}
use Rattle.judy_disk.specs.declared.names.Place.{Place}
use Rattle.judy_disk.specs.declared.names.Place.TheVariants as place
use Rattle.judy_disk.specs.declared.rewriting.Span.{Span}
use Rattle.judy_disk.proofs.Zeros.{before_zeros_append, before_zeros_bound}

-- one more piece behind others
joined : (pieces : List (List ℕ)) (piece : List ℕ) → concat (pieces ++ piece ∷ []) ≡ concat pieces ++ piece
joined pieces piece = concat-append pieces (piece ∷ []) ∙ ap (λ v. concat pieces ++ v) (append-nil piece)

longer : (pieces : List (List ℕ)) (piece : List ℕ) → length (concat (pieces ++ piece ∷ [])) ≡ length (concat pieces) + length piece
longer pieces piece = ap length (joined pieces piece) ∙ length-append (concat pieces) piece

reads_more : (p : Place) (from : ℕ) (pieces : List (List ℕ)) (piece : List ℕ)
    → reads p from (pieces ++ piece ∷ []) ≡ reads p from pieces ++ GaveAt p (from + length (concat pieces)) piece ∷ []
reads_more p from [] piece = ap (λ v. GaveAt p v piece ∷ []) (omega arith)
reads_more p from (x ∷ pieces) piece =
    let at : (from + length x) + length (concat pieces) ≡ from + length (x ++ concat pieces) = omega (arith, length-append x (concat pieces)) in
    ap (λ v. GaveAt p from x ∷ v) (reads_more p (from + length x) pieces piece
    ∙ ap (λ v. reads p (from + length x) pieces ++ GaveAt p v piece ∷ []) at)

-- what was read so far: these bytes, of which so many come before zeros
pub record HasRead (p : Place) (from at n : ℕ) (acts acts' : List Act) : Type 0 where
  pub pieces : List (List ℕ)
  pub are : acts' ≡ acts ++ reads p from pieces
  pub len : length (concat pieces) ≡ at
  pub end : n ≡ len_before_zeros (concat pieces)

pub read_none : (p : Place) (from : ℕ) (acts : List Act) → HasRead p from 0 0 acts acts
read_none p from acts = record { pieces = []; are = sym (append-nil acts); len = refl; end = refl }

pub read_more : {T : Type 0} (p : Place) (from at n : ℕ) (acts before after : List Act) (piece : List ℕ) (m next : ℕ) (done : T)
    → HasRead p from at n acts before → GivesAt {T = T} p (from + at) (Ok done) piece before after → m ≡ end_after n at piece
    → next ≡ at + length piece → HasRead p from next m acts after
read_more p from at n acts before after piece m next done was gives is to = record {
  pieces = was.pieces ++ piece ∷ [];
  are = gives ∙ ap (λ v. v ++ GaveAt p (from + at) piece ∷ []) was.are
      ∙ append_assoc acts (reads p from was.pieces) (GaveAt p (from + at) piece ∷ [])
      ∙ ap (λ v. acts ++ v) (ap (λ v. reads p from was.pieces ++ GaveAt p (from + v) piece ∷ []) (sym was.len) ∙ sym (reads_more p from was.pieces piece));
  len = longer was.pieces piece ∙ ap (λ v. v + length piece) was.len ∙ sym to;
  end = is ∙ ap (λ v. end_after v at piece) was.end ∙ ap (λ v. end_after (len_before_zeros (concat was.pieces)) v piece) (sym was.len)
      ∙ sym (before_zeros_append (concat was.pieces) piece) ∙ ap len_before_zeros (sym (joined was.pieces piece));
}

pub read_failed : (p : Place) (from at n len : ℕ) (acts before after : List Act) (piece : List ℕ) (why : DiskFault)
    → HasRead p from at n acts before → GivesAt {T = Unit {0}} p (from + at) (Err why) piece before after → ReadsTorn p from len (Err why) acts after
read_failed p from at n len acts before after piece why was (told, is) =
    let are = is ∙ ap (λ v. v ++ Failed (ReadAt p (from + at) (length piece)) ∷ []) was.are
    ∙ ap (λ v. (acts ++ reads p from was.pieces) ++ Failed (ReadAt p (from + v) (length piece)) ∷ []) (sym was.len) in
    (told, (was.pieces, length piece, are))

copied_behind : (span : Span) (at : ℕ) (pieces : List (List ℕ)) (piece : List ℕ)
    → copied span at (pieces ++ piece ∷ []) ≡ copied span at pieces
    ++ GaveAt (place.Segment span.segment) (span.from + (at + length (concat pieces))) piece ∷ Did (Write span.to (at + length (concat pieces)) piece) ∷ []
copied_behind span at [] piece =
    ap (λ v. GaveAt (place.Segment span.segment) (span.from + v) piece ∷ Did (Write span.to v piece) ∷ []) (omega arith)
copied_behind span at (x ∷ pieces) piece =
    let same : (at + length x) + length (concat pieces) ≡ at + length (x ++ concat pieces) = omega (arith, length-append x (concat pieces)) in
    ap (λ v. GaveAt (place.Segment span.segment) (span.from + at) x ∷ Did (Write span.to at x) ∷ v) (copied_behind span (at + length x) pieces piece
    ∙ ap (λ v. copied span (at + length x) pieces ++ GaveAt (place.Segment span.segment) (span.from + v) piece ∷ Did (Write span.to v piece) ∷ []) same)

-- what was copied so far
pub record HasCopied (span : Span) (at : ℕ) (acts acts' : List Act) : Type 0 where
  pub pieces : List (List ℕ)
  pub len : length (concat pieces) ≡ at
  pub are : acts' ≡ acts ++ copied span 0 pieces

pub copied_none : (span : Span) (acts : List Act) → HasCopied span 0 acts acts
copied_none span acts = record { pieces = []; len = refl; are = sym (append-nil acts) }

pub copied_more : {T : Type 0} (span : Span) (at next : ℕ) (acts before after : List Act) (piece : List ℕ) (done : T) → HasCopied span at acts before
    → CopiesPiece {T = T} span at (Ok done) piece before after → next ≡ at + length piece → HasCopied span next acts after
copied_more span at next acts before after piece done was copies to =
    let behind = copied_behind span 0 was.pieces piece in
    let zero_at : 0 + length (concat was.pieces) ≡ at = omega (arith, was.len) in
    record {
      pieces = was.pieces ++ piece ∷ [];
      len = longer was.pieces piece ∙ ap (λ v. v + length piece) was.len ∙ sym to;
      are = copies ∙ append_assoc before (GaveAt (place.Segment span.segment) (span.from + at) piece ∷ []) (Did (Write span.to at piece) ∷ [])
          ∙ ap (λ v. v ++ GaveAt (place.Segment span.segment) (span.from + at) piece ∷ Did (Write span.to at piece) ∷ []) was.are
          ∙ append_assoc acts (copied span 0 was.pieces) (GaveAt (place.Segment span.segment) (span.from + at) piece ∷ Did (Write span.to at piece) ∷ [])
          ∙ ap (λ v. acts ++ v) (ap (λ v. copied span 0 was.pieces ++ GaveAt (place.Segment span.segment) (span.from + v) piece ∷ Did (Write span.to v piece) ∷ []) (sym zero_at) ∙ sym behind);
    }

pub copied_failed : (span : Span) (at len : ℕ) (acts before after : List Act) (piece : List ℕ) (why : DiskFault) → HasCopied span at acts before → at ≤ len
    → CopiesPiece {T = Unit {0}} span at (Err why) piece before after → Copies {T = Unit {0}} span len (Err why) acts after
copied_failed span at len acts before after piece why was small copies = (
  was.pieces,
  piece,
  subst (λ (v : ℕ). v ≤ len) (sym was.len) small,
  subst (λ (v : ℕ). CopiesPiece {T = Unit {0}} span v (Err why) piece (acts ++ copied span 0 was.pieces) after) (sym was.len)
      (subst (λ (v : List Act). CopiesPiece {T = Unit {0}} span at (Err why) piece v after) was.are copies),
)

-- the last piece
pub copied_last : {T : Type 0} (span : Span) (at len : ℕ) (acts before after : List Act) (piece : List ℕ) (r : Result T DiskFault)
    → HasCopied span at acts before → CopiesPiece span at r piece before after → len ≡ at + length piece → Copies span len r acts after
copied_last span at len acts before after piece (Ok done) was copies to =
    let all = copied_more span at len acts before after piece done was copies to in (all.pieces, all.len, all.are)
copied_last span at len acts before after piece (Err why) was copies to =
    copied_failed span at len acts before after piece why was (omega (arith, to)) copies

-- the whole pieces of a length
pub whole_pieces : (len i : ℕ) → i ≡ len / 65536 → i * 65536 ≡ len - len % 65536
whole_pieces len i is = omega (arith, is)

-- what comes before zeros fits a word
pub torn_fits : (p : Place) (from len : ℕ) (r : Result ℕ DiskFault) (acts acts' : List Act) → ReadsTorn p from len r acts acts'
    → from + len < 2 ^ 64 → IfOk r (λ n. from + n < 2 ^ 64)
torn_fits p from len (Ok n) acts acts' (pieces, are, long, is) fits =
    let bound = before_zeros_bound (concat pieces) in omega (arith, bound, long, is, fits)
torn_fits p from len (Err why) acts acts' h fits = tt
