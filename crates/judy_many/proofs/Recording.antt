-- The records of lines.
--     recorded         the record of a line is that of its call
--     is_short         a name and a line make a record that fits
--     noted_then       the records of more lines
use Rattle.std.proofs.Common.{◌≡◌, inl, inr, ◌≤◌, ℕ, Bool, true, false, not, ◌==◌, List, [], ◌∷◌, ◌++◌, length, Option, None, Some, arith, sym, ◌∙◌, ap, subst, refl, append_assoc, append-nil}
use Rattle.std.specs.List.{list_all}
use Rattle.std.specs.Prelude.{◌&&◌, IsTrue, nat_le}
use Rattle.std.proofs.lemmas.Bool.Decides.{eqb_tells, nat_tests}
use Rattle.judy_journal.specs.Journals.{Commit, is_mark}
use Rattle.judy_journal.specs.Writes.{IsShortRecord}
use Rattle.judy_model.specs.declared.replies.Reply.{Reply}
use Rattle.judy_model.specs.declared.requests.Line.{Line}
use Rattle.judy_model.specs.declared.requests.Line.TheVariants as request
use Rattle.judy_model.specs.declared.calls.Call.{Call}
use Rattle.judy_model.specs.Grammar.{is_name, is_name_byte}
use Rattle.judy_model.specs.Reading.{request_of}
use Rattle.judy_model.specs.Speakers.{Speaker}
use Rattle.judy_model.specs.Stream.{Heard, Login, event_of, heard_request, speaker_after}
use Rattle.judy_model.specs.Stream.Heard.{TooLong, Unclear, Asked}
use Rattle.judy_protocol.specs.Plain.{counts, has_changed, short_line}
use Rattle.judy_protocol.proofs.lemmas.ShortLines.{short-request}
use Rattle.judy_protocol.specs.Talks.{HasNoLf, heard_bare}
use Rattle.judy_many.specs.Books.{Journal, noted_by}
use Rattle.judy_many.specs.Records.{IsRecord, IsRecorded, records_of}
use Rattle.judy_many.specs.Sessions.{Turn, calls_if, records_in}

-- ---- the record of a line

-- a line that asks for a call is not too long, and spells it
asked_line : (bare : Option (List ℕ)) (call : Call) → Asked (request.Call call) ≡ heard_bare bare
    → (line : List ℕ) × (bare ≡ Some line) × (request_of line ≡ Some (request.Call call))
asked_line None call e = absurd (apart e)
  where
    apart : Asked (request.Call call) ≡ TooLong → ⊥
    apart e = cc
asked_line (Some line) call e = (line, refl, spelled (request_of line) e)
  where
    spelled : (asked : Option Line) → Asked (request.Call call) ≡ heard_request asked → asked ≡ Some (request.Call call)
    spelled None e = absurd (apart e)
      where
        apart : Asked (request.Call call) ≡ Unclear → ⊥
        apart e = cc
    spelled (Some asked) e = cc

is_record : (names : ℕ → List ℕ) (call : Call) (who : Speaker) (bare : Option (List ℕ)) (changed : Bool) → Asked (request.Call call) ≡ heard_bare bare
    → IsRecord changed (names who.tenant) call (records_of changed names (Some who) bare)
is_record names call who bare false e = refl
is_record names call who bare true e =
    let (line, is, spells) = asked_line bare call e in
    subst (λ b. IsRecord true (names who.tenant) call (records_of true names (Some who) b)) (sym is) (short_line line, refl, short-request line ∙ spells)

pub unrecorded : (names : ℕ → List ℕ) (who : Option Speaker) (bare : Option (List ℕ)) (changed : Bool) → changed ≡ false → records_of changed names who bare ≡ []
unrecorded names who bare changed e = rw e refl

pub recorded : (login : Login) (names : ℕ → List ℕ) (line : Heard) (bare : Option (List ℕ)) (who who' : Option Speaker) (replies : List Reply) (changed : Bool)
    → line ≡ heard_bare bare → who' ≡ speaker_after login who line → changed ≡ has_changed (event_of line who) replies
    → IsRecorded names (event_of line who) replies (records_of changed names who' bare)
recorded login names TooLong bare who who' replies changed e f g = unrecorded names who' bare changed g
recorded login names Unclear bare who who' replies changed e f g = unrecorded names who' bare changed g
recorded login names (Asked (request.Auth name token)) bare who who' replies changed e f g = unrecorded names who' bare changed g
recorded login names (Asked request.Quit) bare who who' replies changed e f g = unrecorded names who' bare changed g
recorded login names (Asked request.Ping) bare who who' replies changed e f g = unrecorded names who' bare changed g
recorded login names (Asked request.Hello) bare who who' replies changed e f g = unrecorded names who' bare changed g
recorded login names (Asked (request.Call call)) bare None who' replies changed e f g = unrecorded names who' bare changed g
recorded login names (Asked (request.Call call)) bare (Some who) who' [] changed e f g = unrecorded names who' bare changed g
recorded login names (Asked (request.Call call)) bare (Some who) who' (reply ∷ replies) changed e f g =
    subst (λ w. IsRecord (counts (record { speaker = who; call = call }) reply) (names who.tenant) call (records_of changed names w bare)) (sym f)
    (subst (λ c. IsRecord (counts (record { speaker = who; call = call }) reply) (names who.tenant) call (records_of c names (Some who) bare)) (sym g)
    (is_record names call who bare (counts (record { speaker = who; call = call }) reply) e))

-- a line that is refused for the journal leaves none
pub recorded_unless : (barred : Bool) (login : Login) (names : ℕ → List ℕ) (line : Heard) (bare : Option (List ℕ)) (who who' : Option Speaker) (replies : List Reply) (changed : Bool)
    → line ≡ heard_bare bare → who' ≡ speaker_after login who line → changed ≡ has_changed (calls_if barred line who) replies
    → IsRecorded names (calls_if barred line who) replies (records_of changed names who' bare)
recorded_unless true login names line bare who who' replies changed e f g = unrecorded names who' bare changed g
recorded_unless false login names line bare who who' replies changed e f g = recorded login names line bare who who' replies changed e f g

-- ---- a record that fits

name_byte : (b n : ℕ) → is_name_byte n ≡ false → is_name_byte b ≡ true → not (b == n) ≡ true
name_byte b n bad good = elim (eqb_tells b n) [
  | inl p ↦ absurd (never (sym good ∙ ap is_name_byte p.1 ∙ bad))
  | inr p ↦ ap not p.0
]
  where
    never : true ≡ false → ⊥
    never e = cc

left : (a b : Bool) → (a && b) ≡ true → a ≡ true
left true b h = refl
left false b h = h

right : (a b : Bool) → (a && b) ≡ true → b ≡ true
right true b h = h
right false b h = absurd (never h)
  where
    never : false ≡ true → ⊥
    never e = cc

both : (a b : Bool) → a ≡ true → b ≡ true → (a && b) ≡ true
both a b e f = rw e (rw f refl)

-- a name and what comes after it
after_name : (name more : List ℕ) → list_all is_name_byte name ≡ true → list_all (λ b. not (b == 10)) more ≡ true → list_all (λ b. not (b == 10)) (name ++ more) ≡ true
after_name [] more h k = k
after_name (b ∷ name) more h k =
    both _ _ (name_byte b 10 refl (left _ _ h)) (after_name name more (right _ _ h) k)

no_mark : (name line : List ℕ) → list_all is_name_byte name ≡ true → not (is_mark (name ++ 32 ∷ line)) ≡ true
no_mark [] line h = refl
no_mark (b ∷ name) line h = name_byte b 35 refl (left _ _ h)

pub is_short : (name line : List ℕ) → IsTrue (is_name name) → HasNoLf line → length line ≤ 4096 → IsShortRecord name line
is_short name line h k short =
    let bytes = right _ _ h in
    let few = right _ _ (left _ _ h) in
    record {
      short_name = le_of (length name) 32 few;
      short_request = short;
      is = both _ _ (after_name name (32 ∷ line) bytes k) (no_mark name line bytes);
    }
  where
    le_of : (m n : ℕ) → nat_le m n ≡ true → m ≤ n
    le_of m n e = grind (arith, nat_tests, e)

-- ---- records of more lines

pub noted_none : (j : Option Journal) → j ≡ noted_by [] j
noted_none None = refl
noted_none (Some j) = ap (λ r. Some (record j { records = r })) (sym (append-nil j.records))

pub noted_then : (rs ss : Commit) (j : Option Journal) → noted_by ss (noted_by rs j) ≡ noted_by (rs ++ ss) j
noted_then rs ss None = refl
noted_then rs ss (Some j) = ap (λ r. Some (record j { records = r })) (append_assoc j.records rs ss)

pub records_in-append : (ts us : List Turn) → records_in (ts ++ us) ≡ records_in ts ++ records_in us
records_in-append [] us = refl
records_in-append (t ∷ ts) us = ap (λ v. t.records ++ v) (records_in-append ts us) ∙ sym (append_assoc t.records (records_in ts) (records_in us))
