-- Steps of one session, one after another.
use Rattle.std.proofs.Common.{◌≡◌, ℕ, Bool, true, false, ◌&&◌, ◌||◌, List, [], ◌∷◌, ◌++◌, map, Option, None, Some, sym, ◌∙◌, ap, subst, refl, append_assoc, append-nil}
use Rattle.std.specs.Prelude.{if◌then◌else◌}
use Rattle.std.proofs.lemmas.List.{map-append}
use Rattle.std.proofs.lemmas.List.Folds.{list_any-append}
use Rattle.judy_model.proofs.lemmas.LineLemmas.{lines_of-push, rest_of-push, lines_of-more_bytes, rest_of-more_bytes}
use Rattle.judy_model.proofs.lemmas.StreamLemmas.{through_quit-none}
use Rattle.judy_model.specs.declared.requests.Line.TheVariants as request
use Rattle.judy_model.specs.Speakers.{Speaker}
use Rattle.judy_model.specs.Stream.{Heard, Login, lines_of, rest_of, heard, is_quit, through_quit, speaker_after, answer_from}
use Rattle.judy_model.specs.Stream.Heard.{TooLong, Unclear, Asked}
use Rattle.judy_model.specs.declared.replies.Reply.{Reply}
use Rattle.judy_protocol.specs.Services.{HasLoggedIn}
use Rattle.judy_protocol.specs.Serving.{heard_in, asks_to_quit}
use Rattle.judy_protocol.specs.Talks.{HasNoLf, Holds, LineGrows, heard_bare}
use Rattle.judy_protocol.specs.declared.held.Held.{Held}
use Rattle.judy_many.specs.Barred.{AreBarred, HasRunUnless, asks_change}
use Rattle.judy_many.specs.Books.{Journal, noted_by}
use Rattle.judy_many.specs.Others.{AreLimited, claim_in, is_crowded}
use Rattle.judy_many.specs.Records.{IsRecorded, records_of}
use Rattle.judy_many.specs.Rules.{Rules}
use Rattle.judy_many.specs.Sessions.{Turn, answer_if, barred_answer, calls_if, crowded_answer, lines_in, records_in, text_of, texts, unless_crowded, Speaks, AreTurns, Hears, Steps}
use Rattle.judy_many.proofs.Claims.{claim_is, crowded_claims, no_record_unless}
use Rattle.judy_many.proofs.Recording.{noted_none, noted_then, recorded_unless, records_in-append}

-- ---- lists of turns

pub lines_in-append : (ts us : List Turn) → lines_in (ts ++ us) ≡ lines_in ts ++ lines_in us
lines_in-append ts us = map-append (λ t. t.line) ts us

pub texts-append : (ts us : List Turn) → texts (ts ++ us) ≡ texts ts ++ texts us
texts-append [] us = refl
texts-append (t ∷ ts) us = ap (λ v. text_of t ++ v) (texts-append ts us) ∙ sym (append_assoc (text_of t) (texts ts) (texts us))

pub Speaks-append : (who mid last : Option Speaker) (ts us : List Turn) → Speaks who ts mid → Speaks mid us last → Speaks who (ts ++ us) last
Speaks-append who mid last [] us h k = subst (λ w. Speaks w us last) h k
Speaks-append who mid last (t ∷ ts) us h k = (h.0, h.1, Speaks-append t.after mid last ts us h.2 k)

pub AreTurns-append : {S : Type 0} (rules : Rules S) (first mid last : S) (ts us : List Turn) → AreTurns rules first ts mid → AreTurns rules mid us last
    → AreTurns rules first (ts ++ us) last
AreTurns-append rules first mid last [] us h k = subst (λ s. AreTurns rules s us last) h k
AreTurns-append rules first mid last (t ∷ ts) us h k = (h.0, h.1, AreTurns-append rules h.0 mid last ts us h.2 k)

-- the answer to a line by names and tokens is that by the speaker that they give
pub answer_is : (login : Login) (who : Option Speaker) (line : Heard) (replies : List Reply)
    → answer_from login who (line ∷ []) replies ≡ answer_from (λ name token. speaker_after login who line) who (line ∷ []) replies
answer_is login who TooLong replies = refl
answer_is login who Unclear replies = refl
answer_is login who (Asked (request.Auth name token)) replies = refl
answer_is login who (Asked request.Quit) replies = refl
answer_is login who (Asked request.Ping) replies = refl
answer_is login who (Asked request.Hello) replies = refl
answer_is login None (Asked (request.Call call)) replies = refl
answer_is login (Some speaker) (Asked (request.Call call)) [] = refl
answer_is login (Some speaker) (Asked (request.Call call)) (reply ∷ replies) = refl

-- one line is served, whatever it asks for
one_line : (h : Heard) → through_quit (h ∷ []) ≡ h ∷ []
one_line TooLong = refl
one_line Unclear = refl
one_line (Asked (request.Auth name token)) = refl
one_line (Asked request.Quit) = refl
one_line (Asked request.Ping) = refl
one_line (Asked request.Hello) = refl
one_line (Asked (request.Call call)) = refl

or_false : (b : Bool) → (b || false) ≡ b
or_false true = refl
or_false false = refl

-- ---- bytes that are heard

Hears-append : (a b c : Held) (bytes more : List ℕ) (ls ms : List Heard) → Hears a bytes ls b → Hears b more ms c → Hears a (bytes ++ more) (ls ++ ms) c
Hears-append a b c bytes more ls ms h k = record {
  lines = λ stream held.
      ap heard_in (sym (append_assoc stream bytes more))
      ∙ k.lines (stream ++ bytes) (h.holds stream held)
      ∙ ap (λ v. v ++ ms) (h.lines stream held)
      ∙ append_assoc (heard_in stream) ls ms;
  holds = λ stream held. subst (λ s. Holds (rest_of s) c) (append_assoc stream bytes more) (k.holds (stream ++ bytes) (h.holds stream held));
}

-- ---- steps

module _ {S : Type 0} (rules : Rules S) where
  -- nothing was heard
  pub Steps-none : (held : Held) (who : Option Speaker) (s : S) (answers : List ℕ) (journal : Option Journal)
      → Steps rules [] [] false held held who who s s answers answers journal journal
  Steps-none held who s answers journal = record {
    hears = record {
      lines = λ stream h. ap heard_in (append-nil stream) ∙ sym (append-nil (heard_in stream));
      holds = λ stream h. subst (λ r. Holds (rest_of r) held) (sym (append-nil stream)) h;
    };
    speaks = refl;
    run = refl;
    text = sym (append-nil answers);
    last = refl;
    quits = refl;
    noted = noted_none journal;
  }

  -- bytes that end no line were heard
  pub Steps-held : (chunk : List ℕ) (held held' : Held) (who : Option Speaker) (s : S) (answers : List ℕ) (journal : Option Journal) → HasNoLf chunk → LineGrows held chunk held'
      → Steps rules chunk [] false held held' who who s s answers answers journal journal
  Steps-held chunk held held' who s answers journal lacks grows = record {
    hears = record {
      lines = λ stream h. ap (map heard) (lines_of-more_bytes stream chunk lacks) ∙ sym (append-nil (heard_in stream));
      holds = λ stream h. subst (λ r. Holds r held') (sym (rest_of-more_bytes stream chunk lacks)) (grows (rest_of stream) h);
    };
    speaks = refl;
    run = refl;
    text = sym (append-nil answers);
    last = refl;
    quits = refl;
    noted = noted_none journal;
  }

  -- one line was run, or refused for the journal, and then refused if it was a log-in whose tenant has enough
  -- connections
  pub Steps-line : (chunk : List ℕ) (line : Heard) (quit : Bool) (held held' : Held) (who who' last : Option Speaker) (before mid after : S)
      (answers answers' text said : List ℕ) (journal journal' : Option Journal) (names : ℕ → List ℕ) (bare : Option (List ℕ)) (changed crowded barred bars : Bool) (most : Option ℕ) (others : List (Option Speaker)) → HasNoLf chunk → HasLoggedIn (rules.seen before).speakers who
      → ((rest : List ℕ) → Holds rest held → line ≡ heard (rest ++ chunk)) → Holds [] held'
      → HasRunUnless rules.made (rules.seen before).logins barred line who who' before mid text changed → barred ≡ (bars && asks_change who line)
      → crowded ≡ is_crowded most others (claim_in line who') → last ≡ unless_crowded crowded who' → said ≡ (if crowded then crowded_answer else text)
      → rules.noted mid last line said after
      → answers' ≡ answers ++ said → quit ≡ is_quit line
      → line ≡ heard_bare bare → names ≡ (rules.seen before).names → journal' ≡ noted_by (records_of changed names last bare) journal
      → (turn : Turn) × AreLimited most others (turn ∷ []) × AreBarred bars who (turn ∷ [])
      × Steps rules (chunk ++ 10 ∷ []) (turn ∷ []) quit held held' who last before after answers answers' journal journal'
  Steps-line chunk line quit held held' who who' last before mid after answers answers' text said journal journal' names bare changed crowded barred bars most others lacks known is empty t bar judged left says noted appended quits spelled same kept =
      let logins = (rules.seen before).logins in
      let claim = claim_in line who' in
      let records = records_of changed names last bare in
      let turn : Turn = record { who = who; line = line; replies = t.replies; after = last; records = records; claim = claim; crowded = crowded; barred = barred } in
      let claims : claim ≡ speaker_after logins None line = ap (claim_in line) t.speaks ∙ claim_is logins who line in
      let right = crowded_claims most others claim crowded judged in
      let spoken : answer_from logins who (line ∷ []) t.replies ≡ answer_from (λ name token. who') who (line ∷ []) t.replies
      = answer_is logins who line t.replies ∙ ap (λ w. answer_from (λ name token. w) who (line ∷ []) t.replies) (sym t.speaks) in
      let told : said ≡ text_of turn
      = says ∙ answered crowded barred line who who' last t.replies text left (t.text_is ∙ ap (λ a. if barred then barred_answer else a) spoken) in (
        turn,
        (judged, tt),
        (refl, bar, tt),
        record {
          hears = record {
            lines = λ stream h.
                ap (map heard) (lines_of-push stream chunk lacks) ∙ map-append heard (lines_of stream) ((rest_of stream ++ chunk) ∷ [])
                ∙ ap (λ l. heard_in stream ++ l ∷ []) (sym (is (rest_of stream) h));
            holds = λ stream h. subst (λ r. Holds r held') (sym (rest_of-push stream chunk lacks)) empty;
          };
          speaks = (refl, t.count, refl);
          run = (
            after,
            record {
              mid = mid;
              known = known;
              claims = claims;
              right = right;
              speaks = left ∙ ap (unless_crowded crowded) t.speaks;
              count = t.count;
              calls = t.run;
              noted = subst (λ w. rules.noted mid last line w after) told noted;
              recorded = subst (λ n. IsRecorded n (calls_if barred line who) t.replies records) same
                  (subst (IsRecorded names (calls_if barred line who) t.replies)
                  (sym (no_record_unless barred names line bare who who' last t.replies changed crowded left (λ e. right e) t.changed_is))
                  (recorded_unless barred logins names line bare who who' t.replies changed spelled t.speaks t.changed_is));
            },
            refl,
          );
          text = appended ∙ ap (λ v. answers ++ v) (told ∙ sym (append-nil (text_of turn)));
          last = one_line line;
          quits = quits ∙ sym (or_false (is_quit line));
          noted = kept ∙ ap (λ r. noted_by r journal) (sym (append-nil records));
        },
      )
    where
      answered : (crowded barred : Bool) (line : Heard) (who who' last : Option Speaker) (replies : List Reply) (text : List ℕ) → last ≡ unless_crowded crowded who'
          → text ≡ answer_if barred who' who line replies
          → (if crowded then crowded_answer else text) ≡ (if crowded then crowded_answer else answer_if barred last who line replies)
      answered true barred line who who' last replies text e f = refl
      answered false barred line who who' last replies text e f = f ∙ ap (λ w. answer_if barred w who line replies) (sym e)

  pub Steps-append : (used more : List ℕ) (ts us : List Turn) (quit : Bool) (a b c : Held) (who mid last : Option Speaker) (first between after : S)
      (answers answers' answers'' : List ℕ) (i j l : Option Journal)
      → Steps rules used ts false a b who mid first between answers answers' i j
      → Steps rules more us quit b c mid last between after answers' answers'' j l
      → Steps rules (used ++ more) (ts ++ us) quit a c who last first after answers answers'' i l
  Steps-append used more ts us quit a b c who mid last first between after answers answers' answers'' i j l h k = record {
    hears = subst (λ ls. Hears a (used ++ more) ls c) (sym (lines_in-append ts us))
        (Hears-append a b c used more (lines_in ts) (lines_in us) h.hears k.hears);
    speaks = Speaks-append who mid last ts us h.speaks k.speaks;
    run = AreTurns-append rules first between after ts us h.run k.run;
    text = k.text ∙ ap (λ v. v ++ texts us) h.text ∙ append_assoc answers (texts ts) (texts us)
        ∙ ap (λ v. answers ++ v) (sym (texts-append ts us));
    last = ap through_quit (lines_in-append ts us) ∙ through_quit-none (lines_in ts) (lines_in us) (sym h.quits)
        ∙ ap (λ v. lines_in ts ++ v) k.last ∙ sym (lines_in-append ts us);
    quits = k.quits ∙ sym (ap asks_to_quit (lines_in-append ts us) ∙ list_any-append is_quit (lines_in ts) (lines_in us)
        ∙ ap (λ b. b || asks_to_quit (lines_in us)) (sym h.quits));
    noted = k.noted ∙ ap (noted_by (records_in us)) h.noted ∙ noted_then (records_in ts) (records_in us) i
        ∙ ap (λ r. noted_by r i) (sym (records_in-append ts us));
  }
