-- How a connection goes on, line by line and pull by pull.
use Rattle.std.proofs.Common.{◌≡◌, ◌<◌, ℕ, ◌+◌, Bool, true, false, ◌||◌, List, [], ◌∷◌, ◌++◌, map, length, Option, None, sym, ◌∙◌, ap, ap₂}
use Rattle.std.proofs.Common.{subst, refl, arith, append_assoc, append-nil}
use Rattle.std.specs.Prelude.{zip}
use Rattle.std.specs.Io.KnownBytes.{Appends}
use Rattle.std.proofs.lemmas.List.{map-append, length-append}
use Rattle.std.proofs.lemmas.List.Folds.{list_any-append}
use Rattle.judy_model.specs.declared.replies.Reply.{Reply}
use Rattle.judy_model.specs.declared.requests.Line.TheVariants as request
use Rattle.judy_model.proofs.lemmas.LineLemmas.{lines_of-push, rest_of-push, lines_of-more_bytes, rest_of-more_bytes}
use Rattle.judy_model.specs.Speakers.{Speaker, Event}
use Rattle.judy_model.specs.Stream.{Heard, Login, lines_of, rest_of, heard, is_quit, through_quit, served, speaker_of, event_of, events_from, answer_from}
use Rattle.judy_model.specs.Stream.Heard.{TooLong, Unclear, Asked}
use Rattle.judy_model.proofs.lemmas.StreamLemmas.{speaker_of-append, events_from-append, answer_from-append, through_quit-none}
use Rattle.judy_protocol.specs.Services.{Made, AreMade}
use Rattle.judy_protocol.specs.Serving.{AreOneText, heard_in, asks_to_quit}
use Rattle.judy_protocol.specs.Talks.{HasNoLf, Holds, LineGrows, Completes, Turn, Turns, Gathers, Talk, Answered, Told, Hears}
use Rattle.judy_protocol.specs.declared.gathering.Batch.{Batch}
use Rattle.judy_protocol.specs.declared.gathering.Batch.TheVariants as batches
use Rattle.judy_protocol.specs.declared.held.Held.{Held}
use Rattle.judy_protocol.proofs.KnownBytes.{Appends-append}

-- ---- events in a row

pub zip-append : (es fs : List Event) (rs ss : List Reply) → length rs ≡ length es → zip (es ++ fs) (rs ++ ss) ≡ zip es rs ++ zip fs ss
zip-append [] fs [] ss h = refl
zip-append [] fs (r ∷ rs) ss h = absurd (omega arith)
zip-append (e ∷ es) fs [] ss h = absurd (omega arith)
zip-append (e ∷ es) fs (r ∷ rs) ss h = ap (λ v. (e, r) ∷ v) (zip-append es fs rs ss (omega arith))

pub AreMade-append : {S : Type 0} (made : Made S) (first mid last : S) (ps qs : List (Event × Reply))
    → AreMade made first ps mid → AreMade made mid qs last → AreMade made first (ps ++ qs) last
AreMade-append made first mid last [] qs h k = subst (λ s. AreMade made s qs last) h k
AreMade-append made first mid last (p ∷ ps) qs h k = (h.0, h.1, AreMade-append made h.0 mid last ps qs h.2 k)

-- replies to later lines change nothing before them
pub more_replies : (login : Login) (lines : List Heard) (replies later : List Reply) → length replies ≡ length (events_from login None lines)
    → answer_from login None lines replies ≡ answer_from login None lines (replies ++ later)
more_replies login lines replies later h =
    sym (ap (λ ls. answer_from login None ls (replies ++ later)) (sym (append-nil lines))
    ∙ answer_from-append login None lines [] replies later h ∙ append-nil (answer_from login None lines replies))

-- one line is served, whatever it asks for
one_line : (h : Heard) → through_quit (h ∷ []) ≡ h ∷ []
one_line TooLong = refl
one_line Unclear = refl
one_line (Asked (request.Auth name token)) = refl
one_line (Asked request.Quit) = refl
one_line (Asked request.Ping) = refl
one_line (Asked request.Hello) = refl
one_line (Asked (request.Call call)) = refl

one_is_some : (n : ℕ) → n ≡ 1 → 0 < n
one_is_some n h = omega (arith, h)

still_some : (lines more : List Heard) → 0 < length lines → 0 < length (lines ++ more)
still_some lines more h = omega (arith, h, length-append lines more)

or_false : (b : Bool) → (b || false) ≡ b
or_false true = refl
or_false false = refl

-- ---- bytes that complete lines

pub Completes-append : (a b c : Held) (bytes more : List ℕ) (ls ms : List Heard) → Completes a bytes ls b → Completes b more ms c
    → Completes a (bytes ++ more) (ls ++ ms) c
Completes-append a b c bytes more ls ms h k = record {
  heard = λ stream held.
      ap heard_in (sym (append_assoc stream bytes more))
      ∙ k.heard (stream ++ bytes) (subst (λ r. Holds r b) (sym (h.ended stream)) h.empty)
      ∙ ap (λ v. v ++ ms) (h.heard stream held)
      ∙ append_assoc (heard_in stream) ls ms;
  ended = λ stream. ap rest_of (sym (append_assoc stream bytes more)) ∙ k.ended (stream ++ bytes);
  empty = k.empty;
}

pub Completes-line : (held held' : Held) (chunk : List ℕ) (line : Heard) → HasNoLf chunk → ((rest : List ℕ) → Holds rest held → line ≡ heard (rest ++ chunk))
    → Holds [] held' → Completes held (chunk ++ 10 ∷ []) (line ∷ []) held'
Completes-line held held' chunk line lacks is empty = record {
  heard = λ stream h.
      ap (map heard) (lines_of-push stream chunk lacks) ∙ map-append heard (lines_of stream) ((rest_of stream ++ chunk) ∷ [])
      ∙ ap (λ l. heard_in stream ++ l ∷ []) (sym (is (rest_of stream) h));
  ended = λ stream. rest_of-push stream chunk lacks;
  empty = empty;
}

module _ {S : Type 0} (made : Made S) (login : Login) where
  -- ---- lines that were run

  pub Turns-none : (who : Option Speaker) (now : S) → Turns made login [] who who now now []
  Turns-none who now = record { replies = []; speaks = refl; count = refl; run = refl; text_is = refl }

  pub Turns-line : (line : Heard) (who who' : Option Speaker) (before after : S) (text : List ℕ) → Turn made login line who who' before after text
      → Turns made login (line ∷ []) who who' before after text
  Turns-line line who who' before after text t =
      let one : events_from login who (line ∷ []) ≡ event_of line who = append-nil (event_of line who) in
      record {
        replies = t.replies;
        speaks = t.speaks;
        count = t.count ∙ ap length (sym one);
        run = subst (λ es. AreMade made before (zip es t.replies) after) (sym one) t.run;
        text_is = t.text_is;
      }

  pub Turns-append : (lines more : List Heard) (who mid last : Option Speaker) (first between after : S) (text next : List ℕ)
      → Turns made login lines who mid first between text → Turns made login more mid last between after next
      → Turns made login (lines ++ more) who last first after (text ++ next)
  Turns-append lines more who mid last first between after text next a t =
      let ours = events_from login who lines in
      let theirs = events_from login mid more in
      let all : events_from login who (lines ++ more) ≡ ours ++ theirs
      = events_from-append login who lines more ∙ ap (λ w. ours ++ events_from login w more) (sym a.speaks) in
      record {
        replies = a.replies ++ t.replies;
        speaks = t.speaks ∙ ap (λ w. speaker_of login w more) a.speaks ∙ sym (speaker_of-append login who lines more);
        count = length-append a.replies t.replies ∙ ap₂ (λ m n. m + n) a.count t.count ∙ sym (length-append ours theirs) ∙ ap length (sym all);
        run = subst (λ ps. AreMade made first ps after)
            (sym (ap (λ es. zip es (a.replies ++ t.replies)) all ∙ zip-append ours theirs a.replies t.replies a.count))
            (AreMade-append made first between after (zip ours a.replies) (zip theirs t.replies) a.run t.run);
        text_is = ap₂ (λ v w. v ++ w) a.text_is t.text_is
            ∙ ap (λ w. answer_from login who lines a.replies ++ answer_from login w more t.replies) a.speaks
            ∙ sym (answer_from-append login who lines more a.replies t.replies a.count);
      }

  -- the same lines
  Turns-as : (lines same : List Heard) → lines ≡ same → (who who' : Option Speaker) (before after : S) (text : List ℕ)
      → Turns made login lines who who' before after text → Turns made login same who who' before after text
  Turns-as lines same e who who' before after text t = record {
    replies = t.replies;
    speaks = t.speaks ∙ ap (λ ls. speaker_of login who ls) e;
    count = t.count ∙ ap (λ ls. length (events_from login who ls)) e;
    run = subst (λ ls. AreMade made before (zip (events_from login who ls) t.replies) after) e t.run;
    text_is = t.text_is ∙ ap (λ ls. answer_from login who ls t.replies) e;
  }

  -- ---- answers that are gathered

  -- a text may always answer one line
  alone : (batch : Batch) (lines : List Heard) → length lines ≡ 1 → AreOneText batch lines
  alone batches.EachReply lines h = h
  alone batches.EachRead lines h = one_is_some (length lines) h

  pub Gathers-any : (batch : Batch) (bytes : List ℕ) (quit : Bool) (held held' : Held) (who who' : Option Speaker) (before after : S) (text : List ℕ)
      → Gathers made login batches.EachReply bytes quit held held' who who' before after text
      → Gathers made login batch bytes quit held held' who who' before after text
  Gathers-any batch bytes quit held held' who who' before after text g = record {
    lines = g.lines;
    complete = g.complete;
    turns = g.turns;
    one_text = alone batch g.lines g.one_text;
    last = g.last;
    quits = g.quits;
  }

  pub Gathers-line : (chunk : List ℕ) (line : Heard) (quit : Bool) (held held' : Held) (who who' : Option Speaker) (before after : S) (text : List ℕ)
      → HasNoLf chunk → ((rest : List ℕ) → Holds rest held → line ≡ heard (rest ++ chunk)) → Holds [] held'
      → Turn made login line who who' before after text → quit ≡ is_quit line
      → Gathers made login batches.EachReply (chunk ++ 10 ∷ []) quit held held' who who' before after text
  Gathers-line chunk line quit held held' who who' before after text lacks is empty t quits = record {
    lines = line ∷ [];
    complete = Completes-line held held' chunk line lacks is empty;
    turns = Turns-line line who who' before after text t;
    one_text = refl;
    last = one_line line;
    quits = or_false (is_quit line) ∙ sym quits;
  }

  pub Gathers-append : (bytes more : List ℕ) (quit : Bool) (a b c : Held) (who mid last : Option Speaker) (first between after : S) (text next all : List ℕ)
      → all ≡ text ++ next → Gathers made login batches.EachRead bytes false a b who mid first between text
      → Gathers made login batches.EachReply more quit b c mid last between after next
      → Gathers made login batches.EachRead (bytes ++ more) quit a c who last first after all
  Gathers-append bytes more quit a b c who mid last first between after text next all e h k = record {
    lines = h.lines ++ k.lines;
    complete = Completes-append a b c bytes more h.lines k.lines h.complete k.complete;
    turns = subst (λ v. Turns made login (h.lines ++ k.lines) who last first after v) (sym e)
        (Turns-append h.lines k.lines who mid last first between after text next h.turns k.turns);
    one_text = still_some h.lines k.lines h.one_text;
    last = through_quit-none h.lines k.lines h.quits ∙ ap (λ v. h.lines ++ v) k.last;
    quits = list_any-append is_quit h.lines k.lines ∙ ap (λ b. b || asks_to_quit k.lines) h.quits ∙ k.quits;
  }

  -- ---- a stream

  module _ (first : S) (before : Option (List ℕ)) where
    module _ {batch : Batch} (stream bytes : List ℕ) (quit : Bool) (held' : Held) (who' : Option Speaker) (after : S) (text : List ℕ) (from : Talk S)
        (told : Told made login first before stream from) (g : Gathers made login batch bytes quit from.held held' from.who who' from.service after text) where
      -- the lines then
      pub all_lines : heard_in (stream ++ bytes) ≡ heard_in stream ++ g.lines
      all_lines = g.complete.heard stream told.holds

      pub all_turns : Turns made login (heard_in (stream ++ bytes)) None who' first after (told.answered.text ++ text)
      all_turns = Turns-as (heard_in stream ++ g.lines) (heard_in (stream ++ bytes)) (sym all_lines) None who' first after (told.answered.text ++ text)
          (Turns-append (heard_in stream) g.lines None from.who who' first from.service after told.answered.text text told.answered.turns g.turns)

      -- the answers to the lines before, by all replies
      pub front_text : told.answered.text ≡ answer_from login None (heard_in stream) all_turns.replies
      unfolding all_turns Turns-as Turns-append
      front_text = told.answered.turns.text_is
          ∙ more_replies login (heard_in stream) told.answered.turns.replies g.turns.replies told.answered.turns.count

      pub all_quits : asks_to_quit (heard_in (stream ++ bytes)) ≡ quit
      all_quits = ap asks_to_quit all_lines ∙ list_any-append is_quit (heard_in stream) g.lines
          ∙ ap (λ b. b || asks_to_quit g.lines) told.goes_on ∙ g.quits

      -- no line comes after one that asks to quit
      pub all_served : served (stream ++ bytes) ≡ heard_in (stream ++ bytes)
      all_served = ap through_quit all_lines ∙ through_quit-none (heard_in stream) g.lines told.goes_on ∙ ap (λ v. heard_in stream ++ v) g.last ∙ sym all_lines

      pub all_answered : (taken' : Option (List ℕ)) → Appends from.taken taken' text → Answered made login first before (heard_in (stream ++ bytes)) who' after taken'
      all_answered taken' sent = record {
        text = told.answered.text ++ text;
        turns = all_turns;
        written = Appends-append before from.taken taken' told.answered.text text told.answered.written sent;
      }

    -- lines whose answers were gathered and written
    pub Told-gathered : {batch : Batch} (stream bytes text : List ℕ) (from to : Talk S)
        → Gathers made login batch bytes false from.held to.held from.who to.who from.service to.service text
        → Appends from.taken to.taken text → Told made login first before stream from → Told made login first before (stream ++ bytes) to
    Told-gathered stream bytes text from to g sent told = record {
      holds = subst (λ r. Holds r to.held) (sym (g.complete.ended stream)) g.complete.empty;
      goes_on = all_quits stream bytes false to.held to.who to.service text from told g;
      answered = all_answered stream bytes false to.held to.who to.service text from told g to.taken sent;
    }

    -- bytes that end no line
    pub Told-chunk : (stream chunk : List ℕ) (from : Talk S) (held' : Held) → HasNoLf chunk → LineGrows from.held chunk held'
        → Told made login first before stream from → Told made login first before (stream ++ chunk) (record from { held = held' })
    Told-chunk stream chunk from held' lacks grows told =
        let same : heard_in (stream ++ chunk) ≡ heard_in stream = ap (map heard) (lines_of-more_bytes stream chunk lacks) in
        record {
          holds = subst (λ r. Holds r held') (sym (rest_of-more_bytes stream chunk lacks)) (grows (rest_of stream) told.holds);
          goes_on = ap asks_to_quit same ∙ told.goes_on;
          answered = subst (λ ls. Answered made login first before ls from.who from.service from.taken) (sym same) told.answered;
        }

  -- ---- pulls in a row

  pub Hears-nil : (now : Talk S) → Hears made login [] now now
  Hears-nil now first before stream told = subst (λ s. Told made login first before s now) (sym (append-nil stream)) told

  pub Hears-append : (bytes more : List ℕ) (from mid to : Talk S) → Hears made login bytes from mid → Hears made login more mid to
      → Hears made login (bytes ++ more) from to
  Hears-append bytes more from mid to h k first before stream told =
      subst (λ s. Told made login first before s to) (append_assoc stream bytes more) (k first before (stream ++ bytes) (h first before stream told))

  pub Hears-chunk : (chunk : List ℕ) (from : Talk S) (held' : Held) → HasNoLf chunk → LineGrows from.held chunk held'
      → Hears made login chunk from (record from { held = held' })
  Hears-chunk chunk from held' lacks grows first before stream told = Told-chunk first before stream chunk from held' lacks grows told

  pub Hears-gathered : {batch : Batch} (bytes text : List ℕ) (from to : Talk S)
      → Gathers made login batch bytes false from.held to.held from.who to.who from.service to.service text
      → Appends from.taken to.taken text → Hears made login bytes from to
  Hears-gathered bytes text from to g sent first before stream told = Told-gathered first before stream bytes text from to g sent told
