-- What the serving of a connection did, in the terms of its specification.
use Rattle.std.proofs.Common.{◌≡◌, ℕ, ◌≤◌, Bool, true, List, [], ◌∷◌, ◌++◌, length, Option, None, sym, ◌∙◌, ap, subst, refl, arith, append_assoc, append-nil}
use Rattle.std.specs.Prelude.{zip}
use Rattle.std.specs.Io.KnownBytes.{Appends, Consumes}
use Rattle.std.proofs.lemmas.List.{length-append}
use Rattle.judy_stream.specs.Streams.{IsFlushed}
use Rattle.judy_model.specs.declared.quotas.Quota.{Quota}
use Rattle.judy_model.specs.declared.replies.Reply.{Reply}
use Rattle.judy_model.specs.declared.replies.Reply.TheVariants.{Memory}
use Rattle.judy_model.specs.Service.{Quotas, States, AreServed, ServingGoesOn, ServingIsStepwise}
use Rattle.judy_model.specs.Solo.{IsSolo, SoloIsDetermined}
use Rattle.judy_model.specs.Speakers.{Event}
use Rattle.judy_model.specs.Stream.{Heard, served, events_from, answer_from}
use Rattle.judy_model.proofs.lemmas.StreamLemmas.{served-all, served-after_quit}
use Rattle.judy_model.specs.Tenant.{State}
use Rattle.judy_model.specs.Worlds.{served-worlds}
use Rattle.judy_protocol.specs.Services.{Seen, IsCalled, Made, AreMade}
use Rattle.judy_protocol.specs.Serving.{answers_limit, heard_in, asks_to_quit, AreRun, AllOpen, AllQuit, PartRun}
use Rattle.judy_protocol.specs.Talks.{Talk, Gathers, Answered, Told, Stops}
use Rattle.judy_protocol.specs.declared.gathering.Batch.{Batch}
use Rattle.judy_protocol.specs.declared.connection.Stop.{Stop}
use Rattle.judy_protocol.specs.declared.connection.Stop.TheVariants as stop
use Rattle.judy_protocol.proofs.KnownBytes.{Appends-append}
use Rattle.judy_protocol.proofs.Talking.{all_answered, all_lines, all_quits, all_served, all_turns, front_text}

-- an empty list has no item
no_item : {A : Type 0} (before after : List A) (x : A) → [] ≡ before ++ x ∷ after → ⊥
no_item [] after x e = cc
no_item (y ∷ ys) after x e = cc

-- without calls, nothing changes
no_calls : (quotas : Quotas) (states : States) → AreServed quotas states [] [] states
no_calls quotas states = record { count = refl; solo = λ t. idle (quotas t) (states t) }
  where
    idle : (quota : Quota) (s : State) → IsSolo quota s [] s
    idle quota s = record { replies = refl; state = refl; refused = λ before after a e. absurd (no_item before after (a, Memory) e) }

module _ {S : Type 0} (made : Made S) (seen : S → Seen) (apart : (before after : S) (event : Event) (reply : Reply) → made before
    event reply after → IsCalled (seen before) event reply (seen after))
    (goes_on : ServingGoesOn) (one : ServingIsStepwise) (equal : SoloIsDetermined) where
  -- calls one after another are one run, seen by each tenant alone
  pub are_served : (first last : S) (events : List Event) (replies : List Reply) → length replies ≡ length events → AreMade made first (zip events replies) last
      → AreServed (seen first).quotas (seen first).states events replies (seen last).states
      × ((seen last).quotas ≡ (seen first).quotas) × ((seen last).logins ≡ (seen first).logins)
  are_served first last [] [] n h =
      subst (λ s. AreServed (seen first).quotas (seen first).states [] [] (seen s).states
      × ((seen s).quotas ≡ (seen first).quotas) × ((seen s).logins ≡ (seen first).logins)) (sym h)
      (no_calls (seen first).quotas (seen first).states, refl, refl)
  are_served first last [] (r ∷ rs) n h = absurd (omega arith)
  are_served first last (e ∷ es) [] n h = absurd (omega arith)
  are_served first last (e ∷ es) (r ∷ rs) n (mid, step, rest) =
      let call : IsCalled (seen first) e r (seen mid) = apart first mid e r step in
      let (run, quotas, logins) = are_served mid last es rs (omega arith) rest in
      let head : AreServed (seen first).quotas (seen first).states (e ∷ []) (r ∷ []) (seen mid).states
      = (one (seen first).quotas (seen first).states (seen mid).states e r).0 call.served in
      let tail : AreServed (seen first).quotas (seen mid).states es rs (seen last).states
      = subst (λ q. AreServed q (seen mid).states es rs (seen last).states) call.quotas run in (
        (goes_on (seen first).quotas (seen first).states (seen last).states (e ∷ []) es (r ∷ []) rs refl).1 ((seen mid).states, head, tail),
        quotas ∙ call.quotas,
        logins ∙ call.logins,
      )

  -- the table stays over them
  pub are_kept : (first last : S) (calls : List (Event × Reply)) → AreMade made first calls last
      → ((seen last).speakers ≡ (seen first).speakers) × ((seen last).names ≡ (seen first).names)
  are_kept first last [] h = (ap (λ s. (seen s).speakers) h, ap (λ s. (seen s).names) h)
  are_kept first last (p ∷ ps) (mid, step, rest) =
      let call : IsCalled (seen first) p.0 p.1 (seen mid) = apart first mid p.0 p.1 step in
      let (speakers, names) = are_kept mid last ps rest in
      (speakers ∙ call.speakers, names ∙ call.names)

  are_run : (lines : List Heard) (replies : List Reply) (first last : S) → length replies ≡ length (events_from (seen first).logins None lines)
      → AreMade made first (zip (events_from (seen first).logins None lines) replies) last → AreRun made seen lines replies first last
  are_run lines replies first last n h =
      let (run, quotas, logins) = are_served first last (events_from (seen first).logins None lines) replies n h in
      let events = events_from (seen first).logins None lines in
      let worlds = served-worlds equal (seen first).quotas (seen first).states events replies (seen last).states run in
      let (speakers, names) = are_kept first last (zip events replies) h in
      record { served = run; worlds = worlds; calls = h; quotas = quotas; logins = logins; speakers = speakers; names = names }

  -- a connection in which no line asked to quit
  pub all_open : (first : S) (before : Option (List ℕ)) (stream : List ℕ) (now : Talk S) (left left' : Option (List ℕ)) → Consumes left left' stream
      → Told made (seen first).logins first before stream now → AllOpen made seen left left' first now.service before now.taken
  all_open first before stream now left left' read told =
      let all : served stream ≡ heard_in stream = served-all stream told.goes_on in
      let a = told.answered in
      let t = a.turns in
      record {
        script = stream;
        run = record {
          replies = t.replies;
          read = read;
          run = subst (λ ls. AreRun made seen ls t.replies first now.service) (sym all) (are_run (heard_in stream) t.replies first now.service t.count t.run);
          written = subst (λ v. Appends before now.taken v)
              (t.text_is ∙ ap (λ ls. answer_from (seen first).logins None ls t.replies) (sym all)) a.written;
        };
        goes_on = told.goes_on;
      }

  module _ {batch : Batch} (first : S) (before : Option (List ℕ)) (stream bytes : List ℕ) (from : Talk S) (after : S) (taken left left' : Option (List ℕ)) {pending pending' : Bool}
      (read : Consumes left left' (stream ++ bytes)) (short : length bytes ≤ 4096) (told : Told made (seen first).logins first before stream from) where
    -- all bytes in their parts
    parted : (how : Stop) (s : Stops made (seen first).logins batch how bytes from after taken pending pending') → stream ++ bytes ≡ ((stream ++ s.kept) ++ s.cut) ++ s.unheard
    parted how s =
        ap (λ v. stream ++ v) (sym s.parts) ∙ sym (append_assoc stream s.kept (s.cut ++ s.unheard))
        ∙ sym (append_assoc (stream ++ s.kept) s.cut s.unheard)

    -- a connection that a line ended
    pub all_quit : Stops made (seen first).logins batch stop.Quit bytes from after taken pending pending' → AllQuit made seen left left' first after before taken
    all_quit s =
        let login = (seen first).logins in
        let kept = stream ++ s.kept in
        let ran = kept ++ s.cut in
        let front : Told made login first before kept s.mid = s.hears first before stream told in
        let g = subst (λ q. Gathers made login batch s.cut q s.mid.held s.held s.mid.who s.who s.mid.service after s.text) s.by.0 s.gathers in
        let whole : s.sent ≡ s.text = sym (append-nil s.sent) ∙ ap (λ v. s.sent ++ v) (sym s.by.1) ∙ s.split in
        let a : Answered made login first before (heard_in ran) s.who after taken
        = all_answered made login first before kept s.cut true s.held s.who after s.text s.mid front g taken (subst (Appends s.mid.taken taken) whole s.written) in
        let t = a.turns in
        let quits : asks_to_quit (heard_in ran) ≡ true = all_quits made login first before kept s.cut true s.held s.who after s.text s.mid front g in
        let all : served (ran ++ s.unheard) ≡ heard_in ran
        = served-after_quit ran s.unheard quits ∙ all_served made login first before kept s.cut true s.held s.who after s.text s.mid front g in
        record {
          ran = ran;
          unheard = s.unheard;
          run = record {
            replies = t.replies;
            read = subst (Consumes left left') (parted stop.Quit s) read;
            run = subst (λ ls. AreRun made seen ls t.replies first after) (sym all) (are_run (heard_in ran) t.replies first after t.count t.run);
            written = subst (λ v. Appends before taken v) (t.text_is ∙ ap (λ ls. answer_from login None ls t.replies) (sym all)) a.written;
          };
          ended = g.complete.ended kept;  -- by QUIT
          last = all;
          quits = quits;
          few = omega (arith, short, s.few);  -- after QUIT
        }

    -- a connection that a failed write ended
    pub part_run : Stops made (seen first).logins batch stop.WriteFault bytes from after taken pending pending'
        → PartRun made seen batch left left' first after before taken
    part_run s =
        let login = (seen first).logins in
        let kept = stream ++ s.kept in
        let ran = kept ++ s.cut in
        let front : Told made login first before kept s.mid = s.hears first before stream told in
        let t = all_turns made login first before kept s.cut s.quit s.held s.who after s.text s.mid front s.gathers in
        let a = front.answered in
        let kept_whole = ap (λ v. v ++ s.sent)
        (front_text made login first before kept s.cut s.quit s.held s.who after s.text s.mid front s.gathers) in
        record {
          kept = kept;
          cut = s.cut;
          unheard = s.unheard;
          lines = s.gathers.lines;
          replies = t.replies;
          sent = a.text ++ s.sent;
          begun = s.sent;
          missing = s.missing;
          read = subst (Consumes left left') (parted stop.WriteFault s) read;
          once = omega (arith, short, ap length s.parts, length-append s.kept (s.cut ++ s.unheard));  -- of the last read
          few = omega (arith, short, s.few);  -- after the failed write
          ended = s.gathers.complete.ended kept;  -- by the failed write
          completes = all_lines made login first before kept s.cut s.quit s.held s.who after s.text s.mid front s.gathers;
          one_text = s.gathers.one_text;  -- those of the last text
          goes_on = front.goes_on;  -- before the last text
          last = all_served made login first before kept s.cut s.quit s.held s.who after s.text s.mid front s.gathers;  -- no line after QUIT
          run = are_run (heard_in ran) t.replies first after t.count t.run;
          written = Appends-append before s.mid.taken taken a.text s.sent a.written s.written;
          whole = kept_whole;  -- all answers before the last text
          part = append_assoc a.text s.sent s.missing ∙ ap (λ v. a.text ++ v) s.split ∙ t.text_is;
          text = subst (λ v. length v ≤ answers_limit) (sym s.split) s.short;  -- of the last text
        }

    -- and what was flushed then
    pub part_flushed : (s : Stops made (seen first).logins batch stop.WriteFault bytes from after taken pending pending')
        → (part_run s).begun ≡ [] → IsFlushed pending pending'
    unfolding part_run
    part_flushed s = s.flushed
