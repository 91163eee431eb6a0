-- The invariant of the service at each time of a run, and how many words `WORDS n` reports.
--     sound-calls    calls one after another keep the invariant of a service
--     sound-end      a connection keeps it, however it ends
--     sound-turns    lines one after another keep it, whatever their connections
--     sound-moments  so it holds at each moment between two lines
--     rows-stay      lines keep the rows of the table
--     rows-of        the rows of a service after a change are those of the table's text
--     sound-change   a new table keeps the invariant
--     sound-story    so it holds at each moment, whatever tables were put in force before it
--     sound-server   so it does at each moment of a server's story
--     calls-are-bounded, run-is-bounded, server-is-bounded
--                    at each of these times the words live at once so far, and those taken from the
--                    machine, are bounded by the quotas of the tables so far
--     few-words      the n of `WORDS n` is at most 16 for each piece of all tenants at that time,
--                    and at least 4 for each array that has entries
use Rattle.std.specs.Prelude.{None, Option, ◌≡◌, ◌≤◌, ◌+◌, ◌*◌, ℕ, Bool, true, List, [], ◌∷◌, ◌++◌, length, max}
use Rattle.std.proofs.Common.{◌∙◌, ap, append-nil, append_assoc, arith, refl, subst, sym}
use Rattle.judy_many.specs.Sessions.{AreTurns, IsTurn, Turn}
use Rattle.judy_many.specs.Statuses.{Passes}
use Rattle.judy_many.specs.Stories.{Moment, Story, changes_in}
use Rattle.judy_many.specs.Stories.Moment.{Changed, Did, Ran}
use Rattle.judy_many.specs.declared.serve.Ending.{Ending}
use Rattle.judy_many.specs.declared.serve.Limits.{Limits}
use Rattle.judy_model.specs.declared.replies.Reply.{Reply}
use Rattle.judy_model.specs.Service.{all_pieces}
use Rattle.judy_model.specs.Speakers.{Event}
use Rattle.judy_protocol.specs.Services.{AreMade}
use Rattle.judy_protocol.specs.Serving.{MaybeBytes, Ends}
use Rattle.judy_protocol.specs.declared.gathering.Batch.{Batch}
use Rattle.judy_protocol.specs.declared.connection.End.{End}
use Rattle.judy_protocol.specs.declared.connection.End.TheVariants as ends
use Rattle.judy_programs.specs.Asking.{Log}
use Rattle.judy_programs.specs.Hosting.{Desks}
use Rattle.judy_programs.specs.Program.{HasServed, tells_words}
use Rattle.judy_programs.specs.declared.program.Ran.TheVariants as ran
use Rattle.judy_programs.proofs.lemmas.Words.{told-words}
use Rattle.judy_tenants.specs.Held.{Held, IsSoundService, all_arrays, states_of, words_for}
use Rattle.judy_server.specs.Reloads.{IsReload, rows_after, rows_with}
use Rattle.judy_server.specs.Rules.{server_rules}
use Rattle.judy_server.specs.Served.{IsServedStep, IsNewService, seen_of, held_words}
use Rattle.judy_server.specs.Space.{IsSoundAfter, IsSoundOf, IsBoundedBy, TellsFew, granted_after}
use Rattle.judy_server.specs.Starts.{HasServedAny, granted_first}
use Rattle.judy_server.specs.Tally.{Tallied}
use Rattle.judy_server.proofs.lemmas.Starting.{started-grants, started-keeps}

-- a service is that which it was
same-sound : (before after : Tallied) → IsSoundService before.held → after ≡ before → IsSoundOf before.held after.held
same-sound before after s same = record {
  sound = subst (λ (t : Tallied). IsSoundService t.held) (sym same) s;
  tenants = ap (λ (t : Tallied). t.held.tenants) same;
  granted = ap (λ (t : Tallied). t.held.granted) same;
  reserved = ap (λ (t : Tallied). t.held.reserved) same;
}

-- calls one after another keep the invariant of a service
pub sound-calls : (before after : Tallied) (answered : List (Event × Reply)) → IsSoundService before.held
    → AreMade IsServedStep before answered after → IsSoundOf before.held after.held
sound-calls before after [] h same = same-sound before after h same
sound-calls before after (p ∷ ps) h (mid, made, rest) =
    let later : IsSoundOf mid.held after.held = sound-calls mid after ps made.sound rest in
    record {
      sound = later.sound;
      tenants = later.tenants ∙ made.keeps.tenants;
      granted = later.granted ∙ made.keeps.granted;
      reserved = later.reserved ∙ made.keeps.memory.reserved;
    }

-- a connection keeps it, however it ends
pub sound-end : (batch : Batch) (end : End) (left left' : MaybeBytes) (before after : Tallied) (taken taken' : MaybeBytes) → IsSoundService before.held
    → Ends IsServedStep seen_of batch end left left' before after taken taken' → IsSoundOf before.held after.held
sound-end batch ends.Quit left left' before after taken taken' s h = sound-calls before after _ s h.run.run.calls
sound-end batch ends.End left left' before after taken taken' s h = sound-calls before after _ s h.run.run.calls
sound-end batch ends.ReadFault left left' before after taken taken' s h = sound-calls before after _ s h.run.run.calls
sound-end batch ends.Limit left left' before after taken taken' s h = sound-calls before after _ s h.run.run.calls
sound-end batch ends.WriteFault left left' before after taken taken' s h = sound-calls before after _ s h.run.calls

-- one line keeps it: its call, and then its count
sound-turn : (before : Tallied) (t : Turn) (after : Tallied) → IsSoundService before.held → IsTurn server_rules before t after
    → IsSoundOf before.held after.held
sound-turn before t after s one =
    let kept : after.held ≡ one.mid.held = ap (λ (x : Tallied). x.held) one.noted in
    subst (IsSoundOf before.held) (sym kept) (sound-calls before one.mid _ s one.calls)

-- first one, then the other
joined : (a b c : Tallied) → IsSoundOf a.held b.held → IsSoundOf b.held c.held → IsSoundOf a.held c.held
joined a b c first more = record {
  sound = more.sound;
  tenants = more.tenants ∙ first.tenants;
  granted = more.granted ∙ first.granted;
  reserved = more.reserved ∙ first.reserved;
}

-- lines one after another keep it, whatever their connections
pub sound-turns : (turns : List Turn) (before after : Tallied) → IsSoundService before.held → AreTurns server_rules before turns after
    → IsSoundOf before.held after.held
sound-turns [] before after s same = same-sound before after s same
sound-turns (t ∷ turns) before after s (mid, one, rest) =
    let first = sound-turn before t mid s one in
    let more : IsSoundOf mid.held after.held = sound-turns turns mid after first.sound rest in
    joined before mid after first more

-- at each moment, after some of the lines and before the others, the service is sound
pub sound-moments : (done turns : List Turn) (before after : Tallied) → IsSoundService before.held → AreTurns server_rules before (done ++ turns) after
    → (mid : Tallied) × AreTurns server_rules before done mid × IsSoundOf before.held mid.held × AreTurns server_rules mid turns after
sound-moments [] turns before after s run = (before, refl, same-sound before before s refl, run)
sound-moments (t ∷ done) turns before after s (mid, one, rest) =
    let first = sound-turn before t mid s one in
    let (now, did, more, left) = sound-moments done turns mid after first.sound rest in
    (now, (mid, one, did), joined before mid now first more, left)

-- calls and lines keep the rows
calls-stay : (before : Tallied) (ps : List (Event × Reply)) (after : Tallied) → AreMade IsServedStep before ps after → after.held.tenants ≡ before.held.tenants
calls-stay before [] after same = ap (λ (t : Tallied). t.held.tenants) same
calls-stay before (p ∷ ps) after (mid, made, rest) = calls-stay mid ps after rest ∙ made.keeps.tenants

pub rows-stay : (turns : List Turn) (before after : Tallied) → AreTurns server_rules before turns after → after.held.tenants ≡ before.held.tenants
rows-stay [] before after same = ap (λ (t : Tallied). t.held.tenants) same
rows-stay (t ∷ turns) before after (mid, one, rest) =
    rows-stay turns mid after rest ∙ ap (λ (s : Tallied). s.held.tenants) one.noted ∙ calls-stay before _ one.mid one.calls

-- ---- new tables

-- the rows of a service after a change are those of the table's text
pub rows-of : (old : Tallied) (text : List ℕ) (new : Tallied) → IsReload old text new → new.held.tenants ≡ rows_with old.held.tenants text
rows-of old text new r = r.tenants

-- a new table keeps the invariant
pub sound-change : (old : Tallied) (text : List ℕ) (new : Tallied) → IsReload old text new → IsSoundAfter (text ∷ []) old.held new.held
sound-change old text new r =
    let rows = rows-of old text new r in record {
      sound = r.sound;
      tenants = rows;
      granted = r.held.granted ∙ ap (λ ts. max old.held.granted (words_for ts)) rows;
      reserved = r.held.reserved;
    }

-- first lines, then tables
after-lines : (texts : List (List ℕ)) (a b c : Held) → IsSoundOf a b → IsSoundAfter texts b c → IsSoundAfter texts a c
after-lines texts a b c first more = record {
  sound = more.sound;
  tenants = more.tenants ∙ ap (λ rows. rows_after rows texts) first.tenants;
  granted = more.granted ∙ ap (λ n. granted_after n b.tenants texts) first.granted ∙ ap (λ rows. granted_after a.granted rows texts) first.tenants;
  reserved = more.reserved ∙ first.reserved;
}

-- first one table, then others
after-change : (text : List ℕ) (texts : List (List ℕ)) (a b c : Held) → IsSoundAfter (text ∷ []) a b → IsSoundAfter texts b c → IsSoundAfter (text ∷ texts) a c
after-change text texts a b c first more = record {
  sound = more.sound;
  tenants = more.tenants ∙ ap (λ rows. rows_after rows texts) first.tenants;
  granted = more.granted ∙ ap (λ n. granted_after n b.tenants texts) first.granted
      ∙ ap (λ rows. granted_after (max a.granted (words_for (rows_with a.tenants text))) rows texts) first.tenants;
  reserved = more.reserved ∙ first.reserved;
}

-- the past of what comes after a moment
onward : (past : Story) (m : Moment) (p q : Story) (mid after : Tallied) → Passes server_rules ((past ++ m ∷ []) ++ p) mid q after → Passes server_rules (past ++ m ∷ p) mid q after
onward past m p q mid after h = subst (λ r. Passes server_rules r mid q after) (append_assoc past (m ∷ []) p) h

-- at each moment the service is sound, and has the tenants of the tables so far
pub sound-story : (past p q : Story) (before after : Tallied) → IsSoundService before.held → Passes server_rules past before (p ++ q) after
    → (mid : Tallied) × Passes server_rules past before p mid × IsSoundAfter (changes_in p) before.held mid.held × Passes server_rules (past ++ p) mid q after
sound-story past [] q before after s h =
    (before, refl, record { sound = s; tenants = refl; granted = refl; reserved = refl }, subst (λ r. Passes server_rules r before q after) (sym (append-nil past)) h)
sound-story past (Did a ∷ p) q before after s h =
    let (mid, did, sound, left) = sound-story (past ++ Did a ∷ []) p q before after s h.1 in
    (mid, (h.0, did), sound, onward past (Did a) p q mid after left)
sound-story past (Ran n turns ∷ p) q before after s (now, first, rest) =
    let lines = sound-turns turns before now s first in
    let (mid, did, sound, left) = sound-story (past ++ Ran n turns ∷ []) p q now after lines.sound rest in
    (mid, (now, first, did), after-lines (changes_in p) before.held now.held mid.held lines sound, onward past (Ran n turns) p q mid after left)
sound-story past (Changed text gone ∷ p) q before after s (now, step, rest) =
    let one = sound-change before text now step in
    let (mid, did, sound, left) = sound-story (past ++ Changed text gone ∷ []) p q now after one.sound rest in
    (mid, (now, step, did), after-change text (changes_in p) before.held now.held mid.held one sound, onward past (Changed text gone) p q mid after left)

-- at each moment of a server's story its service is sound, and has the tenants of the tables so far, with a journal or
-- without one
pub sound-server : (secret config socket : List ℕ) (watch : Desks) (reserve : Option ℕ) (limits : Limits) (how : Ending) (log log' : Log)
    → (h : HasServedAny secret reserve config socket watch limits how log log')
    → (p q : Story) → h.hosted.story ≡ p ++ q
    → (mid : Tallied) × Passes server_rules [] h.before p mid × IsSoundAfter (changes_in p) h.before.held mid.held × Passes server_rules p mid q h.after
sound-server secret config socket watch reserve limits how log log' h p q e =
    let new = h.begun.opened.fresh in
    sound-story [] p q h.before h.after (started-keeps secret reserve h.begun.opened.tenants h.fresh h.before new h.started).kept.sound
    (subst (λ story. Passes server_rules [] h.before story h.after) e h.hosted.told)

-- a sound service is bounded by what its quotas allow, or by what was taken beforehand
bounded-by : (granted reserved : ℕ) (held : Held) → IsSoundService held → held.granted ≡ granted → held.reserved ≡ reserved → IsBoundedBy granted reserved held
bounded-by granted reserved held s most taken = record {
  peak = subst (λ n. held.peak ≤ n) most s.peak;
  region = subst (λ n. held.region ≤ max reserved (128 * n + 512)) most (subst (λ n. held.region ≤ max n (128 * held.granted + 512)) taken s.machine);
}

bounded : (before after : Held) → IsSoundOf before after → IsBoundedBy before.granted before.reserved after
bounded before after s = bounded-by before.granted before.reserved after s.sound s.granted s.reserved

-- at each moment, after some calls and before the others, the memory is bounded by what the quotas
-- allow
pub calls-are-bounded : (done rest : List (Event × Reply)) (before after : Tallied) → IsSoundService before.held → AreMade IsServedStep before (done ++ rest) after
    → (mid : Tallied) × AreMade IsServedStep before done mid × IsBoundedBy before.held.granted before.held.reserved mid.held × AreMade IsServedStep mid rest after
calls-are-bounded [] rest before after s run = (before, refl, bounded before.held before.held (same-sound before before s refl), run)
calls-are-bounded (p ∷ done) rest before after s (mid, made, run) =
    let (now, did, bound, left) = calls-are-bounded done rest mid after made.sound run in (
      now,
      (mid, made, did),
      subst (λ n. IsBoundedBy before.held.granted n now.held) made.keeps.memory.reserved
          (subst (λ n. IsBoundedBy n mid.held.reserved now.held) made.keeps.granted bound),
      left,
    )

-- so it is where a script ends, however it ends; both numbers never fall, so they were no greater before
pub run-is-bounded : (secret : List ℕ) (words : Bool) (batch : Batch) (end : End) (left left' taken taken' : MaybeBytes) (told told' : ℕ)
    → (h : HasServed IsServedStep seen_of held_words (IsNewService secret None) words batch (ran.Served end) left left' taken taken' told told')
    → IsBoundedBy (words_for h.tenants) 0 h.after.held
run-is-bounded secret words batch end left left' taken taken' told told' h =
    subst (λ n. IsBoundedBy (words_for h.tenants) n h.after.held) (h.fresh.reserved ∙ h.fresh.taken.0)
    (subst (λ n. IsBoundedBy n h.before.held.reserved h.after.held) (h.fresh.granted ∙ ap words_for h.fresh.tenants)
    (bounded h.before.held h.after.held (sound-end batch end _ _ h.before h.after _ _ h.fresh.sound h.run.script.served)))

-- and at each moment of a server's story, with a journal or without one, but for what was taken at its start
pub server-is-bounded : (secret config socket : List ℕ) (watch : Desks) (reserve : Option ℕ) (limits : Limits) (how : Ending) (log log' : Log)
    → (h : HasServedAny secret reserve config socket watch limits how log log')
    → (p q : Story) → h.hosted.story ≡ p ++ q
    → (mid : Tallied) × Passes server_rules [] h.before p mid
    × IsBoundedBy (granted_after (granted_first h.started) h.before.held.tenants (changes_in p)) h.fresh.held.region mid.held
    × Passes server_rules p mid q h.after
server-is-bounded secret config socket watch reserve limits how log log' h p q e =
    let (mid, did, sound, left) = sound-server secret config socket watch reserve limits how log log' h p q e in
    let new = h.begun.opened.fresh in
    let kept = (started-keeps secret reserve h.begun.opened.tenants h.fresh h.before new h.started).kept in
    let grants = started-grants secret reserve h.begun.opened.tenants h.fresh h.before new h.started in
    let rows = h.before.held.tenants in (
      mid,
      did,
      subst (λ n. IsBoundedBy (granted_after (granted_first h.started) rows (changes_in p)) n mid.held) (kept.reserved ∙ new.reserved)
          (subst (λ n. IsBoundedBy (granted_after n rows (changes_in p)) h.before.held.reserved mid.held) grants
          (bounded-by (granted_after h.before.held.granted rows (changes_in p)) h.before.held.reserved mid.held sound.sound sound.granted sound.reserved)),
      left,
    )

-- if a script was served to its end and the words are wanted, the words that are reported are few
pub few-words : (secret : List ℕ) (words : Bool) (batch : Batch) (end : End) (left left' taken taken' : MaybeBytes) (told told' : ℕ) → tells_words words end ≡ true
    → (h : HasServed IsServedStep seen_of held_words (IsNewService secret None) words batch (ran.Served end) left left' taken taken' told told')
    → TellsFew (length h.tenants) h.after.held h.run.between taken'
few-words secret words batch end left left' taken taken' told told' tells h =
    let s : IsSoundOf h.before.held h.after.held = sound-end batch end _ _ h.before h.after _ _ h.fresh.sound h.run.script.served in
    let many : length h.after.held.tenants ≡ length h.tenants = ap length (s.tenants ∙ h.fresh.tenants) in
    let pieces : all_pieces (length h.after.held.tenants) (states_of h.after.held) ≡ all_pieces (length h.tenants) (states_of h.after.held)
    = ap (λ m. all_pieces m (states_of h.after.held)) many in
    let arrays : all_arrays (length h.after.held.tenants) (states_of h.after.held) ≡ all_arrays (length h.tenants) (states_of h.after.held)
    = ap (λ m. all_arrays m (states_of h.after.held)) many in
    record {
      n = held_words h.after;
      line = told-words IsServedStep seen_of held_words (IsNewService secret None) words batch end left left' taken taken' told told' tells h;
      most = omega (arith, s.sound.space.most, pieces);
      least = omega (arith, s.sound.space.least, s.sound.names, arrays);
    }
