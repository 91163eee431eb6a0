-- A server with a journal or without one: what holds of the service with which serving begins.
--     IsKept first service      what a start leaves as it was, and what it may raise
--     records-keep              so do records that are played
--     begun-keeps               and a whole journal, whose records are played without the quotas
--     started-keeps             the service with which serving begins is sound, and keeps all that is promised of a new one
--     started-grants            what its quotas allow (`granted_first`)
--     served-alone, served-on   each server without a journal has served (`HasServedAny`), and each that went on with its journal
--     done-served, stopped-served   and so is each that ended in order
--     starts-on-socket          its first steps: one file, the next segment of its journal if it has to be begun, its sockets
use Rattle.std.proofs.Common.{◌≡◌, ◌≢◌, ◌⊎◌, inl, inr, ℕ, ◌≤◌, true, false, List, [], ◌∷◌, ◌++◌, map, Option, Some, None}
use Rattle.std.proofs.Common.{refl, sym, ◌∙◌, ap, append_assoc, append-nil, arith, subst}
use Rattle.std.specs.Prelude.{MatchBool, Bool, max, Result, Ok, Err}
use Rattle.judy_journal.specs.Writes.{Writing, all_records, begun}
use Rattle.judy_journal.specs.declared.replays.Unplayed.{Unplayed}
use Rattle.judy_journal.specs.declared.replays.Unplayed.TheVariants as unplayed
use Rattle.judy_journal.specs.Journals.{Commit}
use Rattle.judy_journal.specs.Leaving.{gone_in}
use Rattle.judy_journal.specs.Replays.{Told, told}
use Rattle.judy_journal.proofs.lemmas.ReplayLemmas.{outcome_is}
use Rattle.judy_many.specs.Crowds.{HasServedMany}
use Rattle.judy_many.specs.declared.serve.Ending.{Ending}
use Rattle.judy_many.specs.declared.serve.Ending.TheVariants as ending
use Rattle.judy_many.specs.declared.serve.Limits.{Limits}
use Rattle.judy_many.specs.Nets.{Act, DidLog}
use Rattle.judy_many.specs.Nets.Act.{Asked}
use Rattle.judy_many.specs.Nets.Step.{Bound, Opened, Shut}
use Rattle.judy_many.specs.Books.{journal_of}
use Rattle.judy_many.specs.Journaling.{Writes}
use Rattle.judy_many.specs.declared.network.Sync.{Sync}
use Rattle.judy_model.specs.declared.replies.Reply.{Reply}
use Rattle.judy_model.specs.declared.replies.Reply.TheVariants as reply
use Rattle.judy_model.specs.Solo.{is_memory}
use Rattle.judy_model.specs.Speakers.{Event}
use Rattle.judy_protocol.specs.Plain.{is_refused}
use Rattle.judy_programs.specs.Asking.{Log}
use Rattle.judy_programs.specs.Hosting.{Desks, HasServedAll, HavePaths, IsServing, watched}
use Rattle.judy_programs.specs.Journaled.{HasNotGoneOn, HasServedOn, writer_there}
use Rattle.judy_programs.specs.Opening.{HasOpened}
use Rattle.judy_programs.specs.declared.socket.Hosted.{Hosted}
use Rattle.judy_programs.specs.declared.socket.Hosted.TheVariants as hosted
use Rattle.judy_recovery.specs.Whole.{Kept}
use Rattle.judy_table.specs.Seats.{AreRows}
use Rattle.judy_table.specs.declared.tenant.Tenant.{Tenant}
use Rattle.judy_tenants.specs.Held.{Held, IsQuiet, IsSoundService, words_for}
use Rattle.judy_server.specs.Crashes.{HasBegunWith}
use Rattle.judy_server.specs.Jobs.{HostsBy}
use Rattle.judy_server.specs.Limits.{server_replay}
use Rattle.judy_server.specs.Replays.{AreReplayed, HaveLeft, IsMadeAgain, IsPassedOver, Plays, PlaysAs, PlaysChange, changing, places_in}
use Rattle.judy_server.specs.Rules.{server_rules}
use Rattle.judy_server.specs.Served.{IsNewService}
use Rattle.judy_server.specs.Starts.{HasServedAny, HasStarted, IsReady, granted_first}
use Rattle.judy_server.specs.Tally.{Tallied, can_note, no_counts, with_absent}
use Rattle.judy_server.specs.declared.tally.Tally.{Tally}
use Rattle.judy_server.proofs.lemmas.Begun.{IsBegun, begun-table}
use Rattle.judy_server.proofs.lemmas.Calls.{nothing-refused}

-- ---- what records leave as it was

-- what is counted of lines and log-ins
abbrev pub counted_of : Tally → Tally
counted_of tally = record tally { absent = [] }

-- Nothing was refused, nothing was counted, and nothing was taken beforehand. Names have as much room, and begin
-- their hashes with the same secret. Words are taken from the machine as calls take them.
pub record HasKept (old new : Tallied) : Type 0 where
  pub sound : IsSoundService new.held
  pub counts : counted_of new.tally ≡ counted_of old.tally
  pub refusals : new.held.refusals ≡ old.held.refusals
  pub unplaced : new.held.unplaced ≡ old.held.unplaced
  pub reserved : new.held.reserved ≡ old.held.reserved
  pub room : new.held.room ≡ old.held.room
  pub start : new.held.start ≡ old.held.start
  pub region : old.held.region ≤ new.held.region
  pub peak : old.held.peak ≤ new.held.peak

kept-same : (old new : Tallied) → IsSoundService old.held → new ≡ old → HasKept old new
kept-same old new s same = record {
  sound = subst (λ (t : Tallied). IsSoundService t.held) (sym same) s;
  counts = ap (λ (t : Tallied). counted_of t.tally) same;
  refusals = ap (λ (t : Tallied). t.held.refusals) same;
  unplaced = ap (λ (t : Tallied). t.held.unplaced) same;
  reserved = ap (λ (t : Tallied). t.held.reserved) same;
  room = ap (λ (t : Tallied). t.held.room) same;
  start = ap (λ (t : Tallied). t.held.start) same;
  region = (let e = ap (λ (t : Tallied). t.held.region) same in omega (arith, e));
  peak = (let e = ap (λ (t : Tallied). t.held.peak) same in omega (arith, e));
}

kept-joined : (a b c : Tallied) → HasKept a b → HasKept b c → HasKept a c
kept-joined a b c first more = record {
  sound = more.sound;
  counts = more.counts ∙ first.counts;
  refusals = more.refusals ∙ first.refusals;
  unplaced = more.unplaced ∙ first.unplaced;
  reserved = more.reserved ∙ first.reserved;
  room = more.room ∙ first.room;
  start = more.start ∙ first.start;
  region = (let x = first.region in let y = more.region in omega (arith, x, y));
  peak = (let x = first.peak in let y = more.peak in omega (arith, x, y));
}

-- a recorded call was not refused for memory
not-memory : (r : Reply) → is_refused r ≡ false → is_memory r ≡ false
not-memory reply.Memory h = cc
not-memory _ h = refl

-- the call of a record that was not refused for memory
made-keeps : (old new : Tallied) (event : Event) → IsMadeAgain old event (Ok tt) new → HasKept old new
made-keeps old new event h =
    let quiet : IsQuiet old.held new.held = nothing-refused old event h.reply new
    (not-memory h.reply (outcome_is h.reply (sym h.result_is))) h.made in
    record {
      sound = h.made.sound;
      counts = ap counted_of h.made.tally;
      refusals = quiet.refusals;
      unplaced = quiet.unplaced;
      reserved = h.made.keeps.memory.reserved;
      room = h.made.keeps.room;
      start = h.made.keeps.start;
      region = h.made.keeps.memory.kept;
      peak = h.made.keeps.memory.rises;
    }

-- a name was noted as absent
passed-keeps : (old new : Tallied) (name : List ℕ) → IsSoundService old.held → IsPassedOver old name (Ok tt) new → HasKept old new
passed-keeps old new name s h = by (can_note old.tally.absent name) h
  where
    now : Tallied
    now = record old { tally = with_absent name old.tally }

    by : (b : Bool) → MatchBool b ((◌≡◌ {A = Result (Unit {0}) Unplayed} (Ok (tt {0})) (Ok (tt {0}))) × (new ≡ now)) ((◌≡◌ {A = Result (Unit {0}) Unplayed} (Ok (tt {0})) (Err unplayed.Tenant)) × (new ≡ old)) → HasKept old new
    by true (_, same) = subst (λ t. HasKept old t) (sym same) (record {
      sound = s;
      counts = refl;
      refusals = refl;
      unplaced = refl;
      reserved = refl;
      room = refl;
      start = refl;
      region = omega arith;
      peak = omega arith;
    })
    by false (wrong, _) = cc

-- arrays were freed
left-keeps : (old new : Tallied) (names : List (List ℕ)) → HaveLeft old names new → HasKept old new
left-keeps old new names h = record {
  sound = h.sound;
  counts = ap counted_of h.tally;
  refusals = h.held.refusals;
  unplaced = h.held.unplaced;
  reserved = h.held.reserved;
  room = h.held.room;
  start = h.held.start;
  region = (let e = h.held.region in omega (arith, e));
  peak = (let e = h.held.peak in omega (arith, e));
}

record-keeps : (old new : Tallied) (bytes : List ℕ) → IsSoundService old.held → Plays bytes old (Ok tt) new → HasKept old new
record-keeps old new bytes s h = by (told bytes) (gone_in bytes) h
  where
    change : (change : Told) (o : Option ℕ) → PlaysChange change o old (Ok tt) new → HasKept old new
    change c (Some place) made = made-keeps old new (changing place c.call) made
    change c None passed = passed-keeps old new c.name s passed

    by : (o : Option Told) (left : Option (List (List ℕ))) → PlaysAs o left old (Ok tt) new → HasKept old new
    by (Some c) left plays = change c (places_in old c.name) plays
    by None (Some names) (_, left) = left-keeps old new names left
    by None None (wrong, _) = cc

pub records-keep : (records : Commit) (old new : Tallied) → IsSoundService old.held → AreReplayed old records new → HasKept old new
records-keep [] old new s same = kept-same old new s same
records-keep (bytes ∷ records) old new s (mid, first, rest) =
    let one = record-keeps old mid bytes s first in
    kept-joined old mid new one (records-keep records mid new one.sound rest)

-- ---- what a journal leaves as it was

-- So it is with a whole journal, and the table stays. What the quotas allow is what those of the table do, or the
-- most words that were live at once.
pub record IsKept (first service : Tallied) : Type 0 where
  pub kept : HasKept first service
  pub counts : service.tally ≡ first.tally
  pub tenants : service.held.tenants ≡ first.held.tenants
  pub rows : AreRows service.held.tenants
  pub granted : service.held.granted ≡ max service.held.peak (words_for service.held.tenants)

pub begun-keeps : (records : Commit) (service : Tallied) → (h : HasBegunWith records service) → IsKept h.first service
unfolding no_counts
begun-keeps records service h = record {
  kept = kept;
  counts = sym (alone service.tally (ap (λ (y : Tally). y.absent) h.limited.tally ∙ h.limited.nobody_absent))
      ∙ kept.counts
      ∙ alone h.first.tally (ap (λ (y : Tally). y.absent) h.new.3.counts ∙ none-absent);
  tenants = table.tenants;
  rows = table.rows;
  granted = ap (λ (x : Held). x.granted) h.limited.held ∙ sym (ap (λ (x : Held). max x.peak (words_for x.tenants)) h.limited.held);
}
  where
    table : IsBegun h.first service
    table = begun-table records service h

    -- nobody is absent in the end, as nobody is in a new service
    none-absent : no_counts.absent ≡ []
    none-absent = refl

    alone : (tally : Tally) → tally.absent ≡ [] → counted_of tally ≡ tally
    alone tally none = ap (λ names. record tally { absent = names }) (sym none)

    lifted : HasKept h.first h.free
    lifted = record {
      sound = h.lifted.sound;
      counts = ap (λ (t : Tallied). counted_of t.tally) h.lifted.now;
      refusals = ap (λ (t : Tallied). t.held.refusals) h.lifted.now;
      unplaced = ap (λ (t : Tallied). t.held.unplaced) h.lifted.now;
      reserved = ap (λ (t : Tallied). t.held.reserved) h.lifted.now;
      room = ap (λ (t : Tallied). t.held.room) h.lifted.now;
      start = ap (λ (t : Tallied). t.held.start) h.lifted.now;
      region = (let e = ap (λ (t : Tallied). t.held.region) h.lifted.now in omega (arith, e));
      peak = (let e = ap (λ (t : Tallied). t.held.peak) h.lifted.now in omega (arith, e));
    }

    limited : HasKept h.played service
    limited = record {
      sound = h.limited.sound;
      counts = ap counted_of h.limited.tally;
      refusals = ap (λ (x : Held). x.refusals) h.limited.held ∙ h.limited.changed.refusals;
      unplaced = ap (λ (x : Held). x.unplaced) h.limited.held ∙ h.limited.changed.unplaced;
      reserved = ap (λ (x : Held). x.reserved) h.limited.held ∙ h.limited.changed.reserved;
      room = ap (λ (x : Held). x.room) h.limited.held ∙ h.limited.changed.room;
      start = ap (λ (x : Held). x.start) h.limited.held ∙ h.limited.changed.start;
      region = (let e = ap (λ (x : Held). x.region) h.limited.held in let f = h.limited.changed.region in omega (arith, e, f));
      peak = (let e = ap (λ (x : Held). x.peak) h.limited.held in let f = h.limited.changed.peak in omega (arith, e, f));
    }

    kept : HasKept h.first service
    kept = kept-joined h.first h.free service lifted (kept-joined h.free h.played service (records-keep records h.free h.played h.lifted.sound h.are) limited)

-- ---- any start

pub started-keeps : (secret : List ℕ) (reserve : Option ℕ) (table : List Tenant) (fresh service : Tallied) → IsNewService secret reserve table fresh
    → HasStarted fresh service → IsKept fresh service
started-keeps secret reserve table fresh service new (inl same) = subst (λ (t : Tallied). IsKept fresh t) (sym same) (record {
  kept = kept-same fresh fresh new.sound refl;
  counts = refl;
  tenants = refl;
  rows = new.rows;
  granted = (let granted = new.granted in let peak = new.sound.peak in omega (arith, granted, peak));
})
started-keeps secret reserve table fresh service new (inr (records, h, same)) = subst (λ (t : Tallied). IsKept t service) same (begun-keeps records service h)

pub started-grants : (secret : List ℕ) (reserve : Option ℕ) (table : List Tenant) (fresh service : Tallied) → IsNewService secret reserve table fresh
    → (start : HasStarted fresh service) → service.held.granted ≡ granted_first start
started-grants secret reserve table fresh service new (inl same) =
    ap (λ (t : Tallied). t.held.granted) same ∙ new.granted ∙ sym (ap (λ (t : Tallied). words_for t.held.tenants) same)
started-grants secret reserve table fresh service new (inr (records, h, same)) = (begun-keeps records service h).granted

-- ---- a server, whatever its start

-- a server without a journal
unfoldable pub served-alone : (secret config socket : List ℕ) (watch : Desks) (reserve : Option ℕ) (limits : Limits) (how : Ending) (log log' : Log)
    → HasServedAll server_rules (IsNewService secret reserve) config socket watch limits how log log'
    → HasServedAny secret reserve config socket watch limits how log log'
served-alone secret config socket watch reserve limits how log log' h = record {
  fresh = h.before;
  before = h.before;
  after = h.after;
  start = h.start;
  ready = h.start;
  mid = h.mid;
  writer = None;
  begun = h.begun;
  started = inl refl;
  is_ready = refl;
  path = h.path;
  paths = h.paths;
  asked = h.asked;
  hosted = h.hosted;
}

module _ (has : Kept → Type 0) (secret config socket : List ℕ) (watch : Desks) (reserve : Option ℕ) (limits : Limits) (log log' : Log) where
  -- a server that went on with its journal
  unfoldable pub served-on : (how : Hosted) (end : Ending)
      → (h : HasServedOn server_rules server_replay has (IsNewService secret) reserve how config socket watch limits log log')
      → IsServing server_rules socket watch limits (Some h.writer) end h.ready log' h.before h.after
      → HasServedAny secret reserve config socket watch limits end log log'
  served-on how end h s = record {
    fresh = h.fresh;
    before = h.before;
    after = h.after;
    start = h.start;
    ready = h.ready;
    mid = s.mid;
    writer = Some h.writer;
    begun = h.begun;
    started = inr (
      all_records h.kept.unpacked ++ all_records h.played.resumed.journal.commits,
      record {
        first = h.fresh;
        new = (secret, reserve, h.begun.opened.tenants, h.begun.opened.fresh);
        table = h.played.table;
        free = h.played.free;
        lifted = h.played.lifted;
        played = h.played.played;
        are = h.played.resumed.journal.played;
        limited = h.played.limited;
      },
      refl,
    );
    is_ready = (h.at, h.made);
    path = s.path;
    paths = s.paths;
    asked = s.asked;
    hosted = s.hosted;
  }

module _ (has : List ℕ → Kept → Type 0) (secret config socket : List ℕ) (watch : Desks) (reserve : Option ℕ) (limits : Limits) (log log' : Log) where
  -- a job that ended in order has served, with the journal of a directory if one is given
  pub done-served : (directory : Option (List ℕ)) → HostsBy has directory secret reserve hosted.Done config socket watch limits log log'
      → HasServedAny secret reserve config socket watch limits ending.Done log log'
  done-served None h = served-alone secret config socket watch reserve limits ending.Done log log' h
  done-served (Some directory) (inl none) = absurd none
  done-served (Some directory) (inr (inl none)) = absurd (by none.cause)
    where
      by : {fresh : Tallied} {start : Log} → HasNotGoneOn server_replay (has directory) fresh hosted.Done start log' → ⊥
      by (inl (inl e, same)) = cc
      by (inl (inr e, same)) = cc
      by (inr (kept, at, before, there, gone, inl (e, same))) = cc
      by (inr (kept, at, before, there, gone, inr (e, begins, fails))) = cc
  done-served (Some directory) (inr (inr h)) = served-on (has directory) secret config socket watch reserve limits log log' hosted.Done ending.Done h h.served

  -- and so has one that was stopped
  pub stopped-served : (directory : Option (List ℕ)) → HostsBy has directory secret reserve hosted.Stopped config socket watch limits log log'
      → HasServedAny secret reserve config socket watch limits ending.Stopped log log'
  stopped-served None h = served-alone secret config socket watch reserve limits ending.Stopped log log' h
  stopped-served (Some directory) (inl none) = absurd none
  stopped-served (Some directory) (inr (inl none)) = absurd (by none.cause)
    where
      by : {fresh : Tallied} {start : Log} → HasNotGoneOn server_replay (has directory) fresh hosted.Stopped start log' → ⊥
      by (inl (inl e, same)) = cc
      by (inl (inr e, same)) = cc
      by (inr (kept, at, before, there, gone, inl (e, same))) = cc
      by (inr (kept, at, before, there, gone, inr (e, begins, fails))) = cc
  stopped-served (Some directory) (inr (inr h)) = served-on (has directory) secret config socket watch reserve limits log log' hosted.Stopped ending.Stopped h h.served

-- ---- the first steps

-- without a journal nothing was written to it; with one, at most the first line of its next segment
abbrev pub Prepares : Sync → Option Writing → List Act → Type 0
Prepares rule None acts = acts ≡ []
Prepares rule (Some w) acts = (acts ≡ []) ⊎ ((old : Writing) × (w ≡ begun old) × Writes (journal_of rule true old) acts (journal_of rule true w))

none-logged : (a b : Log) → b ≡ a → DidLog a [] b
none-logged None b same = tt
none-logged (Some log) b same = same ∙ ap Some (sym (append-nil log))

then-logged : (a b c : Log) (xs ys : List Act) → DidLog a xs b → DidLog b ys c → DidLog a (xs ++ ys) c
then-logged None b c xs ys h k = tt
then-logged (Some log) b c xs ys h k = subst (λ v. DidLog v ys c) h k ∙ ap Some (append_assoc log xs ys)

prepared : (rule : Sync) (writer : Option Writing) (start ready : Log) → IsReady writer start ready
    → (acts : List Act) × Prepares rule writer acts × DidLog start acts ready
prepared rule None start ready same = ([], refl, none-logged start ready same)
prepared rule (Some w) start ready (at, inl (goes, is, same)) = ([], inl refl, none-logged start ready same)
prepared rule (Some w) start ready (at, inr (begins, next)) =
    let (acts, did, writes) = next.1 rule in (acts, inr (writer_there at, next.0, writes), did)

-- between the opening of the file and the first connection nothing else was asked of the system
pub starts-on-socket : (secret config socket : List ℕ) (watch : Desks) (reserve : Option ℕ) (limits : Limits) (how : Ending) (log log' : Log) (rule : Sync)
    → (h : HasServedAny secret reserve config socket watch limits how log log')
    → (socket ≢ []) × HavePaths watch × ((acts : List Act) × Prepares rule h.writer acts
    × DidLog log (Asked (Opened config h.begun.left) ∷ Asked (Shut h.begun.left') ∷ (acts ++ (Asked (Bound socket) ∷ map Asked (watched watch)))) h.mid)
    × HasOpened (IsNewService secret reserve) h.begun.left h.begun.left' h.fresh × HasServedMany server_rules limits h.writer how h.mid log' h.before h.after
starts-on-socket secret config socket watch reserve limits how log log' rule h =
    let (acts, prepares, did) = prepared rule h.writer h.start h.ready h.is_ready in
    let sockets : List Act = Asked (Bound socket) ∷ map Asked (watched watch) in (
      h.path,
      h.paths,
      (
        acts,
        prepares,
        then-logged log h.start h.mid (Asked (Opened config h.begun.left) ∷ Asked (Shut h.begun.left') ∷ []) (acts ++ sockets) h.begun.asked
            (then-logged h.start h.ready h.mid acts sockets did h.asked),
      ),
      h.begun.opened,
      h.hosted,
    )
