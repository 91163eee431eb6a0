-- What `--reserve` promises: with memory for all pieces of the quotas no call is refused for memory.
--     reserved-enough   so many megabytes are enough for the tenants' quotas
--     made-served       then no call is refused for memory
--     turns-served      nor is any line of any connection
--     story-served      nor after new tables, if the megabytes are enough for each of them
--     never-memory      so it is for a server that began with so many megabytes
use Rattle.std.specs.Prelude.{◌≡◌, ◌-◌, ◌*◌, ◌^◌, ◌<◌, ◌≤◌, ℕ, List, [], ◌∷◌, ◌++◌, Some, length}
use Rattle.std.proofs.Common.{◌∙◌, ap, arith, inl, inr, sym, subst}
use Rattle.judy_many.specs.Sessions.{AreTurns, Turn}
use Rattle.judy_many.specs.Statuses.{Passes}
use Rattle.judy_many.specs.Stories.{Story, changes_in, turns_in}
use Rattle.judy_many.specs.Stories.Moment.{Changed, Did, Ran}
use Rattle.judy_many.specs.declared.serve.Ending.{Ending}
use Rattle.judy_many.specs.declared.serve.Limits.{Limits}
use Rattle.judy_model.specs.declared.replies.Reply.{Reply}
use Rattle.judy_model.specs.Speakers.{Event}
use Rattle.judy_protocol.specs.Services.{AreMade}
use Rattle.judy_programs.specs.Asking.{Log}
use Rattle.judy_programs.specs.Hosting.{Desks}
use Rattle.judy_table.specs.declared.tenant.Tenant.{Tenant}
use Rattle.judy_tenants.specs.Held.{Held, IsCallOf, IsSoundService, all_quotas, quotas_of}
use Rattle.judy_tenants.specs.Runs.{AreCallsOf, NoneForMemory}
use Rattle.judy_tenants.proofs.lemmas.Enough.{HasEnough, HasRoom, enough-for-call, room-for-run}
use Rattle.judy_server.specs.Reloads.{IsReload, rows_with}
use Rattle.judy_server.specs.Rules.{server_rules}
use Rattle.judy_server.specs.Served.{IsServedStep, IsNewService}
use Rattle.judy_server.specs.Space.{AreMuch, IsMuch, NoTurnForMemory}
use Rattle.judy_server.specs.Starts.{HasServedAny, HasStarted, IsPlayedWithin}
use Rattle.judy_server.specs.Tally.{Tallied}
use Rattle.judy_server.proofs.lemmas.Space.{rows-of, rows-stay}
use Rattle.judy_server.proofs.lemmas.Starting.{started-grants, started-keeps}

pub reserved-enough : (secret : List ℕ) (megabytes : ℕ) (tenants : List Tenant) (t : Tallied) → IsNewService secret (Some megabytes) tenants t
    → IsMuch megabytes tenants → HasEnough t.held × HasRoom t.held
reserved-enough secret megabytes tenants t new much =
    let same = ap (λ ts. all_quotas (length ts) (quotas_of ts)) new.tenants in let region = new.taken.0 in let room = new.taken.1 in
    let granted = new.granted in (omega (arith, same, granted, region, much), omega (arith, same, room, much))

-- the calls of a service, one after another
calls-of : (before : Tallied) (ps : List (Event × Reply)) (after : Tallied) → AreMade IsServedStep before ps after → AreCallsOf before.held ps after.held
calls-of before [] after run = ap (λ (t : Tallied). t.held) run
calls-of before (p ∷ ps) after (mid, step, run) =
    (mid.held, record { served = step.called.served; cause = step.cause; keeps = step.keeps; sound = step.sound }, calls-of mid ps after run)

-- A sound service that began with so many megabytes, which are enough for each table so far. Its count of
-- refusals is not saturated.
pub record IsAmple (megabytes : ℕ) (held : Held) : Type 0 where
  pub sound : IsSoundService held
  pub region : 131072 * megabytes ≤ held.region
  pub names : 64 * megabytes ≤ held.room
  pub granted : 128 * held.granted < 131072 * megabytes
  pub much : IsMuch megabytes held.tenants
  pub low : held.refusals < 2 ^ 64 - 1

has-enough : (megabytes : ℕ) (held : Held) → IsAmple megabytes held → HasEnough held
has-enough megabytes held a = let most = a.granted in let taken = a.region in omega (arith, most, taken)

has-room : (megabytes : ℕ) (held : Held) → IsAmple megabytes held → HasRoom held
has-room megabytes held a = let few = a.much in let names = a.names in omega (arith, few, names)

-- it stays one
stays-ample : (megabytes : ℕ) (before : Tallied) (ps : List (Event × Reply)) (after : Tallied) → IsAmple megabytes before.held → AreMade IsServedStep before ps after
    → IsAmple megabytes after.held
stays-ample megabytes before [] after a run = subst (λ (t : Tallied). IsAmple megabytes t.held) (sym run) a
stays-ample megabytes before (p ∷ ps) after a (mid, step, run) =
    let call_of : IsCallOf before.held p.0 p.1 mid.held = record { served = step.called.served; cause = step.cause; keeps = step.keeps; sound = step.sound } in
    let same = enough-for-call before.held p.0 p.1 mid.held call_of (has-enough megabytes before.held a) in
    let low = a.low in let most = a.granted in let taken = a.region in let names = a.names in
    let kept = step.keeps.memory.kept in let granted = step.keeps.granted in let room = step.keeps.room in
    stays-ample megabytes mid ps after (record {
      sound = step.sound;
      region = omega (arith, taken, kept);
      names = omega (arith, names, room);
      granted = omega (arith, most, granted);
      much = subst (IsMuch megabytes) (sym step.keeps.tenants) a.much;
      low = omega (arith, same, low);
    }) run

-- no call is refused for memory
pub made-served : (megabytes : ℕ) (before : Tallied) (ps : List (Event × Reply)) (after : Tallied) → IsAmple megabytes before.held
    → AreMade IsServedStep before ps after → NoneForMemory ps
made-served megabytes before ps after a run =
    room-for-run before.held ps after.held a.sound (has-enough megabytes before.held a) (has-room megabytes before.held a) a.low (calls-of before ps after run)

then-none : (ts us : List Turn) → NoTurnForMemory ts → NoTurnForMemory us → NoTurnForMemory (ts ++ us)
then-none [] us h k = k
then-none (t ∷ ts) us h k = (h.0, then-none ts us h.1 k)

-- the service stays one over them
pub turns-served : (megabytes : ℕ) (before : Tallied) (turns : List Turn) (after : Tallied) → IsAmple megabytes before.held → AreTurns server_rules before turns after
    → NoTurnForMemory turns × IsAmple megabytes after.held
turns-served megabytes before [] after a run = (tt, subst (λ (t : Tallied). IsAmple megabytes t.held) (sym run) a)
turns-served megabytes before (t ∷ turns) after a (mid, one, run) =
    let kept : mid.held ≡ one.mid.held = ap (λ (s : Tallied). s.held) one.noted in
    let later = turns-served megabytes mid turns after (subst (IsAmple megabytes) (sym kept) (stays-ample megabytes before _ one.mid a one.calls)) run in
    ((made-served megabytes before _ one.mid a one.calls, later.0), later.1)

-- the megabytes are enough for a new table
change-ample : (megabytes : ℕ) (old : Tallied) (text : List ℕ) (new : Tallied) → IsAmple megabytes old.held → IsReload old text new
    → IsMuch megabytes (rows_with old.held.tenants text) → IsAmple megabytes new.held
change-ample megabytes old text new a r enough =
    let much : IsMuch megabytes new.held.tenants = subst (IsMuch megabytes) (sym (rows-of old text new r)) enough in
    let most = a.granted in let low = a.low in let taken = a.region in let names = a.names in
    let granted = r.held.granted in let region = r.held.region in let room = r.held.room in let refusals = r.held.refusals in record {
      sound = r.sound;
      region = omega (arith, taken, region);
      names = omega (arith, names, room);
      granted = omega (arith, most, granted, much);
      much = much;
      low = omega (arith, low, refusals);
    }

-- over new tables too, if the megabytes are enough for each of them
pub story-served : (megabytes : ℕ) (past : Story) (before : Tallied) (story : Story) (after : Tallied) → IsAmple megabytes before.held
    → AreMuch megabytes before.held.tenants (changes_in story) → Passes server_rules past before story after → NoTurnForMemory (turns_in story)
story-served megabytes past before [] after a much run = tt
story-served megabytes past before (Did x ∷ story) after a much run = story-served megabytes (past ++ Did x ∷ []) before story after a much run.1
story-served megabytes past before (Ran n turns ∷ story) after a much (mid, first, rest) =
    let here = turns-served megabytes before turns mid a first in
    then-none turns (turns_in story) here.0
    (story-served megabytes (past ++ Ran n turns ∷ []) mid story after here.1
    (subst (λ rows. AreMuch megabytes rows (changes_in story)) (sym (rows-stay turns before mid first)) much) rest)
story-served megabytes past before (Changed text left ∷ story) after a much (mid, step, rest) =
    story-served megabytes (past ++ Changed text left ∷ []) mid story after (change-ample megabytes before text mid a step much.0)
    (subst (λ rows. AreMuch megabytes rows (changes_in story)) (sym (rows-of before text mid step)) much.1) rest

-- with so few words that were live while a journal was played the quotas allow few words
started-few : (secret : List ℕ) (megabytes : ℕ) (table : List Tenant) (fresh service : Tallied) → IsNewService secret (Some megabytes) table fresh
    → (start : HasStarted fresh service) → IsPlayedWithin megabytes start → IsMuch megabytes service.held.tenants
    → 128 * service.held.granted < 131072 * megabytes
started-few secret megabytes table fresh service new (inl same) within much =
    let granted = started-grants secret (Some megabytes) table fresh service new (inl same) in omega (arith, granted, much)
started-few secret megabytes table fresh service new (inr played) within much =
    let granted = started-grants secret (Some megabytes) table fresh service new (inr played) in omega (arith, granted, within, much)

-- a server that began with so many megabytes refuses no call for memory, whatever is called, as long as
-- they are enough for each table that is put in force
pub never-memory : (secret config socket : List ℕ) (watch : Desks) (megabytes : ℕ) (limits : Limits) (how : Ending) (log log' : Log)
    → (h : HasServedAny secret (Some megabytes) config socket watch limits how log log') → IsPlayedWithin megabytes h.started
    → IsMuch megabytes h.begun.opened.tenants → AreMuch megabytes h.begun.opened.tenants (changes_in h.hosted.story)
    → NoTurnForMemory (turns_in h.hosted.story)
never-memory secret config socket watch megabytes limits how log log' h within much later =
    let new = h.begun.opened.fresh in
    let began = started-keeps secret (Some megabytes) h.begun.opened.tenants h.fresh h.before new h.started in
    let tenants : h.before.held.tenants ≡ h.begun.opened.tenants = began.tenants ∙ new.tenants in
    let same : IsMuch megabytes h.before.held.tenants = subst (IsMuch megabytes) (sym tenants) much in
    let none = new.refusals in let refusals = began.kept.refusals in
    let taken = new.taken.0 in let region = began.kept.region in let names = new.taken.1 in let room = began.kept.room in
    story-served megabytes [] h.before h.hosted.story h.after
    (record {
      sound = began.kept.sound;
      region = omega (arith, taken, region);
      names = omega (arith, names, room);
      granted = started-few secret megabytes h.begun.opened.tenants h.fresh h.before new h.started within same;
      much = same;
      low = omega (arith, none, refusals);
    })
    (subst (λ rows. AreMuch megabytes rows (changes_in h.hosted.story)) (sym tenants) later) h.hosted.told
