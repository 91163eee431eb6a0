-- How a server begins: the file with the table, and what follows if it gives no service.
use Rattle.std.proofs.Common.{inl, inr, ℕ, List, [], ◌∷◌, ◌++◌, None, Some, map, refl}
use Rattle.std.proofs.Common.{Bool, false, true, sym, ◌∙◌, ap, subst, append_assoc, append-nil}
use Rattle.std.specs.Prelude.{◌≡◌, ◌≢◌, IsSome, Option}
use Rattle.judy_many.specs.Nets.{Act, DidLog, Step}
use Rattle.judy_many.specs.Nets.Act.{Asked}
use Rattle.judy_many.specs.Nets.Step.{Bound, Controlled, Opened, Shut, Uncontrolled, Unwatched, Watched}
use Rattle.judy_many.specs.Crowds.{HasServedMany}
use Rattle.judy_many.specs.Rules.{Rules}
use Rattle.judy_many.specs.declared.serve.Ending.{Ending}
use Rattle.judy_many.specs.declared.serve.Ending.TheVariants as ending
use Rattle.judy_journal.specs.Writes.{Writing}
use Rattle.judy_many.specs.declared.serve.Limits.{Limits}
use Rattle.judy_protocol.specs.Serving.{MaybeBytes}
use Rattle.judy_programs.specs.Asking.{Log, Logs}
use Rattle.judy_programs.specs.Hosting.{Checks, Desks, HasBegun, HasNoReserve, HasServedAll, Hosts, IsServing, Makes, Refuses, Serves, Watches, desks_at, hosted_by, made_at, watched}
use Rattle.judy_programs.specs.Opening.{HasOpened, IsShut}
use Rattle.judy_programs.specs.declared.socket.Hosted.{Hosted}
use Rattle.judy_programs.specs.declared.socket.Hosted.TheVariants as hosted
use Rattle.judy_table.specs.declared.tenant.Tenant.{Tenant}

-- ---- steps

pub none_yet : (log : Log) → Logs log [] log
none_yet None = tt
none_yet (Some log) = ap Some (sym (append-nil log))

pub logs_then : (a b c : Log) (xs ys : List Act) → DidLog a xs b → DidLog b ys c → DidLog a (xs ++ ys) c
logs_then None b c xs ys h k = tt
logs_then (Some log) b c xs ys h k =
    let later : DidLog (Some (log ++ xs)) ys c = subst (λ v. DidLog v ys c) h k in
    later ∙ ap Some (append_assoc log xs ys)

pub logs_two : (a b c : Log) (x y : Step) → Logs a (x ∷ []) b → Logs b (y ∷ []) c → Logs a (x ∷ y ∷ []) c
logs_two a b c x y h k = logs_then a b c (Asked x ∷ []) (Asked y ∷ []) h k

-- ---- no service

-- a service that is new in one sense is new in another
begun_as : {S : Type 0} (is_new is_new' : List Tenant → S → Type 0) (config : List ℕ) (left left' : MaybeBytes) (log log' : Log) (s s' : S)
    → HasOpened is_new left left' s → ((tenants : List Tenant) → is_new tenants s → is_new' tenants s')
    → Logs log (Opened config left ∷ Shut left' ∷ []) log' → HasBegun is_new' config log log' s'
begun_as is_new is_new' config left left' log log' s s' o new a = record {
  left = left;
  left' = left';
  opened = record {
    text = o.text;
    tenants = o.tenants;
    read = o.read;
    end = o.end;
    short = o.short;
    reads = o.reads;
    fresh = new o.tenants o.fresh;
  };
  asked = a;
}

module _ {S : Type 0} (is_new : Option ℕ → List Tenant → S → Type 0) (reserve : Option ℕ) where
  -- the file with the table gave no service
  pub no_service : (how : Hosted) (config : List ℕ) (left left' : MaybeBytes) (log log' : Log)
      → IsShut how left left' → Logs log (Opened config left ∷ Shut left' ∷ []) log' → Refuses is_new reserve how config log log'
  no_service hosted.Config config left left' log log' h a = inr (record { left = left; left' = left'; shut = h; asked = a })
  no_service hosted.Long config left left' log log' h a = record { left = left; left' = left'; shut = h; asked = a }
  no_service (hosted.Table f) config left left' log log' h a = record { left = left; left' = left'; shut = h; asked = a }
  no_service hosted.Memory config left left' log log' h a = record { left = left; left' = left'; shut = h; asked = a }
  no_service other config left left' log log' h a = absurd h

  -- the file gave a service, and so much memory was taken for it
  pub begins : (config : List ℕ) (left left' : MaybeBytes) (log log' : Log) (s s' : S) → HasOpened (is_new None) left left' s
      → ((tenants : List Tenant) → is_new None tenants s → is_new reserve tenants s')
      → Logs log (Opened config left ∷ Shut left' ∷ []) log' → HasBegun (is_new reserve) config log log' s'
  begins = begun_as (is_new None) (is_new reserve)

  -- the file gave a service, and there was not so much memory for it
  pub no_reserve : (config : List ℕ) (left left' : MaybeBytes) (log log' : Log) (s : S) → HasOpened (is_new None) left left' s → IsSome reserve
      → Logs log (Opened config left ∷ Shut left' ∷ []) log' → HasNoReserve is_new reserve config log log'
  no_reserve config left left' log log' s o some a = by reserve refl some
    where
      by : (r : Option ℕ) → reserve ≡ r → IsSome r → HasNoReserve is_new reserve config log log'
      by None e i = cc
      by (Some megabytes) e i = record {
        megabytes = megabytes;
        wanted = e;
        before = s;
        begun = begun_as (is_new None) (is_new None) config left left' log log' s s o (λ tenants new. new) a;
      }

  -- then there is no service to check, and none to serve with
  pub checks_none : (how : Hosted) (config : List ℕ) (log log' : Log) → Refuses is_new reserve how config log log'
      → Checks is_new reserve how config log log'
  checks_none hosted.Done config log log' h = absurd h
  checks_none hosted.Stopped config log log' h = absurd h
  checks_none hosted.Recovery config log log' h = absurd h
  checks_none hosted.Journal config log log' h = absurd h
  checks_none other config log log' h = h

  pub hosts_none : (rules : Rules S) (how : Hosted) (config socket : List ℕ) (watch : Desks) (limits : Limits) (log log' : Log)
      → Refuses is_new reserve how config log log' → Hosts rules is_new reserve how config socket watch limits log log'
  hosts_none rules hosted.Config config socket watch limits log log' h = h
  hosts_none rules hosted.Long config socket watch limits log log' h = h
  hosts_none rules (hosted.Table f) config socket watch limits log log' h = h
  hosts_none rules hosted.Memory config socket watch limits log log' h = inl h
  hosts_none rules hosted.Reserve config socket watch limits log log' h = h
  hosts_none rules other config socket watch limits log log' h = absurd h

-- ---- a service and its sockets

-- the sockets of the operator are made one after the other
pub watches_both : (status control : Option (List ℕ)) (made : Bool) (log mid log' : Log) → Makes Watched Unwatched true status log mid
    → Makes Controlled Uncontrolled made control mid log' → Watches made (desks_at status control) log log'
watches_both status control false log mid log' h k = inr (mid, h, k)
watches_both None control true log mid log' h k = ((h.0, k.0), logs_then log mid log' [] (map Asked (made_at Controlled control)) h.1 k.1)
watches_both (Some path) control true log mid log' h k =
    ((h.0, k.0), logs_then log mid log' (Asked (Watched path) ∷ []) (map Asked (made_at Controlled control)) h.1 k.1)

module _ {S : Type 0} (rules : Rules S) (socket : List ℕ) (watch : Desks) (limits : Limits) (writer : Option Writing) where
  -- the sockets were made, and connections were served
  pub serving : (how : Ending) (log bound mid log' : Log) (before after : S)
      → socket ≢ [] → Logs log (Bound socket ∷ []) bound → Watches true watch bound mid
      → HasServedMany rules limits writer how mid log' before after → IsServing rules socket watch limits writer how log log' before after
  serving how log bound mid log' before after path first watches hosted = record {
    mid = mid;
    path = path;
    paths = watches.0;
    asked = logs_then log bound mid (Asked (Bound socket) ∷ []) (map Asked (watched watch)) first watches.1;
    hosted = hosted;
  }

  -- the same, by how the server ended
  pub serves : (how : Ending) (log log' : Log) (before after : S) → IsServing rules socket watch limits writer how log log' before after
      → Serves rules (hosted_by how) socket watch limits writer log log' before after
  serves ending.Done log log' before after h = h
  serves ending.Stopped log log' before after h = h
  serves ending.Memory log log' before after h = h
  serves ending.Journal log log' before after h = h
  serves ending.Socket log log' before after h = inr h

module _ {S : Type 0} (rules : Rules S) (is_new : Option ℕ → List Tenant → S → Type 0) (reserve : Option ℕ) where
  -- the file gave a service, which served without a journal
  served_all : (config socket : List ℕ) (watch : Desks) (limits : Limits) (how : Ending) (log start log' : Log) (before after : S)
      → HasBegun (is_new reserve) config log start before → IsServing rules socket watch limits None how start log' before after
      → HasServedAll rules (is_new reserve) config socket watch limits how log log'
  served_all config socket watch limits how log start log' before after begun s = record {
    before = before;
    after = after;
    start = start;
    mid = s.mid;
    begun = begun;
    path = s.path;
    paths = s.paths;
    asked = s.asked;
    hosted = s.hosted;
  }

  pub hosts_served : (how : Hosted) (config socket : List ℕ) (watch : Desks) (limits : Limits) (log start log' : Log) (before after : S)
      → HasBegun (is_new reserve) config log start before → Serves rules how socket watch limits None start log' before after
      → Hosts rules is_new reserve how config socket watch limits log log'
  hosts_served hosted.Done config socket watch limits log start log' before after b s =
      served_all config socket watch limits ending.Done log start log' before after b s
  hosts_served hosted.Stopped config socket watch limits log start log' before after b s =
      served_all config socket watch limits ending.Stopped log start log' before after b s
  hosts_served hosted.Journal config socket watch limits log start log' before after b s =
      served_all config socket watch limits ending.Journal log start log' before after b s
  hosts_served hosted.Memory config socket watch limits log start log' before after b s =
      inr (served_all config socket watch limits ending.Memory log start log' before after b s)
  hosts_served hosted.Socket config socket watch limits log start log' before after b (inl none) =
      inl (record { before = before; start = start; begun = b; asked = none })
  hosts_served hosted.Socket config socket watch limits log start log' before after b (inr s) =
      inr (served_all config socket watch limits ending.Socket log start log' before after b s)
  hosts_served hosted.Config config socket watch limits log start log' before after b s = absurd s
  hosts_served hosted.Long config socket watch limits log start log' before after b s = absurd s
  hosts_served (hosted.Table f) config socket watch limits log start log' before after b s = absurd s
  hosts_served hosted.Reserve config socket watch limits log start log' before after b s = absurd s
  hosts_served hosted.Recovery config socket watch limits log start log' before after b s = absurd s
