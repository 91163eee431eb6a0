-- Many clients: the beginning, before anything was asked of the system.
use Rattle.std.proofs.Common.{◌≡◌, ◌≤◌, ◌+◌, ℕ, true, false, List, [], ◌∷◌, ◌++◌, length, Option, None, arith, refl, sym}
use Rattle.judy_many.specs.Books.{Journal}
use Rattle.judy_many.specs.Crowds.{AreFree, Crowd, past_of}
use Rattle.judy_many.specs.Journaling.{MayKeep}
use Rattle.judy_many.specs.Lives.{IsPart, IsServed, View}
use Rattle.judy_many.specs.Nets.{Acts}
use Rattle.judy_many.specs.Nets.Act.{Closed}
use Rattle.judy_many.specs.Queues.{Line}
use Rattle.judy_many.specs.Rules.{Rules}
use Rattle.judy_many.specs.Stories.{Phase, Share, Story, acts_in, came_in, closed_in, turns_in, turns_since}
use Rattle.judy_many.specs.Stories.Moment.{Did}
use Rattle.judy_many.specs.Watches.{nobody}
use Rattle.judy_many.specs.declared.network.How.{How}
use Rattle.judy_many.specs.declared.serve.Limits.{Limits}
use Rattle.judy_many.proofs.Journals.{keeps_quiet}
use Rattle.judy_many.proofs.Living.{no_log}
use Rattle.judy_many.proofs.Seats.{free_at, taken_none}
use Rattle.judy_many.proofs.Sharing.{shares_none}
use Rattle.judy_many.proofs.Telling.{ready_none}
use Rattle.judy_many.proofs.Watching.{awake_none, each_none}

never : false ≡ true → ⊥
never e = cc

unserved : IsServed []
unserved = record {
  order = λ p q cut. at_start p q (sym cut);
  ready = ready_none;
  whole = λ yes. absurd (never yes);
  why = λ p q n how cut. absurd (no_close p q n how (sym cut));
  once = (omega arith, omega arith);
}
  where
    no_close : (p q : Story) (n : ℕ) (how : How) → p ++ Did (Closed n how) ∷ q ≡ [] → ⊥
    no_close [] q n how e = cc
    no_close (m ∷ p) q n how e = cc

    at_start : (p q : Story) → p ++ q ≡ [] → IsPart (acts_in p) (turns_in p)
    at_start [] q e = record { heard = []; unheard = []; missing = []; last_who = None; read = refl; ran = refl; speaks = refl; text = refl; last = refl }
    at_start (m ∷ p) q e = absurd (some e)
      where
        some : m ∷ (p ++ q) ≡ [] → ⊥
        some e = cc

pub crowd_first : {B S : Type 0} (line : Line) (view : B → View) (rules : Rules S) (limits : Limits) (first : S) (start : Acts) (began : Option Journal) (slots : List (Option B)) → AreFree slots
    → length slots ≤ limits.clients → length slots ≤ 1024 → MayKeep limits began → (h : Crowd view rules limits first start Phase.Sweeps (nobody line) (past_of 0 began began) start slots 0 first) × (h.story ≡ [])
crowd_first line view rules limits first start began slots free sized small allowed = (
  record {
    story = [];
    is_told = record {
      logged = no_log start;
      run = refl;
      lasts = refl;
      total = refl;
      capped = omega arith;
      opened = let e = taken_none slots free in omega (arith, e);
      sized = sized;
      small = small;
      few = λ p q cut. at_start p q (sym cut);
      within = tt;
      phases = tt;
      quiet = λ e. refl;
      fair = λ p q cut n share. unturned p q n share (sym cut);
      shared = shares_none limits.share;
      unlost = refl;
      waited = refl;
      reads = tt;
      keeps = keeps_quiet began [] refl;
      allowed = allowed;
      settled = λ e. absurd (sweeps_not_writes e);
      awake = awake_none;
      each = each_none limits.share;
      limited = tt;
      inquired = tt;
      asked = tt;
      stage = refl;
      single = λ e. tt;
    };
    below = λ i b there. absurd (free_at slots i b free there);
    live = λ i b there. absurd (free_at slots i b free there);
    apart = λ i j b c there too e. absurd (free_at slots i b free there);
    fresh = λ n over. refl;
    served = λ n. unserved;
    ready = λ i b there. absurd (free_at slots i b free there);
    ends = λ n few. absurd (omega (arith, few));
    alert = λ i b there. absurd (free_at slots i b free there);
    counted = λ e. absurd (sweeps_not_reads e);
  },
  refl,
)
  where
    sweeps_not_reads : Phase.Sweeps ≡ Phase.Reads → ⊥
    sweeps_not_reads e = cc

    sweeps_not_writes : Phase.Sweeps ≡ Phase.Writes → ⊥
    sweeps_not_writes e = cc

    unturned : (p q : Story) (n : ℕ) (share : Share) → p ++ q ≡ [] → turns_since n share 0 p ≤ 1
    unturned [] q n share e = omega arith
    unturned (m ∷ p) q n share e = absurd (some e)
      where
        some : m ∷ (p ++ q) ≡ [] → ⊥
        some e = cc

    at_start : (p q : Story) → p ++ q ≡ [] → came_in (acts_in p) ≤ closed_in (acts_in p) + limits.clients
    at_start [] q e = omega arith
    at_start (m ∷ p) q e = absurd (some e)
      where
        some : m ∷ (p ++ q) ≡ [] → ⊥
        some e = cc

pub crowd_none : {B S : Type 0} (line : Line) (view : B → View) (rules : Rules S) (limits : Limits) (first : S) (start : Acts) (began : Option Journal) (slots : List (Option B)) → AreFree slots
    → length slots ≤ limits.clients → length slots ≤ 1024 → MayKeep limits began → Crowd view rules limits first start Phase.Sweeps (nobody line) (past_of 0 began began) start slots 0 first
crowd_none line view rules limits first start began slots free sized small allowed = (crowd_first line view rules limits first start began slots free sized small allowed).0
