-- What is told on the status socket.
use Rattle.std.proofs.Common.{append-nil, append_assoc, ◌≡◌, ℕ, Bool, true, false, List, [], ◌∷◌, ◌++◌, Option, None, arith, refl, subst, sym, ◌∙◌}
use Rattle.judy_many.specs.Endings.{reports_by, reports_in}
use Rattle.judy_many.specs.Questions.{gone_how, gones_by, gones_in}
use Rattle.judy_many.specs.Nets.{Act}
use Rattle.judy_many.specs.Nets.Act.{Closed, Reported, Took}
use Rattle.judy_many.specs.Rules.{Rules}
use Rattle.judy_many.specs.Sessions.{AreTurns, Turn}
use Rattle.judy_many.specs.Statuses.{IsClosedFor, Lasts, Passes, Tells}
use Rattle.judy_many.specs.Stories.{AreRead, Moment, Share, Story, acts_in, changes_in, just_read, share_of, times, turns_in}
use Rattle.judy_many.specs.Stories.Moment.{Changed, Did, Ran}
use Rattle.judy_many.specs.declared.network.How.{How}
use Rattle.judy_many.specs.declared.network.How.TheVariants as how
use Rattle.judy_many.specs.declared.serve.Limits.{Limits}
use Rattle.judy_many.proofs.Stepping.{AreTurns-append}

-- a close for another cause
pub ungone : (h : How) (past : Story) (n : ℕ) → gone_how h ≡ 0 → IsClosedFor h past n
ungone how.Gone past n e = absurd (omega (arith, e))
ungone other past n e = tt

-- an answer that is no report, no close of a connection whose speaker is gone, and none for the journal
untold : {S : Type 0} (rules : Rules S) (now : S) (past : Story) (a : Act) → reports_by a ≡ 0 → gones_by a ≡ 0 → share_of a Share.Asking ≡ 0 → Tells rules now past a
untold rules now past (Reported told) e g f = absurd (omega (arith, e))
untold rules now past (Closed n h) e g f = ungone h past n g
untold rules now past (Took n name limit takes) e g f = absurd (omega (arith, f))
untold rules now past act e g f = tt

some : (text : List ℕ) (texts : List (List ℕ)) → text ∷ texts ≡ [] → ⊥
some text texts e = cc

module _ {S : Type 0} (rules : Rules S) where
  -- lines that were run in two parts
  split_turns : (before after : S) (a b : List Turn) → AreTurns rules before (a ++ b) after → (mid : S) × AreTurns rules before a mid × AreTurns rules mid b after
  split_turns before after [] b h = (before, refl, h)
  split_turns before after (t ∷ a) b (mid, one, rest) =
      let (last, first, more) = split_turns mid after a b rest in
      (last, (mid, one, first), more)

  -- where nothing is told, lines are all that happens to the service
  pub passes_plain : (past : Story) (before after : S) (story : Story) → reports_in (acts_in story) ≡ 0 → gones_in (acts_in story) ≡ 0 → times Share.Asking story ≡ 0 → changes_in story ≡ []
      → AreTurns rules before (turns_in story) after → Passes rules past before story after
  passes_plain past before after [] none stay quiet same h = h
  passes_plain past before after (Did a ∷ story) none stay quiet same h =
      (untold rules before past a (omega (arith, none)) (omega (arith, stay)) (omega (arith, quiet)), passes_plain (past ++ Did a ∷ []) before after story (omega (arith, none)) (omega (arith, stay)) (omega (arith, quiet)) same h)
  passes_plain past before after (Ran n turns ∷ story) none stay quiet same h =
      let (mid, first, more) = split_turns before after turns (turns_in story) h in
      (mid, first, passes_plain (past ++ Ran n turns ∷ []) mid after story none stay (omega (arith, quiet)) same more)
  passes_plain past before after (Changed text left ∷ story) none stay quiet same h = absurd (some text (changes_in story) same)

  -- the past of what comes after a moment
  onward : (past : Story) (m : Moment) (a b : Story) (mid after : S) → Passes rules (past ++ m ∷ a) mid b after → Passes rules ((past ++ m ∷ []) ++ a) mid b after
  onward past m a b mid after k = subst (λ p. Passes rules p mid b after) (sym (append_assoc past (m ∷ []) a)) k

  pub Passes-append : (past : Story) (before mid after : S) (a b : Story) → Passes rules past before a mid → Passes rules (past ++ a) mid b after → Passes rules past before (a ++ b) after
  Passes-append past before mid after [] b h k = subst (λ p. Passes rules p before b after) (append-nil past) (subst (λ s. Passes rules (past ++ []) s b after) h k)
  Passes-append past before mid after (Did x ∷ a) b h k =
      (h.0, Passes-append (past ++ Did x ∷ []) before mid after a b h.1 (onward past (Did x) a b mid after k))
  Passes-append past before mid after (Ran n turns ∷ a) b (next, first, rest) k =
      (next, first, Passes-append (past ++ Ran n turns ∷ []) next mid after a b rest (onward past (Ran n turns) a b mid after k))
  Passes-append past before mid after (Changed text left ∷ a) b (next, first, rest) k =
      (next, first, Passes-append (past ++ Changed text left ∷ []) next mid after a b rest (onward past (Changed text left) a b mid after k))

  -- the lines of a story in which the table stays
  pub passes_run : (past : Story) (before after : S) (story : Story) → changes_in story ≡ [] → Passes rules past before story after → AreTurns rules before (turns_in story) after
  passes_run past before after [] same h = h
  passes_run past before after (Did a ∷ story) same h = passes_run (past ++ Did a ∷ []) before after story same h.1
  passes_run past before after (Ran n turns ∷ story) same (mid, first, rest) =
      AreTurns-append rules before mid after turns (turns_in story) first (passes_run (past ++ Ran n turns ∷ []) mid after story same rest)
  passes_run past before after (Changed text left ∷ story) same h = absurd (some text (changes_in story) same)

-- ---- tables that keep all tenants

module _ {S : Type 0} (rules : Rules S) (keep : Bool) where
  pub lasts_plain : (before after : S) (story : Story) → changes_in story ≡ [] → AreTurns rules before (turns_in story) after → Lasts rules keep before story after
  lasts_plain before after [] same h = h
  lasts_plain before after (Did a ∷ story) same h = lasts_plain before after story same h
  lasts_plain before after (Ran n turns ∷ story) same h =
      let (mid, first, more) = split_turns rules before after turns (turns_in story) h in
      (mid, first, lasts_plain mid after story same more)
  lasts_plain before after (Changed text left ∷ story) same h = absurd (some text (changes_in story) same)

  pub Lasts-append : (before mid after : S) (a b : Story) → Lasts rules keep before a mid → Lasts rules keep mid b after → Lasts rules keep before (a ++ b) after
  Lasts-append before mid after [] b h k = subst (λ s. Lasts rules keep s b after) h k
  Lasts-append before mid after (Did x ∷ a) b h k = Lasts-append before mid after a b h k
  Lasts-append before mid after (Ran n turns ∷ a) b (next, first, rest) k = (next, first, Lasts-append next mid after a b rest k)
  Lasts-append before mid after (Changed text left ∷ a) b (next, first, keeps, rest) k = (next, first, keeps, Lasts-append next mid after a b rest k)

-- ---- tables that were read

pub AreRead-append : (limits : Limits) (last : Option (List ℕ)) (a b : Story) → AreRead limits last a → ((l : Option (List ℕ)) → AreRead limits l b) → AreRead limits last (a ++ b)
AreRead-append limits last [] b h k = k last
AreRead-append limits last (Did x ∷ a) b h k = AreRead-append limits (just_read x) a b h k
AreRead-append limits last (Ran n turns ∷ a) b h k = AreRead-append limits None a b h k
AreRead-append limits last (Changed text left ∷ a) b h k = (h.0, h.1, AreRead-append limits None a b h.2 k)

-- where the table stays there is nothing to say
pub reads_plain : (limits : Limits) (story : Story) → changes_in story ≡ [] → (last : Option (List ℕ)) → AreRead limits last story
reads_plain limits [] same last = tt
reads_plain limits (Did x ∷ a) same last = reads_plain limits a same (just_read x)
reads_plain limits (Ran n turns ∷ a) same last = reads_plain limits a same None
reads_plain limits (Changed text left ∷ a) same last = absurd (some text (changes_in a) same)

-- without a status socket the table stays
pub unasked : (limits : Limits) (story : Story) (last : Option (List ℕ)) → limits.status ≡ false → AreRead limits last story → changes_in story ≡ []
unasked limits [] last off h = refl
unasked limits (Did x ∷ a) last off h = unasked limits a (just_read x) off h
unasked limits (Ran n turns ∷ a) last off h = unasked limits a None off h
unasked limits (Changed text left ∷ a) last off h = absurd (never (sym off ∙ h.1))
  where
    never : false ≡ true → ⊥
    never e = cc
