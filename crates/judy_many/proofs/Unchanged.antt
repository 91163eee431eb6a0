-- Laws of many connections, where the table stayed.
--     table_stays              without a status socket the table stays
--     run_is                   where it stayed, all lines are one run of the service
--     one_run                  over it each tenant's replies are those that it would get alone
--     one_login                each speaker of a connection is by the names and tokens of the table, if none
--                              of its log-ins was refused since its tenant has enough connections, and no line
--                              since the journal does not take its record
--     let_in                   without a limit of a tenant's connections and without a journal none was
--     keeps_all                it kept each tenant's quota and arrays
use Rattle.std.proofs.Common.{◌≡◌, ℕ, false, List, [], ◌∷◌, ◌++◌, Option, None, ap, subst, refl}
use Rattle.judy_journal.specs.Writes.{Writing}
use Rattle.std.specs.Prelude.{is_some}
use Rattle.judy_many.specs.Barred.{IsInquired}
use Rattle.judy_many.specs.Changes.{Chain, IsAlone}
use Rattle.judy_many.specs.Crowds.{HasServedMany}
use Rattle.judy_many.specs.Nets.{Acts}
use Rattle.judy_many.specs.Others.{IsLimited}
use Rattle.judy_many.specs.Rules.{Rules}
use Rattle.judy_many.specs.Sessions.{AreLetIn, AreTurns, UseLogin}
use Rattle.judy_many.specs.Statuses.{Keeps, Passes}
use Rattle.judy_many.specs.Stories.{Story, changes_in, first_with, own, runs_in, turns_in}
use Rattle.judy_many.specs.Stories.Moment.{Changed, Did, Ran}
use Rattle.judy_many.specs.declared.serve.Ending.{Ending}
use Rattle.judy_many.specs.declared.serve.Limits.{Limits}
use Rattle.judy_many.proofs.Logins.{own_use}
use Rattle.judy_many.proofs.Limiting.{own_let_in}
use Rattle.judy_many.proofs.Passing.{passes_run, unasked}
use Rattle.judy_many.proofs.Seeing.{IsUnseen, KeepsApart, turns_use}

-- ---- the table stayed

runs_are : (story : Story) → changes_in story ≡ [] → runs_in story ≡ turns_in story ∷ []
runs_are [] same = refl
runs_are (Did a ∷ story) same = runs_are story same
runs_are (Ran n turns ∷ story) same = ap (first_with turns) (runs_are story same)
runs_are (Changed text left ∷ story) same = absurd (some text (changes_in story) same)
  where
    some : (text : List ℕ) (texts : List (List ℕ)) → text ∷ texts ≡ [] → ⊥
    some text texts e = cc

module _ {S : Type 0} (rules : Rules S) (limits : Limits) (writer : Option Writing) (how : Ending) (log log' : Acts) (before after : S) (h : HasServedMany rules limits writer how log log' before after) where
  pub table_stays : limits.status ≡ false → changes_in h.story ≡ []
  table_stays off = unasked limits h.story _ off h.reads

  pub run_is : changes_in h.story ≡ [] → AreTurns rules before (turns_in h.story) after
  run_is same = passes_run rules [] before after h.story same h.told

  pub one_run : changes_in h.story ≡ [] → IsAlone (rules.seen before) (turns_in h.story) (rules.seen after)
  one_run same = subst (λ runs. Chain IsAlone (rules.seen before) runs (rules.seen after)) (runs_are h.story same) h.alone

  -- of the lines of each connection
  pub one_login : KeepsApart rules → IsUnseen rules → changes_in h.story ≡ [] → (n : ℕ) → AreLetIn (turns_in (own n h.story)) → UseLogin (rules.seen before).logins (turns_in (own n h.story))
  one_login apart unseen same n none =
      own_use (rules.seen before).logins n h.story (turns_use rules apart unseen before after (turns_in h.story) (run_is same)).0 none

  pub let_in : limits.tenant_clients ≡ None → limits.journal ≡ None → (n : ℕ) → AreLetIn (turns_in (own n h.story))
  let_in none unkept n = own_let_in n [] h.story (subst (λ most. IsLimited most [] h.story) none h.limited) (subst (λ rule. IsInquired (is_some rule) [] h.story) unkept h.inquired)

-- a story in which the table stays keeps each tenant's quota and arrays
pub keeps_all : {S : Type 0} (rules : Rules S) (t : ℕ) (past : Story) (before : S) (story : Story) (after : S) → changes_in story ≡ [] → (h : Passes rules past before story after)
    → Keeps rules t past before story after h
keeps_all rules t past before [] after same h = tt
keeps_all rules t past before (Did a ∷ story) after same h = keeps_all rules t (past ++ Did a ∷ []) before story after same h.1
keeps_all rules t past before (Ran n turns ∷ story) after same (mid, first, rest) = keeps_all rules t (past ++ Ran n turns ∷ []) mid story after same rest
keeps_all rules t past before (Changed text left ∷ story) after same h = absurd (some text (changes_in story) same)
  where
    some : (text : List ℕ) (texts : List (List ℕ)) → text ∷ texts ≡ [] → ⊥
    some text texts e = cc
