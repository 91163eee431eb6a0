-- The two halves of a story that a crash cut, by what is in them.
--     restored-acts     the answers of the system are those of both, in order
--     restored-changes  and so are the tables that were put in force
--     answered-changes  where each round is synced, the first half has the tables that were put in force before an answer
use Rattle.std.proofs.Common.{◌≡◌, inl, inr, ℕ, List, [], ◌∷◌, ◌++◌, refl, sym, ◌∙◌, ap, append_assoc, append-nil}
use Rattle.judy_many.specs.Nets.Act.{Wrote}
use Rattle.judy_many.specs.Sessions.{Turn}
use Rattle.judy_many.specs.Stories.{Story, acts_by, acts_in, changes_in}
use Rattle.judy_many.specs.Stories.Moment.{Changed, Did, Ran}
use Rattle.judy_many.specs.declared.network.Sync.{Sync}
use Rattle.judy_many.specs.declared.network.Sync.TheVariants as sync
use Rattle.judy_server.specs.Crashes.{AreHalves, IsRestored}
use Rattle.judy_server.specs.Tally.{Tallied}

acts-append : (a b : Story) → acts_in (a ++ b) ≡ acts_in a ++ acts_in b
acts-append [] b = refl
acts-append (m ∷ a) b = ap (λ v. acts_by m ++ v) (acts-append a b) ∙ sym (append_assoc (acts_by m) (acts_in a) (acts_in b))

changes-append : (a b : Story) → changes_in (a ++ b) ≡ changes_in a ++ changes_in b
changes-append [] b = refl
changes-append (Did act ∷ a) b = changes-append a b
changes-append (Ran n turns ∷ a) b = changes-append a b
changes-append (Changed text left ∷ a) b = ap (λ v. text ∷ v) (changes-append a b)

-- what lines do not add to is that of both halves
module _ {A : Type 0} (of : Story → List A) (none : of [] ≡ []) (joins : (a b : Story) → of (a ++ b) ≡ of a ++ of b)
    (rests : (n : ℕ) (turns : List Turn) (s : Story) → of (Ran n turns ∷ s) ≡ of s) where
  halves-of : (done rest story : Story) → AreHalves done rest story → of done ++ of rest ≡ of story
  halves-of done rest story (inl whole) = sym (joins done rest) ∙ ap of whole
  halves-of done rest story (inr w) =
      let first : of done ≡ of w.earlier = ap of w.done_is ∙ joins w.earlier (Ran w.number w.first ∷ [])
      ∙ ap (λ x. of w.earlier ++ x) (rests w.number w.first [] ∙ none) ∙ append-nil (of w.earlier) in
      let second : of rest ≡ of w.later = ap of w.rest_is ∙ rests w.number w.others w.later in
      let both : of story ≡ of w.earlier ++ of w.later = ap of w.story_is ∙ joins w.earlier (Ran w.number (w.first ++ w.others) ∷ w.later)
      ∙ ap (λ x. of w.earlier ++ x) (rests w.number (w.first ++ w.others) w.later) in
      ap (λ x. x ++ of rest) first ∙ ap (λ x. of w.earlier ++ x) second ∙ sym both

module _ (rule : Sync) (before : Tallied) (story : Story) (after restored : Tallied) (h : IsRestored rule before story after restored) where
  pub restored-acts : acts_in h.done ++ acts_in h.rest ≡ acts_in story
  restored-acts = halves-of acts_in refl acts-append (λ n turns s. refl) h.done h.rest story h.halves

  pub restored-changes : changes_in h.done ++ changes_in h.rest ≡ changes_in story
  restored-changes = halves-of changes_in refl changes-append (λ n turns s. refl) h.done h.rest story h.halves

  pub answered-changes : rule ≡ sync.Round → (p q : Story) (n : ℕ) (bytes : List ℕ) → story ≡ p ++ Did (Wrote n bytes) ∷ q
      → (more : List (List ℕ)) × (changes_in h.done ≡ changes_in p ++ more)
  answered-changes round p q n bytes e =
      let (more, is) = h.answered round p q n bytes e in (changes_in more, ap changes_in is ∙ changes-append p more)
