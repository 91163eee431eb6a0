-- Log-ins that are refused since their tenant has enough connections.
--     limited_quiet      where no line is run there is nothing to refuse
--     limited_turn       the lines of one client, while the others stay in their slots
--     own_let_in         without a limit and without a journal no line is refused for them
use Rattle.std.proofs.Common.{◌≡◌, ◌⊎◌, inl, inr, ◌<◌, ◌≤◌, ◌+◌, ℕ, zero, suc, Bool, true, false, List, [], ◌∷◌, ◌++◌, Option, None, Some, arith, sym, ◌∙◌, ap, refl, subst, cond, append-nil, append_assoc, slice_set}
use Rattle.std.specs.Prelude.{◌==◌, count_by, if◌then◌else◌, nat_le}
use Rattle.std.proofs.lemmas.Bool.{eqb-true}
use Rattle.std.proofs.lemmas.Bool.Decides.{eqb_tells}
use Rattle.std.proofs.lemmas.List.Sums.{sum_by-append, sum_by-cons}
use Rattle.judy_model.specs.Speakers.{Speaker}
use Rattle.judy_many.specs.Barred.{AreFree, IsInquired}
use Rattle.judy_many.specs.Crowds.{At, Crowd, Past}
use Rattle.judy_many.specs.Lives.{View}
use Rattle.judy_many.specs.Nets.{Acts}
use Rattle.judy_many.specs.Others.{AreLimited, IsLimited, is_crowded, others_below, others_in, speaks_for}
use Rattle.judy_many.specs.Present.{speaker_at, speaker_of, speakers_at, speakers_below}
use Rattle.judy_many.specs.Sessions.{AreLetIn, Turn}
use Rattle.judy_many.specs.Rules.{Rules}
use Rattle.judy_many.specs.Stories.{Mine, Moment, Phase, Story, acts_in, belongs, came_in, own, turns_in}
use Rattle.judy_many.specs.Stories.Moment.{Changed, Did, Ran}
use Rattle.judy_many.specs.Watches.{Queued}
use Rattle.judy_many.specs.declared.serve.Limits.{Limits}
use Rattle.judy_many.proofs.Owning.{belongs_other, own-append, same_eq}
use Rattle.judy_many.proofs.Presence.{open_speaker, present}
use Rattle.judy_many.proofs.Telling.{came-append}

never : true ≡ false → ⊥
never e = cc

-- ---- lines of one connection

pub AreLimited-append : (most : Option ℕ) (others : List (Option Speaker)) (ts us : List Turn) → AreLimited most others ts → AreLimited most others us → AreLimited most others (ts ++ us)
AreLimited-append most others [] us h k = k
AreLimited-append most others (t ∷ ts) us h k = (h.0, AreLimited-append most others ts us h.1 k)

limited_parts : (most : Option ℕ) (others : List (Option Speaker)) (ts us : List Turn) → AreLimited most others (ts ++ us) → AreLimited most others ts × AreLimited most others us
limited_parts most others [] us h = (tt, h)
limited_parts most others (t ∷ ts) us h = let rest = limited_parts most others ts us h.1 in ((h.0, rest.0), rest.1)

-- only how often each tenant speaks counts
abbrev Alike : List (Option Speaker) → List (Option Speaker) → Type 0
Alike others others' = (test : Option Speaker → Bool) → count_by test others ≡ count_by test others'

crowded_alike : (most : Option ℕ) (others others' : List (Option Speaker)) (claim : Option Speaker) → Alike others others' → is_crowded most others claim ≡ is_crowded most others' claim
crowded_alike None others others' claim alike = refl
crowded_alike (Some most) others others' None alike = refl
crowded_alike (Some most) others others' (Some who) alike = ap (nat_le most) (alike (speaks_for who.tenant))

limited_alike : (most : Option ℕ) (others others' : List (Option Speaker)) (ts : List Turn) → Alike others others' → AreLimited most others ts → AreLimited most others' ts
limited_alike most others others' [] alike h = tt
limited_alike most others others' (t ∷ ts) alike h = (h.0 ∙ crowded_alike most others others' t.claim alike, limited_alike most others others' ts alike h.1)

let_in_all : (others : List (Option Speaker)) (ts : List Turn) → AreLimited None others ts → AreFree ts → AreLetIn ts
let_in_all others [] h k = tt
let_in_all others (t ∷ ts) h k = (h.0, k.0, let_in_all others ts h.1 k.1)

AreLetIn-append : (ts us : List Turn) → AreLetIn ts → AreLetIn us → AreLetIn (ts ++ us)
AreLetIn-append [] us h k = k
AreLetIn-append (t ∷ ts) us h k = (h.0, h.1, AreLetIn-append ts us h.2 k)

pub own_let_in : (n : ℕ) (past story : Story) → IsLimited None past story → IsInquired false past story → AreLetIn (turns_in (own n story))
own_let_in n past [] h k = tt
own_let_in n past (Did a ∷ story) h k =
    elim (belongs n (Did a)) as (λ b. AreLetIn (turns_in (if b then Did a ∷ own n story else own n story))) [
      | true ↦ own_let_in n (past ++ Did a ∷ []) story h k
      | false ↦ own_let_in n (past ++ Did a ∷ []) story h k
    ]
own_let_in n past (Changed text left ∷ story) h k = own_let_in n (past ++ Changed text left ∷ []) story h k
own_let_in n past (Ran m turns ∷ story) h k =
    elim (belongs n (Ran m turns)) as (λ b. AreLetIn (turns_in (if b then Ran m turns ∷ own n story else own n story))) [
      | true ↦ AreLetIn-append turns (turns_in (own n story)) (let_in_all (others_in m past) turns h.0 k.0.1) (own_let_in n (past ++ Ran m turns ∷ []) story h.1 k.1)
      | false ↦ own_let_in n (past ++ Ran m turns ∷ []) story h.1 k.1
    ]

-- ---- stories

onward : (most : Option ℕ) (past : Story) (m : Moment) (a b : Story) → IsLimited most (past ++ m ∷ a) b → IsLimited most ((past ++ m ∷ []) ++ a) b
onward most past m a b k = subst (λ p. IsLimited most p b) (sym (append_assoc past (m ∷ []) a)) k

pub IsLimited-append : (most : Option ℕ) (past a b : Story) → IsLimited most past a → IsLimited most (past ++ a) b → IsLimited most past (a ++ b)
IsLimited-append most past [] b h k = subst (λ p. IsLimited most p b) (append-nil past) k
IsLimited-append most past (Did x ∷ a) b h k = IsLimited-append most (past ++ Did x ∷ []) a b h (onward most past (Did x) a b k)
IsLimited-append most past (Ran n turns ∷ a) b h k = (h.0, IsLimited-append most (past ++ Ran n turns ∷ []) a b h.1 (onward most past (Ran n turns) a b k))
IsLimited-append most past (Changed text left ∷ a) b h k = IsLimited-append most (past ++ Changed text left ∷ []) a b h (onward most past (Changed text left) a b k)

pub first_none : (ts us : List Turn) → ts ++ us ≡ [] → (ts ≡ []) × (us ≡ [])
first_none [] us e = (refl, e)
first_none (t ∷ ts) us e = absurd (some t (ts ++ us) e)
  where
    some : (t : Turn) (ts : List Turn) → t ∷ ts ≡ [] → ⊥
    some t ts e = cc

pub limited_quiet : (most : Option ℕ) (past story : Story) → turns_in story ≡ [] → IsLimited most past story
limited_quiet most past [] e = tt
limited_quiet most past (Did a ∷ story) e = limited_quiet most (past ++ Did a ∷ []) story e
limited_quiet most past (Changed text left ∷ story) e = limited_quiet most (past ++ Changed text left ∷ []) story e
limited_quiet most past (Ran n turns ∷ story) e =
    let none = first_none turns (turns_in story) e in
    (subst (AreLimited most (others_in n past)) (sym none.0) tt, limited_quiet most (past ++ Ran n turns ∷ []) story none.1)

-- what happened is no connection's
pub foreign_quiet : (story : Story) → ((n : ℕ) → own n story ≡ []) → turns_in story ≡ []
foreign_quiet [] none = refl
foreign_quiet (Did a ∷ story) none = foreign_quiet story (λ n. rest n (belongs n (Did a)) (none n))
  where
    rest : (n : ℕ) (b : Bool) → (if b then Did a ∷ own n story else own n story) ≡ [] → own n story ≡ []
    rest n true e = absurd (some e)
      where
        some : Did a ∷ own n story ≡ [] → ⊥
        some e = cc
    rest n false e = e
foreign_quiet (Changed text left ∷ story) none = foreign_quiet story none
foreign_quiet (Ran m turns ∷ story) none = absurd (some (sym (ap (λ b. if b then Ran m turns ∷ own m story else own m story) (same_eq m)) ∙ none m))
  where
    some : Ran m turns ∷ own m story ≡ [] → ⊥
    some e = cc

-- ---- the others

module _ (n : ℕ) where
  -- a moment of this connection changes no other
  others_stay : (k : ℕ) (past : Story) (m : Moment) → belongs n m ≡ true → others_below n k (past ++ m ∷ []) ≡ others_below n k past
  others_stay zero past m e = refl
  others_stay (suc k) past m e =
      ap (λ l. l ++ (if k == n then [] else speaker_of (own k (past ++ m ∷ [])))) (others_stay k past m e)
      ∙ ap (λ l. others_below n k past ++ l) (one (eqb_tells k n))
    where
      one : (((k == n) ≡ true) × (k ≡ n)) ⊎ (((k == n) ≡ false) × (k ≡ n → ⊥))
          → (if k == n then [] else speaker_of (own k (past ++ m ∷ []))) ≡ (if k == n then [] else speaker_of (own k past))
      one (inl p) = rw p.0 refl
      one (inr p) = rw p.0 (ap speaker_of (own-append k past (m ∷ []) ∙ ap (λ l. own k past ++ l) (off k m (belongs_other n k m e p.1)) ∙ append-nil (own k past)))
        where
          off : (k : ℕ) (m : Moment) → belongs k m ≡ false → own k (m ∷ []) ≡ []
          off k m e = rw e refl

  others_kept : (past : Story) (m : Moment) → belongs n m ≡ true → came_in (acts_in (m ∷ [])) ≡ 0 → others_in n (past ++ m ∷ []) ≡ others_in n past
  others_kept past m e none =
      ap (λ c. others_below n c (past ++ m ∷ [])) (counted past m none) ∙ others_stay (came_in (acts_in past)) past m e
    where
      counted : (past : Story) (m : Moment) → came_in (acts_in (m ∷ [])) ≡ 0 → came_in (acts_in (past ++ m ∷ [])) ≡ came_in (acts_in past)
      counted past m none = let e = came-append past (m ∷ []) in omega (arith, e, none)

  -- the lines of this connection, after a past in which these speak on the others
  limited_mine : (most : Option ℕ) (past more : Story) (others : List (Option Speaker)) → Mine n more → came_in (acts_in more) ≡ 0
      → Alike others (others_in n past) → AreLimited most others (turns_in more) → IsLimited most past more
  limited_mine most past [] others mine none alike h = tt
  limited_mine most past (Did a ∷ more) others mine none alike h =
      let e = came-append (Did a ∷ []) more in
      limited_mine most (past ++ Did a ∷ []) more others mine.1 (omega (arith, e, none))
      (λ test. alike test ∙ ap (count_by test) (sym (others_kept past (Did a) mine.0 (omega (arith, e, none))))) h
  limited_mine most past (Changed text left ∷ more) others mine none alike h = absurd (never (sym mine.0))
  limited_mine most past (Ran m turns ∷ more) others mine none alike h =
      let parts = limited_parts most others turns (turns_in more) h in (
        subst (λ k. AreLimited most (others_in k past) turns) (sym (eqb-true m n mine.0)) (limited_alike most others (others_in n past) turns alike parts.0),
        limited_mine most (past ++ Ran m turns ∷ []) more others mine.1 none
            (λ test. alike test ∙ ap (count_by test) (sym (others_kept past (Ran m turns) mine.0 refl))) parts.1,
      )

  -- all who speak are the others and this one
  all_below : (test : Option Speaker → Bool) (k : ℕ) (story : Story) → k ≤ n → count_by test (speakers_below k story) ≡ count_by test (others_below n k story)
  all_below test zero story low = refl
  all_below test (suc k) story low = elim (eqb_tells k n) [
    | inl p ↦ let q = p.1 in absurd (omega (arith, low, q))
    | inr p ↦
        sum_by-append (λ w. cond (test w) 1 0) (speakers_below k story) (speaker_of (own k story))
        ∙ ap (λ c. c + count_by test (speaker_of (own k story))) (all_below test k story (omega (arith, low)))
        ∙ sym (sum_by-append (λ w. cond (test w) 1 0) (others_below n k story) (speaker_of (own k story)))
        ∙ ap (λ b. count_by test (others_below n k story ++ (if b then [] else speaker_of (own k story)))) (sym p.0)
  ]

  all_over : (test : Option Speaker → Bool) (k : ℕ) (story : Story) → n < k
      → count_by test (speakers_below k story) ≡ count_by test (others_below n k story) + count_by test (speaker_of (own n story))
  all_over test zero story few = absurd (omega (arith, few))
  all_over test (suc k) story few = elim (eqb_tells k n) [
    | inl p ↦ here p.0 p.1
    | inr p ↦ let q = p.1 in
        let e = all_over test k story (omega (arith, few, q)) in
        let a = sum_by-append (λ w. cond (test w) 1 0) (speakers_below k story) (speaker_of (own k story)) in
        let b = sum_by-append (λ w. cond (test w) 1 0) (others_below n k story) (speaker_of (own k story)) in
        let c = ap (λ b. count_by test (others_below n k story ++ (if b then [] else speaker_of (own k story)))) p.0 in
        sums _ _ _ _ _ _ a e (c ∙ b)
  ]
    where
      sums : (all others own_k own_n all_k others_k : ℕ) → all_k ≡ all + own_k → all ≡ others + own_n → others_k ≡ others + own_k → all_k ≡ others_k + own_n
      sums all others own_k own_n all_k others_k e f g = omega (arith, e, f, g)

      here : (k == n) ≡ true → k ≡ n → count_by test (speakers_below (suc k) story) ≡ count_by test (others_below n (suc k) story) + count_by test (speaker_of (own n story))
      here e is =
          sum_by-append (λ w. cond (test w) 1 0) (speakers_below k story) (speaker_of (own k story))
          ∙ ap (λ c. c + count_by test (speaker_of (own k story))) (all_below test k story (omega (arith, is)))
          ∙ ap (λ j. count_by test (others_below n k story) + count_by test (speaker_of (own j story))) is
          ∙ ap (λ c. c + count_by test (speaker_of (own n story)))
          (sym (ap (λ b. count_by test (others_below n k story ++ (if b then [] else speaker_of (own k story)))) e ∙ ap (count_by test) (append-nil (others_below n k story))))

-- ---- slots

-- those who speak from the slots are the one in this slot and the others
slots_but : {B : Type 0} (view : B → View) (test : Option Speaker → Bool) (slots : List (Option B)) (i : ℕ) (b : B) → At slots i b
    → count_by test (speakers_at view slots) ≡ count_by test (speakers_at view (slice_set slots i None)) + cond (test (view b).who) 1 0
slots_but view test [] i b there = absurd there
slots_but view test (s ∷ slots) zero b there =
    ap (λ t. count_by test (speaker_at view t ++ speakers_at view slots)) there
    ∙ sum_by-cons (λ w. cond (test w) 1 0) (view b).who (speakers_at view slots) ∙ turn (cond (test (view b).who) 1 0) (count_by test (speakers_at view slots))
  where
    turn : (m n : ℕ) → m + n ≡ n + m
    turn m n = omega arith
slots_but view test (s ∷ slots) (suc i) b there =
    sum_by-append (λ w. cond (test w) 1 0) (speaker_at view s) (speakers_at view slots)
    ∙ ap (λ c. count_by test (speaker_at view s) + c) (slots_but view test slots i b there)
    ∙ sums (count_by test (speaker_at view s)) (count_by test (speakers_at view (slice_set slots i None))) (cond (test (view b).who) 1 0)
    ∙ ap (λ c. c + cond (test (view b).who) 1 0) (sym (sum_by-append (λ w. cond (test w) 1 0) (speaker_at view s) (speakers_at view (slice_set slots i None))))
  where
    sums : (a b c : ℕ) → a + (b + c) ≡ (a + b) + c
    sums a b c = omega arith

-- ---- a crowd

module _ {B S : Type 0} (view : B → View) (rules : Rules S) (limits : Limits) (first : S) (start : Acts) (phase : Phase) (queued : Queued) (past : Past) (log : Acts) (slots : List (Option B)) (count : ℕ) (now : S)
    (h : Crowd view rules limits first start phase queued past log slots count now) (i : ℕ) (b : B) (at : At slots i b) where
  others_alike : Alike (speakers_at view (slice_set slots i None)) (others_in (view b).number h.story)
  others_alike test =
      let n = (view b).number in
      let all = present view rules limits first start phase queued past log slots count now h test in
      let below = h.below i b at in
      let total = h.is_told.total in
      let over = all_over n test (came_in (acts_in h.story)) h.story (omega (arith, below, total)) in
      let mine = open_speaker test (own n h.story) (view b) (h.live i b at) in
      let but = slots_but view test slots i b at in
      sums _ _ _ _ _ _ all but over mine
    where
      sums : (all set mine all' rest w : ℕ) → all ≡ all' → all ≡ set + w → all' ≡ rest + mine → mine ≡ w → set ≡ rest
      sums all set mine all' rest w e f g k = omega (arith, e, f, g, k)

  pub limited_turn : (most : Option ℕ) (more : Story) → Mine (view b).number more → came_in (acts_in more) ≡ 0
      → AreLimited most (speakers_at view (slice_set slots i None)) (turns_in more) → IsLimited most h.story more
  limited_turn most more mine none l = limited_mine (view b).number most h.story more (speakers_at view (slice_set slots i None)) mine none others_alike l
