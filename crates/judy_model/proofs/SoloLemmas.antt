-- Runs of one tenant among others: they are determined, and continue call by call.
use Rattle.std.proofs.Common.{◌≡◌, Bool, true, false, not, cond, List, [], ◌∷◌, ◌++◌, refl, sym, ◌∙◌, ap, subst}
use Rattle.std.specs.Prelude.{MatchBool}
use Rattle.judy_model.specs.declared.quotas.Quota.{Quota}
use Rattle.judy_model.specs.declared.replies.Reply.{Reply}
use Rattle.judy_model.specs.declared.replies.Reply.TheVariants.{Int, Index, Count, Value, ValueAt, ValueKey, Entries, Intersection, Null, Used, ReadOnly, Frozen, Full, Memory}
use Rattle.judy_model.specs.Tenant.{State, Attempt, attempt_step, replies_alone, state_alone, AloneGoesOn}
use Rattle.judy_model.specs.Solo.{Exchanges, attempts_of, replies_of, is_memory, kept, refusals, MayLackMemory, IsAnswered}
use Rattle.judy_model.specs.Solo.{AreAnswered, IsSolo, SoloIsDetermined, SoloIsStepwise, SoloGoesOn}

-- one reply is the refusal for memory
pub memory_only : (r : Reply) → is_memory r ≡ true → r ≡ Memory
memory_only (Int b) e = cc
memory_only (Index i) e = cc
memory_only (Count k) e = cc
memory_only (Value v) e = cc
memory_only (ValueAt v i) e = cc
memory_only (ValueKey v k) e = cc
memory_only (Entries k text) e = cc
memory_only Null e = cc
memory_only (Intersection next k text) e = cc
memory_only (Used u q p m) e = cc
memory_only ReadOnly e = cc
memory_only Frozen e = cc
memory_only Full e = cc
memory_only Memory e = refl

-- whether or not the first call is kept, the kept calls are the same
kept_more : (b : Bool) (p q : Attempt × Reply) (ps qs : Exchanges) → p.0 ≡ q.0 → attempts_of ps ≡ attempts_of qs
    → attempts_of (cond (not b) (p ∷ ps) ps) ≡ attempts_of (cond (not b) (q ∷ qs) qs)
kept_more true p q ps qs head tail = tail
kept_more false p q ps qs head tail = λ i. head i ∷ tail i

-- equal calls with refusals at the same places keep equal calls
same_kept : (pairs others : Exchanges) → attempts_of pairs ≡ attempts_of others → refusals pairs ≡ refusals others
    → attempts_of (kept pairs) ≡ attempts_of (kept others)
same_kept [] [] calls marks = refl
same_kept [] (q ∷ qs) calls marks = cc
same_kept (p ∷ ps) [] calls marks = cc
same_kept (p ∷ ps) (q ∷ qs) calls marks =
    let mark : is_memory p.1 ≡ is_memory q.1 = cc in
    let head : p.0 ≡ q.0 = cc in
    let tail : attempts_of ps ≡ attempts_of qs = cc in
    let rest : refusals ps ≡ refusals qs = cc in
    rw mark (kept_more (is_memory q.1) p q (kept ps) (kept qs) head (same_kept ps qs tail rest))

-- whether or not the first replies are kept, they are equal
same_reply : (b : Bool) (p q : Attempt × Reply) (ps qs : Exchanges) → is_memory p.1 ≡ b → is_memory q.1 ≡ b
    → replies_of (cond (not b) (p ∷ ps) ps) ≡ replies_of (cond (not b) (q ∷ qs) qs) → (p.1 ≡ q.1) × (replies_of ps ≡ replies_of qs)
same_reply true p q ps qs e f h = (memory_only p.1 e ∙ sym (memory_only q.1 f), h)
same_reply false p q ps qs e f h = (cc, cc)

-- exchanges with equal calls, refusals and kept replies are equal
same_exchanges : (pairs others : Exchanges) → attempts_of pairs ≡ attempts_of others → refusals pairs ≡ refusals others
    → replies_of (kept pairs) ≡ replies_of (kept others) → pairs ≡ others
same_exchanges [] [] calls marks told = refl
same_exchanges [] (q ∷ qs) calls marks told = cc
same_exchanges (p ∷ ps) [] calls marks told = cc
same_exchanges (p ∷ ps) (q ∷ qs) calls marks told =
    let mark : is_memory p.1 ≡ is_memory q.1 = cc in
    let head : p.0 ≡ q.0 = cc in
    let tail : attempts_of ps ≡ attempts_of qs = cc in
    let rest : refusals ps ≡ refusals qs = cc in
    let both = same_reply (is_memory p.1) p q (kept ps) (kept qs) refl (sym mark)
    (subst (λ b. replies_of (kept (p ∷ ps)) ≡ replies_of (cond (not b) (q ∷ kept qs) (kept qs))) (sym mark) told) in
    λ i. (head i, both.0 i) ∷ same_exchanges ps qs tail rest both.1 i

-- two runs with all these equal are equal
pub solo_is_determined : SoloIsDetermined
solo_is_determined quota s pairs others last end here there calls marks =
    let same : attempts_of (kept pairs) ≡ attempts_of (kept others) = same_kept pairs others calls marks in (
      same_exchanges pairs others calls marks (sym here.replies ∙ ap (replies_alone quota s) same ∙ there.replies),
      sym here.state ∙ ap (state_alone quota s) same ∙ there.state,
    )

module _ (quota : Quota) (s : State) (p : Attempt × Reply) (mid : State) (ks : Exchanges) where
  -- with one more call in front, the run continues from the state after that call
  state_more : (b : Bool) → MatchBool b (MayLackMemory quota s p.0 × (mid ≡ s)) (attempt_step quota s p.0 ≡ (p.1, mid))
      → state_alone quota s (attempts_of (cond (not b) (p ∷ ks) ks)) ≡ state_alone quota mid (attempts_of ks)
  state_more true h = ap (λ t. state_alone quota t (attempts_of ks)) (sym h.1)
  state_more false h = ap (λ t. state_alone quota t.1 (attempts_of ks)) h

  -- the same of the replies
  replies_more : (b : Bool) → MatchBool b (MayLackMemory quota s p.0 × (mid ≡ s)) (attempt_step quota s p.0 ≡ (p.1, mid))
      → replies_alone quota mid (attempts_of ks) ≡ replies_of ks
      → replies_alone quota s (attempts_of (cond (not b) (p ∷ ks) ks)) ≡ replies_of (cond (not b) (p ∷ ks) ks)
  replies_more true h told = ap (λ t. replies_alone quota t (attempts_of ks)) (sym h.1) ∙ told
  replies_more false h told = λ i. (h i).0 ∷ (ap (λ t. replies_alone quota t.1 (attempts_of ks)) h ∙ told) i

-- a call that is refused first is allowed to be refused
refused_first : (b : Bool) (quota : Quota) (s : State) (p : Attempt × Reply) (mid : State) (a : Attempt) → is_memory p.1 ≡ b
    → MatchBool b (MayLackMemory quota s p.0 × (mid ≡ s)) (attempt_step quota s p.0 ≡ (p.1, mid)) → p ≡ (a, Memory) → MayLackMemory quota s a
refused_first true quota s p mid a mark h e = subst (λ t. MayLackMemory quota s t.0) e h.0
refused_first false quota s p mid a mark h e = let m : is_memory p.1 ≡ true = ap (λ t. is_memory t.1) e in cc

-- one more call in front
solo_more : (quota : Quota) (s : State) (p : Attempt × Reply) (mid : State) (ps : Exchanges) (last : State)
    → IsAnswered quota s p.0 p.1 mid → IsSolo quota mid ps last → IsSolo quota s (p ∷ ps) last
solo_more quota s p mid ps last h rest = record {
  replies = replies_more quota s p mid (kept ps) (is_memory p.1) h rest.replies;
  state = state_more quota s p mid (kept ps) (is_memory p.1) h ∙ rest.state;
  refused = each;
}
  where
    each : (before after : Exchanges) (a : Attempt) → p ∷ ps ≡ before ++ (a, Memory) ∷ after → MayLackMemory quota
        (state_alone quota s (attempts_of (kept before))) a
    each [] after a e = refused_first (is_memory p.1) quota s p mid a refl h (cc)
    each (b ∷ bs) after a e =
        let tail : ps ≡ bs ++ (a, Memory) ∷ after = cc in
        let head : p ≡ b = cc in
        subst (λ t. MayLackMemory quota (state_alone quota s (attempts_of (kept (t ∷ bs)))) a) head
        (subst (λ t. MayLackMemory quota t a) (sym (state_more quota s p mid (kept bs) (is_memory p.1) h)) (rest.refused bs after a tail))

-- a run call by call is a run as a whole
pub AreAnswered-IsSolo : (quota : Quota) (s : State) (pairs : Exchanges) (last : State) → AreAnswered quota s pairs last → IsSolo quota s pairs last
AreAnswered-IsSolo quota s [] last h = record {
  replies = refl;
  state = sym h;
  refused = none;
}
  where
    none : (before after : Exchanges) (a : Attempt) → [] ≡ before ++ (a, Memory) ∷ after → MayLackMemory quota
        (state_alone quota s (attempts_of (kept before))) a
    none [] after a e = cc
    none (b ∷ bs) after a e = cc
AreAnswered-IsSolo quota s (p ∷ ps) last h = solo_more quota s p h.0 ps last h.1 (AreAnswered-IsSolo quota h.0 ps last h.2)

-- two consecutive runs
pub AreAnswered-append : (quota : Quota) (s : State) (pairs : Exchanges) (mid : State) (more : Exchanges) (last : State)
    → AreAnswered quota s pairs mid → AreAnswered quota mid more last → AreAnswered quota s (pairs ++ more) last
AreAnswered-append quota s [] mid more last h k = subst (λ t. AreAnswered quota t more last) h k
AreAnswered-append quota s (p ∷ ps) mid more last h k = (h.0, h.1, AreAnswered-append quota h.0 ps mid more last h.2 k)

-- answering a ++ b is answering a, then b from the resulting state
pub state_alone-append : (quota : Quota) (s : State) (calls more : List Attempt) → state_alone quota s (calls ++ more)
    ≡ state_alone quota (state_alone quota s calls) more
state_alone-append quota s [] more = refl
state_alone-append quota s (c ∷ cs) more = state_alone-append quota (attempt_step quota s c).1 cs more

-- the same of the replies
pub replies_alone-append : (quota : Quota) (s : State) (calls more : List Attempt)
    → replies_alone quota s (calls ++ more) ≡ replies_alone quota s calls ++ replies_alone quota (state_alone quota s calls) more
replies_alone-append quota s [] more = refl
replies_alone-append quota s (c ∷ cs) more = λ i. (attempt_step quota s c).0 ∷ replies_alone-append quota (attempt_step quota s c).1 cs more i

-- the first call of a run is answered, and the rest is a run from the resulting state
first_answered : (b : Bool) (quota : Quota) (s : State) (p : Attempt × Reply) (ps : Exchanges) (last : State) → is_memory p.1 ≡ b → IsSolo quota s (p ∷ ps) last
    → (mid : State) × IsAnswered quota s p.0 p.1 mid × IsSolo quota mid ps last
first_answered true quota s p ps last mark h = (
  s,
  rw mark (h.refused [] ps p.0 (λ i. (p.0, memory_only p.1 mark i) ∷ ps), refl),
  record {
    replies = rw mark at h.replies;
    state = rw mark at h.state;
    refused = λ before after a e. let r = h.refused (p ∷ before) after a (ap (λ l. p ∷ l) e) in rw mark at r;
  },
)
first_answered false quota s p ps last mark h =
    let told : (attempt_step quota s p.0).0 ∷ replies_alone quota (attempt_step quota s p.0).1 (attempts_of (kept ps)) ≡ p.1
    ∷ replies_of (kept ps) = rw mark at h.replies in
    let head : (attempt_step quota s p.0).0 ≡ p.1 = cc in
    let tail : replies_alone quota (attempt_step quota s p.0).1 (attempts_of (kept ps)) ≡ replies_of (kept ps) = cc in (
      (attempt_step quota s p.0).1,
      rw mark (λ i. (head i, (attempt_step quota s p.0).1)),
      record {
        replies = tail;
        state = rw mark at h.state;
        refused = λ before after a e. let r = h.refused (p ∷ before) after a (ap (λ l. p ∷ l) e) in rw mark at r;
      },
    )

-- a run as a whole is a run call by call
pub IsSolo-AreAnswered : (quota : Quota) (s : State) (pairs : Exchanges) (last : State) → IsSolo quota s pairs last → AreAnswered quota s pairs last
IsSolo-AreAnswered quota s [] last h = sym h.state
IsSolo-AreAnswered quota s (p ∷ ps) last h =
    let (mid, answered, rest) = first_answered (is_memory p.1) quota s p ps last refl h in
    (mid, answered, IsSolo-AreAnswered quota mid ps last rest)

-- two consecutive runs are one run
pub IsSolo-append : (quota : Quota) (s : State) (pairs : Exchanges) (mid : State) (more : Exchanges) (last : State)
    → IsSolo quota s pairs mid → IsSolo quota mid more last → IsSolo quota s (pairs ++ more) last
IsSolo-append quota s pairs mid more last h k =
    AreAnswered-IsSolo quota s (pairs ++ more) last
    (AreAnswered-append quota s pairs mid more last (IsSolo-AreAnswered quota s pairs mid h)
    (IsSolo-AreAnswered quota mid more last k))

-- a run can be cut anywhere
pub AreAnswered-cut : (quota : Quota) (s : State) (pairs more : Exchanges) (last : State) → AreAnswered quota s (pairs ++ more) last
    → (mid : State) × AreAnswered quota s pairs mid × AreAnswered quota mid more last
AreAnswered-cut quota s [] more last h = (s, refl, h)
AreAnswered-cut quota s (p ∷ ps) more last h =
    let (mid, before, after) = AreAnswered-cut quota h.0 ps more last h.2 in
    (mid, (h.0, h.1, before), after)

-- both statements
pub solo_is_stepwise : SoloIsStepwise
solo_is_stepwise quota s pairs last = (IsSolo-AreAnswered quota s pairs last, AreAnswered-IsSolo quota s pairs last)

-- consecutive runs
pub solo_goes_on : SoloGoesOn
solo_goes_on quota s pairs more last = (
  λ h. let (mid, before, after) = AreAnswered-cut quota s pairs more last (IsSolo-AreAnswered quota s (pairs ++ more) last h) in
      (mid, AreAnswered-IsSolo quota s pairs mid before, AreAnswered-IsSolo quota mid more last after),
  λ (mid, before, after). IsSolo-append quota s pairs mid more last before after,
)

-- the calls a ++ b
pub alone_goes_on : AloneGoesOn
alone_goes_on quota s calls more = (replies_alone-append quota s calls more, state_alone-append quota s calls more)
