-- The reply to a tenant among others.
use Rattle.std.proofs.Common.{◌≡◌, ◌⊎◌, inl, inr, ℕ, Bool, true, false, not, ap, sym, ◌∙◌, refl, subst}
use Rattle.std.specs.Prelude.{MatchBool, if◌then◌else◌}
use Rattle.judy_model.specs.declared.calls.Call.{Call}
use Rattle.judy_model.specs.declared.calls.Call.TheVariants as call
use Rattle.judy_model.specs.declared.quotas.Quota.{Quota}
use Rattle.judy_model.specs.declared.quotas.Right.{Right}
use Rattle.judy_model.specs.declared.quotas.Right.TheVariants.{Change, Look, Frozen}
use Rattle.judy_model.specs.declared.replies.Reply.{Reply}
use Rattle.judy_model.specs.declared.replies.Reply.TheVariants as reply
use Rattle.judy_model.specs.Tenant.{State, changes, is_read_only, refusal_of, asks_for_new, has_room, allowed_step, attempt_step, step}
use Rattle.judy_model.specs.WellFormed.{FullIsForNew, LooksKeepAll}
use Rattle.judy_model.specs.Service.{IsServed, Quotas, States}
use Rattle.judy_model.specs.Solo.{IsAnswered, MayLackMemory, StepHasMemory, is_memory}
use Rattle.judy_model.specs.Speakers.{Event}
use Rattle.judy_arena.specs.Blocks.{Blocks}
use Rattle.judy_kinds.specs.Calls.{is_of_array, asks_at, AnswersAt}
use Rattle.judy_tenants.specs.Held.{Held, HasCause, IsQuiet, IsShortService, IsUnplaced, is_refusal}
use Rattle.judy_tenants.proofs.Steps.{HasWay}

-- the reply to a call that the right allows
pub answered-allowed : StepHasMemory → (quota : Quota) (s new : State) (right : Right) (c : Call) (r : Reply) → is_read_only right c ≡ false
    → allowed_step quota s c ≡ (r, new) → IsAnswered quota s (record { right = right; call = c }) r new
answered-allowed memory quota s new right c r allowed e =
    let steps : step right quota s c ≡ (r, new) = ap (λ b. if b then (refusal_of right, s) else allowed_step quota s c) allowed ∙ e in
    let quiet : is_memory r ≡ false = sym (ap (λ z. is_memory z.0) steps) ∙ memory right quota s c in
    subst (λ b. MatchBool b (MayLackMemory quota s (record { right = right; call = c }) × (new ≡ s))
    (attempt_step quota s (record { right = right; call = c }) ≡ (r, new))) (sym quiet) steps

-- the reply of a step is not `ERR MEMORY`
pub not-memory : StepHasMemory → (quota : Quota) (s new : State) (c : Call) (r : Reply) → allowed_step quota s c ≡ (r, new) → is_memory r ≡ false
not-memory memory quota s new c r e = sym (ap (λ z. is_memory z.0) e) ∙ memory Change quota s c

-- a call that names no array, or two, is answered at no place, and asks for nothing there
pub answered-nowhere : (c : Call) → is_of_array c ≡ false → (a : Blocks) (w : ℕ) (r : Reply) (b : Blocks) (x : ℕ) → AnswersAt a w c r b x → ⊥
answered-nowhere (call.Intersect name other i n) h a w r b x e = absurd e
answered-nowhere (call.Names from n) h a w r b x e = absurd e
answered-nowhere call.Used h a w r b x e = absurd e
answered-nowhere (call.One name c) h a w r b x e = cc
answered-nowhere (call.Long name c) h a w r b x e = cc
answered-nowhere (call.Str name c) h a w r b x e = cc
answered-nowhere (call.Bytes name c) h a w r b x e = cc

pub asks-nowhere : (c : Call) → is_of_array c ≡ false → (b : Blocks) (w : ℕ) → asks_at b w c ≡ false
asks-nowhere (call.Intersect name other i n) h b w = refl
asks-nowhere (call.Names from n) h b w = refl
asks-nowhere call.Used h b w = refl
asks-nowhere (call.One name c) h b w = cc
asks-nowhere (call.Long name c) h b w = cc
asks-nowhere (call.Str name c) h b w = cc
asks-nowhere (call.Bytes name c) h b w = cc

-- an allowed call that can change arrays is made under the right to change
pub asks-under : (right : Right) (s : State) (c : Call) → is_read_only right c ≡ false → changes c ≡ true → asks_for_new Change s
    c ≡ true → asks_for_new right s c ≡ true
asks-under Change s c allowed h e = e
asks-under Look s c allowed h e = cc
asks-under Frozen s c allowed h e = cc

-- a refusal is for the quota or for the right
refusal_cases : (r : Reply) → is_refusal r ≡ true → (r ≡ reply.Full) ⊎ (r ≡ reply.ReadOnly) ⊎ (r ≡ reply.Frozen)
refusal_cases reply.Full h = inl refl
refusal_cases reply.ReadOnly h = inr (inl refl)
refusal_cases reply.Frozen h = inr (inr refl)
refusal_cases _ h = cc

-- an allowed call that asks for nothing new, or has room, gets no such refusal
pub not-refused : FullIsForNew → LooksKeepAll → (quota : Quota) (s new : State) (right : Right) (c : Call) (r : Reply) → is_read_only right c ≡ false
    → allowed_step quota s c ≡ (r, new) → HasWay (asks_for_new Change s c) (has_room quota s c) → is_refusal r ≡ true → ⊥
not-refused full looks quota s new right c r allowed e way h = by (refusal_cases r h)
  where
    steps : step right quota s c ≡ (r, new)
    steps = ap (λ b. if b then (refusal_of right, s) else allowed_step quota s c) allowed ∙ e

    given : (step right quota s c).0 ≡ r
    given = ap (λ z. z.0) steps

    unlike : false ≡ true → ⊥
    unlike i = cc

    asks-more : (right : Right) → asks_for_new right s c ≡ true → asks_for_new Change s c ≡ true
    asks-more Change i = i
    asks-more Look i = cc
    asks-more Frozen i = cc

    no_way : (asks room : Bool) → HasWay asks room → asks ≡ true → not room ≡ true → ⊥
    no_way asks room (inl i) j k = unlike (sym i ∙ j)
    no_way asks room (inr i) j k = unlike (sym (ap not i) ∙ k)

    -- the right forbids no such call
    forbids : (other : Right) → (right ≡ other) × (changes c ≡ true) → is_read_only other c ≡ changes c → ⊥
    forbids other (i, j) k = unlike (sym allowed ∙ ap (λ z. is_read_only z c) i ∙ k ∙ j)

    by : (r ≡ reply.Full) ⊎ (r ≡ reply.ReadOnly) ⊎ (r ≡ reply.Frozen) → ⊥
    by (inl i) = let f = (full right quota s c).0.0 (given ∙ i) in no_way (asks_for_new Change s c) (has_room quota s c) way (asks-more right f.0) f.1
    by (inr (inl i)) = forbids Look ((looks right quota s c).0.0 (given ∙ i)) refl
    by (inr (inr i)) = forbids Frozen ((looks right quota s c).1.0 (given ∙ i)) refl

-- what a right answers to a call that it forbids is a refusal, and not for memory
forbidden-quiet : (right : Right) → is_memory (refusal_of right) ≡ false
forbidden-quiet Change = refl
forbidden-quiet Look = refl
forbidden-quiet Frozen = refl

-- a call that its right forbids is answered so, and nothing changes
pub forbidden-served : (quotas : Quotas) (states : States) (t : ℕ) (right : Right) (c : Call) → is_read_only right c ≡ true
    → IsServed quotas states (record { speaker = record { tenant = t; right = right }; call = c }) (refusal_of right) states
forbidden-served quotas states t right c e = record {
  answered = subst
      (λ b. MatchBool b (MayLackMemory (quotas t) (states t) (record { right = right; call = c }) × (states t ≡ states t))
      (attempt_step (quotas t) (states t) (record { right = right; call = c }) ≡ (refusal_of right, states t)))
      (sym (forbidden-quiet right)) (ap (λ b. if b then (refusal_of right, states t) else allowed_step (quotas t) (states t) c) e);
  others = λ u h. refl;
}

-- nothing was refused for memory
pub forbidden-cause : (event : Event) (held : Held) (right : Right) → HasCause event held (refusal_of right) held
forbidden-cause event held right =
    subst (λ b. MatchBool b (IsShortService held held ⊎ IsUnplaced event held held) (IsQuiet held held)) (sym (forbidden-quiet right))
    (record { refusals = refl; unplaced = refl })
