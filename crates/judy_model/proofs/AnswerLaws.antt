-- What holds of each reply to a tenant among others, refused or not.
use Rattle.std.proofs.Common.{◌≡◌, ◌≢◌, ℕ, ◌+◌, ◌<◌, ◌≤◌, Bool, true, false, List, refl, sym, ap, subst, arith}
use Rattle.std.specs.Prelude.{MatchBool, nat_lt, nat_le, cond}
use Rattle.std.specs.Ordering.{eq_by_cmp}
use Rattle.std.proofs.lemmas.Bool.{and_from}
use Rattle.std.proofs.lemmas.Bool.Decides.{nat_tests}
use Rattle.judy_model.specs.declared.calls.Call.{Call}
use Rattle.judy_model.specs.declared.calls.Call.TheVariants.{One, Long, Str, Bytes, Intersect, Names, Used}
use Rattle.judy_model.specs.declared.quotas.Quota.{Quota}
use Rattle.judy_model.specs.declared.replies.Reply.{Reply}
use Rattle.judy_model.specs.Contents.{Entries, string_order}
use Rattle.judy_model.specs.Tenant.{Arrays, State, content_of, with_content, used, pieces, one_step, long_step, string_step}
use Rattle.judy_model.specs.Tenant.{bytes_step, is_read_only, refusal_of, new_pieces, has_room, allowed_step, attempt_step}
use Rattle.judy_model.specs.Solo.{is_memory, MayLackMemory, MemoryIsForNew}
use Rattle.judy_model.specs.WellFormed.{IsWellFormed, IsWithin, OthersOfKindStay, OtherArraysStay, CallsKeepOthers, AnswersKeepAll}
use Rattle.judy_model.proofs.lemmas.StateLemmas.{equal_names, content_of-with_content_other}
use Rattle.judy_model.proofs.lemmas.FormLemmas.{step_keeps_form}
use Rattle.judy_model.proofs.GrowthLaws.{step_keeps_quota}
use Rattle.judy_model.proofs.lemmas.TestLemmas.{and_left, and_right, is_Equal}

-- ---- out of memory

room_means : (quota : Quota) (s : State) (call : Call) → has_room quota s call ≡ true → (used s < quota.entries) × (pieces s + new_pieces call ≤ quota.pieces)
room_means quota s call h =
    let few : nat_lt (used s) quota.entries ≡ true = and_left (nat_lt (used s) quota.entries) _ h in
    let small : nat_le (pieces s + new_pieces call) quota.pieces ≡ true = and_right (nat_lt (used s) quota.entries) _ h in
    (less (used s) quota.entries few, at_most (pieces s + new_pieces call) quota.pieces small)
  where
    less : (a b : ℕ) → nat_lt a b ≡ true → a < b
    less a b h = grind (arith, nat_tests)

    at_most : (a b : ℕ) → nat_le a b ≡ true → a ≤ b
    at_most a b h = grind (arith, nat_tests)

means_room : (quota : Quota) (s : State) (call : Call) → used s < quota.entries → pieces s + new_pieces call ≤ quota.pieces → has_room quota s call ≡ true
means_room quota s call few small =
    and_from (nat_lt (used s) quota.entries) _ (less (used s) quota.entries few) (at_most (pieces s + new_pieces call) quota.pieces small)
  where
    less : (a b : ℕ) → a < b → nat_lt a b ≡ true
    less a b h = grind (arith, nat_tests)

    at_most : (a b : ℕ) → a ≤ b → nat_le a b ≡ true
    at_most a b h = grind (arith, nat_tests)

pub memory_is_for_new : MemoryIsForNew
memory_is_for_new quota s a new = (
  λ ((asks, room), same). let (few, small) = room_means quota s a.call room in (asks, few, small, same),
  λ (asks, few, small, same). ((asks, means_room quota s a.call few small), same),
)

-- ---- the other arrays

others_stay : {K : Type 0} (arrays : Arrays K) (name : List ℕ) (l : Entries K) → OthersOfKindStay name arrays (with_content arrays name l)
others_stay arrays name l other apart =
    content_of-with_content_other arrays name other l (differ other name apart) (differ name other (λ e. apart (sym e)))
  where
    by : (b : Bool) (x y : List ℕ) → eq_by_cmp string_order x y ≡ b → x ≢ y → b ≡ false
    by true x y is h = absurd (h (equal_names x y (is_Equal (string_order x y) is)))
    by false x y is h = refl

    differ : (x y : List ℕ) → x ≢ y → eq_by_cmp string_order x y ≡ false
    differ x y h = by (eq_by_cmp string_order x y) x y refl h

-- each call leaves them unchanged
allowed_keeps_others : (quota : Quota) (s : State) (call : Call) → OtherArraysStay call s (allowed_step quota s call).1
allowed_keeps_others quota s (One name c) = (others_stay s.one name (one_step (has_room quota s (One name c)) (content_of s.one name) c).1, refl, refl, refl)
allowed_keeps_others quota s (Long name c) =
    (others_stay s.long name (long_step (has_room quota s (Long name c)) (content_of s.long name) c).1, refl, refl, refl)
allowed_keeps_others quota s (Str name c) =
    (others_stay s.string name (string_step (has_room quota s (Str name c)) (content_of s.string name) c).1, refl, refl, refl)
allowed_keeps_others quota s (Bytes name c) =
    (others_stay s.bytes name (bytes_step (has_room quota s (Bytes name c)) (content_of s.bytes name) c).1, refl, refl, refl)
allowed_keeps_others quota s (Intersect name other i n) = refl
allowed_keeps_others quota s (Names from n) = refl
allowed_keeps_others quota s Used = refl

same_others : (s : State) (call : Call) → OtherArraysStay call s s
same_others s (One name c) = (λ other apart. refl, refl, refl, refl)
same_others s (Long name c) = (λ other apart. refl, refl, refl, refl)
same_others s (Str name c) = (λ other apart. refl, refl, refl, refl)
same_others s (Bytes name c) = (λ other apart. refl, refl, refl, refl)
same_others s (Intersect name other i n) = refl
same_others s (Names from n) = refl
same_others s Used = refl

pub calls_keep_others : CallsKeepOthers
calls_keep_others right quota s call = by (is_read_only right call)
  where
    by : (b : Bool) → OtherArraysStay call s (cond {A = Reply × State} b (refusal_of right, s) (allowed_step quota s call)).1
    by true = same_others s call
    by false = allowed_keeps_others quota s call

-- ---- an answer among others

pub answers_keep_all : AnswersKeepAll
answers_keep_all quota s a given new answered form writes = by (is_memory given) answered
  where
    by : (b : Bool) → MatchBool b (MayLackMemory quota s a × (new ≡ s)) (attempt_step quota s a ≡ (given, new))
        → IsWellFormed new × (IsWithin quota s → IsWithin quota new) × OtherArraysStay a.call s new
    by true h = (
      subst IsWellFormed (sym h.1) form,
      λ within. subst (IsWithin quota) (sym h.1) within,
      subst (OtherArraysStay a.call s) (sym h.1) (same_others s a.call),
    )
    by false h =
        let is : (attempt_step quota s a).1 ≡ new = ap (λ p. p.1) h in (
          subst IsWellFormed is (step_keeps_form a.right quota s a.call form writes),
          λ within. subst (IsWithin quota) is ((step_keeps_quota a.right quota s a.call form).2 within),
          subst (OtherArraysStay a.call s) is (calls_keep_others a.right quota s a.call),
        )
