-- What the service of the program says of its start and of each call.
--     begins-empty     where a script begins, no tenant has an entry
--     begins-by-table  and the quotas are those of the table that was read
--     memory-caused    the reply `Memory` has a cause, which is counted
--     nothing-refused  any other reply counts no refusal
--     table-stays      a call keeps the table
--     moments-caused   each refusal for memory of a server's connections has a cause, which is
--                      counted at its moment
use Rattle.std.specs.Prelude.{None, ◌≡◌, ◌⊎◌, ℕ, Bool, true, false, List, [], ◌∷◌, ◌++◌, Ok, MatchBool, zip}
use Rattle.std.proofs.Common.{◌∙◌, ap, refl, subst, sym}
use Rattle.judy_many.specs.Sessions.{AreTurns, Turn, calls_of}
use Rattle.judy_model.specs.declared.replies.Reply.{Reply}
use Rattle.judy_model.specs.Solo.{is_memory}
use Rattle.judy_model.specs.Speakers.{Event}
use Rattle.judy_model.specs.Tenant.{no_arrays}
use Rattle.judy_protocol.specs.Services.{AreMade}
use Rattle.judy_protocol.specs.Serving.{MaybeBytes}
use Rattle.judy_protocol.specs.declared.gathering.Batch.{Batch}
use Rattle.judy_programs.specs.Program.{HasServed}
use Rattle.judy_programs.specs.declared.program.Ran.{Ran}
use Rattle.judy_table.specs.Tenants.{read_table}
use Rattle.judy_tenants.specs.Held.{IsQuiet, IsShortService, IsUnplaced, quotas_of}
use Rattle.judy_server.specs.Rules.{server_rules}
use Rattle.judy_server.specs.Served.{IsServedStep, IsNewService, seen_of, held_words}
use Rattle.judy_server.specs.Tally.{Tallied}

-- where a script begins, no tenant has an entry
pub begins-empty : (secret : List ℕ) (words : Bool) (batch : Batch) (how : Ran) (left left' taken taken' : MaybeBytes) (told told' : ℕ)
    → (h : HasServed IsServedStep seen_of held_words (IsNewService secret None) words batch how left left' taken taken' told told')
    → (t : ℕ) → (seen_of h.before).states t ≡ no_arrays
begins-empty secret words batch how left left' taken taken' told told' h = h.fresh.states

-- and the quotas are those of the table that was read
pub begins-by-table : (secret : List ℕ) (words : Bool) (batch : Batch) (how : Ran) (left left' taken taken' : MaybeBytes) (told told' : ℕ)
    → (h : HasServed IsServedStep seen_of held_words (IsNewService secret None) words batch how left left' taken taken' told told')
    → (read_table h.text ≡ Ok h.tenants) × ((seen_of h.before).quotas ≡ quotas_of h.tenants)
begins-by-table secret words batch how left left' taken taken' told told' h = (h.reads, ap quotas_of h.fresh.tenants)

-- `Memory` has a cause, which is counted
pub memory-caused : (old : Tallied) (event : Event) (reply : Reply) (new : Tallied) → is_memory reply ≡ true → IsServedStep old event reply new
    → IsShortService old.held new.held ⊎ IsUnplaced event old.held new.held
memory-caused old event reply new memory h = subst (λ b. MatchBool b (IsShortService old.held new.held ⊎ IsUnplaced event old.held new.held) (IsQuiet old.held new.held)) memory h.cause

-- any other reply counts no refusal
pub nothing-refused : (old : Tallied) (event : Event) (reply : Reply) (new : Tallied) → is_memory reply ≡ false → IsServedStep old event reply new → IsQuiet old.held new.held
nothing-refused old event reply new other h = subst (λ b. MatchBool b (IsShortService old.held new.held ⊎ IsUnplaced event old.held new.held) (IsQuiet old.held new.held)) other h.cause

-- a call keeps the table
pub table-stays : (old : Tallied) (event : Event) (reply : Reply) (new : Tallied) → IsServedStep old event reply new → new.held.tenants ≡ old.held.tenants
table-stays old event reply new h = h.keeps.tenants

-- The lines of all connections were run one after another. The call of one of them, after the lines
-- `done` and before the lines `rest`, was refused for memory: there is a moment before it and one
-- after it, and between them it has a cause, which is counted.
pub moments-caused : (done : List Turn) (t : Turn) (rest : List Turn) (before after : Tallied) (event : Event) (reply : Reply)
    → zip (calls_of t) t.replies ≡ (event, reply) ∷ [] → is_memory reply ≡ true → AreTurns server_rules before (done ++ t ∷ rest) after
    → (old new : Tallied) × AreTurns server_rules before done old × (IsShortService old.held new.held ⊎ IsUnplaced event old.held new.held) × AreTurns server_rules new rest after
moments-caused [] t rest before after event reply call memory (mid, one, run) =
    let (new, step, same) = subst (λ ps. AreMade IsServedStep before ps one.mid) call one.calls in
    let kept : mid.held ≡ new.held = ap (λ (s : Tallied). s.held) one.noted ∙ ap (λ (s : Tallied). s.held) same in
    let cause = memory-caused before event reply new memory step in
    (before, mid, refl, subst (λ h. IsShortService before.held h ⊎ IsUnplaced event before.held h) (sym kept) cause, run)
moments-caused (d ∷ done) t rest before after event reply call memory (mid, one, run) =
    let (old, new, did, cause, left) = moments-caused done t rest mid after event reply call memory run in
    (old, new, (mid, one, did), cause, left)
