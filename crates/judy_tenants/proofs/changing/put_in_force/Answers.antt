use Rattle.std.proofs.Common.{◌≤◌, ℕ, List, length, max, ap, sym, ◌∙◌, subst, arith}
use Rattle.judy_tenants.specs.declared.accounts.Account.{Account}
use Rattle.judy_tenants.specs.Changes.{HasReasonIn, StaysWithin}
use Rattle.judy_tenants.proofs.Carried.{put-stocked, put-changed}
use Rattle.judy_tenants.proofs.changing.put_in_force.Goals as goal

pub first_beyond-requires : goal.first_beyond-requires
first_beyond-requires g c =
    let many = c.requires.stocked.many in
    let few = c.requires.stocked.few in
    subst (λ (l : List Account). length c.args.table.now ≤ length l) (sym c.deref.ensures.value) (omega (arith, many, few))

pub returns-in-Some-clause-reason : goal.returns-in-Some-clause-reason
returns-in-Some-clause-reason g c =
    subst (λ (l : List Account). HasReasonIn c.args.table.now c.args.later.now l c.in-Some.tenant) c.deref.ensures.value c.in-Some.ensures.some

-- each tenant that stays is within its new quota
within : (g : _) (c : goal.After-stock-1 g) (t : ℕ) → StaysWithin c.args.table.now c.args.later.now c.args.stock.now.accounts.items t
within g c = subst (λ (l : List Account). (t : ℕ) → StaysWithin c.args.table.now c.args.later.now l t) c.deref.ensures.value c.in_default.ensures.none

pub returns-clause-stocked : goal.returns-clause-stocked
returns-clause-stocked g c =
    put-stocked c.args.table.now c.args.later.now c.args.stock.now c.free_gone.new.stock c.requires.stocked c.free_gone.ensures.stocked
    c.free_gone.ensures.freed c.free_gone.ensures.gone c.rows_are_sound.ensures.few (within g c)

pub returns-clause-granted : goal.returns-clause-granted
returns-clause-granted g c =
    let peak = c.free_gone.ensures.freed.peak in
    let same = c.free_gone.ensures.freed.granted in
    let most = c.max-stock.ensures in
    let words = c.words_for.ensures in
    let old = c.requires.granted.peak in
    record { peak = omega (arith, peak, same, most, old); table = omega (arith, most, words) }

pub returns-clause-changed : goal.returns-clause-changed
returns-clause-changed g c =
    put-changed c.args.table.now c.args.later.now c.args.stock.now c.free_gone.new.stock c.requires.stocked c.free_gone.ensures.stocked
    c.free_gone.ensures.freed c.free_gone.ensures.gone c.rows_are_sound.ensures.few (within g c) c.max-stock.result
    (c.max-stock.ensures ∙ ap (λ n. max n c.words_for.result) c.free_gone.ensures.freed.granted
    ∙ ap (max c.args.stock.now.granted) c.words_for.ensures)
