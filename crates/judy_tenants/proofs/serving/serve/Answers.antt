use Rattle.std.proofs.Common.{◌≡◌, ◌≤◌, ◌++◌, List, length, take, drop, ap, sym, ◌∙◌, refl, subst}
use Rattle.std.proofs.Math.Seq.{take-append_seam}
use Rattle.std.specs.Vec.{with_items}
use Rattle.judy_model.specs.declared.replies.Reply.{Reply}
use Rattle.judy_model.specs.declared.replies.Reply.TheVariants as reply
use Rattle.judy_model.specs.Service.{IsServed}
use Rattle.judy_model.specs.Speakers.{Event}
use Rattle.judy_arena.specs.Blocks.{ArenaState}
use Rattle.judy_arena.specs.Takes.{Takes}
use Rattle.judy_directory.specs.Places.{at}
use Rattle.judy_kinds.specs.Calls.{kind_of_call, name_of_call, blocks_of_call}
use Rattle.judy_tenants.specs.declared.accounts.Account.{Account}
use Rattle.judy_tenants.specs.Accounts.{entries_at, account_pieces, IsServer}
use Rattle.judy_tenants.specs.Held.{HasCause, quotas_of, states_of}
use Rattle.judy_tenants.specs.States.{key_of_call}
use Rattle.judy_tenants.specs.Stocks.{held_of}
use Rattle.judy_tenants.proofs.Answers.{forbidden-cause, forbidden-served}
use Rattle.judy_tenants.proofs.CallsServed.{Premises, Ends, AtKey, CanSettle, key-is, whole-served, full-served, at-key, short}
use Rattle.judy_tenants.proofs.CallsServed.{can-settle, settled-stocked, answered, whole-keeps}
use Rattle.judy_tenants.proofs.Counts.{has-account}
use Rattle.judy_tenants.proofs.Rooms.{pieces-fit}
use Rattle.judy_tenants.proofs.Peaks.{peak-within, still-granted}
use Rattle.judy_tenants.proofs.serving.serve.Goals as goal
use Rattle.judy_tenants.proofs.serving.serve.Goals.{After-quota-quota, After-new-spot, After-spot-1}

pub account_of-account-requires : goal.account_of-account-requires
account_of-account-requires g c =
    let s = c.requires.stocked in
    has-account c.deref.result.now c.args.stock.now.accounts.items c.args.table.now c.args.speaker.tenant c.deref.ensures.value s.many s.few c.requires.known

-- what serve knows of a call, once it has read the quota
known : (g : _) (c : After-quota-quota g) → Premises g.H.KeyHash.hashed c.args.table.now c.args.stock.now c.args.speaker.tenant
    c.args.speaker.right c.args.call.now c.quota-quota.result c.account_of-account.result
known g c = record {
  stocked = c.requires.stocked;
  known = c.requires.known;
  allowed = sym c.is_read_only.ensures ∙ c.if-is_read_only.false;
  quota_is = c.quota-quota.ensures.quota;
  few_entries = c.quota-quota.ensures.entries;
  few_pieces = c.quota-quota.ensures.pieces;
  entries = c.account_of-account.ensures.entries ∙ ap (λ (l : List Account). entries_at l c.args.speaker.tenant) c.deref.ensures.value;
  pieces = c.account_of-account.ensures.pieces ∙ ap (λ (l : List Account). account_pieces l c.args.speaker.tenant) c.deref.ensures.value;
  laws = c.kinds_are_lawful.ensures g.H.KeyHash.hashed;
  adds = c.calls_add_one.ensures;
  insertions = c.insertions_alone_ask.ensures;
  memory = c.a_tenant_alone_has_memory.ensures;
  full = c.full_is_for_new_entries.ensures;
  looks = c.looks_keep_all.ensures;
}

-- the key that it builds is the call's
key : (g : _) (c : After-new-spot g) → c.new-spot.result ≡ key_of_call c.args.speaker.tenant c.args.call.now
key g c =
    key-is c.place.result c.args.speaker.tenant c.in-Some.kind (kind_of_call c.args.call.now) c.copied.result c.in-Some.name.now
    (name_of_call c.args.call.now) c.new-spot.result c.new-spot.ensures c.place.ensures c.in-Some.ensures.kind c.copied.ensures c.in-Some.ensures.name

pub returns-in_default-clause-served : goal.returns-in_default-clause-served
returns-in_default-clause-served g c =
    whole-served (known g (goal.at.returns-in_default-clause-served g c).After-quota-quota) c.overlook.result c.overlook.ensures

pub is_full-requires-clause-within : goal.is_full-requires-clause-within
is_full-requires-clause-within g c =
    let m = known g (goal.at.is_full-requires-clause-within g c).After-quota-quota in
    pieces-fit c.args.table.now c.args.stock.now m.stocked c.args.speaker.tenant c.quota-quota.result c.account_of-account.result m.quota_is m.entries m.pieces

-- what holds at the key
found : (g : _) (c : After-spot-1 g) → AtKey g.H.KeyHash.hashed c.args.stock.now c.args.call.now c.new-spot.result
found g c =
    let w = goal.at.is_full-requires-clause-place g c in
    at-key (known g w.After-quota-quota) (key g w.After-new-spot)

pub is_full-requires-clause-place : goal.is_full-requires-clause-place
is_full-requires-clause-place g c = (found g c).place

pub returns-then-is_full-clause-served : goal.returns-then-is_full-clause-served
returns-then-is_full-clause-served g c =
    let w = goal.at.returns-then-is_full-clause-served g c in
    full-served (known g w.After-quota-quota) (key g w.After-new-spot)
    c.is_full.result c.is_full.ensures c.if-is_full.true

pub exchange-requires-clause-few : goal.exchange-requires-clause-few
exchange-requires-clause-few g c = (found g (goal.at.exchange-requires-clause-few g c).After-spot-1).few

pub exchange-requires-clause-kind : goal.exchange-requires-clause-kind
exchange-requires-clause-kind g c = (found g (goal.at.exchange-requires-clause-kind g c).After-spot-1).kind

-- a call refused for memory
refused : (g : _) (c : goal.In_default-exchange g) → Ends g.H.KeyHash.hashed c.args.table.now c.args.stock.now c.exchange.new.stock
    (record { speaker = record { tenant = c.args.speaker.tenant; right = c.args.speaker.right }; call = c.args.call.now }) reply.Memory
refused g c =
    let w = goal.at.returns-in_default-exchange-clause-stocked g c in
    short (known g w.After-quota-quota) (key g w.After-new-spot)
    c.is_full.result c.is_full.ensures c.if-is_full.false c.exchange.new.stock c.in_default-exchange.ensures.refused
    c.in_default-exchange.ensures.memory

-- the peak stays within what the quotas allow
within : (g : _) (c : After-spot-1 g) (last : ArenaState)
    → Takes (blocks_of_call c.args.stock.now.arena.blocks (at c.args.stock.now.directory.0 c.new-spot.result).root c.args.call.now) c.args.stock.now.arena last
    → last.peak ≤ c.args.stock.now.granted
within g c last takes =
    peak-within (c.kinds_are_lawful.ensures g.H.KeyHash.hashed) c.places_are_small.ensures c.sizes_add_up_over_the_numbers.ensures
    c.args.table.now c.args.stock.now c.requires.stocked c.the_region_is_bounded.ensures.sum c.requires.granted
    (at c.args.stock.now.directory.0 c.new-spot.result).root c.args.call.now last takes

pub returns-in_default-exchange-clause-granted : goal.returns-in_default-exchange-clause-granted
returns-in_default-exchange-clause-granted g c =
    still-granted c.args.table.now c.args.stock.now c.exchange.new.stock c.requires.granted c.in_default-exchange.ensures.refused.granted
    (within g (goal.at.returns-in_default-exchange-clause-granted g c).After-spot-1 c.exchange.new.stock.arena c.in_default-exchange.ensures.memory)

pub returns-clause-granted : goal.returns-clause-granted
returns-clause-granted g c =
    still-granted c.args.table.now c.args.stock.now _ c.requires.granted c.in-Ok.ensures.ok.granted
    (within g (goal.at.returns-clause-granted g c).After-spot-1 c.exchange.new.stock.arena c.in-Ok.ensures.memory)

pub returns-in_default-exchange-clause-stocked : goal.returns-in_default-exchange-clause-stocked
returns-in_default-exchange-clause-stocked g c = (refused g c).stocked

pub returns-in_default-exchange-clause-served : goal.returns-in_default-exchange-clause-served
returns-in_default-exchange-clause-served g c = (refused g c).served

pub returns-in_default-exchange-clause-cause : goal.returns-in_default-exchange-clause-cause
returns-in_default-exchange-clause-cause g c = (refused g c).cause

pub returns-in_default-exchange-clause-keeps : goal.returns-in_default-exchange-clause-keeps
returns-in_default-exchange-clause-keeps g c = (refused g c).keeps

-- the account of a call that was answered
settling : (g : _) (c : goal.After-deref_mut g) → CanSettle c.args.speaker.tenant c.deref_mut.result.now c.in-Ok.answered
settling g c =
    let w = goal.at.settle-requires-clause-entries g c in
    can-settle (known g w.After-quota-quota) (key g w.After-new-spot)
    c.is_full.result c.is_full.ensures c.if-is_full.false c.exchange.new.stock c.in-Ok.answered c.in-Ok.ensures.ok
    c.deref_mut.result.now c.deref_mut.ensures.value

pub settle-requires-clause-known : goal.settle-requires-clause-known
settle-requires-clause-known g c =
    let s = c.requires.stocked in
    has-account c.deref_mut.result.now c.args.stock.now.accounts.items c.args.table.now c.args.speaker.tenant
    (c.deref_mut.ensures.value ∙ c.in-Ok.ensures.ok.accounts) s.many s.few c.requires.known

pub settle-requires-clause-entries : goal.settle-requires-clause-entries
settle-requires-clause-entries g c = (settling g c).entries_before

pub settle-requires-clause-pieces : goal.settle-requires-clause-pieces
settle-requires-clause-pieces g c = (settling g c).pieces_before

pub settle-requires-clause-few_entries : goal.settle-requires-clause-few_entries
settle-requires-clause-few_entries g c = (settling g c).entries_after

pub settle-requires-clause-few_pieces : goal.settle-requires-clause-few_pieces
settle-requires-clause-few_pieces g c = (settling g c).pieces_after

-- the accounts at the end are the updated ones
items-are : (g : _) (c : goal.After-stock-1 g) → take c.exchange.new.stock.accounts.len
    (c.settle.new.accounts ++ drop (length c.settle.new.accounts) c.exchange.new.stock.accounts.items) ≡ c.settle.new.accounts
items-are g c =
    let many : c.exchange.new.stock.accounts.len ≡ length c.settle.new.accounts = c.exchange.new.stock.accounts.ok.0
    ∙ sym (c.settle.ensures.many ∙ ap length c.deref_mut.ensures.value) in
    ap (λ n. take n (c.settle.new.accounts ++ drop (length c.settle.new.accounts) c.exchange.new.stock.accounts.items)) many
    ∙ take-append_seam c.settle.new.accounts (drop (length c.settle.new.accounts) c.exchange.new.stock.accounts.items)

stocked-end : (g : _) (c : goal.After-stock-1 g) → IsServer g.H.KeyHash.hashed c.exchange.new.stock.arena.blocks c.exchange.new.stock.directory.0
    (take c.exchange.new.stock.accounts.len (c.settle.new.accounts ++ drop (length c.settle.new.accounts) c.exchange.new.stock.accounts.items)) c.args.table.now
stocked-end g c =
    let w = goal.at.returns-clause-stocked g c in
    subst (λ (l : List Account). IsServer g.H.KeyHash.hashed c.exchange.new.stock.arena.blocks
    c.exchange.new.stock.directory.0 l c.args.table.now) (sym (items-are g c))
    (settled-stocked (known g w.After-quota-quota) (key g w.After-new-spot)
    c.is_full.result c.is_full.ensures c.if-is_full.false c.exchange.new.stock c.in-Ok.answered c.in-Ok.ensures.ok
    c.deref_mut.result.now c.deref_mut.ensures.value
    c.settle.new.accounts c.settle.ensures.many c.settle.ensures.entries c.settle.ensures.pieces c.settle.ensures.other_entries c.settle.ensures.other_pieces)

pub returns-clause-stocked : goal.returns-clause-stocked
returns-clause-stocked g c = stocked-end g c

-- a call that was answered
done : (g : _) (c : goal.After-stock-1 g) → Ends g.H.KeyHash.hashed c.args.table.now c.args.stock.now (record {
  arena = c.exchange.new.stock.arena;
  directory = c.exchange.new.stock.directory;
  accounts = with_items c.exchange.new.stock.accounts c.settle.new.accounts;
  unplaced = c.exchange.new.stock.unplaced;
  granted = c.exchange.new.stock.granted;
}) (record { speaker = record { tenant = c.args.speaker.tenant; right = c.args.speaker.right }; call = c.args.call.now }) c.in-Ok.answered.reply
done g c =
    let w = goal.at.returns-clause-stocked g c in
    answered (known g w.After-quota-quota) (key g w.After-new-spot)
    c.is_full.result c.is_full.ensures c.if-is_full.false c.exchange.new.stock c.in-Ok.answered c.in-Ok.ensures.ok
    c.in-Ok.ensures.memory _ (stocked-end g c) refl refl refl refl refl

pub returns-clause-served : goal.returns-clause-served
returns-clause-served g c = (done g c).served

pub returns-clause-cause : goal.returns-clause-cause
returns-clause-cause g c = (done g c).cause

pub returns-clause-keeps : goal.returns-clause-keeps
returns-clause-keeps g c = (done g c).keeps

-- a call that its right forbids
pub returns-then-is_read_only-clause-served : goal.returns-then-is_read_only-clause-served
returns-then-is_read_only-clause-served g c =
    let states = states_of (held_of c.args.table.now c.args.stock.now) in
    let event : Event = record { speaker = record { tenant = c.args.speaker.tenant; right = c.args.speaker.right }; call = c.args.call.now } in
    subst (λ (r : Reply). IsServed (quotas_of c.args.table.now) states event r states) (sym c.refusal.ensures)
    (forbidden-served (quotas_of c.args.table.now) states c.args.speaker.tenant c.args.speaker.right c.args.call.now
    (sym c.is_read_only.ensures ∙ c.if-is_read_only.true))

pub returns-then-is_read_only-clause-cause : goal.returns-then-is_read_only-clause-cause
returns-then-is_read_only-clause-cause g c =
    let held = held_of c.args.table.now c.args.stock.now in
    let event : Event = record { speaker = record { tenant = c.args.speaker.tenant; right = c.args.speaker.right }; call = c.args.call.now } in
    subst (λ (r : Reply). HasCause event held r held) (sym c.refusal.ensures) (forbidden-cause event held c.args.speaker.right)

-- if nothing changed, the whole service is unchanged
pub returns-then-is_read_only-clause-keeps : goal.returns-then-is_read_only-clause-keeps
returns-then-is_read_only-clause-keeps g c = whole-keeps _ _ _

pub returns-in_default-clause-keeps : goal.returns-in_default-clause-keeps
returns-in_default-clause-keeps g c = whole-keeps _ _ _

pub returns-then-is_full-clause-keeps : goal.returns-then-is_full-clause-keeps
returns-then-is_full-clause-keeps g c = whole-keeps _ _ _
