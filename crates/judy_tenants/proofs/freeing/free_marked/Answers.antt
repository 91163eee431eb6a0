use Rattle.std.proofs.Common.{◌≡◌, ◌≤◌, ◌<◌, ◌+◌, IsFalse, true, false, get_or, length, List, ◌∷◌, ap, sym, ◌∙◌, refl, subst}
use Rattle.std.specs.FinMap.{retain_keys}
use Rattle.judy_directory.specs.Kinds.{IsOf, spot_of, is_gone}
use Rattle.judy_directory.specs.Places.{Stand}
use Rattle.judy_directory.specs.Rooms.{AreOnce}
use Rattle.judy_directory.proofs.lemmas.Left.{is_left, left-all, left-none, left-stays, left-gone}
use Rattle.judy_tenants.specs.declared.accounts.Account.{Account}
use Rattle.judy_tenants.specs.declared.stock.Stock.{Stock}
use Rattle.judy_tenants.specs.Accounts.{entries_at, account_pieces, IsServer}
use Rattle.judy_tenants.specs.Frees.{AreFreedIn}
use Rattle.judy_tenants.proofs.CallsServed.{CanSettle}
use Rattle.judy_tenants.proofs.Counts.{has-account}
use Rattle.judy_tenants.proofs.Frees.{take-written}
use Rattle.judy_tenants.proofs.Marked.{FreesNext, frees-next, marked-next, others-next, place-next, few-next, can-next, freed-next, stocked-next, answer-next, freed-more}
use Rattle.judy_tenants.proofs.freeing.free_marked.Goals as goal

pub loop-spot-init : goal.loop-spot-init
loop-spot-init g c =
    let all = sym (left-all c.args.gone.now c.args.directory.now.0 c.list-names.result c.list-names.ensures.all) in
    record {
      once = c.list-names.ensures.once;
      stocked = subst (λ m. IsServer g.H.KeyHash.hashed c.args.arena.now.blocks m c.args.accounts.now.items c.args.table.now) all c.requires.stocked;
      freed = subst (λ m. AreFreedIn (λ t. IsFalse (get_or c.args.gone.now t false)) c.args.arena.now c.args.directory.now.0 c.args.arena.now m) all (record {
        states = λ t h. refl;
        sizes = λ t h. refl;
        refusals = refl;
        region = refl;
        reserved = refl;
        peak = refl;
      });
    }

-- a name of a tenant that stays is left
pub loop-spot-preserved-then-not-leaves : goal.loop-spot-preserved-then-not-leaves
loop-spot-preserved-then-not-leaves g c =
    let next : c.loop-spot.names ≡ c.in-Some.spot ∷ c.next.new.self = c.in-Some.ensures.some in
    let stays : is_gone c.args.gone.now c.in-Some.spot ≡ false = sym c.is_gone-leaves.ensures ∙ c.if-not-leaves.true in
    let left = ap (λ ks. retain_keys c.args.directory.now.0 (is_left c.args.gone.now ks)) next
    ∙ left-stays c.args.gone.now c.args.directory.now.0 c.in-Some.spot c.next.new.self stays in
    record {
      once = (subst AreOnce next c.loop-spot.invariant.once).1;
      stocked = subst (λ m. IsServer g.H.KeyHash.hashed c.loop-spot.arena.blocks m c.loop-spot.accounts.items c.args.table.now) left c.loop-spot.invariant.stocked;
      freed = subst (λ m. AreFreedIn (λ t. IsFalse (get_or c.args.gone.now t false)) c.args.arena.now c.args.directory.now.0 c.loop-spot.arena m) left
          c.loop-spot.invariant.freed;
    }

-- ---- before the array of a name is freed

abbrev stock-before : (g : _) → goal.After-free-arg-1 g → Stock
stock-before g c = record {
  arena = c.loop-spot.arena;
  directory = (retain_keys c.args.directory.now.0 (is_left c.args.gone.now (c.in-Some.spot ∷ c.next.new.self)), c.args.directory.now.1);
  accounts = c.loop-spot.accounts;
  unplaced = 0;
  granted = 0;
}

read-before : (g : _) (c : goal.After-free-arg-1 g) → spot_of c.tenant-tenant.result c.array-kind.result.0 c.array-kind.result.1 ≡ c.in-Some.spot
read-before g c = c.array-kind.ensures c.tenant-tenant.result (subst (λ t. IsOf t c.in-Some.spot) (sym c.tenant-tenant.ensures) c.tenant.ensures)

marked-before : (g : _) (c : goal.After-free-arg-1 g) → get_or c.args.gone.now c.tenant-tenant.result false ≡ true
marked-before g c = marked-next c.args.gone.now c.tenant-tenant.result c.array-kind.result c.in-Some.spot (read-before g c) (sym c.is_gone-leaves.ensures ∙ c.if-not-leaves.false)

known-before : (g : _) (c : goal.After-free-arg-1 g) → FreesNext g.H.KeyHash.hashed c.args.table.now (stock-before g c) c.tenant-tenant.result c.in-Some.spot
    c.array-kind.result.0 c.array-kind.result.1 c.stands_at-place.result
known-before g c =
    frees-next (stock-before g c) c.args.gone.now c.args.directory.now.0 c.loop-spot.names c.next.new.self c.in-Some.spot c.tenant-tenant.result c.array-kind.result
    c.stands_at-place.result refl (c.kinds_are_lawful.ensures g.H.KeyHash.hashed) c.calls_add_one.ensures c.rows_are_sound.ensures.limited
    c.loop-spot.invariant.stocked c.in-Some.ensures.some (c.requires.known c.tenant-tenant.result (marked-before g c)) (read-before g c) c.stands_at-place.ensures

pub free-requires-clause-place : goal.free-requires-clause-place
free-requires-clause-place g c = place-next (known-before g c)

pub free-requires-clause-few : goal.free-requires-clause-few
free-requires-clause-few g c = few-next (known-before g c)

-- ---- before its account is settled

abbrev stock-freed : (g : _) → goal.After-deref_mut g → Stock
stock-freed g c = record {
  arena = c.loop-spot.arena;
  directory = (retain_keys c.args.directory.now.0 (is_left c.args.gone.now (c.in-Some.spot ∷ c.next.new.self)), c.args.directory.now.1);
  accounts = c.loop-spot.accounts;
  unplaced = 0;
  granted = 0;
}

read-freed : (g : _) (c : goal.After-deref_mut g) → spot_of c.tenant-tenant.result c.array-kind.result.0 c.array-kind.result.1 ≡ c.in-Some.spot
read-freed g c = c.array-kind.ensures c.tenant-tenant.result (subst (λ t. IsOf t c.in-Some.spot) (sym c.tenant-tenant.ensures) c.tenant.ensures)

marked-freed : (g : _) (c : goal.After-deref_mut g) → get_or c.args.gone.now c.tenant-tenant.result false ≡ true
marked-freed g c = marked-next c.args.gone.now c.tenant-tenant.result c.array-kind.result c.in-Some.spot (read-freed g c) (sym c.is_gone-leaves.ensures ∙ c.if-not-leaves.false)

known-freed : (g : _) (c : goal.After-deref_mut g) → FreesNext g.H.KeyHash.hashed c.args.table.now (stock-freed g c) c.tenant-tenant.result c.in-Some.spot
    c.array-kind.result.0 c.array-kind.result.1 c.stands_at-place.result
known-freed g c =
    frees-next (stock-freed g c) c.args.gone.now c.args.directory.now.0 c.loop-spot.names c.next.new.self c.in-Some.spot c.tenant-tenant.result c.array-kind.result
    c.stands_at-place.result refl (c.kinds_are_lawful.ensures g.H.KeyHash.hashed) c.calls_add_one.ensures c.rows_are_sound.ensures.limited
    c.loop-spot.invariant.stocked c.in-Some.ensures.some (c.requires.known c.tenant-tenant.result (marked-freed g c)) (read-freed g c) c.stands_at-place.ensures

settling : (g : _) (c : goal.After-deref_mut g) → CanSettle c.tenant-tenant.result c.deref_mut.result.now (answer-next (known-freed g c) c.free.new.arena
    c.free.ensures.array c.free.ensures.refusals c.free.ensures.memory)
settling g c =
    can-next (known-freed g c) c.free.new.arena c.free.ensures.array c.free.ensures.refusals c.free.ensures.memory c.deref_mut.result.now
    c.deref_mut.ensures.value

pub settle-requires-clause-known : goal.settle-requires-clause-known
settle-requires-clause-known g c =
    let s = c.loop-spot.invariant.stocked in
    has-account c.deref_mut.result.now c.loop-spot.accounts.items c.args.table.now c.tenant-tenant.result c.deref_mut.ensures.value s.many s.few
    (c.requires.known c.tenant-tenant.result (marked-freed g c))

pub settle-requires-clause-entries : goal.settle-requires-clause-entries
settle-requires-clause-entries g c = (settling g c).entries_before

pub settle-requires-clause-pieces : goal.settle-requires-clause-pieces
settle-requires-clause-pieces g c = (settling g c).pieces_before

pub settle-requires-clause-few_entries : goal.settle-requires-clause-few_entries
settle-requires-clause-few_entries g c =
    subst (λ (p : Stand). entries_at c.deref_mut.result.now c.tenant-tenant.result + p.entries < c.stands_at-place.result.entries + 18446744073709551616)
    (sym c.nothing-nothing.ensures) (settling g c).entries_after

pub settle-requires-clause-few_pieces : goal.settle-requires-clause-few_pieces
settle-requires-clause-few_pieces g c =
    subst (λ (p : Stand). account_pieces c.deref_mut.result.now c.tenant-tenant.result + p.pieces < c.stands_at-place.result.pieces + 18446744073709551616)
    (sym c.nothing-nothing.ensures) (settling g c).pieces_after

-- ---- once it is settled

abbrev stock-settled : (g : _) → goal.After-accounts-1 g → Stock
stock-settled g c = record {
  arena = c.loop-spot.arena;
  directory = (retain_keys c.args.directory.now.0 (is_left c.args.gone.now (c.in-Some.spot ∷ c.next.new.self)), c.args.directory.now.1);
  accounts = c.loop-spot.accounts;
  unplaced = 0;
  granted = 0;
}

read-settled : (g : _) (c : goal.After-accounts-1 g) → spot_of c.tenant-tenant.result c.array-kind.result.0 c.array-kind.result.1 ≡ c.in-Some.spot
read-settled g c = c.array-kind.ensures c.tenant-tenant.result (subst (λ t. IsOf t c.in-Some.spot) (sym c.tenant-tenant.ensures) c.tenant.ensures)

marked-settled : (g : _) (c : goal.After-accounts-1 g) → get_or c.args.gone.now c.tenant-tenant.result false ≡ true
marked-settled g c = marked-next c.args.gone.now c.tenant-tenant.result c.array-kind.result c.in-Some.spot (read-settled g c) (sym c.is_gone-leaves.ensures ∙ c.if-not-leaves.false)

known-settled : (g : _) (c : goal.After-accounts-1 g) → FreesNext g.H.KeyHash.hashed c.args.table.now (stock-settled g c) c.tenant-tenant.result c.in-Some.spot
    c.array-kind.result.0 c.array-kind.result.1 c.stands_at-place.result
known-settled g c =
    frees-next (stock-settled g c) c.args.gone.now c.args.directory.now.0 c.loop-spot.names c.next.new.self c.in-Some.spot c.tenant-tenant.result c.array-kind.result
    c.stands_at-place.result refl (c.kinds_are_lawful.ensures g.H.KeyHash.hashed) c.calls_add_one.ensures c.rows_are_sound.ensures.limited
    c.loop-spot.invariant.stocked c.in-Some.ensures.some (c.requires.known c.tenant-tenant.result (marked-settled g c)) (read-settled g c) c.stands_at-place.ensures

pub loop-spot-preserved : goal.loop-spot-preserved
loop-spot-preserved g c =
    let H = g.H.KeyHash.hashed in
    let gone = c.args.gone.now in
    let d = c.args.directory.now.0 in
    let key = c.in-Some.spot in
    let rest = c.next.new.self in
    let t = c.tenant-tenant.result in
    let arena = c.free.new.arena in
    let n = known-settled g c in
    let next : c.loop-spot.names ≡ key ∷ rest = c.in-Some.ensures.some in
    let once = subst AreOnce next c.loop-spot.invariant.once in
    let leaves : is_gone gone key ≡ true = sym c.is_gone-leaves.ensures ∙ c.if-not-leaves.false in
    let left = left-gone gone d key rest leaves once.0 in
    let live = subst (λ m. m ≤ c.loop-spot.arena.peak) (sym c.the_region_is_bounded.ensures.sum) c.the_region_is_bounded.ensures.live in
    let written = take-written c.loop-spot.accounts.len c.settle.new.accounts c.loop-spot.accounts.items
    (c.loop-spot.accounts.ok.0 ∙ sym (c.settle.ensures.many ∙ ap length c.deref_mut.ensures.value)) in
    record {
      once = once.1;
      stocked =
          subst (λ (l : List Account). IsServer H arena.blocks (retain_keys d (is_left gone rest)) l c.args.table.now) (sym written)
          (subst (λ m. IsServer H arena.blocks m c.settle.new.accounts c.args.table.now) left
          (stocked-next n arena c.free.ensures.array c.free.ensures.refusals c.free.ensures.memory c.deref_mut.result.now c.deref_mut.ensures.value
          c.settle.new.accounts c.settle.ensures.many
          (c.settle.ensures.entries ∙ ap (λ (p : Stand). entries_at c.deref_mut.result.now t + p.entries) c.nothing-nothing.ensures)
          (c.settle.ensures.pieces ∙ ap (λ (p : Stand). account_pieces c.deref_mut.result.now t + p.pieces) c.nothing-nothing.ensures)
          c.settle.ensures.other_entries c.settle.ensures.other_pieces));
      freed =
          subst (λ m. AreFreedIn (λ u. IsFalse (get_or gone u false)) c.args.arena.now d arena m) left
          (freed-more t
          (subst (λ ks. AreFreedIn (λ u. IsFalse (get_or gone u false)) c.args.arena.now d c.loop-spot.arena (retain_keys d (is_left gone ks))) next
          c.loop-spot.invariant.freed)
          (freed-next n arena c.free.ensures.array c.free.ensures.refusals c.free.ensures.memory live)
          (others-next gone t (marked-settled g c)));
    }

-- ---- at the end

pub returns-clause-stocked : goal.returns-clause-stocked
returns-clause-stocked g c =
    subst (λ m. IsServer g.H.KeyHash.hashed c.loop-spot.arena.blocks m c.loop-spot.accounts.items c.args.table.now)
    (ap (λ ks. retain_keys c.args.directory.now.0 (is_left c.args.gone.now ks)) c.in_default.ensures.none
    ∙ left-none c.args.gone.now c.args.directory.now.0) c.loop-spot.invariant.stocked

pub returns-clause-freed : goal.returns-clause-freed
returns-clause-freed g c =
    subst (λ m. AreFreedIn (λ t. IsFalse (get_or c.args.gone.now t false)) c.args.arena.now c.args.directory.now.0 c.loop-spot.arena m)
    (ap (λ ks. retain_keys c.args.directory.now.0 (is_left c.args.gone.now ks)) c.in_default.ensures.none
    ∙ left-none c.args.gone.now c.args.directory.now.0) c.loop-spot.invariant.freed
