-- A text that is put in force: a table, or an order.
--     seated-reload     a text that is no order is put in force by its table
--     reload-seated     what that says, back from the text
use Rattle.std.proofs.Common.{◌≡◌, ◌⊎◌, inl, inr, ◌∙◌, ℕ, Bool, true, false, List, Option, None, Ok, ap, refl, subst, sym}
use Rattle.judy_model.specs.Tenant.{no_arrays}
use Rattle.judy_table.specs.Seats.{seated}
use Rattle.judy_table.specs.Tenants.{read_table}
use Rattle.judy_table.specs.declared.tenant.Tenant.{Tenant}
use Rattle.judy_tenants.specs.Changes.{HasChanged, stays_at}
use Rattle.judy_tenants.specs.Held.{Held, states_of}
use Rattle.judy_server.specs.Orders.{Freeze, order_in}
use Rattle.judy_server.specs.Reloads.{IsMeant, IsReload, IsSeated, KeepsRest, rows_by, rows_for, rows_with}
use Rattle.judy_server.specs.Tally.{Tallied}

-- the rows after a text, by what it is
pub rows-are : (rows : List Tenant) (text : List ℕ) (order : Option Freeze) → order_in text ≡ order → rows_with rows text ≡ rows_for rows text order
unfolding rows_with
rows-are rows text order is = ap (rows_for rows text) is

change-keeps : (old new : Held) → HasChanged old new → (t : ℕ) → (states_of new t ≡ states_of old t) ⊎ (states_of new t ≡ no_arrays)
change-keeps old new changed t = by (stays_at old.tenants new.tenants t) refl
  where
    by : (b : Bool) → stays_at old.tenants new.tenants t ≡ b → (states_of new t ≡ states_of old t) ⊎ (states_of new t ≡ no_arrays)
    by true e = inl (changed.stays t e).0
    by false e = inr (changed.gone t e)

pub seated-reload : (old : Tallied) (text : List ℕ) (new : Tallied) → order_in text ≡ None → IsSeated old text new → IsReload old text new
seated-reload old text new is h = record {
  meant = subst (IsMeant old.held.tenants text) (sym is) (h.table, h.reads);
  tenants = h.tenants ∙ sym (ap (rows_by old.held.tenants) h.reads) ∙ sym (rows-are old.held.tenants text None is);
  only = subst (λ o. KeepsRest o old.held new.held) (sym is) tt;
  keeps = change-keeps old.held new.held h.held;
  rows = h.rows;
  held = h.held;
  sound = h.sound;
  tally = h.tally;
}

pub reload-seated : (old : Tallied) (text : List ℕ) (new : Tallied) → order_in text ≡ None → IsReload old text new
    → (table : List Tenant) × (read_table text ≡ Ok table) × (new.held.tenants ≡ seated old.held.tenants table)
reload-seated old text new is h =
    let (table, reads) = subst (IsMeant old.held.tenants text) is h.meant in
    (table, reads, h.tenants ∙ rows-are old.held.tenants text None is ∙ ap (rows_by old.held.tenants) reads)
