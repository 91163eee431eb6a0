-- The places of tenants after another table is read.
--     seated-rows     what holds of every table's rows holds afterwards
--     keeping-own     a row that has this freeze stays as it is
--     seat-name       the table's row of a tenant that stays has its name
--     longer          there are no fewer rows
--     stays-at        a row with a tenant becomes the table's row of its name, with its freeze, or vacant
--     stays-or-goes   so it keeps its name, or becomes vacant
--     new-at          another place is vacant, or has a tenant whose name no row had
--     has-seated      the names are those of the table
--     row-seated      each has the table's row; one that a row had keeps its freeze
--     has-place       so it has a place, with this row
--     no-place        another name has none
--     one-place       no name has two places
--     keeps-place     a tenant that stays keeps its place
--     left-vacant     the place of a tenant that is gone is vacant
--     right-after     a log-in gives the right that the table gives, for a tenant that is frozen as before
--     same-right      so it gives that right, if the tenant is not frozen
--     no-name         no log-in finds a vacant row
--     knows-place     a speaker that is known has a place, with a tenant
--     login-knows     the speaker of a log-in is known
--     login-goes-on   and goes on while the table stays
--     goes-on-known   a speaker that goes on is known
--     goes-on-by      who goes on after another table is by its row of the tenant
--     gone-goes-not   a speaker of a tenant that it lacks does not
--     known-name      its name is one of the grammar
--     read-rows       what holds of the rows of a table that was read
use Rattle.std.proofs.Common.{◌≡◌, ◌≢◌, ◌⊎◌, inl, inr, ℕ, zero, suc, ◌≤◌, ◌<◌, ◌&&◌, ◌||◌, Bool, true, false, not, cond, List, [], ◌∷◌, length}
use Rattle.std.proofs.Common.{◌==◌, if◌then◌else◌, Option, Some, None, Ok, ap, sym, ◌∙◌, refl, subst, get_or, drop, slice_get, option_map, option_and_then, arith}
use Rattle.std.proofs.lemmas.Bool.{and_parts, and_from, both_ways, not-true}
use Rattle.std.proofs.lemmas.List.Elements.{All-from_recursion, recursion_from_All}
use Rattle.std.proofs.lemmas.Option.{slice_get_within}
use Rattle.std.specs.List.{AllByRecursion}
use Rattle.std.specs.Prelude.{is_some, map}
use Rattle.std.specs.Str.{bytes_eq}
use Rattle.sha2.specs.Sha256.{sha256}
use Rattle.judy_model.specs.Grammar.{is_name}
use Rattle.judy_model.specs.Speakers.{Speaker}
use Rattle.judy_model.specs.declared.quotas.Right.{Right}
use Rattle.judy_model.specs.declared.quotas.Right.TheVariants.{Change, Look, Frozen}
use Rattle.judy_table.specs.declared.tenant.Tenant.{Tenant}
use Rattle.judy_table.specs.Tenants.{is_vacant, vacant, place_of, right_of, owns, may_change, is_kept_out, may_look, is_digest, speaker_at, login_at, login_of, IsLimited}
use Rattle.judy_table.specs.Tenants.{read_table, HasRisingNames}
use Rattle.judy_table.proofs.Trees.{named-tenants_in, read-tenants, tree-rows}
use Rattle.judy_table.specs.Seats.{has_name, row_of, keeping, seat_of, row_after, is_fresh, fresh_in, placed, seated, are_distinct, IsFree, AreRows, IsSpelled, right_in, knows, knows_row, has_token}
use Rattle.judy_table.specs.Seats.{gives_row, goes_on}
use Rattle.judy_table.proofs.Placing.{one-name, unnamed-vacant, row-named, row-absent, keeping-name, keeping-vacant, seat-named, seat-absent, place-absent, place-here, fresh-are-fresh}
use Rattle.judy_table.proofs.Placing.{fresh-each, has-fresh-old, has-fresh-new, row-fresh, distinct-fresh, placed-each, has-placed, row-placed-new}
use Rattle.judy_table.proofs.Placing.{row-placed-old, place-kept, distinct-placed, length-placed, few-placed, named-seated, few-fresh}

-- a vacant row is one that a table may have
vacant-limited : IsLimited vacant
vacant-limited = record { entries = omega arith; pieces = omega arith }

-- what holds of a row holds of it with another freeze
keeping-limited : (frozen : Option (List ℕ)) (t : Tenant) → IsLimited t → IsLimited (keeping frozen t)
keeping-limited frozen t h = by (is_vacant t)
  where
    by : (b : Bool) → IsLimited (cond b t (record t { frozen = frozen }))
    by true = h
    by false = record { entries = h.entries; pieces = h.pieces }

keeping-spelled : (frozen : Option (List ℕ)) (t : Tenant) → IsSpelled t → IsSpelled (keeping frozen t)
keeping-spelled frozen t h = λ v. ap is_name (keeping-name frozen t) ∙ h (sym (keeping-vacant frozen t) ∙ v)

keeping-alike : (frozen : Option (List ℕ)) (t : Tenant) → (is_vacant t ≡ true → t ≡ vacant) → is_vacant (keeping frozen t) ≡ true → keeping frozen t ≡ vacant
keeping-alike frozen t h v =
    let empty : is_vacant t ≡ true = sym (keeping-vacant frozen t) ∙ v in ap (λ b. cond b t (record t { frozen = frozen })) empty ∙ h empty

-- a row that has this freeze stays as it is
pub keeping-own : (frozen : Option (List ℕ)) (t : Tenant) → t.frozen ≡ frozen → keeping frozen t ≡ t
keeping-own frozen t e = by (is_vacant t)
  where
    by : (b : Bool) → cond b t (record t { frozen = frozen }) ≡ t
    by true = refl
    by false = ap (λ f. record t { frozen = f }) (sym e)

-- the table's row of a tenant that stays has its name
pub seat-name : (r : Tenant) (table : List Tenant) → has_name r.name table ≡ true → (seat_of r table).name ≡ r.name
seat-name r table h = seat-named r table h

-- what holds of every table's rows holds afterwards
pub seated-rows : (rows table : List Tenant) → AreRows rows → AreRows table → AreRows (seated rows table)
seated-rows rows table r t = record {
  few = few-placed table rows (fresh_in rows table) r.few r.few_named (let most = few-fresh rows table in let few = t.few_named in omega (arith, most, few));
  few_named = let most = named-seated rows table r.distinct in let few = t.few_named in omega (arith, most, few);
  limited = every IsLimited keeping-limited vacant-limited (recursion_from_All IsLimited table t.limited);
  spelled = every IsSpelled keeping-spelled (λ e. cc) (recursion_from_All IsSpelled table t.spelled);
  empty = every (λ u. is_vacant u ≡ true → u ≡ vacant) keeping-alike (λ _. refl) (recursion_from_All (λ u. is_vacant u ≡ true → u ≡ vacant) table t.empty);
  distinct = distinct-placed table rows (fresh_in rows table) r.distinct (distinct-fresh rows table t.distinct) (λ name _. has-fresh-old name rows table);
}
  where
    every : (P : Tenant → Type 0) → ((frozen : Option (List ℕ)) (t : Tenant) → P t → P (keeping frozen t)) → P vacant → AllByRecursion P table
        → (k : ℕ) (d : Tenant) → k < length (seated rows table) → P (get_or (seated rows table) k d)
    every P keep v h = All-from_recursion P (seated rows table) (placed-each P keep table v h rows (fresh_in rows table) (fresh-each P rows table h))

-- there are no fewer rows
pub longer : (rows table : List Tenant) → length rows ≤ length (seated rows table)
longer rows table = let total = length-placed table rows (fresh_in rows table) in omega (arith, total)

stays-in : (table : List Tenant) (r : Tenant) → is_vacant r ≡ false → (rs fs : List Tenant) (p : ℕ) → slice_get rs p ≡ Some r
    → slice_get (placed table rs fs) p ≡ Some (seat_of r table)
stays-in table r v [] fs p g = cc
stays-in table r v (s ∷ rs) fs zero g = let same : s ≡ r = cc in at s same
  where
    at : (s : Tenant) → s ≡ r → slice_get (placed table (s ∷ rs) fs) zero ≡ Some (seat_of r table)
    at s same =
        ap (λ (u : Tenant). slice_get (placed table (u ∷ rs) fs) zero) same
        ∙ ap (λ b. slice_get (cond b (get_or fs 0 vacant ∷ placed table rs (drop 1 fs)) (seat_of r table ∷ placed table rs fs)) zero) v
stays-in table r v (s ∷ rs) fs (suc p) g = by (λ gs. stays-in table r v rs gs p g) (is_vacant s)
  where
    by : ((gs : List Tenant) → slice_get (placed table rs gs) p ≡ Some (seat_of r table)) → (b : Bool)
        → slice_get (cond b (get_or fs 0 vacant ∷ placed table rs (drop 1 fs)) (seat_of s table ∷ placed table rs fs)) (suc p)
        ≡ Some (seat_of r table)
    by rest true = rest (drop 1 fs)
    by rest false = rest fs

-- a row with a tenant becomes the table's row of its name, with its freeze, or vacant
pub stays-at : (rows table : List Tenant) (p : ℕ) (r : Tenant) → slice_get rows p ≡ Some r → is_vacant r ≡ false
    → slice_get (seated rows table) p ≡ Some (seat_of r table)
stays-at rows table p r h v = stays-in table r v rows (fresh_in rows table) p h

-- so it keeps its name, or becomes vacant
pub stays-or-goes : (rows table : List Tenant) (p : ℕ) (r t : Tenant) → slice_get rows p ≡ Some r → is_vacant r ≡ false
    → slice_get (seated rows table) p ≡ Some t → (t.name ≡ r.name) ⊎ (t ≡ vacant)
stays-or-goes rows table p r t h v g = by (has_name r.name table) refl
  where
    same : Some (seat_of r table) ≡ Some t
    same = sym (stays-at rows table p r h v) ∙ g

    by : (b : Bool) → has_name r.name table ≡ b → (t.name ≡ r.name) ⊎ (t ≡ vacant)
    by true e = let is : seat_of r table ≡ t = cc same in inl (ap (λ (u : Tenant). u.name) (sym is) ∙ seat-named r table e)
    by false e = let is : seat_of r table ≡ t = cc same in inr (sym is ∙ seat-absent r table e)

among : (P : Tenant → Type 0) (t : Tenant) (fs : List Tenant) (p : ℕ) → AllByRecursion P fs → slice_get fs p ≡ Some t → P t
among P t [] p f g = cc
among P t (u ∷ us) zero f g = let same : u ≡ t = cc in subst P same f.0
among P t (u ∷ us) (suc p) f g = among P t us p f.1 g

new-in : (P : Tenant → Type 0) (table : List Tenant) (t : Tenant) (rs fs : List Tenant) (p : ℕ) → AllByRecursion P fs → IsFree (slice_get rs p)
    → slice_get (placed table rs fs) p ≡ Some t → (t ≡ vacant) ⊎ P t
new-in P table t [] fs p f h g = inr (among P t fs p f g)
new-in P table t (s ∷ rs) fs zero f h g = first fs f
    (sym (ap (λ b. slice_get (cond b (get_or fs 0 vacant ∷ placed table rs (drop 1 fs)) (seat_of s table ∷ placed table rs fs)) zero) h) ∙ g)
  where
    first : (fs : List Tenant) → AllByRecursion P fs → Some (get_or fs 0 vacant) ≡ Some t → (t ≡ vacant) ⊎ P t
    first [] f g = let same : vacant ≡ t = cc in inl (sym same)
    first (u ∷ us) f g = let same : u ≡ t = cc in inr (subst P same f.0)
new-in P table t (s ∷ rs) fs (suc p) f h g = by (λ gs k. new-in P table t rs gs p k h) (is_vacant s) g
  where
    rest : (fs : List Tenant) → AllByRecursion P fs → AllByRecursion P (drop 1 fs)
    rest [] f = tt
    rest (u ∷ us) f = f.1

    by : ((gs : List Tenant) → AllByRecursion P gs → slice_get (placed table rs gs) p ≡ Some t → (t ≡ vacant) ⊎ P t) → (b : Bool)
        → slice_get (cond b (get_or fs 0 vacant ∷ placed table rs (drop 1 fs)) (seat_of s table ∷ placed table rs fs)) (suc p) ≡ Some t
        → (t ≡ vacant) ⊎ P t
    by later true e = later (drop 1 fs) (rest fs f) e
    by later false e = later fs f e

-- such a place is vacant afterwards, or has a tenant whose name no row had
pub new-at : (rows table : List Tenant) (p : ℕ) (t : Tenant) → IsFree (slice_get rows p) → slice_get (seated rows table) p ≡ Some t
    → (t ≡ vacant) ⊎ (is_fresh rows t ≡ true)
new-at rows table p t = new-in (λ u. is_fresh rows u ≡ true) table t rows (fresh_in rows table) p (fresh-are-fresh rows table)

-- the names are those of the table
pub has-seated : (name : List ℕ) (rows table : List Tenant) → name ≢ [] → has_name name (seated rows table) ≡ has_name name table
has-seated name rows table n = has-placed name table rows (fresh_in rows table) n ∙ by (has_name name rows) refl
  where
    by : (b : Bool) → has_name name rows ≡ b → ((b && has_name name table) || has_name name (fresh_in rows table)) ≡ has_name name table
    by true h = ap (λ x. has_name name table || x) (has-fresh-old name rows table h) ∙ same (has_name name table)
      where
        same : (x : Bool) → (x || false) ≡ x
        same true = refl
        same false = refl
    by false h = has-fresh-new name rows table n h

-- each has the table's row; one that a row had keeps its freeze
pub row-seated : (name : List ℕ) (rows table : List Tenant) → name ≢ [] → row_of name (seated rows table) ≡ row_after name rows table
row-seated name rows table n = by (has_name name rows) refl
  where
    by : (b : Bool) → has_name name rows ≡ b
        → row_of name (seated rows table) ≡ cond b (keeping (row_of name rows).frozen (row_of name table)) (row_of name table)
    by true h = row-placed-old name table rows (fresh_in rows table) n h (has-fresh-old name rows table h)
    by false h = row-placed-new name table rows (fresh_in rows table) n h ∙ row-fresh name rows table n h

-- so it has a place, with this row
pub has-place : (name : List ℕ) (rows table : List Tenant) → name ≢ [] → has_name name table ≡ true
    → (p : ℕ) × (place_of name (seated rows table) ≡ Some p) × (slice_get (seated rows table) p ≡ Some (row_after name rows table))
has-place name rows table n h =
    let (p, is, there) = place-here name (seated rows table) (has-seated name rows table n ∙ h) in
    (p, is, there ∙ ap Some (row-seated name rows table n))

-- another name has none
pub no-place : (name : List ℕ) (rows table : List Tenant) → name ≢ [] → has_name name table ≡ false → place_of name (seated rows table) ≡ None
no-place name rows table n h = place-absent name (seated rows table) (has-seated name rows table n ∙ h)

-- a name is that of a row at some place
has-at : (name : List ℕ) (ts : List Tenant) (q : ℕ) (b : Tenant) → slice_get ts q ≡ Some b → b.name ≡ name → has_name name ts ≡ true
has-at name [] q b h e = cc
has-at name (t ∷ ts) zero b h e =
    let same : t ≡ b = cc in ap (λ x. x || has_name name ts) (one-name t.name name (ap (λ (u : Tenant). u.name) same ∙ e))
has-at name (t ∷ ts) (suc q) b h e = ap (λ x. bytes_eq t.name name || x) (has-at name ts q b h e) ∙ always (bytes_eq t.name name)
  where
    always : (x : Bool) → (x || true) ≡ true
    always true = refl
    always false = refl

-- a tenant's name is that of no row after it
alone : (t : Tenant) (ts : List Tenant) → are_distinct (t ∷ ts) ≡ true → is_vacant t ≡ false → (q : ℕ) (b : Tenant) → slice_get ts q ≡ Some b
    → t.name ≡ b.name → ⊥
alone t ts d v q b h e =
    let apart = (and_parts (is_vacant t || not (has_name t.name ts)) (are_distinct ts) d).0 in
    both_ways (has_name t.name ts) (not-true (has_name t.name ts) (sym (ap (λ x. x || not (has_name t.name ts)) v) ∙ apart))
    (has-at t.name ts q b h (sym e))

-- no name has two places
pub one-place : (ts : List Tenant) → are_distinct ts ≡ true → (p q : ℕ) (a b : Tenant) → slice_get ts p ≡ Some a → slice_get ts q ≡ Some b
    → is_vacant a ≡ false → a.name ≡ b.name → p ≡ q
one-place [] d p q a b g h v e = cc
one-place (t ∷ ts) d zero zero a b g h v e = refl
one-place (t ∷ ts) d zero (suc q) a b g h v e =
    let same : t ≡ a = cc in absurd (alone t ts d (ap is_vacant same ∙ v) q b h (ap (λ (u : Tenant). u.name) same ∙ e))
one-place (t ∷ ts) d (suc p) zero a b g h v e =
    let same : t ≡ b = cc in
    absurd (alone t ts d (ap is_vacant same ∙ ap (λ n. length n == 0) (sym e) ∙ v) p a g (ap (λ (u : Tenant). u.name) same ∙ sym e))
one-place (t ∷ ts) d (suc p) (suc q) a b g h v e =
    ap suc (one-place ts (and_parts (is_vacant t || not (has_name t.name ts)) (are_distinct ts) d).1 p q a b g h v e)

-- a tenant that stays keeps its place
pub keeps-place : (name : List ℕ) (rows table : List Tenant) → name ≢ [] → has_name name rows ≡ true → has_name name table ≡ true
    → place_of name (seated rows table) ≡ place_of name rows
keeps-place name rows table n h t = place-kept name table rows (fresh_in rows table) n h t (has-fresh-old name rows table h)

-- the place of a tenant that is gone is vacant
pub left-vacant : (rows table : List Tenant) (p : ℕ) (r : Tenant) → slice_get rows p ≡ Some r → is_vacant r ≡ false → has_name r.name table ≡ false
    → slice_get (seated rows table) p ≡ Some vacant
left-vacant rows table p r h v g = stays-at rows table p r h v ∙ ap Some (seat-absent r table g)

-- ---- log-ins

right-at : (p : ℕ) (o : Option Right) → option_map (λ (s : Speaker). s.right) (speaker_at p o) ≡ o
right-at p None = refl
right-at p (Some right) = refl

-- it is that of the row of the name
pub right-of-row : (name token : List ℕ) (ts : List Tenant) → right_in name token ts ≡ right_of (sha256 token) (row_of name ts)
right-of-row name token ts = by (has_name name ts) refl
  where
    by : (b : Bool) → has_name name ts ≡ b → right_in name token ts ≡ right_of (sha256 token) (row_of name ts)
    by false h =
        ap (λ o. option_map (λ (s : Speaker). s.right) (login_at ts o token)) (place-absent name ts h)
        ∙ ap (right_of (sha256 token)) (sym (row-absent name ts h))
    by true h =
        let (p, is, there) = place-here name ts h in
        ap (λ o. option_map (λ (s : Speaker). s.right) (login_at ts o token)) is
        ∙ right-at p (option_and_then (right_of (sha256 token)) (slice_get ts p))
        ∙ ap (option_and_then (right_of (sha256 token))) there

-- a vacant row gives none
no-right : (shown : List ℕ) (t : Tenant) → is_vacant t ≡ true → right_of shown t ≡ None
no-right shown t v =
    ap
    (λ b. if b then None
    else if may_change shown t then Some Change
    else if is_kept_out shown t then Some Frozen
    else if may_look shown t then Some Look
    else None)
    v

-- the row of no name is vacant
row-unnamed : (ts : List Tenant) → is_vacant (row_of [] ts) ≡ true
row-unnamed ts = by (has_name [] ts) refl
  where
    by : (b : Bool) → has_name [] ts ≡ b → is_vacant (row_of [] ts) ≡ true
    by true h = unnamed-vacant (row_of [] ts) (row-named [] ts h)
    by false h = ap is_vacant (row-absent [] ts h)

-- no log-in finds a vacant row
pub no-name : (token : List ℕ) (ts : List Tenant) → right_in [] token ts ≡ None
no-name token ts = right-of-row [] token ts ∙ no-right (sha256 token) (row_of [] ts) (row-unnamed ts)

-- a log-in gives the right that the table gives, for a tenant that is frozen as before
pub right-after : (name token : List ℕ) (rows table : List Tenant)
    → right_in name token (seated rows table) ≡ right_of (sha256 token) (row_after name rows table)
right-after [] token rows table = no-name token (seated rows table) ∙ sym (no-right (sha256 token) (row_after [] rows table) (empty (has_name [] rows)))
  where
    empty : (b : Bool) → is_vacant (cond b (keeping (row_of [] rows).frozen (row_of [] table)) (row_of [] table)) ≡ true
    empty true = keeping-vacant (row_of [] rows).frozen (row_of [] table) ∙ row-unnamed table
    empty false = row-unnamed table
right-after (x ∷ xs) token rows table =
    right-of-row (x ∷ xs) token (seated rows table) ∙ ap (right_of (sha256 token)) (row-seated (x ∷ xs) rows table some)
  where
    some : x ∷ xs ≢ []
    some e = cc

-- so it gives the right that the table gives, if the tenant is not frozen
pub same-right : (name token : List ℕ) (rows table : List Tenant) → (row_of name rows).frozen ≡ None → (row_of name table).frozen ≡ None
    → right_in name token (seated rows table) ≡ right_in name token table
same-right name token rows table e f =
    right-after name token rows table ∙ ap (right_of (sha256 token)) (same (has_name name rows)) ∙ sym (right-of-row name token table)
  where
    same : (b : Bool) → cond b (keeping (row_of name rows).frozen (row_of name table)) (row_of name table) ≡ row_of name table
    same true = keeping-own (row_of name rows).frozen (row_of name table) (f ∙ sym e)
    same false = refl

-- a speaker that is known has a place, with a tenant
pub knows-place : (ts : List Tenant) (who : Speaker) → knows ts who ≡ true
    → (t : Tenant) × (slice_get ts who.tenant ≡ Some t) × (is_vacant t ≡ false) × (who.tenant < length ts)
knows-place ts who h = by (slice_get ts who.tenant) refl h
  where
    by : (o : Option Tenant) → slice_get ts who.tenant ≡ o → knows_row o who.right ≡ true
        → (t : Tenant) × (slice_get ts who.tenant ≡ Some t) × (is_vacant t ≡ false) × (who.tenant < length ts)
    by None e g = cc
    by (Some t) e g = (t, e, not-true (is_vacant t) (and_parts (not (is_vacant t)) (has_token who.right t) g).0, slice_get_within ts who.tenant t e)

-- a token with a digest of the row gives a right for which the row has a token
has-one : (o p : Option (List ℕ)) (shown : List ℕ) → (is_digest o shown || is_digest p shown) ≡ true → (is_some o || is_some p) ≡ true
has-one (Some x) p shown e = refl
has-one None (Some y) shown e = refl
has-one None None shown e = cc

gives-known : (o : Option Tenant) (right : Right) (shown : List ℕ) → gives_row o right shown ≡ true → knows_row o right ≡ true
gives-known None right shown e = cc
gives-known (Some t) Change shown e = and_from (not (is_vacant t)) true (and_parts (not (is_vacant t)) (may_change shown t) e).0 refl
gives-known (Some t) Frozen shown e =
    let parts = and_parts (not (is_vacant t)) (is_kept_out shown t) e in
    and_from (not (is_vacant t)) (has_token Frozen t) parts.0 (and_parts (is_some t.frozen) (owns shown t) parts.1).0
gives-known (Some t) Look shown e =
    let parts = and_parts (not (is_vacant t)) (may_look shown t) e in
    and_from (not (is_vacant t)) (has_token Look t) parts.0 (has-one t.others.look t.others.former_look shown parts.1)

-- a speaker that goes on is known
pub goes-on-known : (ts : List Tenant) (who : Speaker) (shown : List ℕ) → goes_on ts who shown ≡ true → knows ts who ≡ true
goes-on-known ts who shown e = gives-known (slice_get ts who.tenant) who.right shown e

-- the speaker of a log-in goes on while the table stays
pub login-goes-on : (name token : List ℕ) (ts : List Tenant) (who : Speaker) → login_of name token ts ≡ Some who → goes_on ts who (sha256 token) ≡ true
login-goes-on name token ts who h = at_place (place_of name ts) h
  where
    row : (place : ℕ) (t : Tenant) → slice_get ts place ≡ Some t → (v d k l : Bool) → is_vacant t ≡ v → may_change (sha256 token) t ≡ d
        → is_kept_out (sha256 token) t ≡ k → may_look (sha256 token) t ≡ l
        → speaker_at place (if v then None else if d then Some Change else if k then Some Frozen else if l then Some Look else None) ≡ Some who
        → goes_on ts who (sha256 token) ≡ true
    row place t is true d k l v change kept look e = cc
    row place t is false true k l v change kept look e =
        let same : record { tenant = place; right = Change } ≡ who = cc in
        subst (λ s. goes_on ts s (sha256 token) ≡ true) same
        (ap (λ o. gives_row o Change (sha256 token)) is ∙ ap (λ b. not b && may_change (sha256 token) t) v ∙ change)
    row place t is false false true l v change kept look e =
        let same : record { tenant = place; right = Frozen } ≡ who = cc in
        subst (λ s. goes_on ts s (sha256 token) ≡ true) same
        (ap (λ o. gives_row o Frozen (sha256 token)) is ∙ ap (λ b. not b && is_kept_out (sha256 token) t) v ∙ kept)
    row place t is false false false true v change kept look e =
        let same : record { tenant = place; right = Look } ≡ who = cc in
        subst (λ s. goes_on ts s (sha256 token) ≡ true) same
        (ap (λ o. gives_row o Look (sha256 token)) is ∙ ap (λ b. not b && may_look (sha256 token) t) v ∙ look)
    row place t is false false false false v change kept look e = cc

    at_row : (place : ℕ) (o : Option Tenant) → slice_get ts place ≡ o → speaker_at place (option_and_then (right_of (sha256 token)) o) ≡ Some who
        → goes_on ts who (sha256 token) ≡ true
    at_row place None is e = cc
    at_row place (Some t) is e =
        row place t is (is_vacant t) (may_change (sha256 token) t) (is_kept_out (sha256 token) t) (may_look (sha256 token) t) refl refl refl refl e

    at_place : (o : Option ℕ) → login_at ts o token ≡ Some who → goes_on ts who (sha256 token) ≡ true
    at_place None e = cc
    at_place (Some place) e = at_row place (slice_get ts place) refl e

-- the speaker of a log-in is known
pub login-knows : (name token : List ℕ) (ts : List Tenant) (who : Speaker) → login_of name token ts ≡ Some who → knows ts who ≡ true
login-knows name token ts who h = goes-on-known ts who (sha256 token) (login-goes-on name token ts who h)

-- who goes on after another table is by its row of the tenant
pub goes-on-by : (rows table : List Tenant) (who : Speaker) (shown : List ℕ) (r : Tenant) → slice_get rows who.tenant ≡ Some r → is_vacant r ≡ false
    → goes_on (seated rows table) who shown ≡ gives_row (Some (seat_of r table)) who.right shown
goes-on-by rows table who shown r h v = ap (λ o. gives_row o who.right shown) (stays-at rows table who.tenant r h v)

-- a speaker of a tenant that the table lacks does not go on
pub gone-goes-not : (rows table : List Tenant) (who : Speaker) (shown : List ℕ) (r : Tenant) → slice_get rows who.tenant ≡ Some r → is_vacant r ≡ false
    → has_name r.name table ≡ false → goes_on (seated rows table) who shown ≡ false
gone-goes-not rows table who shown r h v g = goes-on-by rows table who shown r h v ∙ ap (λ t. gives_row (Some t) who.right shown) (seat-absent r table g)

-- the name of a tenant that is known is one of the grammar
pub known-name : (ts : List Tenant) (who : Speaker) (name : List ℕ) → AreRows ts → knows ts who ≡ true
    → slice_get (map (λ (t : Tenant). t.name) ts) who.tenant ≡ Some name → is_name name ≡ true
known-name ts who name rows h e =
    let (t, is, v, place) = knows-place ts who h in
    let same : t.name ≡ name = some_is (sym (there ts who.tenant t is) ∙ e) in
    subst (λ n. is_name n ≡ true) same (spelled ts (recursion_from_All IsSpelled ts rows.spelled) who.tenant t is v)
  where
    some_is : {A : Type 0} {a b : A} → Some a ≡ Some b → a ≡ b
    some_is e = cc

    there : (ts : List Tenant) (p : ℕ) (t : Tenant) → slice_get ts p ≡ Some t → slice_get (map (λ (u : Tenant). u.name) ts) p ≡ Some t.name
    there [] p t e = cc
    there (s ∷ ts) zero t e = let same : s ≡ t = cc in ap (λ (u : Tenant). Some u.name) same
    there (s ∷ ts) (suc p) t e = there ts p t e

    spelled : (ts : List Tenant) → AllByRecursion IsSpelled ts → (p : ℕ) (t : Tenant) → slice_get ts p ≡ Some t → is_vacant t ≡ false → is_name t.name ≡ true
    spelled [] all p t e v = cc
    spelled (s ∷ ts) all zero t e v = let same : s ≡ t = cc in subst IsSpelled same all.0 v
    spelled (s ∷ ts) all (suc p) t e v = spelled ts all.1 p t e v

-- ---- a table that was read

-- what holds of the rows of a table that was read
pub read-rows : (text : List ℕ) (ts : List Tenant) → read_table text ≡ Ok ts → HasRisingNames ts
    → AreRows ts × AllByRecursion (λ t. is_vacant t ≡ false) ts
read-rows text ts e rising = let (ms, in', few) = read-tenants text ts e in (tree-rows ms ts in' few rising, named-tenants_in ms ts in')
