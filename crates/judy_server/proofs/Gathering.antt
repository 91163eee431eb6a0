-- How the tenants that leave are gathered.
--     gathered-more    one more of them
--     lacking-next     one row more
--     gathered-all     all rows
use Rattle.std.proofs.Common.{◌≡◌, ◌≢◌, ◌⊎◌, inl, inr, Ok, Err, Result, option_map, ◌≤◌, ◌==◌, ℕ, zero, suc, Bool, true, false, not, cond, List, [], ◌∷◌, ◌++◌, length, map, take, Option, Some, None}
use Rattle.std.proofs.Common.{refl, sym, ◌∙◌, ap, subst}
use Rattle.std.specs.Prelude.{◌&&◌, IfOk, filter, is_some, nat_le, slice_get}
use Rattle.std.specs.List.{list_all}
use Rattle.std.proofs.lemmas.Bool.{and_from, and_parts, eqb-true}
use Rattle.std.proofs.Math.Seq.{take-length}
use Rattle.std.proofs.lemmas.List.Elements.{recursion_from_All}
use Rattle.judy_journal.specs.Leaving.{gone_request}
use Rattle.judy_model.specs.Grammar.{is_name, is_name_byte}
use Rattle.judy_model.specs.declared.names.TheConstants.{NAME_LIMIT}
use Rattle.judy_many.specs.Changes.{AreLeavers}
use Rattle.judy_many.proofs.Recording.{is_short}
use Rattle.judy_protocol.specs.Plain.{spaced_more}
use Rattle.judy_protocol.specs.Talks.{HasNoLf}
use Rattle.judy_table.specs.declared.tenant.Tenant.{Tenant}
use Rattle.judy_table.specs.Seats.{AreRows, IsSpelled}
use Rattle.judy_table.specs.declared.fault.TableFault.{TableFault}
use Rattle.judy_table.specs.Tenants.{read_table}
use Rattle.judy_server.specs.Orders.{Freeze, order_in}
use Rattle.judy_server.specs.Reloads.{AreGathered, is_kept, lacking, leavers, leavers_by, leavers_for}
use Rattle.judy_server.proofs.Changed.{lacking-good}

-- the rows that a table lacks, with one more
one-row : (table : List Tenant) (r : Tenant) (rows : List Tenant) (b : Bool) → is_kept table r ≡ b
    → lacking (r ∷ rows) table ≡ cond b (lacking rows table) (r.name ∷ lacking rows table)
one-row table r rows true e = ap (λ x. map (λ (row : Tenant). row.name) (cond (not x) (r ∷ filter (λ row. not (is_kept table row)) rows) (filter (λ row. not (is_kept table row)) rows))) e
one-row table r rows false e = ap (λ x. map (λ (row : Tenant). row.name) (cond (not x) (r ∷ filter (λ row. not (is_kept table row)) rows) (filter (λ row. not (is_kept table row)) rows))) e

-- a row that is kept is not among them
pub lacking-kept : (table rows : List Tenant) (place : ℕ) → slice_get (map (is_kept table) rows) place ≡ Some true
    → lacking (take (suc place) rows) table ≡ lacking (take place rows) table
lacking-kept table [] place e = cc
lacking-kept table (r ∷ rows) zero e = let is : is_kept table r ≡ true = cc in one-row table r [] true is
lacking-kept table (r ∷ rows) (suc place) e = by (lacking-kept table rows place e) (is_kept table r) refl
  where
    by : lacking (take (suc place) rows) table ≡ lacking (take place rows) table → (b : Bool) → is_kept table r ≡ b
        → lacking (r ∷ take (suc place) rows) table ≡ lacking (r ∷ take place rows) table
    by more b is =
        one-row table r (take (suc place) rows) b is
        ∙ ap (λ l. cond b l (r.name ∷ l)) more
        ∙ sym (one-row table r (take place rows) b is)

-- so it is at the next place
pub kept-next : (table rows : List Tenant) (place next : ℕ) → next ≡ suc place → slice_get (map (is_kept table) rows) place ≡ Some true
    → lacking (take place rows) table ≡ lacking (take next rows) table
kept-next table rows place next is e = sym (ap (λ n. lacking (take n rows) table) is ∙ lacking-kept table rows place e)

-- a row that is not kept is the last of them
pub lacking-gone : (table rows : List Tenant) (place : ℕ) (name : List ℕ) → slice_get (map (is_kept table) rows) place ≡ Some false
    → slice_get (map (λ (r : Tenant). r.name) rows) place ≡ Some name
    → lacking (take (suc place) rows) table ≡ lacking (take place rows) table ++ name ∷ []
lacking-gone table [] place name e n = cc
lacking-gone table (r ∷ rows) zero name e n =
    let is : is_kept table r ≡ false = cc in
    let named : r.name ≡ name = cc in
    one-row table r [] false is ∙ ap (λ x. x ∷ []) named
lacking-gone table (r ∷ rows) (suc place) name e n = by (lacking-gone table rows place name e n) (is_kept table r) refl
  where
    by : lacking (take (suc place) rows) table ≡ lacking (take place rows) table ++ name ∷ [] → (b : Bool) → is_kept table r ≡ b
        → lacking (r ∷ take (suc place) rows) table ≡ lacking (r ∷ take place rows) table ++ name ∷ []
    by more true is =
        one-row table r (take (suc place) rows) true is ∙ more ∙ sym (ap (λ l. l ++ name ∷ []) (one-row table r (take place rows) true is))
    by more false is =
        one-row table r (take (suc place) rows) false is
        ∙ ap (λ l. r.name ∷ l) more
        ∙ sym (ap (λ l. l ++ name ∷ []) (one-row table r (take place rows) false is))

pub gone-next : (table rows : List Tenant) (place next : ℕ) (name : List ℕ) → next ≡ suc place → slice_get (map (is_kept table) rows) place ≡ Some false
    → slice_get (map (λ (r : Tenant). r.name) rows) place ≡ Some name → lacking (take place rows) table ++ name ∷ [] ≡ lacking (take next rows) table
gone-next table rows place next name is e n = sym (ap (λ k. lacking (take k rows) table) is ∙ lacking-gone table rows place name e n)

-- all rows
pub lacking-all : (table rows : List Tenant) (place : ℕ) → place ≡ length rows → lacking (take place rows) table ≡ lacking rows table
lacking-all table rows place e = ap (λ ts. lacking ts table) (ap (λ n. take n rows) e ∙ take-length rows)

-- ---- the request

name-byte : (b : ℕ) → is_name_byte b ≡ true → not (b == 10) ≡ true
name-byte b h = by (b == 10) refl
  where
    by : (t : Bool) → (b == 10) ≡ t → not t ≡ true
    by true is = let feed : b ≡ 10 = eqb-true b 10 is in let wrong : is_name_byte 10 ≡ true = ap is_name_byte (sym feed) ∙ h in cc
    by false is = refl

-- a name, and what comes after it
after-name : (name more : List ℕ) → list_all is_name_byte name ≡ true → HasNoLf more → HasNoLf (name ++ more)
after-name [] more bytes rest = rest
after-name (b ∷ name) more bytes rest =
    let (one, others) = and_parts (is_name_byte b) (list_all is_name_byte name) bytes in
    and_from (not (b == 10)) (list_all (λ x. not (x == 10)) (name ++ more)) (name-byte b one) (after-name name more others rest)

bytes-of : (name : List ℕ) → is_name name ≡ true → list_all is_name_byte name ≡ true
bytes-of name good = (and_parts (nat_le 1 (length name) && nat_le (length name) NAME_LIMIT) (list_all is_name_byte name) good).1

-- names behind spaces have no line feed
pub no-feed : (names : List (List ℕ)) → list_all is_name names ≡ true → HasNoLf (spaced_more names)
no-feed [] good = refl
no-feed (n ∷ names) good =
    let (one, others) = and_parts (is_name n) (list_all is_name names) good in
    after-name n (spaced_more names) (bytes-of n one) (no-feed names others)

-- who was gathered of all rows leaves, in a short record
pub leavers-are : (rows table : List Tenant) → AreRows rows → (first : Option (List ℕ)) (request : List ℕ) → length request ≤ 4096
    → AreGathered (lacking rows table) first request → AreLeavers (lacking rows table) first request
leavers-are rows table h None request short none = none
leavers-are rows table h (Some first) request short (others, left, is) =
    let good : list_all is_name (first ∷ others) ≡ true =
    ap (list_all is_name) (sym left) ∙ lacking-good rows table (recursion_from_All IsSpelled rows h.spelled) in
    let (one, rest) = and_parts (is_name first) (list_all is_name others) good in (
      others,
      left,
      is,
      is_short first request one (subst HasNoLf (sym is) (no-feed others rest)) short,
    )

-- one more of them
pub gathered-first : (left : List (List ℕ)) (first first' : Option (List ℕ)) (name request request' : List ℕ) → is_some first ≡ false
    → AreGathered left first request → first' ≡ cond (is_name name) (Some name) None → is_some first' ≡ true → request' ≡ gone_request []
    → AreGathered (left ++ name ∷ []) first' request'
gathered-first left (Some old) first' name request request' nobody none is there begun = cc
gathered-first left None first' name request request' nobody none is there begun = by (is_name name) is
  where
    by : (b : Bool) → first' ≡ cond b (Some name) None → AreGathered (left ++ name ∷ []) first' request'
    by true e = subst (λ f. AreGathered (left ++ name ∷ []) f request') (sym e) ([], ap (λ l. l ++ name ∷ []) none, begun)
    by false e = let wrong : true ≡ false = sym there ∙ ap is_some e in cc

pub gathered-more : (left : List (List ℕ)) (first : Option (List ℕ)) (name request request' : List ℕ) → is_some first ≡ true → AreGathered left first request
    → ((others : List (List ℕ)) → request ≡ gone_request others → request' ≡ gone_request (others ++ name ∷ [])) → AreGathered (left ++ name ∷ []) first request'
gathered-more left None name request request' there h adds = cc
gathered-more left (Some first) name request request' there (others, is, text) adds =
    (others ++ name ∷ [], ap (λ l. l ++ name ∷ []) is, adds others text)

-- ---- a text

-- nobody leaves with an order
pub leavers-order : {A : Type 0} (f : A → Freeze) (rows : List Tenant) (text : List ℕ) (found : Option A) → option_map f found ≡ order_in text
    → is_some found ≡ true → leavers rows text ≡ []
unfolding leavers
leavers-order f rows text None reads there = cc
leavers-order f rows text (Some order) reads there = ap (leavers_for rows text) (sym reads)

-- with a table those leave that it lacks
pub leavers-table : (rows table : List Tenant) (text : List ℕ) → order_in text ≡ None → read_table text ≡ Ok table → lacking rows table ≡ leavers rows text
unfolding leavers
leavers-table rows table text none reads = sym (ap (leavers_for rows text) none ∙ ap (leavers_by rows) reads)

-- and nobody with a text that is none
pub leavers-none : (rows : List Tenant) (text : List ℕ) (fault : TableFault) → order_in text ≡ None
    → ((fault ≡ TableFault.Memory) ⊎ (read_table text ≡ Err fault)) → fault ≢ TableFault.Memory → leavers rows text ≡ []
unfolding leavers
leavers-none rows text fault none (inl memory) other = absurd (other memory)
leavers-none rows text fault none (inr reads) other = ap (leavers_for rows text) none ∙ ap (leavers_by rows) reads

-- so it is told
pub told-none : {E : Type 0} (rows : List Tenant) (text request : List ℕ) (fault : TableFault) (told : Result (Option (List ℕ)) E) → order_in text ≡ None
    → ((fault ≡ TableFault.Memory) ⊎ (read_table text ≡ Err fault)) → IfOk told (λ first. (first ≡ None) × (fault ≢ TableFault.Memory))
    → IfOk told (λ first. AreLeavers (leavers rows text) first request)
told-none rows text request fault (Ok first) none why (is, other) =
    subst (λ f. AreLeavers (leavers rows text) f request) (sym is) (leavers-none rows text fault none why other)
told-none rows text request fault (Err e) none why h = h
