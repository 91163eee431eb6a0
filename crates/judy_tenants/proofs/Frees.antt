-- Freeing one array, and the arrays of the tenants that are marked.
--     few-quotas        the quotas of a table are few
--     frees-at          what is known before an array is freed; below it, what holds afterwards
--     no-names          a tenant without names has no arrays
use Rattle.std.proofs.Common.{◌≡◌, ◌≢◌, ℕ, ◌+◌, ◌≤◌, ◌<◌, true, false, cond, inl, List, [], ◌∷◌, ◌++◌, length, take, drop, map, None, Some, ap, sym, ◌∙◌, refl, subst, arith, nat_lt}
use Rattle.std.specs.Prelude.{option_map}
use Rattle.std.specs.FinMap.{find, get}
use Rattle.std.proofs.Math.Seq.{take-append_seam}
use Rattle.std.proofs.lemmas.Bool.{ltb-true, ltb-false}
use Rattle.std.proofs.lemmas.List.{get_or-map, get_or_past, length-map}
use Rattle.std.proofs.lemmas.Option.{none-some}
use Rattle.judy_arena.specs.Blocks.{Blocks}
use Rattle.judy_arena.specs.Takes.{Takes}
use Rattle.judy_model.specs.declared.calls.Call.{Call}
use Rattle.judy_model.specs.declared.replies.Reply.{Reply}
use Rattle.judy_model.specs.Contents.{string_order}
use Rattle.judy_model.specs.Tenant.{Arrays, no_arrays, used, pieces, has_room}
use Rattle.judy_model.proofs.lemmas.EntryLemmas.{string_is}
use Rattle.judy_model.specs.declared.commands.Kind.{Kind}
use Rattle.judy_model.specs.declared.commands.Kind.TheVariants.{One, Long, Str, Bytes}
use Rattle.judy_directory.specs.Kinds.{owner_byte, spot_of}
use Rattle.judy_directory.specs.Places.{Stand, at}
use Rattle.judy_directory.specs.Shelf.{Places}
use Rattle.judy_directory.proofs.lemmas.Named.{find-arrays_of}
use Rattle.judy_table.specs.declared.tenant.Tenant.{Tenant}
use Rattle.judy_table.specs.Tenants.{AreLimited, no_others}
use Rattle.judy_kinds.specs.Calls.{kind_of_call, name_of_call, asks_at, blocks_of_kind, blocks_of_call, AnswersAt}
use Rattle.judy_tenants.specs.declared.accounts.Account.{Account}
use Rattle.judy_tenants.specs.declared.stock.Stock.{Stock}
use Rattle.judy_tenants.specs.declared.stock.Answered.{Answered}
use Rattle.judy_tenants.specs.Accounts.{entries_at, account_pieces, IsServer}
use Rattle.judy_tenants.specs.Frees.{free_of, AreFreed}
use Rattle.judy_tenants.specs.Growth.{KindLaws, CallsAddOne}
use Rattle.judy_tenants.specs.Held.{quotas_of, no_quota}
use Rattle.judy_tenants.specs.States.{state_in, sizes_in, key_of_call}
use Rattle.judy_tenants.specs.Stocks.{IsStocked, IsExchange}
use Rattle.judy_tenants.proofs.CallsServed.{CanSettle}
use Rattle.judy_tenants.proofs.Exchanges.{others-rest, other-sizes-rest, before-entries, before-pieces, used-moved, pieces-moved, used-fits, pieces-fit, settled-stock}
use Rattle.judy_tenants.proofs.StateLaws.{KeyOf, content_at, arrays_at, arrays_at-state_in, pieces-within}
use Rattle.judy_tenants.proofs.Steps.{HasWay}

-- ---- the call

pub kind-of-free : (kind : Kind) (name : List ℕ) → kind_of_call (free_of kind name) ≡ kind
kind-of-free One name = refl
kind-of-free Long name = refl
kind-of-free Str name = refl
kind-of-free Bytes name = refl

name-of-free : (kind : Kind) (name : List ℕ) → name_of_call (free_of kind name) ≡ name
name-of-free One name = refl
name-of-free Long name = refl
name-of-free Str name = refl
name-of-free Bytes name = refl

-- it asks for no entry
asks-for-none : (kind : Kind) (name : List ℕ) (b : Blocks) (w : ℕ) → asks_at b w (free_of kind name) ≡ false
asks-for-none One name b w = refl
asks-for-none Long name b w = refl
asks-for-none Str name b w = refl
asks-for-none Bytes name b w = refl

-- and leaves none
emptied : (kind : Kind) (name : List ℕ) (a b : Blocks) (w x : ℕ) (r : Reply) → AnswersAt a w (free_of kind name) r b x
    → content_at (kind_of_call (free_of kind name)) b x ≡ []
emptied One name a b w x r h = sym (ap (λ z. z.1) h)
emptied Long name a b w x r h = sym (ap (λ z. z.1) h)
emptied Str name a b w x r h = sym (ap (λ z. z.1) h)
emptied Bytes name a b w x r h = sym (ap (λ z. z.1) h)

-- a call that is such a call
pub record Frees (c : Call) : Type 0 where
  pub kind : Kind
  pub name : List ℕ
  pub is : c ≡ free_of kind name

module _ {c : Call} (f : Frees c) where
  pub asks-nothing : (b : Blocks) (w : ℕ) → asks_at b w c ≡ false
  asks-nothing b w = ap (asks_at b w) f.is ∙ asks-for-none f.kind f.name b w

  pub empties : (a b : Blocks) (w x : ℕ) (r : Reply) → AnswersAt a w c r b x → content_at (kind_of_call c) b x ≡ []
  empties a b w x r = subst (λ d. AnswersAt a w d r b x → content_at (kind_of_call d) b x ≡ []) (sym f.is) (emptied f.kind f.name a b w x r)

  -- so it takes no block
  pub takes-none : (b : Blocks) (w : ℕ) → blocks_of_call b w c ≡ 0
  takes-none b w = ap (λ asks. cond asks (blocks_of_kind (kind_of_call c)) 0) (asks-nothing b w)

  -- the key of the array
  pub free-key : (t : ℕ) → spot_of t f.kind f.name ≡ key_of_call t c
  free-key t =
      ap (λ j. spot_of t j f.name) (sym (ap kind_of_call f.is ∙ kind-of-free f.kind f.name))
      ∙ ap (spot_of t (kind_of_call c)) (sym (ap name_of_call f.is ∙ name-of-free f.kind f.name))

-- ---- quotas

-- the quotas of a table are few
pub few-quotas : (ts : List Tenant) → AreLimited ts → (t : ℕ) → ((quotas_of ts t).entries ≤ 16777216) × ((quotas_of ts t).pieces ≤ 2113929216)
few-quotas ts h t = by (nat_lt t (length ts)) refl
  where
    there : Tenant → t < length ts → ((quotas_of ts t).entries ≤ 16777216) × ((quotas_of ts t).pieces ≤ 2113929216)
    there d l =
        let e = get_or-map (λ (r : Tenant). r.quota) ts t d no_quota l in
        let few = h t d l in (
          subst (λ q. q.entries ≤ 16777216) (sym e) few.entries,
          subst (λ q. q.pieces ≤ 2113929216) (sym e) few.pieces,
        )

    by : (b : _) → nat_lt t (length ts) ≡ b → ((quotas_of ts t).entries ≤ 16777216) × ((quotas_of ts t).pieces ≤ 2113929216)
    by true e = there (record { name = []; digest = []; others = no_others; quota = no_quota; journal = None; frozen = None }) (ltb-true t (length ts) e)
    by false e =
        let past = get_or_past (map (λ (r : Tenant). r.quota) ts) t no_quota (subst (λ n. n ≤ t) (sym (length-map ts (λ (r : Tenant). r.quota))) (ltb-false t (length ts) e)) in (
          subst (λ q. q.entries ≤ 16777216) (sym past) (omega arith),
          subst (λ q. q.pieces ≤ 2113929216) (sym past) (omega arith),
        )

-- ---- one array

-- what is known before an array of a tenant is freed
pub record FreesAt (H : List ℕ → ℕ) (tenants : List Tenant) (old : Stock) (t : ℕ) (c : Call) (key : List ℕ) : Type 0 where
  pub laws : KindLaws H
  pub adds : CallsAddOne
  pub stocked : IsStocked H tenants old
  pub known : t < length tenants
  pub limited : AreLimited tenants
  pub frees : Frees c
  pub key_is : key ≡ key_of_call t c

-- kind and name of the key were read from it, and the call was made of them
pub frees-at : {H : List ℕ → ℕ} {tenants : List Tenant} (old : Stock) (t : ℕ) {c : Call} {key : List ℕ} → KindLaws H → CallsAddOne → IsStocked H tenants old
    → t < length tenants → AreLimited tenants → (parts : Kind × List ℕ) → spot_of t parts.0 parts.1 ≡ key → c ≡ free_of parts.0 parts.1
    → FreesAt H tenants old t c key
frees-at old t laws adds s known limited parts read made =
    let f : Frees _ = record { kind = parts.0; name = parts.1; is = made } in
    record {
      laws = laws;
      adds = adds;
      stocked = s;
      known = known;
      limited = limited;
      frees = f;
      key_is = sym read ∙ free-key f t;
    }

module _ {H : List ℕ → ℕ} {tenants : List Tenant} {old : Stock} {t : ℕ} {c : Call} {key : List ℕ} (m : FreesAt H tenants old t c key) where
  -- few pieces are at the key
  pub few-there : (at old.directory.0 key).pieces < 9223372036854775808
  few-there =
      let within : (at old.directory.0 (key_of_call t c)).pieces ≤ pieces (state_in old.arena.blocks old.directory.0 t)
      = pieces-within m.laws (kind_of_call c) old.arena.blocks old.directory.0 t (name_of_call c) m.stocked.held in
      let here : (at old.directory.0 key).pieces ≡ (at old.directory.0 (key_of_call t c)).pieces = ap (λ (n : List ℕ). (at old.directory.0 n).pieces) m.key_is in
      let e : account_pieces old.accounts.items t ≡ pieces (state_in old.arena.blocks old.directory.0 t) = m.stocked.pieces t in
      let q : account_pieces old.accounts.items t ≤ (quotas_of tenants t).pieces = m.stocked.pieces_within t in
      let few = (few-quotas tenants m.limited t).1 in
      omega (arith, within, here, e, q, few)

  module _ (new : Stock) (answer : Answered) (z : IsExchange H key c old new answer)
      (takes : Takes (blocks_of_call old.arena.blocks (at old.directory.0 key).root c) old.arena new.arena) where
    x : IsExchange H (key_of_call t c) c old new answer
    x = subst (λ (n : List ℕ). IsExchange H n c old new answer) m.key_is z

    way : HasWay (asks_at old.arena.blocks (at old.directory.0 (key_of_call t c)).root c)
        (has_room (quotas_of tenants t) (state_in old.arena.blocks old.directory.0 t) c)
    way = inl (asks-nothing m.frees old.arena.blocks (at old.directory.0 (key_of_call t c)).root)

    -- the tenant's account can be updated
    pub can-free : (accounts : List Account) → accounts ≡ new.accounts.items → CanSettle t accounts answer
    can-free accounts same =
        let es : entries_at accounts t ≡ used (state_in old.arena.blocks old.directory.0 t)
        = ap (λ l. entries_at l t) (same ∙ z.accounts) ∙ m.stocked.entries t in
        let ps : account_pieces accounts t ≡ pieces (state_in old.arena.blocks old.directory.0 t)
        = ap (λ l. account_pieces l t) (same ∙ z.accounts) ∙ m.stocked.pieces t in
        let few = few-quotas tenants m.limited t in
        let few_entries = few.0 in let few_pieces = few.1 in
        let before_e = before-entries m.laws m.stocked t c m.known answer x m.adds way in let before_p = before-pieces m.laws m.stocked t c m.known answer x m.adds way in
        let moved_e = used-moved m.laws m.stocked t c m.known answer x m.adds way in let moved_p = pieces-moved m.laws m.stocked t c m.known answer x m.adds way in
        let fits_e = used-fits m.laws m.stocked t c m.known answer x m.adds way in let fits_p = pieces-fit m.laws m.stocked t c m.known answer x m.adds way in
        record {
          entries_before = omega (arith, es, before_e);
          pieces_before = omega (arith, ps, before_p);
          entries_after = omega (arith, es, moved_e, fits_e, few_entries);
          pieces_after = omega (arith, ps, moved_p, fits_p, few_pieces);
        }

    -- nothing else changed, once the account is updated
    pub only-freed : old.arena.live ≤ old.arena.peak → (last : Stock) → last.arena ≡ new.arena → last.directory.0 ≡ new.directory.0
        → last.directory.1 ≡ new.directory.1 → last.unplaced ≡ new.unplaced → last.granted ≡ new.granted → AreFreed (λ u. u ≢ t) old last
    only-freed live last arena places footing unplaced granted =
        let rise : Takes 0 old.arena new.arena = subst (λ n. Takes n old.arena new.arena) (takes-none m.frees old.arena.blocks (at old.directory.0 key).root) takes in
        let most = rise.region in let kept = rise.kept in let peak = rise.peak in let rises = rise.rises in
        record {
          states = λ u h. ap (λ a. state_in a.blocks last.directory.0 u) arena ∙ ap (λ d. state_in new.arena.blocks d u) places
              ∙ others-rest m.laws m.stocked t c m.known answer x m.adds way u h;
          sizes = λ u h. ap (λ a. sizes_in a.blocks last.directory.0 u) arena ∙ ap (λ d. sizes_in new.arena.blocks d u) places
              ∙ other-sizes-rest m.laws m.stocked t c m.known answer x m.adds way u h;
          refusals = ap (λ a. a.refusals) arena ∙ z.refusals;
          region = ap (λ a. a.region) arena ∙ omega (arith, most, kept);
          reserved = ap (λ a. a.reserved) arena ∙ rise.reserved;
          peak = ap (λ a. a.peak) arena ∙ omega (arith, peak, rises, live);
          footing = footing ∙ z.footing;
          unplaced = unplaced ∙ z.unplaced;
          granted = granted ∙ z.granted;
        }

    -- and the service is sound
    pub freed-stocked : (accounts : List Account) → accounts ≡ new.accounts.items → (settled : List Account) → length settled ≡ length accounts
        → entries_at settled t + answer.before.entries ≡ entries_at accounts t + answer.after.entries
        → account_pieces settled t + answer.before.pieces ≡ account_pieces accounts t + answer.after.pieces
        → ((u : ℕ) → u ≢ t → entries_at settled u ≡ entries_at accounts u)
        → ((u : ℕ) → u ≢ t → account_pieces settled u ≡ account_pieces accounts u)
        → IsServer H new.arena.blocks new.directory.0 settled tenants
    freed-stocked accounts same settled many entries sizes other_entries other_sizes =
        let are : accounts ≡ old.accounts.items = same ∙ z.accounts in
        settled-stock m.laws m.stocked t c m.known answer x m.adds way settled (many ∙ ap length are)
        (entries ∙ ap (λ l. entries_at l t + answer.after.entries) are) (sizes ∙ ap (λ l. account_pieces l t + answer.after.pieces) are)
        (λ u h. other_entries u h ∙ ap (λ l. entries_at l u) are) (λ u h. other_sizes u h ∙ ap (λ l. account_pieces l u) are)

-- the accounts once they were written back
pub take-written : (n : ℕ) (settled items : List Account) → n ≡ length settled → take n (settled ++ drop (length settled) items) ≡ settled
take-written n settled items many = ap (λ m. take m (settled ++ drop (length settled) items)) many ∙ take-append_seam settled (drop (length settled) items)

-- ---- all arrays of a tenant

-- a tenant without names has no arrays
module _ (b : Blocks) (d : Places) (t : ℕ) (none : (kind : Kind) (name : List ℕ) → get d (spot_of t kind name) ≡ None) where
  nothing-listed : (kind : Kind) → arrays_at kind (state_in b d t) ≡ []
  nothing-listed kind = by (arrays_at kind (state_in b d t)) found
    where
      found : (m : List ℕ) → find string_order m (arrays_at kind (state_in b d t)) ≡ None
      found m = ap (find string_order m) (arrays_at-state_in kind b d t) ∙ find-arrays_of (content_at kind) (owner_byte t kind) b d m
          ∙ ap (option_map (λ (p : Stand). content_at kind b p.root)) (none kind m)

      by : (l : Arrays (KeyOf kind)) → ((m : List ℕ) → find string_order m l ≡ None) → l ≡ []
      by [] h = refl
      by (a ∷ l) h = absurd (none-some a.1 (sym (h a.0) ∙ ap (λ r. cond r (Some a.1) (find string_order a.0 l)) (string_is a.0 a.0 refl)))

  pub no-names : state_in b d t ≡ no_arrays
  no-names =
      ap (λ l. record (state_in b d t) { one = l }) (nothing-listed One)
      ∙ ap (λ l. record { one = []; long = l; string = (state_in b d t).string; bytes = (state_in b d t).bytes }) (nothing-listed Long)
      ∙ ap (λ l. record { one = []; long = []; string = l; bytes = (state_in b d t).bytes }) (nothing-listed Str)
      ∙ ap (λ l. record { one = []; long = []; string = []; bytes = l }) (nothing-listed Bytes)
