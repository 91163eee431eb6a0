-- One call of one tenant, answered or refused, as contracts see it.
use Rattle.std.proofs.Common.{◌≡◌, ◌≢◌, ◌⊎◌, ◌≤◌, ◌<◌, ◌+◌, ◌&&◌, ℕ, Bool, true, false, cond, not, inl, inr, List, map, length, ap}
use Rattle.std.proofs.Common.{sym, ◌∙◌, refl, subst, arith, Some, None}
use Rattle.std.specs.Prelude.{MatchBool}
use Rattle.std.specs.List.{slice_get}
use Rattle.std.specs.FinMap.{get}
use Rattle.judy_arena.specs.Blocks.{ArenaState}
use Rattle.judy_arena.specs.Takes.{Takes}
use Rattle.judy_arena.proofs.lemmas.TakeLaws.{takes-more}
use Rattle.judy_model.specs.declared.calls.Call.{Call}
use Rattle.judy_model.specs.declared.calls.Call.TheVariants as call
use Rattle.judy_model.specs.declared.quotas.Quota.{Quota}
use Rattle.judy_model.specs.declared.quotas.Right.{Right}
use Rattle.judy_model.specs.declared.replies.Reply.{Reply}
use Rattle.judy_model.specs.declared.replies.Reply.TheVariants as reply
use Rattle.judy_model.specs.Tenant.{State, used, pieces, changes, inserts, is_read_only, asks_for_new, has_room, allowed_step}
use Rattle.judy_model.specs.Solo.{IsAnswered, StepHasMemory}
use Rattle.judy_model.specs.WellFormed.{FullIsForNew, LooksKeepAll}
use Rattle.judy_model.specs.Service.{IsServed}
use Rattle.judy_model.specs.Speakers.{Event}
use Rattle.judy_directory.specs.Places.{at}
use Rattle.judy_directory.specs.Kinds.{spot_of}
use Rattle.judy_table.specs.declared.tenant.Tenant.{Tenant}
use Rattle.judy_kinds.specs.Kinds.{IsPlaceOf, kind_of_key}
use Rattle.judy_kinds.specs.Calls.{kind_of_call, name_of_call, asks_at, blocks_of_kind, blocks_of_call}
use Rattle.judy_kinds.specs.Laws.{InsertionsAloneAsk}
use Rattle.judy_model.specs.declared.commands.Kind.{Kind}
use Rattle.judy_model.specs.declared.commands.Kind.TheVariants.{One, Long, Str, Bytes}
use Rattle.judy_tenants.specs.declared.accounts.Account.{Account}
use Rattle.judy_tenants.specs.declared.stock.Stock.{Stock}
use Rattle.judy_tenants.specs.declared.stock.Answered.{Answered}
use Rattle.judy_tenants.specs.Held.{Held, states_of, quotas_of, NamesNothing, IsQuiet, IsShortService, IsUnplaced, HasCause, Keeps, blocks_of_event}
use Rattle.judy_tenants.proofs.Steps.{HasWay}
use Rattle.judy_tenants.specs.States.{state_in, sizes_in, key_of_call}
use Rattle.judy_tenants.proofs.Owners.{kind_at-owner_byte}
use Rattle.judy_tenants.specs.Growth.{KindLaws, CallsAddOne}
use Rattle.judy_tenants.proofs.StateLaws.{place-in, asks-in, full-in, absent-in, pieces-within}
use Rattle.judy_tenants.specs.Accounts.{entries_at, account_pieces, has_room_in, IsServer}
use Rattle.judy_tenants.specs.Stocks.{held_of, IsStocked, IsExchange, IsRefusedIn, IsShortIn, IsUnplacedIn}
use Rattle.judy_tenants.proofs.Counts.{quota-read}
use Rattle.judy_tenants.proofs.Seen.{seen-state, seen-sizes, seen-served}
use Rattle.judy_tenants.proofs.Rooms.{room-is, way-of, full-of, room-of}
use Rattle.judy_tenants.proofs.Answers.{answered-allowed, answered-nowhere, asks-nowhere, not-memory, asks-under, not-refused}
use Rattle.judy_tenants.proofs.Exchanges.{own-step, others-rest, other-sizes-rest, before-entries, before-pieces, used-moved, pieces-moved}
use Rattle.judy_tenants.proofs.Exchanges.{used-fits, pieces-fit, settled-stock, refused-stock, refused-rest, refused-sizes}

-- what is known before a call is answered
pub record Premises (H : List ℕ → ℕ) (tenants : List Tenant) (old : Stock) (t : ℕ) (right : Right) (c : Call) (quota : Quota) (account : Account) : Type 0 where
  pub stocked : IsStocked H tenants old
  pub known : t < length tenants
  pub allowed : is_read_only right c ≡ false
  pub quota_is : slice_get (map (λ tenant. tenant.quota) tenants) t ≡ Some quota
  pub few_entries : quota.entries ≤ 16777216
  pub few_pieces : quota.pieces ≤ 2113929216
  pub entries : account.entries ≡ entries_at old.accounts.items t
  pub pieces : account.pieces ≡ account_pieces old.accounts.items t
  pub laws : KindLaws H
  pub adds : CallsAddOne
  pub insertions : InsertionsAloneAsk
  pub memory : StepHasMemory
  pub full : FullIsForNew
  pub looks : LooksKeepAll

-- a call is done: what contracts see of the service before and after it
pub record Ends (H : List ℕ → ℕ) (tenants : List Tenant) (old new : Stock) (event : Event) (r : Reply) : Type 0 where
  pub stocked : IsStocked H tenants new
  pub served : IsServed (quotas_of tenants) (states_of (held_of tenants old)) event r (states_of (held_of tenants new))
  pub cause : HasCause event (held_of tenants old) r (held_of tenants new)
  pub keeps : Keeps event (held_of tenants old) r (held_of tenants new)

-- what holds at the key of a call
pub record AtKey (H : List ℕ → ℕ) (old : Stock) (c : Call) (key : List ℕ) : Type 0 where
  pub place : IsPlaceOf H (kind_of_call c) old.arena.blocks (at old.directory.0 key)
  pub kind : kind_of_key key ≡ kind_of_call c
  pub few : (at old.directory.0 key).pieces < 9223372036854775808

-- the tenant's account can be updated
pub record CanSettle (t : ℕ) (accounts : List Account) (answer : Answered) : Type 0 where
  pub entries_before : answer.before.entries ≤ entries_at accounts t
  pub pieces_before : answer.before.pieces ≤ account_pieces accounts t
  pub entries_after : entries_at accounts t + answer.after.entries < answer.before.entries + 18446744073709551616
  pub pieces_after : account_pieces accounts t + answer.after.pieces < answer.before.pieces + 18446744073709551616

-- a service in which nothing changed is unchanged as a whole
pub whole-keeps : (event : Event) (held : Held) (r : Reply) → Keeps event held r held
whole-keeps event held r = record {
  tenants = refl;
  start = refl;
  room = refl;
  granted = refl;
  refused = λ h. refl;
  whole = λ h. refl;
  memory = record { words = omega arith; peak = omega arith; rises = omega arith; region = omega arith; kept = omega arith; reserved = refl; refused = inl refl };
  others = λ u h. refl;
}

-- the key that the code builds is the call's key
pub key-is : (tenant t : ℕ) (kind k : Kind) (copied name n : List ℕ) (spot : List ℕ) → spot ≡ spot_of tenant kind copied
    → tenant ≡ t → kind ≡ k → copied ≡ name → name ≡ n
    → spot ≡ spot_of t k n
key-is tenant t kind k copied name n spot e f g h i = e ∙ ap (λ u. spot_of u kind copied) f ∙ ap (λ j. spot_of t j copied) g ∙ ap (spot_of t k) (h ∙ i)

module _ {H : List ℕ → ℕ} {tenants : List Tenant} {old : Stock} {t : ℕ} {right : Right} {c : Call} {quota : Quota}
    {account : Account} (m : Premises H tenants old t right c quota account) where
  -- the call, as definitions see it
  abbrev event : Event
  event = record { speaker = record { tenant = t; right = right }; call = c }

  abbrev was : State
  was = state_in old.arena.blocks old.directory.0 t

  -- from what holds of the parts to what contracts see
  served : (new : Stock) → IsStocked H tenants new → (r : Reply) → IsAnswered (quotas_of tenants t) was
      (record { right = right; call = c }) r (state_in new.arena.blocks new.directory.0 t)
      → ((u : ℕ) → u ≢ t → state_in new.arena.blocks new.directory.0 u ≡ state_in old.arena.blocks old.directory.0 u)
      → IsServed (quotas_of tenants) (states_of (held_of tenants old)) event r (states_of (held_of tenants new))
  served new n r a others = seen-served tenants old new m.stocked n (quotas_of tenants) event r (record { answered = a; others = others })

  -- the quota that was read is the tenant's quota
  quota-is : quotas_of tenants t ≡ quota
  quota-is = quota-read tenants t quota m.quota_is

  -- the reply to a call that names no array, or two
  pub whole-served : (r : Reply) → allowed_step quota was c ≡ (r, was)
      → IsServed (quotas_of tenants) (states_of (held_of tenants old)) event r (states_of (held_of tenants old))
  whole-served r told = served old m.stocked r (answered-allowed m.memory (quotas_of tenants t) was was right c r m.allowed
      (ap (λ q. allowed_step q was c) quota-is ∙ told)) (λ u h. refl)

  module _ {key : List ℕ} (k : key ≡ key_of_call t c) where
    -- the place at the key leads to an array of the call's kind
    place-at-key : IsPlaceOf H (kind_of_call c) old.arena.blocks (at old.directory.0 key)
    place-at-key = subst (λ (n : List ℕ). IsPlaceOf H (kind_of_call c) old.arena.blocks (at old.directory.0 n)) (sym k)
        (place-in m.laws (kind_of_call c) old.arena.blocks old.directory.0 t (name_of_call c) m.stocked.held)

    kind-at-key : kind_of_key key ≡ kind_of_call c
    kind-at-key = ap kind_of_key k ∙ kind_at-owner_byte t (kind_of_call c)

    few-at-key : (at old.directory.0 key).pieces < 9223372036854775808
    few-at-key =
        let w : (at old.directory.0 (key_of_call t c)).pieces ≤ pieces was = pieces-within m.laws (kind_of_call c) old.arena.blocks
        old.directory.0 t (name_of_call c) m.stocked.held in
        let p : (at old.directory.0 key).pieces ≡ (at old.directory.0 (key_of_call t c)).pieces = ap (λ (n : List ℕ). (at old.directory.0 n).pieces) k in
        let e : account_pieces old.accounts.items t ≡ pieces was = m.stocked.pieces t in
        let f : account_pieces old.accounts.items t ≤ (quotas_of tenants t).pieces = m.stocked.pieces_within t in
        let q : (quotas_of tenants t).pieces ≡ quota.pieces = ap (λ (z : Quota). z.pieces) quota-is in
        let h : quota.pieces ≤ 2113929216 = m.few_pieces in
        omega (arith, w, p, e, f, q, h)

    pub at-key : AtKey H old c key
    at-key = record { place = place-at-key; kind = kind-at-key; few = few-at-key }

    -- what the array is asked for, by its key
    asks-are : asks_at old.arena.blocks (at old.directory.0 key).root c ≡ asks_at old.arena.blocks (at old.directory.0 (key_of_call t c)).root c
    asks-are = ap (λ (n : List ℕ). asks_at old.arena.blocks (at old.directory.0 n).root c) k

    -- a call that asks for a new entry by the array does so by the state
    asking : asks_at old.arena.blocks (at old.directory.0 (key_of_call t c)).root c ≡ true → asks_for_new right was c ≡ true
    asking asked = asks-under right was c m.allowed changing (sym (asks-in m.laws old.arena.blocks old.directory.0 t c) ∙ asked)
      where
        unlike : false ≡ true → ⊥
        unlike h = cc

        changing : changes c ≡ true
        changing = elim (inserts c) as (λ b. inserts c ≡ b → changes c ≡ true) [
          | true ↦ λ h. (m.insertions old.arena.blocks (at old.directory.0 (key_of_call t c)).root c).1 h
          | false ↦ λ h. absurd (unlike (sym ((m.insertions old.arena.blocks (at old.directory.0 (key_of_call t c)).root c).0 h) ∙ asked))
        ] refl

    -- so a call that does not by the state does not by the array
    not-asking : asks_for_new right (states_of (held_of tenants old) t) c ≡ false → asks_at old.arena.blocks (at old.directory.0 key).root c ≡ false
    not-asking h = asks-are ∙ elim (asks_at old.arena.blocks (at old.directory.0 (key_of_call t c)).root c)
        as (λ b. asks_at old.arena.blocks (at old.directory.0 (key_of_call t c)).root c ≡ b → b ≡ false) [
          | true ↦ λ e. absurd (unlike (sym h ∙ ap (λ (s : State). asks_for_new right s c) (seen-state tenants old m.stocked t) ∙ asking e))
          | false ↦ λ e. refl
        ] refl
      where
        unlike : false ≡ true → ⊥
        unlike e = cc

    -- the blocks that it takes by the array are at most those by the state
    few-blocks : blocks_of_call old.arena.blocks (at old.directory.0 key).root c ≤ blocks_of_event (states_of (held_of tenants old) t) event
    few-blocks = by (asks_for_new right (states_of (held_of tenants old) t) c) refl
      where
        few : (b : Bool) (n : ℕ) → cond {A = ℕ} b n 0 ≤ n
        few true n = omega arith
        few false n = omega arith

        none : (b : Bool) (n : ℕ) → b ≡ false → cond {A = ℕ} b n 0 ≤ 0
        none true n e = cc
        none false n e = omega arith

        by : (a : Bool) → asks_for_new right (states_of (held_of tenants old) t) c ≡ a
            → blocks_of_call old.arena.blocks (at old.directory.0 key).root c ≤ cond {A = ℕ} a (blocks_of_kind (kind_of_call c)) 0
        by true e = few (asks_at old.arena.blocks (at old.directory.0 key).root c) (blocks_of_kind (kind_of_call c))
        by false e = none (asks_at old.arena.blocks (at old.directory.0 key).root c) (blocks_of_kind (kind_of_call c)) (not-asking e)

    -- what the arena takes, as contracts see it
    takes-are : (last : ArenaState) → Takes (blocks_of_call old.arena.blocks (at old.directory.0 key).root c) old.arena last
        → Takes (blocks_of_event (states_of (held_of tenants old) t) event) old.arena last
    takes-are last h = takes-more _ _ old.arena last few-blocks h

    -- the account has room exactly if the tenant has
    room-are : has_room_in account quota c ≡ has_room (quotas_of tenants t) was c
    room-are = room-is tenants old m.stocked t quota account m.quota_is m.entries m.pieces c

    -- a call that is refused for the quota
    pub full-served : (full : Bool) → full ≡ (asks_at old.arena.blocks (at old.directory.0 key).root c && not (has_room_in account quota c)) → full ≡ true
        → IsServed (quotas_of tenants) (states_of (held_of tenants old)) event reply.Full (states_of (held_of tenants old))
    full-served full e so =
        let f = full-of (asks_at old.arena.blocks (at old.directory.0 key).root c) (has_room_in account quota c) (sym e ∙ so) in
        served old m.stocked reply.Full
        (answered-allowed m.memory (quotas_of tenants t) was was right c reply.Full m.allowed
        (full-in m.laws (quotas_of tenants t) c old.arena.blocks old.directory.0 t m.stocked.held (sym asks-are ∙ f.0) (sym room-are ∙ f.1)))
        (λ u h. refl)

    -- a call that is not refused for the quota
    module _ (full : Bool)
        (e : full ≡ (asks_at old.arena.blocks (at old.directory.0 key).root c && not (has_room_in account quota c)))
        (free : full ≡ false) where
      way : HasWay (asks_at old.arena.blocks (at old.directory.0 (key_of_call t c)).root c) (has_room (quotas_of tenants t) was c)
      way =
          subst (λ a. HasWay a (has_room (quotas_of tenants t) was c)) asks-are
          (subst (λ r. HasWay (asks_at old.arena.blocks (at old.directory.0 key).root c) r) room-are
          (way-of (asks_at old.arena.blocks (at old.directory.0 key).root c) (has_room_in account quota c) (sym e ∙ free)))

      -- it is refused for memory
      module _ (new : Stock) (y : IsRefusedIn key c old new)
          (takes : Takes (blocks_of_call old.arena.blocks (at old.directory.0 key).root c) old.arena new.arena) where
        asked : asks_at old.arena.blocks (at old.directory.0 (key_of_call t c)).root c ≡ true
        asked = sym asks-are ∙ y.asked

        short-stocked : IsStocked H tenants new
        short-stocked = refused-stock m.stocked key c y

        short-served : IsServed (quotas_of tenants) (states_of (held_of tenants old)) event reply.Memory (states_of (held_of tenants new))
        short-served = served new short-stocked reply.Memory (
          (
            asking asked,
            room-of (asks_at old.arena.blocks (at old.directory.0 (key_of_call t c)).root c) (has_room (quotas_of tenants t) was c) way asked,
          ),
          refused-rest m.stocked key c y t,
        )
            (λ u h. refused-rest m.stocked key c y u)

        -- the array that the call names has no entries if it has no place
        none-at : (d : Call) → d ≡ c → get old.directory.0 (key_of_call t d) ≡ None → NamesNothing was d
        none-at (call.One name f) i h = absent-in m.laws One old.arena.blocks old.directory.0 t name h
        none-at (call.Long name f) i h = absent-in m.laws Long old.arena.blocks old.directory.0 t name h
        none-at (call.Str name f) i h = absent-in m.laws Str old.arena.blocks old.directory.0 t name h
        none-at (call.Bytes name f) i h = absent-in m.laws Bytes old.arena.blocks old.directory.0 t name h
        none-at (call.Intersect name other x n) i h =
            absurd (let no : false ≡ true = ap (λ d. asks_at old.arena.blocks (at old.directory.0 (key_of_call t c)).root d) i ∙ asked in cc)
        none-at (call.Names from n) i h =
            absurd (let no : false ≡ true = ap (λ d. asks_at old.arena.blocks (at old.directory.0 (key_of_call t c)).root d) i ∙ asked in cc)
        none-at call.Used i h = absurd (unlike (ap (λ d. asks_at old.arena.blocks (at old.directory.0 (key_of_call t c)).root d) i ∙ asked))
          where
            unlike : false ≡ true → ⊥
            unlike h = cc

        -- a refusal for memory is no other refusal, and the call names an array
        short-keeps : Keeps event (held_of tenants old) reply.Memory (held_of tenants new)
        short-keeps = record {
          tenants = refl;
          start = ap (λ f. f.start) y.footing;
          room = ap (λ f. f.room) y.footing;
          granted = y.granted;
          refused = λ h. absurd (unlike h);
          whole = λ h. absurd (unlike (sym (asks-nowhere c h old.arena.blocks (at old.directory.0 (key_of_call t c)).root) ∙ asked));
          memory = takes-are new.arena takes;
          others = λ u h. seen-sizes tenants new short-stocked u ∙ refused-sizes m.stocked key c y u ∙ sym (seen-sizes tenants old m.stocked u);
        }
          where
            unlike : false ≡ true → ⊥
            unlike h = cc

        short-cause : HasCause event (held_of tenants old) reply.Memory (held_of tenants new)
        short-cause = by y.cause
          where
            by : IsShortIn old new ⊎ IsUnplacedIn key old new → IsShortService (held_of tenants old) (held_of tenants new)
                ⊎ IsUnplaced event (held_of tenants old) (held_of tenants new)
            by (inl h) = inl (record { refusals = h.refusals; unplaced = h.unplaced })
            by (inr h) = inr (record {
              refusals = h.refusals;
              unplaced = h.unplaced;
              many = h.many;
              empty = subst (λ (z : State). NamesNothing z c) (sym (seen-state tenants old m.stocked t))
                  (none-at c refl (subst (λ (n : List ℕ). get old.directory.0 n ≡ None) k h.absent));
            })

        pub short : Ends H tenants old new event reply.Memory
        short = record { stocked = short-stocked; served = short-served; cause = short-cause; keeps = short-keeps }

      -- it is answered
      module _ (new : Stock) (answer : Answered) (z : IsExchange H key c old new answer) where
        x : IsExchange H (key_of_call t c) c old new answer
        x = subst (λ (n : List ℕ). IsExchange H n c old new answer) k z

        -- the tenant's account can be updated
        module _ (accounts : List Account) (same : accounts ≡ new.accounts.items) where
          accounts-are : accounts ≡ old.accounts.items
          accounts-are = same ∙ z.accounts

          entries-had : entries_at accounts t ≡ used was
          entries-had = ap (λ l. entries_at l t) accounts-are ∙ m.stocked.entries t

          pieces-had : account_pieces accounts t ≡ pieces was
          pieces-had = ap (λ l. account_pieces l t) accounts-are ∙ m.stocked.pieces t

          entries-before : answer.before.entries ≤ entries_at accounts t
          entries-before = subst (λ n. answer.before.entries ≤ n) (sym entries-had) (before-entries m.laws m.stocked t c m.known answer x m.adds way)

          pieces-before : answer.before.pieces ≤ account_pieces accounts t
          pieces-before = subst (λ n. answer.before.pieces ≤ n) (sym pieces-had) (before-pieces m.laws m.stocked t c m.known answer x m.adds way)

          entries-after : entries_at accounts t + answer.after.entries < answer.before.entries + 18446744073709551616
          entries-after =
              let e = entries-had in
              let moved = used-moved m.laws m.stocked t c m.known answer x m.adds way in
              let fits = used-fits m.laws m.stocked t c m.known answer x m.adds way in
              let q : (quotas_of tenants t).entries ≡ quota.entries = ap (λ (v : Quota). v.entries) quota-is in
              let h : quota.entries ≤ 16777216 = m.few_entries in
              omega (arith, e, moved, fits, q, h)

          pieces-after : account_pieces accounts t + answer.after.pieces < answer.before.pieces + 18446744073709551616
          pieces-after =
              let e = pieces-had in
              let moved = pieces-moved m.laws m.stocked t c m.known answer x m.adds way in
              let fits = pieces-fit m.laws m.stocked t c m.known answer x m.adds way in
              let q : (quotas_of tenants t).pieces ≡ quota.pieces = ap (λ (v : Quota). v.pieces) quota-is in
              let h : quota.pieces ≤ 2113929216 = m.few_pieces in
              omega (arith, e, moved, fits, q, h)

          pub can-settle : CanSettle t accounts answer
          can-settle = record {
            entries_before = entries-before;
            pieces_before = pieces-before;
            entries_after = entries-after;
            pieces_after = pieces-after;
          }

          -- then the service is sound
          pub settled-stocked : (settled : List Account) → length settled ≡ length accounts
              → entries_at settled t + answer.before.entries ≡ entries_at accounts t + answer.after.entries
              → account_pieces settled t + answer.before.pieces ≡ account_pieces accounts t + answer.after.pieces
              → ((u : ℕ) → u ≢ t → entries_at settled u ≡ entries_at accounts u)
              → ((u : ℕ) → u ≢ t → account_pieces settled u ≡ account_pieces accounts u)
              → IsServer H new.arena.blocks new.directory.0 settled tenants
          settled-stocked settled many entries sizes other_entries other_sizes =
              settled-stock m.laws m.stocked t c m.known answer x m.adds way settled (many ∙ ap length accounts-are)
              (entries ∙ ap (λ l. entries_at l t + answer.after.entries) accounts-are) (sizes ∙ ap (λ l. account_pieces l t + answer.after.pieces) accounts-are)
              (λ u h. other_entries u h ∙ ap (λ l. entries_at l u) accounts-are) (λ u h. other_sizes u h ∙ ap (λ l. account_pieces l u) accounts-are)

        -- the service as contracts see it
        module _ (takes : Takes (blocks_of_call old.arena.blocks (at old.directory.0 key).root c) old.arena new.arena)
            (last : Stock) (n : IsStocked H tenants last) (arena : last.arena ≡ new.arena)
            (places : last.directory.0 ≡ new.directory.0) (footing : last.directory.1 ≡ new.directory.1)
            (unplaced : last.unplaced ≡ new.unplaced) (granted : last.granted ≡ new.granted) where
          same-state : (u : ℕ) → state_in last.arena.blocks last.directory.0 u ≡ state_in new.arena.blocks new.directory.0 u
          same-state u = ap (λ a. state_in a.blocks last.directory.0 u) arena ∙ ap (λ d. state_in new.arena.blocks d u) places

          same-sizes : (u : ℕ) → sizes_in last.arena.blocks last.directory.0 u ≡ sizes_in new.arena.blocks new.directory.0 u
          same-sizes u = ap (λ a. sizes_in a.blocks last.directory.0 u) arena ∙ ap (λ d. sizes_in new.arena.blocks d u) places

          answered-served : IsServed (quotas_of tenants) (states_of (held_of tenants old)) event answer.reply (states_of (held_of tenants last))
          answered-served = served last n answer.reply
              (answered-allowed m.memory (quotas_of tenants t) was (state_in last.arena.blocks last.directory.0 t) right c answer.reply m.allowed
              (own-step m.laws m.stocked t c m.known answer x m.adds way ∙ ap (λ (v : State). (answer.reply, v)) (sym (same-state t))))
              (λ u h. same-state u ∙ others-rest m.laws m.stocked t c m.known answer x m.adds way u h)

          answered-cause : HasCause event (held_of tenants old) answer.reply (held_of tenants last)
          answered-cause =
              subst (λ b. MatchBool b (IsShortService (held_of tenants old) (held_of tenants last) ⊎ IsUnplaced event
              (held_of tenants old) (held_of tenants last)) (IsQuiet (held_of tenants old) (held_of tenants last)))
              (sym (not-memory m.memory (quotas_of tenants t) was (state_in new.arena.blocks new.directory.0 t) c answer.reply
              (own-step m.laws m.stocked t c m.known answer x m.adds way)))
              (record { refusals = ap (λ a. a.refusals) arena ∙ z.refusals; unplaced = unplaced ∙ z.unplaced })

          -- a call that was answered was not refused, and names an array
          answered-keeps : Keeps event (held_of tenants old) answer.reply (held_of tenants last)
          answered-keeps = record {
            tenants = refl;
            start = ap (λ f. f.start) (footing ∙ z.footing);
            room = ap (λ f. f.room) (footing ∙ z.footing);
            granted = granted ∙ z.granted;
            refused = λ h. absurd (not-refused m.full m.looks (quotas_of tenants t) was
                (state_in new.arena.blocks new.directory.0 t) right c answer.reply m.allowed
                (own-step m.laws m.stocked t c m.known answer x m.adds way)
                (subst (λ b. HasWay b (has_room (quotas_of tenants t) was c)) (asks-in m.laws old.arena.blocks old.directory.0 t c) way) h);
            whole = λ h. absurd (answered-nowhere c h old.arena.blocks answer.before.root answer.reply new.arena.blocks answer.after.root z.step);
            memory = takes-are last.arena
                (subst (Takes (blocks_of_call old.arena.blocks (at old.directory.0 key).root c) old.arena) (sym arena) takes);
            others = λ u h. seen-sizes tenants last n u ∙ same-sizes u
                ∙ other-sizes-rest m.laws m.stocked t c m.known answer x m.adds way u h ∙ sym (seen-sizes tenants old m.stocked u);
          }

          pub answered : Ends H tenants old last event answer.reply
          answered = record { stocked = n; served = answered-served; cause = answered-cause; keeps = answered-keeps }
