-- Freeing the arrays of the tenants that are marked.
--     freed-place                 a place after the call that frees its array
--     FreesNext                   what is known before an array is freed; below it, what holds then
--                                 and afterwards
--     frees-next                  what is known before the array of the next name is freed
--     freed-more                  then no array of another tenant was freed
--     unmarked                    a marked tenant has no arrays once its names are forgotten
--     marked-known, stays-unmarked    what a mark says
--     freed-beside                what was freed beside fewer tenants
--     all-gone                    a tenant that does not stay has no arrays once those of marked ones were freed
use Rattle.std.proofs.Common.{◌≡◌, ◌≢◌, ℕ, ◌+◌, ◌≤◌, ◌<◌, ◌&&◌, Bool, true, false, not, List, ◌∷◌, length}
use Rattle.std.proofs.Common.{get_or, ap, sym, ◌∙◌, refl, subst, nat_lt}
use Rattle.std.specs.Prelude.{unwrap_or}
use Rattle.std.specs.FinMap.{get, remove, retain_keys}
use Rattle.std.proofs.lemmas.Bool.{false≢true, ltb-true, ltb-false}
use Rattle.judy_arena.specs.Blocks.{Blocks, ArenaState}
use Rattle.judy_arena.specs.Takes.{Takes}
use Rattle.judy_model.specs.declared.calls.Call.{Call}
use Rattle.judy_model.specs.declared.replies.Reply.{Reply}
use Rattle.judy_model.specs.Pieces.{word_pieces, string_pieces, pieces_of}
use Rattle.judy_model.specs.Tenant.{no_arrays}
use Rattle.judy_model.specs.declared.commands.Kind.{Kind}
use Rattle.judy_model.specs.declared.commands.Kind.TheVariants.{One, Long, Str, Bytes}
use Rattle.judy_directory.specs.Kinds.{spot_of, is_gone, is_staying}
use Rattle.judy_directory.specs.Places.{Stand, at, nothing, with_place}
use Rattle.judy_directory.specs.Shelf.{Places}
use Rattle.judy_directory.proofs.lemmas.Left.{gone-of, gone-none, is_left, left-here}
use Rattle.judy_table.specs.declared.tenant.Tenant.{Tenant}
use Rattle.judy_table.specs.Tenants.{AreLimited}
use Rattle.judy_words.specs.OneArrays.{one_in}
use Rattle.judy_words.specs.LongArrays.{long_in}
use Rattle.judy_string.specs.StringArrays.{string_in}
use Rattle.judy_bytes.specs.BytesArrays.{bytes_in}
use Rattle.judy_kinds.specs.Calls.{kind_of_call, blocks_of_call, AnswersAt, ArrayBecomes}
use Rattle.judy_kinds.specs.Kinds.{kind_of_key, entries_of, pieces_at, IsPlaceOf}
use Rattle.judy_kinds.specs.Laws.{HoldsNothing}
use Rattle.judy_tenants.specs.declared.accounts.Account.{Account}
use Rattle.judy_tenants.specs.declared.stock.Stock.{Stock}
use Rattle.judy_tenants.specs.declared.stock.Answered.{Answered}
use Rattle.judy_tenants.specs.Accounts.{entries_at, account_pieces, IsServer}
use Rattle.judy_tenants.specs.Frees.{free_of, AreFreed, AreFreedIn}
use Rattle.judy_tenants.specs.Growth.{KindLaws, CallsAddOne}
use Rattle.judy_tenants.specs.States.{state_in}
use Rattle.judy_tenants.specs.Stocks.{IsStocked, IsExchange}
use Rattle.judy_tenants.proofs.CallsServed.{CanSettle}
use Rattle.judy_tenants.proofs.Frees.{Frees, FreesAt, frees-at, kind-of-free, empties, takes-none, few-there, can-free, only-freed, freed-stocked, no-names}
use Rattle.judy_tenants.proofs.Owners.{kind_at-owner_byte}
use Rattle.judy_tenants.proofs.StateLaws.{only}

-- ---- the call that frees an array

-- a place without a root is none
none-there : (kind : Kind) (b : Blocks) → HoldsNothing b 0 → entries_of kind b 0 ≡ 0
none-there One b h = ap length h.set
none-there Long b h = ap length h.map
none-there Str b h = ap length h.string
none-there Bytes b h = ap length h.bytes

no-pieces : (kind : Kind) (b : Blocks) → HoldsNothing b 0 → pieces_at kind b 0 ≡ 0
no-pieces One b h = ap (pieces_of word_pieces) h.set
no-pieces Long b h = ap (pieces_of word_pieces) h.map
no-pieces Str b h = ap (pieces_of string_pieces) h.string
no-pieces Bytes b h = ap (pieces_of string_pieces) h.bytes

no-place : {H : List ℕ → ℕ} (kind : Kind) (b : Blocks) (p : Stand) → HoldsNothing b 0 → IsPlaceOf H kind b p → p.root ≡ 0 → p ≡ nothing
no-place kind b p none h root =
    let entries : p.entries ≡ 0 = h.entries ∙ ap (entries_of kind b) root ∙ none-there kind b none in
    let pieces : p.pieces ≡ 0 = h.pieces ∙ ap (pieces_at kind b) root ∙ no-pieces kind b none in
    λ i. record { root = root i; entries = entries i; pieces = pieces i }

-- the place after the call
pub freed-place : {H : List ℕ → ℕ} → KindLaws H → (kind : Kind) (name : List ℕ) (c : Call) → c ≡ free_of kind name → (a b : ArenaState) (p q : Stand) (r : Reply)
    → ArrayBecomes H (kind_of_call c) a p b q → AnswersAt a.blocks p.root c r b.blocks q.root → ArrayBecomes H kind a p b nothing
freed-place {H} laws kind name c made a b p q r became step =
    let f : Frees c = record { kind = kind; name = name; is = made } in
    let root : q.root ≡ 0 = only laws (kind_of_call c) b.blocks q.root became.place.sound (empties f a.blocks b.blocks p.root q.root r step) in
    let same : q ≡ nothing = no-place (kind_of_call c) b.blocks q (laws.empties b.blocks).0 became.place root in
    subst (λ k. ArrayBecomes H k a p b nothing) (ap kind_of_call made ∙ kind-of-free kind name)
    (subst (λ (s : Stand). ArrayBecomes H (kind_of_call c) a p b s) same became)

-- a pair by its second part
told : {A B : Type 0} (x : A × B) (y : B) → x.1 ≡ y → (r : A) × (x ≡ (r, y))
told x y e = (x.0, ap (λ z. (x.0, z)) e)

-- there is a reply that leads there
reply-to-free : (kind : Kind) (name : List ℕ) (a b : Blocks) (w : ℕ) → HoldsNothing b 0 → (r : Reply) × AnswersAt a w (free_of kind name) r b 0
reply-to-free One name a b w h = told _ (one_in b 0) (sym h.set)
reply-to-free Long name a b w h = told _ (long_in b 0) (sym h.map)
reply-to-free Str name a b w h = told _ (string_in b 0) (sym h.string)
reply-to-free Bytes name a b w h = told _ (bytes_in b 0) (sym h.bytes)

-- ---- one array

-- what is known before the array of the next name is freed
pub record FreesNext (H : List ℕ → ℕ) (tenants : List Tenant) (old : Stock) (t : ℕ) (key : List ℕ) (kind : Kind) (name : List ℕ) (p : Stand) : Type 0 where
  pub laws : KindLaws H
  pub adds : CallsAddOne
  pub limited : AreLimited tenants
  pub stocked : IsStocked H tenants old
  pub known : t < length tenants
  pub read : spot_of t kind name ≡ key
  pub found : p ≡ at old.directory.0 key

module _ {H : List ℕ → ℕ} {tenants : List Tenant} {old : Stock} {t : ℕ} {key : List ℕ} {kind : Kind} {name : List ℕ} {p : Stand}
    (n : FreesNext H tenants old t key kind name p) where
  freeing : FreesAt H tenants old t (free_of kind name) key
  freeing = frees-at old t n.laws n.adds n.stocked n.known n.limited (kind, name) n.read refl

  -- the place leads to an array
  pub place-next : IsPlaceOf H kind old.arena.blocks p
  place-next =
      let same : kind_of_key key ≡ kind = ap kind_of_key (sym n.read) ∙ kind_at-owner_byte t kind in
      subst (λ (q : Stand). IsPlaceOf H kind old.arena.blocks q) (sym n.found)
      (subst (λ k. IsPlaceOf H k old.arena.blocks (at old.directory.0 key)) same (n.stocked.held.sound key))

  -- with few pieces
  pub few-next : p.pieces < 9223372036854775808
  few-next = subst (λ (q : Stand). q.pieces < 9223372036854775808) (sym n.found) (few-there freeing)

  module _ (arena : ArenaState) (became : ArrayBecomes H kind old.arena p arena nothing) (refusals : arena.refusals ≡ old.arena.refusals)
      (takes : Takes 0 old.arena arena) where
    -- the stock without the array and its name, before its account is settled
    abbrev pub stock-next : Stock
    stock-next = record old { arena = arena; directory = (with_place old.directory.0 key nothing, old.directory.1) }

    pub reply : (r : Reply) × AnswersAt old.arena.blocks p.root (free_of kind name) r arena.blocks 0
    reply = reply-to-free kind name old.arena.blocks arena.blocks p.root (n.laws.empties arena.blocks).0

    abbrev pub answer-next : Answered
    answer-next = record { reply = reply.0; before = p; after = nothing }

    exchanged : IsExchange H key (free_of kind name) old stock-next answer-next
    exchanged = record {
      before = n.found;
      places = refl;
      footing = refl;
      array = subst (λ k. ArrayBecomes H k old.arena p arena nothing) (sym (kind-of-free kind name)) became;
      step = reply.1;
      refusals = refusals;
      unplaced = refl;
      granted = refl;
      accounts = refl;
    }

    took : Takes (blocks_of_call old.arena.blocks (at old.directory.0 key).root (free_of kind name)) old.arena arena
    took = subst (λ m. Takes m old.arena arena) (sym (takes-none freeing.frees old.arena.blocks (at old.directory.0 key).root)) takes

    -- the account can be settled
    pub can-next : (accounts : List Account) → accounts ≡ old.accounts.items → CanSettle t accounts answer-next
    can-next = can-free freeing stock-next answer-next exchanged took

    -- no array of another tenant was freed
    pub freed-next : old.arena.live ≤ old.arena.peak → AreFreed (λ u. u ≢ t) old stock-next
    freed-next live = only-freed freeing stock-next answer-next exchanged took live stock-next refl refl refl refl refl

    -- and without the name the service is sound
    pub stocked-next : (accounts : List Account) → accounts ≡ old.accounts.items → (settled : List Account) → length settled ≡ length accounts
        → entries_at settled t + p.entries ≡ entries_at accounts t + 0 → account_pieces settled t + p.pieces ≡ account_pieces accounts t + 0
        → ((u : ℕ) → u ≢ t → entries_at settled u ≡ entries_at accounts u)
        → ((u : ℕ) → u ≢ t → account_pieces settled u ≡ account_pieces accounts u)
        → IsServer H arena.blocks (remove old.directory.0 key) settled tenants
    stocked-next = freed-stocked freeing stock-next answer-next exchanged took

-- ---- the names that are left

-- the next name is that of a marked tenant
pub marked-next : (gone : List Bool) (t : ℕ) (parts : Kind × List ℕ) (key : List ℕ) → spot_of t parts.0 parts.1 ≡ key → is_gone gone key ≡ true
    → get_or gone t false ≡ true
marked-next gone t parts key read leaves = sym (gone-of gone t parts.0 parts.1) ∙ ap (is_gone gone) read ∙ leaves

-- no other tenant is it
pub others-next : (gone : List Bool) (t : ℕ) → get_or gone t false ≡ true → (u : ℕ) → get_or gone u false ≡ false → u ≢ t
others-next gone t marked u h e = false≢true (sym h ∙ ap (λ v. get_or gone v false) e ∙ marked)

-- what is known of the next name, if the names that are left are those that stay or are still to come
pub frees-next : {H : List ℕ → ℕ} {tenants : List Tenant} (stock : Stock) (gone : List Bool) (d : Places) (names rest : List (List ℕ)) (key : List ℕ) (t : ℕ)
    (parts : Kind × List ℕ) (p : Stand) → stock.directory.0 ≡ retain_keys d (is_left gone (key ∷ rest)) → KindLaws H → CallsAddOne → AreLimited tenants
    → IsServer H stock.arena.blocks (retain_keys d (is_left gone names)) stock.accounts.items tenants → names ≡ key ∷ rest
    → t < length tenants → spot_of t parts.0 parts.1 ≡ key → p ≡ at d key → FreesNext H tenants stock t key parts.0 parts.1 p
frees-next {H} {tenants} stock gone d names rest key t parts p left laws adds limited s next known read found = record {
  laws = laws;
  adds = adds;
  limited = limited;
  stocked = subst (λ m. IsServer H stock.arena.blocks m stock.accounts.items tenants) (sym left)
      (subst (λ ks. IsServer H stock.arena.blocks (retain_keys d (is_left gone ks)) stock.accounts.items tenants) next s);
  known = known;
  read = read;
  found = found ∙ ap (λ o. unwrap_or o nothing) (sym (ap (λ m. get m key) left ∙ left-here gone d key rest));
}

-- ---- all of them

-- no array of another tenant was freed
pub freed-more : {stay : ℕ → Type 0} {a : ArenaState} {d : Places} {old new : Stock} (t : ℕ) → AreFreedIn stay a d old.arena old.directory.0
    → AreFreed (λ u. u ≢ t) old new → ((u : ℕ) → stay u → u ≢ t) → AreFreedIn stay a d new.arena new.directory.0
freed-more t so_far next others = record {
  states = λ u h. next.states u (others u h) ∙ so_far.states u h;
  sizes = λ u h. next.sizes u (others u h) ∙ so_far.sizes u h;
  refusals = next.refusals ∙ so_far.refusals;
  region = next.region ∙ so_far.region;
  reserved = next.reserved ∙ so_far.reserved;
  peak = next.peak ∙ so_far.peak;
}

-- a marked tenant has no arrays once its names are forgotten
pub unmarked : (b : Blocks) (d : Places) (gone : List Bool) (t : ℕ) → get_or gone t false ≡ true → state_in b (retain_keys d (is_staying gone)) t ≡ no_arrays
unmarked b d gone t marked = no-names b (retain_keys d (is_staying gone)) t (λ kind name.
    gone-none gone d (spot_of t kind name) (gone-of gone t kind name ∙ marked))

-- a mark is that of a place of the table
pub marked-known : (t n : ℕ) (mark stays : Bool) → mark ≡ (nat_lt t n && not stays) → mark ≡ true → t < n
marked-known t n mark stays is marked = ltb-true t n (by (nat_lt t n) (sym is ∙ marked))
  where
    by : (x : Bool) → (x && not stays) ≡ true → x ≡ true
    by true h = refl
    by false h = h

-- a tenant that stays has no mark
pub stays-unmarked : (below mark stays : Bool) → mark ≡ (below && not stays) → stays ≡ true → mark ≡ false
stays-unmarked true mark stays is h = is ∙ ap not h
stays-unmarked false mark stays is h = is

-- what was freed beside fewer tenants
pub freed-beside : {stay spared : ℕ → Type 0} {old new : Stock} → ((t : ℕ) → stay t → spared t) → AreFreed spared old new → AreFreed stay old new
freed-beside are freed = record {
  states = λ t h. freed.states t (are t h);
  sizes = λ t h. freed.sizes t (are t h);
  refusals = freed.refusals;
  region = freed.region;
  reserved = freed.reserved;
  peak = freed.peak;
  footing = freed.footing;
  unplaced = freed.unplaced;
  granted = freed.granted;
}

-- one that does not stay has no arrays if those of marked tenants were freed
pub all-gone : {H : List ℕ → ℕ} {tenants : List Tenant} (stock : Stock) (mark stays : Bool) (t : ℕ)
    → IsStocked H tenants stock → mark ≡ (nat_lt t (length tenants) && not stays)
    → (mark ≡ true → state_in stock.arena.blocks stock.directory.0 t ≡ no_arrays) → stays ≡ false
    → state_in stock.arena.blocks stock.directory.0 t ≡ no_arrays
all-gone {H} {tenants} stock mark stays t s is gone leaves = by (nat_lt t (length tenants)) refl
  where
    by : (x : Bool) → nat_lt t (length tenants) ≡ x → state_in stock.arena.blocks stock.directory.0 t ≡ no_arrays
    by true e = gone (is ∙ ap (λ x. x && not stays) e ∙ ap not leaves)
    by false e = s.owned.outside t (ltb-false t (length tenants) e)
