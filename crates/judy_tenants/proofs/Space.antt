-- The number of words of all blocks, by the pieces of all tenants.
--     space-in           at most 16 words for each piece, at least 4 for each array; none without
--                        arrays
use Rattle.std.proofs.Common.{◌≡◌, ℕ, zero, suc, ◌+◌, ◌*◌, ◌≤◌, ◌<◌, Bool, true, false, cond, ◌==◌, List, [], ◌∷◌, Some, None, ap, sym, ◌∙◌, refl, subst, arith}
use Rattle.std.proofs.lemmas.Bool.Decides.{nat_tests}
use Rattle.std.proofs.lemmas.List.Sums.{sum_by-cons}
use Rattle.std.specs.Prelude.{nat_lt}
use Rattle.std.specs.FinMap.{find, entries, len, get-entries}
use Rattle.judy_arena.specs.Blocks.{Blocks, ArenaState, no_blocks, total_words}
use Rattle.judy_arena.specs.Totals.{TotalsOver}
use Rattle.judy_arena.proofs.lemmas.BlockLaws.{itself}
use Rattle.judy_model.specs.Contents.{Entries, string_order}
use Rattle.judy_model.specs.Pieces.{pieces_of}
use Rattle.judy_model.specs.Tenant.{Arrays, no_arrays, content_of, pieces_in, pieces}
use Rattle.judy_model.specs.Service.{States, all_pieces}
use Rattle.judy_directory.specs.Places.{Stand, at, with_place}
use Rattle.judy_directory.specs.Kinds.{owner_byte, spot_of}
use Rattle.judy_model.specs.declared.commands.Kind.{Kind}
use Rattle.judy_model.specs.declared.commands.Kind.TheVariants.{One, Long, Str, Bytes}
use Rattle.judy_directory.specs.Shelf.{Places, pick, picked}
use Rattle.judy_words.specs.OneArrays.{one_in}
use Rattle.judy_words.specs.LongArrays.{long_in}
use Rattle.judy_string.specs.StringArrays.{string_in}
use Rattle.judy_bytes.specs.BytesArrays.{bytes_in}
use Rattle.judy_kinds.specs.Kinds.{kind_at, kind_of_key, IsPlaceOf, pieces_at}
use Rattle.judy_kinds.specs.Laws.{IsSmall}
use Rattle.judy_tenants.specs.States.{state_in, IsHeld}
use Rattle.judy_tenants.proofs.Owners.{kind_at-owner_byte, tenant_of, owned_byte}
use Rattle.judy_tenants.specs.Growth.{KindLaws}
use Rattle.judy_tenants.specs.Accounts.{IsOwned}
use Rattle.judy_tenants.proofs.StateLaws.{Change, content_at, size_at, arrays_at, only, named-in, no_places, no_place, nothing-in, others-in, unnamed-in}
use Rattle.judy_tenants.proofs.Numbers.{Placed, AreArrays, all_counted, head_found, tail_found, tail, found_place, found_sound}
use Rattle.judy_tenants.proofs.Numbers.{are_arrays, words-most, words-least}

-- all blocks have at most 16 words for each piece, and at least 4 for each array
pub record IsCompact (n : ℕ) (b : Blocks) (d : Places) : Type 0 where
  pub most : total_words b ≤ 16 * all_pieces n (state_in b d)
  pub least : 4 * len d ≤ total_words b

-- the key belongs to a tenant below n
abbrev pub Belongs : ℕ → List ℕ → Type 0
Belongs n k = (t : ℕ) × (t < n) × (kind : Kind) × (name : List ℕ) × (k ≡ spot_of t kind name)

-- ---- one more place

-- the pieces of all tenants at these places
abbrev pub states_at : Blocks → Placed → States
states_at b es t = record {
  one = picked (one_in b) (owner_byte t One) es;
  long = picked (long_in b) (owner_byte t Long) es;
  string = picked (string_in b) (owner_byte t Str) es;
  bytes = picked (bytes_in b) (owner_byte t Bytes) es;
}

module _ {K : Type 0} (content : ℕ → Entries K) (size : K → ℕ) (o : ℕ) where
  pieces_in-cons : (name : List ℕ) (l : Entries K) (more : Arrays K) → pieces_in size ((name, l) ∷ more) ≡ pieces_of size l + pieces_in size more
  pieces_in-cons name l more = sum_by-cons (λ (a : List ℕ × Entries K). pieces_of size a.1) (name, l) more

  -- one more place removes no pieces
  pick_more : (s : List ℕ) (p : Stand) (more : Arrays K) → pieces_in size more ≤ pieces_in size (pick content o s p more)
  pick_more [] p more = omega arith
  pick_more (byte ∷ name) p more = by (o == byte)
    where
      by : (r : Bool) → pieces_in size more ≤ pieces_in size (cond r ((name, content p.root) ∷ more) more)
      by true = let e = pieces_in-cons name (content p.root) more in omega (arith, e)
      by false = omega arith

  -- it adds its own pieces
  pick_own : (name : List ℕ) (p : Stand) (more : Arrays K)
      → pieces_in size (pick content o (o ∷ name) p more) ≡ pieces_of size (content p.root) + pieces_in size more
  pick_own name p more = ap (λ r. pieces_in size (cond r ((name, content p.root) ∷ more) more)) (itself o) ∙ pieces_in-cons name (content p.root) more

module _ (b : Blocks) where
  -- the pieces of a tenant's arrays of one kind
  abbrev kind_pieces : Kind → ℕ → Placed → ℕ
  kind_pieces kind t es = pieces_in (size_at kind) (picked (content_at kind b) (owner_byte t kind) es)

  kind_more : (kind : Kind) (t : ℕ) (e : List ℕ × Stand) (es : Placed) → kind_pieces kind t es ≤ kind_pieces kind t (e ∷ es)
  kind_more kind t e es = pick_more (content_at kind b) (size_at kind) (owner_byte t kind) e.0 e.1 (picked (content_at kind b) (owner_byte t kind) es)

  kind_own : (kind : Kind) (t : ℕ) (name : List ℕ) (p : Stand) (es : Placed)
      → kind_pieces kind t ((spot_of t kind name, p) ∷ es) ≡ pieces_of (size_at kind) (content_at kind b p.root) + kind_pieces kind t es
  kind_own kind t name p es = pick_own (content_at kind b) (size_at kind) (owner_byte t kind) name p (picked (content_at kind b) (owner_byte t kind) es)

  -- the pieces of all its arrays
  more_pieces : (e : List ℕ × Stand) (es : Placed) (t : ℕ) → pieces (states_at b es t) ≤ pieces (states_at b (e ∷ es) t)
  more_pieces e es t = omega (arith, kind_more One t e es, kind_more Long t e es, kind_more Str t e es, kind_more Bytes t e es)

  own_pieces : (kind : Kind) (t : ℕ) (name : List ℕ) (p : Stand) (es : Placed)
      → pieces (states_at b es t) + pieces_at kind b p.root ≤ pieces (states_at b ((spot_of t kind name, p) ∷ es) t)
  own_pieces One t name p es = let e : List ℕ × Stand = (spot_of t One name, p) in
      omega (arith, kind_own One t name p es, kind_more Long t e es, kind_more Str t e es, kind_more Bytes t e es)
  own_pieces Long t name p es = let e : List ℕ × Stand = (spot_of t Long name, p) in
      omega (arith, kind_more One t e es, kind_own Long t name p es, kind_more Str t e es, kind_more Bytes t e es)
  own_pieces Str t name p es = let e : List ℕ × Stand = (spot_of t Str name, p) in
      omega (arith, kind_more One t e es, kind_more Long t e es, kind_own Str t name p es, kind_more Bytes t e es)
  own_pieces Bytes t name p es = let e : List ℕ × Stand = (spot_of t Bytes name, p) in
      omega (arith, kind_more One t e es, kind_more Long t e es, kind_more Str t e es, kind_own Bytes t name p es)

  -- the pieces of all tenants below n
  all_more : (n : ℕ) (e : List ℕ × Stand) (es : Placed) → all_pieces n (states_at b es) ≤ all_pieces n (states_at b (e ∷ es))
  all_more zero e es = omega arith
  all_more (suc n) e es = let rest = all_more n e es in let here = more_pieces e es n in omega (arith, rest, here)

  all_own : (n : ℕ) (kind : Kind) (t : ℕ) (name : List ℕ) (p : Stand) (es : Placed) → t < n
      → all_pieces n (states_at b es) + pieces_at kind b p.root ≤ all_pieces n (states_at b ((spot_of t kind name, p) ∷ es))
  all_own zero kind t name p es h = absurd (omega arith)
  all_own (suc n) kind t name p es h = by (all_own n kind t name p es) (t == n) refl
    where
      equal : (x y : ℕ) → (x == y) ≡ true → x ≡ y
      equal x y e = grind (arith, nat_tests)

      less : (x y : ℕ) → (x == y) ≡ false → x < suc y → x < y
      less x y e i = grind (arith, nat_tests)

      by : (t < n → all_pieces n (states_at b es) + pieces_at kind b p.root ≤ all_pieces n (states_at b ((spot_of t kind name, p) ∷ es)))
          → (r : Bool) → (t == n) ≡ r
          → all_pieces (suc n) (states_at b es) + pieces_at kind b p.root ≤ all_pieces (suc n) (states_at b ((spot_of t kind name, p) ∷ es))
      by more true e =
          let rest = all_more n (spot_of t kind name, p) es in
          let here : pieces (states_at b es n) + pieces_at kind b p.root ≤ pieces (states_at b ((spot_of t kind name, p) ∷ es) n)
          = subst (λ u. pieces (states_at b es u) + pieces_at kind b p.root ≤ pieces (states_at b ((spot_of t kind name, p) ∷ es) u))
          (equal t n e) (own_pieces kind t name p es) in
          omega (arith, rest, here)
      by more false e =
          let rest = more (less t n e h) in
          let here = more_pieces (spot_of t kind name, p) es n in
          omega (arith, rest, here)

-- ---- all places

module _ {H : List ℕ → ℕ} (laws : KindLaws H) {n : ℕ} {b : Blocks} {d : Places} (shelf : IsHeld H b d) (owned : IsOwned n b d) where
  -- each place belongs to a tenant below n
  pub belongs : (k : List ℕ) (p : Stand) → find string_order k (entries d) ≡ Some p → Belongs n k
  belongs [] p h = absurd (unlike p (sym (get-entries d [] ∙ h) ∙ owned.rooted))
    where
      unlike : (p : Stand) → Some p ≡ None → ⊥
      unlike p e = cc
  belongs (byte ∷ name) p h = (tenant_of byte, below (nat_lt (tenant_of byte) n) refl, kind_at byte, name, key)
    where
      key : byte ∷ name ≡ spot_of (tenant_of byte) (kind_at byte) name
      key = ap (λ x. x ∷ name) (owned_byte byte)

      not_less : (x y : ℕ) → nat_lt x y ≡ false → y ≤ x
      not_less x y e = grind (arith, nat_tests)

      less : (x y : ℕ) → nat_lt x y ≡ true → x < y
      less x y e = grind (arith, nat_tests)

      -- a tenant from n on has no arrays
      empty : (kind : Kind) (m : List ℕ) → content_of (arrays_at kind no_arrays) m ≡ []
      empty One m = refl
      empty Long m = refl
      empty Str m = refl
      empty Bytes m = refl

      root : n ≤ tenant_of byte → p.root ≡ 0
      root i =
          let place : at d (spot_of (tenant_of byte) (kind_at byte) name) ≡ p = ap (at d) (sym key) ∙ found_place laws shelf (byte ∷ name) p h in
          let nothing_there : content_at (kind_at byte) b p.root ≡ []
          = ap (λ x. content_at (kind_at byte) b x.root) (sym place) ∙ sym (named-in laws (kind_at byte) b d (tenant_of byte) name)
          ∙ ap (λ s. content_of (arrays_at (kind_at byte) s) name) (owned.outside (tenant_of byte) i) ∙ empty (kind_at byte) name in
          only laws (kind_at byte) b p.root (found_sound laws shelf (byte ∷ name) p h).0.sound nothing_there

      below : (r : Bool) → nat_lt (tenant_of byte) n ≡ r → tenant_of byte < n
      below true e = less (tenant_of byte) n e
      below false e = absurd ((found_sound laws shelf (byte ∷ name) p h).1 (root (not_less (tenant_of byte) n e)))

  -- the pieces of the arrays are the pieces of the tenants
  counted : (es : Placed) → AreArrays H b es → ((k : List ℕ) (p : Stand) → find string_order k es ≡ Some p → Belongs n k)
      → all_counted es ≤ all_pieces n (states_at b es)
  counted [] h g = omega arith
  counted (e ∷ es) h g =
      let rest = counted es (tail e es h) (λ k p i. g k p (tail_found e es h.rise k p i)) in
      let w : Belongs n e.0 = g e.0 e.1 (head_found e es h.rise) in
      let place : IsPlaceOf H w.2 b e.1
      = subst (λ k. IsPlaceOf H k b e.1) (kind_at-owner_byte w.0 w.2)
      (subst (λ k. IsPlaceOf H (kind_of_key k) b e.1) w.4 (h.sound e.0 e.1 (head_found e es h.rise)).0) in
      let here : all_pieces n (states_at b es) + pieces_at w.2 b e.1.root ≤ all_pieces n (states_at b (e ∷ es))
      = subst (λ k. all_pieces n (states_at b es) + pieces_at w.2 b e.1.root ≤ all_pieces n (states_at b ((k, e.1) ∷ es))) (sym w.4)
      (all_own b n w.2 w.0 w.3 e.1 es w.1) in
      let pieces : e.1.pieces ≡ pieces_at w.2 b e.1.root = place.pieces in
      omega (arith, rest, here, pieces)

  -- at most 16 words for each piece, and at least 4 for each array
  pub space-in : ((kind : Kind) (p : Stand) → IsPlaceOf H kind b p → IsSmall kind b p) → TotalsOver → IsCompact n b d
  space-in small totals = record {
    most = (let words = words-most laws shelf small totals in let all = counted (entries d) (are_arrays laws shelf) belongs in omega (arith, words, all));
    least = words-least laws shelf small totals;
  }

-- ---- only tenants below n have arrays

-- this holds of no arrays
pub owned-none : {H : List ℕ → ℕ} → KindLaws H → (n : ℕ) → IsOwned n no_blocks no_places
owned-none laws n = record { rooted = no_place []; outside = λ t h. nothing-in laws no_blocks t }

-- it still holds after an array of one of them changes
pub owned-in : {H : List ℕ → ℕ} (laws : KindLaws H) {a c : ArenaState} {d : Places} {t : ℕ} {kind : Kind} {name : List ℕ} {q : Stand} (n : ℕ)
    → Change H a c d t kind name q → t < n → IsOwned n a.blocks d → IsOwned n c.blocks (with_place d (spot_of t kind name) q)
owned-in laws {d = d} {t = t} {kind = kind} {name = name} {q = q} n x below owned = record {
  rooted = unnamed-in d t kind name q owned.rooted;
  outside = λ u h. others-in laws x u (λ e. absurd (omega arith)) ∙ owned.outside u h;
}
