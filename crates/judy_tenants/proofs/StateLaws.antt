-- How a change of one array affects the arrays of its tenant and those of the others.
--     Change H a c d t kind name q   the array of this tenant, kind and name is at q after the
--                                    change, and no block of another array changed
--     held-in                   the arrays of all tenants are still held
--     own-in, others-in         its tenant has the new array instead of the old; the other tenants'
--                               arrays are unchanged
--     other-sizes-in            and so are the words of each
--     asks-in, step-in, full-in      whether a call asks for a new entry, its reply and its refusal
--                                    are the same by the array and by the state
--     used-in, pieces-in        the tenant's numbers of entries and pieces change as those of the
--                               array do
--     used-within, pieces-within     the array's numbers are part of the tenant's
--     nothing-in, same-in       no arrays, and no change
use Rattle.std.proofs.Common.{◌≡◌, ◌≢◌, ℕ, ◌+◌, ◌≤◌, Bool, true, false, ◌==◌, ◌&&◌, ◌||◌, cond, List, [], ◌∷◌, length, Option, Some, None}
use Rattle.std.proofs.Common.{is_some, ap, sym, ◌∙◌, refl, subst, arith}
use Rattle.std.specs.Prelude.{unwrap_or, option_map}
use Rattle.std.specs.Ordering.{eq_by_cmp, nat_cmp}
use Rattle.std.specs.FinMap.{get, empty, get-empty, same_map, is_sorted}
use Rattle.std.specs.FinMap.Entries.{same_entries}
use Rattle.judy_arena.specs.Blocks.{Blocks, ArenaState, no_blocks, block, words_of}
use Rattle.judy_arena.specs.Frame.{Frame, holds, AreApart}
use Rattle.judy_arena.specs.Totals.{words_over}
use Rattle.judy_arena.proofs.lemmas.BlockLaws.{same_test, itself, words_over-cons}
use Rattle.judy_arena.proofs.lemmas.FrameLaws.{in-right}
use Rattle.judy_model.specs.declared.calls.Call.{Call}
use Rattle.judy_model.specs.declared.calls.Call.TheVariants as call
use Rattle.judy_model.specs.declared.quotas.Quota.{Quota}
use Rattle.judy_model.specs.declared.quotas.Right.TheVariants as right
use Rattle.judy_model.specs.declared.replies.Reply.{Reply}
use Rattle.judy_model.specs.declared.replies.Reply.TheVariants.{Full}
use Rattle.judy_model.specs.Contents.{Entries, word_order, string_order}
use Rattle.judy_tenants.specs.Growth.{KindLaws}
use Rattle.judy_model.specs.Pieces.{word_pieces, string_pieces, pieces_of}
use Rattle.judy_model.specs.Tenant.{Arrays, State, no_arrays, content_of, with_content, one_effect, long_effect, string_effect, bytes_effect, used, pieces, one_step, long_step, string_step, bytes_step}
use Rattle.judy_model.proofs.lemmas.StateLemmas.{entries_in-with_content, pieces_in-with_content}
use Rattle.judy_model.proofs.lemmas.TestLemmas.{from_T, not_both}
use Rattle.judy_model.proofs.lemmas.FormLemmas.{names_apart}
use Rattle.judy_directory.specs.Places.{Stand, at, nothing, some_stand, with_place}
use Rattle.judy_directory.specs.Kinds.{owner_byte, spot_of}
use Rattle.judy_model.specs.declared.commands.Kind.{Kind}
use Rattle.judy_model.specs.declared.commands.Kind.TheVariants.{One, Long, Str, Bytes}
use Rattle.judy_directory.specs.Shelf.{Places, arrays_of}
use Rattle.judy_directory.proofs.lemmas.Changes.{other, shelf-changed, total, get-with_place, at_other}
use Rattle.judy_directory.proofs.lemmas.Named.{own-changed, others-same, content-of, sorted-arrays_of, find-arrays_of, tied-cons}
use Rattle.judy_words.specs.OneArrays.{one_in}
use Rattle.judy_words.specs.LongArrays.{long_in}
use Rattle.judy_string.specs.StringArrays.{string_in}
use Rattle.judy_bytes.specs.BytesArrays.{bytes_in}
use Rattle.judy_kinds.specs.Kinds.{IsArrayOf, numbers_of_array, IsSameOf, entries_of, pieces_at, IsPlaceOf, IsPlaceAt, place_numbers, IsSameAt}
use Rattle.judy_kinds.specs.Calls.{kind_of_call, name_of_call, asks_at, AnswersAt, ArrayBecomes}
use Rattle.judy_tenants.specs.States.{state_in, words_at, sizes_by, sizes_in, IsHeld, key_of_call}
use Rattle.judy_tenants.proofs.Owners.{kind_at-owner_byte, tenants_apart, kinds_apart}
use Rattle.judy_tenants.proofs.Steps.{HasWay, effect_way, effect_full}
use Rattle.judy_model.specs.Tenant.{one_asks_for_new, long_asks_for_new, string_asks_for_new, bytes_asks_for_new, asks_for_new, has_room, allowed_step}
use Rattle.judy_model.proofs.lemmas.EntryLemmas.{same_string, string_is}

-- ---- an array of any kind, with its keys

-- the keys of a kind
abbrev pub KeyOf : Kind → Type 0
KeyOf One = ℕ
KeyOf Long = ℕ
KeyOf Str = List ℕ
KeyOf Bytes = List ℕ

-- the content of an array
abbrev pub content_at : (kind : Kind) → Blocks → ℕ → Entries (KeyOf kind)
content_at One b w = one_in b w
content_at Long b w = long_in b w
content_at Str b w = string_in b w
content_at Bytes b w = bytes_in b w

-- the pieces of a key
abbrev pub size_at : (kind : Kind) → KeyOf kind → ℕ
size_at One = word_pieces
size_at Long = word_pieces
size_at Str = string_pieces
size_at Bytes = string_pieces

-- a tenant's arrays of a kind
abbrev pub arrays_at : (kind : Kind) → State → Arrays (KeyOf kind)
arrays_at One s = s.one
arrays_at Long s = s.long
arrays_at Str s = s.string
arrays_at Bytes s = s.bytes

abbrev pub with_arrays : (kind : Kind) → State → Arrays (KeyOf kind) → State
with_arrays One s arrays = record s { one = arrays }
with_arrays Long s arrays = record s { long = arrays }
with_arrays Str s arrays = record s { string = arrays }
with_arrays Bytes s arrays = record s { bytes = arrays }

-- ---- the counts of a state with one array replaced

-- the names of each kind are sorted
abbrev pub AreSorted : State → Type 0
AreSorted s = (kind : Kind) → is_sorted string_order (arrays_at kind s) ≡ true

used-replaced : (kind : Kind) (s : State) (name : List ℕ) (l : Entries (KeyOf kind)) → AreSorted s
    → used (with_arrays kind s (with_content (arrays_at kind s) name l)) + length (content_of (arrays_at kind s) name) ≡ used s + length l
used-replaced One s name l h = let e = entries_in-with_content s.one name l (h One) in omega (arith, e)
used-replaced Long s name l h = let e = entries_in-with_content s.long name l (h Long) in omega (arith, e)
used-replaced Str s name l h = let e = entries_in-with_content s.string name l (h Str) in omega (arith, e)
used-replaced Bytes s name l h = let e = entries_in-with_content s.bytes name l (h Bytes) in omega (arith, e)

pieces-replaced : (kind : Kind) (s : State) (name : List ℕ) (l : Entries (KeyOf kind)) → AreSorted s
    → pieces (with_arrays kind s (with_content (arrays_at kind s) name l)) + pieces_of (size_at kind) (content_of (arrays_at kind s) name)
    ≡ pieces s + pieces_of (size_at kind) l
pieces-replaced One s name l h = let e = pieces_in-with_content word_pieces s.one name l (h One) in omega (arith, e)
pieces-replaced Long s name l h = let e = pieces_in-with_content word_pieces s.long name l (h Long) in omega (arith, e)
pieces-replaced Str s name l h = let e = pieces_in-with_content string_pieces s.string name l (h Str) in omega (arith, e)
pieces-replaced Bytes s name l h = let e = pieces_in-with_content string_pieces s.bytes name l (h Bytes) in omega (arith, e)

-- a part is at most the whole
within : (after part whole n : ℕ) → after + part ≡ whole + 0 → part ≡ n → n ≤ whole
within after part whole n e h = omega (arith, e, h)

-- a part that was replaced
moved : (after part whole more n m : ℕ) → after + part ≡ whole + more → part ≡ n → more ≡ m → after + n ≡ whole + m
moved after part whole more n m e h g = omega (arith, e, h, g)

-- from a reply with an array's content to a reply with the state
abbrev pub answered : (kind : Kind) → State → List ℕ → Reply × Entries (KeyOf kind) → Reply × State
answered kind s name z = (z.0, with_arrays kind s (with_content (arrays_at kind s) name z.1))

-- the array of this tenant, kind and name is at q after the change, and no block of another array
-- changed
pub record Change (H : List ℕ → ℕ) (a c : ArenaState) (d : Places) (t : ℕ) (kind : Kind) (name : List ℕ) (q : Stand) : Type 0 where
  pub shelf : IsHeld H a.blocks d
  pub became : ArrayBecomes H kind a (at d (spot_of t kind name)) c q

-- the definitions of judy_kinds, by kind
same_content : (kind : Kind) (a b : Blocks) (w : ℕ) → IsSameOf kind a b w → content_at kind b w ≡ content_at kind a w
same_content One a b w h = h
same_content Long a b w h = h
same_content Str a b w h = h
same_content Bytes a b w h = h

entries_are : (kind : Kind) (b : Blocks) (w : ℕ) → entries_of kind b w ≡ length (content_at kind b w)
entries_are One b w = refl
entries_are Long b w = refl
entries_are Str b w = refl
entries_are Bytes b w = refl

pieces_are : (kind : Kind) (b : Blocks) (w : ℕ) → pieces_at kind b w ≡ pieces_of (size_at kind) (content_at kind b w)
pieces_are One b w = refl
pieces_are Long b w = refl
pieces_are Str b w = refl
pieces_are Bytes b w = refl

-- a tenant's arrays of a kind are those whose keys have its byte
pub arrays_at-state_in : (kind : Kind) (b : Blocks) (d : Places) (t : ℕ)
    → arrays_at kind (state_in b d t) ≡ arrays_of (content_at kind) (owner_byte t kind) b d
arrays_at-state_in One b d t = refl
arrays_at-state_in Long b d t = refl
arrays_at-state_in Str b d t = refl
arrays_at-state_in Bytes b d t = refl

-- states with the same arrays are equal
abbrev state_of : Arrays ℕ → Arrays ℕ → Arrays (List ℕ) → Arrays (List ℕ) → State
state_of e f g h = record { one = e; long = f; string = g; bytes = h }

same_state : {e e' f f' : Arrays ℕ} {g g' h h' : Arrays (List ℕ)} → e ≡ e' → f ≡ f' → g ≡ g' → h ≡ h' → state_of e f g h ≡ state_of e' f' g' h'
same_state {e} {e'} {f} {f'} {g} {g'} {h} {h'} i j k l =
    ap (λ z. state_of z f g h) i ∙ ap (λ z. state_of e' z g h) j ∙ ap (λ z. state_of e' f' z h) k ∙ ap (λ z. state_of e' f' g' z) l

-- blocks of the same sizes have as many words
words_alike : (a c : Blocks) (ns : List ℕ) → ((i : ℕ) → holds i ns ≡ true → length (words_of c i) ≡ length (words_of a i)) → words_over c ns ≡ words_over a ns
words_alike a c [] h = refl
words_alike a c (n ∷ ns) h =
    words_over-cons c n ns ∙ ap (λ m. m + words_over c ns) (h n (ap (λ r. r || holds n ns) (itself n)))
    ∙ ap (λ m. length (words_of a n) + m) (words_alike a c ns (λ i j. h i (in-right i (n ∷ []) ns j))) ∙ sym (words_over-cons a n ns)

-- keys with other first bytes are apart
not_same : (o : ℕ) (m : List ℕ) (b : ℕ) (n : List ℕ) → (o == b) ≡ false → eq_by_cmp string_order (o ∷ m) (b ∷ n) ≡ false
not_same o m b n h = tied-cons o b m n ∙ ap (λ r. r && eq_by_cmp string_order m n) h

-- ---- places

-- an empty directory has no place
abbrev pub no_places : Places
no_places = empty

pub no_place : (k : List ℕ) → get no_places k ≡ None
no_place k = get-empty string_order k

-- writing back an optional place changes nothing
put_again : (g : Option Stand) → (is_some g ≡ true → (unwrap_or g nothing).root ≢ 0) → some_stand (unwrap_or g nothing) ≡ g
put_again None h = refl
put_again (Some p) h = elim (p.root == 0) as (λ r. (p.root == 0) ≡ r → cond r None (Some p) ≡ Some p) [
  | true ↦ λ e. absurd (h refl (same_test p.root 0 e))
  | false ↦ λ e. refl
] refl

-- a choice between equals
either : {A : Type 0} (b : Bool) (x y : A) → (b ≡ true → x ≡ y) → cond b x y ≡ y
either true x y h = h refl
either false x y h = refl

-- writing back the place at a key changes nothing
pub put_back : (d : Places) (k : List ℕ) → (is_some (get d k) ≡ true → (at d k).root ≢ 0) → with_place d k (at d k) ≡ d
put_back d k filled = same_map total names_apart (with_place d k (at d k)) d (λ m.
    get-with_place d k (at d k) m
    ∙ either (eq_by_cmp string_order m k) (some_stand (at d k)) (get d m) (λ e. put_again (get d k) filled ∙ ap (get d) (sym (same_string m k e))))

-- there is no array at the empty key: each call's key has a first byte
pub unnamed-in : (d : Places) (t : ℕ) (kind : Kind) (name : List ℕ) (q : Stand) → get d [] ≡ None → get (with_place d (spot_of t kind name) q) [] ≡ None
unnamed-in d t kind name q h = get-with_place d (spot_of t kind name) q [] ∙ h

-- ---- what holds of each kind

module _ {H : List ℕ → ℕ} (laws : KindLaws H) where
  pub none : (kind : Kind) (b : Blocks) → content_at kind b 0 ≡ []
  none One b = (laws.empties b).0.set
  none Long b = (laws.empties b).0.map
  none Str b = (laws.empties b).0.string
  none Bytes b = (laws.empties b).0.bytes

  pub only : (kind : Kind) (b : Blocks) (w : ℕ) → IsArrayOf H kind b w → content_at kind b w ≡ [] → w ≡ 0
  only One b w = ((laws.empties b).1 w).set
  only Long b w = ((laws.empties b).1 w).map
  only Str b w = ((laws.empties b).1 w).string
  only Bytes b w = ((laws.empties b).1 w).bytes

  -- the content of an array is the content at its place
  pub holds-in : (kind : Kind) (b : Blocks) (d : Places) (t : ℕ) (name : List ℕ)
      → content_of (arrays_of (content_at kind) (owner_byte t kind) b d) name ≡ content_at kind b (at d (spot_of t kind name)).root
  holds-in kind b d t name = content-of (content_at kind) (owner_byte t kind) b (none kind b) d name

  -- the place of an array is a sound place of its kind
  pub place-in : (kind : Kind) (b : Blocks) (d : Places) (t : ℕ) (name : List ℕ) → IsHeld H b d → IsPlaceOf H kind b (at d (spot_of t kind name))
  place-in kind b d t name shelf = subst (λ k. IsPlaceOf H k b (at d (spot_of t kind name))) (kind_at-owner_byte t kind) (shelf.sound (spot_of t kind name))

  -- the call asks for a new entry by the array exactly if it does by the state
  pub asks-in : (b : Blocks) (d : Places) (t : ℕ) (c : Call) → asks_at b (at d (key_of_call t c)).root c ≡ asks_for_new right.Change (state_in b d t) c
  asks-in b d t (call.One name c) = ap (λ l. one_asks_for_new l c) (sym (holds-in One b d t name))
  asks-in b d t (call.Long name c) = ap (λ l. long_asks_for_new l c) (sym (holds-in Long b d t name))
  asks-in b d t (call.Str name c) = ap (λ l. string_asks_for_new l c) (sym (holds-in Str b d t name))
  asks-in b d t (call.Bytes name c) = ap (λ l. bytes_asks_for_new l c) (sym (holds-in Bytes b d t name))
  asks-in b d t (call.Intersect name other i n) = refl
  asks-in b d t (call.Names from n) = refl
  asks-in b d t call.Used = refl

  -- ---- one array changed

  module _ {a c : ArenaState} {d : Places} {t : ℕ} {kind : Kind} {name : List ℕ} {q : Stand} (x : Change H a c d t kind name q) where
    -- the key of the array
    abbrev here : List ℕ
    here = spot_of t kind name

    place : IsPlaceAt H here c.blocks q
    place = subst (λ k. IsPlaceOf H k c.blocks q) (sym (kind_at-owner_byte t kind)) x.became.place

    frame : Frame a.blocks c.blocks (place_numbers here a.blocks (at d here).root) (place_numbers here c.blocks q.root)
    frame = subst (λ k. Frame a.blocks c.blocks (numbers_of_array k a.blocks (at d here).root) (numbers_of_array k c.blocks q.root))
        (sym (kind_at-owner_byte t kind)) x.became.frame

    -- the arrays of all tenants are still held
    pub held-in : IsHeld H c.blocks (with_place d here q)
    held-in = shelf-changed (IsPlaceAt H) place_numbers IsSameAt laws.kept a.blocks c.blocks d here q x.shelf place frame

    -- every other place keeps its content
    stays : (k : Kind) (u : ℕ) (m : List ℕ) → eq_by_cmp string_order (owner_byte u k ∷ m) here ≡ false
        → content_at k c.blocks (at d (owner_byte u k ∷ m)).root ≡ content_at k a.blocks (at d (owner_byte u k ∷ m)).root
    stays k u m e = same_content k a.blocks c.blocks (at d (owner_byte u k ∷ m)).root
        (subst (λ j. IsSameOf j a.blocks c.blocks (at d (owner_byte u k ∷ m)).root) (kind_at-owner_byte u k)
        (other (IsPlaceAt H) place_numbers IsSameAt laws.kept a.blocks c.blocks d here q x.shelf place frame (owner_byte u k ∷ m) e).3)

    -- the tenant's arrays of this kind have the new content
    own : arrays_of (content_at kind) (owner_byte t kind) c.blocks (with_place d here q)
        ≡ with_content (arrays_of (content_at kind) (owner_byte t kind) a.blocks d) name (content_at kind c.blocks q.root)
    own = own-changed (content_at kind) (owner_byte t kind) a.blocks c.blocks d name q (stays kind t)
        (none kind c.blocks) (only kind c.blocks q.root x.became.place.sound)

    -- the arrays of other kinds and tenants are unchanged
    rest : (k : Kind) (u : ℕ) → (owner_byte u k == owner_byte t kind) ≡ false
        → arrays_of (content_at k) (owner_byte u k) c.blocks (with_place d here q) ≡ arrays_of (content_at k) (owner_byte u k) a.blocks d
    rest k u e = others-same (content_at k) (owner_byte u k) a.blocks c.blocks d (owner_byte t kind) name q e (stays k u)

    -- so does the number of its words
    words-stay : (k : Kind) (u : ℕ) (m : List ℕ) → eq_by_cmp string_order (owner_byte u k ∷ m) here ≡ false
        → words_at k c.blocks (with_place d here q) u m ≡ words_at k a.blocks d u m
    words-stay k u m e =
        let key : List ℕ = owner_byte u k ∷ m in
        let rests = other (IsPlaceAt H) place_numbers IsSameAt laws.kept a.blocks c.blocks d here q x.shelf place frame key e in
        let numbers : numbers_of_array k c.blocks (at d key).root ≡ numbers_of_array k a.blocks (at d key).root
        = subst (λ j. numbers_of_array j c.blocks (at d key).root ≡ numbers_of_array j a.blocks (at d key).root) (kind_at-owner_byte u k) rests.1 in
        let apart : AreApart (numbers_of_array k a.blocks (at d key).root) (place_numbers here a.blocks (at d here).root)
        = λ i j. elim (holds i (place_numbers here a.blocks (at d here).root)) as (λ r. holds i (place_numbers here a.blocks (at d here).root) ≡ r → r ≡ false) [
          | true ↦ λ l. absurd (not_both (eq_by_cmp string_order key here) (string_is key here (x.shelf.apart key here i
              (subst (λ n. holds i (numbers_of_array n a.blocks (at d key).root) ≡ true) (sym (kind_at-owner_byte u k)) j) l)) e)
          | false ↦ λ l. refl
        ] refl in
        let apart_new : AreApart (numbers_of_array k a.blocks (at d key).root) (place_numbers here c.blocks q.root)
        = subst (λ n. AreApart (numbers_of_array n a.blocks (at d key).root) (place_numbers here c.blocks q.root)) (kind_at-owner_byte u k) rests.2 in
        ap (λ (p : Stand). words_over c.blocks (numbers_of_array k c.blocks p.root)) (at_other d here q key e)
        ∙ ap (words_over c.blocks) numbers
        ∙ words_alike a.blocks c.blocks (numbers_of_array k a.blocks (at d key).root) (λ i j.
        ap length (ap (λ o. unwrap_or o []) (frame.outside i (apart_new i j)
        ∙ ap (λ r. cond r None (block a.blocks i)) (apart i j))))

    -- the other tenants' arrays are unchanged
    pub others-in : (u : ℕ) → u ≢ t → state_in c.blocks (with_place d here q) u ≡ state_in a.blocks d u
    others-in u h = same_state
        (rest One u (tenants_apart t u One kind h)) (rest Long u (tenants_apart t u Long kind h))
        (rest Str u (tenants_apart t u Str kind h)) (rest Bytes u (tenants_apart t u Bytes kind h))

    -- and the words of each
    pub other-sizes-in : (u : ℕ) → u ≢ t → sizes_in c.blocks (with_place d here q) u ≡ sizes_in a.blocks d u
    other-sizes-in u h =
        let words : (λ (k : Kind) (m : List ℕ). words_at k c.blocks (with_place d here q) u m) ≡ (λ k m. words_at k a.blocks d u m)
        = λ i k m. words-stay k u m (not_same (owner_byte u k) m (owner_byte t kind) name (tenants_apart t u k kind h)) i in
        ap (λ s. sizes_by (λ k m. words_at k c.blocks (with_place d here q) u m) s) (others-in u h)
        ∙ ap (λ w. sizes_by w (state_in a.blocks d u)) words

  -- its tenant has the new array instead of the old
  pub own-in : {a c : ArenaState} {d : Places} {t : ℕ} (kind : Kind) {name : List ℕ} {q : Stand} → Change H a c d t kind name q
      → state_in c.blocks (with_place d (spot_of t kind name) q) t
      ≡ with_arrays kind (state_in a.blocks d t) (with_content (arrays_at kind (state_in a.blocks d t)) name (content_at kind c.blocks q.root))
  own-in {t = t} One x = same_state
      (own x) (rest x Long t (kinds_apart t Long One λ e. cc))
      (rest x Str t (kinds_apart t Str One λ e. cc)) (rest x Bytes t (kinds_apart t Bytes One λ e. cc))
  own-in {t = t} Long x = same_state
      (rest x One t (kinds_apart t One Long λ e. cc)) (own x)
      (rest x Str t (kinds_apart t Str Long λ e. cc)) (rest x Bytes t (kinds_apart t Bytes Long λ e. cc))
  own-in {t = t} Str x = same_state
      (rest x One t (kinds_apart t One Str λ e. cc)) (rest x Long t (kinds_apart t Long Str λ e. cc))
      (own x) (rest x Bytes t (kinds_apart t Bytes Str λ e. cc))
  own-in {t = t} Bytes x = same_state
      (rest x One t (kinds_apart t One Bytes λ e. cc)) (rest x Long t (kinds_apart t Long Bytes λ e. cc))
      (rest x Str t (kinds_apart t Str Bytes λ e. cc)) (own x)

  -- the content of an array, from its tenant's state
  pub named-in : (kind : Kind) (b : Blocks) (d : Places) (t : ℕ) (name : List ℕ)
      → content_of (arrays_at kind (state_in b d t)) name ≡ content_at kind b (at d (spot_of t kind name)).root
  named-in kind b d t name = ap (λ l. content_of l name) (arrays_at-state_in kind b d t) ∙ holds-in kind b d t name

  -- an array without a place has no entries
  pub absent-in : (kind : Kind) (b : Blocks) (d : Places) (t : ℕ) (name : List ℕ) → get d (spot_of t kind name) ≡ None
      → content_of (arrays_at kind (state_in b d t)) name ≡ []
  absent-in kind b d t name h = named-in kind b d t name ∙ ap (λ g. content_at kind b (unwrap_or g nothing).root) h ∙ none kind b

  -- ---- calls

  -- a reply and a content computed from the array's content give the reply and the state
  answered-in : (kind : Kind) {a c : ArenaState} {d : Places} {t : ℕ} {name : List ℕ} {q : Stand} (r : Reply) → Change H a c d t kind name q
      → (f : Entries (KeyOf kind) → Reply × Entries (KeyOf kind))
      → f (content_at kind a.blocks (at d (spot_of t kind name)).root) ≡ (r, content_at kind c.blocks q.root)
      → answered kind (state_in a.blocks d t) name (f (content_of (arrays_at kind (state_in a.blocks d t)) name))
      ≡ (r, state_in c.blocks (with_place d (spot_of t kind name) q) t)
  answered-in kind {a} {c} {d} {t} {name} {q} r x f e =
      ap (λ l. answered kind (state_in a.blocks d t) name (f l)) (named-in kind a.blocks d t name)
      ∙ ap (answered kind (state_in a.blocks d t) name) e ∙ ap (λ (z : State). (r, z)) (sym (own-in kind x))

  -- the array's answer is the tenant's answer, if the call asks for nothing new or has room
  pub step-in : (quota : Quota) (f : Call) {a c : ArenaState} {d : Places} {t : ℕ} {q : Stand} (r : Reply)
      → Change H a c d t (kind_of_call f) (name_of_call f) q
      → AnswersAt a.blocks (at d (key_of_call t f)).root f r c.blocks q.root
      → HasWay (asks_at a.blocks (at d (key_of_call t f)).root f) (has_room quota (state_in a.blocks d t) f)
      → allowed_step quota (state_in a.blocks d t) f ≡ (r, state_in c.blocks (with_place d (key_of_call t f) q) t)
  step-in quota (call.One name f) {a = a} {d = d} {t = t} r x answers way =
      let room : Bool = has_room quota (state_in a.blocks d t) (call.One name f) in
      answered-in One r x (λ l. one_step room l f) (effect_way word_order room (one_in a.blocks (at d (spot_of t One name)).root) (one_effect f) way ∙ answers)
  step-in quota (call.Long name f) {a = a} {d = d} {t = t} r x answers way =
      let room : Bool = has_room quota (state_in a.blocks d t) (call.Long name f) in
      answered-in Long r x (λ l. long_step room l f) (effect_way word_order room (long_in a.blocks (at d (spot_of t Long name)).root) (long_effect f) way ∙ answers)
  step-in quota (call.Str name f) {a = a} {d = d} {t = t} r x answers way =
      let room : Bool = has_room quota (state_in a.blocks d t) (call.Str name f) in
      answered-in Str r x (λ l. string_step room l f) (effect_way string_order room (string_in a.blocks (at d (spot_of t Str name)).root) (string_effect f) way ∙ answers)
  step-in quota (call.Bytes name f) {a = a} {d = d} {t = t} r x answers way =
      let room : Bool = has_room quota (state_in a.blocks d t) (call.Bytes name f) in
      answered-in Bytes r x (λ l. bytes_step room l f) (effect_way string_order room (bytes_in a.blocks (at d (spot_of t Bytes name)).root) (bytes_effect f) way ∙ answers)
  step-in quota (call.Intersect name other i n) r x answers way = absurd answers
  step-in quota (call.Names from n) r x answers way = absurd answers
  step-in quota call.Used r x answers way = absurd answers

  -- writing an array's own content changes nothing
  kept_content : (kind : Kind) (b : Blocks) (d : Places) (t : ℕ) (name : List ℕ) → IsHeld H b d
      → (let arrays = arrays_of (content_at kind) (owner_byte t kind) b d in with_content arrays name (content_of arrays name) ≡ arrays)
  kept_content kind b d t name shelf =
      let o : ℕ = owner_byte t kind in
      let k : List ℕ = spot_of t kind name in
      let p : Stand = at d k in
      let own : arrays_of (content_at kind) o b (with_place d k p) ≡ with_content (arrays_of (content_at kind) o b d) name (content_at kind b p.root)
      = own-changed (content_at kind) o b b d name p (λ m e. refl) (none kind b) (only kind b p.root (place-in kind b d t name shelf).sound) in
      ap (with_content (arrays_of (content_at kind) o b d) name) (holds-in kind b d t name)
      ∙ sym own ∙ ap (arrays_of (content_at kind) o b) (put_back d k (shelf.filled k))

  -- the same of the state
  kept_state : (kind : Kind) (b : Blocks) (d : Places) (t : ℕ) (name : List ℕ) → IsHeld H b d
      → (let s = state_in b d t in with_arrays kind s (with_content (arrays_at kind s) name (content_of (arrays_at kind s) name)) ≡ s)
  kept_state One b d t name shelf = ap (λ l. with_arrays One (state_in b d t) l) (kept_content One b d t name shelf)
  kept_state Long b d t name shelf = ap (λ l. with_arrays Long (state_in b d t) l) (kept_content Long b d t name shelf)
  kept_state Str b d t name shelf = ap (λ l. with_arrays Str (state_in b d t) l) (kept_content Str b d t name shelf)
  kept_state Bytes b d t name shelf = ap (λ l. with_arrays Bytes (state_in b d t) l) (kept_content Bytes b d t name shelf)

  -- a refusal by the content of an array is a refusal by the state
  refused-in : (kind : Kind) (b : Blocks) (d : Places) (t : ℕ) (name : List ℕ) → IsHeld H b d → (f : Entries (KeyOf kind) → Reply × Entries (KeyOf kind))
      → (let s = state_in b d t in let l = content_of (arrays_at kind s) name in f l ≡ (Full, l) → answered kind s name (f l) ≡ (Full, s))
  refused-in kind b d t name shelf f e =
      ap (answered kind (state_in b d t) name) e ∙ ap (λ (z : State). (Full, z)) (kept_state kind b d t name shelf)

  -- a call that asks for a new entry without room is refused, and nothing changes
  pub full-in : (quota : Quota) (f : Call) (b : Blocks) (d : Places) (t : ℕ) → IsHeld H b d → asks_at b (at d (key_of_call t f)).root f ≡ true
      → has_room quota (state_in b d t) f ≡ false → allowed_step quota (state_in b d t) f ≡ (Full, state_in b d t)
  full-in quota (call.One name f) b d t shelf asks room =
      let l : Entries ℕ = content_of (state_in b d t).one name in
      refused-in One b d t name shelf (λ l. one_step (has_room quota (state_in b d t) (call.One name f)) l f)
      (ap (λ r. one_step r l f) room ∙ effect_full word_order l (one_effect f) (sym (asks-in b d t (call.One name f)) ∙ asks))
  full-in quota (call.Long name f) b d t shelf asks room =
      let l : Entries ℕ = content_of (state_in b d t).long name in
      refused-in Long b d t name shelf (λ l. long_step (has_room quota (state_in b d t) (call.Long name f)) l f)
      (ap (λ r. long_step r l f) room ∙ effect_full word_order l (long_effect f) (sym (asks-in b d t (call.Long name f)) ∙ asks))
  full-in quota (call.Str name f) b d t shelf asks room =
      let l : Entries (List ℕ) = content_of (state_in b d t).string name in
      refused-in Str b d t name shelf (λ l. string_step (has_room quota (state_in b d t) (call.Str name f)) l f)
      (ap (λ r. string_step r l f) room ∙ effect_full string_order l (string_effect f) (sym (asks-in b d t (call.Str name f)) ∙ asks))
  full-in quota (call.Bytes name f) b d t shelf asks room =
      let l : Entries (List ℕ) = content_of (state_in b d t).bytes name in
      refused-in Bytes b d t name shelf (λ l. bytes_step (has_room quota (state_in b d t) (call.Bytes name f)) l f)
      (ap (λ r. bytes_step r l f) room ∙ effect_full string_order l (bytes_effect f) (sym (asks-in b d t (call.Bytes name f)) ∙ asks))
  full-in quota (call.Intersect name other i n) b d t shelf asks room = cc
  full-in quota (call.Names from n) b d t shelf asks room = cc
  full-in quota call.Used b d t shelf asks room = cc

  -- ---- counts

  sorted-in : (b : Blocks) (d : Places) (t : ℕ) → AreSorted (state_in b d t)
  sorted-in b d t kind = ap (is_sorted string_order) (arrays_at-state_in kind b d t) ∙ from_T _ (sorted-arrays_of (content_at kind) (owner_byte t kind) b d)

  -- the counts of a place are those of its content
  pub entries-in : (kind : Kind) (b : Blocks) (p : Stand) → IsPlaceOf H kind b p → length (content_at kind b p.root) ≡ p.entries
  entries-in kind b p h = sym (h.entries ∙ entries_are kind b p.root)

  pieces-at-in : (kind : Kind) (b : Blocks) (p : Stand) → IsPlaceOf H kind b p → pieces_of (size_at kind) (content_at kind b p.root) ≡ p.pieces
  pieces-at-in kind b p h = sym (h.pieces ∙ pieces_are kind b p.root)

  used_there : (kind : Kind) (b : Blocks) (d : Places) (t : ℕ) (name : List ℕ) → IsHeld H b d
      → length (content_of (arrays_at kind (state_in b d t)) name) ≡ (at d (spot_of t kind name)).entries
  used_there kind b d t name shelf =
      ap length (named-in kind b d t name) ∙ entries-in kind b (at d (spot_of t kind name)) (place-in kind b d t name shelf)

  pieces_there : (kind : Kind) (b : Blocks) (d : Places) (t : ℕ) (name : List ℕ) → IsHeld H b d
      → pieces_of (size_at kind) (content_of (arrays_at kind (state_in b d t)) name) ≡ (at d (spot_of t kind name)).pieces
  pieces_there kind b d t name shelf =
      ap (pieces_of (size_at kind)) (named-in kind b d t name) ∙ pieces-at-in kind b (at d (spot_of t kind name)) (place-in kind b d t name shelf)

  -- an array's entries are among its tenant's entries
  pub used-within : (kind : Kind) (b : Blocks) (d : Places) (t : ℕ) (name : List ℕ) → IsHeld H b d
      → (at d (spot_of t kind name)).entries ≤ used (state_in b d t)
  used-within kind b d t name shelf =
      within _ _ _ _ (used-replaced kind (state_in b d t) name [] (sorted-in b d t)) (used_there kind b d t name shelf)

  pub pieces-within : (kind : Kind) (b : Blocks) (d : Places) (t : ℕ) (name : List ℕ) → IsHeld H b d
      → (at d (spot_of t kind name)).pieces ≤ pieces (state_in b d t)
  pieces-within kind b d t name shelf =
      within _ _ _ _ (pieces-replaced kind (state_in b d t) name [] (sorted-in b d t)) (pieces_there kind b d t name shelf)

  -- the tenant's number changes as the array's does
  pub used-in : {a c : ArenaState} {d : Places} {t : ℕ} {kind : Kind} {name : List ℕ} {q : Stand} → Change H a c d t kind name q
      → used (state_in c.blocks (with_place d (spot_of t kind name) q) t) + (at d (spot_of t kind name)).entries ≡ used (state_in a.blocks d t) + q.entries
  used-in {a} {c} {d} {t} {kind} {name} {q} x =
      ap (λ z. used z + (at d (spot_of t kind name)).entries) (own-in kind x)
      ∙ moved _ _ _ _ _ _ (used-replaced kind (state_in a.blocks d t) name (content_at kind c.blocks q.root) (sorted-in a.blocks d t))
      (used_there kind a.blocks d t name x.shelf) (entries-in kind c.blocks q x.became.place)

  pub pieces-in : {a c : ArenaState} {d : Places} {t : ℕ} {kind : Kind} {name : List ℕ} {q : Stand} → Change H a c d t kind name q
      → pieces (state_in c.blocks (with_place d (spot_of t kind name) q) t) + (at d (spot_of t kind name)).pieces ≡ pieces (state_in a.blocks d t) + q.pieces
  pieces-in {a} {c} {d} {t} {kind} {name} {q} x =
      ap (λ z. pieces z + (at d (spot_of t kind name)).pieces) (own-in kind x)
      ∙ moved _ _ _ _ _ _ (pieces-replaced kind (state_in a.blocks d t) name (content_at kind c.blocks q.root) (sorted-in a.blocks d t))
      (pieces_there kind a.blocks d t name x.shelf) (pieces-at-in kind c.blocks q x.became.place)

  -- ---- no arrays, and no change

  -- with an empty directory a tenant has no arrays
  none_listed : (kind : Kind) (b : Blocks) (o : ℕ) → arrays_of (content_at kind) o b no_places ≡ []
  none_listed kind b o = same_entries string_order total names_apart _ _ (sorted-arrays_of (content_at kind) o b no_places) tt (λ m.
      find-arrays_of (content_at kind) o b no_places m ∙ ap (option_map (λ (p : Stand). content_at kind b p.root)) (no_place (o ∷ m)))

  pub nothing-in : (b : Blocks) (t : ℕ) → state_in b no_places t ≡ no_arrays
  nothing-in b t = same_state (none_listed One b (owner_byte t One)) (none_listed Long b (owner_byte t Long))
      (none_listed Str b (owner_byte t Str)) (none_listed Bytes b (owner_byte t Bytes))

  -- no blocks with an empty directory are held
  pub nothing-held : IsHeld H no_blocks no_places
  unfolding block
  nothing-held = record {
    sound = λ k. subst (λ p. IsPlaceAt H k no_blocks p) (sym (ap (λ g. unwrap_or g nothing) (no_place k))) (laws.kept.none k no_blocks).0;
    filled = λ k h. absurd (unlike (ap is_some (sym (no_place k)) ∙ h));
    apart = λ k m q h g. absurd (unlike (sym (unheld k q) ∙ h));
    whole = λ q h. absurd (unlike (sym (ap is_some (get-empty {X = List ℕ} nat_cmp q)) ∙ h));
  }
    where
      unlike : false ≡ true → ⊥
      unlike e = cc

      unheld : (k : List ℕ) (q : ℕ) → holds q (place_numbers k no_blocks (at no_places k).root) ≡ false
      unheld k q = ap (λ g. holds q (place_numbers k no_blocks (unwrap_or g nothing).root)) (no_place k) ∙ ap (holds q) (laws.kept.none k no_blocks).1

  -- two directories that differ only in an empty place are equal once its place is written back
  pub same-place : {b : Blocks} (d new : Places) (k : List ℕ) → IsHeld H b d → ((p : Stand) → with_place new k p ≡ with_place d k p)
      → with_place new k (at d k) ≡ d
  same-place d new k shelf h = h (at d k) ∙ put_back d k (shelf.filled k)

  pub same-in : {a c : Blocks} (d new : Places) (k : List ℕ) → c ≡ a → IsHeld H a d → ((p : Stand) → with_place new k p ≡ with_place d k p)
      → IsHeld H c (with_place new k (at d k)) × ((u : ℕ) → state_in c (with_place new k (at d k)) u ≡ state_in a d u)
  same-in {a} {c} d new k e shelf h = (
    subst (λ b. IsHeld H b (with_place new k (at d k))) (sym e) (subst (IsHeld H a) (sym (same-place d new k shelf h)) shelf),
    λ u. ap (λ b. state_in b (with_place new k (at d k)) u) e ∙ ap (λ z. state_in a z u) (same-place d new k shelf h),
  )
