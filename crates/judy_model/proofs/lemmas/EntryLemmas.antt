-- Entries in order of their keys: how keys compare, and what is found, put or taken out.
use Rattle.std.proofs.Common.{◌≡◌, ℕ, zero, suc, ◌<◌, ◌≤◌, Bool, true, false, cond, not, List, [], ◌∷◌, set, length}
use Rattle.std.proofs.Common.{get_or, Option, Some, None, is_some, ap, sym, ◌∙◌, refl, subst, arith}
use Rattle.std.specs.Prelude.{nat_lt, nat_le}
use Rattle.std.proofs.lemmas.Bool.{and_parts}
use Rattle.std.proofs.lemmas.Bool.Decides.{nat_tests}
use Rattle.std.proofs.lemmas.Option.{none-some}
use Rattle.std.specs.List.{insert, remove}
use Rattle.std.specs.declared.cmp.Ordering.TheVariants.{Less, Equal, Greater}
use Rattle.std.specs.Ordering.{nat_cmp, eq_by_cmp, is_eq, is_lt}
use Rattle.std.specs.Cmp.{nat_cmp_total, tied_itself}
use Rattle.std.specs.FinMap.{is_sorted, nat_cmp-IsAntisymmetric, slice_cmp-IsAntisymmetric}
use Rattle.std.specs.FinMap.Entries.{by_order, below_all, find-put, same_entries, is_sorted-put}
use Rattle.judy_model.specs.Contents.{Entries, IsRising, IsWordArray, IsFound, pairs, word_order, string_order, value_of, with_entry, without_key}
use Rattle.judy_model.proofs.lemmas.StateLemmas.{same_name}
use Rattle.judy_model.proofs.lemmas.TestLemmas.{and_left, and_right, is_Equal, to_T}

-- ---- the comparison of two keys

pub less : (a b : ℕ) → a < b → nat_cmp a b ≡ Less
less a b h = grind (arith, nat_tests)

pub greater : (a b : ℕ) → b < a → nat_cmp a b ≡ Greater
greater a b h = grind (arith, nat_tests)

pub equal : (a b : ℕ) → a ≡ b → nat_cmp a b ≡ Equal
equal a b h = grind (arith, nat_tests)

pub from_less : (a b : ℕ) → is_lt (nat_cmp a b) ≡ true → a < b
from_less a b h = grind (arith, nat_tests)

-- what the tests of numbers tell
pub lt_of : (a b : ℕ) → nat_lt a b ≡ true → a < b
lt_of a b h = grind (arith, nat_tests)

pub above_of : (a b : ℕ) → nat_le a b ≡ false → b < a
above_of a b h = grind (arith, nat_tests)

pub positive : (n : ℕ) → (n ≡ 0 → ⊥) → 0 < n
positive n h = grind arith

-- keys that tie are equal, and a key ties with itself
pub same_word : (a b : ℕ) → eq_by_cmp word_order a b ≡ true → a ≡ b
same_word a b e = nat_cmp-IsAntisymmetric a b (is_Equal (word_order a b) e)

pub word_itself : (a : ℕ) → eq_by_cmp word_order a a ≡ true
word_itself a = ap is_eq (tied_itself nat_cmp_total a)

-- a key above another does not tie with it
pub apart : (k x : ℕ) → is_lt (nat_cmp x k) ≡ true → eq_by_cmp nat_cmp k x ≡ false
apart k x h = grind (arith, nat_tests)

-- strings that tie are equal, and equal strings tie
pub same_string : (a b : List ℕ) → eq_by_cmp string_order a b ≡ true → a ≡ b
same_string a b e = slice_cmp-IsAntisymmetric nat_cmp-IsAntisymmetric a b (is_Equal (string_order a b) e)

pub string_is : (a b : List ℕ) → a ≡ b → eq_by_cmp string_order a b ≡ true
string_is a b e = ap (eq_by_cmp string_order a) (sym e) ∙ same_name a

-- equal options hold equal numbers
pub same_Some : {x y : ℕ} → Some x ≡ Some y → x ≡ y
same_Some h = cc

-- ---- what a search finds

-- a key that has a value among keys above x is above x
pub above : (es : Entries ℕ) (x k v : ℕ) → below_all word_order x es ≡ true → value_of word_order es k ≡ Some v → is_lt (nat_cmp x k) ≡ true
above [] x k v h f = absurd (none-some v f)
above (e ∷ es) x k v h f = by (eq_by_cmp nat_cmp k e.0) refl (λ g. above es x k v parts.1 g)
  where
    parts : (is_lt (nat_cmp x e.0) ≡ true) × (below_all word_order x es ≡ true)
    parts = (and_left (is_lt (nat_cmp x e.0)) _ h, and_right (is_lt (nat_cmp x e.0)) _ h)

    by : (b : Bool) → eq_by_cmp nat_cmp k e.0 ≡ b → (value_of word_order es k ≡ Some v → is_lt (nat_cmp x k) ≡ true) → is_lt (nat_cmp x k) ≡ true
    by true i rest = ap (λ j. is_lt (nat_cmp x j)) (same_word k e.0 i) ∙ parts.0
    by false i rest = rest (subst (λ b. cond b (Some e.1) (value_of word_order es k) ≡ Some v) i f)

-- what is found behind the first entry
pub later : (e : ℕ × ℕ) (es : Entries ℕ) (o : Option (ℕ × ℕ)) → IsRising word_order (e ∷ es) → IsFound es o → IsFound (e ∷ es) o
later e es None h f = tt
later e es (Some d) h f =
    let up : is_lt (nat_cmp e.0 d.0) ≡ true = above es e.0 d.0 d.1 (and_left (below_all word_order e.0 es) _ h) f in
    rw (apart d.0 e.0 up) f

-- entries behind the first rise too
pub tail : (e : ℕ × ℕ) (es : Entries ℕ) → IsRising word_order (e ∷ es) → IsRising word_order es
tail e es h = and_right (below_all word_order e.0 es) _ h

-- the first entry is found
pub here : (e : ℕ × ℕ) (es : Entries ℕ) → IsFound (e ∷ es) (Some e)
here e es = rw (word_itself e.0) refl

-- ---- a change that changes nothing

pub found_same : (t : Bool) (x : ℕ) (o : Option ℕ) → (t ≡ true → o ≡ Some x) → cond t (Some x) o ≡ o
found_same true x o h = sym (h refl)
found_same false x o h = refl

-- to give a key the value that it has changes nothing
pub put-same : (es : Entries ℕ) (k v : ℕ) → is_sorted word_order es ≡ true → value_of word_order es k ≡ Some v → es ≡ with_entry word_order es k v
put-same es k v sorted e =
    same_entries word_order nat_cmp_total nat_cmp-IsAntisymmetric es (with_entry word_order es k v) (to_T _ sorted)
    (is_sorted-put word_order nat_cmp_total k v es (to_T _ sorted))
    (λ q. sym (find-put word_order nat_cmp_total q k v es ∙ found_same (eq_by_cmp word_order q k) v (value_of word_order es q)
    (λ i. ap (value_of word_order es) (same_word q k i) ∙ e)))

-- the same in an array of words
pub same-entry : (es : Entries ℕ) (key x : ℕ) → IsWordArray es → value_of word_order es key ≡ Some x → es ≡ with_entry word_order es key x
same-entry es key x words e = put-same es key x words.0 e

-- a key that is absent is taken out by doing nothing
pub no-key : (es : Entries ℕ) (k : ℕ) → value_of word_order es k ≡ None → es ≡ without_key word_order es k
no-key [] k h = refl
no-key (e ∷ es) k h = elim (eq_by_cmp word_order k e.0) as (λ t. cond t (Some e.1) (value_of word_order es k) ≡ None
    → e ∷ es ≡ cond (not t) (e ∷ without_key word_order es k) (without_key word_order es k)) [
      | true ↦ λ i. absurd (let z : is_some (Some e.1) ≡ false = ap is_some i in cc)
      | false ↦ λ i. ap (λ l. e ∷ l) (no-key es k i)
    ] h

-- ---- keys and values in two rows

-- a new key goes to its place
pub place-new : (ks vs : List ℕ) (r k v : ℕ) → length vs ≡ length ks → r ≤ length ks → ((i : ℕ) → i < r → get_or ks i 0 < k)
    → (r < length ks → k < get_or ks r 0)
    → with_entry word_order (pairs ks vs) k v ≡ pairs (insert ks r k) (insert vs r v)
place-new [] [] zero k v e n below above = refl
place-new [] [] (suc r) k v e n below above = absurd (omega arith)
place-new [] (x ∷ vs) r k v e n below above = absurd (omega arith)
place-new (x ∷ ks) [] r k v e n below above = absurd (omega arith)
place-new (x ∷ ks) (y ∷ vs) zero k v e n below above = ap (λ o. by_order o ((k, v) ∷ (x, y) ∷ pairs ks vs) ((x, v) ∷ pairs ks vs)
    ((x, y) ∷ with_entry word_order (pairs ks vs) k v)) (less k x (above (omega arith)))
place-new (x ∷ ks) (y ∷ vs) (suc r) k v e n below above =
    ap (λ o. by_order o ((k, v) ∷ (x, y) ∷ pairs ks vs) ((x, v) ∷ pairs ks vs) ((x, y) ∷ with_entry word_order (pairs ks vs) k v))
    (greater k x (below 0 (omega arith)))
    ∙ ap (λ l. (x, y) ∷ l) (place-new ks vs r k v (omega arith) (omega arith) (λ i h. below (suc i) (omega arith)) (λ h. above (omega arith)))

-- a key that is there takes a new value in its place
pub place-old : (ks vs : List ℕ) (r k v : ℕ) → length vs ≡ length ks → r < length ks → ((i : ℕ) → i < r → get_or ks i 0 < k) → get_or ks r 0 ≡ k
    → with_entry word_order (pairs ks vs) k v ≡ pairs ks (set vs r v)
place-old [] vs r k v e n below at = absurd (omega arith)
place-old (x ∷ ks) [] r k v e n below at = absurd (omega arith)
place-old (x ∷ ks) (y ∷ vs) zero k v e n below at = ap (λ o. by_order o ((k, v) ∷ (x, y) ∷ pairs ks vs) ((x, v) ∷ pairs ks vs)
    ((x, y) ∷ with_entry word_order (pairs ks vs) k v)) (equal k x (sym at))
place-old (x ∷ ks) (y ∷ vs) (suc r) k v e n below at =
    ap (λ o. by_order o ((k, v) ∷ (x, y) ∷ pairs ks vs) ((x, v) ∷ pairs ks vs) ((x, y) ∷ with_entry word_order (pairs ks vs) k v))
    (greater k x (below 0 (omega arith)))
    ∙ ap (λ l. (x, y) ∷ l) (place-old ks vs r k v (omega arith) (omega arith) (λ i h. below (suc i) (omega arith)) at)

-- nothing at or above a key is below it
pub past : (es : Entries ℕ) (x k : ℕ) → k ≤ x → below_all word_order x es ≡ true → (value_of word_order es k ≡ None) × (without_key word_order es k ≡ es)
past [] x k h b = (refl, refl)
past (e ∷ es) x k h b =
    let lt : x < e.0 = from_less x e.0 (and_left (is_lt (word_order x e.0)) _ b) in
    let r = past es x k h (and_right (is_lt (word_order x e.0)) _ b) in
    let o : nat_cmp k e.0 ≡ Less = less k e.0 (omega arith) in (
      ap (λ o. cond (is_eq o) (Some e.1) (value_of word_order es k)) o ∙ r.0,
      ap (λ o. cond (not (is_eq o)) (e ∷ without_key word_order es k) (without_key word_order es k)) o ∙ ap (λ l. e ∷ l) r.1,
    )

-- a key is taken out of its place
pub place-gone : (ks vs : List ℕ) (r k : ℕ) → is_sorted word_order (pairs ks vs) ≡ true → length vs ≡ length ks → r < length ks
    → ((i : ℕ) → i < r → get_or ks i 0 < k) → get_or ks r 0 ≡ k
    → without_key word_order (pairs ks vs) k ≡ pairs (remove ks r) (remove vs r)
place-gone [] vs r k s e n below at = absurd (omega arith)
place-gone (x ∷ ks) [] r k s e n below at = absurd (omega arith)
place-gone (x ∷ ks) (y ∷ vs) zero k s e n below at =
    ap (λ o. cond (not (is_eq o)) ((x, y) ∷ without_key word_order (pairs ks vs) k) (without_key word_order (pairs ks vs) k)) (equal k x (sym at))
    ∙ (past (pairs ks vs) x k (omega arith) (and_parts _ _ s).0).1
place-gone (x ∷ ks) (y ∷ vs) (suc r) k s e n below at =
    ap (λ o. cond (not (is_eq o)) ((x, y) ∷ without_key word_order (pairs ks vs) k) (without_key word_order (pairs ks vs) k))
    (greater k x (below 0 (omega arith)))
    ∙ ap (λ l. (x, y) ∷ l) (place-gone ks vs r k (and_parts (below_all word_order x (pairs ks vs)) _ s).1 (omega arith)
    (omega arith) (λ i h. below (suc i) (omega arith)) at)

-- a key is found in its place
pub find-there : (ks vs : List ℕ) (r k : ℕ) → length vs ≡ length ks → r < length ks → ((i : ℕ) → i < r → get_or ks i 0 < k)
    → get_or ks r 0 ≡ k → value_of word_order (pairs ks vs) k ≡ Some (get_or vs r 0)
find-there [] vs r k e n below at = absurd (omega arith)
find-there (x ∷ ks) [] r k e n below at = absurd (omega arith)
find-there (x ∷ ks) (y ∷ vs) zero k e n below at = ap (λ o. cond (is_eq o) (Some y) (value_of word_order (pairs ks vs) k)) (equal k x (sym at))
find-there (x ∷ ks) (y ∷ vs) (suc r) k e n below at =
    ap (λ o. cond (is_eq o) (Some y) (value_of word_order (pairs ks vs) k)) (greater k x (below 0 (omega arith)))
    ∙ find-there ks vs r k (omega arith) (omega arith) (λ i h. below (suc i) (omega arith)) at

-- a key that is not in its place is absent
pub find-not : (ks vs : List ℕ) (r k : ℕ) → is_sorted word_order (pairs ks vs) ≡ true → length vs ≡ length ks → r ≤ length ks
    → ((i : ℕ) → i < r → get_or ks i 0 < k) → (r < length ks → k < get_or ks r 0) → value_of word_order (pairs ks vs) k ≡ None
find-not [] vs r k s e n below above = refl
find-not (x ∷ ks) [] r k s e n below above = refl
find-not (x ∷ ks) (y ∷ vs) zero k s e n below above =
    let lt : k < x = above (omega arith) in
    ap (λ o. cond (is_eq o) (Some y) (value_of word_order (pairs ks vs) k)) (less k x lt) ∙ (past (pairs ks vs) x k (omega arith) (and_parts _ _ s).0).0
find-not (x ∷ ks) (y ∷ vs) (suc r) k s e n below above =
    ap (λ o. cond (is_eq o) (Some y) (value_of word_order (pairs ks vs) k)) (greater k x (below 0 (omega arith)))
    ∙ find-not ks vs r k (and_parts (below_all word_order x (pairs ks vs)) _ s).1 (omega arith) (omega arith)
    (λ i h. below (suc i) (omega arith)) (λ h. above (omega arith))

-- a key below others is below each of them
pub below_parts : (x : ℕ) (e : ℕ × ℕ) (es : Entries ℕ) → below_all word_order x (e ∷ es) ≡ true → (x < e.0) × (below_all word_order x es ≡ true)
below_parts x e es h = let t = and_parts (is_lt (word_order x e.0)) _ h in (from_less x e.0 t.0, t.1)

pub above_first : (ks vs : List ℕ) (x j : ℕ) → below_all word_order x (pairs ks vs) ≡ true → length vs ≡ length ks → j < length ks → x < get_or ks j 0
above_first [] vs x j h e n = absurd (omega arith)
above_first (k ∷ ks) [] x j h e n = absurd (omega arith)
above_first (k ∷ ks) (v ∷ vs) x zero h e n = (below_parts x (k, v) (pairs ks vs) h).0
above_first (k ∷ ks) (v ∷ vs) x (suc j) h e n = above_first ks vs x j (below_parts x (k, v) (pairs ks vs) h).1 (omega arith) (omega arith)

-- a later key is greater
pub keys-rise : (ks vs : List ℕ) (i j : ℕ) → is_sorted word_order (pairs ks vs) ≡ true → length vs ≡ length ks → i < j
    → j < length ks → get_or ks i 0 < get_or ks j 0
keys-rise [] vs i j s e h n = absurd (omega arith)
keys-rise (k ∷ ks) [] i j s e h n = absurd (omega arith)
keys-rise (k ∷ ks) (v ∷ vs) i zero s e h n = absurd (omega arith)
keys-rise (k ∷ ks) (v ∷ vs) zero (suc j) s e h n = above_first ks vs k j (and_parts (below_all word_order k (pairs ks vs)) _ s).0 (omega arith) (omega arith)
keys-rise (k ∷ ks) (v ∷ vs) (suc i) (suc j) s e h n = keys-rise ks vs i j (and_parts (below_all word_order k (pairs ks vs)) _ s).1
    (omega arith) (omega arith) (omega arith)
