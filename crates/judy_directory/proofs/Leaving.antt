-- All names, each once; and the names that are left once some tenants are gone.
--     has-listed        a key has a place if it is listed
--     once-listed       in a list with as many entries as keys no key is twice
--     both-staying      both lists lose the names of the tenants that are gone
--     room-staying      then there is room as before
use Rattle.std.proofs.Common.{◌≡◌, ℕ, suc, ◌+◌, ◌≤◌, Bool, true, false, cond, List, [], ◌∷◌, ◌++◌, length, map}
use Rattle.std.proofs.Common.{Option, Some, None, is_some, ap, sym, ◌∙◌, refl, subst, arith}
use Rattle.std.proofs.lemmas.Bool.{false≢true}
use Rattle.std.proofs.lemmas.List.{length-append}
use Rattle.std.proofs.lemmas.Map.Entries.{lookup-filter-keys}
use Rattle.std.specs.Option.{option_or}
use Rattle.std.specs.FinMap.{FinMap, get, len, from_entries, contains_key, retain_keys, get-retain_keys, len-insert, same_map}
use Rattle.judy_model.specs.Contents.{string_order}
use Rattle.judy_model.proofs.lemmas.FormLemmas.{names_apart}
use Rattle.judy_model.proofs.lemmas.TestLemmas.{turned}
use Rattle.judy_directory.specs.Kinds.{is_gone, is_staying}
use Rattle.judy_directory.specs.Places.{Stand}
use Rattle.judy_directory.specs.Rooms.{alike, look_up, staying, is_listed, AreOnce, HasListRoom}
use Rattle.judy_directory.proofs.Listed.{get-listed}
use Rattle.judy_directory.proofs.Rooms.{joined, one, none_before, get-joined, len-listed}
use Rattle.judy_directory.proofs.lemmas.Changes.{total}

-- the keys of a list of entries
abbrev pub keys_in : List (List ℕ × Stand) → List (List ℕ)
keys_in es = map (λ e. e.0) es

-- an option before which a value may stand
pub some_of : {A : Type 0} (b : Bool) (x : A) (o : Option A) → is_some (cond b (Some x) o) ≡ cond b true (is_some o)
some_of true x o = refl
some_of false x o = refl

some-look : (q : List ℕ) (es : List (List ℕ × Stand)) → is_some (look_up q es) ≡ is_listed q (keys_in es)
some-look q [] = refl
some-look q (e ∷ es) = some_of (alike q e.0) e.1 (look_up q es) ∙ ap (cond (alike q e.0) true) (some-look q es)

-- a key has a place if it is listed
pub has-listed : (q : List ℕ) (es : List (List ℕ × Stand)) → contains_key (from_entries {R = string_order} es) q ≡ is_listed q (keys_in es)
has-listed q es = ap is_some (get-listed es q) ∙ some-look q es

-- ---- each once

-- in a list with as many entries as keys no key is twice
pub once-listed : (es : List (List ℕ × Stand)) → length es ≤ len (from_entries {R = string_order} es) → AreOnce (keys_in es)
once-listed [] h = tt
once-listed (e ∷ es) h = by (contains_key m e.0) refl (once-listed es)
  where
    m : FinMap string_order Stand
    m = from_entries {R = string_order} es

    most : len m ≤ length es
    most = len-listed es

    n : len (from_entries {R = string_order} (e ∷ es)) ≡ cond (contains_key m e.0) (len m) (len m + 1)
    n = len-insert total m e.0 e.1

    by : (b : Bool) → contains_key m e.0 ≡ b → (length es ≤ len m → AreOnce (keys_in es)) → AreOnce (keys_in (e ∷ es))
    by true is rest =
        let k : len (from_entries {R = string_order} (e ∷ es)) ≡ len m = n ∙ ap (λ b. cond b (len m) (len m + 1)) is in
        absurd (omega (arith, h, k, most))
    by false is rest =
        let k : len (from_entries {R = string_order} (e ∷ es)) ≡ len m + 1 = n ∙ ap (λ b. cond b (len m) (len m + 1)) is in
        (sym (has-listed e.0 es) ∙ is, rest (omega (arith, h, k)))

-- and in a list in which no key is twice there are as many
listed-once : (es : List (List ℕ × Stand)) → AreOnce (keys_in es) → length es ≤ len (from_entries {R = string_order} es)
listed-once [] h = omega arith
listed-once (e ∷ es) h =
    let m : FinMap string_order Stand = from_entries {R = string_order} es in
    let n : len (from_entries {R = string_order} (e ∷ es)) ≡ len m + 1
    = len-insert total m e.0 e.1 ∙ ap (λ b. cond b (len m) (len m + 1)) (has-listed e.0 es ∙ h.0) in
    let rest = listed-once es h.1 in
    omega (arith, n, rest)

-- ---- the names that stay

unlisted : (b c : Bool) → cond b true c ≡ false → (b ≡ false) × (c ≡ false)
unlisted true c h = absurd (false≢true (sym h))
unlisted false c h = (refl, h)

pick_unlisted : (k : List ℕ) (s : Bool) (e : List ℕ × Stand) (es : List (List ℕ × Stand)) → alike k e.0 ≡ false
    → is_listed k (keys_in es) ≡ false → is_listed k (keys_in (cond s (e ∷ es) es)) ≡ false
pick_unlisted k true e es a h = ap (λ b. cond b true (is_listed k (keys_in es))) a ∙ h
pick_unlisted k false e es a h = h

pick_once : (s : Bool) (e : List ℕ × Stand) (es : List (List ℕ × Stand)) → is_listed e.0 (keys_in es) ≡ false → AreOnce (keys_in es)
    → AreOnce (keys_in (cond s (e ∷ es) es))
pick_once true e es a h = (a, h)
pick_once false e es a h = h

pick_fewer : (s : Bool) (e : List ℕ × Stand) (es : List (List ℕ × Stand)) (n : ℕ) → length es ≤ n → length (cond s (e ∷ es) es) ≤ suc n
pick_fewer true e es n h = omega (arith, h)
pick_fewer false e es n h = omega (arith, h)

pick_append : (s : Bool) (e : List ℕ × Stand) (es fs : List (List ℕ × Stand)) → cond s (e ∷ (es ++ fs)) (es ++ fs) ≡ cond s (e ∷ es) es ++ fs
pick_append true e es fs = refl
pick_append false e es fs = refl

module _ (gone : List Bool) where
  staying-listed : (k : List ℕ) (es : List (List ℕ × Stand)) → is_listed k (keys_in es) ≡ false → is_listed k (keys_in (staying gone es)) ≡ false
  staying-listed k [] h = refl
  staying-listed k (e ∷ es) h =
      let u = unlisted (alike k e.0) (is_listed k (keys_in es)) h in
      pick_unlisted k (is_staying gone e.0) e (staying gone es) u.0 (staying-listed k es u.1)

  staying-once : (es : List (List ℕ × Stand)) → AreOnce (keys_in es) → AreOnce (keys_in (staying gone es))
  staying-once [] h = tt
  staying-once (e ∷ es) h = pick_once (is_staying gone e.0) e (staying gone es) (staying-listed e.0 es h.0) (staying-once es h.1)

  staying-fewer : (es : List (List ℕ × Stand)) → length (staying gone es) ≤ length es
  staying-fewer [] = omega arith
  staying-fewer (e ∷ es) = pick_fewer (is_staying gone e.0) e (staying gone es) (length es) (staying-fewer es)

  staying-append : (es fs : List (List ℕ × Stand)) → staying gone (es ++ fs) ≡ staying gone es ++ staying gone fs
  staying-append [] fs = refl
  staying-append (e ∷ es) fs =
      ap (λ l. cond (is_staying gone e.0) (e ∷ l) l) (staying-append es fs)
      ∙ pick_append (is_staying gone e.0) e (staying gone es) (staying gone fs)

  -- the value of a key among the entries of the tenants that are not marked
  pub look-staying : (q : List ℕ) (es : List (List ℕ × Stand)) → look_up q (staying gone es) ≡ cond (is_gone gone q) None (look_up q es)
  look-staying q es =
      lookup-filter-keys (alike q) (is_staying gone) (is_staying gone q) (λ x e. ap (is_staying gone) (sym (one q x e))) es
      ∙ turned (is_gone gone q) (look_up q es) None

  -- the place at a key once the others are forgotten
  pub get-staying : (m : FinMap string_order Stand) (q : List ℕ) → get (retain_keys m (is_staying gone)) q ≡ cond (is_gone gone q) None (get m q)
  get-staying m q =
      get-retain_keys m (is_staying gone) q (λ x t. ap (is_staying gone) (sym (names_apart q x t)))
      ∙ turned (is_gone gone q) (get m q) None

  -- both lists lose the names of the tenants that are gone
  pub both-staying : (es fs : List (List ℕ × Stand)) → joined (staying gone es) (staying gone fs) ≡ retain_keys (joined es fs) (is_staying gone)
  both-staying es fs = same_map total names_apart _ _ (λ q.
      get-joined (staying gone es) (staying gone fs) q
      ∙ ap (λ o. option_or o (look_up q (staying gone fs))) (look-staying q es)
      ∙ ap (option_or (cond (is_gone gone q) None (look_up q es))) (look-staying q fs)
      ∙ none_before (is_gone gone q) (look_up q es) (look_up q fs)
      ∙ ap (cond (is_gone gone q) None) (sym (get-joined es fs q))
      ∙ sym (get-staying (joined es fs) q))

  -- there is room as before
  pub room-staying : (es fs : List (List ℕ × Stand)) (room : ℕ) → HasListRoom es fs room → HasListRoom (staying gone es) (staying gone fs) room
  room-staying es fs room s =
      let both : length (es ++ fs) ≡ length es + length fs = length-append es fs in
      let left : length (staying gone es ++ staying gone fs) ≡ length (staying gone es) + length (staying gone fs)
      = length-append (staying gone es) (staying gone fs) in
      let f : length (staying gone fs) ≤ length fs = staying-fewer fs in
      let w = s.within in let n = s.many in
      let once : AreOnce (keys_in (es ++ fs)) = once-listed (es ++ fs) (omega (arith, n, both)) in
      let m : length (staying gone es ++ staying gone fs) ≤ len (joined (staying gone es) (staying gone fs))
      = listed-once (staying gone es ++ staying gone fs)
      (subst (λ l. AreOnce (keys_in l)) (staying-append es fs) (staying-once (es ++ fs) once)) in
      record {
        free = s.free;
        within = omega (arith, f, w);
        many = omega (arith, left, m);
      }
