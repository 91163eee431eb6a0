-- The names that are left while those of some tenants are forgotten one after another.
--     is_left gone ks k    the key's tenant is not marked, or the key is still to come
--     left-all             at first all names are left
--     left-stays           a name of another tenant is left
--     left-gone            a name of a marked tenant is forgotten
--     left-none            at last the names of the other tenants are left
use Rattle.std.proofs.Common.{◌≡◌, ℕ, Bool, true, false, cond, not, ◌||◌, List, [], ◌∷◌, Option, Some, None, is_some, get_or, ap, sym, ◌∙◌, refl}
use Rattle.std.proofs.lemmas.Bool.{false≢true}
use Rattle.std.specs.Cmp.Lexicographic.{bytes_decides}
use Rattle.std.specs.FinMap.{FinMap, get, remove, contains_key, retain_keys, get-retain_keys, get-remove, same_map}
use Rattle.judy_model.specs.Contents.{string_order}
use Rattle.judy_model.proofs.lemmas.FormLemmas.{names_apart}
use Rattle.judy_model.specs.declared.commands.Kind.{Kind}
use Rattle.judy_directory.specs.Kinds.{spot_of, is_gone, is_staying}
use Rattle.judy_directory.specs.Places.{Stand}
use Rattle.judy_directory.specs.Rooms.{alike, is_listed}
use Rattle.judy_directory.proofs.Listed.{alike-tied}
use Rattle.judy_directory.proofs.Owned.{owner-tenant}
use Rattle.judy_directory.proofs.Rooms.{one}
use Rattle.judy_directory.proofs.Leaving.{get-staying}
use Rattle.judy_directory.proofs.lemmas.Changes.{total}

-- whether a key is marked, by its tenant
pub gone-of : (gone : List Bool) (t : ℕ) (kind : Kind) (name : List ℕ) → is_gone gone (spot_of t kind name) ≡ get_or gone t false
gone-of gone t kind name = ap (λ n. get_or gone n false) (owner-tenant t kind)

-- a key that is marked has no place once the names are forgotten
pub gone-none : (gone : List Bool) (m : FinMap string_order Stand) (k : List ℕ) → is_gone gone k ≡ true → get (retain_keys m (is_staying gone)) k ≡ None
gone-none gone m k g = get-staying gone m k ∙ ap (λ b. cond b None (get m k)) g

-- the key's tenant is not marked, or the key is still to come
abbrev pub is_left : List Bool → List (List ℕ) → List ℕ → Bool
is_left gone ks k = is_staying gone k || is_listed k ks

or_some : (s : Bool) (o : Option Stand) → cond (s || is_some o) o None ≡ o
or_some true o = refl
or_some false None = refl
or_some false (Some p) = refl

or_nothing : (s : Bool) → (s || false) ≡ s
or_nothing true = refl
or_nothing false = refl

pick : (s b c : Bool) → (b ≡ true → s ≡ true) → (s || cond b true c) ≡ (s || c)
pick true b c h = refl
pick false true c h = absurd (false≢true (h refl))
pick false false c h = refl

module _ (gone : List Bool) (m : FinMap string_order Stand) where
  get-left : (ks : List (List ℕ)) (q : List ℕ) → get (retain_keys m (is_left gone ks)) q ≡ cond (is_left gone ks q) (get m q) None
  get-left ks q = get-retain_keys m (is_left gone ks) q (λ x t. ap (is_left gone ks) (sym (names_apart q x t)))

  -- at first all names are left
  pub left-all : (ks : List (List ℕ)) → ((k : List ℕ) → is_listed k ks ≡ contains_key m k) → retain_keys m (is_left gone ks) ≡ m
  left-all ks h = same_map total names_apart _ _ (λ q.
      get-left ks q ∙ ap (λ b. cond (is_staying gone q || b) (get m q) None) (h q) ∙ or_some (is_staying gone q) (get m q))

  -- at last the names of the other tenants are left
  pub left-none : retain_keys m (is_left gone []) ≡ retain_keys m (is_staying gone)
  left-none = same_map total names_apart _ _ (λ q.
      get-left [] q ∙ ap (λ b. cond b (get m q) None) (or_nothing (is_staying gone q))
      ∙ sym (get-retain_keys m (is_staying gone) q (λ x t. ap (is_staying gone) (sym (names_apart q x t)))))

  module _ (k : List ℕ) (ks : List (List ℕ)) where
    -- a name that is still to come has its place
    pub left-here : get (retain_keys m (is_left gone (k ∷ ks))) k ≡ get m k
    left-here =
        get-left (k ∷ ks) k ∙ ap (λ b. cond (is_staying gone k || cond b true (is_listed k ks)) (get m k) None) ((bytes_decides k k).1 refl)
        ∙ whole (is_staying gone k)
      where
        whole : (s : Bool) → cond (s || true) (get m k) None ≡ get m k
        whole true = refl
        whole false = refl

    -- a name of another tenant is left
    pub left-stays : is_gone gone k ≡ false → retain_keys m (is_left gone (k ∷ ks)) ≡ retain_keys m (is_left gone ks)
    left-stays stays = same_map total names_apart _ _ (λ q.
        get-left (k ∷ ks) q
        ∙ ap (λ b. cond b (get m q) None) (pick (is_staying gone q) (alike q k) (is_listed q ks) (λ e. ap (is_staying gone) (one q k e) ∙ ap not stays))
        ∙ sym (get-left ks q))

    -- a name of a marked tenant is forgotten
    pub left-gone : is_gone gone k ≡ true → is_listed k ks ≡ false
        → remove (retain_keys m (is_left gone (k ∷ ks))) k ≡ retain_keys m (is_left gone ks)
    left-gone leaves once = same_map total names_apart _ _ (λ q.
        get-remove total (retain_keys m (is_left gone (k ∷ ks))) k q
        ∙ ap (λ b. cond b None (get (retain_keys m (is_left gone (k ∷ ks))) q)) (sym (alike-tied q k))
        ∙ ap (cond (alike q k) None) (get-left (k ∷ ks) q)
        ∙ at_key q (alike q k) refl ∙ sym (get-left ks q))
      where
        at_key : (q : List ℕ) (b : Bool) → alike q k ≡ b
            → cond b None (cond (is_staying gone q || cond b true (is_listed q ks)) (get m q) None) ≡ cond (is_left gone ks q) (get m q) None
        at_key q true e =
            let same = one q k e in
            let s : is_staying gone q ≡ false = ap (is_staying gone) same ∙ ap not leaves in
            let n : is_listed q ks ≡ false = ap (λ x. is_listed x ks) same ∙ once in
            sym (ap (λ b. cond (b || is_listed q ks) (get m q) None) s ∙ ap (λ b. cond b (get m q) None) n)
        at_key q false e = refl
