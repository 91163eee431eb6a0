-- The places, including that of the name used last, and how they change.
use Rattle.std.proofs.Common.{◌≡◌, ℕ, ◌+◌, Bool, true, false, cond, List, Option, Some, None, is_some, IsTrue, ap, sym, ◌∙◌, refl}
use Rattle.std.proofs.lemmas.Bool.{false≢true}
use Rattle.std.specs.Option.{option_or}
use Rattle.std.specs.Cmp.Lexicographic.{bytes_decides, nat_list_eq_equiv}
use Rattle.std.specs.Ordering.{eq_by_cmp}
use Rattle.std.specs.FinMap.{FinMap, get, insert, remove, len, contains_key, retain_keys, get-insert, get-remove, len-insert, same_map}
use Rattle.judy_model.specs.Contents.{string_order}
use Rattle.judy_model.proofs.lemmas.FormLemmas.{names_apart}
use Rattle.judy_directory.specs.declared.recent.Recent.{Recent}
use Rattle.judy_directory.specs.Places.{Stand}
use Rattle.judy_directory.specs.Rooms.{alike}
use Rattle.judy_directory.specs.Recent.{recent_at, with_recent, without_recent, without_gone, has_recent}
use Rattle.judy_directory.specs.Kinds.{is_gone, is_staying}
use Rattle.judy_directory.proofs.Leaving.{get-staying}
use Rattle.judy_directory.proofs.Listed.{alike-tied}
use Rattle.judy_directory.proofs.Rooms.{one, none_before}
use Rattle.judy_directory.proofs.lemmas.Changes.{total}
use Rattle.judy_arena.proofs.lemmas.BlockLaws.{twice}

-- keys are alike if they compare equal, in the other order
pub tied-alike : (q k : List ℕ) → eq_by_cmp string_order q k ≡ alike k q
tied-alike q k = sym (alike-tied q k) ∙ nat_list_eq_equiv.symm q k

-- a choice is one option or else the other
or_cond : {A : Type 0} (b : Bool) (x : A) (o : Option A) → cond b (Some x) o ≡ option_or (cond b (Some x) None) o
or_cond true x o = refl
or_cond false x o = refl

-- a value that is present stays present
stays : {A : Type 0} (b : Bool) (x : A) (o : Option A) → is_some o ≡ true → is_some (cond b (Some x) o) ≡ true
stays true x o h = refl
stays false x o h = h

-- a choice of None twice
nothing_left : {A : Type 0} (b : Bool) (o : Option A) → None ≡ cond b None (cond b o None)
nothing_left true o = refl
nothing_left false o = refl

-- None, whichever is chosen
nothing_twice : {A : Type 0} (b : Bool) → ◌≡◌ {A = Option A} None (cond b None None)
nothing_twice true = refl
nothing_twice false = refl

-- an option that is not Some is None
pub none_of : {A : Type 0} (o : Option A) → is_some o ≡ false → o ≡ None
none_of None h = refl
none_of (Some x) h = cc

-- the place at a key
pub get-recent : (r : Option Recent) (m : FinMap string_order Stand) (q : List ℕ) → get (with_recent r m) q ≡ option_or (recent_at r q) (get m q)
get-recent None m q = refl
get-recent (Some r) m q =
    get-insert total m r.spot r.place q ∙ ap (λ b. cond b (Some r.place) (get m q)) (tied-alike q r.spot)
    ∙ or_cond (alike r.spot q) r.place (get m q)

-- the place at the key used last
pub get-found : (r : Option Recent) (m : FinMap string_order Stand) (q : List ℕ) (v : Stand) → recent_at r q ≡ Some v → get (with_recent r m) q ≡ Some v
get-found r m q v e = get-recent r m q ∙ ap (λ o. option_or o (get m q)) e

-- the number of keys
pub len-recent : (r : Option Recent) (m : FinMap string_order Stand) → IsTrue (has_recent r m) → len (with_recent r m) ≡ len m
len-recent None m h = refl
len-recent (Some r) m h = len-insert total m r.spot r.place ∙ ap (λ b. cond b (len m) (len m + 1)) h

-- after two writes at one key, the second place is there
pub insert-twice : (m : FinMap string_order Stand) (k : List ℕ) (v w : Stand) → insert (insert m k v) k w ≡ insert m k w
insert-twice m k v w = same_map total names_apart _ _ (λ q.
    get-insert total (insert m k v) k w q ∙ ap (cond (eq_by_cmp string_order q k) (Some w)) (get-insert total m k v q)
    ∙ twice (eq_by_cmp string_order q k) (Some w) (Some v) (get m q) ∙ sym (get-insert total m k w q))

module _ (m : FinMap string_order Stand) (k : List ℕ) where
  -- the key used last is written
  pub recent-set : (r : Option Recent) (v : Stand) → is_some (recent_at r k) ≡ true → insert m k v ≡ insert (with_recent r m) k v
  recent-set None v h = cc
  recent-set (Some r) v h = is_it (alike r.spot k) refl h
    where
      is_it : (b : Bool) → alike r.spot k ≡ b → is_some (cond b (Some r.place) None) ≡ true → insert m k v ≡ insert (insert m r.spot r.place) k v
      is_it true e i = sym (insert-twice m k r.place v) ∙ ap (λ x. insert (insert m x r.place) k v) (sym (one r.spot k e))
      is_it false e i = cc

  -- the key used last is present
  pub has-recent : (r : Option Recent) → IsTrue (has_recent r m) → is_some (recent_at r k) ≡ true → IsTrue (contains_key m k)
  has-recent None h i = cc
  has-recent (Some r) h i = is_it (alike r.spot k) refl i
    where
      is_it : (b : Bool) → alike r.spot k ≡ b → is_some (cond b (Some r.place) None) ≡ true → IsTrue (contains_key m k)
      is_it true e j = ap (contains_key m) (sym (one r.spot k e)) ∙ h
      is_it false e j = cc

  -- writing the place that is there changes nothing
  pub insert-same : (v : Stand) → get m k ≡ Some v → m ≡ insert m k v
  insert-same v e = same_map total names_apart _ _ (λ q. at_key q (alike k q) refl ∙ ap (λ b. cond b (Some v) (get m q))
      (sym (tied-alike q k)) ∙ sym (get-insert total m k v q))
    where
      at_key : (q : List ℕ) (b : Bool) → alike k q ≡ b → get m q ≡ cond b (Some v) (get m q)
      at_key q true a = ap (get m) (sym (one k q a)) ∙ e
      at_key q false a = refl

  -- a present key stays present when another key is written
  pub has-insert : (r : Option Recent) (v : Stand) → IsTrue (has_recent r m) → IsTrue (has_recent r (insert m k v))
  has-insert None v h = refl
  has-insert (Some r) v h = ap is_some (get-insert total m k v r.spot) ∙ stays (eq_by_cmp string_order r.spot k) v (get m r.spot) h

  -- a written key is present
  pub has-key : (v : Stand) → IsTrue (contains_key (insert m k v) k)
  has-key v = ap is_some (get-insert total m k v k) ∙ ap (λ b. is_some (cond b (Some v) (get m k))) (tied-alike k k ∙ (bytes_decides k k).1 refl)

  module _ (r : Option Recent) (other : recent_at r k ≡ None) where
    -- the place at a key other than the one used last
    pub get-other : get (with_recent r m) k ≡ get m k
    get-other = get-recent r m k ∙ ap (λ o. option_or o (get m k)) other

    -- another key is written
    pub recent-insert : (v : Stand) → with_recent r (insert m k v) ≡ insert (with_recent r m) k v
    recent-insert v = same_map total names_apart _ _ (λ q.
        get-recent r (insert m k v) q ∙ ap (option_or (recent_at r q)) (get-insert total m k v q ∙ ap (λ b. cond b (Some v) (get m q)) (tied-alike q k))
        ∙ at_key q (alike k q) refl
        ∙ ap (λ b. cond b (Some v) (option_or (recent_at r q) (get m q))) (sym (tied-alike q k))
        ∙ ap (cond (eq_by_cmp string_order q k) (Some v)) (sym (get-recent r m q)) ∙ sym (get-insert total (with_recent r m) k v q))
      where
        at_key : (q : List ℕ) (b : Bool) → alike k q ≡ b → option_or (recent_at r q) (cond b (Some v) (get m q)) ≡ cond b (Some v)
            (option_or (recent_at r q) (get m q))
        at_key q true a = ap (λ o. option_or o (Some v)) (ap (recent_at r) (sym (one k q a)) ∙ other)
        at_key q false a = refl

    -- another key is written, and is then the one used last
    pub recent-taken : (v : Stand) → insert (with_recent r (insert m k v)) k v ≡ insert (with_recent r m) k v
    recent-taken v = ap (λ x. insert x k v) (recent-insert v) ∙ insert-twice (with_recent r m) k v v

  -- the place of the name used last, after a key is removed
  at-without : (r : Option Recent) (q : List ℕ) → recent_at (without_recent r k) q ≡ cond (alike k q) None (recent_at r q)
  at-without None q = nothing_twice (alike k q)
  at-without (Some r) q = is_it (alike r.spot k) refl
    where
      is_it : (b : Bool) → alike r.spot k ≡ b → recent_at (cond b None (Some r)) q ≡ cond (alike k q) None (cond (alike r.spot q) (Some r.place) None)
      is_it true e = nothing_left (alike k q) (Some r.place) ∙ ap (λ x. cond (alike k q) None (cond (alike x q) (Some r.place) None)) (sym (one r.spot k e))
      is_it false e = at_key (alike k q) refl
        where
          at_key : (b : Bool) → alike k q ≡ b → cond (alike r.spot q) (Some r.place) None ≡ cond b None (cond (alike r.spot q) (Some r.place) None)
          at_key true a = ap (λ x. cond (alike r.spot x) (Some r.place) None) (sym (one k q a)) ∙ ap (λ b. cond b (Some r.place) None) e
          at_key false a = refl

  -- a key is removed
  pub recent-remove : (r : Option Recent) → with_recent (without_recent r k) (remove m k) ≡ remove (with_recent r m) k
  recent-remove r = same_map total names_apart _ _ (λ q.
      get-recent (without_recent r k) (remove m k) q
      ∙ ap (λ o. option_or o (get (remove m k) q)) (at-without r q)
      ∙ ap (option_or (cond (alike k q) None (recent_at r q))) (get-remove total m k q ∙ ap (λ b. cond b None (get m q)) (tied-alike q k))
      ∙ none_before (alike k q) (recent_at r q) (get m q)
      ∙ ap (λ b. cond b None (option_or (recent_at r q) (get m q))) (sym (tied-alike q k))
      ∙ ap (cond (eq_by_cmp string_order q k) None) (sym (get-recent r m q)) ∙ sym (get-remove total (with_recent r m) k q))

  -- a present key stays present when another key is removed
  pub has-without : (r : Option Recent) → IsTrue (has_recent r m) → IsTrue (has_recent (without_recent r k) (remove m k))
  has-without None h = refl
  has-without (Some r) h = is_it (alike r.spot k) refl
    where
      is_it : (b : Bool) → alike r.spot k ≡ b → has_recent (cond b None (Some r)) (remove m k) ≡ true
      is_it true e = refl
      is_it false e = ap is_some (get-remove total m k r.spot ∙ ap (λ b. cond b None (get m r.spot)) (sym (alike-tied r.spot k) ∙ e)) ∙ h

-- a key that is present is present with that of the name used last
pub with-key : (r : Option Recent) (m : FinMap string_order Stand) (q : List ℕ) → IsTrue (contains_key m q) → IsTrue (contains_key (with_recent r m) q)
with-key r m q h = ap is_some (get-recent r m q) ∙ either (recent_at r q) (get m q) h
  where
    either : (o p : Option Stand) → is_some p ≡ true → is_some (option_or o p) ≡ true
    either None p g = g
    either (Some v) p g = refl

-- a key that is absent is absent with that of the name used last
pub with-none : (r : Option Recent) (m : FinMap string_order Stand) (q : List ℕ) → IsTrue (has_recent r m) → get m q ≡ None
    → get (with_recent r m) q ≡ None
with-none r m q h e = get-recent r m q ∙ ap (λ o. option_or o (get m q)) (none_of (recent_at r q) (by (is_some (recent_at r q)) refl)) ∙ e
  where
    by : (b : Bool) → is_some (recent_at r q) ≡ b → is_some (recent_at r q) ≡ false
    by false g = g
    by true g = let there = has-recent m q r h g in let absent = ap is_some e in absurd (false≢true (sym absent ∙ there))

-- a key is present with that of the name used last if it is present
pub same-keys : (r : Option Recent) (m : FinMap string_order Stand) (q : List ℕ) → IsTrue (has_recent r m)
    → contains_key m q ≡ contains_key (with_recent r m) q
same-keys r m q h = by (contains_key m q) refl
  where
    by : (b : Bool) → contains_key m q ≡ b → contains_key m q ≡ contains_key (with_recent r m) q
    by true e = e ∙ sym (with-key r m q e)
    by false e = e ∙ sym (ap is_some (with-none r m q h (none_of (get m q) e)))

-- ---- the names of some tenants are forgotten

module _ (gone : List Bool) (m : FinMap string_order Stand) where
  at-gone : (r : Option Recent) (q : List ℕ) → recent_at (without_gone gone r) q ≡ cond (is_gone gone q) None (recent_at r q)
  at-gone None q = nothing_twice (is_gone gone q)
  at-gone (Some r) q = is_it (is_gone gone r.spot) refl
    where
      is_it : (b : Bool) → is_gone gone r.spot ≡ b
          → recent_at (cond b None (Some r)) q ≡ cond (is_gone gone q) None (cond (alike r.spot q) (Some r.place) None)
      is_it true e = at_key (alike r.spot q) refl
        where
          at_key : (b : Bool) → alike r.spot q ≡ b → None ≡ cond (is_gone gone q) None (cond b (Some r.place) None)
          at_key true a = ap (λ x. cond x None (Some r.place)) (sym (ap (is_gone gone) (sym (one r.spot q a)) ∙ e))
          at_key false a = nothing_twice (is_gone gone q)
      is_it false e = at_key (alike r.spot q) refl
        where
          at_key : (b : Bool) → alike r.spot q ≡ b → cond b (Some r.place) None ≡ cond (is_gone gone q) None (cond b (Some r.place) None)
          at_key true a = ap (λ x. cond x None (Some r.place)) (sym (ap (is_gone gone) (sym (one r.spot q a)) ∙ e))
          at_key false a = nothing_twice (is_gone gone q)

  pub recent-gone : (r : Option Recent) → with_recent (without_gone gone r) (retain_keys m (is_staying gone))
      ≡ retain_keys (with_recent r m) (is_staying gone)
  recent-gone r = same_map total names_apart _ _ (λ q.
      get-recent (without_gone gone r) (retain_keys m (is_staying gone)) q
      ∙ ap (λ o. option_or o (get (retain_keys m (is_staying gone)) q)) (at-gone r q)
      ∙ ap (option_or (cond (is_gone gone q) None (recent_at r q))) (get-staying gone m q)
      ∙ none_before (is_gone gone q) (recent_at r q) (get m q)
      ∙ ap (cond (is_gone gone q) None) (sym (get-recent r m q))
      ∙ sym (get-staying gone (with_recent r m) q))

  -- the name used last stays among the places, if its tenant stays
  pub has-gone : (r : Option Recent) → IsTrue (has_recent r m) → IsTrue (has_recent (without_gone gone r) (retain_keys m (is_staying gone)))
  has-gone None h = refl
  has-gone (Some r) h = is_it (is_gone gone r.spot) refl
    where
      is_it : (b : Bool) → is_gone gone r.spot ≡ b → has_recent (cond b None (Some r)) (retain_keys m (is_staying gone)) ≡ true
      is_it true e = refl
      is_it false e = ap is_some (get-staying gone m r.spot ∙ ap (λ b. cond b None (get m r.spot)) e) ∙ h
