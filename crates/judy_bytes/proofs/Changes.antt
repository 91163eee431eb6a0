-- From the calls of the layers below to a change of the whole map.
use Rattle.std.proofs.Common.{◌≡◌, ◌≢◌, ℕ, Bool, true, false, cond, not, ◌&&◌, ◌||◌, ◌==◌, List, [], Option, Some, None}
use Rattle.std.proofs.Common.{is_some, ap, sym, ◌∙◌, refl, subst, unwrap_or, arith}
use Rattle.std.proofs.lemmas.Bool.Decides.{nat_tests}
use Rattle.std.specs.Ordering.{eq_by_cmp}
use Rattle.std.specs.Cmp.{nat_cmp_total}
use Rattle.std.specs.FinMap.Entries.{find-put}
use Rattle.std.proofs.lemmas.Bool.{false≢true as not-true}
use Rattle.std.proofs.lemmas.Option.{none-some}
use Rattle.judy_arena.specs.Blocks.{Blocks, ArenaState, without}
use Rattle.judy_tree.specs.Changes.{IsRefused}
use Rattle.judy_tree.proofs.lemmas.Joins.{find-without}
use Rattle.judy_arena.specs.Frame.{Frame, holds}
use Rattle.judy_refs.specs.References.{is_reference, number_of}
use Rattle.judy_arena.proofs.lemmas.FrameLaws.{frame-same, frame-then, undone}
use Rattle.judy_words.specs.LongArrays.{IsLongArray, long_in, long_numbers}
use Rattle.judy_model.specs.Contents.{Entries, word_order, string_order, value_of, has_key, with_entry, without_key}
use Rattle.judy_model.specs.Tenant.Reports.{ReportsValue}
use Rattle.judy_model.specs.Tenant.{insert, insert_over, value_after, value_replied}
use Rattle.judy_model.specs.declared.calls.Given.{Given}
use Rattle.judy_model.specs.declared.calls.Given.TheVariants.{Value}
use Rattle.judy_model.proofs.lemmas.EntryLemmas.{same_word}
use Rattle.judy_model.specs.declared.replies.Reply.TheVariants as reply
use Rattle.judy_bytes.specs.Chains.{ByteEntries, chain, bucket_entries, ChainBecomes, IsNewBucket}
use Rattle.judy_bytes.specs.BytesArrays.{in_order, bucket_numbers, bytes_in, bytes_numbers, first_at, if_some, IsBytesArray}
use Rattle.judy_bytes.specs.BytesArrays.{WordsBecome, KeyBecomes, BytesBecomes}
use Rattle.judy_bytes.proofs.Below.{words-live, words-none}
use Rattle.judy_bytes.proofs.Links.{chain-none, none-chain, chain-reference}
use Rattle.judy_bytes.proofs.Maps.{words-rest, map-becomes}
use Rattle.judy_bytes.proofs.Numbers.{content-found, map-live}

pub some-of : (v : ℕ) → v ≢ 0 → if_some v ≡ Some v
some-of v ne = ap (λ t. cond t None (Some v)) (other v ne)
  where
    other : (v : ℕ) → v ≢ 0 → (v == 0) ≡ false
    other v h = grind (arith, nat_tests)

-- ---- the JudyL

pub words-put : (a c : Blocks) (w x h v : ℕ) → IsLongArray c x → Frame a c (long_numbers a w) (long_numbers c x) → long_in c x ≡ with_entry
    word_order (long_in a w) h v → v ≢ 0 → WordsBecome a c w x h (if_some v)
words-put a c w x h v sound f e some = record {
  sound = sound;
  frame = f;
  found = λ k. ap (λ es. value_of word_order es k) e ∙ find-put word_order nat_cmp_total k h v (long_in a w)
      ∙ ap (λ o. cond (eq_by_cmp word_order k h) o (value_of word_order (long_in a w) k)) (sym (some-of v some));
}

pub words-drop : (a c : Blocks) (w x h v : ℕ) → IsLongArray c x → Frame a c (long_numbers a w) (long_numbers c x)
    → long_in c x ≡ without_key word_order (long_in a w) h → v ≡ 0 → WordsBecome a c w x h (if_some v)
words-drop a c w x h v sound f e none = record {
  sound = sound;
  frame = f;
  found = λ k. ap (λ es. value_of word_order es k) e ∙ find-without (long_in a w) h k
      ∙ ap (λ u. cond (eq_by_cmp word_order k h) (if_some u) (value_of word_order (long_in a w) k)) (sym none);
}

pub entered : (l m : Entries ℕ) (h v r : ℕ) → value_of word_order l h ≡ None → insert word_order true l h (Value v) ReportsValue
    ≡ (reply.Value r, m) → m ≡ with_entry word_order l h v
entered l m h v r none e =
    let f : insert_over word_order true l h (Value v) ReportsValue None ≡ (reply.Value r, m) = ap (insert_over word_order true l h (Value v) ReportsValue) (sym none) ∙ e in
    sym (ap (λ p. p.1) f)

-- ---- the whole map

pub first-reference : (H : List ℕ → ℕ) (a : Blocks) (w h : ℕ) → IsBytesArray H a w → is_reference (first_at a w h) ≡ true
first-reference H a w h sound = chain-reference a (first_at a w h) (sound.chains h)

-- what is found in the map is what is found in the chain
pub map-found : (H : List ℕ → ℕ) (a : Blocks) (w first h : ℕ) (key : List ℕ) → h ≡ H key → IsBytesArray H a w → first ≡ first_at a w h
    → value_of string_order (bytes_in a w) key ≡ value_of string_order (bucket_entries a (chain a first)) key
map-found H a w first h key eh sound at = content-found H a w key sound
    ∙ ap (λ k. value_of string_order (bucket_entries a (chain a (first_at a w k))) key) (sym eh)
    ∙ ap (λ f. value_of string_order (bucket_entries a (chain a f)) key) (sym at)

module _ (H : List ℕ → ℕ) (a m : Blocks) (w first h v : ℕ) (key : List ℕ) (new : Option ℕ) (eh : h ≡ H key)
    (sound : IsBytesArray H a w) (at : first ≡ first_at a w h) (ch : ChainBecomes a m first v key new) where
  there : ChainBecomes a m (first_at a w h) v key new
  there = subst (λ f. ChainBecomes a m f v key new) at ch

  rests : IsLongArray m w × (long_in m w ≡ long_in a w) × (long_numbers m w ≡ long_numbers a w)
  rests = words-rest H a m w key new h v sound there

  pub still-words : IsLongArray m w
  still-words = rests.0

  value-at : value_of word_order (long_in m w) h ≡ if_some first
  value-at = ap (λ es. value_of word_order es h) rests.1 ∙ sound.filled h ∙ ap if_some (sym at)

  pub still-there : first ≢ 0 → has_key word_order (long_in m w) h ≡ true
  still-there ne = ap is_some (value-at ∙ some-of first ne)

  pub still-absent : first ≡ 0 → value_of word_order (long_in m w) h ≡ None
  still-absent e = value-at ∙ ap if_some e

  pub changed : (c : Blocks) (x : ℕ) → WordsBecome m c w x h (if_some v) → KeyBecomes H a c w x key new
  changed c x wb = map-becomes H a m w key new h v sound there c x wb (sym eh)

  -- where the chain keeps its first bucket, the JudyL need not change
  pub in-place : v ≡ first → KeyBecomes H a m w w key new
  in-place same = changed m w (record {
    sound = still-words;
    frame = frame-same m (long_numbers m w) (words-live m w still-words);
    found = λ k. elim (eq_by_cmp word_order k h) as (λ t. eq_by_cmp word_order k h ≡ t → value_of word_order (long_in m w) k ≡ cond
        t (if_some v) (value_of word_order (long_in m w) k)) [
          | true ↦ λ e. ap (value_of word_order (long_in m w)) (same_word k h e) ∙ value-at ∙ ap if_some (sym same)
          | false ↦ λ e. refl
        ] refl;
  })

-- a map that stays as it is
pub unchanged : (H : List ℕ → ℕ) (a c : Blocks) (w : ℕ) → IsBytesArray H a w → c ≡ a → Frame a c (bytes_numbers a w) (bytes_numbers c w)
unchanged H a c w sound e = subst (λ b. Frame a b (bytes_numbers a w) (bytes_numbers b w)) (sym e)
    (frame-same a (bytes_numbers a w) (λ q i. map-live H a w q sound i))

-- a bucket that was taken and given up again
pub taken-back : (a b m c : Blocks) (x : ℕ) → IsNewBucket a b x → m ≡ b → c ≡ without m (number_of x) → c ≡ a
taken-back a b m c x new e gone = undone a b c (number_of x) new.frame (gone ∙ ap (λ y. without y (number_of x)) e)

-- ---- the empty map

pub none-map : (H : List ℕ → ℕ) (b : Blocks) → IsBytesArray H b 0
none-map H b =
    let n = words-none b in
    let first : (h : ℕ) → first_at b 0 h ≡ 0 = λ h. ap (λ es. unwrap_or (value_of word_order es h) 0) n.1 in
    let chain-is : (h : ℕ) → chain b (first_at b 0 h) ≡ [] = λ h. chain-none b (first_at b 0 h) (first h) in
    record {
      words = n.0;
      chains = λ h. none-chain b (first_at b 0 h) (first h);
      filled = λ h. ap (λ es. value_of word_order es h) n.1 ∙ ap if_some (sym (first h));
      hashes = λ h k v i. absurd (none-some _ (ap (λ ns. value_of string_order (bucket_entries b ns) k) (sym (chain-is h)) ∙ i));
      apart = λ h k q i j. absurd (not-true (ap (holds q) (sym (chain-is h)) ∙ i));
      below = λ h q i. absurd (not-true (ap (holds q) (sym (chain-is h)) ∙ i));
    }

pub none-content : (b : Blocks) → bytes_in b 0 ≡ []
unfolding bytes_in
none-content b = ap (λ es. in_order (bucket_entries b (bucket_numbers b es))) (words-none b).1

-- ---- answers

pub insert-new : (l m : ByteEntries) (key : List ℕ) (given : Given) → value_of string_order l key ≡ None → m ≡ with_entry
    string_order l key (value_after given 0) → insert string_order true l key given ReportsValue ≡ (reply.Value (value_replied given 0), m)
insert-new l m key given none e =
    ap (insert_over string_order true l key given ReportsValue) none ∙ ap (λ x. (reply.Value (value_replied given 0), x)) (sym e)

pub insert-present : (l m : ByteEntries) (key : List ℕ) (given : Given) (v : ℕ) → value_of string_order l key ≡ Some v
    → m ≡ with_entry string_order l key (value_after given v) → insert string_order true l key given ReportsValue ≡ (reply.Value (value_replied given v), m)
insert-present l m key given v some e =
    ap (insert_over string_order true l key given ReportsValue) some ∙ ap (λ x. (reply.Value (value_replied given v), x)) (sym e)

-- a chain that has a key is not nothing
pub some-first : (a : Blocks) (first : ℕ) (key : List ℕ) → has_key string_order (bucket_entries a (chain a first)) key ≡ true → first ≢ 0
some-first a first key there e = not-true (ap (λ ns. has_key string_order (bucket_entries a ns) key) (sym (chain-none a first e)) ∙ there)

-- a refusal leaves the map
pub refused-becomes : (H : List ℕ → ℕ) (a b : ArenaState) (w x : ℕ) → IsBytesArray H a.blocks w → IsRefused a w b x → BytesBecomes H a w b x
refused-becomes H a b w x sound r =
    let same : BytesBecomes H a w b w = record {
      sound = subst (λ y. IsBytesArray H y w) (sym r.blocks) sound;
      frame = unchanged H
          a.blocks b.blocks w sound r.blocks;
    } in
    subst (BytesBecomes H a w b) (sym r.word) same

-- the keys of a chain have its hash word
pub hash-of : (H : List ℕ → ℕ) (a : Blocks) (w first h : ℕ) (key : List ℕ) → IsBytesArray H a w → first ≡ first_at a w h
    → has_key string_order (bucket_entries a (chain a first)) key ≡ true → h ≡ H key
hash-of H a w first h key sound at there =
    with-value (value_of string_order (bucket_entries a (chain a first)) key) there
    (λ v i. sym (sound.hashes h key v (ap (λ f. value_of string_order (bucket_entries a (chain a f)) key) (sym at) ∙ i))) refl
  where
    with-value : {P : Type 0} (o : Option ℕ) → is_some o ≡ true → ((v : ℕ) → value_of string_order (bucket_entries a (chain a first))
        key ≡ Some v → P) → value_of string_order (bucket_entries a (chain a first)) key ≡ o → P
    with-value None h f e = absurd (not-true h)
    with-value (Some v) h f e = f v e

-- a hash word that is there leads to a bucket
pub there-some : (H : List ℕ → ℕ) (a : Blocks) (w h : ℕ) → IsBytesArray H a w → has_key word_order (long_in a w) h ≡ true → first_at a w h ≢ 0
there-some H a w h sound there e = not-true (ap is_some (sym (sound.filled h ∙ ap if_some e)) ∙ there)

-- a map with no hash word holds nothing
pub empty-content : (a : Blocks) (w : ℕ) → long_in a w ≡ [] → bytes_in a w ≡ []
unfolding bytes_in
empty-content a w e = ap (λ es. in_order (bucket_entries a (bucket_numbers a es))) e

-- two changes of one map in a row
pub frames-join : (a b c : Blocks) (os ms ns : List ℕ) → Frame a b os ms → Frame b c ms ns → Frame a c os ns
frames-join a b c os ms ns f g = frame-then a b c os ms ms ns os ns f g (λ q. rejoin (holds q os) (holds q ms)) (λ q. rejoin (holds q ns) (holds q ms))
  where
    rejoin : (s t : Bool) → s ≡ (s || (t && not t))
    rejoin true t = refl
    rejoin false true = refl
    rejoin false false = refl
