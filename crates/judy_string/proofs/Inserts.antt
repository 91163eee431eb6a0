-- A string is entered at a node: as a last word, as a new word, below a word, or at a suffix.
use Rattle.std.proofs.Common.{◌≡◌, ◌≢◌, ℕ, suc, ◌+◌, ◌-◌, ◌*◌, ◌^◌, ◌<◌, ◌≤◌, true, false, cond, ◌==◌, List, [], ◌∷◌, take}
use Rattle.std.proofs.Common.{drop, length, get_or, Option, Some, None, is_some, unwrap_or, ap, sym, ◌∙◌, refl, subst, arith}
use Rattle.std.specs.Prelude.{slice_set}
use Rattle.std.proofs.lemmas.Bool.Decides.{nat_tests}
use Rattle.std.specs.Cmp.{tied_itself}
use Rattle.std.specs.Cmp.Lexicographic.{nat_list_cmp_total}
use Rattle.std.specs.Ordering.{eq_by_cmp}
use Rattle.std.specs.FinMap.Entries.{by_order}
use Rattle.std.proofs.lemmas.Bool.{false≢true as not_true}
use Rattle.judy_arena.specs.Blocks.{Blocks, ArenaState, block, is_live, put, words_of, without}
use Rattle.judy_arena.specs.Frame.{Frame}
use Rattle.judy_arena.specs.Room.{room}
use Rattle.judy_refs.specs.References.{number_of}
use Rattle.judy_arena.proofs.lemmas.BlockLaws.{block-put, words-at}
use Rattle.judy_arena.proofs.lemmas.RoomLaws.{room-least}
use Rattle.judy_arena.proofs.lemmas.FrameLaws.{frame-put, frame-stays}
use Rattle.judy_model.specs.Contents.{string_order, word_order, value_of, has_key, with_entry}
use Rattle.judy_model.specs.declared.calls.Given.{Given}
use Rattle.judy_model.specs.declared.calls.Given.TheVariants.{Value}
use Rattle.judy_model.specs.Tenant.{value_after}
use Rattle.judy_model.proofs.lemmas.EntryLemmas.{same_string, string_is}
use Rattle.judy_tree.specs.Root.{entries}
use Rattle.judy_packing.specs.Packing.{pack, IsString, packed}
use Rattle.judy_string.specs.Changes.{IsRest, IsRewritten, IsHung, HasEntered, IsTurnedAway, with_given, entered}
use Rattle.judy_string.specs.Suffixes.{is_suffix, suffix_entry, suffix_words, suffix_string, suffix_size, packed_suffix, IsSuffix}
use Rattle.judy_string.specs.Strings.{Strings, IsChanged, nested_content_at, nested_numbers_at, IsNestedAt}
use Rattle.judy_string.proofs.Maps.{map-kind}
use Rattle.judy_string.proofs.Suffixes.{suffix-some}
use Rattle.judy_string.proofs.Nests.{suffix-of, of-suffix, suffix-content, suffix-numbers}
use Rattle.judy_string.proofs.Levels.{zero-array}
use Rattle.judy_string.proofs.Splits.{replaced}
use Rattle.judy_string.proofs.Steps.{step-none, step-last, last-put, step-inner, step-stays, step-with}
use Rattle.judy_string.proofs.Rewrites.{rewritten-same}
use Rattle.judy_string.proofs.Options.{a-value}

record First (ws : List ℕ) (x : ℕ) : Type 0 where
  pub string : suffix_string (slice_set ws 0 x) ≡ suffix_string ws
  pub size : suffix_size (slice_set ws 0 x) ≡ suffix_size ws
  pub value : get_or (slice_set ws 0 x) 0 0 ≡ x
  pub rest : drop 2 (slice_set ws 0 x) ≡ drop 2 ws
  pub length : length (slice_set ws 0 x) ≡ length ws

set-first : (ws : List ℕ) (x : ℕ) → 1 < length ws → First ws x
unfolding suffix_string
set-first [] x h = absurd (omega arith)
set-first (y ∷ []) x h = absurd (omega arith)
set-first (y ∷ z ∷ ws) x h = record { string = refl; size = refl; value = refl; rest = refl; length = refl }

module _ (r : ℕ) (a c : ArenaState) (w : ℕ) (s : List ℕ) (rest : IsRest r s) (node : IsNestedAt (suc r) a.blocks w) (given : Given) where
  -- ---- at a word array

  module _ (no : is_suffix w ≡ false) where
    pub entered-last : length s < 8 → (x : ℕ) (before : Option ℕ) → IsRewritten a.blocks c.blocks w x
        (with_given word_order (entries true a.blocks w) (pack s) given)
        → before ≡ value_of word_order (entries true a.blocks w) (pack s) → c.refusals ≡ a.refusals → HasEntered (suc r) a c w s given x before
    entered-last few x before h told quiet =
        let same = step-last r a.blocks w s rest node no few in
        record {
          changed = subst (λ o. IsChanged (suc r) a.blocks c.blocks w x (with_entry string_order (nested_content_at (suc r) a.blocks w) s
              (entered o given))) (sym same) (last-put r a.blocks w s rest node no few c.blocks x _ h);
          before = told ∙ sym same;
          kind = λ _. map-kind c.blocks x h.root;
          quiet = quiet;
        }

    pub entered-new : value_of word_order (entries true a.blocks w) (pack s) ≡ None → (x : ℕ) → IsHung (suc r) a.blocks c.blocks w
        s (value_after given 0) x → c.refusals ≡ a.refusals → HasEntered (suc r) a c w s given x None
    entered-new at x h quiet =
        let none = step-none r a.blocks w s rest node no at in
        record {
          changed = subst (λ o. IsChanged (suc r) a.blocks c.blocks w x (with_entry string_order (nested_content_at (suc r) a.blocks w) s
              (entered o given))) (sym none) h.changed;
          before = sym none;
          kind = λ _. h.kind;
          quiet = quiet;
        }

    pub entered-below : (b : ArenaState) (u y : ℕ) (before : Option ℕ) → 8 ≤ length s → value_of word_order (entries true a.blocks w) (pack s) ≡ Some u
        → HasEntered (suc (r - 1)) a b u (drop 8 s) given y before → IsRewritten b.blocks c.blocks w w
        (with_entry word_order (entries true b.blocks w) (pack s) y) → c.refusals ≡ b.refusals → HasEntered (suc r) a c w s
        given w before
    entered-below b u y before long at below h quiet =
        let same = step-inner r a.blocks w s rest node no long u at in
        record {
          changed = subst (λ o. IsChanged (suc r) a.blocks c.blocks w w (with_entry string_order (nested_content_at (suc r) a.blocks w) s
              (entered o given))) (sym same)
              (step-with r a.blocks w s rest node no long u at b.blocks c.blocks w y _ below.changed h);
          before = below.before ∙ sym same;
          kind = λ e. e;
          quiet = quiet ∙ below.quiet;
        }

  -- ---- at a suffix

  module _ (yes_ : is_suffix w ≡ true) where
    its_value : value_of string_order (nested_content_at (suc r) a.blocks w) s ≡ value_of string_order (suffix_entry a.blocks w ∷ []) s
    its_value = ap (λ l. value_of string_order l s) (suffix-content r a.blocks w yes_)

    -- another string: both stand in an array in its place
    pub entered-split : (b : ArenaState) (x : ℕ) → value_of string_order (suffix_entry a.blocks w ∷ []) s ≡ None
        → IsChanged (suc r) a.blocks b.blocks 0 x (with_entry string_order (suffix_entry a.blocks w ∷ []) s (value_after given 0))
        → c.blocks ≡ without b.blocks (number_of w) → c.refusals ≡ a.refusals → HasEntered (suc r) a c w s given x None
    entered-split b x at ch gone quiet = record {
      changed = subst (λ o. IsChanged (suc r) a.blocks c.blocks w x (with_entry string_order (nested_content_at (suc r) a.blocks w) s
          (entered o given))) (sym (its_value ∙ at))
          (replaced r a.blocks b.blocks c.blocks w x _ yes_ node
          (subst (λ l. IsChanged (suc r) a.blocks b.blocks 0 x (with_entry string_order l s (value_after given 0)))
          (sym (suffix-content r a.blocks w yes_)) ch) gone);
      before = sym (its_value ∙ at);
      kind = λ no. absurd (not_true (sym no ∙ yes_));
      quiet = quiet;
    }

    -- the same string: its value changes
    pub entered-same : (v : ℕ) → value_after given v < 2 ^ 64 → value_of string_order (suffix_entry a.blocks w ∷ []) s ≡ Some v
        → c.blocks ≡ put a.blocks (number_of w) (slice_set (words_of a.blocks (number_of w)) 0 (value_after given v))
        → c.refusals ≡ a.refusals → HasEntered (suc r) a c w s given w (Some v)
    entered-same v low at set quiet =
        let sound = suffix-of r a.blocks w yes_ node in
        let n = number_of w in
        let ws = suffix_words a.blocks w in
        let new = value_after given v in
        let words : suffix_words c.blocks w ≡ slice_set (suffix_words a.blocks w) 0 (value_after given v) = words-at a.blocks c.blocks (number_of w) _ set in
        let first = set-first (suffix_words a.blocks w) (value_after given v) (suffix-some r a.blocks w sound) in
        let string : suffix_string (suffix_words c.blocks w) ≡ suffix_string (suffix_words a.blocks w) = ap suffix_string words ∙ first.string in
        let size : suffix_size (suffix_words c.blocks w) ≡ suffix_size (suffix_words a.blocks w) = ap suffix_size words ∙ first.size in
        let entry : suffix_entry c.blocks w ∷ [] ≡ with_entry string_order (suffix_entry a.blocks w ∷ []) s (value_after given v) =
        ap (λ x. (x, get_or (suffix_words c.blocks w) 0 0) ∷ []) string
        ∙ ap (λ x. (suffix_string (suffix_words a.blocks w), x) ∷ []) (ap (λ l. get_or l 0 0) words ∙ first.value)
        ∙ rewritten-one (suffix_string (suffix_words a.blocks w)) s (get_or (suffix_words a.blocks w) 0 0) v (value_after given v) at in
        record {
          changed = record {
            array = of-suffix r c.blocks w yes_ (record {
              live = ap (λ b. is_live b (number_of w)) set ∙ live_put a.blocks (number_of w)
                  (slice_set (words_of a.blocks (number_of w)) 0 (value_after given v));
              exact = ap length words ∙ first.length ∙ sound.exact ∙ sym (ap (λ m. room (2 + packed_suffix m)) size);
              bytes = subst IsString (sym string) sound.bytes;
              size = ap length string ∙ sound.size ∙ sym size;
              filled = ap (λ m. take (packed_suffix m) (drop 2 (suffix_words c.blocks w))) size
                  ∙ ap (take (packed_suffix (suffix_size (suffix_words a.blocks w)))) (ap (drop 2) words ∙ first.rest) ∙ sound.filled
                  ∙ ap (packed (packed_suffix (suffix_size (suffix_words a.blocks w)))) (sym string)
                  ∙ ap (λ m. packed (packed_suffix m) (suffix_string (suffix_words c.blocks w))) (sym size);
              short = subst (λ m. m ≤ 8 * r) (sym size) sound.short;
              value = subst (λ x. x < 2 ^ 64) (sym (ap (λ l. get_or l 0 0) words ∙ first.value)) low;
            });
            content = suffix-content r c.blocks w yes_ ∙ entry
                ∙ ap (λ l. with_entry string_order l s (value_after given v)) (sym (suffix-content r a.blocks w yes_))
                ∙ ap (λ o. with_entry string_order (nested_content_at (suc r) a.blocks w) s (entered o given)) (sym (its_value ∙ at));
            frame = subst (λ ns. Frame a.blocks c.blocks ns (nested_numbers_at (suc r) c.blocks w)) (sym (suffix-numbers r a.blocks w yes_))
                (subst (Frame a.blocks c.blocks (number_of w ∷ [])) (sym (suffix-numbers r c.blocks w yes_))
                (subst (λ b. Frame a.blocks b (number_of w ∷ []) (number_of w ∷ [])) (sym set) (frame-put a.blocks (number_of w) _ sound.live)));
          };
          before = sym (its_value ∙ at);
          kind = λ e. e;
          quiet = quiet;
        }
      where
        live_put : (b : Blocks) (n : ℕ) (ws : List ℕ) → is_live (put b n ws) n ≡ true
        live_put b n ws = ap is_some (block-put b n ws n) ∙ ap (λ t. is_some (cond t (Some ws) (block b n))) (itself n)
          where
            itself : (n : ℕ) → (n == n) ≡ true
            itself n = grind (arith, nat_tests)

        rewritten-one : (t s : List ℕ) (v u x : ℕ) → value_of string_order ((t, v) ∷ []) s ≡ Some u → (t, x) ∷ [] ≡ with_entry string_order ((t, v) ∷ []) s x
        rewritten-one t s v u x h = elim (eq_by_cmp string_order s t) as (λ b. eq_by_cmp string_order s t ≡ b → cond b (Some v)
            None ≡ Some u → (t, x) ∷ [] ≡ with_entry string_order ((t, v) ∷ []) s x) [
              | true ↦ λ e i. let same = same_string s t e in
                  sym (ap (λ k. with_entry string_order ((t, v) ∷ []) k x) same
                  ∙ ap (λ o. by_order o ((t, x) ∷ (t, v) ∷ []) ((t, x) ∷ []) ((t, v) ∷ (t, x) ∷ []))
                  (tied_itself nat_list_cmp_total t))
              | false ↦ λ e i. cc
            ] refl h

-- a suffix that is another string
pub other-string : (b : Blocks) (w : ℕ) (s : List ℕ) → value_of string_order (suffix_entry b w ∷ []) s ≡ None → suffix_string (suffix_words b w) ≢ s
other-string b w s none e = not_None
    (sym (ap (λ t. cond t (Some (get_or (suffix_words b w) 0 0)) None) (string_is s (suffix_string (suffix_words b w)) (sym e))) ∙ none)
  where
    not_None : {x : ℕ} → Some x ≡ None → ⊥
    not_None h = cc

-- what is built beside a suffix leaves it alive
module _ (r : ℕ) (a b : Blocks) (w x : ℕ) (l : Strings) (s : IsSuffix r a w) (ch : IsChanged (suc r) a b 0 x l) where
  same-words : words_of b (number_of w) ≡ words_of a (number_of w)
  same-words =
      let f : Frame a b [] (nested_numbers_at (suc r) b x) = subst (λ o. Frame a b o (nested_numbers_at (suc r) b x)) (zero-array r a).2 ch.frame in
      ap (λ o. unwrap_or o []) (frame-stays a b [] (nested_numbers_at (suc r) b x) (number_of w) f s.live refl).1

  pub suffix-stays : 0 < length (words_of b (number_of w))
  suffix-stays = let some = suffix-some r a w s in omega (arith, some, ap length same-words)

  -- its block has at most 128 words
  pub suffix-small : r ≤ 125 → length (words_of b (number_of w)) < 512
  suffix-small few =
      let e = s.exact in let h = s.short in
      let m = room-least.least (2 + packed_suffix (suffix_size (suffix_words a w))) 5 (omega (arith, h, few)) (omega arith) in
      omega (arith, ap length same-words, e, m)

-- what was entered below, in the words of its call
pub entered-at : (m : ℕ) (a b : ArenaState) (u u' : ℕ) (t t' : List ℕ) (g : Given) (y : ℕ) (o : Option ℕ) → u ≡ u' → t ≡ t'
    → HasEntered m a b u t g y o → HasEntered m a b u' t' g y o
entered-at m a b u u' t t' g y o e f h = subst (λ x. HasEntered m a b x t' g y o) e (subst (λ x. HasEntered m a b u x g y o) f h)

pub turned-at : (m : ℕ) (a b : ArenaState) (u u' : ℕ) (t t' : List ℕ) → u ≡ u' → t ≡ t' → IsTurnedAway m a b u t → IsTurnedAway m a b u' t'
turned-at m a b u u' t t' e f h = subst (λ x. IsTurnedAway m a b x t') e (subst (λ x. IsTurnedAway m a b u x) f h)

-- a value is written: at a suffix, at a last word, below a word
module _ (r : ℕ) (a c : ArenaState) (w : ℕ) (s : List ℕ) (x : ℕ) (rest : IsRest r s) (node : IsNestedAt (suc r) a.blocks w)
    (there : has_key string_order (nested_content_at (suc r) a.blocks w) s ≡ true) where
  pub written-suffix : x < 2 ^ 64 → is_suffix w ≡ true → c.blocks ≡ put a.blocks (number_of w)
      (slice_set (words_of a.blocks (number_of w)) 0 x) → c.refusals ≡ a.refusals
      → IsChanged (suc r) a.blocks c.blocks w w (with_entry string_order (nested_content_at (suc r) a.blocks w) s x)
  written-suffix low kind set quiet =
      let v = a-value (value_of string_order (suffix_entry a.blocks w ∷ []) s)
      (sym (ap (λ l. has_key string_order l s) (suffix-content r a.blocks w kind)) ∙ there) in
      (entered-same r a c w s rest node (Value x) kind v.0 low v.1 set quiet).changed

  module _ (no : is_suffix w ≡ false) where
    pub last-there : length s < 8 → has_key word_order (entries true a.blocks w) (pack s) ≡ true
    last-there few = ap is_some (sym (step-last r a.blocks w s rest node no few)) ∙ there

    pub never-absent : value_of word_order (entries true a.blocks w) (pack s) ≡ None → ⊥
    never-absent e = not_true (sym (ap is_some (step-none r a.blocks w s rest node no e)) ∙ there)

    module _ (long : 8 ≤ length s) (u : ℕ) (at : value_of word_order (entries true a.blocks w) (pack s) ≡ Some u) where
      pub below-there : has_key string_order (nested_content_at (suc (r - 1)) a.blocks u) (drop 8 s) ≡ true
      below-there = ap is_some (sym (step-inner r a.blocks w s rest node no long u at)) ∙ there

      pub written-below : IsChanged (suc (r - 1)) a.blocks c.blocks u u (with_entry string_order (nested_content_at (suc (r - 1)) a.blocks u) (drop 8 s) x)
          → IsChanged (suc r) a.blocks c.blocks w w (with_entry string_order (nested_content_at (suc r) a.blocks w) s x)
      written-below ch =
          let stays = step-stays r a.blocks w s rest node no long u at c.blocks u _ ch in
          step-with r a.blocks w s rest node no long u at c.blocks c.blocks w u x ch
          (rewritten-same c.blocks w (pack s) u stays.0 (ap (λ es. value_of word_order es (pack s)) stays.1 ∙ at))
