-- The laws `AreKept` for every kind: there is nothing at 0, and an array survives while its blocks
-- do.
use Rattle.std.proofs.Common.{◌≡◌, ℕ, zero, suc, ◌+◌, ◌*◌, Bool, true, false, List, [], ◌∷◌, length, ap, sym, ◌∙◌, refl, arith}
use Rattle.judy_arena.specs.Blocks.{Blocks}
use Rattle.judy_arena.specs.Frame.{Frame, AreApart}
use Rattle.judy_model.specs.Pieces.{word_pieces, string_pieces, pieces_of}
use Rattle.judy_model.specs.declared.commands.Kind.{Kind}
use Rattle.judy_model.specs.declared.commands.Kind.TheVariants.{One, Long, Str, Bytes}
use Rattle.judy_model.specs.Commands.{kind_number}
use Rattle.judy_directory.specs.Places.{Stand, nothing}
use Rattle.judy_tree.specs.Laws.{OthersStay as TreesStay, OnlyNothingIsEmpty as NoTreeIsEmpty}
use Rattle.judy_tree.specs.Root.{IsRoot, entries, numbers as tree_numbers}
use Rattle.judy_string.specs.Laws.{OthersStay as StringsStay, OnlyNothingIsEmpty as NoStringsAreEmpty}
use Rattle.judy_bytes.specs.Laws.{OthersStay as BytesStay, OnlyNothingIsEmpty as NoBytesAreEmpty}
use Rattle.judy_words.specs.OneArrays.{one_in, one_numbers as numbers_of_set}
use Rattle.judy_words.specs.LongArrays.{long_in, long_numbers as numbers_of_map}
use Rattle.judy_string.specs.StringArrays.{IsStringArray, string_in, string_numbers as numbers_of_strings}
use Rattle.judy_bytes.specs.BytesArrays.{IsBytesArray, bytes_in, bytes_numbers as numbers_of_bytes}
use Rattle.judy_kinds.specs.Kinds.{kind_at, kind_of_key, IsArrayOf, numbers_of_array, IsSameOf, entries_of, IsPlaceOf}
use Rattle.judy_kinds.specs.Laws.{KeysTellKinds, ArraysAreKept, OnlyNothingIsEmpty}

-- ---- the kind of a key

four_more : (n m : ℕ) → 4 * suc n + m ≡ suc (suc (suc (suc (4 * n + m))))
four_more n m = omega arith

kind-again : (n : ℕ) (kind : Kind) → kind_at (4 * n + kind_number kind) ≡ kind
kind-again zero One = refl
kind-again zero Long = refl
kind-again zero Str = refl
kind-again zero Bytes = refl
kind-again (suc n) kind = ap kind_at (four_more n (kind_number kind)) ∙ kind-again n kind

pub keys-tell-kinds : KeysTellKinds
keys-tell-kinds tenant kind name = kind-again tenant kind

-- ---- no array, and other arrays

module _ (tree : NoTreeIsEmpty) (strings : NoStringsAreEmpty) (bytes : NoBytesAreEmpty) where
  none-of : (H : List ℕ → ℕ) (kind : Kind) (b : Blocks) → IsPlaceOf H kind b nothing × (numbers_of_array kind b 0 ≡ [])
  none-of H One b = let t = (tree false b).0 in
      (record { sound = t.sound; entries = sym (ap length t.content); pieces = sym (ap (pieces_of word_pieces) t.content) }, t.blocks)
  none-of H Long b = let t = (tree true b).0 in
      (record { sound = t.sound; entries = sym (ap length t.content); pieces = sym (ap (pieces_of word_pieces) t.content) }, t.blocks)
  none-of H Str b = let t = (strings b).0 in
      (record { sound = t.sound; entries = sym (ap length t.content); pieces = sym (ap (pieces_of string_pieces) t.content) }, t.blocks)
  none-of H Bytes b = let t = (bytes H b).0 in
      (record { sound = t.sound; entries = sym (ap length t.content); pieces = sym (ap (pieces_of string_pieces) t.content) }, t.blocks)

  -- a list without entries is empty
  no_entries : {A : Type 0} (l : List A) → length l ≡ 0 → l ≡ []
  no_entries [] h = refl
  no_entries (x ∷ l) h = cc

  empty-set : (v : Bool) (b : Blocks) (w : ℕ) → IsRoot v b w → entries v b w ≡ [] → w ≡ 0
  empty-set v b w h e = (tree v b).1 w (tree_numbers b w) (record { sound = h; content = e; blocks = refl })

  empty-strings : (b : Blocks) (w : ℕ) → IsStringArray b w → string_in b w ≡ [] → w ≡ 0
  empty-strings b w h e = (strings b).1 w (numbers_of_strings b w) (record { sound = h; content = e; blocks = refl })

  empty-bytes : (H : List ℕ → ℕ) (b : Blocks) (w : ℕ) → IsBytesArray H b w → bytes_in b w ≡ [] → w ≡ 0
  empty-bytes H b w h e = (bytes H b).1 w (numbers_of_bytes b w) (record { sound = h; content = e; blocks = refl })

  empty-any : (H : List ℕ → ℕ) (kind : Kind) (b : Blocks) (w : ℕ) → IsArrayOf H kind b w → entries_of kind b w ≡ 0 → w ≡ 0
  empty-any H One b w h e = empty-set false b w h (no_entries (one_in b w) e)
  empty-any H Long b w h e = empty-set true b w h (no_entries (long_in b w) e)
  empty-any H Str b w h e = empty-strings b w h (no_entries (string_in b w) e)
  empty-any H Bytes b w h e = empty-bytes H b w h (no_entries (bytes_in b w) e)

  pub only-nothing-is-empty : OnlyNothingIsEmpty
  only-nothing-is-empty H b = (
    record { set = (tree false b).0.content; map = (tree true b).0.content; string = (strings b).0.content; bytes = (bytes H b).0.content },
    λ w. record {
      set = empty-set false b w;
      map = empty-set true b w;
      string = empty-strings b w;
      bytes = empty-bytes H b w;
      any = λ kind. empty-any H kind b w;
    },
  )

  module _ (trees_stay : TreesStay) (strings_stay : StringsStay) (bytes_stay : BytesStay) where
    stays-of : (H : List ℕ → ℕ) (kind : Kind) (a b : Blocks) (old new : List ℕ) (p : Stand) → Frame a b old new → IsPlaceOf H kind a p
        → AreApart (numbers_of_array kind a p.root) old
        → IsPlaceOf H kind b p × (numbers_of_array kind b p.root ≡ numbers_of_array kind a p.root) × AreApart
        (numbers_of_array kind a p.root) new × IsSameOf kind a b p.root
    stays-of H One a b old new p f h apart =
        let r = trees_stay false a b old new p.root (one_in a p.root) (numbers_of_set a p.root) f
        (record { sound = h.sound; content = refl; blocks = refl }) apart in (
          record {
            sound = r.0.sound;
            entries = h.entries ∙ sym (ap length r.0.content);
            pieces = h.pieces
                ∙ sym (ap (pieces_of word_pieces) r.0.content);
          },
          r.0.blocks,
          r.1,
          r.0.content,
        )
    stays-of H Long a b old new p f h apart =
        let r = trees_stay true a b old new p.root (long_in a p.root) (numbers_of_map a p.root) f
        (record { sound = h.sound; content = refl; blocks = refl }) apart in (
          record {
            sound = r.0.sound;
            entries = h.entries ∙ sym (ap length r.0.content);
            pieces = h.pieces
                ∙ sym (ap (pieces_of word_pieces) r.0.content);
          },
          r.0.blocks,
          r.1,
          r.0.content,
        )
    stays-of H Str a b old new p f h apart =
        let r = strings_stay a b old new p.root (string_in a p.root) (numbers_of_strings a p.root) f
        (record { sound = h.sound; content = refl; blocks = refl }) apart in (
          record {
            sound = r.0.sound;
            entries = h.entries ∙ sym (ap length r.0.content);
            pieces = h.pieces
                ∙ sym (ap (pieces_of string_pieces) r.0.content);
          },
          r.0.blocks,
          r.1,
          r.0.content,
        )
    stays-of H Bytes a b old new p f h apart =
        let r = bytes_stay H a b old new p.root (bytes_in a p.root) (numbers_of_bytes a p.root) f
        (record { sound = h.sound; content = refl; blocks = refl }) apart in (
          record {
            sound = r.0.sound;
            entries = h.entries ∙ sym (ap length r.0.content);
            pieces = h.pieces
                ∙ sym (ap (pieces_of string_pieces) r.0.content);
          },
          r.0.blocks,
          r.1,
          r.0.content,
        )

    pub arrays-are-kept : ArraysAreKept
    arrays-are-kept H = record {
      none = λ k b. none-of H (kind_of_key k) b;
      stays = λ k a b old new p f h apart. stays-of H (kind_of_key k) a b old new p f h apart;
    }
