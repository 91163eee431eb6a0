-- The content of every array is well-formed.
use Rattle.std.proofs.Common.{◌≡◌, Bool, true, false, ◌&&◌, ◌==◌, List, [], ◌∷◌, refl}
use Rattle.std.specs.List.{list_all}
use Rattle.std.specs.FinMap.{is_sorted}
use Rattle.std.proofs.lemmas.Bool.{and_from}
use Rattle.judy_model.specs.Contents.{word_order, string_order}
use Rattle.judy_model.proofs.lemmas.TestLemmas.{and_left, and_right}
use Rattle.judy_model.specs.WellFormed.{is_word}
use Rattle.judy_model.specs.declared.commands.Kind.TheVariants.{One, Long, Str, Bytes}
use Rattle.judy_tree.specs.Root.{entries, numbers}
use Rattle.judy_tree.specs.Laws.{ContentIsSound as TreesAreSound}
use Rattle.judy_string.specs.Laws.{ContentIsSound as StringsAreSound}
use Rattle.judy_string.specs.StringArrays.{string_in, string_numbers as numbers_of_strings}
use Rattle.judy_bytes.specs.Laws.{ContentIsSound as BytesAreSound}
use Rattle.judy_bytes.specs.BytesArrays.{bytes_in, bytes_numbers as numbers_of_bytes}
use Rattle.judy_kinds.specs.Laws.{ContentsAreInForm}

-- an entry that passes two tests passes their conjunction
both_pass : {A : Type 0} (p q : A → Bool) (xs : List A) → list_all p xs ≡ true → list_all q xs ≡ true → list_all (λ x. p x && q x) xs ≡ true
both_pass p q [] g h = refl
both_pass p q (x ∷ xs) g h = and_from (p x && q x) _ (and_from (p x) (q x) (and_left (p x) _ g) (and_left (q x) _ h))
    (both_pass p q xs (and_right (p x) _ g) (and_right (q x) _ h))

module _ (trees : TreesAreSound) (strings : StringsAreSound) (bytes : BytesAreSound) where
  pub contents-are-in-form : ContentsAreInForm
  contents-are-in-form H One b w h =
      let s = trees false b w (entries false b w) (numbers b w) (record { sound = h; content = refl; blocks = refl }) in
      and_from (is_sorted word_order (entries false b w)) _ s.0.0 (both_pass (λ e. is_word e.0) (λ e. e.1 == 0) (entries false b w) s.0.1 (s.2 refl))
  contents-are-in-form H Long b w h =
      let s = trees true b w (entries true b w) (numbers b w) (record { sound = h; content = refl; blocks = refl }) in
      and_from (is_sorted word_order (entries true b w)) _ s.0.0 (both_pass (λ e. is_word e.0) (λ e. is_word e.1) (entries true b w) s.0.1 s.1)
  contents-are-in-form H Str b w h =
      let s = strings b w (string_in b w) (numbers_of_strings b w) (record { sound = h; content = refl; blocks = refl }) in
      and_from (is_sorted string_order (string_in b w)) _ s.0 s.2
  contents-are-in-form H Bytes b w h =
      let s = bytes H b w (bytes_in b w) (numbers_of_bytes b w) (record { sound = h; content = refl; blocks = refl }) in
      and_from (is_sorted string_order (bytes_in b w)) _ s.0 s.3
