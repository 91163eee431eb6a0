-- A call adds one entry if it asks for a new one, and otherwise none.
use Rattle.std.proofs.Common.{◌≡◌, ℕ, Bool, true, false, length, ap, refl, subst}
use Rattle.std.specs.Cmp.{nat_cmp_total}
use Rattle.std.specs.Cmp.Lexicographic.{nat_list_cmp_total}
use Rattle.std.specs.FinMap.{is_sorted, nat_cmp-IsAntisymmetric}
use Rattle.judy_model.specs.declared.calls.Call.TheVariants as call
use Rattle.judy_model.specs.declared.replies.Reply.{Reply}
use Rattle.judy_model.specs.Contents.{Entries, word_order, string_order}
use Rattle.judy_model.specs.Pieces.{word_pieces, string_pieces, pieces_of}
use Rattle.judy_model.specs.Tenant.{one_effect, long_effect, string_effect, bytes_effect}
use Rattle.judy_model.specs.Tenant.{new_pieces, one_step, long_step, string_step, bytes_step}
use Rattle.judy_model.specs.WellFormed.{Grows}
use Rattle.judy_model.proofs.lemmas.FormLemmas.{names_apart}
use Rattle.judy_model.proofs.lemmas.GrowthLemmas.{lengths, sizes, one_each, its_size, words_alike, strings_alike, bytes_alike, effect_grows}
use Rattle.judy_tree.specs.Laws as tree
use Rattle.judy_string.specs.Laws as strings
use Rattle.judy_bytes.specs.Laws as bytes
use Rattle.judy_words.specs.OneArrays.{one_in, one_numbers as numbers_of_set}
use Rattle.judy_words.specs.LongArrays.{long_in, long_numbers as numbers_of_map}
use Rattle.judy_string.specs.StringArrays.{string_in, string_numbers as numbers_of_strings}
use Rattle.judy_bytes.specs.BytesArrays.{bytes_in, bytes_numbers as numbers_of_bytes}
use Rattle.judy_tenants.specs.Growth.{CallsAddOne}

-- a change of a list of entries, by the result of a step
told : {K : Type 0} (size : Entries K → ℕ) (asks : Bool) (n : ℕ) (l m : Entries K) (made : Reply × Entries K) (r : Reply) → made ≡ (r, m)
    → Grows asks true n (size l) (size made.1) → Grows asks true n (size l) (size m)
told size asks n l m made r e h = subst (λ z. Grows asks true n (size l) (size z)) (ap (λ z. z.1) e) h

-- a call adds one entry if it asks for a new one
pub calls-add-one : tree.ContentIsSound → strings.ContentIsSound → bytes.ContentIsSound → CallsAddOne
calls-add-one of_words of_strings of_bytes H (call.One name c) a b w x r s e =
    let rises : is_sorted word_order (one_in a w) ≡ true =
    (of_words false a w (one_in a w) (numbers_of_set a w) (record { sound = s; content = refl; blocks = refl })).0.0 in
    record {
      entries = told length _ 1 (one_in a w) (one_in b x) (one_step true (one_in a w) c) r e
          (effect_grows word_order length (λ k. 1) (lengths word_order nat_cmp_total) true (one_in a w) (one_effect c) 1 rises (one_each (one_effect c)));
      pieces = told (pieces_of word_pieces) _ (new_pieces (call.One name c)) (one_in a w) (one_in b x) (one_step true (one_in a w) c) r e
          (effect_grows word_order (pieces_of word_pieces) word_pieces (sizes word_order nat_cmp_total nat_cmp-IsAntisymmetric word_pieces)
          true (one_in a w) (one_effect c) (new_pieces (call.One name c)) rises (its_size word_pieces (one_effect c) (words_alike (one_effect c))));
    }
calls-add-one of_words of_strings of_bytes H (call.Long name c) a b w x r s e =
    let rises : is_sorted word_order (long_in a w) ≡ true =
    (of_words true a w (long_in a w) (numbers_of_map a w) (record { sound = s; content = refl; blocks = refl })).0.0 in
    record {
      entries = told length _ 1 (long_in a w) (long_in b x) (long_step true (long_in a w) c) r e
          (effect_grows word_order length (λ k. 1) (lengths word_order nat_cmp_total) true (long_in a w) (long_effect c) 1 rises (one_each (long_effect c)));
      pieces = told (pieces_of word_pieces) _ (new_pieces (call.Long name c)) (long_in a w) (long_in b x) (long_step true (long_in a w) c) r e
          (effect_grows word_order (pieces_of word_pieces) word_pieces (sizes word_order nat_cmp_total nat_cmp-IsAntisymmetric word_pieces)
          true (long_in a w) (long_effect c) (new_pieces (call.Long name c)) rises (its_size word_pieces (long_effect c) (words_alike (long_effect c))));
    }
calls-add-one of_words of_strings of_bytes H (call.Str name c) a b w x r s e =
    let rises : is_sorted string_order (string_in a w) ≡ true = (of_strings a w (string_in a w) (numbers_of_strings a w)
    (record { sound = s; content = refl; blocks = refl })).0 in
    record {
      entries = told length _ 1 (string_in a w) (string_in b x) (string_step true (string_in a w) c) r e
          (effect_grows string_order length (λ k. 1) (lengths string_order nat_list_cmp_total) true (string_in a w) (string_effect c) 1 rises (one_each (string_effect c)));
      pieces = told (pieces_of string_pieces) _ (new_pieces (call.Str name c)) (string_in a w) (string_in b x)
          (string_step true (string_in a w) c) r e
          (effect_grows string_order (pieces_of string_pieces) string_pieces (sizes string_order nat_list_cmp_total names_apart string_pieces)
          true (string_in a w) (string_effect c) (new_pieces (call.Str name c)) rises (its_size string_pieces (string_effect c) (strings_alike c)));
    }
calls-add-one of_words of_strings of_bytes H (call.Bytes name c) a b w x r s e =
    let rises : is_sorted string_order (bytes_in a w) ≡ true = (of_bytes H a w (bytes_in a w) (numbers_of_bytes a w)
    (record { sound = s; content = refl; blocks = refl })).0 in
    record {
      entries = told length _ 1 (bytes_in a w) (bytes_in b x) (bytes_step true (bytes_in a w) c) r e
          (effect_grows string_order length (λ k. 1) (lengths string_order nat_list_cmp_total) true (bytes_in a w) (bytes_effect c) 1 rises (one_each (bytes_effect c)));
      pieces = told (pieces_of string_pieces) _ (new_pieces (call.Bytes name c)) (bytes_in a w) (bytes_in b x)
          (bytes_step true (bytes_in a w) c) r e
          (effect_grows string_order (pieces_of string_pieces) string_pieces (sizes string_order nat_list_cmp_total names_apart string_pieces)
          true (bytes_in a w) (bytes_effect c) (new_pieces (call.Bytes name c)) rises (its_size string_pieces (bytes_effect c) (bytes_alike c)));
    }
calls-add-one of_words of_strings of_bytes H (call.Intersect name other i n) a b w x r s e = absurd e
calls-add-one of_words of_strings of_bytes H (call.Names from n) a b w x r s e = absurd e
calls-add-one of_words of_strings of_bytes H call.Used a b w x r s e = absurd e
