-- An insertion asks for a new entry of an array that has none.
use Rattle.std.proofs.Common.{◌≡◌, ◌∙◌, ℕ, true, [], Some, None, refl, ap}
use Rattle.std.specs.Prelude.{if◌then◌else◌, nat_le}
use Rattle.judy_arena.specs.Blocks.{Blocks}
use Rattle.judy_model.specs.Contents.{max_word, word_order}
use Rattle.judy_model.specs.Tenant.{bytes_asks_for_new, bytes_effect, effect_inserts, lacks, long_asks_for_new, long_effect}
use Rattle.judy_model.specs.Tenant.{one_asks_for_new, one_effect, string_asks_for_new, string_effect}
use Rattle.judy_model.specs.declared.calls.BytesCall.{BytesCall}
use Rattle.judy_model.specs.declared.calls.BytesCall.TheVariants as bytes
use Rattle.judy_model.specs.declared.calls.LongCall.{LongCall}
use Rattle.judy_model.specs.declared.calls.LongCall.TheVariants as long
use Rattle.judy_model.specs.declared.calls.OneCall.{OneCall}
use Rattle.judy_model.specs.declared.calls.OneCall.TheVariants as one
use Rattle.judy_model.specs.declared.calls.StrCall.{StrCall}
use Rattle.judy_model.specs.declared.calls.StrCall.TheVariants as str
use Rattle.judy_words.specs.OneArrays.{one_in}
use Rattle.judy_words.specs.LongArrays.{long_in}
use Rattle.judy_string.specs.StringArrays.{string_in}
use Rattle.judy_bytes.specs.BytesArrays.{bytes_in}

-- ---- a set

pub set_fills : (b : Blocks) (c : OneCall) (x : ℕ) → one_in b 0 ≡ [] → c ≡ one.Fill x → nat_le x max_word ≡ true → one_asks_for_new (one_in b 0) c ≡ true
set_fills b c x none is small =
    ap (λ l. one_asks_for_new l c) none ∙ ap (one_asks_for_new []) is ∙ ap (λ t. lacks word_order [] (if t then Some x else None)) small

pub set_asks : (b : Blocks) (c : OneCall) → one_in b 0 ≡ [] → effect_inserts (one_effect c) ≡ true → ((x : ℕ) → c ≡ one.Fill x → ⊥) → one_asks_for_new (one_in b 0) c ≡ true
set_asks b (one.Set x) none h other = ap (λ l. one_asks_for_new l (one.Set x)) none
set_asks b (one.Fill x) none h other = absurd (other x refl)
set_asks b _ none h other = cc

-- ---- a map of words

pub map_fills : (b : Blocks) (c : LongCall) (x v : ℕ) → long_in b 0 ≡ [] → c ≡ long.Fill x v → nat_le x max_word ≡ true → long_asks_for_new (long_in b 0) c ≡ true
map_fills b c x v none is small =
    ap (λ l. long_asks_for_new l c) none ∙ ap (long_asks_for_new []) is ∙ ap (λ t. lacks word_order [] (if t then Some x else None)) small

pub map_asks : (b : Blocks) (c : LongCall) → long_in b 0 ≡ [] → effect_inserts (long_effect c) ≡ true → ((x v : ℕ) → c ≡ long.Fill x v → ⊥)
    → long_asks_for_new (long_in b 0) c ≡ true
map_asks b (long.Insert x given) none h other = ap (λ l. long_asks_for_new l (long.Insert x given)) none
map_asks b (long.Keep x v) none h other = ap (λ l. long_asks_for_new l (long.Keep x v)) none
map_asks b (long.Fill x v) none h other = absurd (other x v refl)
map_asks b _ none h other = cc

-- ---- a map of strings, and of byte arrays

pub string_asks : (b : Blocks) (c : StrCall) → string_in b 0 ≡ [] → effect_inserts (string_effect c) ≡ true → string_asks_for_new (string_in b 0) c ≡ true
string_asks b (str.Insert x given) none h = ap (λ l. string_asks_for_new l (str.Insert x given)) none
string_asks b (str.Keep x v) none h = ap (λ l. string_asks_for_new l (str.Keep x v)) none
string_asks b _ none h = cc

pub bytes_ask : (b : Blocks) (c : BytesCall) → bytes_in b 0 ≡ [] → effect_inserts (bytes_effect c) ≡ true → bytes_asks_for_new (bytes_in b 0) c ≡ true
bytes_ask b (bytes.Insert x given) none h = ap (λ l. bytes_asks_for_new l (bytes.Insert x given)) none
bytes_ask b (bytes.Keep x v) none h = ap (λ l. bytes_asks_for_new l (bytes.Keep x v)) none
bytes_ask b _ none h = cc
