-- What the methods of a text say, in the words of Names.
--     parsed             twelve digits are read as their number
--     stripped           what comes before the end of a text
--     starts_text, ends_text    the tests of both ends, as functions
use Rattle.std.proofs.Common.{◌∙◌, refl, sym, ap, arith, ⊎_elim}
use Rattle.std.proofs.lemmas.Bool.{cases_Bool}
use Rattle.std.specs.Prelude.{◌≡◌, ◌-◌, ℕ, Bool, true, false, List, length, take, if◌then◌else◌, Option, Some, None, Result, Ok, MatchBool, MatchOption}
use Rattle.std.specs.Str.{all_ascii_digits}
use Rattle.std.specs.Str.Parse.{ParsesUnsigned, digits_value}
use Rattle.std.specs.Str.Pattern.{FindsTextPrefix, FindsTextSuffix, HasPrefixMatch, HasSuffixMatch, StripsSuffix}
use Rattle.std.proofs.lemmas.Str.Parse.{IsNumeralModel, numerals_by_value, tells_all_ascii_digits, parse_gives, digits_value_short}
use Rattle.std.proofs.lemmas.Str.Pattern.{starts_text as starts_by, ends_text as ends_by}
use Rattle.std.proofs.lemmas.Slice.Eq.{ends_is}
use Rattle.std.proofs.lemmas.Bool.Decides.{Decides-eqb}
use denote.Ref.{Bor}
use Rattle.judy_disk.specs.Names.{begins, ends, number_before, number_in}

own : IsNumeralModel (λ ds. all_ascii_digits ds ≡ true) (digits_value 10)
own = numerals_by_value _ tells_all_ascii_digits

pub parsed : {E : Type 0} (bs : List ℕ) (r : Result ℕ E) → ParsesUnsigned 64 10 bs r → all_ascii_digits bs ≡ true → length bs ≡ 12
    → r ≡ Ok (digits_value 10 bs)
parsed bs r h p twelve = parse_gives own 64 bs r h p (omega arith) (omega (arith, digits_value_short own bs 12 p (omega arith)))

pub stripped : (tail name : List ℕ) (r : Option (Bor (List ℕ)))
    → MatchOption r (FindsTextSuffix tail name None) (λ x. StripsSuffix (FindsTextSuffix tail) name x.now)
    → MatchOption r (ends name tail ≡ false) (λ x. (ends name tail ≡ true) × (x.now ≡ take (length name - length tail) name))
stripped tail name None h = ⊎_elim (λ e. absurd (h _ ((ends_is Decides-eqb name tail _ refl).0 e))) (λ e. e) (cases_Bool (ends name tail))
stripped tail name (Some x) h =
    ((ends_is Decides-eqb name tail _ refl).1 _ h.1.1, h.2 ∙ ap (λ k. take (length name - k) name) h.1.0)

pub starts_text : (r : Bool) (n s : List ℕ) → MatchBool r (HasPrefixMatch (FindsTextPrefix n) s) (FindsTextPrefix n s None) → r ≡ begins s n
starts_text = starts_by

pub ends_text : (r : Bool) (n s : List ℕ) → MatchBool r (HasSuffixMatch (FindsTextSuffix n) s) (FindsTextSuffix n s None) → r ≡ ends s n
ends_text = ends_by

pub unstripped : (tail name : List ℕ) → FindsTextSuffix tail name None → None ≡ number_before tail name
unstripped tail name h =
    let e : ends name tail ≡ false = stripped tail name None h in
    ap (λ (b : Bool). if b then number_in (take (length name - length tail) name) else None) (sym e)
