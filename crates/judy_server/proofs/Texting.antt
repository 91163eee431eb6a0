-- Texts that are made in parts.
use Rattle.std.proofs.Common.{◌≡◌, ◌∙◌, ◌<◌, ℕ, zero, suc, List, [], ◌∷◌, ◌++◌, Some, ap, append_assoc, append-nil, arith, drop, drop-cons, get_or, length, refl, subst, sym, ◌+◌, add-one}
use Rattle.std.specs.Prelude.{Result, Ok, Err, OnOk, flat_map, slice_get}
use Rattle.judy_server.specs.Status.{labelled_if, samples}
use Rattle.judy_server.specs.declared.metrics.Metric.{Metric}

-- two parts, one after another
pub adds-then : (a p q x y : List ℕ) → x ≡ a ++ p → y ≡ x ++ q → y ≡ a ++ (p ++ q)
adds-then a p q x y h k = k ∙ ap (λ l. l ++ q) h ∙ append_assoc a p q

-- where it succeeds
pub for_ok : {A E : Type 0} {P Q : Type 0} (r : Result A E) → (P → Q) → OnOk r P → OnOk r Q
for_ok (Ok x) f h = f h
for_ok (Err e) f h = h

-- the values of a label from a place on
samples-step : (m : Metric) (label : List ℕ) (number : ℕ → ℕ) (from place : ℕ) (values : List (List ℕ)) (value : List ℕ)
    → slice_get values place ≡ Some value
    → samples m label number from (drop place values) ≡ labelled_if m label value (number from) ++ samples m label number (suc from) (drop (suc place) values)
unfolding samples
samples-step m label number from place [] value e = cc
samples-step m label number from zero (v ∷ values) value e =
    let same : v ≡ value = cc in ap (λ w. labelled_if m label w (number from) ++ samples m label number (suc from) values) same
samples-step m label number from (suc place) (v ∷ values) value e = samples-step m label number from place values value e

samples-none : (m : Metric) (label : List ℕ) (number : ℕ → ℕ) (from place : ℕ) (values : List (List ℕ)) → length values ≡ place
    → samples m label number from (drop place values) ≡ []
unfolding samples
samples-none m label number from zero [] e = refl
samples-none m label number from (suc place) [] e = refl
samples-none m label number from zero (v ∷ values) e = absurd (omega (arith, e))
samples-none m label number from (suc place) (v ∷ values) e = samples-none m label number from place values (omega (arith, e))

-- one value more
pub samples_on : (m : Metric) (label : List ℕ) (number : ℕ → ℕ) (place next n : ℕ) (values : List (List ℕ)) (value t t' all : List ℕ) → next ≡ suc place
    → slice_get values place ≡ Some value → n ≡ number place → t' ≡ t ++ labelled_if m label value n
    → t ++ samples m label number place (drop place values) ≡ all → t' ++ samples m label number next (drop next values) ≡ all
samples_on m label number place next n values value t t' all after named is added so =
    subst (λ k. t' ++ samples m label number k (drop k values) ≡ all) (sym after)
    (ap (λ l. l ++ samples m label number (suc place) (drop (suc place) values)) (added ∙ ap (λ k. t ++ labelled_if m label value k) is)
    ∙ append_assoc t (labelled_if m label value (number place)) (samples m label number (suc place) (drop (suc place) values))
    ∙ ap (λ l. t ++ l) (sym (samples-step m label number place place values value named)) ∙ so)

-- all values
pub samples_all : (m : Metric) (label : List ℕ) (number : ℕ → ℕ) (place : ℕ) (values : List (List ℕ)) (t all : List ℕ) → length values ≡ place
    → t ++ samples m label number place (drop place values) ≡ all → t ≡ all
samples_all m label number place values t all e so =
    sym (append-nil t) ∙ ap (λ l. t ++ l) (sym (samples-none m label number place place values e)) ∙ so

-- nine parts, one after another
pub nine-parts : (p q r s t u v w x a b c d e f g h i j : List ℕ) → b ≡ a ++ p → c ≡ b ++ q → d ≡ c ++ r → e ≡ d ++ s → f ≡ e ++ t → g ≡ f ++ u → h ≡ g ++ v → i ≡ h ++ w → j ≡ i ++ x
    → j ≡ a ++ (p ++ (q ++ (r ++ (s ++ (t ++ (u ++ (v ++ (w ++ x))))))))
nine-parts p q r s t u v w x a b c d e f g h i j hb hc hd he hf hg hh hi hj =
    adds-then a p (q ++ (r ++ (s ++ (t ++ (u ++ (v ++ (w ++ x))))))) b j hb (adds-then b q (r ++ (s ++ (t ++ (u ++ (v ++ (w ++ x)))))) c j hc
    (adds-then c r (s ++ (t ++ (u ++ (v ++ (w ++ x))))) d j hd (adds-then d s (t ++ (u ++ (v ++ (w ++ x)))) e j he
    (adds-then e t (u ++ (v ++ (w ++ x))) f j hf (adds-then f u (v ++ (w ++ x)) g j hg (adds-then g v (w ++ x) h j hh (adds-then h w x i j hi hj)))))))

-- one item of a list more
pub items_on : {A : Type 0} (f : A → List ℕ) (xs : List A) (i : ℕ) (d : A) (t t' all : List ℕ) → i < length xs → t' ≡ t ++ f (get_or xs i d)
    → t ++ flat_map f (drop i xs) ≡ all → t' ++ flat_map f (drop (i + 1) xs) ≡ all
items_on f xs i d t t' all few added so =
    rw (add-one, added) (append_assoc t (f (get_or xs i d)) (flat_map f (drop (suc i) xs))
    ∙ ap (λ l. t ++ flat_map f l) (sym (drop-cons xs i d few)) ∙ so)
