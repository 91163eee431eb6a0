-- An insertion that gives a value or adds to it.
use Rattle.std.proofs.Common.{◌≡◌, ℕ, true, cond, [], ◌∷◌, Some, Result, Ok, Err, is_some, refl, sym, ap, ◌∙◌, arith}
use Rattle.std.specs.Prelude.{is_ok, OnOk, IsTrue}
use Rattle.std.proofs.lemmas.Bool.Decides.{nat_tests}
use Rattle.std.specs.declared.cmp.Ordering.{Ordering}
use Rattle.std.specs.declared.cmp.Ordering.TheVariants.{Less, Equal, Greater}
use Rattle.std.specs.Ordering.{nat_cmp}
use Rattle.std.specs.Cmp.{nat_cmp_total}
use Rattle.std.specs.FinMap.Entries.{find-put}
use Rattle.judy_model.specs.Contents.{Entries, word_order, value_of, has_key, with_entry}
use Rattle.judy_model.specs.Tenant.Reports.{ReportsValue}
use Rattle.judy_model.specs.Tenant.{insert, value_after, value_replied}
use Rattle.judy_model.specs.declared.calls.Given.{Given}
use Rattle.judy_model.proofs.lemmas.EntryLemmas.{word_itself}
use Rattle.judy_model.specs.declared.replies.Reply.TheVariants as reply

-- a key compares equal to itself
itself : (k : ℕ) → nat_cmp k k ≡ Equal
itself k = grind (arith, nat_tests)

-- an index that was given a value is there
pub has_key-with : (l : Entries ℕ) (x v : ℕ) → has_key word_order (with_entry word_order l x v) x ≡ true
has_key-with l x v = ap is_some (find-put nat_cmp nat_cmp_total x x v l) ∙ ap (λ t. is_some (cond t (Some v) (value_of word_order l x))) (word_itself x)

-- the later of two values of one index stands
with_entry-twice : (l : Entries ℕ) (x v w : ℕ) → with_entry word_order (with_entry word_order l x v) x w ≡ with_entry word_order l x w
with_entry-twice [] x v w = rw (itself x) refl
with_entry-twice (e ∷ es) x v w = by (nat_cmp x e.0) refl (with_entry-twice es x v w)
  where
    by : (o : Ordering) → nat_cmp x e.0 ≡ o → with_entry word_order (with_entry word_order es x v) x w ≡ with_entry word_order es x w
        → with_entry word_order (with_entry word_order (e ∷ es) x v) x w ≡ with_entry word_order (e ∷ es) x w
    by Less h rest = rw h (rw (itself x) refl)
    by Equal h rest = rw h (rw h refl)
    by Greater h rest = rw h (rw h (ap (λ z. e ∷ z) rest))

-- two values of one index, one after the other
both_values : (l n m : Entries ℕ) (x w v : ℕ) → n ≡ with_entry word_order l x v → m ≡ with_entry word_order n x w → m ≡ with_entry word_order l x w
both_values l n m x w v first then = then ∙ ap (λ z. with_entry word_order z x w) first ∙ with_entry-twice l x v w

-- an index that is there is put in, and then its value is written
pub insert-over : (l n m : Entries ℕ) (x value w told v : ℕ) (given : Given) → value_of word_order l x ≡ Some value
    → w ≡ value_after given value → told ≡ value_replied given value
    → n ≡ with_entry word_order l x v → m ≡ with_entry word_order n x w → insert word_order true l x given ReportsValue ≡ (reply.Value told, m)
insert-over l n m x value w told v given was is shows first then =
    let new : m ≡ with_entry word_order l x (value_after given value) = both_values l n m x w v first then ∙ ap (with_entry word_order l x) is in
    rw was (ap (λ z. (reply.Value z, with_entry word_order l x (value_after given value))) (sym shows) ∙ ap (λ z. (reply.Value told, z)) (sym new))

-- after an insertion that was not refused the index is there
pub there-after : {A E : Type 0} (r : Result A E) (l m : Entries ℕ) (x v : ℕ) → m ≡ cond (is_ok r) (with_entry word_order l x v) l
    → OnOk r (IsTrue (has_key word_order m x))
there-after (Ok a) l m x v is = ap (λ z. has_key word_order z x) is ∙ has_key-with l x v
there-after (Err e) l m x v is = tt
