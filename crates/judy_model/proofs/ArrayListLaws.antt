-- Lists of arrays: they have the arrays that have entries, each once, in the order of kinds, then of names.
use Rattle.std.proofs.Common.{◌≡◌, ◌∙◌, ◌+◌, ◌++◌, ℕ, List, length, map, ap, arith}
use Rattle.std.proofs.lemmas.List.{length-append, length-map}
use Rattle.judy_model.specs.declared.calls.Search.TheVariants.{Next}
use Rattle.judy_model.specs.declared.commands.Kind.{Kind}
use Rattle.judy_model.specs.declared.commands.Kind.TheVariants as kind
use Rattle.judy_model.specs.ArrayLists.{array_words, counted}
use Rattle.judy_model.specs.Contents.{Entries}
use Rattle.judy_model.specs.Tenant.{Arrays, State, array_counts}
use Rattle.judy_model.specs.WellFormed.{ArraysAreListed}
use Rattle.judy_model.proofs.WalkLaws.{walks_are_takes}
use Rattle.judy_model.proofs.lemmas.ArrayListLemmas.{count_at, counts_rise}

-- the arrays of a kind are added to those behind them
both : {K : Type 0} (k : Kind) (arrays : Arrays K) (more : Entries (List ℕ)) → length (counted k arrays ++ more) ≡ length arrays + length more
both k arrays more = length-append (counted k arrays) more ∙ ap (λ n. n + length more) (length-map arrays _)

-- each array is listed once
length_of : (s : State) → length (array_counts s) ≡ length s.one + length s.long + length s.string + length s.bytes
length_of s =
    let one = both kind.One s.one (counted kind.Long s.long ++ (counted kind.Str s.string ++ counted kind.Bytes s.bytes)) in
    let long = both kind.Long s.long (counted kind.Str s.string ++ counted kind.Bytes s.bytes) in
    let string = both kind.Str s.string (counted kind.Bytes s.bytes) in
    let bytes : length (counted kind.Bytes s.bytes) ≡ length s.bytes = length-map s.bytes _ in
    omega (arith, one, long, string, bytes)

pub arrays_are_listed : ArraysAreListed
arrays_are_listed s form = (
  counts_rise s form,
  λ kind name. count_at s form kind name,
  length_of s,
  λ key n. ap (map array_words) (walks_are_takes.2 (array_counts s) Next key n (counts_rise s form)),
)
