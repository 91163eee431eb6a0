use Rattle.std.proofs.Common.{ap}
use Rattle.std.specs.Prelude.{option_map}
use Rattle.judy_model.specs.ArrayLists.{array_words, count_of}
use Rattle.judy_model.proofs.lemmas.WalkLemmas.{walk_goes_on}
use Rattle.judy_tenants.proofs.arrays.list_arrays.Goals as goal

pub loop-count-preserved : goal.loop-count-preserved
loop-count-preserved g c =
    walk_goes_on array_words _ _ _ _ _ _ _ (count_of c.in-Some.array) _ c.add_array.result c.loop-count.invariant
    (ap (option_map count_of) c.in-Some.is) c.loop-count-test.true c.add_array.ensures.fits c.if-not-add_array.false
    c.if-not-add_array.ensures.added c.next_array-found-in-loop-count.ensures
