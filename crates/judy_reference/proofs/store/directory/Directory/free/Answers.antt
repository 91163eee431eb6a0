use Rattle.std.proofs.Common.{[], refl}
use Rattle.judy_reference.proofs.KeptLemmas.{kept-from}
use Rattle.judy_reference.proofs.store.directory.Directory.free.Goals as goal

pub invariant_of-self : goal.invariant_of-self
invariant_of-self g c = kept-from g.K.Ord.cmp c.self.inside.arrays.items _ c.args.name.now [] c.forget.ensures c.self.invariant refl
