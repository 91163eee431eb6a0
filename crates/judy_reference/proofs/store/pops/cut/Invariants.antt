use Rattle.std.proofs.Common.{◌≡◌, ◌-◌, true}
use Rattle.judy_model.specs.declared.calls.OneCall.TheVariants as one
use Rattle.judy_model.specs.Contents.{word_order}
use Rattle.judy_model.specs.Tenant.{content_of, first_up_to, one_step, with_content}
use Rattle.judy_reference.specs.Store.{on_array}
use Rattle.judy_reference.proofs.CutLemmas.{cut_on}
use Rattle.judy_reference.proofs.store.pops.cut.Given as goal

-- what is removed and what is still to be removed are what the whole cut removes
abbrev pub invariant-loop-count : goal.invariant-loop-count
invariant-loop-count l = record {
  found : l.found ≡ first_up_to (content_of l.arrays l.name) l.x l.last;
  same : with_content l.arrays l.name (content_of l.arrays l.name) ≡ l.arrays;
  left : cut_on word_order (λ m. first_up_to m l.x l.last) l.arrays l.name l.count (l.most - l.count) l.found
      ≡ on_array l.fn.arrays l.name (λ m. one_step true m (one.Cut l.x l.last l.fn.most));
}
