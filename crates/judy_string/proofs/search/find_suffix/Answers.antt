use Rattle.std.proofs.Common.{rules, ◌≡◌, false, None, ◌∙◌, sym, refl, subst}
use Rattle.std.specs.declared.cmp.Ordering.TheVariants.{Equal}
use Rattle.judy_string.specs.Searches.{keeps, IsShown}
use Rattle.judy_string.specs.Suffixes.{suffix_entry}
use Rattle.judy_string.proofs.Options.{a-value}
use Rattle.judy_string.proofs.Shows.{itself-no}
use Rattle.judy_string.proofs.search.find_suffix.Goals as goal

-- the suffix is the string itself
pub returns-then-is_some : goal.returns-then-is_some
returns-then-is_some c =
    let no_ : keeps c.args.how Equal ≡ false = search rules in
    let v = a-value c.get.result (sym c.is_some.ensures ∙ c.if-is_some.true) in
    subst (λ o. IsShown c.args.buffer.now.items o None c.args.buffer.now.items)
    (sym (itself-no c.args.how (suffix_entry c.args.arena.now.blocks c.args.node) c.args.string.now v.0 no_ (sym c.get.ensures ∙ v.1))) (refl, refl)
