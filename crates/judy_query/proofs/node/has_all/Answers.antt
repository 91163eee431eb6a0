use Rattle.std.proofs.Common.{◌≡◌, ℕ, true, arith, length, inl, inr, ap, sym, ◌∙◌, Some, false, eqb, ne_eqb}
use Rattle.std.specs.Prelude.{nat_lt}
use Rattle.std.proofs.lemmas.Bool.{cases_eq}
use Rattle.std.proofs.lemmas.Bool.Decides.{nat_tests}
use Rattle.judy_refs.specs.References.{kind_of, kind_of_number, kind_part}
use Rattle.judy_refs.specs.declared.Kind.TheVariants.{FullLeaf}
use Rattle.judy_leaf.proofs.lemmas.LeafLaws.{full-length}
use Rattle.judy_tree.specs.Nodes.{is_branch}
use Rattle.judy_tree.specs.Root.{entries}
use Rattle.judy_tree.proofs.lemmas.Trees.{root-leaf, leaf-content}
use Rattle.judy_query.proofs.node.has_all.Goals as goal

turned : (n m : ℕ) → eqb n m ≡ eqb m n
turned n m =
    elim (cases_eq n m) [
      | inl e ↦ ap (λ k. eqb k m) e ∙ ap (λ k. eqb m k) (sym e)
      | inr other ↦ ne_eqb n m other ∙ sym (ne_eqb m n (λ e. other (sym e)))
    ]

same : (n m : ℕ) → eqb n m ≡ true → n ≡ m
same n m h = grind (arith, nat_tests)

pub returns-then-leads_to : goal.returns-then-leads_to
returns-then-leads_to c =
    let b = c.args.arena.now.blocks in
    let three = same (kind_part c.args.node) 3 (sym c.leads_to.ensures ∙ c.if-leads_to.true) in
    let leaf : is_branch c.args.node ≡ false = ap (nat_lt 3) three in
    let kind : kind_of c.args.node ≡ Some FullLeaf = ap kind_of_number three in
    let all : length (entries c.args.values b c.args.node) ≡ 256 =
    ap length (leaf-content c.args.values b c.args.node leaf)
    ∙ full-length c.args.values b c.args.node kind (root-leaf c.args.values b c.args.node leaf c.requires) in
    turned c.args.count 256 ∙ ap (λ n. eqb n c.args.count) (sym all)
