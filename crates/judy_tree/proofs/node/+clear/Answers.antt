use Rattle.std.proofs.Common.{sym, ◌∙◌, [], subst, arith}
use Rattle.judy_arena.specs.Frame.{Frame}
use Rattle.judy_arena.proofs.lemmas.TakeLaws.{same-rests, rests-two}
use Rattle.judy_tree.proofs.lemmas.Trees.{root-leaf, leaf-blocks}
use Rattle.judy_tree.proofs.Clears.{partly-start, own-here, part-here, part-falls, part-byte, part-above, partly-next, partly-end}
use Rattle.judy_tree.proofs.node.+clear.Goals as goal

pub release-requires : goal.release-requires
release-requires t c = root-leaf c.args.values c.args.arena.now.blocks c.args.root (sym c.leads_to_branch.ensures ∙ c.if-not-leads_to_branch.true) c.requires

pub returns-then-not-leads_to_branch-clause-frame : goal.returns-then-not-leads_to_branch-clause-frame
returns-then-not-leads_to_branch-clause-frame t c =
    subst (λ l. Frame c.args.arena.now.blocks c.release.new.arena.blocks l [])
    (sym (leaf-blocks c.args.arena.now.blocks c.args.root (sym c.leads_to_branch.ensures ∙ c.if-not-leads_to_branch.true)))
    c.release.ensures.frame

pub loop-part-init : goal.loop-part-init
loop-part-init t c = record {
  partly = partly-start c.args.values c.args.arena.now.blocks c.args.root (sym c.leads_to_branch.ensures ∙ c.if-not-leads_to_branch.false) c.requires;
  memory = same-rests c.args.arena.now;
  low = omega arith;
}

pub next_part-requires-clause-branch : goal.next_part-requires-clause-branch
next_part-requires-clause-branch t c =
    (own-here c.args.values c.args.arena.now.blocks c.args.root (sym c.leads_to_branch.ensures ∙ c.if-not-leads_to_branch.false) c.requires
    c.loop-part.arena.blocks c.loop-part.low c.loop-part.invariant.partly).branch

pub clear-requires : goal.clear-requires
clear-requires t c =
    let is = sym c.leads_to_branch.ensures ∙ c.if-not-leads_to_branch.false in
    let e = sym c.next_part.ensures ∙ c.in-Some.is in
    let f = part-falls c.args.values c.args.arena.now.blocks c.args.root is c.requires
    c.loop-part.arena.blocks c.loop-part.low c.loop-part.invariant.partly c.in-Some.part.0 c.in-Some.part.1 e in (
      omega (arith, f, c.decreases),
      (part-here c.args.values c.args.arena.now.blocks c.args.root is c.requires
          c.loop-part.arena.blocks c.loop-part.low c.loop-part.invariant.partly c.in-Some.part.0 c.in-Some.part.1 e).root,
    )

pub loop-part-preserved : goal.loop-part-preserved
loop-part-preserved t c =
    let is = sym c.leads_to_branch.ensures ∙ c.if-not-leads_to_branch.false in
    let e = sym c.next_part.ensures ∙ c.in-Some.is in
    let small = part-byte c.args.values c.args.arena.now.blocks c.args.root is c.requires
    c.loop-part.arena.blocks c.loop-part.low c.loop-part.invariant.partly c.in-Some.part.0 c.in-Some.part.1 e in
    record {
      partly = partly-next c.args.values c.args.arena.now.blocks c.args.root is c.requires
          c.loop-part.arena.blocks c.loop-part.low c.loop-part.invariant.partly c.in-Some.part.0 c.in-Some.part.1 e
          c.clear.new.arena.blocks _ (omega arith) c.clear.ensures.frame;
      memory = rests-two c.args.arena.now c.loop-part.arena c.clear.new.arena c.loop-part.invariant.memory c.clear.ensures.memory;
      low = omega (arith, small);
    }

pub loop-part-smaller : goal.loop-part-smaller
loop-part-smaller t c =
    let is = sym c.leads_to_branch.ensures ∙ c.if-not-leads_to_branch.false in
    let e = sym c.next_part.ensures ∙ c.in-Some.is in
    let small = part-byte c.args.values c.args.arena.now.blocks c.args.root is c.requires
    c.loop-part.arena.blocks c.loop-part.low c.loop-part.invariant.partly c.in-Some.part.0 c.in-Some.part.1 e in
    let above = part-above c.args.values c.args.arena.now.blocks c.args.root is c.requires
    c.loop-part.arena.blocks c.loop-part.low c.loop-part.invariant.partly c.in-Some.part.0 c.in-Some.part.1 e in
    omega (arith, small, above)

pub release-requires-2 : goal.release-requires-2
release-requires-2 t c =
    (own-here c.args.values c.args.arena.now.blocks c.args.root (sym c.leads_to_branch.ensures ∙ c.if-not-leads_to_branch.false) c.requires
    c.loop-part.arena.blocks c.loop-part.low c.loop-part.invariant.partly).branch

pub returns-clause-frame : goal.returns-clause-frame
returns-clause-frame t c =
    partly-end c.args.values c.args.arena.now.blocks c.args.root (sym c.leads_to_branch.ensures ∙ c.if-not-leads_to_branch.false) c.requires
    c.loop-part.arena.blocks c.loop-part.low c.loop-part.invariant.partly c.release-2.new.arena.blocks
    (sym c.next_part.ensures ∙ c.in_default.is) c.release-2.ensures.frame
