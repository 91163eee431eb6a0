use Rattle.std.proofs.Common.{◌≡◌, ◌∙◌, ◌+◌, [], Some, ap, sym, subst, take, unwrap_or}
use Rattle.std.specs.Option.{option_copied}
use Rattle.judy_model.specs.Walks.{hashed_key}
use Rattle.judy_model.proofs.lemmas.TestLemmas.{not_both}
use Rattle.judy_reference.specs.Store.{comes_behind, comes_first}
use Rattle.judy_reference.proofs.ByteWalkLemmas.{IsBest, best_next, search_moves, search_stays, seen_all}
use Rattle.judy_reference.proofs.store.byte_walks.next_place.Goals as goal
use Rattle.judy_reference.proofs.store.byte_walks.next_place.Goals.{then-is_behind+then-is_before, else-is_behind}
use Rattle.judy_reference.proofs.store.byte_walks.next_place.Goals.{else-is_behind-via-then-is_behind+else-is_before, else-is_behind-via-else-is_behind}

pub loop-e-preserved : goal.loop-e-preserved
loop-e-preserved c =
    let e = c.e-item.result in
    let from = option_copied c.args.from in
    let best = c.loop-e.best in
    let place : hashed_key e.0 ≡ c.of-place.result = sym (c.of-place.ensures ∙ ap hashed_key c.key.ensures) in
    let behind : comes_behind (hashed_key e.0) from ≡ c.is_behind.result = ap (λ p. comes_behind p from) place ∙ sym c.is_behind.ensures in
    let before : comes_first (hashed_key e.0) best ≡ comes_first c.of-place.result best = ap (λ p. comes_first p best) place in
    elim c.if-is_behind.branch [
      | then-is_behind+then-is_before w ↦ subst (IsBest (take (c.loop-e.e-index + 1) c.args.entries.now) (unwrap_or from []))
          (ap (λ p. Some (p, e.1)) place ∙ sym w.best-is)
          (search_moves c.args.entries.now c.loop-e.e-index from best e c.loop-e-test.true c.e-item.is c.loop-e.invariant
          (behind ∙ w.if-is_behind.true) (before ∙ sym w.is_before.ensures ∙ w.if-is_before.true))
      | else-is_behind w ↦ subst (IsBest (take (c.loop-e.e-index + 1) c.args.entries.now) (unwrap_or from [])) (sym w.best-is)
          (search_stays c.args.entries.now c.loop-e.e-index from best e c.loop-e-test.true c.e-item.is c.loop-e.invariant
          (elim w.else-is_behind.branch [
            | else-is_behind-via-then-is_behind+else-is_before w' ↦ λ up. before ∙ sym w'.is_before.ensures ∙ w'.if-is_before.false
            | else-is_behind-via-else-is_behind w' ↦ λ up. absurd (not_both (comes_behind (hashed_key e.0) from) up (behind ∙ w'.if-is_behind.false))
          ]))
    ]

pub returns : goal.returns
returns c =
    best_next c.args.entries.now (unwrap_or (option_copied c.args.from) []) c.loop-e.best
    (seen_all c.args.entries.now c.loop-e.e-index (unwrap_or (option_copied c.args.from) []) c.loop-e.best c.loop-e-test.false c.loop-e.invariant)
