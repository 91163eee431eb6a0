use Rattle.std.proofs.Common.{◌≡◌, ◌∙◌, true, Some, None, ap, arith, length, option_map, sym}
use Rattle.std.specs.Prelude.{find}
use Rattle.std.specs.Ordering.{is_gt}
use Rattle.judy_model.specs.ArrayLists.{array_key, counted, key_of_start}
use Rattle.judy_model.specs.Contents.{next, string_order}
use Rattle.judy_reference.proofs.ArrayLists.{next_counted}
use Rattle.judy_reference.proofs.SlowLemmas.{find-at, find-end}
use Rattle.judy_reference.proofs.store.directory.Directory.next.Goals as goal

pub returns-then-is_behind : goal.returns-then-is_behind
returns-then-is_behind g c =
    let kind = c.args.kind in
    let key = key_of_start c.args.from.now in
    let arrays = c.deref-array-items.result.now in
    let array = c.array-item.result in
    let passes : is_gt (string_order (array_key kind array.0) key) ≡ true = sym c.is_behind.ensures ∙ c.if-is_behind.true in
    let found : Some array ≡ find (λ a. is_gt (string_order (array_key kind a.0) key)) arrays
    = find-at (λ a. is_gt (string_order (array_key kind a.0) key)) arrays c.loop-array.array-index array c.loop-array-test.true c.array-item.is passes
    ∙ c.loop-array.invariant in
    ap (λ name. Some (array_key kind name, c.len.result)) c.copied.ensures ∙ ap (λ n. Some (array_key kind array.0, n)) c.len.ensures
    ∙ ap (option_map (λ a. (array_key kind a.0, length a.1))) found ∙ sym (next_counted kind arrays key)
    ∙ ap (λ all. next string_order (counted kind all) key) (c.deref-array-items.ensures.value ∙ c.self.view_is)

pub returns : goal.returns
returns g c =
    let kind = c.args.kind in
    let key = key_of_start c.args.from.now in
    let arrays = c.deref-array-items.result.now in
    let nothing : None ≡ find (λ a. is_gt (string_order (array_key kind a.0) key)) arrays
    = find-end (λ a. is_gt (string_order (array_key kind a.0) key)) arrays c.loop-array.array-index (omega (arith, c.loop-array-test.false))
    ∙ c.loop-array.invariant in
    ap (option_map (λ a. (array_key kind a.0, length a.1))) nothing ∙ sym (next_counted kind arrays key)
    ∙ ap (λ all. next string_order (counted kind all) key) (c.deref-array-items.ensures.value ∙ c.self.view_is)
