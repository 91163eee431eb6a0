use Rattle.std.proofs.Common.{rules, ◌≡◌, ◌≢◌, ◌+◌, false, ap, sym, ◌∙◌}
use Rattle.std.specs.Prelude.{is_none}
use Rattle.judy_model.specs.Contents.{word_order, first, next}
use Rattle.judy_query.proofs.Gaps.{words-most}
use Rattle.judy_tree.specs.Root.{entries}
use Rattle.judy_tree.proofs.lemmas.Trees.{leaf-content, root-words}
use Rattle.judy_query.proofs.Betweens.{is-there}
use Rattle.judy_query.proofs.Places.{next-top, next-first}
use Rattle.judy_query.proofs.near.next_by.Goals as goal

pub returns-then-x-eq18446744073709551615 : goal.returns-then-x-eq18446744073709551615
returns-then-x-eq18446744073709551615 c =
    let l = entries c.args.values c.args.arena.now.blocks c.args.node in
    sym (ap (λ x. next word_order l x) c.if-x-eq18446744073709551615.true
    ∙ next-top l (words-most l (root-words c.args.values c.args.arena.now.blocks c.args.node c.requires.root)))

pub returns-in-Some : goal.returns-in-Some
returns-in-Some c =
    let some : is_none c.args.finger.value ≡ false = search rules in
    let u = is-there c.args.finger.value some in
    let same = leaf-content c.args.values c.args.arena.now.blocks c.args.finger.leaf (c.requires.finger.low u.0 u.1) in
    sym (next-first (entries c.args.values c.args.arena.now.blocks c.args.node) c.args.x
    ∙ (c.requires.finger.near u.0 u.1).from c.in-Some.found
    (ap (λ l. first word_order l (c.args.x + 1)) same ∙ sym c.first_entry-2.ensures ∙ c.in-Some.is))

pub returns-then-word-eq0 : goal.returns-then-word-eq0
returns-then-word-eq0 c =
    let some : is_none c.args.finger.value ≡ false = search rules in
    let u = is-there c.args.finger.value some in
    let same = leaf-content c.args.values c.args.arena.now.blocks c.args.finger.leaf (c.requires.finger.low u.0 u.1) in
    let none = ap (λ l. first word_order l (c.args.x + 1)) same ∙ sym c.first_entry-2.ensures ∙ c.in_default.is in
    sym (next-first (entries c.args.values c.args.arena.now.blocks c.args.node) c.args.x
    ∙ ap (λ l. first word_order l (c.args.x + 1)) ((c.requires.finger.near u.0 u.1).whole (sym c.word.ensures ∙ c.if-word-eq0.true)) ∙ none)

pub first_entry-requires-3 : goal.first_entry-requires-3
first_entry-requires-3 c =
    let some : is_none c.args.finger.value ≡ false = search rules in
    let u = is-there c.args.finger.value some in
    let same = leaf-content c.args.values c.args.arena.now.blocks c.args.finger.leaf (c.requires.finger.low u.0 u.1) in
    let none = ap (λ l. first word_order l (c.args.x + 1)) same ∙ sym c.first_entry-2.ensures ∙ c.in_default.is in
    let branch : c.args.finger.branch ≢ 0 = λ z. c.if-word-eq0.false (c.word.ensures ∙ z) in
    ((c.requires.finger.near u.0 u.1).after branch none c.in-Some-after.beside c.in-Some-after.ensures).sound

pub returns : goal.returns
returns c =
    let some : is_none c.args.finger.value ≡ false = search rules in
    let u = is-there c.args.finger.value some in
    let same = leaf-content c.args.values c.args.arena.now.blocks c.args.finger.leaf (c.requires.finger.low u.0 u.1) in
    let none = ap (λ l. first word_order l (c.args.x + 1)) same ∙ sym c.first_entry-2.ensures ∙ c.in_default.is in
    let branch : c.args.finger.branch ≢ 0 = λ z. c.if-word-eq0.false (c.word.ensures ∙ z) in
    c.first_entry-3.ensures ∙ ((c.requires.finger.near u.0 u.1).after branch none c.in-Some-after.beside c.in-Some-after.ensures).same
    ∙ sym (next-first (entries c.args.values c.args.arena.now.blocks c.args.node) c.args.x)
