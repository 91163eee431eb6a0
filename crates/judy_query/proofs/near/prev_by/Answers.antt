use Rattle.std.proofs.Common.{rules, ◌≡◌, ◌≢◌, ◌-◌, false, ap, sym, ◌∙◌}
use Rattle.std.specs.Prelude.{is_none}
use Rattle.judy_model.specs.Contents.{word_order, last, prev}
use Rattle.judy_model.proofs.lemmas.EntryLemmas.{positive}
use Rattle.judy_tree.specs.Root.{entries}
use Rattle.judy_tree.proofs.lemmas.Trees.{leaf-content}
use Rattle.judy_query.proofs.Betweens.{is-there}
use Rattle.judy_query.proofs.Places.{prev-zero, prev-last}
use Rattle.judy_query.proofs.near.prev_by.Goals as goal

pub returns-then-x-eq0 : goal.returns-then-x-eq0
returns-then-x-eq0 c =
    let l = entries c.args.values c.args.arena.now.blocks c.args.node in
    sym (ap (λ x. prev word_order l x) c.if-x-eq0.true ∙ prev-zero l)

pub returns-in-Some : goal.returns-in-Some
returns-in-Some c =
    let some : is_none c.args.finger.value ≡ false = search rules in
    let u = is-there c.args.finger.value some in
    let same = leaf-content c.args.values c.args.arena.now.blocks c.args.finger.leaf (c.requires.finger.low u.0 u.1) in
    sym (prev-last (entries c.args.values c.args.arena.now.blocks c.args.node) c.args.x (positive c.args.x c.if-x-eq0.false)
    ∙ (c.requires.finger.near u.0 u.1).upto (positive c.args.x c.if-x-eq0.false) c.in-Some.found
    (ap (λ l. last word_order l (c.args.x - 1)) same ∙ sym c.last_entry-2.ensures ∙ c.in-Some.is))

pub returns-then-word-eq0 : goal.returns-then-word-eq0
returns-then-word-eq0 c =
    let some : is_none c.args.finger.value ≡ false = search rules in
    let u = is-there c.args.finger.value some in
    let same = leaf-content c.args.values c.args.arena.now.blocks c.args.finger.leaf (c.requires.finger.low u.0 u.1) in
    let none = ap (λ l. last word_order l (c.args.x - 1)) same ∙ sym c.last_entry-2.ensures ∙ c.in_default.is in
    sym (prev-last (entries c.args.values c.args.arena.now.blocks c.args.node) c.args.x (positive c.args.x c.if-x-eq0.false)
    ∙ ap (λ l. last word_order l (c.args.x - 1)) ((c.requires.finger.near u.0 u.1).whole (sym c.word.ensures ∙ c.if-word-eq0.true)) ∙ none)

pub last_entry-requires-3 : goal.last_entry-requires-3
last_entry-requires-3 c =
    let some : is_none c.args.finger.value ≡ false = search rules in
    let u = is-there c.args.finger.value some in
    let same = leaf-content c.args.values c.args.arena.now.blocks c.args.finger.leaf (c.requires.finger.low u.0 u.1) in
    let none = ap (λ l. last word_order l (c.args.x - 1)) same ∙ sym c.last_entry-2.ensures ∙ c.in_default.is in
    let branch : c.args.finger.branch ≢ 0 = λ z. c.if-word-eq0.false (c.word.ensures ∙ z) in
    ((c.requires.finger.near u.0 u.1).before branch (positive c.args.x c.if-x-eq0.false) none c.in-Some-before.beside c.in-Some-before.ensures).sound

pub returns : goal.returns
returns c =
    let some : is_none c.args.finger.value ≡ false = search rules in
    let u = is-there c.args.finger.value some in
    let same = leaf-content c.args.values c.args.arena.now.blocks c.args.finger.leaf (c.requires.finger.low u.0 u.1) in
    let none = ap (λ l. last word_order l (c.args.x - 1)) same ∙ sym c.last_entry-2.ensures ∙ c.in_default.is in
    let branch : c.args.finger.branch ≢ 0 = λ z. c.if-word-eq0.false (c.word.ensures ∙ z) in
    c.last_entry-3.ensures ∙ ((c.requires.finger.near u.0 u.1).before branch (positive c.args.x c.if-x-eq0.false) none
    c.in-Some-before.beside c.in-Some-before.ensures).same
    ∙ sym (prev-last (entries c.args.values c.args.arena.now.blocks c.args.node) c.args.x (positive c.args.x c.if-x-eq0.false))
