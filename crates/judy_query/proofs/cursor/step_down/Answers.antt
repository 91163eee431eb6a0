use Rattle.std.proofs.Common.{◌≢◌, ◌-◌, ap, sym, ◌∙◌}
use Rattle.judy_model.specs.Contents.{word_order, last, prev}
use Rattle.judy_model.proofs.lemmas.EntryLemmas.{positive}
use Rattle.judy_tree.specs.Root.{entries}
use Rattle.judy_tree.proofs.lemmas.Trees.{leaf-content, root-leaf}
use Rattle.judy_query.proofs.Places.{prev-zero, prev-last}
use Rattle.judy_query.proofs.Cursors.{last-there, value-there, cursor-moves, cursor-beside, leaf-rising, before-below}
use Rattle.judy_query.proofs.cursor.step_down.Goals as goal

pub returns-then-x-eq0-clause-found : goal.returns-then-x-eq0-clause-found
returns-then-x-eq0-clause-found c =
    let l = entries c.args.values c.args.arena.now.blocks c.args.node in
    sym (ap (λ x. prev word_order l x) c.if-x-eq0.true ∙ prev-zero l)

pub returns-in-Some-clause-found : goal.returns-in-Some-clause-found
returns-in-Some-clause-found c =
    let u = value-there _ c.requires.cursor.here in
    let same = leaf-content c.args.values c.args.arena.now.blocks c.args.cursor.now.leaf c.requires.cursor.low in
    let some = positive c.args.x c.if-x-eq0.false in
    sym (prev-last (entries c.args.values c.args.arena.now.blocks c.args.node) c.args.x some
    ∙ (c.requires.cursor.near c.args.x u.0 u.1).upto some c.in-Some.found
    (ap (λ l. last word_order l (c.args.x - 1)) same ∙ sym c.last_entry.ensures ∙ c.in-Some.is))

pub returns-in-Some-clause-cursor : goal.returns-in-Some-clause-cursor
returns-in-Some-clause-cursor c =
    let b = c.args.arena.now.blocks in
    let same = leaf-content c.args.values b c.args.cursor.now.leaf c.requires.cursor.low in
    cursor-moves c.args.values b c.args.node c.args.x c.args.cursor.now c.requires.cursor c.in-Some.found
    (last-there (entries c.args.values b c.args.cursor.now.leaf) (c.args.x - 1) c.in-Some.found
    (leaf-rising c.args.values b c.args.cursor.now.leaf c.requires.cursor.leaf)
    (ap (λ l. last word_order l (c.args.x - 1)) same ∙ sym c.last_entry.ensures ∙ c.in-Some.is))

pub returns-then-word-eq0-clause-found : goal.returns-then-word-eq0-clause-found
returns-then-word-eq0-clause-found c =
    let u = value-there _ c.requires.cursor.here in
    let same = leaf-content c.args.values c.args.arena.now.blocks c.args.cursor.now.leaf c.requires.cursor.low in
    let none = ap (λ l. last word_order l (c.args.x - 1)) same ∙ sym c.last_entry.ensures ∙ c.in_default.is in
    sym (prev-last (entries c.args.values c.args.arena.now.blocks c.args.node) c.args.x (positive c.args.x c.if-x-eq0.false)
    ∙ ap (λ l. last word_order l (c.args.x - 1)) ((c.requires.cursor.near c.args.x u.0 u.1).whole (sym c.word.ensures ∙ c.if-word-eq0.true)) ∙ none)

pub last_entry-requires-2 : goal.last_entry-requires-2
last_entry-requires-2 c =
    let b = c.args.arena.now.blocks in
    let u = value-there _ c.requires.cursor.here in
    let same = leaf-content c.args.values b c.args.cursor.now.leaf c.requires.cursor.low in
    let none = ap (λ l. last word_order l (c.args.x - 1)) same ∙ sym c.last_entry.ensures ∙ c.in_default.is in
    let branch : c.args.cursor.now.branch ≢ 0 = λ z. c.if-word-eq0.false (c.word.ensures ∙ z) in
    root-leaf c.args.values b c.in-Some-before.beside.1 (sym c.leads_to_branch.ensures ∙ c.if-leads_to_branch.false)
    ((c.requires.cursor.near c.args.x u.0 u.1).before branch (positive c.args.x c.if-x-eq0.false) none c.in-Some-before.beside c.in-Some-before.ensures).sound

pub returns-clause-found : goal.returns-clause-found
returns-clause-found c =
    let b = c.args.arena.now.blocks in
    let u = value-there _ c.requires.cursor.here in
    let same = leaf-content c.args.values b c.args.cursor.now.leaf c.requires.cursor.low in
    let none = ap (λ l. last word_order l (c.args.x - 1)) same ∙ sym c.last_entry.ensures ∙ c.in_default.is in
    let branch : c.args.cursor.now.branch ≢ 0 = λ z. c.if-word-eq0.false (c.word.ensures ∙ z) in
    let some = positive c.args.x c.if-x-eq0.false in
    let beside = leaf-content c.args.values b c.in-Some-before.beside.1 (sym c.leads_to_branch.ensures ∙ c.if-leads_to_branch.false) in
    c.last_entry-2.ensures ∙ sym (ap (λ l. last word_order l (c.args.x - 1)) beside)
    ∙ ((c.requires.cursor.near c.args.x u.0 u.1).before branch some none c.in-Some-before.beside c.in-Some-before.ensures).same
    ∙ sym (prev-last (entries c.args.values b c.args.node) c.args.x some)

pub returns-clause-cursor : goal.returns-clause-cursor
returns-clause-cursor c =
    let b = c.args.arena.now.blocks in
    let u = value-there _ c.requires.cursor.here in
    let same = leaf-content c.args.values b c.args.cursor.now.leaf c.requires.cursor.low in
    let none = ap (λ l. last word_order l (c.args.x - 1)) same ∙ sym c.last_entry.ensures ∙ c.in_default.is in
    let branch : c.args.cursor.now.branch ≢ 0 = λ z. c.if-word-eq0.false (c.word.ensures ∙ z) in
    let between = c.requires.cursor.near c.args.x u.0 u.1 in
    let low = sym c.leads_to_branch.ensures ∙ c.if-leads_to_branch.false in
    let beside = leaf-content c.args.values b c.in-Some-before.beside.1 low in
    let leaf = root-leaf c.args.values b c.in-Some-before.beside.1 low
    (between.before branch (positive c.args.x c.if-x-eq0.false) none c.in-Some-before.beside c.in-Some-before.ensures).sound in
    cursor-beside c.args.values b c.args.node c.args.x c.args.cursor.now c.requires.cursor branch c.in-Some-before.beside
    (before-below b c.args.cursor.now.branch c.args.x (between.over branch) c.in-Some-before.beside c.in-Some-before.ensures) low leaf c.last_entry-2.result
    (λ e is. last-there (entries c.args.values b c.in-Some-before.beside.1) (c.args.x - 1) e
    (leaf-rising c.args.values b c.in-Some-before.beside.1 leaf)
    (ap (λ l. last word_order l (c.args.x - 1)) beside ∙ sym c.last_entry-2.ensures ∙ is))
