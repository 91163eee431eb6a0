use Rattle.std.proofs.Common.{◌≡◌, ◌∷◌, ◌∙◌, Err, subst, sym, string_bytes, rules, List, ℕ}
use Rattle.std.proofs.lemmas.Map.Iter.{rest_more}
use Rattle.toml.specs.View.{table_view, view}
use Rattle.judy_table.specs.Blames.{HasMember}
use Rattle.judy_table.specs.Tenants.{tenant_if_written, written}
use Rattle.judy_table.proofs.Entries.{in-rest, in-first}
use Rattle.judy_table.proofs.blames.culprit.Goals as goal

pub loop-name-init : goal.loop-name-init
loop-name-init c =
    let whole : c.into_iter-name-iterator.result ≡ c.args.tree.now.entries = search rules in
    (tt, tt, λ name d h. rw (← whole) h)

pub loop-name-preserved : goal.loop-name-preserved
loop-name-preserved c =
    let rest : c.loop-name.name-iterator ≡ (c.in-Some.name.now, c.in-Some.value.now) ∷ c.next.new.self = search (rules, rest_more) in
    (tt, tt, in-rest c.loop-name.name-iterator c.next.new.self (c.in-Some.name.now, c.in-Some.value.now) (table_view c.args.tree.now) rest c.loop-name.invariant.2)

pub returns-then-has_fault : goal.returns-then-has_fault
returns-then-has_fault c =
    let rest : c.loop-name.name-iterator ≡ (c.in-Some.name.now, c.in-Some.value.now) ∷ c.next.new.self = search (rules, rest_more) in
    let first = in-first c.loop-name.name-iterator c.next.new.self (c.in-Some.name.now, c.in-Some.value.now) (table_view c.args.tree.now) rest c.loop-name.invariant.2 in
    let same : string_bytes c.in-Some.name.now ≡ c.as_str-then-has_fault.result.now = sym c.as_str-then-has_fault.ensures.value in
    let told = c.has_fault.ensures c.if-has_fault.true in (
      subst (λ (name : List ℕ). HasMember name (view c.in-Some.value.now) (table_view c.args.tree.now)) same first,
      subst (λ (name : List ℕ). tenant_if_written name (written (view c.in-Some.value.now)) ≡ Err c.args.fault) (c.as_str.ensures.value ∙ same) told,
    )
