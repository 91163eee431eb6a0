use Rattle.std.proofs.Common.{◌≡◌, ◌∷◌, [], ◌++◌, Ok, Some, ap, ◌∙◌, length, string_bytes, rules, arith}
use Rattle.std.proofs.lemmas.Map.Iter.{rest_more, rest_all}
use Rattle.toml.specs.View.{members_view, view, table_view}
use Rattle.judy_table.proofs.Trees.{after, after-end, after-none, size_members_view, tenants_in-first, HasRisingNames-tenants_in}
use Rattle.judy_table.specs.Shown.{told_of}
use Rattle.judy_table.specs.Tenants.{size, tenants_in, tenant_of, written}
use Rattle.judy_table.proofs.table.read_tenants.Goals as goal

pub loop-name-init : goal.loop-name-init
loop-name-init c =
    let rest : c.into_iter-name-iterator.result ≡ c.args.tree.now.entries = search rules in
    let many : size (table_view c.args.tree.now) ≡ length c.args.tree.now.entries = size_members_view c.args.tree.now.entries in (
      tt,
      tt,
      rw (c.requires.empty, rest) (after-none (tenants_in (table_view c.args.tree.now))),
      rw (c.requires.empty, rest, many) omega arith,
    )

pub loop-name-preserved : goal.loop-name-preserved
loop-name-preserved c =
    let rest : c.loop-name.name-iterator ≡ (c.in-Some.name.now, c.in-Some.value.now) ∷ c.next.new.self = search (rules, rest_more) in
    let before = c.loop-name.invariant.2 ∙ ap (λ es. after c.loop-name.room.items (tenants_in (members_view es))) rest in
    let told : Some (told_of c.in-Some-read_written.written) ≡ written (view c.in-Some.value.now) = c.in-Some-read_written.ensures in
    let made : Ok c.in_ok-tenant.tenant ≡ tenant_of (string_bytes c.in-Some.name.now) (told_of c.in-Some-read_written.written) =
    c.in_ok-tenant.ensures ∙ ap (λ k. tenant_of k (told_of c.in-Some-read_written.written)) c.as_str.ensures.value in
    let pushed : c.push.new.self.items ≡ c.loop-name.room.items ++ c.in_ok-tenant.tenant ∷ [] = c.push.ensures.items in
    let fewer = ap length rest in
    let more = c.push.ensures.len in
    let all = c.loop-name.invariant.3 in (
      tt,
      tt,
      rw pushed (tenants_in-first (string_bytes c.in-Some.name.now) (view c.in-Some.value.now)
          (members_view c.next.new.self) (told_of c.in-Some-read_written.written) c.in_ok-tenant.tenant _ c.loop-name.room.items before told made),
      omega (arith, fewer, more, all),
    )

pub returns-clause-sorted : goal.returns-clause-sorted
returns-clause-sorted c =
    let rest : c.loop-name.name-iterator ≡ [] = search (rules, rest_all) in
    let all = c.loop-name.invariant.2 ∙ ap (λ es. after c.loop-name.room.items (tenants_in (members_view es))) rest ∙ after-end c.loop-name.room.items in
    HasRisingNames-tenants_in c.args.tree.now.entries c.loop-name.room.items c.iter-name-items.ensures.ordered all
