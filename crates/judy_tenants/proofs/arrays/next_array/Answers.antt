use Rattle.std.proofs.Common.{◌≡◌, ◌≢◌, ◌∙◌, Some, None, ap, arith, subst, sym}
use Rattle.std.proofs.lemmas.Bool.Decides.{nat_tests}
use Rattle.std.specs.FinMap.{get}
use Rattle.judy_model.specs.ArrayLists.{array_key}
use Rattle.judy_directory.specs.Kinds.{spot_of}
use Rattle.judy_directory.specs.Order.{IsLeast, is_on}
use Rattle.judy_directory.specs.Places.{Stand}
use Rattle.judy_directory.proofs.lemmas.Next.{next_is_least}
use Rattle.judy_tenants.specs.States.{has_start, start_of_list}
use Rattle.judy_tenants.proofs.Listing.{no-place, others-place, own-place}
use Rattle.judy_tenants.proofs.arrays.next_array.Goals as goal

pub returns-in_default : goal.returns-in_default
returns-in_default g c =
    let from = c.args.from.now in
    let t = c.args.tenant in
    let d = c.args.stock.now.directory.0 in
    let least : IsLeast (is_on (has_start from) (start_of_list t from)) (get d) None
    = subst (IsLeast (is_on (has_start from) (start_of_list t from)) (get d)) (sym c.next_place.ensures ∙ c.in_default.is)
    (next_is_least (has_start from) (start_of_list t from) d) in
    sym (no-place (c.kinds_are_lawful.ensures g.H.KeyHash.hashed) c.contents_are_in_form.ensures c.args.stock.now.arena.blocks d c.requires t from least)

pub returns-then-tenant-place : goal.returns-then-tenant-place
returns-then-tenant-place g c =
    let from = c.args.from.now in
    let t = c.args.tenant in
    let d = c.args.stock.now.directory.0 in
    let (kind, name, is) = c.tenant.ensures in
    let least : IsLeast (is_on (has_start from) (start_of_list t from)) (get d) (Some (spot_of c.tenant.result kind name, c.in-Some.place))
    = subst (IsLeast (is_on (has_start from) (start_of_list t from)) (get d))
    (sym c.next_place.ensures ∙ c.in-Some.is ∙ ap (λ s. Some (s, c.in-Some.place)) is)
    (next_is_least (has_start from) (start_of_list t from) d) in
    let other : c.tenant.result ≢ t = grind (arith, nat_tests, c.place.ensures, c.if-tenant-place.true) in
    sym (others-place (c.kinds_are_lawful.ensures g.H.KeyHash.hashed) c.contents_are_in_form.ensures c.args.stock.now.arena.blocks d c.requires t from
    c.tenant.result kind name c.in-Some.place least other)

pub returns : goal.returns
returns g c =
    let from = c.args.from.now in
    let t = c.args.tenant in
    let d = c.args.stock.now.directory.0 in
    let kind = c.array-kind.result.0 in
    let name = c.array-kind.result.1 in
    let same : c.tenant.result ≡ t = grind (arith, nat_tests, c.place.ensures, c.if-tenant-place.false) in
    let spot : c.in-Some.spot ≡ spot_of t kind name
    = sym (c.array-kind.ensures c.tenant.result c.tenant.ensures) ∙ ap (λ u. spot_of u kind name) same in
    let least : IsLeast (is_on (has_start from) (start_of_list t from)) (get d) (Some (spot_of t kind name, c.in-Some.place))
    = subst (IsLeast (is_on (has_start from) (start_of_list t from)) (get d))
    (sym c.next_place.ensures ∙ c.in-Some.is ∙ ap (λ s. Some (s, c.in-Some.place)) spot)
    (next_is_least (has_start from) (start_of_list t from) d) in
    ap (λ (p : Stand). Some (array_key kind name, p.entries)) c.place-2.view_is
    ∙ sym (own-place (c.kinds_are_lawful.ensures g.H.KeyHash.hashed) c.contents_are_in_form.ensures c.args.stock.now.arena.blocks d c.requires t from
    kind name c.in-Some.place least)
