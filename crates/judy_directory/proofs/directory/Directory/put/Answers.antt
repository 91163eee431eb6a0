use Rattle.std.proofs.Common.{rules, is_some, cond, ap, sym, ◌∙◌}
use Rattle.std.specs.FinMap as map
use Rattle.judy_directory.specs.Recent.{recent_at, with_recent, has_recent}
use Rattle.judy_directory.proofs.RecentPlaces.{recent-set, recent-insert, get-other, has-insert, none_of}
use Rattle.judy_directory.proofs.directory.Directory.put.Goals as goal

pub returns-then-set_recent-clause-places : goal.returns-then-set_recent-clause-places
returns-then-set_recent-clause-places c =
    let m = c.self.inside.names.0 in
    let k = c.args.spot.now in
    ap (λ r. with_recent r m) (c.set_recent.ensures.set c.if-set_recent.true)
    ∙ recent-set m k c.self.inside.recent c.args.place (sym c.set_recent.ensures.is ∙ c.if-set_recent.true)
    ∙ ap (λ x. map.insert x k c.args.place) (ap (λ v. v.0) c.self.view_is)
    ∙ ap (λ b. cond b (map.remove c.args.self.now.0 k) (map.insert c.args.self.now.0 k c.args.place)) (sym (sym c.is_nothing.ensures ∙ c.if-is_nothing.false))

pub set-requires : goal.set-requires
set-requires c =
    let m = c.self.inside.names.0 in
    let k = c.args.spot.now in
    let other = none_of (recent_at c.self.inside.recent k) (sym c.set_recent.ensures.is ∙ c.if-set_recent.false) in
    ap is_some (sym (get-other m k c.self.inside.recent other)) ∙ ap (λ x. map.contains_key x k) (ap (λ v. v.0) c.self.view_is)
    ∙ c.requires (search rules)

pub invariant_of-self-2 : goal.invariant_of-self-2
invariant_of-self-2 c =
    ap (λ r. has_recent r c.set.new.self.0) (c.set_recent.ensures.other c.if-set_recent.false)
    ∙ ap (has_recent c.self.inside.recent) c.set.ensures.places
    ∙ has-insert c.self.inside.names.0 c.args.spot.now c.self.inside.recent c.args.place c.self.invariant

pub returns-clause-places : goal.returns-clause-places
returns-clause-places c =
    let m = c.self.inside.names.0 in
    let k = c.args.spot.now in
    let other = none_of (recent_at c.self.inside.recent k) (sym c.set_recent.ensures.is ∙ c.if-set_recent.false) in
    ap (λ r. with_recent r c.set.new.self.0) (c.set_recent.ensures.other c.if-set_recent.false)
    ∙ ap (with_recent c.self.inside.recent) c.set.ensures.places
    ∙ recent-insert m k c.self.inside.recent other c.args.place
    ∙ ap (λ x. map.insert x k c.args.place) (ap (λ v. v.0) c.self.view_is)
    ∙ ap (λ b. cond b (map.remove c.args.self.now.0 k) (map.insert c.args.self.now.0 k c.args.place)) (sym (sym c.is_nothing.ensures ∙ c.if-is_nothing.false))
