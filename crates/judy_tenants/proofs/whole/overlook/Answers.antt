use Rattle.std.proofs.Common.{◌≡◌, ◌∙◌, ap, subst, sym}
use Rattle.judy_model.specs.declared.commands.Kind.TheVariants.{One}
use Rattle.judy_model.specs.Intersections.{intersect, intersection_reply}
use Rattle.judy_model.specs.Tenant.{allowed_step, content_of}
use Rattle.judy_tenants.specs.States.{state_in}
use Rattle.judy_words.specs.OneArrays.{IsOneArray, one_in}
use Rattle.judy_tenants.proofs.StateLaws.{holds-in, place-in}
use Rattle.judy_tenants.proofs.whole.overlook.Goals as goal

pub intersection-requires-clause-set : goal.intersection-requires-clause-set
intersection-requires-clause-set g c =
    let b = c.args.stock.now.arena.blocks in
    subst (λ w. IsOneArray b w) (sym c.set_of-set.ensures)
    (place-in (c.kinds_are_lawful.ensures g.H.KeyHash.hashed) One b c.args.stock.now.directory.0 c.args.tenant c.in-Intersect.name c.requires.held).sound

pub intersection-requires-clause-other : goal.intersection-requires-clause-other
intersection-requires-clause-other g c =
    let b = c.args.stock.now.arena.blocks in
    subst (λ w. IsOneArray b w) (sym c.set_of-other.ensures)
    (place-in (c.kinds_are_lawful.ensures g.H.KeyHash.hashed) One b c.args.stock.now.directory.0 c.args.tenant c.in-Intersect.other c.requires.held).sound

pub returns-in-Intersect : goal.returns-in-Intersect
returns-in-Intersect g c =
    let b = c.args.stock.now.arena.blocks in
    let d = c.args.stock.now.directory.0 in
    let t = c.args.tenant in
    let s = state_in b d t in
    let call = c.in-Intersect in
    let laws = c.kinds_are_lawful.ensures g.H.KeyHash.hashed in
    let set : one_in b c.set_of-set.result ≡ content_of s.one call.name = ap (one_in b) c.set_of-set.ensures ∙ sym (holds-in laws One b d t call.name) in
    let other : one_in b c.set_of-other.result ≡ content_of s.one call.other
    = ap (one_in b) c.set_of-other.ensures ∙ sym (holds-in laws One b d t call.other) in
    ap (allowed_step c.args.quota s) call.is
    ∙ ap (λ r. (r, s)) (sym (c.intersection.ensures
    ∙ ap (λ l. intersection_reply (intersect l (one_in b c.set_of-other.result) call.x call.most)) set
    ∙ ap (λ m. intersection_reply (intersect (content_of s.one call.name) m call.x call.most)) other))

pub returns-in-Names : goal.returns-in-Names
returns-in-Names g c =
    let s = state_in c.args.stock.now.arena.blocks c.args.stock.now.directory.0 c.args.tenant in
    ap (allowed_step c.args.quota s) c.in-Names.is ∙ ap (λ r. (r, s)) (sym c.names.ensures)
