use Rattle.std.proofs.Common.{Ok, Err, sym, ◌∙◌, ap, arith}
use Rattle.std.proofs.Common.{set}
use Rattle.judy_reference.proofs.PlaceLemmas.{found-Stands}
use Rattle.judy_model.proofs.lemmas.TestLemmas.{on_err}
use Rattle.judy_reference.proofs.store.content.Content.put.Goals as goal

pub index_mut-requires : goal.index_mut-requires
index_mut-requires g c =
    let h = found-Stands g.K.Ord.cmp g.met.K.Ord.total c.args.key c.deref.result.now c.self.inside.entries.items
    (Ok c.in-Ok.place) c.search.result c.in-Ok.is c.search.ensures c.deref.ensures.value in
    omega (arith, h.0, c.self.inside.entries.ok.0)

pub insert-requires : goal.insert-requires
insert-requires g c =
    let h = found-Stands g.K.Ord.cmp g.met.K.Ord.total c.args.key c.deref.result.now c.self.inside.entries.items
    (Err c.in-Err.place) c.search.result c.in-Err.is c.search.ensures c.deref.ensures.value in
    omega (arith, h.0, c.self.inside.entries.ok.0)

pub returns-in-Ok-clause-ok : goal.returns-in-Ok-clause-ok
returns-in-Ok-clause-ok g c =
    let h = found-Stands g.K.Ord.cmp g.met.K.Ord.total c.args.key c.deref.result.now c.self.inside.entries.items
    (Ok c.in-Ok.place) c.search.result c.in-Ok.is c.search.ensures c.deref.ensures.value in
    rw (← c.self.view_is) (ap (λ e. set c.self.inside.entries.items c.in-Ok.place (e.0, c.args.value)) c.index_mut.ensures.value
    ∙ sym (h.2 c.index_mut.result.now c.args.value))

pub returns-in_ok-insert-in-Err-clause-ok : goal.returns-in_ok-insert-in-Err-clause-ok
returns-in_ok-insert-in-Err-clause-ok g c =
    let h = found-Stands g.K.Ord.cmp g.met.K.Ord.total c.args.key c.deref.result.now c.self.inside.entries.items
    (Err c.in-Err.place) c.search.result c.in-Err.is c.search.ensures c.deref.ensures.value in
    rw (← c.self.view_is) (c.in_ok-insert-in-Err.ensures.items ∙ sym (h.2 c.args.value))

pub returns-in_err-insert-in-Err-clause-absent : goal.returns-in_err-insert-in-Err-clause-absent
returns-in_err-insert-in-Err-clause-absent g c =
    let h = found-Stands g.K.Ord.cmp g.met.K.Ord.total c.args.key c.deref.result.now c.self.inside.entries.items
    (Err c.in-Err.place) c.search.result c.in-Err.is c.search.ensures c.deref.ensures.value in
    rw (← c.self.view_is) (on_err c.from_residual.result h.1)
