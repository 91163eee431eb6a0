use Rattle.std.proofs.Common.{Ok, Err, sym, ◌∙◌, ap, arith}
use Rattle.std.specs.List.{insert}
use Rattle.std.specs.Cmp.Lexicographic.{nat_list_cmp_total}
use Rattle.std.specs.FinMap.{find, put, is_sorted}
use Rattle.judy_model.specs.Contents.{string_order, with_entry}
use Rattle.judy_model.specs.Tenant.{content_of}
use Rattle.judy_model.proofs.lemmas.TestLemmas.{on_err}
use Rattle.judy_reference.proofs.PlaceLemmas.{found-Stands}
use Rattle.judy_reference.proofs.KeptLemmas.{content-at, content-none, put-at, put-new, put_sorted, content_sorted, kept-from}
use Rattle.judy_reference.proofs.store.directory.Directory.put.Goals as goal

pub index_mut-array-requires : goal.index_mut-array-requires
index_mut-array-requires g c =
    let h = found-Stands string_order nat_list_cmp_total c.args.name.now c.deref.result.now c.self.inside.arrays.items
    (Ok c.in-Ok.place) c.search.result c.in-Ok.is c.search.ensures c.deref.ensures.value in
    omega (arith, h.0, c.self.inside.arrays.ok.0)

pub invariant_of-self : goal.invariant_of-self
invariant_of-self g c =
    let h = found-Stands string_order nat_list_cmp_total c.args.name.now c.deref.result.now c.self.inside.arrays.items
    (Ok c.in-Ok.place) c.search.result c.in-Ok.is c.search.ensures c.deref.ensures.value in
    kept-from g.K.Ord.cmp c.self.inside.arrays.items _ c.args.name.now
    (with_entry g.K.Ord.cmp (content_of c.self.inside.arrays.items c.args.name.now) c.args.key c.args.value)
    (put-at g.K.Ord.cmp g.met.K.Ord.total c.self.inside.arrays.items c.args.name.now c.in-Ok.place c.index_mut-array.result.now
    c.put.new.self c.args.key c.args.value h c.index_mut-array.ensures.value c.in_ok-put-in-Ok.ensures.ok)
    c.self.invariant
    (put_sorted g.K.Ord.cmp g.met.K.Ord.total c.args.key c.args.value (content_of c.self.inside.arrays.items c.args.name.now)
    (content_sorted g.K.Ord.cmp c.self.inside.arrays.items c.args.name.now c.self.invariant))

pub insert-requires : goal.insert-requires
insert-requires g c =
    let h = found-Stands string_order nat_list_cmp_total c.args.name.now c.deref.result.now c.self.inside.arrays.items
    (Err c.in-Err.place) c.search.result c.in-Err.is c.search.ensures c.deref.ensures.value in
    omega (arith, h.0, c.self.inside.arrays.ok.0)

pub invariant_of-self-in-Continue-branch-3 : goal.invariant_of-self-in-Continue-branch-3
invariant_of-self-in-Continue-branch-3 g c =
    let h = found-Stands string_order nat_list_cmp_total c.args.name.now c.deref.result.now c.self.inside.arrays.items
    (Err c.in-Err.place) c.search.result c.in-Err.is c.search.ensures c.deref.ensures.value in
    kept-from g.K.Ord.cmp c.self.inside.arrays.items c.insert.new.self.items c.args.name.now
    (with_entry g.K.Ord.cmp (content_of c.self.inside.arrays.items c.args.name.now) c.args.key c.args.value)
    (c.in_ok-insert-in-Err.ensures.items ∙ ap (λ n. insert c.self.inside.arrays.items c.in-Err.place (n, c.put-in-Err.new.self)) c.copied.ensures
    ∙ put-new g.K.Ord.cmp g.met.K.Ord.total c.self.inside.arrays.items c.args.name.now c.in-Err.place c.put-in-Err.new.self
    c.args.key c.args.value h c.self.invariant (c.in_ok-put-in-Err.ensures.ok ∙ ap (put g.K.Ord.cmp c.args.key c.args.value)
    c.new-content.ensures))
    c.self.invariant
    (put_sorted g.K.Ord.cmp g.met.K.Ord.total c.args.key c.args.value (content_of c.self.inside.arrays.items c.args.name.now)
    (content_sorted g.K.Ord.cmp c.self.inside.arrays.items c.args.name.now c.self.invariant))

pub returns-in_ok-put-in-Ok-clause-ok : goal.returns-in_ok-put-in-Ok-clause-ok
returns-in_ok-put-in-Ok-clause-ok g c =
    let h = found-Stands string_order nat_list_cmp_total c.args.name.now c.deref.result.now c.self.inside.arrays.items
    (Ok c.in-Ok.place) c.search.result c.in-Ok.is c.search.ensures c.deref.ensures.value in
    rw (← c.self.view_is) (put-at g.K.Ord.cmp g.met.K.Ord.total c.self.inside.arrays.items c.args.name.now c.in-Ok.place
    c.index_mut-array.result.now c.put.new.self c.args.key c.args.value h c.index_mut-array.ensures.value
    c.in_ok-put-in-Ok.ensures.ok)

pub returns-in_ok-insert-in-Err-clause-ok : goal.returns-in_ok-insert-in-Err-clause-ok
returns-in_ok-insert-in-Err-clause-ok g c =
    let h = found-Stands string_order nat_list_cmp_total c.args.name.now c.deref.result.now c.self.inside.arrays.items
    (Err c.in-Err.place) c.search.result c.in-Err.is c.search.ensures c.deref.ensures.value in
    rw (← c.self.view_is)
    (c.in_ok-insert-in-Err.ensures.items ∙ ap (λ n. insert c.self.inside.arrays.items c.in-Err.place (n, c.put-in-Err.new.self))
    c.copied.ensures
    ∙ put-new g.K.Ord.cmp g.met.K.Ord.total c.self.inside.arrays.items c.args.name.now c.in-Err.place c.put-in-Err.new.self
    c.args.key c.args.value h c.self.invariant (c.in_ok-put-in-Err.ensures.ok ∙ ap (put g.K.Ord.cmp c.args.key c.args.value)
    c.new-content.ensures))

pub returns-in_err-put-in-Ok-clause-absent : goal.returns-in_err-put-in-Ok-clause-absent
returns-in_err-put-in-Ok-clause-absent g c =
    let h = found-Stands string_order nat_list_cmp_total c.args.name.now c.deref.result.now c.self.inside.arrays.items
    (Ok c.in-Ok.place) c.search.result c.in-Ok.is c.search.ensures c.deref.ensures.value in
    let here = content-at g.K.Ord.cmp g.met.K.Ord.total c.self.inside.arrays.items c.args.name.now c.in-Ok.place
    c.index_mut-array.result.now h c.index_mut-array.ensures.value in
    let sorted = ap (is_sorted g.K.Ord.cmp) (sym here) ∙ content_sorted g.K.Ord.cmp c.self.inside.arrays.items c.args.name.now c.self.invariant in
    rw (← c.self.view_is) (on_err c.from_residual.result (ap (find g.K.Ord.cmp c.args.key) here ∙ c.in_err-put-in-Ok.ensures.absent sorted))

pub returns-in_err-put-in-Err-clause-absent : goal.returns-in_err-put-in-Err-clause-absent
returns-in_err-put-in-Err-clause-absent g c =
    let h = found-Stands string_order nat_list_cmp_total c.args.name.now c.deref.result.now c.self.inside.arrays.items
    (Err c.in-Err.place) c.search.result c.in-Err.is c.search.ensures c.deref.ensures.value in
    rw (← c.self.view_is) (on_err c.from_residual-in_err-put-in-Err.result
    (ap (find g.K.Ord.cmp c.args.key) (content-none g.K.Ord.cmp g.met.K.Ord.total c.self.inside.arrays.items c.args.name.now
    c.in-Err.place h c.self.invariant)))

pub returns-in_err-insert-in-Err-clause-absent : goal.returns-in_err-insert-in-Err-clause-absent
returns-in_err-insert-in-Err-clause-absent g c =
    let h = found-Stands string_order nat_list_cmp_total c.args.name.now c.deref.result.now c.self.inside.arrays.items
    (Err c.in-Err.place) c.search.result c.in-Err.is c.search.ensures c.deref.ensures.value in
    rw (← c.self.view_is) (on_err c.from_residual-in_err-insert-in-Err.result
    (ap (find g.K.Ord.cmp c.args.key) (content-none g.K.Ord.cmp g.met.K.Ord.total c.self.inside.arrays.items c.args.name.now
    c.in-Err.place h c.self.invariant)))
