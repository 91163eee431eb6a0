use Rattle.std.proofs.Common.{Ok, Err, sym, ◌∙◌, arith}
use Rattle.std.proofs.lemmas.Bool.{false≢true}
use Rattle.std.specs.Cmp.Lexicographic.{nat_list_cmp_total}
use Rattle.judy_model.specs.Contents.{string_order, without_key}
use Rattle.judy_model.specs.Tenant.{content_of}
use Rattle.judy_reference.proofs.PlaceLemmas.{found-Stands}
use Rattle.judy_reference.proofs.KeptLemmas.{without-at, without-last, without-none, without_sorted, content_sorted, kept-from, held_unless}
use Rattle.judy_reference.proofs.store.directory.Directory.remove.Goals as goal

pub returns-in_default : goal.returns-in_default
returns-in_default g c =
    let h = found-Stands string_order nat_list_cmp_total c.args.name.now c.deref.result.now c.self.inside.arrays.items
    (Err c.in_default.field-0) c.search.result c.in_default.is c.search.ensures c.deref.ensures.value in
    rw (← c.self.view_is) (without-none g.K.Ord.cmp g.met.K.Ord.total c.self.inside.arrays.items c.args.name.now
    c.in_default.field-0 c.args.key.now h c.self.invariant)

pub index_mut-array-requires : goal.index_mut-array-requires
index_mut-array-requires g c =
    let h = found-Stands string_order nat_list_cmp_total c.args.name.now c.deref.result.now c.self.inside.arrays.items
    (Ok c.in-Ok.place) c.search.result c.in-Ok.is c.search.ensures c.deref.ensures.value in
    omega (arith, h.0, c.self.inside.arrays.ok.0)

pub invariant_of-self : goal.invariant_of-self
invariant_of-self g c =
    let h = found-Stands string_order nat_list_cmp_total c.args.name.now c.deref.result.now c.self.inside.arrays.items
    (Ok c.in-Ok.place) c.search.result c.in-Ok.is c.search.ensures c.deref.ensures.value in
    kept-from g.K.Ord.cmp c.self.inside.arrays.items _ c.args.name.now
    (without_key g.K.Ord.cmp (content_of c.self.inside.arrays.items c.args.name.now) c.args.key.now)
    (c.forget.ensures ∙ without-last g.K.Ord.cmp g.met.K.Ord.total c.self.inside.arrays.items c.args.name.now c.in-Ok.place
    c.index_mut-array.result.now c.remove.new.self c.args.key.now h c.index_mut-array.ensures.value c.remove.ensures
    (c.is_empty.ensures.0 c.if-is_empty.true))
    c.self.invariant
    (without_sorted g.K.Ord.cmp g.met.K.Ord.total c.args.key.now (content_of c.self.inside.arrays.items c.args.name.now)
    (content_sorted g.K.Ord.cmp c.self.inside.arrays.items c.args.name.now c.self.invariant))

pub invariant_of-self-else-is_empty : goal.invariant_of-self-else-is_empty
invariant_of-self-else-is_empty g c =
    let h = found-Stands string_order nat_list_cmp_total c.args.name.now c.deref.result.now c.self.inside.arrays.items
    (Ok c.in-Ok.place) c.search.result c.in-Ok.is c.search.ensures c.deref.ensures.value in
    kept-from g.K.Ord.cmp c.self.inside.arrays.items _ c.args.name.now
    (without_key g.K.Ord.cmp (content_of c.self.inside.arrays.items c.args.name.now) c.args.key.now)
    (without-at g.K.Ord.cmp g.met.K.Ord.total c.self.inside.arrays.items c.args.name.now c.in-Ok.place
    c.index_mut-array.result.now c.remove.new.self c.args.key.now h c.index_mut-array.ensures.value c.remove.ensures
    (held_unless c.remove.new.self (λ none. absurd (false≢true (sym c.if-is_empty.false ∙ c.is_empty.ensures.1 none)))))
    c.self.invariant
    (without_sorted g.K.Ord.cmp g.met.K.Ord.total c.args.key.now (content_of c.self.inside.arrays.items c.args.name.now)
    (content_sorted g.K.Ord.cmp c.self.inside.arrays.items c.args.name.now c.self.invariant))

pub returns-then-is_empty : goal.returns-then-is_empty
returns-then-is_empty g c =
    let h = found-Stands string_order nat_list_cmp_total c.args.name.now c.deref.result.now c.self.inside.arrays.items
    (Ok c.in-Ok.place) c.search.result c.in-Ok.is c.search.ensures c.deref.ensures.value in
    rw (← c.self.view_is) (c.forget.ensures ∙ without-last g.K.Ord.cmp g.met.K.Ord.total c.self.inside.arrays.items
    c.args.name.now c.in-Ok.place c.index_mut-array.result.now c.remove.new.self c.args.key.now h
    c.index_mut-array.ensures.value c.remove.ensures (c.is_empty.ensures.0 c.if-is_empty.true))

pub returns-else-is_empty : goal.returns-else-is_empty
returns-else-is_empty g c =
    let h = found-Stands string_order nat_list_cmp_total c.args.name.now c.deref.result.now c.self.inside.arrays.items
    (Ok c.in-Ok.place) c.search.result c.in-Ok.is c.search.ensures c.deref.ensures.value in
    rw (← c.self.view_is) (without-at g.K.Ord.cmp g.met.K.Ord.total c.self.inside.arrays.items c.args.name.now c.in-Ok.place
    c.index_mut-array.result.now c.remove.new.self c.args.key.now h c.index_mut-array.ensures.value c.remove.ensures
    (held_unless c.remove.new.self (λ none. absurd (false≢true (sym c.if-is_empty.false ∙ c.is_empty.ensures.1 none)))))
