use Rattle.std.proofs.Common.{Ok, Err, true, sym, ◌∙◌, arith}
use Rattle.std.specs.Cmp.Lexicographic.{nat_list_cmp_total}
use Rattle.judy_model.specs.Contents.{string_order}
use Rattle.judy_model.proofs.lemmas.FormLemmas.{with_content_same}
use Rattle.judy_reference.proofs.PlaceLemmas.{found-Stands}
use Rattle.judy_reference.proofs.KeptLemmas.{content-at, content-none}
use Rattle.judy_reference.proofs.store.directory.Directory.content.Goals as goal

pub index-requires : goal.index-requires
index-requires g c =
    let h = found-Stands string_order nat_list_cmp_total c.args.name.now c.deref.result.now c.self.inside.arrays.items
    (Ok c.in-Ok.place) c.search.result c.in-Ok.is c.search.ensures c.deref.ensures.value in
    omega (arith, h.0, c.self.inside.arrays.ok.0)

pub returns-in-Ok-clause-value : goal.returns-in-Ok-clause-value
returns-in-Ok-clause-value g c =
    let h = found-Stands string_order nat_list_cmp_total c.args.name.now c.deref.result.now c.self.inside.arrays.items
    (Ok c.in-Ok.place) c.search.result c.in-Ok.is c.search.ensures c.deref.ensures.value in
    rw (← c.self.view_is)
    (c.entries.ensures ∙ sym (content-at g.K.Ord.cmp g.met.K.Ord.total c.self.inside.arrays.items c.args.name.now c.in-Ok.place
    c.index.result.now h c.index.ensures))

pub returns-in-Err-clause-value : goal.returns-in-Err-clause-value
returns-in-Err-clause-value g c =
    let h = found-Stands string_order nat_list_cmp_total c.args.name.now c.deref.result.now c.self.inside.arrays.items
    (Err c.in-Err.field-0) c.search.result c.in-Err.is c.search.ensures c.deref.ensures.value in
    rw (← c.self.view_is) (sym (content-none g.K.Ord.cmp g.met.K.Ord.total c.self.inside.arrays.items c.args.name.now c.in-Err.field-0 h c.self.invariant))

pub returns-in-Ok-clause-same : goal.returns-in-Ok-clause-same
returns-in-Ok-clause-same g c = rw (← c.self.view_is) (with_content_same g.K.Ord.cmp (λ e. true) c.self.inside.arrays.items c.args.name.now c.self.invariant)

pub returns-in-Err-clause-same : goal.returns-in-Err-clause-same
returns-in-Err-clause-same g c = rw (← c.self.view_is) (with_content_same g.K.Ord.cmp (λ e. true) c.self.inside.arrays.items c.args.name.now c.self.invariant)
