use Rattle.std.proofs.Common.{length-set, ◌≡◌, ap, sym, subst, ◌∙◌, arith, length, get_or, ◌<◌, ◌+◌, ◌++◌, [], refl}
use Rattle.judy_region.specs.Flat.{zeros}
use Rattle.judy_region.proofs.Places.{Chunks, Grew, IsClosed, room_left, grew, left-sound, left-ok, left-whole, left-full, left-spare}
use Rattle.judy_region.specs.declared.Refusal.TheVariants.{Full, NoMemory}
use Rattle.judy_region.proofs.Region.grow.Goals as goal
use Rattle.judy_region.proofs.Region.grow.Goals.{After-grow_last}

-- the last chunk has room for a run
pub grow_last-requires-clause-room : goal.grow_last-requires-clause-room
grow_last-requires-clause-room c q last =
    let cs : Chunks = c.self.inside.chunks.items in let k = c.in-Some.field-0 in
    let same : k ≡ q = omega (arith, last, c.in-Some.ensures.last ∙ ap length c.deref.ensures.value) in
    let short : length (get_or cs q []) < 65536 = subst (λ i. length (get_or cs i []) < 65536) same
    (subst (λ v. length (get_or v k []) < 65536) c.deref.ensures.value c.in-Some.ensures.open) in
    room_left cs q c.self.invariant.0 (omega (arith, last)) [] short

done : (c : After-grow_last) → Grew c.args.self.now c.grow_last.new.chunks.items
done c =
    let cs : Chunks = c.self.inside.chunks.items in let q = c.in-Some.field-0 in
    let last : q + 1 ≡ length cs = c.in-Some.ensures.last ∙ ap length c.deref.ensures.value in
    let short : length (get_or cs q []) < 65536 = subst (λ v. length (get_or v q []) < 65536) c.deref.ensures.value c.in-Some.ensures.open in
    let r = room_left cs q c.self.invariant.0 (omega (arith, last)) [] short in
    subst (λ v. Grew c.args.self.now v) (sym (c.grow_last.ensures.grown q last))
    (grew cs c.args.self.now q [] (get_or cs q [] ++ zeros 512) c.self.invariant.0 c.self.view_is (omega (arith, last)) r refl)

pub invariant_of-self : goal.invariant_of-self
invariant_of-self c =
    let cs : Chunks = c.self.inside.chunks.items in let q = c.in-Some.field-0 in
    let last : q + 1 ≡ length cs = c.in-Some.ensures.last ∙ ap length c.deref.ensures.value in
    let k = ap length (c.grow_last.ensures.grown q last) ∙ length-set cs q (get_or cs q [] ++ zeros 512) in
    let m = c.self.invariant.1 in let t = c.grow_last.ensures.table in ((done c).after, omega (arith, k, m, t))

pub returns-in-Some-clause-ok : goal.returns-in-Some-clause-ok
returns-in-Some-clause-ok c = (done c).view

pub invariant_of-self-in-None : goal.invariant_of-self-in-None
invariant_of-self-in-None c =
    let shut : IsClosed c.self.inside.chunks.items = subst IsClosed c.deref.ensures.value c.in-None.ensures.whole in (
      left-sound c.self.inside.chunks.items c.add_chunk.new.chunks.items c.args.self.now c.self.invariant.0 c.self.view_is shut
          c.add_chunk.result c.add_chunk.ensures.ok c.add_chunk.ensures.few c.add_chunk.ensures.err,
      c.add_chunk.ensures.table,
    )

pub returns-in-None-clause-ok : goal.returns-in-None-clause-ok
returns-in-None-clause-ok c =
    let shut : IsClosed c.self.inside.chunks.items = subst IsClosed c.deref.ensures.value c.in-None.ensures.whole in
    left-ok c.self.inside.chunks.items c.add_chunk.new.chunks.items c.args.self.now c.self.invariant.0 c.self.view_is shut
    c.add_chunk.result c.add_chunk.ensures.ok c.add_chunk.ensures.few

pub returns-in-None-clause-whole : goal.returns-in-None-clause-whole
returns-in-None-clause-whole c =
    let shut : IsClosed c.self.inside.chunks.items = subst IsClosed c.deref.ensures.value c.in-None.ensures.whole in
    left-whole c.self.inside.chunks.items c.add_chunk.new.chunks.items c.args.self.now c.self.invariant.0 c.self.view_is shut c.add_chunk.result

pub returns-in-None-clause-full : goal.returns-in-None-clause-full
returns-in-None-clause-full c =
    let shut : IsClosed c.self.inside.chunks.items = subst IsClosed c.deref.ensures.value c.in-None.ensures.whole in
    left-full c.self.inside.chunks.items c.add_chunk.new.chunks.items c.args.self.now c.self.invariant.0 c.self.view_is shut
    c.add_chunk.result (λ why. why ≡ Full) c.add_chunk.ensures.full

pub returns-in-None-clause-spare : goal.returns-in-None-clause-spare
returns-in-None-clause-spare c =
    let shut : IsClosed c.self.inside.chunks.items = subst IsClosed c.deref.ensures.value c.in-None.ensures.whole in
    left-spare c.self.inside.chunks.items c.add_chunk.new.chunks.items c.args.self.now c.self.invariant.0 c.self.view_is shut
    c.add_chunk.result (λ why. why ≡ NoMemory) c.add_chunk.ensures.spare
