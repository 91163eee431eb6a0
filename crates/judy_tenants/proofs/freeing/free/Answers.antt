use Rattle.std.proofs.Common.{◌≡◌, ◌∙◌, ℕ, List, ap, refl, subst, sym}
use Rattle.judy_model.specs.declared.commands.Kind.{Kind}
use Rattle.judy_model.specs.declared.commands.Kind.TheVariants.{One, Long, Str, Bytes}
use Rattle.judy_kinds.specs.Calls.{kind_of_call}
use Rattle.judy_kinds.specs.Kinds.{IsPlaceOf}
use Rattle.judy_arena.specs.Takes.{Takes}
use Rattle.judy_tenants.specs.Frees.{free_of}
use Rattle.judy_tenants.proofs.Frees.{Frees, takes-none}
use Rattle.judy_tenants.proofs.Marked.{freed-place}
use Rattle.judy_tenants.proofs.freeing.free.Goals as goal

-- the call that frees an array is of the array's kind
same-kind : (kind : Kind) (name : List ℕ) → kind ≡ kind_of_call (free_of kind name)
same-kind One name = refl
same-kind Long name = refl
same-kind Str name = refl
same-kind Bytes name = refl

pub answer-requires-clause-place : goal.answer-requires-clause-place
answer-requires-clause-place g c =
    subst (λ k. IsPlaceOf g.H.KeyHash.hashed k c.args.arena.now.blocks c.args.place)
    (same-kind c.args.kind c.args.name ∙ ap kind_of_call (sym c.free_of-call.ensures)) c.requires.place

pub returns-clause-array : goal.returns-clause-array
returns-clause-array g c =
    freed-place (c.kinds_are_lawful.ensures g.H.KeyHash.hashed) c.args.kind c.args.name c.free_of-call.result c.free_of-call.ensures c.args.arena.now
    c.answer.new.arena c.args.place c.in-Ok._answered.1 c.in-Ok._answered.0 c.in-Ok.ensures.array c.in-Ok.ensures.step

pub returns-clause-memory : goal.returns-clause-memory
returns-clause-memory g c =
    let f : Frees c.free_of-call.result = record { kind = c.args.kind; name = c.args.name; is = c.free_of-call.ensures } in
    subst (λ n. Takes n c.args.arena.now c.answer.new.arena) (takes-none f c.args.arena.now.blocks c.args.place.root) c.in-Ok.ensures.memory
