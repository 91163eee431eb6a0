use Rattle.std.proofs.Common.{◌≡◌, ◌++◌, ◌∙◌, ap, sym, subst, length, List, [], ℕ, arith, append-nil}
use Rattle.judy_model.specs.Reading.{request_of}
use Rattle.judy_model.specs.Grammar.{fields_of}
use Rattle.judy_protocol.specs.Plain.{short_line, spaced_more}
use Rattle.judy_protocol.specs.Talks.{HasNoLf}
use Rattle.judy_protocol.proofs.lemmas.ShortLines.{first-length, part-length, short-length, short-plain, short-request}
use Rattle.judy_protocol.proofs.squeezing.squeeze.Goals as goal

pub put-requires : goal.put-requires
put-requires c =
    let first = first-length c.args.line.now c.in-Some.field.now (fields_of c.in-Some.rest.now) c.in-Some.ensures in
    let none = ap length c.clear.ensures in
    let fits = c.requires.fits in
    omega (arith, first, none, fits)

pub put_next-requires : goal.put_next-requires
put_next-requires c =
    let part = part-length c.args.line.now c.loop-field.room.items c.in-Some-next_field.field.now (fields_of c.in-Some-next_field.after.now)
    (ap (λ fs. c.loop-field.room.items ++ spaced_more fs) (sym c.in-Some-next_field.ensures) ∙ c.loop-field.invariant) in
    let fits = c.requires.fits in
    omega (arith, part, fits)

-- all fields are taken
made : (items rest line : List ℕ) → fields_of rest ≡ [] → items ++ spaced_more (fields_of rest) ≡ short_line line → items ≡ short_line line
made items rest line none is = sym (append-nil items) ∙ ap (λ fs. items ++ spaced_more fs) (sym none) ∙ is

pub returns-clause-same : goal.returns-clause-same
returns-clause-same c =
    ap request_of (made c.loop-field.room.items c.loop-field.rest.now c.args.line.now c.in_default-next_field.ensures c.loop-field.invariant)
    ∙ short-request c.args.line.now

pub returns-clause-fits : goal.returns-clause-fits
returns-clause-fits c =
    let e = ap length (made c.loop-field.room.items c.loop-field.rest.now c.args.line.now c.in_default-next_field.ensures c.loop-field.invariant) in
    let short = short-length c.args.line.now in
    omega (arith, e, short)

pub returns-clause-plain : goal.returns-clause-plain
returns-clause-plain c = λ h.
    subst HasNoLf (sym (made c.loop-field.room.items c.loop-field.rest.now c.args.line.now c.in_default-next_field.ensures c.loop-field.invariant))
    (short-plain c.args.line.now h)
