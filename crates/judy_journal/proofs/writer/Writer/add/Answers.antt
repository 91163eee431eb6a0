use Rattle.std.proofs.Common.{arith, ◌+◌, ◌++◌, ◌∷◌, [], ℕ, List, ap, ◌∙◌, length}
use Rattle.std.proofs.lemmas.List.{length-append}
use Rattle.judy_model.specs.Stream.{lines_of}
use Rattle.judy_journal.specs.Journals.{joined, record_of}
use Rattle.judy_journal.specs.Writes.{Writing}
use Rattle.judy_journal.proofs.Pushing.{Pushed, body_limit_of, pushed, room, whole}
use Rattle.judy_journal.proofs.writer.Writer.add.Goals as goal

pub put_record-requires : goal.put_record-requires
put_record-requires c =
    let fits = body_limit_of (length (joined c.args.self.now.records) + 4130) c.requires.room in
    omega (
      arith,
      fits,
      ap (λ w. length (joined w.records)) c.self.view_is,
      ap length (whole c.self.inside.body.items c.self.invariant.0),
      c.requires.short.short_name,
      c.requires.short.short_request,
    )

-- the record that was added
added : (c : goal.After-self-1) → Pushed c.self.inside.body.items (record_of c.args.tenant.now c.args.request.now) c.put_record.new.body.items
added c =
    let fits = body_limit_of (length (joined c.args.self.now.records) + 4130) c.requires.room in
    pushed c.self.inside.body.items (record_of c.args.tenant.now c.args.request.now) c.put_record.new.body.items
    c.self.invariant.0 c.self.invariant.2 c.requires.short.is c.put_record.ensures
    (omega (
      arith,
      fits,
      length-append c.args.tenant.now (32 ∷ c.args.request.now),
      ap (λ w. length (joined w.records)) c.self.view_is,
      ap length (whole c.self.inside.body.items c.self.invariant.0),
      c.requires.short.short_name,
      c.requires.short.short_request,
    ))

pub overflow_add-self : goal.overflow_add-self
overflow_add-self c = omega (arith, c.self.invariant.1, (room c.self.inside.body.items c.self.invariant.0 c.self.invariant.2).1)

pub invariant_of-self : goal.invariant_of-self
invariant_of-self c = let p = added c in (p.rest, omega (arith, p.count, c.self.invariant.1), p.commit)

pub returns : goal.returns
returns c =
    let shown : Writing = record {
      segment = c.self.inside.segment;
      sum = c.self.inside.sum;
      size = c.self.inside.size;
      synced = c.self.inside.synced;
      records = lines_of c.self.inside.body.items;
      text = c.self.inside.text.items;
    } in
    let with_records : List (List ℕ) → Writing = λ ls. record shown { records = ls } in
    let now : Writing → Writing = λ w. record w { records = w.records ++ record_of c.args.tenant.now c.args.request.now ∷ [] } in
    ap with_records (added c).lines ∙ ap now c.self.view_is
