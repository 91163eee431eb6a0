use Rattle.std.proofs.Common.{◌∙◌, ◌∷◌, sym, ap}
use Rattle.judy_model.specs.Contents.{next, string_order}
use Rattle.judy_model.specs.Walks.{hashed_key}
use Rattle.judy_model.specs.declared.replies.Reply.TheVariants as reply
use Rattle.judy_bytes.specs.BytesArrays.{bytes_in}
use Rattle.judy_bytes.specs.Walks.{hashed_in, shown_entry}
use Rattle.judy_bytes.proofs.Changes.{first-reference}
use Rattle.judy_bytes.proofs.WalkOrder.{walk-is}
use Rattle.judy_bytes.proofs.array.JudyHS.walk_on.Goals as goal

pub first-first-requires-clause-reference : goal.first-first-requires-clause-reference
first-first-requires-clause-reference g c = first-reference g.H.KeyHash.hashed c.args.arena.now.blocks c.args.self.now.words c.word-hash.result c.requires.array

pub returns : goal.returns
returns g c =
    let b = c.args.arena.now.blocks in
    let w = c.args.self.now.words in
    let start = c.behind-start.result in
    let items = c.behind-start.new.buffer.items in
    let word = c.word-hash.ensures ∙ g.met.H.OrderHash.ordered c.args.key.now in
    let first = c.behind-start.ensures.entry ∙ ap (λ h. next string_order (hashed_in b w) (h ∷ c.args.key.now)) word in
    ap (λ p. (reply.Entries p.0 p.1, bytes_in b w))
    (walk-is (hashed_in b w) (hashed_key c.args.key.now) c.args.most (shown_entry start items) (c.list-count.result, c.list-count.new.room.listing) first
    c.list-count.ensures)
    ∙ ap (λ t. (reply.Entries c.list-count.result t, bytes_in b w)) (sym c.text.ensures)
