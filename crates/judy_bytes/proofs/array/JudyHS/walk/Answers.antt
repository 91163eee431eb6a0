use Rattle.std.proofs.Common.{◌∙◌, ◌∷◌, [], sym, ap, unwrap_or}
use Rattle.std.specs.Prelude.{option_map}
use Rattle.judy_model.specs.declared.replies.Reply.TheVariants as reply
use Rattle.judy_bytes.specs.BytesArrays.{bytes_in}
use Rattle.judy_bytes.specs.Walks.{hashed_in, shown_entry}
use Rattle.judy_bytes.proofs.WalkOrder.{next-of-all, shown-is, walk-is}
use Rattle.judy_bytes.proofs.array.JudyHS.walk.Goals as goal

pub returns : goal.returns
returns g c =
    let b = c.args.arena.now.blocks in
    let w = c.args.self.now.words in
    let start = c.at_next_word-start.result in
    let items = c.at_next_word-start.new.buffer.items in
    let first = sym (shown-is start items) ∙ next-of-all g.H.KeyHash.hashed g.met.H.OrderHash.ordered c.args.arena.now.blocks c.args.self.now.words c.requires
    (option_map (λ s. s.value) start) (unwrap_or (option_map (λ s. s.hash) start) 0 ∷ items) c.at_next_word-start.ensures.least in
    ap (λ p. (reply.Entries p.0 p.1, bytes_in b w))
    (walk-is (hashed_in b w) [] c.args.most (shown_entry start items) (c.list-count.result, c.list-count.new.room.listing) first c.list-count.ensures)
    ∙ ap (λ t. (reply.Entries c.list-count.result t, bytes_in b w)) (sym c.text.ensures)
