use Rattle.std.proofs.Common.{◌≡◌, map, ◌-◌, drop}
use Rattle.std.specs.Prelude.{IfSome}
use Rattle.judy_model.specs.Contents.{next, string_order}
use Rattle.judy_model.specs.Walks.{key_words, listed, listed_from, walk_from}
use Rattle.judy_bytes.specs.BytesArrays.{first_at}
use Rattle.judy_bytes.specs.Walks.{hashed_in, shown_entry}
use Rattle.judy_bytes.proofs.array.JudyHS.list.Given as goal

-- what is in the list and what is still to come are what the whole walk lists
abbrev pub invariant-loop-count : goal.invariant-loop-count
invariant-loop-count g l = record {
  same : listed_from l.count l.room.listing (map (λ e. key_words (drop 1 e.0, e.1)) (walk_from
      (λ e. next string_order (hashed_in l.arena.blocks l.self.words) e.0) (l.most - l.count) (shown_entry l.found l.room.key.items)))
      ≡ listed (map (λ e. key_words (drop 1 e.0, e.1)) (walk_from
      (λ e. next string_order (hashed_in l.arena.blocks l.self.words) e.0) l.fn.most (shown_entry l.fn.start l.fn.room.key.items)));
  first : IfSome l.found (λ s. s.first ≡ first_at l.arena.blocks l.self.words s.hash);
}
