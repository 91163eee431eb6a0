use Rattle.std.proofs.Common.{◌≡◌, map, ◌-◌}
use Rattle.std.specs.Prelude.{IfSome, option_map}
use Rattle.judy_model.specs.Contents.{string_order}
use Rattle.judy_model.specs.Walks.{found_by, key_words, listed, listed_from, walk_from}
use Rattle.judy_string.specs.StringArrays.{IsKeyString, string_in}
use Rattle.judy_string.proofs.array.JudySL.list.Given as goal

-- what is in the list and what is still to come are what the whole walk lists
abbrev pub invariant-loop-count : goal.invariant-loop-count
invariant-loop-count l = record {
  same : listed_from l.count l.room.listing (map key_words (walk_from (λ e. found_by string_order (string_in l.arena.blocks l.self) l.search e.0)
      (l.most - l.count) (option_map (λ v. (l.room.key.items, v)) l.value)))
      ≡ listed (map key_words (walk_from (λ e. found_by string_order (string_in l.arena.blocks l.self) l.search e.0)
      l.fn.most (option_map (λ v. (l.fn.room.key.items, v)) l.fn.start)));
  key : IfSome l.value (λ v. IsKeyString l.room.key.items);
}
