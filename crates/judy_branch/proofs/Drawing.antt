-- What calls that put children ask of the arena.
use Rattle.std.proofs.Common.{◌≡◌, ℕ, ◌+◌, ◌<◌, ◌≤◌, List, length, Some, sym, subst, arith}
use Rattle.judy_arena.specs.Blocks.{Blocks, words_of}
use Rattle.judy_refs.specs.References.{number_of}
use Rattle.judy_arena.specs.Room.{room}
use Rattle.judy_arena.proofs.lemmas.RoomLaws.{room-least}
use Rattle.judy_branch.specs.declared.shape.Shape.{Shape}
use Rattle.judy_branch.specs.declared.shape.Shape.TheVariants.{Linear, Bitmap, Full}
use Rattle.judy_branch.specs.Children.{shape_of, count_in, least, most, used_words, HasChildRoom, IsShaped}
use Rattle.judy_branch.specs.Branch.{branch_words}
use Rattle.judy_branch.specs.Draws.{HasRoom, HasRoomBy}

-- a branch of at most 127 children has a block below 512 words
small-room : (s : Shape) (n : ℕ) → least s ≤ n → n ≤ most s → n ≤ 127 → room (used_words s n) ≤ 256
small-room Linear n some most few = room-least.least (4 + n) 6 (omega (arith, few)) (omega arith)
small-room Bitmap n some most few = room-least.least (7 + n) 6 (omega (arith, few)) (omega arith)
small-room Full n some most few = absurd (omega (arith, some, few))

pub small-block : (s : Shape) (ws : List ℕ) → IsShaped s ws → count_in ws ≤ 127 → length ws < 512
small-block s ws shaped few =
    let r = small-room s (count_in ws) shaped.least shaped.laid.most few in let z = shaped.size in omega (arith, r, z)

-- room for one more child, by the shape
module _ (b : Blocks) (w n : ℕ) (s : Shape) (e : shape_of w ≡ Some s) (own : n ≡ number_of w) where
  pub room-here : HasChildRoom s (words_of b n) → HasRoom b w
  unfolding HasRoom
  room-here h = subst (λ o. HasRoomBy o (branch_words b w)) (sym e) (subst (λ k. HasChildRoom s (words_of b k)) own h)

  pub no-room : (ws : List ℕ) → ws ≡ words_of b n → (HasChildRoom s ws → ⊥) → HasRoom b w → ⊥
  unfolding HasRoom
  no-room ws is none room =
      none (subst (HasChildRoom s) (sym is) (subst (λ k. HasChildRoom s (words_of b k)) (sym own) (subst (λ o. HasRoomBy o (branch_words b w)) e room)))
