-- The laws of what the root of a JudySL spells.
use Rattle.std.proofs.Common.{◌≡◌, ℕ, true, length, ap, sym, ◌∙◌, refl, subst, arith}
use Rattle.judy_arena.specs.Blocks.{ArenaState}
use Rattle.judy_arena.specs.Frame.{holds}
use Rattle.std.specs.FinMap.{is_sorted}
use Rattle.std.specs.List.{list_all}
use Rattle.judy_model.specs.WellFormed.{is_string_entry}
use Rattle.judy_arena.specs.Totals.{are_distinct}
use Rattle.judy_model.specs.Contents.{string_order}
use Rattle.judy_arena.proofs.lemmas.FrameLaws.{frame-stays}
use Rattle.judy_arena.proofs.lemmas.RoomLaws.{room-tight}
use Rattle.judy_string.specs.Laws.{OthersStay, OwnBlocksTell, BlocksAreLive, ContentIsSound, OnlyNothingIsEmpty, NothingChanges, SpaceIsBounded}
use Rattle.judy_string.specs.StringArrays.{HasStringSpace}
use Rattle.judy_string.specs.Strings.{IsArray, content, nested_numbers}
use Rattle.judy_string.proofs.Counts.{strings-few}
use Rattle.judy_string.proofs.Levels.{zero-array, spells-nothing}
use Rattle.judy_string.proofs.Nests.{node-once, content-sorted}
use Rattle.judy_string.proofs.Numbers.{array-kept, all-live}
use Rattle.judy_string.proofs.Maps.{own-space, own-least}
use Rattle.judy_string.proofs.Space.{map-space}
use Rattle.judy_string.proofs.Whole.{empty-sound, empty-content, stayed}
use Rattle.judy_string.proofs.WellFormed.{content-entries}

pub own-blocks-tell : OwnBlocksTell
own-blocks-tell here there w l ns same s =
    let k = array-kept 126 here there w s.sound.node (λ q i. same q (sym (ap (holds q) s.blocks) ∙ i)) in
    record { sound = record { node = k.array; array = s.sound.array }; content = k.content ∙ s.content; blocks = k.numbers ∙ s.blocks }

pub others-stay : OthersStay
others-stay before after old new w l ns f s apart =
    let stays = λ (q : ℕ) (i : holds q ns ≡ true). frame-stays before after old new q f
    (all-live 126 before w s.sound.node q (ap (holds q) s.blocks ∙ i)) (apart q i) in
    (own-blocks-tell before after w l ns (λ q i. (stays q i).1) s, λ q i. (stays q i).0)

pub blocks-are-live : BlocksAreLive
blocks-are-live b w l ns s = (
  λ q i. all-live 126 b w s.sound.node q (ap (holds q) s.blocks ∙ i),
  subst (λ n. are_distinct n ≡ true) s.blocks (node-once 126 b w s.sound.node),
)

pub content-is-sound : ContentIsSound
content-is-sound b w l ns s =
    let few = strings-few 126 b w s.sound.node in (
      subst (λ x. is_sorted string_order x ≡ true) s.content (content-sorted 126 b w s.sound.node),
      omega (arith, few, ap length s.content),
      subst (λ x. list_all is_string_entry x ≡ true) s.content
          (content-entries b w s.sound.node),
    )

pub only-nothing-is-empty : OnlyNothingIsEmpty
only-nothing-is-empty b = (
  record { sound = empty-sound b; content = empty-content b; blocks = (zero-array 125 b).2 },
  λ w ns s. spells-nothing 126 b w s.sound.node s.content,
)

pub nothing-changes : NothingChanges
nothing-changes old new w e h = (stayed old new w h e, ap (λ b. content b w) e)

pub space-is-bounded : SpaceIsBounded
space-is-bounded = map-space own-space own-least (λ len h. let e = room-tight.small len h in omega (arith, e)) room-tight.twice

-- so every sound map has few words
pub map-has-space : (a : ArenaState) (w : ℕ) → IsArray a.blocks w → HasStringSpace a w
map-has-space a w h =
    let k = space-is-bounded a.blocks w (content a.blocks w) (nested_numbers a.blocks w) (record { sound = h; content = refl; blocks = refl }) in
    record { most = k.0; least = k.1 }
