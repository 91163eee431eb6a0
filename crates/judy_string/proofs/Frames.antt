-- Frames that meet, and what was taken and given back.
use Rattle.std.proofs.Common.{◌≡◌, ℕ, true, false, cond, List, [], None, ap, sym, ◌∙◌, refl}
use Rattle.judy_arena.specs.Blocks.{Blocks, block}
use Rattle.judy_arena.specs.Frame.{holds, Frame}
use Rattle.judy_arena.proofs.lemmas.BlockLaws.{same_blocks}

-- a change that begins with what another left
pub frames-meet : (a b c : Blocks) (o n m : List ℕ) → Frame a b o n → Frame b c n m → Frame a c o m
frames-meet a b c o n m f g = record {
  outside = λ q h. g.outside q h ∙ elim (holds q n) as (λ t. holds q n ≡ t → cond t None (block b q) ≡ cond (holds q o) None (block a q)) [
    | true ↦ λ e. elim (holds q o) as (λ t. holds q o ≡ t → None ≡ cond t None (block a q)) [
      | true ↦ λ i. refl
      | false ↦ λ i. sym (f.fresh q e i)
    ] refl
    | false ↦ λ e. f.outside q e
  ] refl;
  inside = g.inside;
  fresh = λ q h i. elim (holds q n) as (λ t. holds q n ≡ t → block a q ≡ None) [
    | true ↦ λ e. f.fresh q e i
    | false ↦ λ e. sym (f.outside q e ∙ ap (λ t. cond t None (block a q)) i) ∙ g.fresh q h e
  ] refl;
}

-- what was taken is given back
pub undone : (a b c : Blocks) (n : List ℕ) → Frame a b [] n → Frame b c n [] → c ≡ a
undone a b c n f g = same_blocks c a (λ q. let e = (frames-meet a b c [] n [] f g).outside q refl in e)
