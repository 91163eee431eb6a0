-- Laws of branches.
use Rattle.std.proofs.Common.{◌≡◌, ℕ, Bool, true, false, ◌==◌, inl, inr, ne_eqb, ◌+◌, ◌*◌, ◌<◌, ◌≤◌, length, Option, Some}
use Rattle.std.proofs.Common.{None, ap, sym, ◌∙◌, refl, subst, arith, lt-ltb, unwrap_or, []}
use Rattle.std.specs.Prelude.{IsSome, if◌then◌else◌}
use Rattle.std.proofs.lemmas.Bool.{cases_eq, cases_lt}
use Rattle.std.specs.List.{list_all}
use Rattle.std.specs.FinMap.{is_sorted}
use Rattle.judy_arena.specs.Room.{room}
use Rattle.judy_refs.specs.declared.Kind.{Kind}
use Rattle.judy_refs.specs.declared.Kind.TheVariants.{LinearLeaf, BitmapLeaf, FullLeaf, LinearBranch, BitmapBranch, FullBranch, Suffix, Bucket}
use Rattle.judy_refs.specs.References.{kind_part, kind_of_number}
use Rattle.judy_arena.proofs.lemmas.BlockLaws.{live-words}
use Rattle.judy_model.specs.Contents.{word_order}
use Rattle.judy_branch.specs.declared.shape.Shape.{Shape}
use Rattle.judy_branch.specs.declared.shape.Shape.TheVariants.{Linear, Bitmap, Full}
use Rattle.judy_branch.specs.Children.{shape_of, shape_by, count_in, level_in, prefix_in, population_in, used_words, least, most, is_child_entry}
use Rattle.judy_branch.specs.Branch.{IsBranch, IsShapedBy, children_by, branch_words, branch_view, branch_number}
use Rattle.judy_branch.specs.Laws.{BranchStays, BranchesAreSound, IsSoundBranch}
use Rattle.judy_branch.proofs.Branches.{has-shape, is-shaped, some-room, children-are, count-is, no_some}
use Rattle.judy_branch.proofs.Changes.{least-two}
use Rattle.judy_branch.proofs.Lists.{laid-count}
use Rattle.judy_branch.proofs.Rooms.{room-eight, room-most, room-twice}

pub branch-stays : BranchStays
unfolding IsBranch branch_view
branch-stays b c w e h =
    let same : branch_words c w ≡ branch_words b w = ap (λ o. unwrap_or o []) e in
    record {
      branch = subst (IsShapedBy (shape_of w)) (sym same) h;
      view = ap (λ ws. record { level = level_in ws; prefix = prefix_in ws; population = population_in ws; children = children_by (shape_of w) ws }) same;
    }

-- a kind that is not a branch's is another
past : (t : Bool) (x : Kind) (o : Option Kind) → shape_by (Some x) ≡ None → IsSome (shape_by (if t then Some x else o)) → IsSome (shape_by o)
past true x o e h = absurd (no_some (subst (λ o. IsSome o) e h))
past false x o e h = h

later : ℕ → Option Kind
later k = if k == 7 then Some Suffix else if k == 8 then Some Bucket else None

branch_kind : (k : ℕ) → IsSome (shape_by (kind_of_number k)) → (3 < k) × (k ≤ 6)
unfolding later
branch_kind k h =
    let from4 : Option Kind = if k == 4 then Some LinearBranch else if k == 5 then Some BitmapBranch else if k == 6 then Some FullBranch else later k in
    let from3 : Option Kind = if k == 3 then Some FullLeaf else from4 in
    let from2 : Option Kind = if k == 2 then Some BitmapLeaf else from3 in
    let h3 : IsSome (shape_by from4) = past (k == 3) FullLeaf from4 refl (past (k == 2) BitmapLeaf from3 refl (past (k == 1) LinearLeaf from2 refl h)) in
    elim (cases_eq k 4) [
      | inl e ↦ (omega arith, omega arith)
      | inr n4 ↦ elim (cases_eq k 5) [
        | inl e ↦ (omega arith, omega arith)
        | inr n5 ↦ elim (cases_eq k 6) [
          | inl e ↦ (omega arith, omega arith)
          | inr n6 ↦ absurd (
              let from5 : Option Kind = if k == 5 then Some BitmapBranch else if k == 6 then Some FullBranch else later k in
              let from6 : Option Kind = if k == 6 then Some FullBranch else later k in
              let h4 : IsSome (shape_by from5) = subst (λ t. IsSome (shape_by (if t then Some LinearBranch else from5))) (ne_eqb k 4 n4) h3 in
              let h5 : IsSome (shape_by from6) = subst (λ t. IsSome (shape_by (if t then Some BitmapBranch else from6))) (ne_eqb k 5 n5) h4 in
              let h6 : IsSome (shape_by (later k)) = subst (λ t. IsSome (shape_by (if t then Some FullBranch else later k))) (ne_eqb k 6 n6) h5 in
              no_some (past (k == 8) Bucket None refl (past (k == 7) Suffix (if k == 8 then Some Bucket else None) refl h6)))
        ]
      ]
    ]

branch_part : (w : ℕ) → IsSome (shape_of w) → (3 < kind_part w) × (kind_part w ≤ 6)
unfolding shape_of
branch_part w h = branch_kind (kind_part w) h

most-few : (s : Shape) → most s ≤ 256
most-few Linear = omega arith
most-few Bitmap = omega arith
most-few Full = omega arith

-- at most four words for each child
four-each : (s : Shape) (n : ℕ) → least s ≤ n → n ≤ most s → room (used_words s n) ≤ 4 * n
four-each Linear n l m = elim (cases_lt 4 n) [
  | inl lt ↦ let t = room-twice (4 + n) (omega arith) in omega arith
  | inr ge ↦ let t = room-eight (4 + n) (omega arith) in omega arith
]
four-each Bitmap n l m = let t = room-twice (7 + n) (omega arith) in omega arith
four-each Full n l m = let t = room-most 259 (omega arith) in omega arith

pub branches-are-sound : BranchesAreSound
unfolding branch_view
branches-are-sound b w h = by_shape (shape_of w) refl
  where
    by_shape : (o : Option Shape) → shape_of w ≡ o → IsSoundBranch b w
    by_shape None e = absurd (no_some (subst (λ o. IsSome o) e (has-shape b w h)))
    by_shape (Some s) e =
        let shaped = is-shaped b w h s e in
        let are = children-are b w s e in
        let n = laid-count s (branch_words b w) shaped.laid in
        let two = least-two s in
        let l = shaped.least in
        let m = shaped.laid.most in
        let few = most-few s in
        let k = ap length are in
        let room = some-room b w h in
        let part = branch_part w (has-shape b w h) in
        let each = four-each s (count_in (branch_words b w)) l m in
        let size = shaped.size in
        let count = count-is b w h in
        record {
          kind = lt-ltb 3 (kind_part w) part.0;
          known = part.1;
          live = live-words b (branch_number w) (omega arith);
          number = omega arith;
          level = shaped.level;
          prefix = shaped.prefix;
          rising = ap (is_sorted word_order) are ∙ shaped.laid.rising;
          children = ap (list_all is_child_entry) are ∙ shaped.laid.sound;
          two = omega arith;
          few = omega arith;
          some_words = omega arith;
          words = omega arith;
        }
