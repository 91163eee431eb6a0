use Rattle.std.proofs.Common.{◌≤◌, cond, drop, length, Some, ap, ◌∙◌, subst, arith}
use Rattle.std.specs.Prelude.{slice_index}
use Rattle.std.proofs.lemmas.List.{get_or-drop}
use Rattle.judy_leaf.specs.Bytes.{bitmap_size}
use Rattle.judy_leaf.specs.Linear.{leaf_count}
use Rattle.judy_leaf.proofs.Gathered.{bits-value}
use Rattle.judy_leaf.proofs.bitmap.Bits.value_at.Goals as goal

pub bounds-self-rank : goal.bounds-self-rank
bounds-self-rank c =
    let room = subst (λ t. bitmap_size t (leaf_count c.args.self.words.now) ≤ length c.args.self.words.now) c.if-self.true c.args.self.sound.room in
    omega (arith, room, c.requires)

pub returns-then-self : goal.returns-then-self
returns-then-self c =
    bits-value c.args.self.values c.args.self.words.now c.args.rank c.args.self.sound c.requires
    ∙ ap (λ t. Some (cond t (slice_index (drop 6 c.args.self.words.now) c.args.rank) 0)) c.if-self.true
    ∙ ap Some (get_or-drop 6 c.args.self.words.now c.args.rank 0)

pub returns-else-self : goal.returns-else-self
returns-else-self c =
    bits-value c.args.self.values c.args.self.words.now c.args.rank c.args.self.sound c.requires
    ∙ ap (λ t. Some (cond t (slice_index (drop 6 c.args.self.words.now) c.args.rank) 0)) c.if-self.false
