use Rattle.std.proofs.Common.{◌%◌, ◌^◌, ◌++◌, ap, map, sym, ◌∙◌, subst, vec_capacity}
use Rattle.std.specs.FinMap.{retain_keys}
use Rattle.judy_directory.specs.declared.keyed.Keyed.{Keyed}
use Rattle.judy_directory.specs.Kinds.{is_staying}
use Rattle.judy_directory.specs.Rooms.{staying, HasListRoom}
use Rattle.judy_directory.proofs.Rooms.{footed, joined}
use Rattle.judy_directory.proofs.Leaving.{both-staying, room-staying}
use Rattle.judy_directory.specs.Lengths.{lengths}
use Rattle.judy_directory.proofs.Lengths.{bytes-listed}
use Rattle.judy_directory.proofs.names.Names.forget_gone.Goals as goal

-- there is room as before
roomy : (c : goal.After-self-1) → HasListRoom c.drop_entered.new.table.entries c.drop_gone.new.kept.items (vec_capacity c.drop_gone.new.kept)
roomy c =
    let gone = c.args.gone.now in
    let es = c.self.inside.table.entries in
    let fs = c.self.inside.kept.items in
    subst (λ l. HasListRoom l c.drop_gone.new.kept.items (vec_capacity c.drop_gone.new.kept)) (sym c.drop_entered.ensures.entries)
    (subst (λ l. HasListRoom (staying gone es) l (vec_capacity c.drop_gone.new.kept)) (sym c.drop_gone.ensures.items)
    (subst (HasListRoom (staying gone es) (staying gone fs)) (sym c.drop_gone.ensures.capacity)
    (room-staying gone es fs (vec_capacity c.self.inside.kept) c.self.invariant.0)))

pub invariant_of-self : goal.invariant_of-self
invariant_of-self c =
    let es = c.drop_entered.new.table.entries in
    let fs = c.drop_gone.new.kept.items in (
      roomy c,
      c.bytes-self-inside.ensures ∙ ap (λ l. lengths l % 2 ^ 64) (c.of.ensures ∙ ap (λ l. map (λ e. e.0) (es ++ l)) c.as_slice.ensures.value)
          ∙ bytes-listed es fs (vec_capacity c.drop_gone.new.kept) (roomy c),
      c.drop_entered.ensures.order,
    )

pub returns-clause-places : goal.returns-clause-places
returns-clause-places c =
    let gone = c.args.gone.now in
    let es = c.self.inside.table.entries in
    let fs = c.self.inside.kept.items in
    ap (λ l. joined l c.drop_gone.new.kept.items) c.drop_entered.ensures.entries
    ∙ ap (joined (staying gone es)) c.drop_gone.ensures.items
    ∙ both-staying gone es fs
    ∙ ap (λ m. retain_keys m (is_staying gone)) (ap (λ v. v.0) c.self.view_is)

-- the start of the hashes and the room are unchanged
pub returns-clause-footing : goal.returns-clause-footing
returns-clause-footing c = footed (ap (λ (k : Keyed). k.start.state) c.drop_entered.ensures.hasher) c.drop_gone.ensures.capacity ∙ ap (λ v. v.1) c.self.view_is
