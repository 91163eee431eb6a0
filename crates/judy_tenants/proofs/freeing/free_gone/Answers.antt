use Rattle.std.proofs.Common.{◌≡◌, ◌&&◌, ℕ, List, Bool, false, not, get_or, length, nat_lt, ap, ◌∙◌}
use Rattle.judy_tenants.specs.Changes.{stays_at}
use Rattle.judy_tenants.proofs.Marked.{marked-known, stays-unmarked, freed-beside, all-gone}
use Rattle.judy_tenants.proofs.freeing.free_gone.Goals as goal

-- the mark of each place
mark-is : (g : _) (c : goal.After-as_slice g) (t : ℕ)
    → get_or c.as_slice.result.now t false ≡ (nat_lt t (length c.args.table.now) && not (stays_at c.args.table.now c.args.later.now t))
mark-is g c t = ap (λ (l : List Bool). get_or l t false) c.as_slice.ensures ∙ c.marks-marked.ensures t

pub free_all-requires-clause-known : goal.free_all-requires-clause-known
free_all-requires-clause-known g c = λ t marked.
    marked-known t (length c.args.table.now) (get_or c.as_slice.result.now t false) (stays_at c.args.table.now c.args.later.now t) (mark-is g c t) marked

-- the same once they are freed
mark-was : (g : _) (c : goal.After-free_all g) (t : ℕ)
    → get_or c.as_slice.result.now t false ≡ (nat_lt t (length c.args.table.now) && not (stays_at c.args.table.now c.args.later.now t))
mark-was g c t = ap (λ (l : List Bool). get_or l t false) c.as_slice.ensures ∙ c.marks-marked.ensures t

pub returns-clause-freed : goal.returns-clause-freed
returns-clause-freed g c =
    freed-beside (λ t stays. stays-unmarked (nat_lt t (length c.args.table.now)) (get_or c.as_slice.result.now t false)
    (stays_at c.args.table.now c.args.later.now t) (mark-was g c t) stays) c.free_all.ensures.freed

pub returns-clause-gone : goal.returns-clause-gone
returns-clause-gone g c = λ t leaves.
    all-gone c.free_all.new.stock (get_or c.as_slice.result.now t false) (stays_at c.args.table.now c.args.later.now t) t
    c.free_all.ensures.stocked (mark-was g c t) (c.free_all.ensures.gone t) leaves
