use Rattle.std.proofs.Common.{◌≡◌, ◌*◌, ◌<◌, ℕ, set, length, ap, sym, ◌∙◌, subst, arith}
use Rattle.judy_arena.specs.Blocks.{zeros}
use Rattle.judy_branch.specs.Children.{IsLaid, children_in}
use Rattle.judy_branch.specs.Written.{BranchBecomes}
use Rattle.judy_branch.proofs.Lists.{used-some}
use Rattle.judy_branch.proofs.Starting.{started-laid, started_children, started-built}
use Rattle.judy_branch.proofs.build.lay.Goals as goal

pub fill-requires-clause-laid : goal.fill-requires-clause-laid
fill-requires-clause-laid c =
    let n : ℕ = length c.args.words.now in
    let begun : set (set (set c.args.words.now 0 (512 * c.from.result)) 1 c.args.prefix) 2 c.args.population ≡ set
    (set (set (zeros n) 0 (512 * c.args.level)) 1 c.args.prefix) 2 c.args.population =
    ap (λ l. set (set (set l 0 (512 * c.from.result)) 1 c.args.prefix) 2 c.args.population) c.requires.zeros
    ∙ ap (λ j. set (set (set (zeros n) 0 (512 * j)) 1 c.args.prefix) 2 c.args.population) c.from.ensures in
    let some : 3 < n = let u = used-some c.args.shape (length c.args.list.now) in let r = c.requires.room in omega arith in
    subst (IsLaid c.args.shape) (sym begun) (started-laid n c.args.level c.args.prefix c.args.population some c.args.shape
    (length c.args.list.now) c.requires.room)

pub fill-requires-clause-empty : goal.fill-requires-clause-empty
fill-requires-clause-empty c =
    let n : ℕ = length c.args.words.now in
    let begun : set (set (set c.args.words.now 0 (512 * c.from.result)) 1 c.args.prefix) 2 c.args.population ≡ set
    (set (set (zeros n) 0 (512 * c.args.level)) 1 c.args.prefix) 2 c.args.population =
    ap (λ l. set (set (set l 0 (512 * c.from.result)) 1 c.args.prefix) 2 c.args.population) c.requires.zeros
    ∙ ap (λ j. set (set (set (zeros n) 0 (512 * j)) 1 c.args.prefix) 2 c.args.population) c.from.ensures in
    let some : 3 < n = let u = used-some c.args.shape (length c.args.list.now) in let r = c.requires.room in omega arith in
    ap (children_in c.args.shape) begun ∙ started_children n c.args.level c.args.prefix c.args.population some c.args.shape

pub returns : goal.returns
returns c =
    let n : ℕ = length c.args.words.now in
    let begun : set (set (set c.args.words.now 0 (512 * c.from.result)) 1 c.args.prefix) 2 c.args.population ≡ set
    (set (set (zeros n) 0 (512 * c.args.level)) 1 c.args.prefix) 2 c.args.population =
    ap (λ l. set (set (set l 0 (512 * c.from.result)) 1 c.args.prefix) 2 c.args.population) c.requires.zeros
    ∙ ap (λ j. set (set (set (zeros n) 0 (512 * j)) 1 c.args.prefix) 2 c.args.population) c.from.ensures in
    let some : 3 < n = let u = used-some c.args.shape (length c.args.list.now) in let r = c.requires.room in omega arith in
    started-built n c.args.level c.args.prefix c.args.population some c.args.shape c.fill.new.words c.args.list.now
    (subst (λ l. BranchBecomes c.args.shape l c.fill.new.words c.args.list.now) begun c.fill.ensures)
