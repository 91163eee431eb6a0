use Rattle.std.proofs.Common.{◌≢◌, ℕ, ◌+◌, ◌<◌, Option, Some, None, IfNone}
use Rattle.judy_query.specs.Parts.{head_in, own_head}
use Rattle.judy_tree.specs.Calls.{IsOutside}
use Rattle.judy_tree.proofs.lemmas.Heads.{out-view}
use Rattle.judy_query.proofs.node.byte_of.Goals as goal

pub returns-clause-none : goal.returns-clause-none
returns-clause-none c = by c.byte_of.result c.byte_of.ensures.none
  where
    by : (o : Option ℕ) → IfNone o (IsOutside c.look.result.level c.look.result.prefix c.args.key)
        → IfNone o ((x : ℕ) → x < 256 → head_in c.args.arena.now.blocks c.args.node c.args.key ≢ own_head c.args.arena.now.blocks c.args.node + x)
    by None h = out-view _ _ _ _ c.args.key c.look.ensures.level c.look.ensures.prefix h
    by (Some x) h = tt
