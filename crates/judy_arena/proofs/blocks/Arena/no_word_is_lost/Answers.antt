use Rattle.std.proofs.Common.{ap, arith}
use Rattle.judy_arena.specs.Blocks.{total_words}
use Rattle.judy_arena.proofs.blocks.Arena.no_word_is_lost.Goals as goal

pub returns-clause-all : goal.returns-clause-all
returns-clause-all c =
    let w = c.is_whole.ensures.all in let t = ap (λ s. total_words s.blocks) c.self.view_is in let f = ap (λ s. s.free) c.self.view_is in
    let r = ap (λ s. s.region) c.self.view_is in omega (arith, w, t, f, r)

pub returns-clause-ready : goal.returns-clause-ready
returns-clause-ready c =
    let o = c.is_whole.ensures.ready in let g = ap (λ s. s.ready) c.self.view_is in let f = ap (λ s. s.free) c.self.view_is in omega (arith, o, g, f)
