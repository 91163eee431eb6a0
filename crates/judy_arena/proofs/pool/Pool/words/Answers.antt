use Rattle.std.proofs.Common.{◌≡◌, ap, sym, ◌∙◌, arith, length, take, drop, ◌-◌, ◌+◌, ◌*◌, ℕ, List}
use Rattle.judy_arena.specs.Blocks.{words_of}
use Rattle.judy_arena.specs.Layout.{blocks_of}
use Rattle.judy_arena.proofs.Pools.{in-whole}
use Rattle.judy_arena.proofs.Seen.{part-seen}
use Rattle.std.proofs.lemmas.List.{take_all}
use Rattle.judy_arena.proofs.pool.Pool.words.Goals as goal

pub words-requires : goal.words-requires
words-requires c = in-whole _ _ _ c.self.invariant.0 _ (ap (λ p. p.blocks) c.self.view_is) c.args.n c.size_of_class-size.result
    c.requires (c.size_of_class-size.ensures ∙ sym c.class.ensures.size)

pub returns : goal.returns
returns c =
    let ws : List ℕ = words_of c.args.self.now.blocks c.args.n in
    let E : words_of (blocks_of c.self.inside.marks.items c.self.inside.region) c.args.n ≡ ws = ap (λ p. words_of p.blocks c.args.n) c.self.view_is in
    let k : c.size_of_class-size.result ≡ length ws = c.size_of_class-size.ensures ∙ sym c.class.ensures.size in
    let m : c.args.n * 4 + c.size_of_class-size.result - c.args.n * 4 ≡ length ws = omega (arith, k) in
    let z : c.args.n * 4 ≡ c.args.n * 4 + 0 = omega arith in
    let r = c.requires in let l = ap length E in
    c.words.ensures ∙ ap (λ j. take j (drop (c.args.n * 4) c.self.inside.region)) m ∙ ap (λ j. take (length ws) (drop j c.self.inside.region)) z
    ∙ part-seen _ _ _ c.self.invariant.0.0 c.args.n 0 (length ws) (omega (arith, r, l)) (omega (arith, l)) ∙ ap (take (length ws))
    E ∙ take_all (length ws) ws (omega arith)
