use Rattle.std.proofs.Common.{◌≡◌, ap, sym, ◌∙◌, arith, length, take, drop, ◌-◌, ◌+◌, ◌*◌, ℕ, List, refl}
use Rattle.std.specs.List.{refill}
use Rattle.judy_arena.specs.Blocks.{words_of}
use Rattle.judy_arena.proofs.Pools.{in-whole, lies, lent, seen-with}
use Rattle.judy_arena.proofs.pool.Pool.words_mut.Goals as goal

pub words_mut-requires : goal.words_mut-requires
words_mut-requires c = in-whole _ _ _ c.self.invariant.0 _ (ap (λ p. p.blocks) c.self.view_is) c.args.n
    c.size_of_class-size.result c.requires (c.size_of_class-size.ensures ∙ sym c.class.ensures.size
    ∙ ap (λ p. length (words_of p.blocks c.args.n)) c.self.view_is)

pub invariant_of-self-lent : goal.invariant_of-self-lent
invariant_of-self-lent c =
    λ w. (
      (lent _ _ _ c.self.invariant.0 _ (ap (λ p. p.blocks) c.self.view_is) c.args.n c.size_of_class-size.result w c.requires
          (c.size_of_class-size.ensures ∙ sym c.class.ensures.size ∙ ap (λ p. length (words_of p.blocks c.args.n))
          c.self.view_is)).after,
      c.self.invariant.1,
    )

pub returns : goal.returns
returns c =
    let ws : List ℕ = words_of c.args.self.now.blocks c.args.n in
    let k : c.size_of_class-size.result ≡ length ws = c.size_of_class-size.ensures ∙ sym c.class.ensures.size
    ∙ ap (λ p. length (words_of p.blocks c.args.n)) c.self.view_is in
    let m : c.args.n * 4 + c.size_of_class-size.result - c.args.n * 4 ≡ length ws = omega (arith, k) in (
      (
        refl,
        λ w. seen-with c.self.inside.marks.items c.self.inside.region c.self.inside.heads _ c.args.n (refill (length ws) ws w) c.args.self.now c.self.view_is
            (lent _ _ _ c.self.invariant.0 _ (ap (λ p. p.blocks) c.self.view_is) c.args.n c.size_of_class-size.result w c.requires k).blocks
            (lent _ _ _ c.self.invariant.0 _ (ap (λ p. p.blocks) c.self.view_is) c.args.n c.size_of_class-size.result w c.requires k).free,
      ),
      record {
        lends = tt;
        value = c.words_mut.ensures.value ∙ ap (λ j. take j (drop (c.args.n * 4) c.self.inside.region)) m
            ∙ lies _ _ _ c.self.invariant.0 _ (ap (λ p. p.blocks) c.self.view_is) c.args.n c.requires;
      },
    )
