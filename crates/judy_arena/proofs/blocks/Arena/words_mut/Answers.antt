use Rattle.std.proofs.Common.{◌≡◌, ◌<◌, arith, ap, sym, subst, ◌∙◌, length, ℕ, List, refl}
use Rattle.std.specs.List.{refill, length_refill}
use Rattle.judy_arena.specs.Blocks.{Blocks, ArenaState, words_of, put}
use Rattle.judy_arena.specs.LendingBlocks.{written_over}
use Rattle.judy_arena.proofs.SizeLaws.{same_size, sized-written, total-written}
use Rattle.judy_arena.proofs.blocks.Arena.words_mut.Goals as goal

-- the block keeps its size, whatever was left behind
long : (old w : List ℕ) → length (refill (length old) old w) ≡ length old
long old w = sym (length_refill (length old) old w refl)

abbrev state : Blocks → ℕ → ℕ → ℕ → ℕ → ℕ → ℕ → ℕ → ArenaState
state b r y g l i p h = record { blocks = b; refusals = r; ready = y; region = g; live = l; free = i; peak = p; reserved = h }

-- what callers see of it
seen : (b : Blocks) (r y g l i p h k n : ℕ) (old : ArenaState) → state b r y g l i p h ≡ old → k ≡ n → (w : List ℕ)
    → state (put b k (refill (length (words_of b k)) (words_of b k) w)) r y g l i p h ≡ record old
    { blocks = put old.blocks n (written_over (words_of old.blocks n) w) }
seen b r y g l i p h k n old e f w = ap (λ s. state (put s.blocks k (written_over (words_of s.blocks k) w)) s.refusals s.ready s.region
    s.live s.free s.peak s.reserved) e ∙ ap (λ m. record old { blocks = put old.blocks m (written_over (words_of old.blocks m) w) }) f

-- the block is live by the fields and its number
live : (b : Blocks) (old : ArenaState) (k n : ℕ) → b ≡ old.blocks → k ≡ n → 0 < length (words_of old.blocks n) → 0 < length (words_of b k)
live b old k n e f h = subst (λ l. 0 < l) (sym (same_size b old.blocks k n e f)) h

pub words_mut-requires : goal.words_mut-requires
words_mut-requires c = live c.self.inside.pool.blocks c.args.self.now c.number.result c.args.block
    (ap (λ s. s.blocks) c.self.view_is) c.number.ensures c.requires

pub invariant_of-self-lent : goal.invariant_of-self-lent
invariant_of-self-lent c = λ w. (
  sized-written c.self.inside.pool.blocks _ c.number.result _ c.self.invariant.0 refl
      (live c.self.inside.pool.blocks c.args.self.now c.number.result c.args.block (ap (λ s. s.blocks) c.self.view_is)
      c.number.ensures c.requires) (long (words_of c.self.inside.pool.blocks c.number.result) w),
  c.self.invariant.1 ∙ sym (total-written c.self.inside.pool.blocks _ c.number.result _ refl (long (words_of c.self.inside.pool.blocks c.number.result) w)),
  let t = total-written c.self.inside.pool.blocks _ c.number.result _ refl (long (words_of c.self.inside.pool.blocks c.number.result) w) in
      let i = c.self.invariant.2 in omega (arith, t, i),
  c.self.invariant.3,
)

pub returns : goal.returns
returns c = (
  (refl, λ w. seen c.self.inside.pool.blocks _ _ _ _ _ _ _ c.number.result c.args.block c.args.self.now c.self.view_is c.number.ensures w),
  record {
    lends = tt;
    value = c.words_mut.ensures.value ∙ ap (λ s. words_of s.blocks c.number.result) c.self.view_is
        ∙ ap (λ m. words_of c.args.self.now.blocks m) c.number.ensures;
  },
)
