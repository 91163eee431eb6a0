-- What calls take, in a row.
use Rattle.std.proofs.Common.{◌≡◌, ◌⊎◌, inl, inr, ℕ, ◌+◌, ◌*◌, ◌≤◌, arith, refl, ◌∙◌}
use Rattle.judy_arena.specs.Blocks.{ArenaState}
use Rattle.judy_arena.specs.Takes.{Takes, TakesNothing, TakesAddUp}

-- while nothing was refused, or every run has a live block
abbrev pub Tight : ℕ → ℕ → ℕ → ℕ → Type 0
Tight refusals1 region1 refusals2 peak2 = (refusals2 ≡ refusals1) ⊎ (region1 ≤ 128 * peak2)

-- two calls in a row; what the machine gave and the peak only rise
tight-two : (r1 g1 r2 p2 g2 r3 p3 : ℕ) → g1 ≤ g2 → p2 ≤ p3 → Tight r1 g1 r2 p2 → Tight r2 g2 r3 p3 → Tight r1 g1 r3 p3
tight-two r1 g1 r2 p2 g2 r3 p3 k l (inr s) t = inr (omega (arith, s, l))
tight-two r1 g1 r2 p2 g2 r3 p3 k l (inl s) (inl t) = inl (t ∙ s)
tight-two r1 g1 r2 p2 g2 r3 p3 k l (inl s) (inr t) = inr (omega (arith, t, k))

-- a call that asks for nothing, as one that takes at most n blocks
pub rests-takes : (n : ℕ) (a b : ArenaState) → TakesNothing a b → Takes n a b
rests-takes n a b r = let p = r.peak in let w = r.words in let g = r.region in record {
  words = omega (arith, w);
  peak = omega (arith, p);
  rises = omega (arith, p);
  region = omega (arith, g);
  kept = omega (arith, g);
  reserved = r.reserved;
  refused = inl r.refusals;
}

pub same-rests : (a : ArenaState) → TakesNothing a a
same-rests a = record {
  refusals = refl;
  region = refl;
  peak = refl;
  reserved = refl;
  words = omega arith;
}

-- the arena as it was
pub same-takes : (n : ℕ) (a : ArenaState) → Takes n a a
same-takes n a = rests-takes n a a (same-rests a)

pub takes-more : (n m : ℕ) (a b : ArenaState) → n ≤ m → Takes n a b → Takes m a b
takes-more n m a b le t = let p = t.peak in let w = t.words in let g = t.region in record {
  words = omega (arith, w, le);
  peak = omega (arith, p, le);
  rises = t.rises;
  region = omega (arith, g, le);
  kept = t.kept;
  reserved = t.reserved;
  refused = t.refused;
}

pub takes-two : (n m : ℕ) (a b c : ArenaState) → Takes n a b → Takes m b c → Takes (n + m) a c
takes-two n m a b c s t =
    let p = s.peak in let w = s.words in let g = s.region in let k = s.kept in let i = s.rises in
    let q = t.peak in let v = t.words in let h = t.region in let l = t.kept in let j = t.rises in record {
      words = omega (arith, w, v);
      peak = omega (arith, p, w, q, v);
      rises = omega (arith, i, j);
      region = omega (arith, g, h);
      kept = omega (arith, k, l);
      reserved = t.reserved ∙ s.reserved;
      refused = tight-two a.refusals a.region b.refusals b.peak b.region c.refusals c.peak k j s.refused t.refused;
    }

pub rests-two : (a b c : ArenaState) → TakesNothing a b → TakesNothing b c → TakesNothing a c
rests-two a b c s t = let w = s.words in let v = t.words in record {
  refusals = t.refusals ∙ s.refusals;
  region = t.region ∙ s.region;
  peak = t.peak ∙ s.peak;
  reserved = t.reserved ∙ s.reserved;
  words = omega (arith, w, v);
}

-- a call that takes n blocks, and one that asks for nothing
pub takes-rests : (n : ℕ) (a b c : ArenaState) → Takes n a b → TakesNothing b c → Takes n a c
takes-rests n a b c s t =
    let p = s.peak in let w = s.words in let g = s.region in let k = s.kept in let i = s.rises in
    let r = rests-takes 0 b c t in let q = t.peak in let v = t.words in let h = t.region in record {
      words = omega (arith, w, v);
      peak = omega (arith, p, q);
      rises = omega (arith, i, q);
      region = omega (arith, g, h);
      kept = omega (arith, k, h);
      reserved = t.reserved ∙ s.reserved;
      refused = tight-two a.refusals a.region b.refusals b.peak b.region c.refusals c.peak k r.rises s.refused r.refused;
    }

-- a call that asks for nothing, and one that takes n blocks
pub rests-first : (n : ℕ) (a b c : ArenaState) → TakesNothing a b → Takes n b c → Takes n a c
rests-first n a b c t s =
    let p = s.peak in let w = s.words in let g = s.region in let k = s.kept in let i = s.rises in
    let r = rests-takes 0 a b t in let q = t.peak in let v = t.words in let h = t.region in record {
      words = omega (arith, w, v);
      peak = omega (arith, p, q, v);
      rises = omega (arith, i, q);
      region = omega (arith, g, h);
      kept = omega (arith, k, h);
      reserved = s.reserved ∙ t.reserved;
      refused = tight-two a.refusals a.region b.refusals b.peak b.region c.refusals c.peak r.kept i r.refused s.refused;
    }

-- two calls that take at most m blocks together
pub takes-both : (n k m : ℕ) (a b c : ArenaState) → n + k ≤ m → Takes n a b → Takes k b c → Takes m a c
takes-both n k m a b c le s t = takes-more (n + k) m a c le (takes-two n k a b c s t)

pub takes-still : (a b : ArenaState) → Takes 0 a b → b.region ≡ a.region
takes-still a b t = let g = t.region in let k = t.kept in omega (arith, g, k)

pub takes-add-up : TakesAddUp
takes-add-up = record {
  none = λ a b r. rests-takes 0 a b r;
  more = takes-more;
  two = takes-two;
  rests = rests-two;
  still = takes-still;
}
