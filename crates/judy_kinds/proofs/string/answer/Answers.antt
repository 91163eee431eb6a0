use Rattle.std.proofs.Common.{◌≡◌, ℕ, Bool, true, false, not, ap, subst, refl}
use Rattle.std.specs.Prelude.{if◌then◌else◌}
use Rattle.judy_arena.specs.Blocks.{ArenaState}
use Rattle.judy_arena.specs.Takes.{Takes}
use Rattle.judy_model.specs.Contents.{string_order, has_key}
use Rattle.judy_model.specs.Tenant.{string_step}
use Rattle.judy_string.specs.StringArrays.{string_in, string_numbers}
use Rattle.judy_arena.proofs.lemmas.FrameLaws.{frame-same}
use Rattle.judy_arena.proofs.lemmas.TakeLaws.{same-takes}
use Rattle.judy_kinds.proofs.string.answer.Goals as goal

pub returns-in_default : goal.returns-in_default
returns-in_default c = record {
  array = record {
    sound = c.requires.array;
    frame = frame-same c.args.arena.now.blocks (string_numbers c.args.arena.now.blocks c.args.place.root)
        (c.blocks_are_live.ensures c.args.arena.now.blocks c.args.place.root _ _ (record { sound = c.requires.array; content = refl; blocks = refl })).0;
  };
  counts = c.requires.counts;
  step = subst (λ w. string_step true (string_in c.args.arena.now.blocks w) c.args.call.now ≡ (c.look.result, string_in c.args.arena.now.blocks w))
      (ap (λ p. p.root) c.place.view_is) c.look.ensures;
  quiet = refl;
  memory = same-takes _ c.args.arena.now;
  asked = tt;
  refused = tt;
}

-- the blocks of a call that asks for an absent string, by whether it is there
turned : (b : Bool) (n : ℕ) (old new : ArenaState) → Takes (if b then 0 else n) old new → Takes (if not b then n else 0) old new
turned true n old new h = h
turned false n old new h = h

pub returns-in-Keep-clause-memory : goal.returns-in-Keep-clause-memory
returns-in-Keep-clause-memory c =
    rw c.in-Keep.is
    (turned (has_key string_order (string_in c.args.arena.now.blocks c.args.place.root) c.in-Keep.key) 380 c.args.arena.now c.keep.new.arena
    c.keep.ensures.memory)
