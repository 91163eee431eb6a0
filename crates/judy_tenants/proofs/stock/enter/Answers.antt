use Rattle.std.proofs.Common.{inl, IsTrue, ap, ◌∙◌, refl, subst}
use Rattle.judy_directory.specs.Places.{Stand, with_place}
use Rattle.judy_kinds.specs.Calls.{asks_at, blocks_of_call}
use Rattle.judy_tenants.proofs.StateLaws.{put_back}
use Rattle.judy_arena.specs.Takes.{Takes}
use Rattle.judy_arena.proofs.lemmas.TakeLaws.{same-takes}
use Rattle.judy_tenants.proofs.stock.enter.Goals as goal

pub returns-in-Err-clause-refused : goal.returns-in-Err-clause-refused
returns-in-Err-clause-refused g c =
    let d = c.args.stock.now.directory.0 in
    let k = c.args.spot.now in
    record {
      blocks = c.in-Err.ensures.refused.blocks;
      places = c.put-in-Err.ensures.places ∙ c.in-Ok.ensures.same c.in-Ok.before ∙ ap (with_place d k) c.in-Ok.ensures.found
          ∙ put_back d k (c.requires.held.filled k);
      footing = c.put-in-Err.ensures.footing ∙ c.place.ensures.footing;
      granted = refl;
      accounts = refl;
      asked = subst (λ (p : Stand). IsTrue (asks_at c.args.stock.now.arena.blocks p.root c.args.call.now)) c.in-Ok.ensures.found c.in-Err.ensures.asked;
      cause = inl (record { refusals = c.in-Err.ensures.refused.refusals; unplaced = refl });
    }

-- without a place for the name the arena is not asked
pub returns-in_default-clause-memory : goal.returns-in_default-clause-memory
returns-in_default-clause-memory g c = same-takes _ c.args.stock.now.arena

pub returns-in-Err-clause-memory : goal.returns-in-Err-clause-memory
returns-in-Err-clause-memory g c =
    subst (λ (p : Stand). Takes (blocks_of_call c.args.stock.now.arena.blocks p.root c.args.call.now) c.args.stock.now.arena c.answer.new.arena)
    c.in-Ok.ensures.found c.in-Err.ensures.memory
