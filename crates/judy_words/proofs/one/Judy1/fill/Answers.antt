use Rattle.std.proofs.Common.{◌∙◌, true, false, refl, sym, ap}
use Rattle.judy_model.specs.Contents.{word_order}
use Rattle.judy_model.specs.Tenant.{fill_over}
use Rattle.judy_words.specs.OneArrays.{one_in, one_numbers}
use Rattle.judy_words.proofs.Cuts.{filled_set}
use Rattle.judy_words.proofs.one.Judy1.fill.Goals as goal

pub returns-in_default-clause-array : goal.returns-in_default-clause-array
returns-in_default-clause-array c = record {
  sound = c.requires;
  frame = (c.nothing_changes.ensures false c.args.arena.now c.args.arena.now c.args.self.now _ _ refl
      (record { sound = c.requires; content = refl; blocks = refl })).0.frame;
}

pub returns-clause-step : goal.returns-clause-step
returns-clause-step c =
    let l = one_in c.args.arena.now.blocks c.args.self.now in
    let words = (c.content_is_sound.ensures false c.args.arena.now.blocks c.args.self.now l (one_numbers c.args.arena.now.blocks c.args.self.now)
    (record { sound = c.requires; content = refl; blocks = refl })).0 in
    let after = one_in c.set.new.arena.blocks c.set.new.self in
    ap (λ o. fill_over word_order true l (λ i. i) 0 o) (sym c.first_empty.ensures.found ∙ c.in-Some.is)
    ∙ filled_set l after c.in-Some.index c.in_ok-set.field-0 words c.in_ok-set.ensures.step
