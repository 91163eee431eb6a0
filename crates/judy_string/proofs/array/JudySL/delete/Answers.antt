use Rattle.std.proofs.Common.{◌≡◌, false, is_some, ap, sym, ◌∙◌, subst}
use Rattle.judy_model.specs.Contents.{string_order, value_of, without_key}
use Rattle.judy_model.specs.declared.replies.Reply.TheVariants as reply
use Rattle.judy_string.specs.Changes.{RemovesString}
use Rattle.judy_string.specs.StringArrays.{string_in}
use Rattle.judy_string.specs.Suffixes.{is_suffix}
use Rattle.judy_string.proofs.MapLaws.{map-has-space}
use Rattle.judy_string.proofs.Nests.{content-sorted}
use Rattle.judy_string.proofs.Whole.{stayed, absent-stays}
use Rattle.judy_string.proofs.array.JudySL.delete.Goals as goal

pub returns-in_default-clause-array : goal.returns-in_default-clause-array
returns-in_default-clause-array c =
    let left = subst (RemovesString 126 c.args.arena.now c.remove.new.arena c.self.inside.root c.args.key.now) c.in_default.is c.remove.ensures.removal in
    stayed c.args.arena.now c.remove.new.arena c.args.self.now c.requires.array (ap (λ s. s.blocks) left.1)

pub returns-in_default-clause-content : goal.returns-in_default-clause-content
returns-in_default-clause-content c =
    let left = subst (RemovesString 126 c.args.arena.now c.remove.new.arena c.self.inside.root c.args.key.now) c.in_default.is c.remove.ensures.removal in
    let none = ap (λ w. value_of string_order (string_in c.args.arena.now.blocks w) c.args.key.now) (sym c.self.view_is) ∙ left.0 in
    ap (λ s. string_in s.blocks c.args.self.now) left.1 ∙ absent-stays (string_in c.args.arena.now.blocks c.args.self.now)
    c.args.key.now (content-sorted 126 c.args.arena.now.blocks c.args.self.now c.requires.array.node) none

pub returns-in_default-clause-step : goal.returns-in_default-clause-step
returns-in_default-clause-step c =
    let left = subst (RemovesString 126 c.args.arena.now c.remove.new.arena c.self.inside.root c.args.key.now) c.in_default.is c.remove.ensures.removal in
    let none = ap (λ w. value_of string_order (string_in c.args.arena.now.blocks w) c.args.key.now) (sym c.self.view_is) ∙ left.0 in
    ap (λ o. (
      reply.Int (is_some o),
      without_key string_order (string_in c.args.arena.now.blocks c.args.self.now)
          c.args.key.now,
    )) none ∙ ap (λ l. (reply.Int false, l)) (sym (returns-in_default-clause-content c))

pub returns-in_default-clause-space : goal.returns-in_default-clause-space
returns-in_default-clause-space c = map-has-space c.remove.new.arena c.args.self.now (returns-in_default-clause-array c).sound

pub returns-clause-space : goal.returns-clause-space
returns-clause-space c =
    let lost = subst (RemovesString 126 c.args.arena.now c.remove.new.arena c.self.inside.root c.args.key.now) c.in-Some.is c.remove.ensures.removal in
    map-has-space c.remove.new.arena c.in-Some.left
    (record {
      node = lost.changed.array;
      array = lost.kind (subst (λ w. is_suffix w ≡ false) (sym c.self.view_is)
          c.requires.array.array);
    })
