use Rattle.std.proofs.Common.{◌≡◌, ◌∙◌, false, is_some, ap, sym, subst, arith}
use Rattle.judy_string.specs.StringArrays.{has_string_key}
use Rattle.judy_string.specs.Suffixes.{is_suffix}
use Rattle.judy_string.proofs.MapLaws.{map-has-space}
use Rattle.judy_string.proofs.Whole.{stayed}
use Rattle.judy_string.proofs.Taking.{for-key}
use Rattle.judy_string.proofs.array.JudySL.insert.Goals as goal

pub returns-in_err-answer-clause-array : goal.returns-in_err-answer-clause-array
returns-in_err-answer-clause-array c = stayed c.args.arena.now c.insert.new.arena c.args.self.now c.requires.array c.in_err-answer.ensures.refused.blocks

pub returns-in_err-answer-clause-space : goal.returns-in_err-answer-clause-space
returns-in_err-answer-clause-space c = map-has-space c.insert.new.arena c.args.self.now (returns-in_err-answer-clause-array c).sound

pub returns-clause-space : goal.returns-clause-space
returns-clause-space c =
    let done = c.in_ok-answer.ensures.done in
    map-has-space c.insert.new.arena c.in_ok-answer.answer.root
    (record {
      node = done.changed.array;
      array = done.kind (subst (λ w. is_suffix w ≡ false) (sym c.self.view_is)
          c.requires.array.array);
    })

pub returns-clause-memory : goal.returns-clause-memory
returns-clause-memory c = for-key 380 380 _ _ c.args.arena.now c.insert.new.arena
    (ap is_some c.in_ok-answer.ensures.done.before ∙ ap (λ w. has_string_key c.args.arena.now w c.args.key.now) (ap (λ s. s) c.self.view_is))
    (omega arith) c.in_ok-answer.ensures.memory
