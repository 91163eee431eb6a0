use Rattle.std.proofs.Common.{arith, ap}
use Rattle.judy_model.specs.Tenant.{pieces}
use Rattle.judy_reference.proofs.GrowthLemmas.{words_pieces}
use Rattle.judy_reference.proofs.store.Store.pieces.Goals as goal

pub overflow_add-result-2 : goal.overflow_add-result-2
overflow_add-result-2 c =
    omega (
      arith,
      c.len.ensures.value,
      c.len-2.ensures.value,
      c.pieces.ensures,
      words_pieces c.self.inside.one,
      words_pieces
          c.self.inside.long,
      c.self.invariant.1,
    )

pub overflow_add-result-3 : goal.overflow_add-result-3
overflow_add-result-3 c =
    omega (
      arith,
      c.len.ensures.value,
      c.len-2.ensures.value,
      c.pieces.ensures,
      c.pieces-2.ensures,
      words_pieces
          c.self.inside.one,
      words_pieces c.self.inside.long,
      c.self.invariant.1,
    )

pub returns : goal.returns
returns c =
    omega (
      arith,
      c.len.ensures.value,
      c.len-2.ensures.value,
      c.pieces.ensures,
      c.pieces-2.ensures,
      words_pieces
          c.self.inside.one,
      words_pieces c.self.inside.long,
      ap pieces c.self.view_is,
    )
