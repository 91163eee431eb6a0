use Rattle.std.proofs.Common.{◌∙◌, ap, take}
use Rattle.std.specs.Int.{from_be_bytes, w64}
use Rattle.judy_model.specs.Walks.{key_word}
use Rattle.judy_reference.proofs.ByteWalkLemmas.{first_eight}
use Rattle.judy_reference.proofs.store.byte_walks.word_of.Goals as goal

pub returns : goal.returns
unfolding key_word
returns c = c.from_be_bytes.ensures ∙ first_eight c.digest-digest.result ∙ ap (λ d. from_be_bytes w64 (take 8 d)) c.digest-digest.ensures
