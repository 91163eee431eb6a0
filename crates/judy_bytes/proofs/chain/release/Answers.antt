use Rattle.std.proofs.Common.{◌<◌, length, sym, ◌∙◌, subst, arith}
use Rattle.judy_arena.specs.Blocks.{words_of}
use Rattle.judy_bytes.proofs.Below.{room-small}
use Rattle.judy_bytes.proofs.Buckets.{bucket-long, bucket-small}
use Rattle.judy_refs.specs.References.{number_of}
use Rattle.judy_arena.proofs.lemmas.RoomLaws.{room-covers}
use Rattle.judy_model.proofs.lemmas.EntryLemmas.{same_Some}
use Rattle.judy_bytes.proofs.chain.release.Goals as goal

pub release-requires : goal.release-requires
release-requires c =
    let same = same_Some (sym c.requires.named ∙ sym c.block.ensures ∙ c.in-Some.is) in
    subst (λ n. 0 < length (words_of c.args.arena.now.blocks n)) same
    (omega (arith, bucket-long room-covers c.args.arena.now.blocks (number_of c.args.bucket) c.requires.bucket))
