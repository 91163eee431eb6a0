use Rattle.std.proofs.Common.{◌*◌, ◌+◌, ◌-◌, drop, ◌∙◌, arith}
use Rattle.judy_packing.proofs.lemmas.Packs.{pack-long}
use Rattle.judy_packing.proofs.word_at.Goals as goal

pub returns : goal.returns
returns c = c.pack-2.ensures ∙ pack-long ((8 * c.args.i + 8) - 8 * c.args.i) 8 (drop (8 * c.args.i) c.args.bytes.now) (omega arith)
