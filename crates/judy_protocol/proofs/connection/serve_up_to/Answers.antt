use Rattle.judy_protocol.proofs.KnownBytes.{prepend-nil}
use Rattle.judy_protocol.proofs.connection.serve_up_to.Goals as goal

pub serve_after-requires-clause-prompt : goal.serve_after-requires-clause-prompt
serve_after-requires-clause-prompt g c = λ s k room few p. c.requires.prompt s k room few (rw (prepend-nil (g.R.Source.source.left c.args.source.now)) at p)

pub returns : goal.returns
returns g c = rw (prepend-nil (g.R.Source.source.left c.args.source.now)) at c.serve_after.ensures
