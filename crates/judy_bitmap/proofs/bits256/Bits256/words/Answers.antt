use Rattle.judy_bitmap.proofs.lemmas.MemberLaws.{members-increasing, members-bytes}
use Rattle.judy_bitmap.proofs.bits256.Bits256.words.Goals as goal

pub returns-clause-rising : goal.returns-clause-rising
returns-clause-rising c = rw (← c.self.view_is) (members-increasing c.self.inside.words)

pub returns-clause-bytes : goal.returns-clause-bytes
returns-clause-bytes c = rw (← c.self.view_is) (members-bytes c.self.inside.words)
