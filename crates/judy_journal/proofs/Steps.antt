-- A writer's acts, one after another.
use Rattle.std.proofs.Common.{List, [], ◌∷◌, ◌++◌, subst, refl}
use Rattle.judy_journal.specs.Acts.{DiskAct, Journal, Goes, IsWriting}

-- the acts of a writer, and then others of it
pub writing-append : (j k last : Journal) (acts more : List DiskAct) → IsWriting j acts k → IsWriting k more last → IsWriting j (acts ++ more) last
writing-append j k last [] more h w = subst (λ v. IsWriting v more last) h w
writing-append j k last (act ∷ acts) more (next, goes, rest) w = (next, goes, writing-append next k last acts more rest w)

-- one act more
pub writing-act : (j k last : Journal) (acts : List DiskAct) (act : DiskAct) → IsWriting j acts k → Goes k act last → IsWriting j (acts ++ act ∷ []) last
writing-act j k last acts act h goes = writing-append j k last acts (act ∷ []) h (last, goes, refl)
