-- What stands at a place is an entry.
use Rattle.std.proofs.Common.{ℕ, zero, suc, [], ◌∷◌}
use Rattle.std.specs.Prelude.{slice_get}
use Rattle.judy_model.specs.Contents.{Entries, IsRising, word_order, nth, IsFound}
use Rattle.judy_model.proofs.lemmas.EntryLemmas.{later, tail, here}

-- what stands at a place is an entry
place-found : (l : Entries ℕ) (i : ℕ) → IsRising word_order l → IsFound l (slice_get l i)
place-found [] zero h = tt
place-found [] (suc i) h = tt
place-found (e ∷ es) zero h = here e es
place-found (e ∷ es) (suc i) h = later e es (slice_get es i) h (place-found es i (tail e es h))

-- the n-th is an entry
pub nth-found : (l : Entries ℕ) (n : ℕ) → IsRising word_order l → IsFound l (nth l n)
nth-found l zero h = tt
nth-found l (suc n) h = place-found l n h
