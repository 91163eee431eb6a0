-- The clients in their slots.
use Rattle.std.specs.Prelude.{◌≡◌, Bool, true, false, List, [], ◌∷◌, Option, Some, None}
use Rattle.judy_model.specs.Speakers.{Speaker}
use Rattle.judy_protocol.specs.Services.{HasLoggedIn}
use Rattle.judy_many.specs.Changes.{is_gone}

-- the speaker of a slot's client, if there is one, may speak
abbrev pub IsKnownSlot : {B : Type 0} → (B → Option Speaker) → (Speaker → Bool) → Option B → Type 0
IsKnownSlot speaker speakers None = Unit {0}
IsKnownSlot speaker speakers (Some b) = HasLoggedIn speakers (speaker b)

-- this holds of each slot
abbrev pub AreKnown : {B : Type 0} → (B → Option Speaker) → (Speaker → Bool) → List (Option B) → Type 0
AreKnown speaker speakers [] = Unit {0}
AreKnown speaker speakers (slot ∷ slots) = IsKnownSlot speaker speakers slot × AreKnown speaker speakers slots

-- who has logged in on a slot's client, if somebody has, goes on
abbrev pub IsAdmittedSlot : {B P : Type 0} → (B → Option P) → (P → Bool) → Option B → Type 0
IsAdmittedSlot speaker admits None = Unit {0}
IsAdmittedSlot speaker admits (Some b) = is_gone admits (speaker b) ≡ false

-- this holds of each slot
abbrev pub AreAdmitted : {B P : Type 0} → (B → Option P) → (P → Bool) → List (Option B) → Type 0
AreAdmitted speaker admits [] = Unit {0}
AreAdmitted speaker admits (slot ∷ slots) = IsAdmittedSlot speaker admits slot × AreAdmitted speaker admits slots

-- a slot has a client, on which somebody has logged in who does not go on
abbrev pub IsGoneSlot : {B P : Type 0} → (B → Option P) → (P → Bool) → Option B → Type 0
IsGoneSlot speaker admits None = ⊥
IsGoneSlot speaker admits (Some b) = is_gone admits (speaker b) ≡ true
