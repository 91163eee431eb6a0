-- Room matters only to a call that asks for a new entry.
use Rattle.std.proofs.Common.{◌≡◌, ℕ, ◌⊎◌, inl, inr, Bool, true, false, not, Option, Some, None, is_some, ap, refl}
use Rattle.judy_model.specs.declared.calls.Given.{Given}
use Rattle.judy_model.specs.declared.replies.Reply.TheVariants.{Full}
use Rattle.judy_model.specs.Contents.{Order, Entries, value_of}
use Rattle.judy_model.specs.Tenant.Effect.{Insert, Keep, Exchange, Remove, Take, RemoveIf, Pop, Cut, Fill, Free, Ask}
use Rattle.judy_model.specs.Tenant.{Effect, Reports, insert_over, keep_over, fill_at, fill_over, lacks, effect_step, effect_asks_for_new}

-- the call asks for nothing new, or there is room
abbrev pub HasWay : Bool → Bool → Type 0
HasWay asks room = (asks ≡ false) ⊎ (room ≡ true)

-- a call that asks for no new entry is answered the same with and without room
insert_alike : {K : Type 0} (order : Order K) (room : Bool) (l : Entries K) (k : K) (given : Given) (reports : Reports) (had : Option ℕ)
    → not (is_some had) ≡ false → insert_over order room l k given reports had ≡ insert_over order true l k given reports had
insert_alike order room l k given reports (Some v) h = refl
insert_alike order room l k given reports None h = cc

keep_alike : {K : Type 0} (order : Order K) (room : Bool) (l : Entries K) (k : K) (v : ℕ) (had : Option ℕ)
    → not (is_some had) ≡ false → keep_over order room l k v had ≡ keep_over order true l k v had
keep_alike order room l k v (Some w) h = refl
keep_alike order room l k v None h = cc

fill_alike : {K : Type 0} (order : Order K) (room : Bool) (l : Entries K) (index : K → ℕ) (v : ℕ) (found : Option K)
    → lacks order l found ≡ false → fill_over order room l index v found ≡ fill_over order true l index v found
fill_alike order room l index v None h = refl
fill_alike order room l index v (Some k) h = by (value_of order l k) h
  where
    by : (had : Option ℕ) → not (is_some had) ≡ false → fill_at order room l (index k) k v had ≡ fill_at order true l (index k) k v had
    by (Some w) h = refl
    by None h = cc

effect_alike : {K : Type 0} (order : Order K) (room : Bool) (l : Entries K) (effect : Effect K) → effect_asks_for_new order l effect ≡ false
    → effect_step order room l effect ≡ effect_step order true l effect
effect_alike order room l (Insert k given reports) h = insert_alike order room l k given reports (value_of order l k) h
effect_alike order room l (Keep k v) h = keep_alike order room l k v (value_of order l k) h
effect_alike order room l (Exchange k old new) h = refl
effect_alike order room l (Remove k) h = refl
effect_alike order room l (Take k) h = refl
effect_alike order room l (RemoveIf k v) h = refl
effect_alike order room l (Pop find show lack) h = refl
effect_alike order room l (Cut find n) h = refl
effect_alike order room l (Fill x find index v) h = fill_alike order room l index v (find l) h
effect_alike order room l Free h = refl
effect_alike order room l (Ask answer) h = refl

-- a call that asks for nothing new, or has room, is answered as with room
pub effect_way : {K : Type 0} (order : Order K) (room : Bool) (l : Entries K) (effect : Effect K) → HasWay (effect_asks_for_new order l effect) room
    → effect_step order room l effect ≡ effect_step order true l effect
effect_way order room l effect (inl h) = effect_alike order room l effect h
effect_way order room l effect (inr h) = ap (λ r. effect_step order r l effect) h

-- without room, a new entry is refused and the array is unchanged
insert_full : {K : Type 0} (order : Order K) (l : Entries K) (k : K) (given : Given) (reports : Reports) (had : Option ℕ)
    → not (is_some had) ≡ true → insert_over order false l k given reports had ≡ (Full, l)
insert_full order l k given reports (Some v) h = cc
insert_full order l k given reports None h = refl

keep_full : {K : Type 0} (order : Order K) (l : Entries K) (k : K) (v : ℕ) (had : Option ℕ)
    → not (is_some had) ≡ true → keep_over order false l k v had ≡ (Full, l)
keep_full order l k v (Some w) h = cc
keep_full order l k v None h = refl

fill_full : {K : Type 0} (order : Order K) (l : Entries K) (index : K → ℕ) (v : ℕ) (found : Option K)
    → lacks order l found ≡ true → fill_over order false l index v found ≡ (Full, l)
fill_full order l index v None h = cc
fill_full order l index v (Some k) h = by (value_of order l k) h
  where
    by : (had : Option ℕ) → not (is_some had) ≡ true → fill_at order false l (index k) k v had ≡ (Full, l)
    by (Some w) h = cc
    by None h = refl

pub effect_full : {K : Type 0} (order : Order K) (l : Entries K) (effect : Effect K) → effect_asks_for_new order l effect ≡ true
    → effect_step order false l effect ≡ (Full, l)
effect_full order l (Insert k given reports) h = insert_full order l k given reports (value_of order l k) h
effect_full order l (Keep k v) h = keep_full order l k v (value_of order l k) h
effect_full order l (Exchange k old new) h = cc
effect_full order l (Remove k) h = cc
effect_full order l (Take k) h = cc
effect_full order l (RemoveIf k v) h = cc
effect_full order l (Pop find show lack) h = cc
effect_full order l (Cut find n) h = cc
effect_full order l (Fill x find index v) h = fill_full order l index v (find l) h
effect_full order l Free h = cc
effect_full order l (Ask answer) h = cc
