-- How many connections of each tenant are heard between two waits.
--     group_of who               the group of a connection on which this one speaks: its tenant
--     group_in n story           the group of connection n when the server last waited
--     was_heard n story          since then it was read, or lines of it were run
--     heard_of g story           how many connections of a group were heard since then
--     HasShares share story      at each moment they are at most a share
--     HadShare share n story     the group of connection n has had its share
use Rattle.std.specs.Prelude.{◌≡◌, ◌≢◌, ◌⊎◌, ◌==◌, ◌&&◌, ◌<◌, ◌≤◌, ◌+◌, ℕ, zero, suc, Bool, true, false, List, [], ◌++◌, Option, Some, None, if◌then◌else◌, nat_lt, slice_index_or}
use Rattle.judy_model.specs.Speakers.{Speaker}
use Rattle.judy_many.specs.Lives.{View}
use Rattle.judy_many.specs.Present.{speaker_since}
use Rattle.judy_many.specs.Stories.{Share, Story, acts_in, came_in, own, times, turns_in, turns_since, upto_wait}

-- Each tenant is a group, and so are the connections on which nobody speaks. There are at most 64 tenants: any
-- further ones would be one group.
abbrev pub group_of : Option Speaker → ℕ
group_of None = 0
group_of (Some who) = if nat_lt who.tenant 64 then who.tenant + 1 else 65

-- the group of connection n in this round: by who spoke on it when the server last waited
abbrev pub group_in : ℕ → Story → ℕ
group_in n story = group_of (speaker_since None (turns_in (own n (upto_wait story))))

-- whether a number is not 0
abbrev pub has_any : ℕ → Bool
has_any zero = false
has_any (suc n) = true

-- whether it was heard in this round: since the server last waited it was read, or lines of it were run
abbrev pub was_heard : ℕ → Story → Bool
was_heard n story = has_any (turns_since n Share.Reading 0 story + turns_since n Share.Running 0 story)

-- how many connections of a group, with numbers below this one, were heard in this round
abbrev pub heard_one : ℕ → ℕ → Story → ℕ
heard_one g n story = if was_heard n story && (group_in n story == g) then 1 else 0

abbrev pub heard_below : ℕ → ℕ → Story → ℕ
heard_below g zero story = 0
heard_below g (suc n) story = heard_below g n story + heard_one g n story

-- how many connections of a group were heard in this round
abbrev pub heard_of : ℕ → Story → ℕ
heard_of g story = heard_below g (came_in (acts_in story)) story

-- At each moment: since the server last waited, at most so many connections of each group were heard.
abbrev pub HasShares : ℕ → Story → Type 0
HasShares share story = (p q : Story) → story ≡ p ++ q → (g : ℕ) → heard_of g p ≤ share

-- the group of connection n has had its share of this round
abbrev pub HadShare : ℕ → ℕ → Story → Type 0
HadShare share n story = share ≤ heard_of (group_in n story) story

-- ---- what the loop counts

abbrev pub count_in : List ℕ → ℕ → ℕ
count_in counts g = slice_index_or counts g 0

-- one more of a group was heard
abbrev pub IsCounted : ℕ → List ℕ → List ℕ → Type 0
IsCounted g counts counts' = (count_in counts' g ≡ count_in counts g + 1) × ((h : ℕ) → h ≢ g → count_in counts' h ≡ count_in counts h)

-- the counts are those of a round so far, where they are known
abbrev pub AreCounted : Option (List ℕ) → Story → Type 0
AreCounted None story = Unit {0}
AreCounted (Some counts) story = (g : ℕ) → heard_of g story ≡ count_in counts g

-- a client is passed over: more bytes of it may wait
abbrev pub passed_over : View → View
passed_over v = record v { more = true }

-- A client is heard only where its answers are written, no line of it asked to quit, and its group has not had
-- its share; then it is counted. It is passed over only where its group has had its share.
abbrev pub MayListen : Bool → ℕ → View → View → List ℕ → List ℕ → Type 0
MayListen true share v v' counts counts' =
    (v' ≡ v) × (v.pending ≡ []) × (v.quits ≡ false) × (count_in counts (group_of v.who) < share) × IsCounted (group_of v.who) counts counts'
MayListen false share v v' counts counts' =
    (counts' ≡ counts) × (((v' ≡ v) × ((v.pending ≡ [] → ⊥) ⊎ (v.quits ≡ true))) ⊎ ((v' ≡ passed_over v) × (share ≤ count_in counts (group_of v.who))))

-- these moments have a read, or lines that were run
abbrev pub AreHeard : Story → Type 0
AreHeard more = 0 < times Share.Reading more + times Share.Running more

-- a client whose answers are written, and of which no line asked to quit, is heard
abbrev pub IsHeardIf : View → Story → Type 0
IsHeardIf v more = v.pending ≡ [] → v.quits ≡ false → AreHeard more

-- what happened to the client of a slot was counted, if it was heard
abbrev pub SlotCounts : ℕ → List ℕ → List ℕ → Option View → Story → Type 0
SlotCounts share counts counts' None more = counts' ≡ counts
SlotCounts share counts counts' (Some v) more = ((counts' ≡ counts) × (more ≡ []))
    ⊎ (AreHeard more × (count_in counts (group_of v.who) < share) × IsCounted (group_of v.who) counts counts')

-- the group of a slot's client has had its share
abbrev pub SlotPassed : ℕ → List ℕ → Option View → Type 0
SlotPassed share counts None = Unit {0}
SlotPassed share counts (Some v) = share ≤ count_in counts (group_of v.who)
