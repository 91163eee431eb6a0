-- Worked runs at the quota, with a read-only right, without memory, and with a second tenant.
use Rattle.std.proofs.Common.{◌≡◌, ◌*◌, ◌++◌, replicate, ℕ, true, false, List, [], ◌∷◌, refl, cond}
use Rattle.std.specs.Prelude.{codes, map, zip, ◌==◌}
use Rattle.std.specs.Fmt.{digits}
use Rattle.hex.specs.Hex.{decode_pairs, encode_with}
use Rattle.judy_model.specs.declared.calls.Call.{Call}
use Rattle.judy_model.specs.declared.calls.Call.TheVariants.{One, Long, Used}
use Rattle.judy_model.specs.declared.calls.OneCall.TheVariants as one
use Rattle.judy_model.specs.declared.calls.LongCall.TheVariants as long
use Rattle.judy_model.specs.declared.calls.Given.TheVariants.{Plus}
use Rattle.judy_model.specs.declared.quotas.Right.TheVariants.{Change, Look, Frozen}
use Rattle.judy_model.specs.declared.replies.Reply.{Reply}
use Rattle.judy_model.specs.declared.replies.Reply.TheVariants as reply
use Rattle.judy_model.specs.Pieces.{string_pieces, entries_quota}
use Rattle.judy_model.specs.Tenant.{Attempt, no_arrays, attempt_step, pieces, replies_alone}
use Rattle.judy_model.specs.Speakers.{Event, attempt_of}
use Rattle.judy_model.specs.Solo.{AreAnswered, MayLackMemory, attempts_of, replies_of}
use Rattle.judy_model.specs.Service.{Quotas, States, all_pieces, own}
use Rattle.judy_model.specs.Stream.{answer, events}
use Rattle.judy_model.proofs.Talks.{door, talk, alice}

-- each kind counts, and a present key of each kind is never refused
kinds_at_quota : alice
    (codes "J1S a 1\nJLI l 1 2\nJSLI s x61 3\nJHSI h x61 4\nJHSI h x62 1\nJSLI s x62 1\nJLI l 2\nJ1S a 2\nJ1S a 1\nJLI l 1 7\nJSLI s x61 7\nJHSI h x61 7\nUSED\n")
    ≡ codes "OK\n1\nV 0\nV 0\nV 0\nFULL\nFULL\nFULL\nFULL\n0\nV 2\nV 3\nV 4\nQ 4 4 4 504\n"
unfolding digits decode_pairs
kinds_at_quota = refl

-- an addition to an absent entry needs a place; one to a present entry needs none
additions_at_quota : talk (entries_quota 1)
    (codes "AUTH alice abc\nJLA l 1 5\nJLA l 2 5\nJSLA s x61 5\nJHSA h x61 5\nJLA l 1 5\nUSED\nJLD l 1\nJSLA s x61 6\nJSLA s x61 6\nJSLD s x61\nJHSA h x61 7\nJHSA h x61 7\nJLA l 1 0\nUSED\n")
    ≡ codes "OK\nV 5\nFULL\nFULL\nFULL\nV 10\nQ 1 1 1 126\n1\nV 6\nV 12\n1\nV 7\nV 14\nFULL\nQ 1 1 1 126\n"
unfolding digits decode_pairs
additions_at_quota = refl

-- a quota of 9 entries and 2 pieces
additions_at_pieces : talk (record { entries = 9; pieces = 2 })
    (codes "AUTH alice abc\nJSLA s x6161616161616161 5\nJHSA h x 1\nJLA l 1 1\nJSLA s x6161616161616161 5\nUSED\n")
    ≡ codes "OK\nV 5\nFULL\nFULL\nV 10\nQ 1 9 2 2\n"
unfolding digits decode_pairs
additions_at_pieces = refl

-- a quota of 4 entries and 3 pieces
pieces_at_quota : talk (record { entries = 4; pieces = 3 })
    (codes "AUTH alice abc\nJSLI s x6162636465666768 1\nJ1S a 1\nJ1S a 2\nJSLI s x6162636465666768 9\nUSED\nJSLD s x6162636465666768\nJSLI s x616263646566676869 5\nUSED\nJSLFA s\nUSED\n")
    ≡ codes "OK\nV 0\n1\nFULL\nV 1\nQ 2 4 3 3\n1\nV 0\nQ 2 4 3 3\nN 1\nQ 1 4 1 3\n"
unfolding digits decode_pairs
pieces_at_quota = refl

-- for each kind, a key with more pieces than are left, and one with exactly as many
pieces_of_kinds : talk (record { entries = 9; pieces = 2 })
    (codes "AUTH alice abc\nJHSI h x00000000000000000000000000000000 1\nJSLI s x61616161616161616161616161616161 1\nJHSI h x0000000000000000 1\n"
    ++ codes "J1S a 1\nJLI l 1\nJSLI s x 1\nJHSI h x 1\nJHSD h x0000000000000000\nJLI l 1\nJ1S a 1\nJ1S a 2\nUSED\n")
    ≡ codes "OK\nFULL\nFULL\nV 0\nFULL\nFULL\nFULL\nFULL\n1\nV 0\n1\nFULL\nQ 2 9 2 2\n"
unfolding digits decode_pairs
pieces_of_kinds = refl

-- a string of 0, 7, 8, 15, 16 and 1,000 bytes
pieces_of_strings : map (λ n. string_pieces (replicate n 97)) (0 ∷ 7 ∷ 8 ∷ 15 ∷ 16 ∷ 1000 ∷ []) ≡ 1 ∷ 1 ∷ 2 ∷ 2 ∷ 3 ∷ 126 ∷ []
pieces_of_strings = refl

-- an index is one piece, whatever its value
pieces_of_state : pieces (record no_arrays {
  one = (codes "a", (5, 0) ∷ []) ∷ [];
  long = (codes "l", (900, 7) ∷ (901, 8) ∷ [])
      ∷ [];
  string = (codes "s", ([], 0) ∷ (replicate 7 97, 0) ∷ (replicate 8 97, 0) ∷ []) ∷ [];
  bytes =
      (codes "h", (replicate 16 0, 0) ∷ []) ∷ [];
})
    ≡ 10
pieces_of_state = refl

-- ---- a read-only token

looking : alice
    (codes "AUTH alice hello\nJ1S a 1\nJ1T a 1\nJ1FA a\nJLI l\nAUTH alice abc\nJ1S a 1\nAUTH alice hello\nJ1T a 1\nJ1U a 1\nUSED\nAUTH alice abd\nJ1T a 1\n")
    ≡ codes "OK\nOK\nERR READONLY\n0\nERR READONLY\nERR SYNTAX\nOK\n1\nOK\n1\nERR READONLY\nQ 1 4 1 504\nERR AUTH\nERR AUTH\n"
unfolding digits
looking = refl

-- the calls of each kind that can change an array, also where they would change nothing; then those
-- that cannot
looking_changes : alice
    (codes "AUTH alice hello\nJ1S a 1\nJ1U a 1\nJ1FA a\nJLI l 1\nJLI l 1 2\nJLA l 1 2\nJLD l 1\nJLFA l\nJSLI s x61\nJSLA s x61 2\nJSLD s x61\nJSLFA s\nJHSI h x61\nJHSA h x61 2\nJHSD h x61\nJHSFA h\nUSED\n")
    ≡ codes "OK\nOK\nERR READONLY\nERR READONLY\nERR READONLY\nERR READONLY\nERR READONLY\nERR READONLY\nERR READONLY\nERR READONLY\nERR READONLY\nERR READONLY\nERR READONLY\nERR READONLY\nERR READONLY\nERR READONLY\nERR READONLY\nERR READONLY\nQ 0 4 0 504\n"
unfolding digits decode_pairs
looking_changes = refl

looking_asks : alice
    (codes "J1S a 1\nJLI l 1 2\nJSLI s x61 3\nJHSI h x61 4\nAUTH alice hello\nJ1C a 0 9\nJ1BC a 1\nJ1F a 0\nJ1FE a 0\nJLG l 1\nJLC l 0 9\nJLBC l 1\nJLN l 0\nJLPE l 1\nJSLG s x61\nJSLF s x\nJSLL s xff\nJHSG h x61\n")
    ≡ codes "OK\n1\nV 0\nV 0\nV 0\nOK\nN 1\n1 1\n1 1\n1 0\nV 2\nN 1\nV 2 1\nV 2 1\n1 0\nV 3\nV 3 x61\nV 3 x61\nV 4\n"
unfolding digits decode_pairs encode_with
looking_asks = refl

-- a present counter is not changed either
looking_adds : alice (codes "JLA l 1 5\nAUTH alice hello\nJLA l 1 1\nJLG l 1\nAUTH alice abc\nJLA l 1 1\n")
    ≡ codes "OK\nV 5\nOK\nERR READONLY\nV 5\nOK\nV 6\n"
unfolding digits
looking_adds = refl

-- the right is checked before the quota
looking_at_quota : talk (entries_quota 0) (codes "AUTH alice hello\nJ1S a 1\nAUTH alice abc\nJ1S a 1\n")
    ≡ codes "OK\nERR READONLY\nOK\nFULL\n"
looking_at_quota = refl

-- ---- the right of a frozen tenant

-- the calls of each kind that can change an array, also where they would change nothing; then those
-- that cannot
frozen_changes : alice
    (codes "AUTH alice ice\nJ1S a 1\nJ1U a 1\nJ1FA a\nJLI l 1 2\nJLA l 1 2\nJLD l 1\nJLFA l\nJSLI s x61\nJSLD s x61\nJSLFA s\nJHSI h x61\nJHSD h x61\nJHSFA h\nUSED\n")
    ≡ codes "OK\nOK\nERR FROZEN\nERR FROZEN\nERR FROZEN\nERR FROZEN\nERR FROZEN\nERR FROZEN\nERR FROZEN\nERR FROZEN\nERR FROZEN\nERR FROZEN\nERR FROZEN\nERR FROZEN\nERR FROZEN\nQ 0 4 0 504\n"
unfolding digits decode_pairs
frozen_changes = refl

frozen_asks : alice (codes "J1S a 1\nJLI l 1 2\nAUTH alice ice\nJ1C a 0 9\nJ1F a 0\nJLG l 1\nJLA l 1 1\nJLG l 1\nAUTH alice abc\nJLA l 1 1\n")
    ≡ codes "OK\n1\nV 0\nOK\nN 1\n1 1\nV 2\nERR FROZEN\nV 2\nOK\nV 3\n"
unfolding digits
frozen_asks = refl

-- the right is checked before the quota, and a read-only one is told as such
frozen_at_quota : talk (entries_quota 0) (codes "AUTH alice ice\nJ1S a 1\nAUTH alice hello\nJ1S a 1\nAUTH alice abc\nJ1S a 1\n")
    ≡ codes "OK\nERR FROZEN\nOK\nERR READONLY\nOK\nFULL\n"
frozen_at_quota = refl

-- ---- out of memory

no : false ≡ true → ⊥
no e = cc

-- the reply is not `ERR MEMORY` at the quota of entries, at that of pieces, for a present index, or
-- under a read-only right or that of a frozen tenant
no_memory_at_entries : MayLackMemory (entries_quota 0) no_arrays (record { right = Change; call = One (codes "a") (one.Set 1) }) → ⊥
no_memory_at_entries h = no h.1

no_memory_at_pieces : MayLackMemory (record { entries = 4; pieces = 0 }) no_arrays (record { right = Change; call = One (codes "a") (one.Set 1) }) → ⊥
no_memory_at_pieces h = no h.1

no_memory_when_present : MayLackMemory (entries_quota 4) (record no_arrays { one = (codes "a", (1, 0) ∷ []) ∷ [] })
    (record { right = Change; call = One (codes "a") (one.Set 1) }) → ⊥
no_memory_when_present h = no h.0

no_memory_to_look : MayLackMemory (entries_quota 4) no_arrays (record { right = Look; call = One (codes "a") (one.Set 1) }) → ⊥
no_memory_to_look h = no h.0

no_memory_when_frozen : MayLackMemory (entries_quota 4) no_arrays (record { right = Frozen; call = One (codes "a") (one.Set 1) }) → ⊥
no_memory_when_frozen h = no h.0

-- an addition to the word 1 in the JudyL `l`, with a quota of 4 entries
abbrev addition : ℕ → Attempt
addition n = record { right = Change; call = Long (codes "l") (long.Insert 1 (Plus n)) }

-- an addition that is refused adds nothing; one to a present entry is never refused
refused_additions : AreAnswered (entries_quota 4) no_arrays
    ((addition 3, reply.Memory) ∷ (addition 5, reply.Value 5) ∷ (addition 6, reply.Value 11) ∷ [])
    (record no_arrays { long = (codes "l", (1, 11) ∷ []) ∷ [] })
refused_additions = (
  no_arrays,
  ((refl, refl), refl),
  (
    record no_arrays { long = (codes "l", (1, 5) ∷ []) ∷ [] },
    refl,
    (record no_arrays { long = (codes "l", (1, 11) ∷ []) ∷ [] }, refl, refl),
  ),
)

no_memory_for_a_present_counter : MayLackMemory (entries_quota 4) (record no_arrays { long = (codes "l", (1, 5) ∷ []) ∷ [] }) (addition 1) → ⊥
no_memory_for_a_present_counter h = no h.0

-- ---- a noisy neighbour

-- alice has a quota of 2 entries, bob of 1,000
abbrev quotas : Quotas
quotas tenant = entries_quota (cond (tenant == 0) 2 1000)

-- the replies of a service of these tenants to events; each tenant has its own arrays
abbrev replies_by : States → List Event → List Reply
replies_by states [] = []
replies_by states (e ∷ es) =
    let (r, s) = attempt_step (quotas e.speaker.tenant) (states e.speaker.tenant) (attempt_of e) in
    r ∷ replies_by (λ t. cond (t == e.speaker.tenant) s (states t)) es

-- both write an array of the same name, in turn
abbrev turns : List ℕ
turns = codes
    "AUTH alice abc\nJ1S a 1\nAUTH bob hello\nJ1S a 1\nJ1S a 2\nJ1S a 3\nAUTH alice abc\nJ1S a 2\nJ1S a 3\nUSED\nAUTH bob hello\nJ1FA a\nAUTH alice hello\nJ1C a 0 -1\nJ1S a 4\nUSED\nAUTH bob hello\nUSED\n"

abbrev turn_events : List Event
turn_events = events door turns

abbrev turn_replies : List Reply
turn_replies = replies_by (λ t. no_arrays) turn_events

neighbours : answer door turns turn_replies
    ≡ codes "OK\n1\nOK\n1\n1\n1\nOK\n1\nFULL\nQ 2 2 2 252\nOK\nN 3\nOK\nN 2\nERR READONLY\nQ 2 2 2 252\nOK\nQ 0 1000 0 126000\n"
unfolding digits
neighbours = refl

-- counters of one name
abbrev counts : List ℕ
counts = codes "AUTH alice abc\nJLA n 1 1\nAUTH bob hello\nJLA n 1 5\nJLA n 1 5\nAUTH alice abc\nJLA n 1 1\nAUTH bob hello\nJLG n 1\n"

counters_apart : answer door counts (replies_by (λ t. no_arrays) (events door counts))
    ≡ codes "OK\nV 1\nOK\nV 5\nV 10\nOK\nV 2\nOK\nV 10\n"
unfolding digits
counters_apart = refl

-- each tenant's replies are those that it would get alone
abbrev told_alone : ℕ → List Reply
told_alone tenant = replies_alone (quotas tenant) no_arrays (attempts_of (own tenant (zip turn_events turn_replies)))

neighbour_alice : replies_of (own 0 (zip turn_events turn_replies)) ≡ told_alone 0
neighbour_alice = refl

neighbour_bob : replies_of (own 1 (zip turn_events turn_replies)) ≡ told_alone 1
neighbour_bob = refl

-- each tenant's calls, in order, with the right of each
abbrev event : ℕ → Call → Event
event tenant call = record { speaker = record { tenant = tenant; right = Change }; call = call }

own_calls : own 1 (zip (event 0 Used ∷ event 1 (One (codes "b") (one.Set 1)) ∷ event 0 Used ∷ event 1 Used ∷ [])
    (reply.Used 0 4 0 504 ∷ reply.Int true ∷ reply.Used 0 4 0 504 ∷ reply.Used 1 9 1 9 ∷ []))
    ≡ (record { right = Change; call = One (codes "b") (one.Set 1) }, reply.Int true) ∷ (record { right = Change; call = Used }, reply.Used 1 9 1 9) ∷ []
own_calls = refl

-- the pieces of the first three tenants
abbrev three : States
three tenant = record no_arrays { string = (codes "s", (replicate (8 * tenant) 97, 0) ∷ []) ∷ [] }

pieces_of_three : all_pieces 3 three ≡ 6
pieces_of_three = refl
