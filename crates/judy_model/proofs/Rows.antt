-- Worked runs of one tenant, computed from the bytes of its lines.
use Rattle.std.proofs.Common.{◌≡◌, ◌+◌, ◌++◌, replicate, ℕ, true, false, List, [], ◌∷◌, refl}
use Rattle.std.specs.Prelude.{decimal, codes, zero, suc, map, zip}
use Rattle.std.specs.Fmt.{digits}
use Rattle.hex.specs.Hex.{decode_pairs, encode_with}
use Rattle.judy_model.specs.declared.calls.Call.{Call}
use Rattle.judy_model.specs.declared.calls.Call.TheVariants.{One, Used}
use Rattle.judy_model.specs.declared.calls.OneCall.{OneCall}
use Rattle.judy_model.specs.declared.calls.OneCall.TheVariants as one
use Rattle.judy_model.specs.declared.replies.Reply.{Reply}
use Rattle.judy_model.specs.declared.replies.Reply.TheVariants as reply
use Rattle.judy_model.specs.declared.quotas.Right.TheVariants.{Change}
use Rattle.judy_model.specs.Contents.{max_word}
use Rattle.judy_model.specs.Pieces.{entries_quota}
use Rattle.judy_model.specs.Tenant.{State, no_arrays, under, replies_alone, state_alone}
use Rattle.judy_model.specs.Solo.{AreAnswered}
use Rattle.judy_model.proofs.Talks.{talk, alice, bob}

-- the first run
row_first_run : alice (codes "J1S a 5\nJ1S a 5\nJ1T a 5\nJ1U a 5\nJ1T a 5\nUSED\n")
    ≡ codes "OK\n1\n0\n1\n1\n0\nQ 0 4 0 504\n"
unfolding digits
row_first_run = refl

-- nothing is set
row_empty : alice (codes "J1C a 0 -1\nJ1FE a 0\nJLG l 0\nJ1FA a\n")
    ≡ codes "OK\nN 0\n1 0\nNULL\nN 0\n"
unfolding digits
row_empty = refl

-- both ends of the words
row_ends : alice (codes "J1S a 0\nJ1S a 18446744073709551615\nJ1N a 0\nJ1N a -1\nJ1P a 0\nJ1LE a -1\nJ1PE a 0\nJ1NE a -1\nJ1C a 0 -1\n")
    ≡ codes "OK\n1\n1\n1 18446744073709551615\n0\n0\n1 18446744073709551614\n0\n0\nN 2\n"
unfolding digits
row_ends = refl

-- at the quota
row_quota : alice (codes "J1S a 1\nJ1S a 2\nJ1S a 3\nJ1S a 4\nJ1S a 9\nJ1S a 1\nJLI l 1 7\nJ1U a 1\nJLI l 1 7\nUSED\n")
    ≡ codes "OK\n1\n1\n1\n1\nFULL\n0\nFULL\n1\nV 0\nQ 4 4 4 504\n"
unfolding digits
row_quota = refl

-- counts and ranks of 3, 5 and 9
row_ranks : alice (codes "J1S a 3\nJ1S a 5\nJ1S a 9\nJ1C a 9 3\nJ1C a 3 9\nJ1BC a 0\nJ1BC a 1\nJ1BC a 3\nJ1BC a 4\n")
    ≡ codes "OK\n1\n1\n1\nN 0\nN 3\n0\n1 3\n1 9\n0\n"
unfolding digits
row_ranks = refl

-- a present key keeps its value unless a value is given
row_values : alice (codes "JLI l 5 8\nJLI l 5\nJLI l 5 9\nJLG l 5\nJLBC l 1\nJLN l 5\nJLFE l 5\nJLD l 5\nJLD l 5\n")
    ≡ codes "OK\nV 0\nV 8\nV 8\nV 9\nV 9 5\nNULL\n1 6\n1\n0\n"
unfolding digits
row_values = refl

-- a counter begins at 0, and -1 takes one away
row_counter : alice (codes "JLA l 5 3\nJLA l 5 4\nJLG l 5\nJLA l 5 -1\nJLI l 5\nJLA l 5 0\nJLA l 6 0\nUSED\n")
    ≡ codes "OK\nV 3\nV 7\nV 7\nV 6\nV 6\nV 6\nV 0\nQ 2 4 2 504\n"
unfolding digits
row_counter = refl

-- a sum of 2^64 is 0
row_counter_wraps : alice (codes "JLI l 5 18446744073709551615\nJLA l 5 1\nJLA l 5 -1\nJLA l 5 18446744073709551615\nJLA l 6 -1\nJLA l 6 3\n")
    ≡ codes "OK\nV 0\nV 0\nV 18446744073709551615\nV 18446744073709551614\nV 18446744073709551615\nV 2\n"
unfolding digits
row_counter_wraps = refl

-- bytes are unsigned
row_unsigned_bytes : alice (codes "JSLI s x7f 1\nJSLI s x80 2\nJSLI s x7f01 3\nJSLF s x\nJSLN s x7f\nJSLL s xff\nJSLP s x7f\n")
    ≡ codes "OK\nV 0\nV 0\nV 0\nV 1 x7f\nV 3 x7f01\nV 2 x80\nNULL\n"
unfolding digits decode_pairs encode_with
row_unsigned_bytes = refl

-- a proper prefix comes first, whether of seven, eight or nine bytes
row_order_of_strings : bob
    (codes "JSLI s x 1\nJSLI s x61626364656667 2\nJSLI s x6162636465666768 3\nJSLI s x616263646566676869 4\nJSLF s x\nJSLN s x\n"
    ++ codes "JSLN s x61626364656667\nJSLN s x6162636465666768\nJSLN s x616263646566676869\nJSLD s x6162636465666768\nJSLN s x61626364656667\nJSLFA s\n")
    ≡ codes "OK\nV 0\nV 0\nV 0\nV 0\nV 1 x\nV 2 x61626364656667\nV 3 x6162636465666768\nV 4 x616263646566676869\nNULL\n1\nV 4 x616263646566676869\nN 3\n"
unfolding digits decode_pairs encode_with
row_order_of_strings = refl

-- byte keys hold any bytes, or no byte
row_byte_keys : alice (codes "JHSI h x 1\nJHSI h x00 2\nJHSG h x\nJHSG h x0000\nJHSD h x\nJHSFA h\n")
    ≡ codes "OK\nV 0\nV 0\nV 1\nNULL\n1\nN 1\n"
unfolding digits decode_pairs encode_with
row_byte_keys = refl

-- the same name in two kinds is two arrays
row_one_name : bob (codes "JLI a 1\nJLI a 2 9\nJ1C a 0 -1\nJLL a -1\nJLP a 1\nJLFA a\nJLC a 0 -1\n")
    ≡ codes "OK\nV 0\nV 0\nN 0\nV 9 2\nNULL\nN 2\nN 0\n"
unfolding digits
row_one_name = refl

-- any number of spaces, one carriage return; no other byte separates fields
row_spaces : alice (codes "  J1S   a 5 \r\nJ1T\ta 5\n")
    ≡ codes "OK\n1\nERR SYNTAX\n"
unfolding digits
row_spaces = refl

-- a second carriage return belongs to the last field
row_two_returns : alice (codes "J1S a 5\r\r\nJ1T a 5\r\n")
    ≡ codes "OK\nERR SYNTAX\n0\n"
unfolding digits
row_two_returns = refl

-- a freed array has no entries; no line is answered after QUIT
row_freed : alice (codes "J1S a 1\nJ1FA a\nQUIT\nJ1S a 2\n")
    ≡ codes "OK\n1\nN 1\nBYE\n"
unfolding digits
row_freed = refl

-- a tenant whose quota is 0
row_quota_zero : talk (entries_quota 0) (codes "AUTH alice abc\nJ1S a 1\nJ1U a 1\nJ1FE a 0\nUSED\n")
    ≡ codes "OK\nFULL\n0\n1 0\nQ 0 0 0 0\n"
unfolding digits
row_quota_zero = refl

-- a line without its line feed is not a line
row_cut : alice (codes "J1S a 1") ≡ codes "OK\n"
row_cut = refl

-- ---- the same as calls, where there are many

-- calls of the set `a`
abbrev a : OneCall → Call
a call = One (codes "a") call

-- n words from x on, each `by` above the one before
abbrev from : ℕ → ℕ → ℕ → List ℕ
from x by zero = []
from x by (suc n) = x ∷ from (x + by) by n

-- the replies to a tenant with a quota of 1,000 entries and the right to change
abbrev told : State → List Call → List Reply
told s calls = replies_alone (entries_quota 1000) s (under Change calls)

-- the tenant's arrays afterwards
abbrev left : State → List Call → State
left s calls = state_alone (entries_quota 1000) s (under Change calls)

-- an empty tenant after these indexes were set in `a`
abbrev after : List ℕ → State
after indexes = left no_arrays (map (λ i. a (one.Set i)) indexes)

-- as many indexes as a full leaf holds
row_full_leaf : told (after (from 0 1 256)) (a (one.FirstEmpty 0) ∷ a (one.Unset 128) ∷ a (one.FirstEmpty 0) ∷ a (one.Count 0 255) ∷ [])
    ≡ reply.Index 256 ∷ reply.Int true ∷ reply.Index 128 ∷ reply.Count 255 ∷ []
row_full_leaf = refl

-- indexes that share seven bytes
row_shared_bytes : told (after (from 4096 1 32)) (a (one.Test 31) ∷ a (one.First 0) ∷ a (one.Count 0 4111) ∷ a (one.Last 4095) ∷ [])
    ≡ reply.Int false ∷ reply.Index 4096 ∷ reply.Count 16 ∷ reply.Int false ∷ []
row_shared_bytes = refl

-- indexes that share all bytes but the last two
row_wide_branch : told (after (from 0 256 129)) (a (one.Count 0 max_word) ∷ a (one.ByCount 129) ∷ a (one.Prev 32768) ∷ a (one.FirstEmpty 0) ∷ [])
    ≡ reply.Count 129 ∷ reply.Index 32768 ∷ reply.Index 32512 ∷ reply.Index 1 ∷ []
row_wide_branch = refl

-- each index is removed, and counted after each removal
abbrev taken_out : List ℕ → List Call
taken_out [] = []
taken_out (i ∷ is) = a (one.Unset i) ∷ a (one.Count 0 max_word) ∷ taken_out is

abbrev counted_down : ℕ → List Reply
counted_down zero = []
counted_down (suc n) = reply.Int true ∷ reply.Count (n + 1) ∷ counted_down n

row_narrowed : told (after (from 0 256 129)) (taken_out (from 0 256 128)) ≡ counted_down 128
row_narrowed = refl

row_last_left : told (left (after (from 0 256 129)) (taken_out (from 0 256 128))) (a (one.First 0) ∷ []) ≡ reply.Index 32768 ∷ []
row_last_left = refl

-- the greatest 256 words
row_top : told (after (from 18446744073709551360 1 256))
    (a (one.Count 0 max_word) ∷ a (one.FirstEmpty 18446744073709551360) ∷ a (one.NextEmpty 18446744073709551359) ∷ a (one.LastEmpty max_word) ∷ [])
    ≡ reply.Count 256 ∷ reply.Int false ∷ reply.Int false ∷ reply.Index 18446744073709551359 ∷ []
row_top = refl

-- calls refused for memory, and one that is not refused
row_no_memory : AreAnswered (entries_quota 4) no_arrays
    (zip (under Change (a (one.Set 1) ∷ a (one.Test 1) ∷ Used ∷ a (one.Set 1) ∷ []))
    (reply.Memory ∷ reply.Int false ∷ reply.Used 0 4 0 504 ∷ reply.Int true ∷ []))
    (after (1 ∷ []))
row_no_memory = (no_arrays, ((refl, refl), refl), (no_arrays, refl, (no_arrays, refl, (after (1 ∷ []), refl, refl))))

-- many names: 1 set in each of `n0` to `n299`
abbrev sets_of_names : List Call
sets_of_names = map (λ i. One (codes "n" ++ decimal i) (one.Set 1)) (from 0 1 300)

row_many_names_set : told no_arrays sets_of_names ≡ replicate 300 (reply.Int true)
unfolding digits
row_many_names_set = refl

row_many_names : told (left no_arrays sets_of_names)
    (One (codes "n299") (one.Test 1) ∷ One (codes "n0") one.Free ∷ One (codes "n0") (one.Set 1) ∷ [])
    ≡ reply.Int true ∷ reply.Count 1 ∷ reply.Int true ∷ []
unfolding digits
row_many_names = refl

-- a neighbour one entry below its quota of 1000, which it then fills
row_full_neighbour : told (record no_arrays { one = (codes "b", map (λ i. (i, 0)) (from 1 1 999)) ∷ [] })
    (One (codes "b") (one.Set 1000) ∷ One (codes "b") (one.Set 1001) ∷ Used ∷ [])
    ≡ reply.Int true ∷ reply.Full ∷ reply.Used 1000 1000 1000 126000 ∷ []
row_full_neighbour = refl
