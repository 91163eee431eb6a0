-- Worked runs of one tenant: each command of each kind, at a point where it differs from every
-- other command; lines with too many or too few fields.
use Rattle.std.proofs.Common.{◌≡◌, ◌++◌, replicate, ℕ, zero, suc, true, false, List, [], ◌∷◌, refl, None}
use Rattle.std.specs.Prelude.{codes, map, is_some}
use Rattle.std.specs.Fmt.{digits}
use Rattle.hex.specs.Hex.{decode_pairs, encode_with}
use Rattle.judy_model.specs.Grammar.{is_name, number_of_field}
use Rattle.judy_model.specs.Reading.{request_of}
use Rattle.sha2.specs.Sha256.{compress, digest_bytes, first_words, hash_after, rounds, schedule, sha256}
use Rattle.judy_model.specs.Walks.{key_word, listed}
use Rattle.judy_model.proofs.Talks.{alice, bob}

-- every search of a set of 3, 5 and 9, at an index that is there and at one that is not
set_searches : bob
    (codes "J1S a 3\nJ1S a 5\nJ1S a 9\nJ1F a 5\nJ1N a 5\nJ1L a 5\nJ1P a 5\nJ1FE a 5\nJ1NE a 5\nJ1LE a 5\nJ1PE a 5\nJ1F a 4\nJ1N a 4\nJ1L a 4\nJ1P a 4\nJ1FE a 4\nJ1NE a 4\nJ1LE a 4\nJ1PE a 4\n")
    ≡ codes "OK\n1\n1\n1\n1 5\n1 9\n1 5\n1 3\n1 6\n1 6\n1 4\n1 4\n1 5\n1 5\n1 3\n1 3\n1 4\n1 6\n1 4\n1 2\n"
unfolding digits
set_searches = refl

-- counts of parts, and what is there or not
set_counts : bob
    (codes "J1S a 3\nJ1S a 5\nJ1C a 4 5\nJ1C a 3 4\nJ1C a 3 5\nJ1C a 6 9\nJ1T a 5\nJ1T a 5\nJ1T a 4\nJ1U a 4\nJ1U a 5\nJ1T a 5\nJ1BC a 1\nJ1BC a 2\nJ1FA a\n")
    ≡ codes "OK\n1\n1\nN 1\nN 1\nN 2\nN 0\n1\n1\n0\n0\n1\n0\n1 3\n0\nN 1\n"
unfolding digits
set_counts = refl

-- of a JudyL
map_searches : bob
    (codes "JLI l 3 7\nJLI l 5 8\nJLI l 9 6\nJLF l 5\nJLN l 5\nJLL l 5\nJLP l 5\nJLFE l 5\nJLNE l 5\nJLLE l 5\nJLPE l 5\nJLF l 4\nJLN l 4\nJLL l 4\nJLP l 4\nJLFE l 4\nJLNE l 4\nJLLE l 4\nJLPE l 4\n")
    ≡ codes "OK\nV 0\nV 0\nV 0\nV 8 5\nV 6 9\nV 8 5\nV 7 3\n1 6\n1 6\n1 4\n1 4\nV 8 5\nV 8 5\nV 7 3\nV 7 3\n1 4\n1 6\n1 4\n1 2\n"
unfolding digits
map_searches = refl

map_counts : bob
    (codes "JLI l 3 7\nJLI l 5 8\nJLC l 4 5\nJLC l 3 5\nJLC l 5 3\nJLBC l 2\nJLBC l 0\nJLBC l 3\nJLG l 3\nJLG l 3\nJLG l 4\nJLD l 4\nJLD l 3\nJLG l 3\nJLFA l\n")
    ≡ codes "OK\nV 0\nV 0\nN 1\nN 2\nN 0\nV 8 5\nNULL\nNULL\nV 7\nV 7\nNULL\n0\n1\nNULL\nN 1\n"
unfolding digits
map_counts = refl

-- of a JudySL of `a`, `c` and `e`
string_searches : bob
    (codes "JSLI s x61 7\nJSLI s x63 8\nJSLI s x65 9\nJSLF s x63\nJSLN s x63\nJSLL s x63\nJSLP s x63\nJSLF s x62\nJSLN s x62\nJSLL s x62\nJSLP s x62\nJSLG s x61\nJSLG s x61\nJSLG s x62\nJSLD s x62\nJSLD s x61\nJSLG s x61\nJSLFA s\n")
    ≡ codes "OK\nV 0\nV 0\nV 0\nV 8 x63\nV 9 x65\nV 8 x63\nV 7 x61\nV 8 x63\nV 8 x63\nV 7 x61\nV 7 x61\nV 7\nV 7\nNULL\n0\n1\nNULL\nN 2\n"
unfolding digits decode_pairs encode_with
string_searches = refl

-- of a JudyHS
bytes_calls : bob
    (codes "JHSI h x61 7\nJHSI h x62\nJHSG h x61\nJHSG h x61\nJHSI h x61\nJHSI h x61 5\nJHSG h x61\nJHSD h x63\nJHSD h x61\nJHSG h x61\nJHSFA h\n")
    ≡ codes "OK\nV 0\nV 0\nV 7\nV 7\nV 7\nV 7\nV 5\n0\n1\nNULL\nN 1\n"
unfolding digits decode_pairs
bytes_calls = refl

-- walks over a JudyHS go by the hashes of its keys: `b`, `e`, `a`, and the empty key; a walk has a number
bytes_walks : bob
    (codes "JHSF h 5\nJHSI h x61 7\nJHSI h x62 8\nJHSI h x 9\nJHSI h x65\nJHSF h 5\nJHSF h 2\nJHSN h x62 5\nJHSN h x65 1\nJHSN h x63 1\nJHSN h x 5\nJHSF h\nJHSF h 0\nJHSF h 65536\nJHSF h x61 1\nJHSF h 1 2\nJHSN h x61\nJHSN h 5\nJHSN h x61 0\n")
    ≡ codes "OK\nE 0\nV 0\nV 0\nV 0\nV 0\nE 4 8 x62 0 x65 7 x61 9 x\nE 2 8 x62 0 x65\nE 3 0 x65 7 x61 9 x\nE 1 7 x61\nE 1 8 x62\nE 0\nERR SYNTAX\nERR SYNTAX\nERR SYNTAX\nERR SYNTAX\nERR SYNTAX\nERR SYNTAX\nERR SYNTAX\nERR SYNTAX\n"
unfolding digits decode_pairs encode_with key_word sha256 hash_after compress rounds schedule first_words digest_bytes
bytes_walks = refl

-- additions of each kind
additions : bob
    (codes "JLA l 5 3\nJLA l 5 4\nJLA l 6 9\nJLG l 5\nJSLA s x61 3\nJSLA s x61 4\nJSLA s x62 9\nJSLG s x61\nJHSA h x61 3\nJHSA h x61 4\nJHSA h x62 9\nJHSG h x61\nJHSG h x63\n")
    ≡ codes "OK\nV 3\nV 7\nV 9\nV 7\nV 3\nV 7\nV 9\nV 7\nV 3\nV 7\nV 9\nV 7\nNULL\n"
unfolding digits decode_pairs
additions = refl

-- one name in four kinds is four arrays
one_name : alice (codes "J1S a 1\nJLI a 1 2\nJSLI a x61 3\nJHSI a x61 4\nJSLG a x61\nJHSG a x61\nJSLFA a\nJHSG a x61\nJ1T a 1\nJLG a 1\nUSED\n")
    ≡ codes "OK\n1\nV 0\nV 0\nV 0\nV 3\nV 4\nN 1\nV 4\n1\nV 2\nQ 3 4 3 504\n"
unfolding digits decode_pairs
one_name = refl

-- ---- a call that decides by the value that is there

-- an absent index is inserted, and a present one keeps its value
kept : alice (codes "JLK l 1 5\nJLK l 1 6\nJLG l 1\nJSLK s x61 5\nJSLK s x61 6\nJSLG s x61\nJHSK h x 5\nJHSK h x 6\nJHSG h x\nUSED\n")
    ≡ codes "OK\nNULL\nV 5\nV 5\nNULL\nV 5\nV 5\nNULL\nV 5\nV 5\nQ 3 4 3 504\n"
unfolding digits decode_pairs
kept = refl

-- a value is exchanged if it is the one that is given
exchanged : alice (codes "JLX l 1 0 5\nUSED\nJLI l 1 5\nJLX l 1 4 6\nJLG l 1\nJLX l 1 5 6\nJLG l 1\nJSLI s x61 5\nJSLX s x61 4 6\nJSLX s x61 5 6\nJSLG s x61\nJHSX h x 5 6\nJHSI h x 5\nJHSX h x 5 -1\nJHSG h x\n")
    ≡ codes "OK\nNULL\nQ 0 4 0 504\nV 0\nV 5\nV 5\nV 5\nV 6\nV 0\nV 5\nV 5\nV 6\nNULL\nV 0\nV 5\nV 18446744073709551615\n"
unfolding digits decode_pairs
exchanged = refl

-- an entry is removed if it has the value that is given
removed_if : alice (codes "JLD l 1 0\nJLI l 1 5\nJLD l 1 4\nJLG l 1\nJLD l 1 5\nJLG l 1\nJSLI s x61 5\nJSLD s x61 4\nJSLD s x61 5\nJHSI h x 5\nJHSD h x 4\nJHSD h x 5\nUSED\n")
    ≡ codes "OK\n0\nV 0\n0\nV 5\n1\nNULL\nV 0\n0\n1\nV 0\n0\n1\nQ 0 4 0 504\n"
unfolding digits decode_pairs
removed_if = refl

-- an entry that is taken is shown and removed
taken : alice (codes "JLT l 1\nJLI l 1 5\nJLT l 1\nJLT l 1\nJSLI s x61 5\nJSLT s x61\nJSLT s x61\nJHSI h x 5\nJHST h x\nJHST h x\nUSED\n")
    ≡ codes "OK\nNULL\nV 0\nV 5\nNULL\nV 0\nV 5\nNULL\nV 0\nV 5\nNULL\nQ 0 4 0 504\n"
unfolding digits decode_pairs
taken = refl

-- the first entry of a range is removed and shown
popped : alice (codes "J1UF a 0 9\nJ1S a 3\nJ1S a 5\nJ1UF a 4 9\nJ1UF a 0 2\nJ1UF a 3 3\nJLDF l 0 9\nJLI l 5 8\nJLDF l 6 9\nJLDF l 6 5\nJLDF l 0 5\nJSLI s x61 7\nJSLI s x63 8\nJSLDF s x62\nJSLDF s x\nJSLDF s x\nUSED\n")
    ≡ codes "OK\n0\n1\n1\n1 5\n0\n1 3\nNULL\nV 0\nNULL\nNULL\nV 8 5\nV 0\nV 0\nV 8 x63\nV 7 x61\nNULL\nQ 0 4 0 504\n"
unfolding digits decode_pairs encode_with
popped = refl

-- the least absent word is inserted and shown, if there is room and there is one
filled : alice (codes "J1SE a 3\nJ1SE a 3\nJ1SE a 5\nJLIE l 7 9\nJLG l 7\nJLIE l 7 9\nJ1SE a -1\nUSED\n")
    ≡ codes "OK\n1 3\n1 4\n1 5\n1 7\nV 9\nFULL\nFULL\nQ 4 4 4 504\n"
unfolding digits
filled = refl

filled_up : alice (codes "J1SE a -1\nJ1SE a -1\nJLIE l -1 5\nJLIE l -1 6\nUSED\n")
    ≡ codes "OK\n1 18446744073709551615\n0\n1 18446744073709551615\n0\nQ 2 4 2 504\n"
unfolding digits
filled_up = refl

-- the entries of a range are removed, the least first, at most so many
ranges_cut : alice (codes "J1S a 3\nJ1S a 5\nJ1S a 9\nJ1UR a 4 9 1\nJ1F a 0 9\nJ1UR a 0 9 9\nJ1UR a 0 9 9\nJ1UR a 0 9 0\nJ1UR a 0 9 65536\nJLI l 3 1\nJLI l 5 2\nJLDR l 4 3 9\nJLDR l 4 -1 65535\nJLF l 0 9\nUSED\n")
    ≡ codes "OK\n1\n1\n1\nN 1\nE 2 3 9\nN 2\nN 0\nERR SYNTAX\nERR SYNTAX\nV 0\nV 0\nN 0\nN 1\nE 1 1 3\nQ 1 4 1 504\n"
unfolding digits
ranges_cut = refl

-- two names of a kind are two arrays
two_names : bob (codes "J1S a 1\nJ1S b 2\nJ1FA a\nJ1T b 2\nJSLI s x61 1\nJSLI t x61 2\nJSLD s x61\nJSLG t x61\n")
    ≡ codes "OK\n1\n1\nN 1\n1\nV 0\nV 0\n1\nV 2\n"
unfolding digits decode_pairs
two_names = refl

-- walks: over a set and its absent words, in each direction, up to their number of entries
set_walks : bob
    (codes "J1S a 3\nJ1S a 5\nJ1S a 9\nJ1F a 3 2\nJ1N a 3 2\nJ1L a 9 2\nJ1P a 9 2\nJ1F a 4 9\nJ1F a 10 9\nJ1FE a 3 2\nJ1NE a 4 2\nJ1LE a 5 2\nJ1PE a 4 3\nJ1F a 3 0\nJ1F a 3 65536\nJ1F a 3 65535\n")
    ≡ codes "OK\n1\n1\n1\nE 2 3 5\nE 2 5 9\nE 2 9 5\nE 2 5 3\nE 2 5 9\nE 0\nE 2 4 6\nE 2 6 7\nE 2 4 2\nE 3 2 1 0\nERR SYNTAX\nERR SYNTAX\nE 3 3 5 9\n"
unfolding digits
set_walks = refl

-- over a JudyL
map_walks : bob
    (codes "JLI l 3 7\nJLI l 5 8\nJLI l 9 6\nJLF l 3 2\nJLN l 3 9\nJLL l 8 5\nJLP l 9 1\nJLFE l 5 2\nJLNE l 9 1\nJLLE l 5 1\nJLPE l 0 1\nJLF l 3 0\n")
    ≡ codes "OK\nV 0\nV 0\nV 0\nE 2 7 3 8 5\nE 2 8 5 6 9\nE 2 8 5 7 3\nE 1 8 5\nE 2 6 7\nE 1 10\nE 1 4\nE 0\nERR SYNTAX\n"
unfolding digits
map_walks = refl

-- over a JudySL
string_walks : bob
    (codes "JSLI s x61 7\nJSLI s x63 8\nJSLI s x65 9\nJSLF s x 2\nJSLN s x61 9\nJSLL s x64 9\nJSLP s x65 1\nJSLN s x65 1\nJSLF s x61 0\n")
    ≡ codes "OK\nV 0\nV 0\nV 0\nE 2 7 x61 8 x63\nE 2 8 x63 9 x65\nE 2 8 x63 7 x61\nE 1 8 x63\nE 0\nERR SYNTAX\n"
unfolding digits decode_pairs encode_with
string_walks = refl

-- a text that no longer fits is not added, nor is one behind it
fitting : listed (replicate 2000 32 ∷ replicate 2088 32 ∷ replicate 1 32 ∷ []) ≡ (2, replicate 4088 32)
fitting = refl

cut_off : (listed (replicate 2000 32 ∷ replicate 2089 32 ∷ replicate 1 32 ∷ [])).0 ≡ 1
cut_off = refl

-- ---- fields

-- this many lines that are not requests
abbrev many : ℕ → List ℕ
many zero = []
many (suc n) = codes "ERR SYNTAX\n" ++ many n

-- one too many for each command
fields_more : alice
    (codes "J1S a 1 2\nJ1U a 1 2\nJ1T a 1 2\nJ1C a 1 2 3\nJ1BC a 1 2\nJ1F a 1 2 3\nJ1NE a 1 2 3\nJ1FA a 1\nJLI l 1 2 3\nJLA l 1 2 3\nJLK l 1 2 3\nJLX l 1 2 3 4\nJLD l 1 2 3\nJLT l 1 2\nJLG l 1 2\nJLC l 1 2 3\nJLBC l 1 2\nJLP l 1 2 3\nJLLE l 1 2 3\nJLFA l 1\nJ1SE a 1 2\nJ1UF a 1 2 3\nJ1UR a 1 2 3 4\nJLIE l 1 2 3\nJLDF l 1 2 3\nJLDR l 1 2 3 4\n")
    ≡ codes "OK\n" ++ many 26
fields_more = refl

fields_more_keys : alice
    (codes "JSLI s x61 1 2\nJSLA s x61 1 2\nJSLK s x61 1 2\nJSLX s x61 1 2 3\nJSLD s x61 1 2\nJSLT s x61 1\nJSLDF s x61 1\nJSLG s x61 1\nJSLF s x61 1 2\nJSLP s x61 1 2\nJSLFA s x61\nJHSI h x 1 2\nJHSA h x 1 2\nJHSK h x 1 2\nJHSX h x 1 2 3\nJHSD h x 1 2\nJHST h x 1\nJHSG h x 1\nJHSFA h x\nUSED a\nQUIT now\nAUTH alice abc d\n")
    ≡ codes "OK\n" ++ many 22
unfolding decode_pairs
fields_more_keys = refl

-- one too few
fields_fewer : alice
    (codes "J1S a\nJ1U a\nJ1T a\nJ1C a 1\nJ1BC a\nJ1F a\nJ1NE a\nJ1FA\nJLI l\nJLA l 1\nJLK l 1\nJLX l 1 2\nJLD l\nJLT l\nJLG l\nJLC l 1\nJLBC l\nJLP l\nJLLE l\nJLFA\nJSLI s\nJSLA s x61\nJSLK s x61\nJSLX s x61 1\nJSLD s\nJSLT s\nJSLG s\nJSLN s\nJSLFA\nJHSI h\nJHSA h x61\nJHSK h x61\nJHSX h x61 1\nJHSD h\nJHST h\nJHSG h\nJHSFA\nAUTH alice\nJ1SE a\nJ1UF a 1\nJ1UR a 1 2\nJLIE l 1\nJLDF l 1\nJLDR l 1 2\nJSLDF s\n")
    ≡ codes "OK\n" ++ many 45
unfolding decode_pairs
fields_fewer = refl

-- and a command of another kind
other_kinds : alice (codes "J1I a 1\nJ1A a 1 1\nJ1D a 1\nJ1G a 1\nJ1K a 1 1\nJ1X a 1 1 1\nJ1TA a 1\nJLS a 1\nJLU a 1\nJSLC s x 1\nJSLBC s x\nJSLFE s x\nJHSF s x\nJHSN s x\nJH1S a 1\nJ1IE a 1 2\nJSLIE s x 1\nJSLDR s x x 1\nJHSDF h x\n")
    ≡ codes "OK\n" ++ many 19
unfolding decode_pairs
other_kinds = refl

-- bytes other than letters and digits
names : map is_name (codes "@" ∷ codes "[" ∷ codes "`" ∷ codes "{" ∷ codes "/" ∷ codes ":" ∷ codes "," ∷ codes "^" ∷ []) ≡ replicate 8 false
names = refl

-- a string of 1,000 bytes is a key; one of 1,001 bytes is not
long_string : is_some (request_of (codes "JSLG s x" ++ replicate 2000 49)) ≡ true
unfolding decode_pairs
long_string = refl

too_long_string : is_some (request_of (codes "JSLG s x" ++ replicate 2002 49)) ≡ false
unfolding decode_pairs
too_long_string = refl

-- no other notation of a number
numbers : map number_of_field (codes "1/" ∷ codes "1:" ∷ codes "1a" ∷ codes "0x1" ∷ codes "-0" ∷ codes "-01" ∷ codes "--1" ∷ codes "-2"
    ∷ codes "-" ∷ codes "1.0" ∷ []) ≡ replicate 10 None
numbers = refl
