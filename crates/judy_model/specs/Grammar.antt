-- The request that a line spells. The line is given without its line feed, and without one carriage
-- return before that.
use Rattle.std.specs.Prelude.{◌≡◌, ℕ, ◌<◌, ◌*◌, Bool, true, false, not, ◌&&◌, ◌||◌, List, [], ◌∷◌, ◌++◌, length, IsTrue, Option, Some, None, Ok, Err, Result, option_map, option_and_then, nat_le, nat_lt, ◌==◌, if◌then◌else◌, filter, codes}
use Rattle.std.specs.List.{list_all, slice_split}
use Rattle.std.specs.Str.Parse.{digits_value}
use Rattle.std.specs.Ordering.{eq_by_cmp}
use Rattle.std.specs.FinMap.{find}
use Rattle.hex.specs.Hex.{decode_of}
use Rattle.hex.specs.declared.error.FromHexError.{FromHexError}
use Rattle.judy_model.specs.ArrayLists.{kind_named}
use Rattle.judy_model.specs.declared.calls.ArraysFrom.{ArraysFrom}
use Rattle.judy_model.specs.declared.calls.ArraysFrom.TheVariants as from
use Rattle.judy_model.specs.declared.calls.Call.{Call}
use Rattle.judy_model.specs.declared.calls.Call.TheVariants.{One, Long, Str, Bytes, Intersect, Names, Used}
use Rattle.judy_model.specs.declared.calls.OneCall.{OneCall}
use Rattle.judy_model.specs.declared.calls.LongCall.{LongCall}
use Rattle.judy_model.specs.declared.calls.StrCall.{StrCall}
use Rattle.judy_model.specs.declared.calls.StrCall.TheVariants as str
use Rattle.judy_model.specs.declared.calls.BytesCall.{BytesCall}
use Rattle.judy_model.specs.declared.calls.BytesCall.TheVariants as bytes
use Rattle.judy_model.specs.declared.commands.Kind.{Kind}
use Rattle.judy_model.specs.declared.commands.Kind.TheVariants as kind
use Rattle.judy_model.specs.declared.commands.Numbers.{Numbers}
use Rattle.judy_model.specs.declared.commands.Numbers.TheVariants as numbers
use Rattle.judy_model.specs.declared.commands.Operation.{Operation}
use Rattle.judy_model.specs.declared.commands.Operation.TheVariants as operations
use Rattle.judy_model.specs.declared.names.TheConstants.{NAME_LIMIT, TOKEN_LIMIT, KEY_LIMIT}
use Rattle.judy_model.specs.declared.requests.Line.{Line}
use Rattle.judy_model.specs.declared.requests.Line.TheVariants as request
use Rattle.judy_model.specs.Commands.{commands, operation_number, entries_of, one_with, long_with, string_with, bytes_with, first_keys, free_with}
use Rattle.judy_model.specs.Contents.{max_word, string_order}

-- ---- fields

-- the byte that separates fields
abbrev pub is_space : ℕ → Bool
is_space b = b == 32

-- only spaces, or nothing
abbrev pub AreSpaces : List ℕ → Type 0
AreSpaces bytes = IsTrue (list_all is_space bytes)

-- one or more bytes, none of them a space
abbrev pub IsField : List ℕ → Type 0
IsField bytes = (0 < length bytes) × IsTrue (list_all (λ b. not (is_space b)) bytes)

-- what follows a field: nothing, or text that begins with a space
abbrev pub EndsField : List ℕ → Type 0
EndsField [] = Unit {0}
EndsField (b ∷ bytes) = IsTrue (is_space b)

-- the fields of a line, in order: its longest runs of bytes that are not spaces
abbrev pub HasFields : List ℕ → List (List ℕ) → Type 0
HasFields line [] = AreSpaces line
HasFields line (field ∷ fields) = (spaces rest : List ℕ) × (line ≡ spaces ++ (field ++ rest))
    × AreSpaces spaces × IsField field × EndsField rest × HasFields rest fields

-- whether there is a byte at all
abbrev pub is_filled : List ℕ → Bool
is_filled [] = false
is_filled (b ∷ bytes) = true

-- the same, computed: the parts between spaces that are not empty
abbrev pub fields_of : List ℕ → List (List ℕ)
fields_of line = filter is_filled (slice_split is_space line)

-- ---- the value of one field

-- a decimal digit
abbrev pub is_digit : ℕ → Bool
is_digit b = nat_le 48 b && nat_le b 57

-- letters, digits, `_`, `-` and `.`
abbrev pub is_name_byte : ℕ → Bool
is_name_byte b = is_digit b || (nat_le 65 b && nat_le b 90) || (nat_le 97 b && nat_le b 122) || b == 95 || b == 45 || b == 46

-- a name of a tenant or of an array: 1 to 32 of these
abbrev pub is_name : List ℕ → Bool
is_name bytes = nat_le 1 (length bytes) && nat_le (length bytes) NAME_LIMIT && list_all is_name_byte bytes

-- a token: 1 to 128 bytes, each from 33 to 126
abbrev pub is_token : List ℕ → Bool
is_token bytes = nat_le 1 (length bytes) && nat_le (length bytes) TOKEN_LIMIT && list_all (λ b. nat_le 33 b && nat_le b 126) bytes

-- whether the numbers can be bytes
abbrev pub are_bytes : List ℕ → Bool
are_bytes bytes = list_all (λ b. nat_lt b 256) bytes

-- an index of a JudySL: at most 1,000 bytes, none of them 0
abbrev pub is_string : List ℕ → Bool
is_string bytes = nat_le (length bytes) KEY_LIMIT && list_all (λ b. nat_lt 0 b) bytes

-- an index of a JudyHS: at most 1,000 bytes
abbrev pub is_byte_key : List ℕ → Bool
is_byte_key bytes = nat_le (length bytes) KEY_LIMIT

-- a word: 1 to 20 digits (leading zeros are allowed), or `-1` for the greatest word
abbrev pub number_of_field : List ℕ → Option ℕ
number_of_field field =
    if eq_by_cmp string_order field (codes "-1") then Some max_word
    else if nat_le 1 (length field) && nat_le (length field) 20 && list_all is_digit field && nat_le (digits_value 10 field) max_word
    then Some (digits_value 10 field)
    else None

-- the value of a result that is Ok
abbrev pub ok_value : {A : Type 0} → Result A FromHexError → Option A
ok_value (Ok v) = Some v
ok_value (Err e) = None

-- a key: an `x` and its bytes as pairs of hexadecimal digits, at most 2,000 digits
abbrev pub key_of : List ℕ → Option (List ℕ)
key_of [] = None
key_of (letter ∷ digits) = if letter == 120 && nat_le (length digits) (2 * KEY_LIMIT) then ok_value (decode_of digits) else None

-- a key of a JudySL
abbrev pub string_of : List ℕ → Option (List ℕ)
string_of field = option_and_then (λ key. if is_string key then Some key else None) (key_of field)

-- the numbers that fields spell: at most three fields, each of them a number
abbrev pub numbers_of_fields : List (List ℕ) → Option Numbers
numbers_of_fields [] = Some numbers.Nothing
numbers_of_fields (f ∷ []) = option_map (λ i. numbers.One i) (number_of_field f)
numbers_of_fields (f ∷ g ∷ []) = option_and_then (λ i. option_map (λ j. numbers.Two i j) (number_of_field g)) (number_of_field f)
numbers_of_fields (f ∷ g ∷ h ∷ []) =
    option_and_then (λ i. option_and_then (λ j. option_map (λ k. numbers.Three i j k) (number_of_field h)) (number_of_field g)) (number_of_field f)
numbers_of_fields (f ∷ g ∷ h ∷ e ∷ more) = None

-- ---- the commands

-- what a table of commands has for a command
abbrev pub at_command : {A : Type 0} → List ℕ → List (List ℕ × A) → Option A
at_command command table = find string_order command table

-- the call of a set that an operation makes with the fields after the name
abbrev pub one_call : Operation → List (List ℕ) → Option OneCall
one_call operation more = option_and_then (λ numbers. one_with operation numbers) (numbers_of_fields more)

-- whether an operation names another set
abbrev pub names_another : Operation → Bool
names_another operation = operation_number operation == operation_number operations.Intersect

-- the intersection of two sets, with its numbers: where it begins, and how many indexes it asks for
abbrev pub intersection_with : List ℕ → List ℕ → Numbers → Option Call
intersection_with name other (numbers.Two i n) = option_map (λ most. Intersect name other i most) (entries_of n)
intersection_with name other _ = None

-- the intersection that a name and the fields after it make: the name of the other set comes before the numbers
abbrev pub intersection_call : List ℕ → List (List ℕ) → Option Call
intersection_call name [] = None
intersection_call name (other ∷ more) =
    if is_name other then option_and_then (λ numbers. intersection_with name other numbers) (numbers_of_fields more) else None

-- that of a JudyL
abbrev pub long_call : Operation → List (List ℕ) → Option LongCall
long_call operation more = option_and_then (λ numbers. long_with operation numbers) (numbers_of_fields more)

-- that of a JudySL; its key comes before the numbers
abbrev pub string_call : Operation → List (List ℕ) → Option StrCall
string_call operation [] = free_with operation str.Free
string_call operation (key ∷ more) =
    option_and_then (λ k. option_and_then (λ numbers. string_with operation k numbers) (numbers_of_fields more)) (string_of key)

-- that of a JudyHS; its key comes before the numbers
abbrev pub bytes_call : Operation → List (List ℕ) → Option BytesCall
bytes_call operation [] = free_with operation bytes.Free
bytes_call operation (key ∷ more) =
    option_and_then (λ k. option_and_then (λ numbers. bytes_with operation k numbers) (numbers_of_fields more)) (key_of key)

-- whether an operation on a JudyHS begins a walk; it takes no key
abbrev pub begins_walk : Operation → Bool
begins_walk operation = operation_number operation == operation_number operations.First

-- the call that begins a walk over a JudyHS, with its number
abbrev pub first_keys_call : List (List ℕ) → Option BytesCall
first_keys_call more = option_and_then (λ numbers. first_keys numbers) (numbers_of_fields more)

-- the call of an array of this kind and name
abbrev pub call_by : Kind → Operation → List ℕ → List (List ℕ) → Option Call
call_by kind.One operation name more =
    if names_another operation then intersection_call name more else option_map (λ call. One name call) (one_call operation more)
call_by kind.Long operation name more = option_map (λ call. Long name call) (long_call operation more)
call_by kind.Str operation name more = option_map (λ call. Str name call) (string_call operation more)
call_by kind.Bytes operation name more =
    option_map (λ call. Bytes name call) (if begins_walk operation then first_keys_call more else bytes_call operation more)

-- the call that a word of the table makes with a name and the fields after it
abbrev pub call_of : List ℕ → List ℕ → List (List ℕ) → Option Call
call_of word name more = option_and_then (λ c. call_by c.kind c.operation name more) (at_command word commands)

-- ---- lists of arrays

-- the list that begins there, with the field of its number
abbrev pub names_with : ArraysFrom → List ℕ → Option Call
names_with from field = option_map (λ n. Names from n) (option_and_then (λ n. entries_of n) (number_of_field field))

-- the list that begins behind the array of a kind and name
abbrev pub names_behind : Kind → List ℕ → List ℕ → Option Call
names_behind kind name field = if is_name name then names_with (from.Behind kind name) field else None

-- the list that a field and the fields after it make: its number, or a kind, a name and its number
abbrev pub names_call : List ℕ → List (List ℕ) → Option Call
names_call field [] = names_with from.First field
names_call field (name ∷ []) = None
names_call field (name ∷ number ∷ []) = option_and_then (λ kind. names_behind kind name number) (kind_named field)
names_call field (name ∷ number ∷ e ∷ more) = None

-- ---- lines

-- the fields are a word of the table, the name of the array, and the arguments of the call
abbrev pub SpellCall : List (List ℕ) → Call → Type 0
SpellCall fields call = (word name : List ℕ) × (more : List (List ℕ))
    × (fields ≡ word ∷ name ∷ more) × IsTrue (is_name name) × (call_of word name more ≡ Some call)

-- the fields spell the request
abbrev pub Spell : List (List ℕ) → Line → Type 0
Spell fields (request.Auth name token) = (fields ≡ codes "AUTH" ∷ name ∷ token ∷ []) × IsTrue (is_name name) × IsTrue (is_token token)
Spell fields request.Quit = fields ≡ codes "QUIT" ∷ []
Spell fields request.Ping = fields ≡ codes "PING" ∷ []
Spell fields request.Hello = fields ≡ codes "HELLO" ∷ []
Spell fields (request.Call Used) = fields ≡ codes "USED" ∷ []
Spell fields (request.Call (Names from n)) = (field : List ℕ) × (more : List (List ℕ))
    × (fields ≡ codes "NAMES" ∷ field ∷ more) × IsTrue (is_name field) × (names_call field more ≡ Some (Names from n))
Spell fields (request.Call (Intersect name other i n)) = SpellCall fields (Intersect name other i n)
Spell fields (request.Call (One name call)) = SpellCall fields (One name call)
Spell fields (request.Call (Long name call)) = SpellCall fields (Long name call)
Spell fields (request.Call (Str name call)) = SpellCall fields (Str name call)
Spell fields (request.Call (Bytes name call)) = SpellCall fields (Bytes name call)

-- the line spells the request
abbrev pub IsRequest : List ℕ → Line → Type 0
IsRequest line request = (fields : List (List ℕ)) × HasFields line fields × Spell fields request
