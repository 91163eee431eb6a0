-- The commands that make a call, and the call that each of them makes.
--     commands                 each word, the kind of its array, and what it does there
--     one_with, long_with      the call of an operation with these numbers
--     string_with, bytes_with  the same with a key
--     first_keys               the call that begins a walk over byte keys
--     command_of call          the command that makes a call
--     command_words            the words of the table
--     command_place command    the place of a command in the table
use Rattle.std.specs.Prelude.{◌&&◌, ℕ, zero, suc, Bool, List, [], ◌∷◌, Option, Some, None, option_map, codes, map, ◌==◌, nat_le, if◌then◌else◌}
use Rattle.std.specs.List.{position_or_len}
use Rattle.judy_model.specs.declared.calls.Call.{Call}
use Rattle.judy_model.specs.declared.calls.Call.TheVariants as call
use Rattle.judy_model.specs.declared.calls.Given.{Given}
use Rattle.judy_model.specs.declared.calls.OneCall.{OneCall}
use Rattle.judy_model.specs.declared.calls.OneCall.TheVariants as one
use Rattle.judy_model.specs.declared.calls.LongCall.{LongCall}
use Rattle.judy_model.specs.declared.calls.LongCall.TheVariants as long
use Rattle.judy_model.specs.declared.calls.StrCall.{StrCall}
use Rattle.judy_model.specs.declared.calls.StrCall.TheVariants as str
use Rattle.judy_model.specs.declared.calls.BytesCall.{BytesCall}
use Rattle.judy_model.specs.declared.calls.BytesCall.TheVariants as bytes
use Rattle.judy_model.specs.declared.calls.Given.TheVariants.{Value, Plus}
use Rattle.judy_model.specs.declared.calls.Given.TheVariants as given
use Rattle.judy_model.specs.declared.calls.Search.{Search}
use Rattle.judy_model.specs.declared.calls.Search.TheVariants as search
use Rattle.judy_model.specs.declared.commands.Command.{Command}
use Rattle.judy_model.specs.declared.commands.Kind.{Kind}
use Rattle.judy_model.specs.declared.commands.Kind.TheVariants.{One, Long, Str, Bytes}
use Rattle.judy_model.specs.declared.commands.Numbers.{Numbers}
use Rattle.judy_model.specs.declared.commands.Numbers.TheVariants as numbers
use Rattle.judy_model.specs.declared.commands.Operation.{Operation}
use Rattle.judy_model.specs.declared.commands.Operation.TheVariants.{Insert, Add, Keep, Exchange, Remove, Take, Look, Count, Nth, First, Next, Last, Prev, Free, Pop, Fill, Cut, Intersect}
use Rattle.judy_model.specs.declared.commands.Operation.TheVariants.{FirstEmpty, NextEmpty, LastEmpty, PrevEmpty}

-- what does this to an array of this kind
abbrev pub to : Kind → Operation → Command
to kind operation = record { kind = kind; operation = operation }

-- the commands, by kind
abbrev pub commands : List (List ℕ × Command)
commands =
    (codes "J1S", to One Insert) ∷ (codes "J1SE", to One Fill) ∷ (codes "J1U", to One Remove) ∷ (codes "J1UF", to One Pop)
    ∷ (codes "J1UR", to One Cut) ∷ (codes "J1T", to One Look) ∷ (codes "J1C", to One Count) ∷ (codes "J1BC", to One Nth)
    ∷ (codes "J1F", to One First) ∷ (codes "J1N", to One Next) ∷ (codes "J1L", to One Last) ∷ (codes "J1P", to One Prev)
    ∷ (codes "J1FE", to One FirstEmpty) ∷ (codes "J1NE", to One NextEmpty)
    ∷ (codes "J1LE", to One LastEmpty) ∷ (codes "J1PE", to One PrevEmpty) ∷ (codes "J1I", to One Intersect) ∷ (codes "J1FA", to One Free)
    ∷ (codes "JLI", to Long Insert) ∷ (codes "JLIE", to Long Fill) ∷ (codes "JLA", to Long Add) ∷ (codes "JLK", to Long Keep) ∷ (codes "JLX", to Long Exchange)
    ∷ (codes "JLD", to Long Remove) ∷ (codes "JLDF", to Long Pop) ∷ (codes "JLDR", to Long Cut)
    ∷ (codes "JLT", to Long Take) ∷ (codes "JLG", to Long Look) ∷ (codes "JLC", to Long Count) ∷ (codes "JLBC", to Long Nth)
    ∷ (codes "JLF", to Long First) ∷ (codes "JLN", to Long Next) ∷ (codes "JLL", to Long Last) ∷ (codes "JLP", to Long Prev)
    ∷ (codes "JLFE", to Long FirstEmpty) ∷ (codes "JLNE", to Long NextEmpty)
    ∷ (codes "JLLE", to Long LastEmpty) ∷ (codes "JLPE", to Long PrevEmpty) ∷ (codes "JLFA", to Long Free)
    ∷ (codes "JSLI", to Str Insert) ∷ (codes "JSLA", to Str Add) ∷ (codes "JSLK", to Str Keep) ∷ (codes "JSLX", to Str Exchange)
    ∷ (codes "JSLD", to Str Remove) ∷ (codes "JSLDF", to Str Pop) ∷ (codes "JSLT", to Str Take) ∷ (codes "JSLG", to Str Look)
    ∷ (codes "JSLF", to Str First) ∷ (codes "JSLN", to Str Next) ∷ (codes "JSLL", to Str Last) ∷ (codes "JSLP", to Str Prev)
    ∷ (codes "JSLFA", to Str Free)
    ∷ (codes "JHSI", to Bytes Insert) ∷ (codes "JHSA", to Bytes Add) ∷ (codes "JHSK", to Bytes Keep) ∷ (codes "JHSX", to Bytes Exchange)
    ∷ (codes "JHSD", to Bytes Remove) ∷ (codes "JHST", to Bytes Take) ∷ (codes "JHSG", to Bytes Look)
    ∷ (codes "JHSF", to Bytes First) ∷ (codes "JHSN", to Bytes Next) ∷ (codes "JHSFA", to Bytes Free) ∷ []

-- their words
abbrev pub command_words : List (List ℕ)
command_words = map (λ row. row.0) commands

-- the number of a kind, in the order of its type
abbrev pub kind_number : Kind → ℕ
kind_number One = 0
kind_number Long = 1
kind_number Str = 2
kind_number Bytes = 3

-- the kind with a number
abbrev pub kind_with : ℕ → Kind
kind_with zero = One
kind_with (suc zero) = Long
kind_with (suc (suc zero)) = Str
kind_with (suc (suc (suc n))) = Bytes

-- the number of an operation
abbrev pub operation_number : Operation → ℕ
operation_number Insert = 0
operation_number Add = 1
operation_number Keep = 2
operation_number Exchange = 3
operation_number Remove = 4
operation_number Take = 5
operation_number Look = 6
operation_number Count = 7
operation_number Nth = 8
operation_number First = 9
operation_number Next = 10
operation_number Last = 11
operation_number Prev = 12
operation_number FirstEmpty = 13
operation_number NextEmpty = 14
operation_number LastEmpty = 15
operation_number PrevEmpty = 16
operation_number Free = 17
operation_number Pop = 18
operation_number Fill = 19
operation_number Cut = 20
operation_number Intersect = 21

-- whether two commands are one
abbrev pub is_same : Command → Command → Bool
is_same a b = kind_number a.kind == kind_number b.kind && operation_number a.operation == operation_number b.operation

-- the place of a command in the table; its length for what is no command
abbrev pub command_place : Command → ℕ
command_place command = position_or_len (λ row. is_same row.1 command) commands

-- ---- the calls that they make

-- the most entries that a walk or a removal of a range may ask for
abbrev pub most_entries : ℕ
most_entries = 65535

-- the number of entries that a walk or a removal of a range asks for, if it may ask for so many
abbrev pub entries_of : ℕ → Option ℕ
entries_of n = if nat_le 1 n && nat_le n most_entries then Some n else None

-- the call of a set
abbrev pub one_with : Operation → Numbers → Option OneCall
one_with Insert (numbers.One i) = Some (one.Set i)
one_with Remove (numbers.One i) = Some (one.Unset i)
one_with Look (numbers.One i) = Some (one.Test i)
one_with Count (numbers.Two i k) = Some (one.Count i k)
one_with Nth (numbers.One n) = Some (one.ByCount n)
one_with First (numbers.One i) = Some (one.First i)
one_with Next (numbers.One i) = Some (one.Next i)
one_with Last (numbers.One i) = Some (one.Last i)
one_with Prev (numbers.One i) = Some (one.Prev i)
one_with FirstEmpty (numbers.One i) = Some (one.FirstEmpty i)
one_with NextEmpty (numbers.One i) = Some (one.NextEmpty i)
one_with LastEmpty (numbers.One i) = Some (one.LastEmpty i)
one_with PrevEmpty (numbers.One i) = Some (one.PrevEmpty i)
one_with First (numbers.Two i n) = option_map (λ k. one.Walk search.First i k) (entries_of n)
one_with Next (numbers.Two i n) = option_map (λ k. one.Walk search.Next i k) (entries_of n)
one_with Last (numbers.Two i n) = option_map (λ k. one.Walk search.Last i k) (entries_of n)
one_with Prev (numbers.Two i n) = option_map (λ k. one.Walk search.Prev i k) (entries_of n)
one_with FirstEmpty (numbers.Two i n) = option_map (λ k. one.WalkEmpty search.First i k) (entries_of n)
one_with NextEmpty (numbers.Two i n) = option_map (λ k. one.WalkEmpty search.Next i k) (entries_of n)
one_with LastEmpty (numbers.Two i n) = option_map (λ k. one.WalkEmpty search.Last i k) (entries_of n)
one_with PrevEmpty (numbers.Two i n) = option_map (λ k. one.WalkEmpty search.Prev i k) (entries_of n)
one_with Pop (numbers.Two i k) = Some (one.Pop i k)
one_with Fill (numbers.One i) = Some (one.Fill i)
one_with Cut (numbers.Three i k n) = option_map (λ most. one.Cut i k most) (entries_of n)
one_with Free numbers.Nothing = Some one.Free
one_with _ _ = None

-- of a JudyL
abbrev pub long_with : Operation → Numbers → Option LongCall
long_with Insert (numbers.One i) = Some (long.Insert i given.Nothing)
long_with Insert (numbers.Two i v) = Some (long.Insert i (Value v))
long_with Add (numbers.Two i n) = Some (long.Insert i (Plus n))
long_with Keep (numbers.Two i v) = Some (long.Keep i v)
long_with Exchange (numbers.Three i old new) = Some (long.Exchange i old new)
long_with Remove (numbers.One i) = Some (long.Delete i)
long_with Remove (numbers.Two i v) = Some (long.DeleteIf i v)
long_with Take (numbers.One i) = Some (long.Take i)
long_with Look (numbers.One i) = Some (long.Get i)
long_with Count (numbers.Two i k) = Some (long.Count i k)
long_with Nth (numbers.One n) = Some (long.ByCount n)
long_with First (numbers.One i) = Some (long.First i)
long_with Next (numbers.One i) = Some (long.Next i)
long_with Last (numbers.One i) = Some (long.Last i)
long_with Prev (numbers.One i) = Some (long.Prev i)
long_with FirstEmpty (numbers.One i) = Some (long.FirstEmpty i)
long_with NextEmpty (numbers.One i) = Some (long.NextEmpty i)
long_with LastEmpty (numbers.One i) = Some (long.LastEmpty i)
long_with PrevEmpty (numbers.One i) = Some (long.PrevEmpty i)
long_with First (numbers.Two i n) = option_map (λ k. long.Walk search.First i k) (entries_of n)
long_with Next (numbers.Two i n) = option_map (λ k. long.Walk search.Next i k) (entries_of n)
long_with Last (numbers.Two i n) = option_map (λ k. long.Walk search.Last i k) (entries_of n)
long_with Prev (numbers.Two i n) = option_map (λ k. long.Walk search.Prev i k) (entries_of n)
long_with FirstEmpty (numbers.Two i n) = option_map (λ k. long.WalkEmpty search.First i k) (entries_of n)
long_with NextEmpty (numbers.Two i n) = option_map (λ k. long.WalkEmpty search.Next i k) (entries_of n)
long_with LastEmpty (numbers.Two i n) = option_map (λ k. long.WalkEmpty search.Last i k) (entries_of n)
long_with PrevEmpty (numbers.Two i n) = option_map (λ k. long.WalkEmpty search.Prev i k) (entries_of n)
long_with Pop (numbers.Two i k) = Some (long.Pop i k)
long_with Fill (numbers.Two i v) = Some (long.Fill i v)
long_with Cut (numbers.Three i k n) = option_map (λ most. long.Cut i k most) (entries_of n)
long_with Free numbers.Nothing = Some long.Free
long_with _ _ = None

-- of a JudySL, with a key
abbrev pub string_with : Operation → List ℕ → Numbers → Option StrCall
string_with Insert key numbers.Nothing = Some (str.Insert key given.Nothing)
string_with Insert key (numbers.One v) = Some (str.Insert key (Value v))
string_with Add key (numbers.One n) = Some (str.Insert key (Plus n))
string_with Keep key (numbers.One v) = Some (str.Keep key v)
string_with Exchange key (numbers.Two old new) = Some (str.Exchange key old new)
string_with Remove key numbers.Nothing = Some (str.Delete key)
string_with Remove key (numbers.One v) = Some (str.DeleteIf key v)
string_with Take key numbers.Nothing = Some (str.Take key)
string_with Look key numbers.Nothing = Some (str.Get key)
string_with First key numbers.Nothing = Some (str.First key)
string_with Next key numbers.Nothing = Some (str.Next key)
string_with Last key numbers.Nothing = Some (str.Last key)
string_with Prev key numbers.Nothing = Some (str.Prev key)
string_with First key (numbers.One n) = option_map (λ k. str.Walk search.First key k) (entries_of n)
string_with Next key (numbers.One n) = option_map (λ k. str.Walk search.Next key k) (entries_of n)
string_with Last key (numbers.One n) = option_map (λ k. str.Walk search.Last key k) (entries_of n)
string_with Prev key (numbers.One n) = option_map (λ k. str.Walk search.Prev key k) (entries_of n)
string_with Pop key numbers.Nothing = Some (str.Pop key)
string_with _ key _ = None

-- of a JudyHS, with a key
abbrev pub bytes_with : Operation → List ℕ → Numbers → Option BytesCall
bytes_with Insert key numbers.Nothing = Some (bytes.Insert key given.Nothing)
bytes_with Insert key (numbers.One v) = Some (bytes.Insert key (Value v))
bytes_with Add key (numbers.One n) = Some (bytes.Insert key (Plus n))
bytes_with Keep key (numbers.One v) = Some (bytes.Keep key v)
bytes_with Exchange key (numbers.Two old new) = Some (bytes.Exchange key old new)
bytes_with Remove key numbers.Nothing = Some (bytes.Delete key)
bytes_with Remove key (numbers.One v) = Some (bytes.DeleteIf key v)
bytes_with Take key numbers.Nothing = Some (bytes.Take key)
bytes_with Look key numbers.Nothing = Some (bytes.Get key)
bytes_with Next key (numbers.One n) = option_map (λ k. bytes.Next key k) (entries_of n)
bytes_with _ key _ = None

-- the first keys of a JudyHS, which takes no key
abbrev pub first_keys : Numbers → Option BytesCall
first_keys (numbers.One n) = option_map (λ k. bytes.First k) (entries_of n)
first_keys _ = None

-- the call that frees an array, which takes no key
abbrev pub free_with : {C : Type 0} → Operation → C → Option C
free_with Free call = Some call
free_with _ call = None

-- ---- the command of a call

-- what an insertion does, by what it is given
abbrev pub given_operation : Given → Operation
given_operation given.Nothing = Insert
given_operation (Value v) = Insert
given_operation (Plus n) = Add

-- what a walk does, by the search that it begins with
abbrev pub search_operation : Search → Operation
search_operation search.First = First
search_operation search.Next = Next
search_operation search.Last = Last
search_operation search.Prev = Prev

-- the same of absent words
abbrev pub empty_operation : Search → Operation
empty_operation search.First = FirstEmpty
empty_operation search.Next = NextEmpty
empty_operation search.Last = LastEmpty
empty_operation search.Prev = PrevEmpty

-- what the call of a set does
abbrev pub one_operation : OneCall → Operation
one_operation (one.Set i) = Insert
one_operation (one.Unset i) = Remove
one_operation (one.Test i) = Look
one_operation (one.Count i k) = Count
one_operation (one.ByCount n) = Nth
one_operation (one.First i) = First
one_operation (one.Next i) = Next
one_operation (one.Last i) = Last
one_operation (one.Prev i) = Prev
one_operation (one.FirstEmpty i) = FirstEmpty
one_operation (one.NextEmpty i) = NextEmpty
one_operation (one.LastEmpty i) = LastEmpty
one_operation (one.PrevEmpty i) = PrevEmpty
one_operation (one.Pop i k) = Pop
one_operation (one.Fill i) = Fill
one_operation (one.Cut i k n) = Cut
one_operation (one.Walk search i n) = search_operation search
one_operation (one.WalkEmpty search i n) = empty_operation search
one_operation one.Free = Free

-- of a JudyL
abbrev pub long_operation : LongCall → Operation
long_operation (long.Insert i g) = given_operation g
long_operation (long.Keep i v) = Keep
long_operation (long.Exchange i old new) = Exchange
long_operation (long.Delete i) = Remove
long_operation (long.DeleteIf i v) = Remove
long_operation (long.Take i) = Take
long_operation (long.Get i) = Look
long_operation (long.Count i k) = Count
long_operation (long.ByCount n) = Nth
long_operation (long.First i) = First
long_operation (long.Next i) = Next
long_operation (long.Last i) = Last
long_operation (long.Prev i) = Prev
long_operation (long.FirstEmpty i) = FirstEmpty
long_operation (long.NextEmpty i) = NextEmpty
long_operation (long.LastEmpty i) = LastEmpty
long_operation (long.PrevEmpty i) = PrevEmpty
long_operation (long.Pop i k) = Pop
long_operation (long.Fill i v) = Fill
long_operation (long.Cut i k n) = Cut
long_operation (long.Walk search i n) = search_operation search
long_operation (long.WalkEmpty search i n) = empty_operation search
long_operation long.Free = Free

-- of a JudySL
abbrev pub string_operation : StrCall → Operation
string_operation (str.Insert key g) = given_operation g
string_operation (str.Keep key v) = Keep
string_operation (str.Exchange key old new) = Exchange
string_operation (str.Delete key) = Remove
string_operation (str.DeleteIf key v) = Remove
string_operation (str.Take key) = Take
string_operation (str.Get key) = Look
string_operation (str.First key) = First
string_operation (str.Next key) = Next
string_operation (str.Last key) = Last
string_operation (str.Prev key) = Prev
string_operation (str.Pop key) = Pop
string_operation (str.Walk search key n) = search_operation search
string_operation str.Free = Free

-- of a JudyHS
abbrev pub bytes_operation : BytesCall → Operation
bytes_operation (bytes.Insert key g) = given_operation g
bytes_operation (bytes.Keep key v) = Keep
bytes_operation (bytes.Exchange key old new) = Exchange
bytes_operation (bytes.Delete key) = Remove
bytes_operation (bytes.DeleteIf key v) = Remove
bytes_operation (bytes.Take key) = Take
bytes_operation (bytes.Get key) = Look
bytes_operation (bytes.First n) = First
bytes_operation (bytes.Next key n) = Next
bytes_operation bytes.Free = Free

-- the command that makes a call; None for `USED` and `NAMES`, which ask for no array
abbrev pub command_of : Call → Option Command
command_of (call.One name c) = Some (to One (one_operation c))
command_of (call.Long name c) = Some (to Long (long_operation c))
command_of (call.Str name c) = Some (to Str (string_operation c))
command_of (call.Bytes name c) = Some (to Bytes (bytes_operation c))
command_of (call.Intersect name other i n) = Some (to One Intersect)
command_of (call.Names from n) = None
command_of call.Used = None
