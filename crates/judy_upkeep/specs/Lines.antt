-- The lines that ask for an entry of an array, or make it.
--     call_text array letters           the line of an array with these letters for what it does
--     look_text array letters key       the same for a key
--     next_text array key               the line that looks for the entry behind a key
--     insertion_text array key value    the line that makes an entry with this value
use Rattle.std.specs.Prelude.{ℕ, List, [], ◌∷◌, ◌++◌, codes, decimal}
use Rattle.hex.specs.Hex.{encode_lower}
use Rattle.judy_upkeep.specs.declared.kinds.Array.{Array}
use Rattle.judy_model.specs.declared.commands.Kind.{Kind}
use Rattle.judy_model.specs.declared.commands.Kind.TheVariants as kind

-- the letters that the commands of a kind begin with
abbrev pub letters_of : Kind → List ℕ
letters_of kind.One = codes "J1"
letters_of kind.Long = codes "JL"
letters_of kind.Str = codes "JSL"
letters_of kind.Bytes = codes "JHS"

-- the text of a string or of a byte key
abbrev pub key_text : List ℕ → List ℕ
key_text key = codes "x" ++ encode_lower key

-- what comes behind the name in the line that looks for the first entry
abbrev pub from_first : Kind → List ℕ
from_first kind.One = codes "0"
from_first kind.Long = codes "0"
from_first kind.Str = codes "x"
from_first kind.Bytes = codes "1"

abbrev pub call_text : Array → List ℕ → List ℕ
call_text array letters = ((letters_of array.kind ++ letters) ++ 32 ∷ []) ++ array.name

abbrev pub look_text : Array → List ℕ → List ℕ → List ℕ
look_text array letters key = (call_text array letters ++ 32 ∷ []) ++ key

-- how many entries a look asks for: a map from byte keys shows entries by their number alone
abbrev pub asked_for : Kind → List ℕ
asked_for kind.Bytes = codes " 1"
asked_for _ = []

-- the line that looks for the entry behind a key
abbrev pub next_text : Array → List ℕ → List ℕ
next_text array key = look_text array (codes "N") key ++ asked_for array.kind

-- a set has no values
abbrev pub inserted : Kind → Array → List ℕ → ℕ → List ℕ
inserted kind.One array key value = look_text array (codes "S") key
inserted kind.Long array key value = (look_text array (codes "I") key ++ 32 ∷ []) ++ decimal value
inserted kind.Str array key value = (look_text array (codes "I") key ++ 32 ∷ []) ++ decimal value
inserted kind.Bytes array key value = (look_text array (codes "I") key ++ 32 ∷ []) ++ decimal value

abbrev pub insertion_text : Array → List ℕ → ℕ → List ℕ
insertion_text array key value = inserted array.kind array key value
