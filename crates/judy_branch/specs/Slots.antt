-- The words of a branch's children, without their bytes.
use Rattle.std.specs.Prelude.{ℕ, List, map, filter, not, ◌==◌}
use Rattle.judy_model.specs.Contents.{Entries}

-- the words other than 0
abbrev pub some_words : List ℕ → List ℕ
some_words ws = filter (λ w. not (w == 0)) ws

-- the words of children
abbrev pub child_words : Entries ℕ → List ℕ
child_words es = map (λ e. e.1) es
