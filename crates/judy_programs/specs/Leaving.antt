-- What a system keeps of its paths and its sockets.
--     first_of kept path  the path of the first file
--     HasLeft system      it has no socket any more
use Rattle.std.specs.Prelude.{◌≡◌, ℕ, List, [], ◌∷◌, None}
use Rattle.judy_programs.specs.declared.system.System.{System}

-- the path that is kept after this one, if one was kept before
abbrev pub first_of : List ℕ → List ℕ → List ℕ
first_of [] path = path
first_of (b ∷ kept) path = b ∷ kept

abbrev pub HasLeft : {F A D : Type 0} → System F A D → Type 0
HasLeft system = system.sockets ≡ None
