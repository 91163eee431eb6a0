-- The machine values of the memory of a chunk and of its lease: what is owned tells them, and is
-- made of nothing.
use Rattle.std.proofs.Common.{◌≡◌, ℕ, ◌^◌, ◌<◌, List, [], ◌∷◌, ◌++◌, refl, ◌∙◌, w64}
use seplogic.Ra.Ura.{Ura}
use mir.Val.{Val, vint, vstruct, vcons, vnil, of_list}
use base.Logic.{ent, emp}
use base.Fml.{Fml}
use types.Logic.{Logic, sem}
use denote.RattleType.{RattleType}
use denote.RawPtr.{Ptr, ptr_val}
use denote.Shadow.{shadow, makes_shadow}
use denote.Struct.Owning.{shape}
use denote.Struct.Struct.{Struct}
use Rattle.judy_region.specs.contracts.words.Words as C

-- the data fields of `Words`, as a plain struct
abbrev pub Fields : RattleType
Fields = Struct (shape C.the_type)

abbrev pub words_val : Ptr → ℕ → Val
words_val p n = vstruct (vcons (ptr_val p) (vcons (vint w64 n) vnil))

abbrev pub fields_own : Ptr → ℕ → List Val → Fml
fields_own p n = Fields.own_val (p, (n, tt))

pub fields_told : (p : Ptr) (n : ℕ) (vs : List Val) → shadow (fields_own p n vs) → (vs ≡ words_val p n ∷ []) × (n < 2 ^ 64)
fields_told p n vs s = (s.1.0 ∙ (λ i. vstruct (of_list (s.1.1.0 i ++ (s.1.1.1.0.0 i ++ []))) ∷ []), s.1.1.1.0.1)

pub fields_made : {M : Type 1} {𝓤 : Ura M} (𝓛 : Logic 𝓤) (p : Ptr) (n : ℕ) → (n < 2 ^ 64) → ent 𝓤 (emp 𝓤) (sem 𝓛 (fields_own p n (words_val p n ∷ [])))
fields_made 𝓛 p n f = makes_shadow 𝓛 (fields_own p n (words_val p n ∷ [])) (λ _. (tt, (tt, ((tt, tt), tt))))
    ((ptr_val p ∷ [], (vint w64 n ∷ [], tt)), (refl, (refl, ((refl, f), tt))))

-- the data field of `Lease`, which takes no bytes
abbrev pub lease_val : Val
lease_val = vstruct (vcons (vstruct vnil) vnil)

abbrev nothing_in : RattleType
nothing_in = Struct (record { name = []; args = []; types = []; fields = [] })

abbrev pub lease_own : List Val → Fml
lease_own = (Struct (record { name = []; args = []; types = []; fields = nothing_in ∷ [] })).own_val (tt, tt)

pub lease_told : (vs : List Val) → shadow (lease_own vs) → vs ≡ lease_val ∷ []
lease_told vs s = s.1.0 ∙ (λ i. vstruct (of_list (s.1.1.0.1.0 i ++ [])) ∷ [])

pub lease_made : {M : Type 1} {𝓤 : Ura M} (𝓛 : Logic 𝓤) → ent 𝓤 (emp 𝓤) (sem 𝓛 (lease_own (lease_val ∷ [])))
lease_made 𝓛 = makes_shadow 𝓛 (lease_own (lease_val ∷ [])) (λ _. (tt, ((λ _. (tt, tt)), tt))) ((vstruct vnil ∷ [], tt), (refl, ((tt, (refl, tt)), tt)))
