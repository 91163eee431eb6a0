-- One word of a row of words is taken out of the row, and put back.
use Rattle.std.proofs.Common.{◌≡◌, ℕ, ◌+◌, ◌*◌, ◌<◌, List, [], ◌∷◌, length, get_or, set, refl, sym, ◌∙◌, w64, length-set}
use seplogic.Ra.Ura.{Ura}
use base.Fraction.{full_share}
use base.Logic.{ent}
use base.Fml.{Fml, fat, fsep, feq}
use mir.Syntax.{ty_int}
use mir.Val.{vint}
use types.Logic.{Logic}
use types.Kit.{‵, ◌⊛◌, ⋆, ◌$◌, ◌∵◌, !, qed, by, use1, use2, split, fsplit, fjoin, feq_i, drop, rewrite, done}
use denote.Array.{Array}
use denote.ArrayMemory.{Array-apart, Array-whole}
use denote.Builtin.{u64}
use denote.Index.{row, others, takes, puts, place_is, place as nth}
use denote.Memory.{part_at, shares}
use denote.Plain.{uint_in, uint_out}

module _ {M : Type 1} {𝓤 : Ura M} (𝓛 : Logic 𝓤) (n b o : ℕ) (ws : List ℕ) (i : ℕ) where
  abbrev pub rest : Fml
  rest = others (shares u64) full_share ws i b o

  abbrev pub cell : ℕ → Fml
  cell w = fat full_share (ty_int w64) b (i * 8 + o) (vint w64 w)

  abbrev pub words_at : List ℕ → Fml
  words_at xs = part_at (Array u64 n) full_share xs b o

  pub word_out : i < length ws → ent 𝓤 (⋆ 𝓛 (‵ (words_at ws) ∷ [])) (⋆ 𝓛 (‵ (cell (get_or ws i 0)) ∷ ‵ rest ∷ []))
  word_out inside =
      qed 𝓛 (‵ (words_at ws) ∷ []) ∵
      use1 𝓛 (‵ (fsep (feq ℕ (length ws) n) (row u64 full_share ws b o))) (Array-apart 𝓛 u64 full_share tt n ws b o) $ fsplit ! $ drop ! $
      use1 𝓛 (‵ (part_at u64 full_share (get_or ws i 0) b (nth 8 o i)) ⊛ ‵ rest) (takes (shares u64) full_share 𝓛 ws i 0 b o inside) $ split ! $
      rewrite ! 0 (λ (k : ℕ). ‵ (part_at u64 full_share (get_or ws i 0) b k)) (place_is 8 o i) refl $
      use1 𝓛 (‵ (cell (get_or ws i 0))) (uint_out 𝓛 full_share w64 (get_or ws i 0) b (i * 8 + o)) $ done !

  pub word_in : (w : ℕ) → n ≡ length ws → i < length ws → ent 𝓤 (⋆ 𝓛 (‵ (cell w) ∷ ‵ rest ∷ [])) (⋆ 𝓛 (‵ (words_at (set ws i w)) ∷ []))
  word_in w sized inside =
      qed 𝓛 (‵ (cell w) ∷ ‵ rest ∷ []) ∵
      use1 𝓛 (‵ (part_at u64 full_share w b (i * 8 + o))) (uint_in 𝓛 full_share w64 w b (i * 8 + o)) $
      rewrite ! 0 (λ (k : ℕ). ‵ (part_at u64 full_share w b k)) (sym (place_is 8 o i)) refl $
      use2 𝓛 (‵ (row u64 full_share (set ws i w) b o)) (puts (shares u64) full_share 𝓛 ws i w b o inside) $
      feq_i ! ℕ (length (set ws i w)) n (length-set ws i w ∙ sym sized) $ fjoin ! $
      by ! (Array-whole 𝓛 u64 full_share n (set ws i w) b o)
