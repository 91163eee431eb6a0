-- Words side by side in memory: a run of them is taken out and put back.
use Rattle.std.proofs.Common.{◌≡◌, ℕ, ◌+◌, ◌-◌, ◌*◌, ◌≤◌, suc, List, [], ◌∷◌, ◌++◌, length, take, drop, refl, sym, ap, ◌∙◌, arith, w64}
use Rattle.std.proofs.lemmas.List.{length-take, length-drop, take-append-drop}
use lib.Seq.{drop-drop}
use seplogic.Ra.Ura.{Ura}
use base.Fraction.{full_share}
use base.Logic.{ent, sep, emp}
use base.Fml.{Fml, fsep, feq, fat, froom}
use mir.Syntax.{ty_int, ty_array}
use mir.Val.{vint}
use types.Logic.{Logic, sem}
use types.Kit.{‵, ◌⊛◌, ◌$◌, ◌∵◌, !, qed, by, done, move, drop as skip, use1, use2, split, fsplit, fjoin, feq_i, rewrite}
use denote.Array.{Array}
use denote.ArrayMemory.{Array-apart, Array-whole}
use denote.Builtin.{u64}
use denote.Plain.{uint_out}
use denote.RawPtr.{block_ptr}
use Rattle.judy_region.specs.Ownership.{whole, room_after}
use denote.Index.{row}
use denote.Memory.{part_at}
use denote.Steps.{nothing}

module _ {M : Type 1} {𝓤 : Ura M} (𝓛 : Logic 𝓤) (b : ℕ) where
  abbrev pub Row : List ℕ → ℕ → Fml
  Row ws o = row u64 full_share ws b o

  pub cut : (xs ys : List ℕ) (o at : ℕ) → at ≡ length xs * 8 + o → ent 𝓤 (sem 𝓛 (Row (xs ++ ys) o)) (sep 𝓤 (sem 𝓛 (Row xs o)) (sem 𝓛 (Row ys at)))
  cut [] ys o at e = qed 𝓛 (‵ (Row ys o) ∷ []) ∵ rewrite ! 0 (λ (k : ℕ). ‵ (Row ys k)) {x = at} (omega (arith, e)) refl $ nothing ! $ done !
  cut (x ∷ xs) ys o at e = qed 𝓛 (‵ (Row (x ∷ (xs ++ ys)) o) ∷ []) ∵ fsplit ! $ move ! (1 ∷ []) $
      use1 𝓛 (‵ (Row xs (o + 8)) ⊛ ‵ (Row ys at)) (cut xs ys (o + 8) at (omega (arith, e))) $ split ! $ move ! (2 ∷ 0 ∷ []) $ fjoin ! $ done !

  pub glue : (xs ys : List ℕ) (o at : ℕ) → at ≡ length xs * 8 + o → ent 𝓤 (sep 𝓤 (sem 𝓛 (Row xs o)) (sem 𝓛 (Row ys at))) (sem 𝓛 (Row (xs ++ ys) o))
  glue [] ys o at e = qed 𝓛 (‵ (Row [] o) ∷ ‵ (Row ys at) ∷ []) ∵ skip ! $ rewrite ! 0 (λ (k : ℕ). ‵ (Row ys k)) {x = o} (omega (arith, e)) refl $ done !
  glue (x ∷ xs) ys o at e = qed 𝓛 (‵ (Row (x ∷ xs) o) ∷ ‵ (Row ys at) ∷ []) ∵ fsplit ! $ move ! (1 ∷ 2 ∷ []) $
      use2 𝓛 (‵ (Row (xs ++ ys) (o + 8))) (glue xs ys (o + 8) at (omega (arith, e))) $ move ! (1 ∷ 0 ∷ []) $ fjoin ! $ done !

  module _ (o : ℕ) (words : List ℕ) (i n : ℕ) where
    -- the words but for the n from the i-th on
    abbrev pub Around : Fml
    Around = fsep (Row (take i words) o) (Row (drop (i + n) words) (n * 8 + (i * 8 + o)))

    before : i ≤ length words → i * 8 + o ≡ length (take i words) * 8 + o
    before le = let long : i ≡ length (take i words) = omega (arith, length-take i words, le) in ap (λ k. k * 8 + o) long

    pub run_out : i + n ≤ length words → ent 𝓤 (sem 𝓛 (Row words o)) (sep 𝓤 (sem 𝓛 (Row (take n (drop i words)) (i * 8 + o))) (sem 𝓛 Around))
    run_out le =
        let run = take n (drop i words) in let long : n ≡ length run = omega (arith, length-take n (drop i words), length-drop i words, le) in
        qed 𝓛 (‵ (Row words o) ∷ []) ∵
        rewrite ! 0 (λ (l : List ℕ). ‵ (Row l o)) (sym (take-append-drop i words) ∙ ap (λ l. take i words ++ l)
        (sym (take-append-drop n (drop i words)) ∙ ap (λ l. run ++ l) (drop-drop n i words))) refl $
        use1 𝓛 (‵ (Row (take i words) o) ⊛ ‵ (Row (run ++ drop (i + n) words) (i * 8 + o)))
        (cut (take i words) (run ++ drop (i + n) words) o (i * 8 + o) (before (omega (arith, le)))) $ split ! $ move ! (1 ∷ []) $
        use1 𝓛 (‵ (Row run (i * 8 + o)) ⊛ ‵ (Row (drop (i + n) words) (n * 8 + (i * 8 + o))))
        (cut run (drop (i + n) words) (i * 8 + o) (n * 8 + (i * 8 + o)) (ap (λ k. k * 8 + (i * 8 + o)) long)) $
        split ! $ move ! (2 ∷ 1 ∷ []) $ fjoin ! $ move ! (1 ∷ []) $ done !

    pub run_in : i + n ≤ length words → (ws : List ℕ) → n ≡ length ws
        → ent 𝓤 (sep 𝓤 (sem 𝓛 (Row ws (i * 8 + o))) (sem 𝓛 Around)) (sem 𝓛 (Row (take i words ++ (ws ++ drop (i + n) words)) o))
    run_in le ws long = qed 𝓛 (‵ (Row ws (i * 8 + o)) ∷ ‵ Around ∷ []) ∵ move ! (1 ∷ []) $ fsplit ! $ move ! (2 ∷ 1 ∷ []) $
        use2 𝓛 (‵ (Row (ws ++ drop (i + n) words) (i * 8 + o))) (glue ws (drop (i + n) words) (i * 8 + o) (n * 8 + (i * 8 + o))
        (ap (λ k. k * 8 + (i * 8 + o)) long)) $ move ! (1 ∷ 0 ∷ []) $
        by ! (glue (take i words) (ws ++ drop (i + n) words) o (i * 8 + o) (before (omega (arith, le))))

module _ {M : Type 1} {𝓤 : Ura M} (𝓛 : Logic 𝓤) (b : ℕ) where
  open 𝓛 use {H}

  -- no word lies anywhere
  pub none_yet : (o : ℕ) → ent 𝓤 (emp 𝓤) (sem 𝓛 (part_at (Array u64 0) full_share [] b o))
  none_yet o = qed 𝓛 [] ∵ nothing ! $ feq_i ! ℕ 0 0 refl $ fjoin ! $ by ! (Array-whole 𝓛 u64 full_share 0 [] b o)

  -- a word is room for one
  word_room : (x o : ℕ) → ent 𝓤 (sem 𝓛 (part_at u64 full_share x b o)) (H.room (ty_int w64) b o)
  word_room x o = qed 𝓛 (‵ (part_at u64 full_share x b o) ∷ []) ∵ use1 𝓛 (‵ (fat full_share (ty_int w64) b o (vint w64 x)))
      (uint_out 𝓛 full_share w64 x b o) $ by ! (𝓛.laws.at_room (ty_int w64) b o (vint w64 x))

  -- words, and room for m more, are room for all
  pub all_room : (ws : List ℕ) (m o at : ℕ) → at ≡ length ws * 8 + o
      → ent 𝓤 (sep 𝓤 (sem 𝓛 (Row 𝓛 b ws o)) (H.room (ty_array (ty_int w64) m) b at)) (H.room (ty_array (ty_int w64) (length ws + m)) b o)
  all_room [] m o at e =
      let z : m ≡ 0 + m = omega arith in let k : at ≡ o = omega (arith, e) in
      qed 𝓛 (‵ (Row 𝓛 b [] o) ∷ ‵ (froom (ty_array (ty_int w64) m) b at) ∷ []) ∵ skip ! $ rewrite ! 0
      (λ (n : ℕ). ‵ (froom (ty_array (ty_int w64) m) b n)) k refl $
      rewrite ! 0 (λ (n : ℕ). ‵ (froom (ty_array (ty_int w64) n) b o)) z refl $ done !
  all_room (x ∷ ws) m o at e =
      let z : suc (length ws + m) ≡ length (x ∷ ws) + m = omega arith in
      qed 𝓛 (‵ (Row 𝓛 b (x ∷ ws) o) ∷ ‵ (froom (ty_array (ty_int w64) m) b at) ∷ []) ∵ fsplit ! $ move ! (1 ∷ 2 ∷ []) $
      use2 𝓛 (‵ (froom (ty_array (ty_int w64) (length ws + m)) b (o + 8))) (all_room ws m (o + 8) at (omega (arith, e))) $ move ! (1 ∷ []) $
      use1 𝓛 (‵ (froom (ty_int w64) b o)) (word_room x o) $ use2 𝓛 (‵ (froom (ty_array (ty_int w64) (suc (length ws + m))) b o))
      (𝓛.laws.room_cons (ty_int w64) (length ws + m) b o) $
      rewrite ! 0 (λ (n : ℕ). ‵ (froom (ty_array (ty_int w64) n) b o)) z refl $ done !

  -- all the room that a chunk has
  pub room_first : (o : ℕ) → ent 𝓤 (sem 𝓛 (froom whole b o)) (sem 𝓛 (room_after (block_ptr b o) 0))
  room_first o =
      let z : 65536 ≡ 65536 - 0 = omega arith in let k : o ≡ 0 * 8 + o = omega arith in
      qed 𝓛 (‵ (froom (ty_array (ty_int w64) 65536) b o) ∷ []) ∵ rewrite ! 0 (λ (j : ℕ). ‵ (froom (ty_array (ty_int w64) 65536) b j)) k refl $
      rewrite ! 0 (λ (j : ℕ). ‵ (froom (ty_array (ty_int w64) j) b (0 * 8 + o))) z refl $ done !

  pub room_last : (n o : ℕ) (ws : List ℕ) → n ≡ length ws → n ≤ 65536
      → ent 𝓤 (sep 𝓤 (sem 𝓛 (part_at (Array u64 n) full_share ws b o)) (sem 𝓛 (room_after (block_ptr b o) n)))
      (sem 𝓛 (froom whole b o))
  room_last n o ws sized within =
      let z : length ws + (65536 - n) ≡ 65536 = omega (arith, sized, within) in
      qed 𝓛 (‵ (part_at (Array u64 n) full_share ws b o) ∷ ‵ (froom (ty_array (ty_int w64) (65536 - n)) b (n * 8 + o)) ∷ []) ∵
      use1 𝓛 (‵ (fsep (feq ℕ (length ws) n) (Row 𝓛 b ws o))) (Array-apart 𝓛 u64 full_share tt n ws b o) $ fsplit ! $ skip ! $
      use2 𝓛 (‵ (froom (ty_array (ty_int w64) (length ws + (65536 - n))) b o)) (all_room ws (65536 - n) o (n * 8 + o) (ap (λ k. k * 8 + o) sized)) $
      rewrite ! 0 (λ (j : ℕ). ‵ (froom (ty_array (ty_int w64) j) b o)) z refl $ done !
