-- `as_slice` reads the pointer and the length through a `&`, and shows the words.
use Rattle.std.proofs.Common.{ℕ, ◌+◌, ◌*◌, ◌^◌, List, [], ◌∷◌, length, refl, ap, arith, w64}
use Rattle.std.proofs.raw_atomic.Walks.{proved}
use Rattle.std.proofs.Words.{word_in, word_out, pointer_in, pointer_out}
use base.Logic.{ent, sep}
use base.Fml.{Fml, Lft, ftrue, flft, fhide}
use mir.Syntax.{named}
use mir.Val.{Val, vptr}
use contract.Monad.{fact}
use contract.Running.{tables}
use types.Logic.{Logic, sem}
use types.Kit.{‵, raw, ◌⊛◌, at_ret, ◌$◌, ◌∵◌, !, qed, done, move, keep, drop, use1, split, join, fsplit, fjoin, feq_i, flt_i, suffices, frame}
use types.Part.{agg}
use types.Run.{enter, of_opd, load, look, stop, fld, and_then, no_more, first, blocks, exec, returns}
use types.ByLocal.{alloc_all, pass_all, free_all, look_at, get, through, sets, sets_last, env}
use seplogic.Ra.Ura.{Ura}
use denote.Builtin.{usize}
use denote.Exit.{yes}
use denote.Memory.{hidden_shr}
use denote.Opens.{shr_dup, unhide, hide}
use denote.Plain.{uint_row_laws}
use denote.RattleType.{RowLaws, owns}
use denote.RawPtr.{Ptr, RawPtr, block_of, count_of, InBlock, ptr_row_laws}
use denote.Ref.{ShrRef, shr_vals, shr_Tells}
use denote.Signature.{plain}
use denote.Slice.{slice_val}
use denote.Steps.{nothing, heard}
use denote.Struct.Lending.{in_block_says, lent_out}
use denote.Struct.Owning.{shape}
use denote.Struct.Struct.{Struct-row_laws}
use denote.Triple.Walked.{Stays, walk_of, says, stay_none_ref, Goes-none_ref, ends_at}
use Rattle.std.proofs.VecSteps.Shapes.{after}
use Rattle.judy_region.specs.contracts.words.Words.as_slice as f
use Rattle.judy_region.proofs.words.Words.as_slice.Statement.{statement}
use Rattle.judy_region.proofs.words.Words.as_slice.Code as code
use Rattle.judy_region.specs.contracts.words.Words as C
use Rattle.judy_region.proofs.words.Words.TheLaw.Met.{shares as law}
use Rattle.judy_region.proofs.Values.{Fields}

abbrev stayed : Stays f.ended.signature.params f.ended.kept
stayed = (stay_none_ref (0 ∷ []) tt (plain (λ _. C.the_row)) yes, tt)

module _ {M : Type 1} {𝓤 : Ura M} (𝓛 : Logic 𝓤) (κ : Lft) (b o : ℕ) (p : Ptr) (n : ℕ) where
  abbrev S : Fml
  S = hidden_shr Fields κ (p, (n, tt)) b o

  laws : RowLaws Fields
  laws = Struct-row_laws (shape C.the_type) (ptr_row_laws, (uint_row_laws w64, tt))

  shows_at : ent 𝓤 (sem 𝓛 S) (sep 𝓤 (sem 𝓛 (hidden_shr RawPtr κ p b (o + 0))) (sem 𝓛 S))
  shows_at = qed 𝓛 (‵ S ∷ []) ∵ shr_dup ! Fields laws (p, (n, tt)) b o κ $ unhide ! $ fsplit ! $ fsplit ! $ hide ! $ keep ! (0 ∷ 3 ∷ []) $ done !

  shows_len : ent 𝓤 (sem 𝓛 S) (sep 𝓤 (sem 𝓛 (hidden_shr usize κ n b (o + 8))) (sem 𝓛 S))
  shows_len = qed 𝓛 (‵ S ∷ []) ∵ shr_dup ! Fields laws (p, (n, tt)) b o κ $ unhide ! $ fsplit ! $ fsplit ! $ drop ! $ fsplit ! $
      hide ! $ keep ! (0 ∷ 3 ∷ []) $ done !

pub as_slice_spec : {M : Type 1} → statement M
as_slice_spec 𝓤 𝓛 𝓜 𝓡 wired =
    let c = f.clauses 𝓛 𝓜.mem 𝓡.returns in let W = walk_of 𝓛 f.ended stayed c in let 𝓣 = tables 𝓤 𝓛.H 𝓜 𝓡 𝓡.env in
    proved 𝓛 f.ended stayed c 𝓜 𝓡 (Goes-none_ref 𝓛 1 (0 ∷ []) tt (plain (λ _. C.the_row)) yes, tt)
    f.Key.name code.function (code.unfolded 𝓤 𝓛.H 𝓜 𝓡 wired)
    (λ κs. (shr_vals, tt)) (λ κs. (shr_Tells (named 0) κs.0 C.the_row, tt)) (λ κs qs bounds a _ are.
    let κ = κs.0 in let q = qs.0 in
    let b = a.0.ref_ptr.0 in let o = a.0.ref_ptr.1 in let d = a.0.now in let vs = shr_vals a.0 in
    let y : W.Ghost = ((κs, qs, bounds, a, (vs, tt)), tt) in
    qed 𝓛 (((‵ (flft κ q) ⊛ ‵ ftrue) ⊛ ‵ (owns (ShrRef (named 0) κ C.the_row ∷ []) a y.0.4)) ∷ ‵ ftrue ∷ []) ∵
    split ! $ split ! $ move ! (2 ∷ []) $ fsplit ! $ keep ! (0 ∷ 2 ∷ []) $
    enter ! _ _ _ _ _ $ alloc_all ! (λ l. pass_all ! refl ((tt, tt), tt) $
    fsplit ! $ drop ! $ shr_dup ! C.the_row law.shr_laws d b o κ $
    use1 𝓛 (‵ (S 𝓛 κ b o d.at d.len) ⊛ ‵ (fhide (C.the_lent d d.at κ))) (lent_out 𝓛 C.struct C.the_codes C.the_heap C.the_lent κ d
    b o) $ split ! $ move ! (1 ∷ []) $
    unhide ! $ fsplit ! $ use1 𝓛 (raw (fact 𝓤 (InBlock d.at))) (in_block_says 𝓛 d.at) $ heard ! (InBlock d.at) (λ inb. fsplit ! $ drop ! $ hide ! $
    move ! (1 ∷ 3 ∷ []) $ first ! $ blocks ! $
    pointer_in ! tt d.at inb b (o + 0) (shows_at 𝓛 κ b o d.at d.len) (λ q0.
    sets ! (of_opd ! (load ! (through ! refl (fld ! refl (stop !))) (look ! 1 refl))) refl (tt, tt) $
    pointer_out ! tt d.at inb b (o + 0) $ move ! (1 ∷ 0 ∷ []) $
    word_in ! tt d.len b (o + 8) (shows_len 𝓛 κ b o d.at d.len) (λ q1 fn.
    sets ! (of_opd ! (load ! (through ! refl (fld ! refl (stop !))) (look ! 1 refl))) refl (tt, record { fits = fn }) $
    word_out ! tt d.len b (o + 8) fn $
    sets_last ! (agg ! (and_then ! (get ! refl) (and_then ! (get ! refl) (no_more !)))) refl (tt, (tt, (record { fits = fn }, tt))) $
    exec ! 𝓣.C 𝓣.Λ (env code.Mir.locals l) (after 1 (code.function).body) (at_ret _ (W.post y)) $
    sets ! (of_opd ! (get ! refl)) refl (tt, (tt, (record { fits = fn }, tt))) $
    returns ! (look_at ! 0 refl) $ free_all ! refl $ keep ! (0 ∷ 3 ∷ 2 ∷ []) $
    -- [the token; the memory's own `&`; the words]
    suffices ! _ (ends_at 𝓛 f.ended stayed c y (slice_val (block_of d.at, count_of d.at) d.len)
    (record { ref_ptr = (block_of d.at, count_of d.at); now = d.words }) (tt, tt) (tt, tt)) $ says ! refl $
    nothing ! $ move ! (1 ∷ 0 ∷ []) $ join ! $ frame ! $ feq_i ! (List Val) (vptr b o ∷ []) (vptr b o ∷ []) refl $ fjoin ! $
    nothing ! $ move ! (1 ∷ 0 ∷ []) $ fjoin ! $ frame ! $
    flt_i ! (length d.words * 8) (2 ^ 63) (omega (arith, d.within, d.sized)) $ flt_i ! (length d.words) (2 ^ 64) (omega (arith, fn, d.sized)) $ fjoin ! $
    feq_i ! (List Val) (slice_val (block_of d.at, count_of d.at) d.len ∷ [])
    (slice_val (block_of d.at, count_of d.at) (length d.words) ∷ [])
    (ap (λ (k : ℕ). slice_val (block_of d.at, count_of d.at) k ∷ []) d.sized) $ fjoin ! $ fjoin ! $ done !)))))
