-- `set` opens the memory, takes the word's cell out of its words, writes it and puts it back.
use Rattle.std.proofs.Common.{ℕ, ◌*◌, ◌<◌, ◌^◌, List, [], ◌∷◌, length, get_or, set, refl, sym, ap, ◌∙◌, arith, w64, length-set}
use Rattle.std.proofs.raw_atomic.Walks.{proved}
use base.Fraction.{full_share}
use base.Logic.{never, fst∗}
use base.Fml.{ftrue, flft}
use mir.Syntax.{named}
use mir.Val.{Val, vunit, vptr}
use contract.Monad.{fact}
use contract.Running.{tables}
use types.Logic.{sem}
use types.Kit.{‵, raw, ◌⊛◌, at_ret, ◌$◌, ◌∵◌, !, qed, done, move, keep, use1, use2, split, join, fsplit, fsplit3, fjoin}
use types.Kit.{fjoin3, feq_i, rewrite, suffices, frame}
use types.Part.{whole, sub, look_in}
use types.Run.{enter, of_opd, lit, unit_lit, bin, load, store, stop, fld, assigns_last, first, blocks, exec, returns}
use types.ByLocal.{alloc_all, pass_all, free_all, look_at, get, through, sets, env}
use denote.Builtin.{u64, usize}
use denote.Exit.{yes}
use denote.Laws.{shows}
use denote.Memory.{cell_at}
use denote.Plain.{uint_vals, uint_Tells}
use denote.RattleType.{owns}
use denote.RawPtr.{Ptr, null_ptr, in_a_block}
use denote.Ref.{MutRef, mut_vals, mut_Tells}
use denote.Signature.{plain}
use denote.Steps.{nothing, opens, closes, peeks, heard}
use denote.Triple.Walked.{Stays, walk_of, says, stay_ref, stay_dropped, Goes-ref, Goes-dropped, ends_at}
use Rattle.std.proofs.VecSteps.Shapes.{after}
use Rattle.judy_region.specs.Ownership.{words_own, room_after}
use Rattle.judy_region.specs.contracts.words.Words.set as f
use Rattle.judy_region.proofs.words.Words.set.Statement.{statement}
use Rattle.judy_region.proofs.words.Words.set.Code as code
use Rattle.judy_region.specs.contracts.words.Words.{the_row as R}
use Rattle.judy_region.proofs.words.Words.TheLaws.{lowers}
use Rattle.judy_region.proofs.Cells.{rest, cell, words_at, word_out, word_in}

abbrev stayed : Stays f.ended.signature.params f.ended.kept
stayed = (stay_ref (0 ∷ []) tt (plain (λ _. R)), (stay_dropped (plain (λ _. usize)) yes, (stay_dropped (plain (λ _. u64)) yes, tt)))

pub set_spec : {M : Type 1} → statement M
set_spec 𝓤 𝓛 𝓜 𝓡 wired =
    let c = f.clauses 𝓛 𝓜.mem 𝓡.returns in let W = walk_of 𝓛 f.ended stayed c in let 𝓣 = tables 𝓤 𝓛.H 𝓜 𝓡 𝓡.env in
    proved 𝓛 f.ended stayed c 𝓜 𝓡 (
      Goes-ref 𝓛 1 0 tt (plain (λ _. R)),
      (
        Goes-dropped 𝓛 1 (plain (λ _. usize)) yes (λ κs x w. refl),
        (Goes-dropped 𝓛 1 (plain (λ _. u64)) yes (λ κs x w. refl), tt),
      ),
    )
    f.Key.name code.function (code.unfolded 𝓤 𝓛.H 𝓜 𝓡 wired)
    (λ κs. (mut_vals, (uint_vals w64, (uint_vals w64, tt))))
    (λ κs. (mut_Tells (named 0) κs.0 R, (uint_Tells w64, (uint_Tells w64, tt)))) (λ κs qs bounds a _ are.
    let b = a.0.ref_ptr.0 in let o = a.0.ref_ptr.1 in let h = a.0.now in let vs = mut_vals a.0 in let i = a.1.0 in let w = a.1.1.0 in
    let y : W.Ghost = ((κs, qs, bounds, a, (vs, (uint_vals w64 i, (uint_vals w64 w, tt)))), tt) in
    let ys : List ℕ = set h.words i w in
    qed 𝓛 (((‵ (flft κs.0 qs.0) ⊛ ‵ ftrue) ⊛ ‵ (owns (MutRef (named 0) κs.0 R ∷ usize ∷ u64 ∷ []) a y.0.4)) ∷ raw (fact 𝓤 (i < length h.words)) ∷ []) ∵
    move ! (1 ∷ []) $ heard ! _ (λ inside. split ! $ split ! $ move ! (2 ∷ []) $ fsplit ! $ keep ! (0 ∷ 2 ∷ []) $
    let offset : i * 8 < 2 ^ 64 = omega (arith, h.within, h.sized, inside) in
    enter ! _ _ _ _ _ $ alloc_all ! (λ l. pass_all ! refl ((tt, tt), ((tt, record { fits = are.1.0.1 }), ((tt, record { fits = are.1.1.0.1 }), tt))) $
    fsplit3 ! $ move ! (1 ∷ 2 ∷ 3 ∷ []) $ opens ! tt R b o (λ us.
    move ! (1 ∷ []) $ peeks ! R _ (shows 𝓛 R) h us (λ is. fsplit ! $ move ! (1 ∷ []) $
    in_a_block ! h.at (λ p. words_own p h.len h.words) (fst∗ 𝓤 (never 𝓤) (sem 𝓛 (room_after null_ptr h.len))) (λ b' o' e.
    fsplit ! $ use1 𝓛 (‵ (cell 𝓛 h.len b' o' h.words i (get_or h.words i 0)) ⊛ ‵ (rest 𝓛 h.len b' o' h.words i))
    (word_out 𝓛 h.len b' o' h.words i inside) $ split ! $
    let word = lowers.val_is h us is ∙ ap (λ (p : Ptr). lowers.lowered (record h { at = p }) ∷ []) e in
    let Cell = λ (zs : List Val). ‵ (cell_at full_share R.mir zs b o) in
    rewrite ! 4 Cell word refl $
    -- [the cell; the other words; the token; what the fields own; the struct's cell; the open
    -- borrow, in three entries]
    first ! $ blocks ! $
    sets ! (of_opd ! (load ! (through ! refl (fld ! refl (stop !))) (look_in ! 4 (sub ! 0 refl (whole !))))) refl (tt, tt) $
    sets ! (bin ! (get ! refl) (lit ! tt) (record { fits = offset })) refl (tt, record { fits = offset }) $
    sets ! (bin ! (get ! refl) (get ! refl) tt) refl (tt, tt) $
    assigns_last ! (of_opd ! (get ! refl)) (through ! refl (stop !)) (store ! 0 refl (tt, record { fits = are.1.1.0.1 })) $
    exec ! 𝓣.C 𝓣.Λ (env code.Mir.locals l) (after 1 (code.function).body) (at_ret _ (W.post y)) $
    sets ! (of_opd ! (unit_lit !)) refl (tt, tt) $
    use2 𝓛 (‵ (words_at 𝓛 h.len b' o' h.words i ys)) (word_in 𝓛 h.len b' o' h.words i w h.sized inside) $
    fjoin ! $ rewrite ! 0 (λ (p : Ptr). ‵ (words_own p h.len ys)) (sym e) refl $ rewrite ! 2 Cell (sym word) refl $
    move ! (1 ∷ []) $ fjoin ! $ move ! (1 ∷ []) $ closes ! tt R (record h { words = ys; sized = h.sized ∙ sym (length-set h.words i w) }) us b o $
    returns ! (look_at ! 0 refl) $ free_all ! refl $ keep ! (0 ∷ 1 ∷ 2 ∷ []) $
    suffices ! _ (ends_at 𝓛 f.ended stayed c y vunit tt (
      record h { words = ys; sized = h.sized ∙ sym (length-set h.words i w) },
      (tt, (tt, tt)),
    ) (tt, (tt, (tt, tt)))) $ says ! (refl, refl) $
    nothing ! $ move ! (3 ∷ 0 ∷ []) $ join ! $ frame ! $ feq_i ! (List Val) (vptr b o ∷ []) (vptr b o ∷ []) refl $ fjoin3 ! $
    nothing ! $ nothing ! $ fjoin ! $ nothing ! $ fjoin ! $ move ! (1 ∷ 0 ∷ []) $ fjoin ! $
    feq_i ! (List Val) (vunit ∷ []) (vunit ∷ []) refl $ move ! (1 ∷ 0 ∷ []) $ done !))))))
