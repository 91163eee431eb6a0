-- `push` writes the first word of the room that is left, and counts it.
use Rattle.std.proofs.Common.{◌≡◌, ℕ, suc, ◌+◌, ◌-◌, ◌*◌, ◌<◌, ◌^◌, List, [], ◌∷◌, ◌++◌, length, refl, sym, ap, subst, ◌∙◌, arith, w64}
use Rattle.std.proofs.lemmas.List.{length-append}
use Rattle.std.proofs.raw_atomic.Walks.{proved}
use seplogic.Ra.Ura.{Ura}
use base.Fraction.{full_share}
use base.Logic.{ent, sep, never, fst∗}
use base.Fml.{ftrue, fsep, feq, flft, froom}
use mir.Syntax.{named, ty_int, ty_array}
use mir.Val.{Val, vunit, vptr}
use prog.Wp.{Env}
use contract.Monad.{fact}
use contract.Running.{tables}
use types.Logic.{Logic, sem}
use types.Kit.{‵, raw, ◌⊛◌, at_ret, ◌$◌, ◌∵◌, !, qed, done, move, keep, drop, use0, use1, use2, split, join, fsplit, fsplit3}
use types.Kit.{fjoin, fjoin3, feq_i, rewrite, suffices, frame}
use types.Part.{whole, sub, look_in, store_in}
use types.Run.{enter, of_opd, lit, unit_lit, bin, load, init, stop, fld, assigns, assigns_last, first, blocks, exec, returns}
use types.ByLocal.{alloc_all, pass_all, free_all, look_at, get, through, sets, env}
use denote.Array.{Array}
use denote.ArrayMemory.{Array-apart, Array-whole}
use denote.Builtin.{u64}
use denote.Exit.{yes}
use denote.Laws.{shows}
use denote.Memory.{cell_at, part_at}
use denote.Plain.{uint_in, uint_vals, uint_Tells}
use denote.RattleType.{owns}
use denote.RawPtr.{Ptr, block_ptr, null_ptr, in_a_block}
use denote.Ref.{MutRef, mut_vals, mut_Tells}
use denote.Signature.{plain}
use denote.Steps.{nothing, opens, closes, peeks, heard}
use denote.Triple.Walked.{Stays, walk_of, says, stay_ref, stay_dropped, Goes-ref, Goes-dropped, ends_at}
use Rattle.std.proofs.VecSteps.Shapes.{after}
use Rattle.judy_region.specs.Ownership.{words_own, room_after}
use Rattle.judy_region.specs.contracts.words.Words.push as f
use Rattle.judy_region.specs.contracts.words.Words as C
use Rattle.judy_region.proofs.words.Words.push.Statement.{statement}
use Rattle.judy_region.proofs.words.Words.push.Code as code
use Rattle.judy_region.proofs.words.Words.TheLaws.{lowers}
use Rattle.judy_region.proofs.Rows.{Row, glue}
use Rattle.judy_region.proofs.Values.{words_val, fields_own, fields_made}

abbrev stayed : Stays f.ended.signature.params f.ended.kept
stayed = (stay_ref (0 ∷ []) tt (plain (λ _. C.the_row)), (stay_dropped (plain (λ _. u64)) yes, tt))

module _ {M : Type 1} {𝓤 : Ura M} (𝓛 : Logic 𝓤) (n b o : ℕ) where
  -- the room that is left is room for a word, and the rest
  one_less : n < 65536 → ent 𝓤 (sem 𝓛 (room_after (block_ptr b o) n)) (sep 𝓤 (sem 𝓛 (froom (ty_int w64) b (n * 8 + o)))
      (sem 𝓛 (room_after (block_ptr b o) (n + 1))))
  one_less l =
      let e : suc (65536 - (n + 1)) ≡ 65536 - n = omega (arith, l) in let at : n * 8 + o + 8 ≡ (n + 1) * 8 + o = omega arith in
      subst (λ (k : ℕ). ent 𝓤 (sem 𝓛 (froom (ty_array (ty_int w64) k) b (n * 8 + o)))
      (sep 𝓤 (sem 𝓛 (froom (ty_int w64) b (n * 8 + o))) (sem 𝓛 (room_after (block_ptr b o) (n + 1))))) e
      (subst (λ (k : ℕ). ent 𝓤 (sem 𝓛 (froom (ty_array (ty_int w64) (suc (65536 - (n + 1)))) b (n * 8 + o)))
      (sep 𝓤 (sem 𝓛 (froom (ty_int w64) b (n * 8 + o))) (sem 𝓛 (froom (ty_array (ty_int w64) (65536 - (n + 1))) b k)))) at
      (𝓛.laws.room_uncons (ty_int w64) (65536 - (n + 1)) b (n * 8 + o)))

pub push_spec : {M : Type 1} → statement M
push_spec 𝓤 𝓛 𝓜 𝓡 wired =
    let c = f.clauses 𝓛 𝓜.mem 𝓡.returns in let W = walk_of 𝓛 f.ended stayed c in let 𝓣 = tables 𝓤 𝓛.H 𝓜 𝓡 𝓡.env in
    proved 𝓛 f.ended stayed c 𝓜 𝓡 (Goes-ref 𝓛 1 0 tt (plain (λ _. C.the_row)), (Goes-dropped 𝓛 1 (plain (λ _. u64)) yes (λ κs x w. refl), tt))
    f.Key.name code.function (code.unfolded 𝓤 𝓛.H 𝓜 𝓡 wired)
    (λ κs. (mut_vals, (uint_vals w64, tt))) (λ κs. (mut_Tells (named 0) κs.0 C.the_row, (uint_Tells w64, tt))) (λ κs qs bounds a _ are.
    let rb = a.0.ref_ptr.0 in let ro = a.0.ref_ptr.1 in let d = a.0.now in let w = a.1.0 in
    let y : W.Ghost = ((κs, qs, bounds, a, (mut_vals a.0, (uint_vals w64 w, tt))), tt) in
    let Post = W.post y in let En : (ℕ → ℕ) → Env 𝓤 𝓛.H = λ l. env code.Mir.locals l in
    let ys : List ℕ = d.words ++ w ∷ [] in
    qed 𝓛 (((‵ (flft κs.0 qs.0) ⊛ ‵ ftrue) ⊛ ‵ (owns (MutRef (named 0) κs.0 C.the_row ∷ u64 ∷ []) a y.0.4)) ∷ raw (fact 𝓤 (length d.words < 65536)) ∷ []) ∵
    move ! (1 ∷ []) $ heard ! _ (λ few. split ! $ split ! $ move ! (2 ∷ []) $ fsplit ! $ keep ! (0 ∷ 2 ∷ []) $
    let below : d.len < 65536 = omega (arith, d.sized, few) in
    let far : d.len * 8 < 2 ^ 64 = omega (arith, below) in let flen : d.len < 2 ^ 64 = omega (arith, below) in
    let more : d.len + 1 < 2 ^ 64 = omega (arith, below) in
    let longer : d.len + 1 ≡ length ys = omega (arith, length-append d.words (w ∷ []), d.sized) in
    let new : C.the_row.Denot = record d { len = d.len + 1; words = ys; sized = longer; within = omega (arith, below) } in
    enter ! _ _ _ _ _ $ alloc_all ! (λ l. pass_all ! refl ((tt, tt), ((tt, record { fits = are.1.0.1 }), tt)) $
    fsplit3 ! $ move ! (1 ∷ 2 ∷ 3 ∷ []) $ opens ! tt C.the_row {h = d} rb ro (λ us.
    move ! (1 ∷ []) $ peeks ! C.the_row _ (shows 𝓛 C.the_row) d us (λ is. fsplit ! $ move ! (1 ∷ []) $
    in_a_block ! d.at (λ p. words_own p d.len d.words) (fst∗ 𝓤 (never 𝓤) (sem 𝓛 (room_after null_ptr d.len))) (λ b o e.
    fsplit ! $ use1 𝓛 (‵ (fsep (feq ℕ (length d.words) d.len) (Row 𝓛 b d.words o))) (Array-apart 𝓛 u64 full_share tt d.len d.words b o) $ fsplit ! $ drop ! $
    let word = lowers.val_is d us is ∙ ap (λ (p : Ptr). lowers.lowered (record d { at = p }) ∷ []) e in
    let Cell = λ (zs : List Val). ‵ (cell_at full_share C.the_row.mir zs rb ro) in
    rewrite ! 3 Cell word refl $
    -- [the words; the room after them; what the fields own; the struct's cell; the open borrow, in
    -- three entries]
    first ! $ blocks ! $
    sets ! (of_opd ! (load ! (through ! refl (fld ! refl (stop !))) (look_in ! 3 (sub ! 0 refl (whole !))))) refl (tt, tt) $
    sets ! (of_opd ! (load ! (through ! refl (fld ! refl (stop !))) (look_in ! 3 (sub ! 1 refl (whole !))))) refl (tt, record { fits = flen }) $
    sets ! (bin ! (get ! refl) (lit ! tt) (record { fits = far })) refl (tt, record { fits = far }) $
    sets ! (bin ! (get ! refl) (get ! refl) tt) refl (tt, tt) $
    move ! (1 ∷ []) $ use1 𝓛 (‵ (froom (ty_int w64) b (d.len * 8 + o)) ⊛ ‵ (room_after (block_ptr b o) (d.len + 1))) (one_less 𝓛 d.len b o below) $ split ! $
    assigns_last ! (of_opd ! (get ! refl)) (through ! refl (stop !)) (init ! 0 refl (tt, record { fits = are.1.0.1 })) $
    exec ! 𝓣.C 𝓣.Λ (En l) (after 1 (code.function).body) (at_ret (En l) Post) $
    -- [the new word; the room; the words; what the fields own; the struct's cell; the open borrow,
    -- in three entries]
    sets ! (of_opd ! (load ! (through ! refl (fld ! refl (stop !))) (look_in ! 4 (sub ! 1 refl (whole !))))) refl (tt, record { fits = flen }) $
    sets ! (bin ! (get ! refl) (lit ! tt) (record { fits = more })) refl (tt, record { fits = more }) $
    assigns ! (of_opd ! (get ! refl)) (through ! refl (fld ! refl (stop !))) (store_in ! 4 (sub ! 1 refl (whole !)) (tt, record { fits = more })) $
    sets ! (of_opd ! (unit_lit !)) refl (tt, tt) $
    use1 𝓛 (‵ (part_at u64 full_share w b (d.len * 8 + o))) (uint_in 𝓛 full_share w64 w b (d.len * 8 + o)) $
    nothing ! $ move ! (1 ∷ 0 ∷ []) $ fjoin ! $ move ! (2 ∷ 0 ∷ []) $
    use2 𝓛 (‵ (Row 𝓛 b ys o)) (glue 𝓛 b d.words (w ∷ []) o (d.len * 8 + o) (ap (λ k. k * 8 + o) d.sized)) $
    feq_i ! ℕ (length ys) (d.len + 1) (sym longer) $ fjoin ! $ use1 𝓛 (‵ (part_at (Array u64 (d.len + 1)) full_share ys b o))
    (Array-whole 𝓛 u64 full_share (d.len + 1) ys b o) $
    fjoin ! $ rewrite ! 0 (λ (p : Ptr). ‵ (words_own p (d.len + 1) ys)) (sym e) refl $
    -- [the memory; what the fields owned; the struct's cell; the open borrow, in three entries]
    rewrite ! 2 (λ (p : Ptr). Cell (words_val p (d.len + 1) ∷ [])) (sym e) refl $ move ! (1 ∷ []) $ drop ! $
    use0 𝓛 (‵ (fields_own d.at (d.len + 1) (words_val d.at (d.len + 1) ∷ []))) (fields_made 𝓛 d.at (d.len + 1) more) $ fjoin ! $
    move ! (1 ∷ []) $ closes ! tt C.the_row new (words_val d.at (d.len + 1) ∷ []) rb ro $
    returns ! (look_at ! 0 refl) $ free_all ! refl $ keep ! (0 ∷ 1 ∷ 2 ∷ []) $
    suffices ! _ (ends_at 𝓛 f.ended stayed c y vunit tt (new, (tt, tt)) (tt, (tt, tt))) $ says ! (refl, refl) $
    nothing ! $ move ! (3 ∷ 0 ∷ []) $ join ! $ frame ! $ feq_i ! (List Val) (vptr rb ro ∷ []) (vptr rb ro ∷ []) refl $ fjoin3 ! $
    nothing ! $ nothing ! $ fjoin ! $ move ! (1 ∷ 0 ∷ []) $ fjoin ! $
    feq_i ! (List Val) (vunit ∷ []) (vunit ∷ []) refl $ move ! (1 ∷ 0 ∷ []) $ done !))))))
