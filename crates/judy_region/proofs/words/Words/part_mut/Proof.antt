-- `part_mut` lends a run of the words, and the memory follows it.
use Rattle.std.proofs.Common.{◌≡◌, ℕ, ◌+◌, ◌-◌, ◌*◌, ◌<◌, ◌≤◌, ◌^◌, List, [], ◌∷◌, ◌++◌, length, take, drop as rest_of, refl}
use Rattle.std.proofs.Common.{sym, ap, subst, ◌∙◌, arith, w64, MutBor}
use Rattle.std.proofs.lemmas.List.{length-take, length-drop}
use Rattle.std.proofs.raw_atomic.Walks.{proved}
use seplogic.Ra.Ura.{Ura}
use base.Fraction.{full_share}
use base.Logic.{ent, sep, never, fst∗}
use base.Fml.{GName, Fml, ftrue, fsep, feq, flft}
use mir.Syntax.{named}
use mir.Val.{Val}
use prog.Wp.{Env}
use contract.Monad.{fact}
use contract.Running.{tables}
use types.Logic.{Logic, sem}
use types.Kit.{‵, raw, ◌⊛◌, some, later, await, pick, at_ret, ◌$◌, ◌∵◌, !, qed, by, done, move, keep, drop, use1, use2, split}
use types.Kit.{join, group, fsplit, fsplit3, fjoin, fjoin3, fpack, feq_i, rewrite, suffices, frame}
use types.Part.{whole, sub, look_in, agg}
use types.Run.{enter, of_opd, lit, bin, load, stop, fld, and_then, no_more, first, blocks, exec, returns}
use types.ByLocal.{alloc_all, pass_all, free_all, look_at, get, through, sets, sets_last, env}
use types.SemTy.{cells}
use denote.Array.{Array}
use denote.ArrayMemory.{Array-apart, Array-whole}
use denote.Builtin.{u64, usize}
use denote.Exit.{no, yes}
use denote.Follow.{follows}
use denote.FollowSlice.{Elements, lends_Elements}
use denote.Index.{whole_in, whole_out}
use denote.Laws.{shows}
use denote.Memory.{mem, cell_at, part_at, part_of}
use denote.Plain.{uint_vals, uint_Tells}
use denote.RattleType.{owns}
use denote.RawPtr.{Ptr, block_ptr, null_ptr, in_a_block}
use denote.Ref.{MutRef, mut_vals, mut_Tells}
use denote.Signature.{plain, mut_ref_to}
use denote.Slice.{MutSlice, slice_val}
use denote.Steps.{nothing, opens, peeks, heard}
use denote.Triple.Walked.{Stays, walk_of, says, stay_dropped, Goes-dropped, Goes-spent_ref, ends_at}
use Rattle.std.proofs.VecSteps.Shapes.{after}
use Rattle.judy_region.specs.Ownership.{words_own, room_after}
use Rattle.judy_region.specs.Parts.{with_part}
use Rattle.judy_region.specs.LendingWords.{words_with}
use Rattle.judy_region.specs.contracts.words.Words.part_mut as f
use Rattle.judy_region.specs.contracts.words.Words as C
use Rattle.judy_region.proofs.words.Words.part_mut.Statement.{statement}
use Rattle.judy_region.proofs.words.Words.part_mut.Code as code
use Rattle.judy_region.proofs.words.Words.TheLaws.{lowers}
use Rattle.judy_region.proofs.lemmas.Parts.{with_part_is}
use Rattle.judy_region.proofs.Rows.{Row, Around, run_out, run_in}
use Rattle.judy_region.proofs.Values.{Fields}

abbrev stayed : Stays f.ended.signature.params f.ended.kept
stayed = (
  stay_dropped (mut_ref_to (0 ∷ []) tt (plain (λ _. C.the_row))) no,
  (stay_dropped (plain (λ _. usize)) yes, (stay_dropped (plain (λ _. usize)) yes, tt)),
)

module _ {M : Type 1} {𝓤 : Ura M} (𝓛 : Logic 𝓤) (rb ro : ℕ) (d : C.the_row.Denot) (start len : ℕ) (us : List Val) (b o : ℕ) where
  abbrev run : List ℕ
  run = take len (rest_of start d.words)

  -- all but the run
  abbrev Rest : Fml
  Rest = fsep (Around 𝓛 b o d.words start len)
      (fsep (room_after (block_ptr b o) d.len)
      (fsep (Fields.own_val (d.at, (d.len, tt)) us) (cell_at full_share C.the_row.mir us rb ro)))

  back : d.at ≡ block_ptr b o → start + len ≤ length d.words → (ws : List ℕ) → length ws ≡ length run
      → ent 𝓤 (sep 𝓤 (sem 𝓛 (cells (mem u64) ws b (start * 8 + o))) (sem 𝓛 Rest)) (sem 𝓛 ((mem C.the_row).own_at (words_with d start len ws) rb ro))
  unfolding part_of
  back e within ws same =
      let many : length ws ≡ len = omega (arith, same, length-take len (rest_of start d.words), length-drop start d.words, within) in
      let new : List ℕ = with_part d.words start len ws in
      let is : with_part d.words start len ws ≡ take start d.words ++ (ws ++ rest_of (start + len) d.words) = with_part_is d.words start len ws within many in
      qed 𝓛 (‵ (cells (mem u64) ws b (start * 8 + o)) ∷ ‵ Rest ∷ []) ∵ use1 𝓛 (‵ (Row 𝓛 b ws (start * 8 + o))) (whole_out 𝓛 u64 ws b (start * 8 + o)) $
      move ! (1 ∷ []) $ fsplit ! $ move ! (2 ∷ 0 ∷ []) $
      use2 𝓛 (‵ (Row 𝓛 b (take start d.words ++ (ws ++ rest_of (start + len) d.words)) o)) (run_in 𝓛 b o d.words start len within ws (sym many)) $
      rewrite ! 0 (λ (l : List ℕ). ‵ (Row 𝓛 b l o)) (sym is) refl $
      feq_i ! ℕ (length new) d.len (sym (words_with d start len ws).sized) $ fjoin ! $
      use1 𝓛 (‵ (part_at (Array u64 d.len) full_share new b o)) (Array-whole 𝓛 u64 full_share d.len new b o) $
      move ! (1 ∷ []) $ fsplit3 ! $ move ! (3 ∷ 0 ∷ []) $ fjoin ! $
      rewrite ! 0 (λ (p : Ptr). ‵ (words_own p d.len new)) (sym e) refl $ move ! (1 ∷ 0 ∷ []) $ fjoin ! $ move ! (1 ∷ 0 ∷ []) $ fjoin ! $
      fpack ! (List Val) (λ vs. fsep (cell_at full_share C.the_row.mir vs rb ro) (C.the_row.own_val (words_with d start len ws) vs)) us $ done !

pub part_mut_spec : {M : Type 1} → statement M
part_mut_spec 𝓤 𝓛 𝓜 𝓡 wired =
    let c = f.clauses 𝓛 𝓜.mem 𝓡.returns in let W = walk_of 𝓛 f.ended stayed c in let 𝓣 = tables 𝓤 𝓛.H 𝓜 𝓡 𝓡.env in
    proved 𝓛 f.ended stayed c 𝓜 𝓡 (
      Goes-spent_ref 𝓛 1 (0 ∷ []) tt (plain (λ _. C.the_row)),
      (Goes-dropped 𝓛 1 (plain (λ _. usize)) yes (λ κs x w. refl), (Goes-dropped 𝓛 1 (plain (λ _. usize)) yes (λ κs x w. refl), tt)),
    )
    f.Key.name code.function (code.unfolded 𝓤 𝓛.H 𝓜 𝓡 wired)
    (λ κs. (mut_vals, (uint_vals w64, (uint_vals w64, tt))))
    (λ κs. (mut_Tells (named 0) κs.0 C.the_row, (uint_Tells w64, (uint_Tells w64, tt)))) (λ κs qs bounds a _ are.
    let κ = κs.0 in let q = qs.0 in let γ = a.0.ghost_name in
    let rb = a.0.ref_ptr.0 in let ro = a.0.ref_ptr.1 in let d = a.0.now in let start = a.1.0 in let len = a.1.1.0 in
    let y : W.Ghost = ((κs, qs, bounds, a, (mut_vals a.0, (uint_vals w64 start, (uint_vals w64 len, tt)))), tt) in
    let Post = W.post y in let En : (ℕ → ℕ) → Env 𝓤 𝓛.H = λ l. env code.Mir.locals l in
    qed 𝓛 (((‵ (flft κ q) ⊛ ‵ ftrue) ⊛ ‵ (owns (MutRef (named 0) κ C.the_row ∷ usize ∷ usize ∷ []) a y.0.4)) ∷ raw
    (fact 𝓤 (start + len ≤ length d.words)) ∷ []) ∵
    move ! (1 ∷ []) $ heard ! _ (λ within. split ! $ split ! $ move ! (2 ∷ []) $ fsplit ! $ keep ! (0 ∷ 2 ∷ []) $
    let far : start * 8 < 2 ^ 64 = omega (arith, d.within, d.sized, within) in
    let long : length (take len (rest_of start d.words)) ≡ len = omega (arith, length-take len (rest_of start d.words), length-drop start d.words, within) in
    let small : len ≤ 65536 = omega (arith, d.within, d.sized, within) in
    enter ! _ _ _ _ _ $ alloc_all ! (λ l. pass_all ! refl ((tt, tt), ((tt, record { fits = are.1.0.1 }), ((tt, record { fits = are.1.1.0.1 }), tt))) $
    fsplit3 ! $ move ! (1 ∷ 2 ∷ 3 ∷ []) $ opens ! tt C.the_row {h = d} rb ro (λ us.
    move ! (1 ∷ []) $ peeks ! C.the_row _ (shows 𝓛 C.the_row) d us (λ is. fsplit ! $ move ! (1 ∷ []) $
    in_a_block ! d.at (λ p. words_own p d.len d.words) (fst∗ 𝓤 (never 𝓤) (sem 𝓛 (room_after null_ptr d.len))) (λ b o e.
    fsplit ! $ use1 𝓛 (‵ (fsep (feq ℕ (length d.words) d.len) (Row 𝓛 b d.words o))) (Array-apart 𝓛 u64 full_share tt d.len d.words b o) $ fsplit ! $ drop ! $
    let word = lowers.val_is d us is ∙ ap (λ (p : Ptr). lowers.lowered (record d { at = p }) ∷ []) e in
    let Cell = λ (zs : List Val). ‵ (cell_at full_share C.the_row.mir zs rb ro) in
    -- [the words; the room after them; what the fields own; the struct's cell; the open borrow, in
    -- three entries]
    rewrite ! 3 Cell word refl $
    first ! $ blocks ! $
    sets ! (of_opd ! (load ! (through ! refl (fld ! refl (stop !))) (look_in ! 3 (sub ! 0 refl (whole !))))) refl (tt, tt) $
    sets ! (bin ! (get ! refl) (lit ! tt) (record { fits = far })) refl (tt, record { fits = far }) $
    sets ! (bin ! (get ! refl) (get ! refl) tt) refl (tt, tt) $
    sets_last ! (agg ! (and_then ! (get ! refl) (and_then ! (get ! refl) (no_more !)))) refl (tt, (tt, (record { fits = are.1.1.0.1 }, tt))) $
    exec ! 𝓣.C 𝓣.Λ (En l) (after 1 (code.function).body) (at_ret (En l) Post) $ sets ! (of_opd ! (get ! refl)) refl
    (tt, (tt, (record { fits = are.1.1.0.1 }, tt))) $
    rewrite ! 3 Cell (sym word) refl $
    let xs : List ℕ = take len (rest_of start d.words) in let at : ℕ = start * 8 + o in
    let roomy : length xs < 2 ^ 64 = omega (arith, long, small) in let fitting : length xs * 8 < 2 ^ 63 = omega (arith, long, small) in
    use1 𝓛 (‵ (Row 𝓛 b xs at) ⊛ ‵ (Around 𝓛 b o d.words start len)) (run_out 𝓛 b o d.words start len within) $ split ! $
    use1 𝓛 (‵ (cells (mem u64) xs b at)) (whole_in 𝓛 u64 xs b at) $
    move ! (2 ∷ 3 ∷ 4 ∷ []) $ fjoin3 ! $ move ! (2 ∷ 0 ∷ []) $ fjoin ! $ move ! (2 ∷ 3 ∷ 4 ∷ 1 ∷ 0 ∷ []) $ group ! 5 $
    let New = words_with d start len in let way = back 𝓛 rb ro d start len us b o e within in
    let Lent = λ (δ : GName). Elements 𝓛 C.the_row u64 New (named 0) κ q rb ro b at γ xs (roomy, fitting) (sem 𝓛 (Rest 𝓛 rb ro d start len us b o)) way δ in
    use1 𝓛 (later (some (λ (δ : GName). raw (Lent δ))))
    (lends_Elements 𝓛 C.the_row u64 New (named 0) κ q rb ro b at γ xs (roomy, fitting) (sem 𝓛 (Rest 𝓛 rb ro d start len us b o))
    way (C.the_row.coded.code d) (C.the_row.coded.code d)) $ await ! tt $ pick ! (λ δ.
    let r : MutBor (List ℕ) = record { ref_ptr = (b, at); ghost_name = δ; now = xs } in
    returns ! (look_at ! 0 refl) $ free_all ! refl $ keep ! (0 ∷ []) $
    by ! (subst (λ (k : ℕ). ent 𝓤 (Lent δ) (Post (slice_val (b, at) k))) long
    (qed 𝓛 (‵ ((MutSlice (named 0) κ u64).own_val r (slice_val (b, at) (length xs) ∷ [])) ∷ ‵ (flft κ q) ∷ ‵ (follows C.the_row (Array u64 0) γ δ New) ∷ []) ∵
    suffices ! _ (ends_at 𝓛 f.ended stayed c y (slice_val (b, at) (length xs)) r (tt, (tt, (tt, tt))) (tt, (tt, (tt, tt)))) $
    nothing ! $ nothing ! $ fjoin ! $ nothing ! $ fjoin ! $ nothing ! $ fjoin ! $ join ! $ nothing ! $ move ! (2 ∷ 0 ∷ []) $ join ! $ join ! $ frame ! $
    says ! (let m : len ≡ start + len - start = omega arith in ap (λ k. take k (rest_of start d.words)) m) $ done !)))))))))
