-- `new` asks the allocator for the room of a chunk, and keeps the right to give it back.
use Rattle.std.proofs.Common.{◌≡◌, List, [], ◌∷◌, ◌++◌, refl, arith, lit<, Some, None}
use base.Fraction.{full_share}
use base.Logic.{SProp, emp, id⊢}
use base.Fml.{Lft, Share, ftrue, flft}
use mir.Syntax.{Fn, Args, a_type, dcons, dnil}
use mir.Val.{Val, vptr, vcons, vnil}
use mir.MapTy.{inst_fn}
use prog.Capped.{capped_is}
use prog.Wp.{Env, WpFn}
use contract.BorrowLft.{◌⊑◌, ⊑_trans}
use contract.Monad.{fact, fact_i}
use contract.Running.{tables}
use types.Kit.{‵, raw, ◌⊛◌, later, prop, at_ret, ◌$◌, ◌∵◌, !, qed, by, move, drop, use0, use1, use2, split, join, regoal, fsplit, fjoin, await}
use types.Part.{whole, agg}
use types.Match.{live, vrt, in_variant}
use types.Run.{stop, fld, lit, of_opd, no_more, and_then, first, switches_on, exec, returns, enter}
use types.ByLocal.{alloc_all, pass_all, free_all, look_at, get, get_in, get_tag, sets, sets_last, lands_as, env}
use denote.Array.{Array}
use denote.Builtin.{u64}
use denote.Memory.{part_at}
use denote.RattleType.{RattleType, owns}
use denote.RawPtr.{Ptr, block_ptr}
use denote.Param.{param, bounded}
use denote.Signature.{types_at, type_at}
use denote.Steps.{nothing, heard}
use denote.Struct.Tuple.{Tuple}
use denote.Triple.Entry.{alive}
use denote.Triple.Table.{framed}
use denote.Triple.Call.{calls_at}
use denote.Triple.Walked.{Stays, stay_dropped, walk_of, Goes-dropped}
use Rattle.std.proofs.alloc.Calls.{Al, seen, Takes, at_takes, Answered, Takes-goes, Takes-gives, answers}
use Rattle.std.proofs.alloc.Shapes.{after, head, arm_body}
use Rattle.std.proofs.option.Made.{Some-of, none_of}
use Rattle.std.proofs.raw_atomic.Walks.{proved_at, leaves}
use Rattle.judy_region.proofs.Rows.{none_yet, room_first}
use Rattle.judy_region.proofs.Values.{words_val, fields_own, fields_made, lease_val, lease_own, lease_made}
use Rattle.judy_region.proofs.Walks.{slot_at, then_runs, big, two_val, two_of}
use Rattle.judy_region.specs.Ownership.{whole as all, room_after}
use Rattle.judy_region.specs.contracts.words.Words as W
use Rattle.judy_region.specs.contracts.words.Lease as D
use Rattle.judy_region.specs.contracts.words.Words.new.{ended, clauses}
use Rattle.judy_region.specs.contracts.words.Words.new.Key.{name as #self}
use Rattle.judy_region.proofs.words.Words.new.Statement.{statement}
use Rattle.judy_region.proofs.words.Words.new.Code as code

pub new_spec : {M : Type 1} → statement M
new_spec 𝓤 𝓛 𝓜 𝓡 wired A L g d dd met md =
    let H = 𝓛.H in
    let T = ended A g d dd in
    let c = clauses A g d dd 𝓛 𝓜.mem 𝓡.returns in
    let args : Args = bounded (a_type ∷ []) (A, tt) (dcons d (dcons dd dnil)) in
    let fn : Fn = inst_fn args code.function in
    let stays : Stays T.signature.params T.kept = (stay_dropped (slot_at 0 T.signature.params) T.kept.0, tt) in
    let C = (tables 𝓤 H 𝓜 𝓡 𝓡.env).C in
    let Λ = (tables 𝓤 H 𝓜 𝓡 𝓡.env).Λ in
    proved_at 𝓛 T stays c 𝓜 𝓡 (Goes-dropped 𝓛 2 (slot_at 0 T.signature.params) T.kept.0 (λ κs x f. refl), tt) (#self args) fn
    (code.unfolded 𝓤 H 𝓜 𝓡 wired (A, tt) d dd) (λ z are.
    let Post : Val → SProp 𝓤 = (walk_of 𝓛 T stays c).post z in
    let a = z.0.3 in
    let Y : Al = record { row = A; laws = L; g = g; d = d; drops = dd } in
    let κ : Lft = z.0.0.0 in
    let q : Share = z.0.1.0 in
    let h = a.0.now in
    let at = a.0.ref_ptr in
    let y = at_takes Y 𝓛 𝓜.mem 𝓡.returns κ q at h 524288 8 all in
    let Row : RattleType = D.the_row (param 0 A) g in
    let Out : RattleType = type_at T.signature.result z.0.0 in
    let Pair : RattleType = Tuple (W.the_row ∷ Row ∷ []) in
    qed 𝓛 ((raw (alive 𝓛 T.signature z.0.0 z.0.1) ⊛ ‵ (owns (types_at T.signature.params z.0.0) a z.0.4))
    ∷ (raw (fact 𝓤 (z.0.0.1.0 ⊑ A.lives)) ⊛ ‵ ftrue) ∷ []) ∵
    move ! (1 ∷ []) $ split ! $ heard ! (z.0.0.1.0 ⊑ A.lives) (λ le. drop ! $ split ! $ move ! (1 ∷ []) $
    fsplit ! $ fsplit ! $ drop ! $ move ! (1 ∷ []) $ drop ! $ use1 𝓛 (‵ (seen Y κ at h)) (id⊢ 𝓤 _) $ move ! (1 ∷ []) $
    use1 𝓛 (‵ (flft κ q) ⊛ ‵ (flft z.0.0.1.0 z.0.1.1.0) ⊛ ‵ ftrue) (id⊢ 𝓤 _) $ split ! $ move ! (2 ∷ 0 ∷ []) $
    regoal ! (λ (us : List Val). prop (WpFn 𝓤 H C Λ fn us Post)) (λ i. are.0.0 i ++ []) refl $
    enter ! C Λ fn (vptr at.0 at.1 ∷ []) Post $
    alloc_all ! (λ l. pass_all ! refl ((tt, tt), tt) $ let En : Env 𝓤 𝓛.H = env fn.locals l in
    use2 𝓛 (raw ((Takes Y 𝓛 𝓜.mem 𝓡.returns).pre y))
    (Takes-goes Y 𝓛 𝓜.mem 𝓡.returns κ q at h (⊑_trans κ z.0.0.1.0 A.lives z.0.2.0 le) 524288 8 all
    (capped_is 524288 (omega arith)) refl (lit< tt) (lit< tt)) $
    calls_at ! (framed 𝓤 H 𝓜 (tables 𝓤 H 𝓜 𝓡 𝓡.env)) (Takes Y 𝓛 𝓜.mem 𝓡.returns) (met.allocate dd) y
    (and_then ! (get ! refl) (and_then ! (big ! (record { fits = lit< tt })) (and_then ! (lit ! tt) (no_more !)))) (λ v.
    use1 𝓛 (later (raw (Answered Y 𝓛 𝓜.mem 𝓡.returns h all v) ⊛ ‵ (flft κ q))) (Takes-gives Y 𝓛 𝓜.mem 𝓡.returns κ q at h 524288 8
    all v) $ await ! tt $ split ! $
    answers Y ! 𝓜.mem 𝓡.returns h all v
    (λ b o e. move ! (2 ∷ 3 ∷ []) $ join ! $ move ! (1 ∷ 2 ∷ []) $ lands_as ! e refl (tt, (record { fits = lit< tt }, (tt, tt))) $
    first ! $ switches_on ! (get_tag ! (vrt ! refl (fld ! refl (stop !))) (whole !)) $ exec ! C Λ En
    (arm_body 0 (head (after 1 fn.body))) (then_runs 𝓛 C Λ En (after 2 fn.body) (at_ret En Post)) $
    sets ! (of_opd ! (get_in ! (vrt ! refl (fld ! refl (stop !))) (in_variant ! 0 0 refl refl (whole !)))) refl (tt, tt) $
    sets ! (of_opd ! (get ! refl)) refl (tt, tt) $
    sets ! (agg ! (no_more !)) refl (tt, tt) $
    sets ! (agg ! (and_then ! (get ! refl) (and_then ! (lit ! tt) (no_more !)))) refl (tt, (tt, (record { fits = lit< tt }, tt))) $
    sets ! (agg ! (and_then ! (get ! refl) (no_more !))) refl (tt, (tt, tt)) $
    sets ! (agg ! (and_then ! (get ! refl) (and_then ! (get ! refl) (no_more !)))) refl (tt, ((tt, (record { fits = lit< tt }, tt)), ((tt, tt), tt))) $
    sets_last ! (agg ! (and_then ! (lit ! tt) (and_then ! (get ! refl) (no_more !)))) refl
    (tt, (record { fits = lit< tt }, (((tt, (record { fits = lit< tt }, tt)), ((tt, tt), tt)), tt))) $
    exec ! C Λ En (after 2 fn.body) (at_ret En Post) $
    sets ! (of_opd ! (get ! refl)) refl (tt, (record { fits = lit< tt }, (((tt, (record { fits = lit< tt }, tt)), ((tt, tt), tt)), tt))) $
    returns ! (look_at ! 0 refl) $ free_all ! refl $
    -- [the room; the token; the lifetimes]
    let p : Ptr = block_ptr b o in
    let x : (W.the_row).Denot = record { at = p; len = 0; words = []; sized = refl; within = omega arith } in
    let k : Row.Denot = record { marker = record {}; alloc = h; at = p } in
    let made : Val = two_val (words_val p 0) lease_val in
    use1 𝓛 (‵ (room_after p 0)) (room_first 𝓛 b o) $ use0 𝓛 (‵ (part_at (Array u64 0) full_share [] b o)) (none_yet 𝓛 b o) $ fjoin ! $
    use0 𝓛 (‵ (fields_own p 0 (words_val p 0 ∷ []))) (fields_made 𝓛 p 0 (lit< tt)) $ fjoin ! $
    move ! (1 ∷ []) $ use0 𝓛 (‵ (lease_own (lease_val ∷ []))) (lease_made 𝓛) $ fjoin ! $ move ! (1 ∷ 0 ∷ []) $
    use2 𝓛 (‵ (Pair.own_val (x, k) (made ∷ []))) (two_of 𝓛 W.the_row Row x k (words_val p 0) lease_val) $
    use1 𝓛 (‵ (Out.own_val (Some (x, k)) (live 1 (vcons made vnil) ∷ []))) (Some-of 𝓛 Pair (x, k) made) $
    use0 𝓛 (raw (fact 𝓤 ((x.words ≡ []) × (h ≡ h) × (p ≡ p)))) (fact_i 𝓤 ((x.words ≡ []) × (h ≡ h) × (p ≡ p)) (emp 𝓤) (refl, refl, refl)) $
    nothing ! $ nothing ! $ fjoin ! $ move ! (3 ∷ 0 ∷ 2 ∷ 1 ∷ []) $
    by ! (leaves 𝓛 T stays c z (live 1 (vcons made vnil)) (Some (x, k)) (tt, tt) (tt, tt)))
    (λ e. join ! $ lands_as ! e refl (tt, (record { fits = lit< tt }, (tt, tt))) $
    first ! $ switches_on ! (get_tag ! (vrt ! refl (fld ! refl (stop !))) (whole !)) $ exec ! C Λ En
    (arm_body 1 (head (after 1 fn.body))) (then_runs 𝓛 C Λ En (after 2 fn.body) (at_ret En Post)) $
    sets_last ! (agg ! (and_then ! (lit ! tt) (no_more !))) refl (tt, (record { fits = lit< tt }, tt)) $
    exec ! C Λ En (after 2 fn.body) (at_ret En Post) $
    sets ! (of_opd ! (get ! refl)) refl (tt, (record { fits = lit< tt }, tt)) $
    returns ! (look_at ! 0 refl) $ free_all ! refl $
    use0 𝓛 (‵ (Out.own_val None (live 0 vnil ∷ []))) (none_of 𝓛 Pair) $ use0 𝓛 (raw (fact 𝓤 (Unit {0}))) (fact_i 𝓤 (Unit {0}) (emp 𝓤) tt) $
    nothing ! $ nothing ! $ fjoin ! $ move ! (3 ∷ 0 ∷ 2 ∷ 1 ∷ []) $
    by ! (leaves 𝓛 T stays c z (live 0 vnil) None (tt, tt) (tt, tt)))))))
