use Rattle.std.proofs.Common.{◌≡◌, ℕ, ◌++◌, List, [], ◌∷◌, length, get_or, set, sym, ap, ◌∙◌, arith}
use Rattle.std.proofs.lemmas.List.{length-append}
use Rattle.std.proofs.Math.Seq.{get_or-append_seam, set-append_seam}
use Rattle.judy_region.specs.Flat.{zeros}
use Rattle.judy_region.proofs.grow_last.Goals as goal

-- the last item of a list becomes what is made of it
swapped : (cs rest : List (List ℕ)) (x zs : List ℕ) (q : ℕ) → cs ≡ rest ++ x ∷ [] → q ≡ length rest
    → rest ++ (x ++ zs) ∷ [] ≡ set cs q (get_or cs q [] ++ zs)
swapped cs rest x zs q e n =
    let y = get_or (rest ++ x ∷ []) (length rest) [] in
    ap (λ v. rest ++ (v ++ zs) ∷ []) (sym (get_or-append_seam rest x [] [])) ∙ sym (set-append_seam rest x [] (y ++ zs))
    ∙ ap (λ v. set v (length rest) (get_or v (length rest) [] ++ zs)) (sym e) ∙ ap (λ k. set cs k (get_or cs k [] ++ zs)) (sym n)

pub returns-clause-grown : goal.returns-clause-grown
returns-clause-grown c q last =
    let cs : List (List ℕ) = c.args.chunks.now.items in let rest : List (List ℕ) = c.take_last-last.new.self.items in
    let x : List ℕ = c.take_last-last.result in let e : cs ≡ rest ++ x ∷ [] = c.take_last-last.ensures.items in
    let n = length-append rest (x ∷ []) in let m = ap length e in
    c.push_reserved.ensures.items ∙ ap (λ v. rest ++ v ∷ []) c.grown.ensures
    ∙ swapped cs rest x (zeros 512) q e (omega (arith, last, n, m))
