-- What the region's calls know of its chunks.
use Rattle.std.proofs.Common.{◌≡◌, ℕ, suc, refl, append-nil, Result, Ok, Err, OnOk, OnErr, IfErr, ◌*◌, ◌+◌, ◌/◌, ◌%◌, ◌<◌, ◌≤◌}
use Rattle.std.proofs.Common.{List, [], ◌∷◌, ◌++◌, length, get_or, set, take, drop, sym, ap, subst, ◌∙◌, arith, lit<}
use Rattle.std.proofs.Common.{length-set, length-drop}
use Rattle.std.proofs.lemmas.List.{length-append}
use Rattle.std.proofs.lemmas.List.Edits.{length-paste}
use Rattle.std.specs.List.{refill, length_refill}
use lib.Seq.{paste}
use Rattle.judy_region.specs.Parts.{with_part}
use Rattle.judy_region.proofs.lemmas.Parts.{part_long, with_part_paste}
use Rattle.judy_region.specs.Flat.{flat_by, IsChunkRow, IsRuns, AreRuns, IsInOne, zeros}
use Rattle.judy_region.proofs.lemmas.Flat.{Lies, found, place-get, place-set, part, place-part, place-paste, row-set, runs-set}
use Rattle.judy_region.proofs.lemmas.Flat.{runs-at, row-last, flat-last, row-push, runs-push, flat-push, length-zeros}
use Rattle.judy_region.proofs.lemmas.Flat.{short-at}

abbrev pub Chunks : Type 0
Chunks = List (List ℕ)

abbrev pub flat : Chunks → List ℕ
flat cs = flat_by (λ v. v) cs

abbrev pub AreSound : Chunks → Type 0
AreSound cs = IsChunkRow (λ v. length v) 65536 cs × AreRuns (λ v. length v) cs × (length cs ≤ 262144)

module _ (cs : Chunks) (ws : List ℕ) (p : ℕ) (sound : AreSound cs) (seen : flat cs ≡ ws) where
  pub there : (d : List ℕ) → p < length ws → Lies (λ v. v) 65536 cs (p / 65536) (p % 65536) d
  there d l = found (λ v. v) 65536 (lit< tt) cs p sound.0 d (rw seen l)

  pub word : (d : List ℕ) → p < length ws → get_or (get_or cs (p / 65536) d) (p % 65536) 0 ≡ get_or ws p 0
  word d l = sym (place-get (λ v. v) 65536 (lit< tt) cs p sound.0 d (rw seen l)) ∙ ap (λ v. get_or v p 0) seen

  -- what a write leaves
  pub record Wrote (y new : List ℕ) : Type 0 where
    pub after : AreSound (set cs (p / 65536) y)
    pub view : flat (set cs (p / 65536) y) ≡ new
    pub count : length (set cs (p / 65536) y) ≡ length cs

  -- a chunk that keeps its size
  kept : (d y : List ℕ) → p / 65536 < length cs → length y ≡ length (get_or cs (p / 65536) d) → AreSound (set cs (p / 65536) y)
  kept d y l e =
      let s = sound.2 in let t = length-set cs (p / 65536) y in
      let r = runs-at (λ v. v) 65536 cs (p / 65536) d sound.1 l in
      (row-set (λ v. v) 65536 cs (p / 65536) d y sound.0 e, runs-set (λ v. v) 65536 cs (p / 65536) d y sound.1 l (subst IsRuns (sym e) r), omega (arith, s, t))

  pub wrote-word : (w : ℕ) (d y : List ℕ) → p < length ws → y ≡ set (get_or cs (p / 65536) d) (p % 65536) w → Wrote y (set ws p w)
  wrote-word w d y l e = record {
    after = kept d y (there d l).chunk (ap length e ∙ length-set (get_or cs (p / 65536) d) (p % 65536) w);
    view = place-set (λ v. v) 65536 (lit< tt) cs p sound.0 w d y (rw seen l) e ∙ ap (λ v. set v p w) seen;
    count = length-set cs (p / 65536) y;
  }

  module _ (k : ℕ) (one : IsInOne ws p k) where
    pub record InChunk (d : List ℕ) : Type 0 where
      pub chunk : p / 65536 < length cs
      pub ends : p % 65536 + k ≤ length (get_or cs (p / 65536) d)

    pub in_chunk : (d : List ℕ) → InChunk d
    in_chunk d = let t = part (λ v. v) 65536 (lit< tt) cs p sound.0 k d one.some (rw seen one.there) one.one in record { chunk = t.0; ends = t.1 }

    pub part_of : (d : List ℕ) → take k (drop (p % 65536) (get_or cs (p / 65536) d)) ≡ take k (drop p ws)
    part_of d = sym (place-part (λ v. v) 65536 (lit< tt) cs p sound.0 k d (in_chunk d).chunk (in_chunk d).ends) ∙ ap (λ v. take k (drop p v)) seen

    pub wrote : (s : List ℕ) (d y : List ℕ) → k ≤ length s → y ≡ paste (get_or cs (p / 65536) d) (p % 65536) s k → Wrote y (paste ws p s k)
    wrote s d y enough e = record {
      after = kept d y (in_chunk d).chunk (ap length e ∙ length-paste (get_or cs (p / 65536) d) (p % 65536) s k (in_chunk d).ends enough);
      view = place-paste (λ v. v) 65536 (lit< tt) cs p sound.0 k s d y (in_chunk d).chunk (in_chunk d).ends e ∙ ap (λ v. paste v p s k) seen;
      count = length-set cs (p / 65536) y;
    }

    -- a part was lent, and these words were left behind
    pub lent : (v : List ℕ) (d y : List ℕ) → y ≡ with_part (get_or cs (p / 65536) d) (p % 65536) k v → Wrote y (with_part ws p k v)
    lent v d y e =
        let chunk = get_or cs (p / 65536) d in
        let s = refill k (take k (drop p ws)) v in
        let long = length_refill k (take k (drop p ws)) v (sym (part_long ws p k one.there)) in
        subst (Wrote y) (sym (with_part_paste ws p k v one.there))
        (wrote s d y (omega (arith, long)) (e ∙ with_part_paste chunk (p % 65536) k v (in_chunk d).ends
        ∙ ap (λ u. paste chunk (p % 65536) (refill k u v) k) (part_of d)))

-- words that are copied from a part of one chunk over a part of one
pub wrote-moved : (cs : Chunks) (ws : List ℕ) (p : ℕ) (sound : AreSound cs) (seen : flat cs ≡ ws) (k : ℕ) → IsInOne ws p k
    → (from : ℕ) → IsInOne ws from k → (d y : List ℕ)
    → y ≡ paste (get_or cs (p / 65536) d) (p % 65536) (drop (from % 65536) (get_or cs (from / 65536) d)) k → Wrote cs ws p sound
    seen y (paste ws p (drop from ws) k)
wrote-moved cs ws p sound seen k one from source d y e =
    let t = part_of cs ws from sound seen k source d in
    let n = length-drop from ws in let l = source.there in
    wrote cs ws p sound seen k one (drop from ws) d y (omega (arith, n, l))
    (e ∙ ap (λ v. take (p % 65536) (get_or cs (p / 65536) d) ++ v ++ drop (p % 65536 + k) (get_or cs (p / 65536) d)) t)

-- a chunk that is not whole has room for a run
pub room_left : (cs : Chunks) (q : ℕ) → AreSound cs → q < length cs → (d : List ℕ) → length (get_or cs q d) < 65536 → length (get_or cs q d) + 512 ≤ 65536
room_left cs q sound l d s = let r = (runs-at (λ v. v) 65536 cs q d sound.1 l).1 in omega (arith, r, s)

-- what growth leaves
pub record Grew (ws : List ℕ) (cs : Chunks) : Type 0 where
  pub after : AreSound cs
  pub view : flat cs ≡ ws ++ zeros 512

pub grew : (cs : Chunks) (ws : List ℕ) (q : ℕ) (d y : List ℕ) → AreSound cs → flat cs ≡ ws → suc q ≡ length cs
    → length (get_or cs q d) + 512 ≤ 65536 → y ≡ get_or cs q d ++ zeros 512 → Grew ws (set cs q y)
grew cs ws q d y sound seen last room e =
    let n = length-append (get_or cs q d) (zeros 512) in let z = length-zeros 512 in let s = ap length e in
    let r = (runs-at (λ v. v) 65536 cs q d sound.1 (omega (arith, last))).1 in
    let k = length-set cs q y in let m = sound.2 in
    record {
      after = (
        row-last (λ v. v) 65536 cs q y last sound.0 (omega (arith, n, z, s, room)),
        runs-set (λ v. v) 65536 cs q d y
            sound.1 (omega (arith, last)) (omega (arith, n, z, s), omega (arith, r, n, z, s)),
        omega (arith, k, m),
      );
      view = flat-last (λ v. v) 65536 cs q d y (zeros 512) last e ∙ ap (λ v. v ++ zeros 512) seen;
    }

pub added : (cs : Chunks) (ws : List ℕ) (d y : List ℕ) → AreSound cs → flat cs ≡ ws
    → ((q : ℕ) → suc q ≡ length cs → length (get_or cs q d) ≡ 65536) → length cs < 262144 → y ≡ zeros 512 → Grew ws (cs ++ y ∷ [])
added cs ws d y sound seen full few e =
    let z = length-zeros 512 in let s = ap length e in let n = length-append cs (y ∷ []) in
    record {
      after = (
        row-push (λ v. v) 65536 cs d y sound.0 full (omega (arith, z, s)),
        runs-push (λ v. v) 65536 cs y sound.1
            (omega (arith, z, s), omega (arith, z, s)),
        omega (arith, n, few),
      );
      view = flat-push (λ v. v) 65536 cs y ∙ ap (λ v. v ++ y) seen ∙ ap (λ v. ws ++ v) e;
    }

-- where the last chunk is whole, if there is one, the words are whole chunks
pub all_whole : (cs : Chunks) → IsChunkRow (λ v. length v) 65536 cs → ((q : ℕ) → suc q ≡ length cs → length (get_or cs q []) ≡ 65536)
    → length (flat cs) ≡ length cs * 65536
all_whole [] row full = refl
all_whole (x ∷ []) row full = let n = ap length (append-nil x) in let f = full 0 refl in omega (arith, n, f)
all_whole (x ∷ y ∷ ys) row full =
    let n = length-append x (flat (y ∷ ys)) in let i = all_whole (y ∷ ys) row.1 (λ q e. full (suc q) (omega (arith, e))) in
    let r = row.0 in omega (arith, n, i, r)

pub whole_rest : (cs : Chunks) (ws : List ℕ) → AreSound cs → flat cs ≡ ws
    → ((q : ℕ) → suc q ≡ length cs → length (get_or cs q []) ≡ 65536) → length ws % 65536 ≡ 0
whole_rest cs ws sound seen full = let e = all_whole cs sound.0 full in let s = ap length seen in omega (arith, e, s)

-- there are no more chunks than the words need
chunks-of : (cs : Chunks) → IsChunkRow (λ v. length v) 65536 cs → AreRuns (λ v. length v) cs → length cs ≤ (length (flat cs) + 65535) / 65536
chunks-of [] row runs = omega arith
chunks-of (x ∷ []) row runs = let n = ap length (append-nil x) in let s = runs.0.0 in omega (arith, n, s)
chunks-of (x ∷ y ∷ ys) row runs =
    let n = length-append x (flat (y ∷ ys)) in let i = chunks-of (y ∷ ys) row.1 runs.1 in let r = row.0 in omega (arith, n, i, r)

pub few-chunks : (cs : Chunks) (ws : List ℕ) → AreSound cs → flat cs ≡ ws → length cs ≤ (length ws + 65535) / 65536
few-chunks cs ws sound seen = let n = chunks-of cs sound.0 sound.1 in let s = ap length seen in omega (arith, n, s)

-- no last chunk is open
abbrev pub IsClosed : Chunks → Type 0
IsClosed cs = (q : ℕ) → q + 1 ≡ length cs → 65536 ≤ length (get_or cs q [])

closed : (cs : Chunks) → AreSound cs → IsClosed cs → (q : ℕ) → suc q ≡ length cs → length (get_or cs q []) ≡ 65536
closed cs sound shut q last = let s = short-at (λ v. v) 65536 cs q [] sound.0 (omega (arith, last)) in
    let l = shut q (omega (arith, last)) in omega (arith, s, l)

-- a chunk was asked for
module _ {A E : Type 0} (cs new : Chunks) (ws : List ℕ) (sound : AreSound cs) (seen : flat cs ≡ ws) (shut : IsClosed cs) where
  pub left-sound : (r : Result A E) → OnOk r (new ≡ cs ++ zeros 512 ∷ []) → OnOk r (length cs < 262144) → OnErr r (new ≡ cs) → AreSound new
  left-sound (Ok a) is few err = subst AreSound (sym is) (added cs ws [] (zeros 512) sound seen (closed cs sound shut) few refl).after
  left-sound (Err e) is few err = subst AreSound (sym err) sound

  pub left-ok : (r : Result A E) → OnOk r (new ≡ cs ++ zeros 512 ∷ []) → OnOk r (length cs < 262144) → OnOk r (flat new ≡ ws ++ zeros 512)
  left-ok (Ok a) is few = ap flat is ∙ (added cs ws [] (zeros 512) sound seen (closed cs sound shut) few refl).view
  left-ok (Err e) is few = tt

  pub left-whole : (r : Result A E) → OnErr r (length ws % 65536 ≡ 0)
  left-whole (Ok a) = tt
  left-whole (Err e) = whole_rest cs ws sound seen (closed cs sound shut)

  pub left-full : (r : Result A E) (full : E → Type 0) → IfErr r (λ why. full why → 262144 ≤ length cs) → IfErr r (λ why. full why → length ws ≡ 17179869184)
  left-full (Ok a) full few = tt
  left-full (Err e) full few = λ is. let n = all_whole cs sound.0 (closed cs sound shut) in let s = ap length seen in
      let l = few is in let m = sound.2 in omega (arith, n, s, l, m)

  pub left-spare : (r : Result A E) (spare : E → Type 0) → IfErr r (λ why. spare why → length cs < 262144)
      → IfErr r (λ why. spare why → length ws < 17179869184)
  left-spare (Ok a) spare few = tt
  left-spare (Err e) spare few = λ is. let n = all_whole cs sound.0 (closed cs sound shut) in let s = ap length seen in
      let l = few is in omega (arith, n, s, l)
