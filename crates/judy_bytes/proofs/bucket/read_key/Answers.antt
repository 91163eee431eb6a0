use Rattle.std.proofs.Common.{◌≡◌, ◌∙◌, ◌+◌, ◌<◌, ◌++◌, Result, Ok, Err, IsOk, OnOk, get_or, length, take, drop, ap, sym, arith}
use Rattle.std.proofs.lemmas.Bool.{false≢true as not_true}
use Rattle.judy_arena.proofs.lemmas.RoomLaws.{room-covers}
use Rattle.judy_bytes.specs.Buckets.{bucket_bytes_of, bucket_key, packed_bucket}
use Rattle.judy_bytes.proofs.Buckets.{bucket-long}
use Rattle.judy_bytes.proofs.Compares.{bytes-few, bytes-more, word-bytes}
use Rattle.judy_bytes.proofs.bucket.read_key.Goals as goal

pub words-words-requires : goal.words-words-requires
words-words-requires c = omega (arith, bucket-long room-covers c.args.arena.now.blocks c.args.bucket c.requires)

pub bounds-words-2 : goal.bounds-words-2
bounds-words-2 c = let e = ap length c.words-words.ensures in omega (arith, e, bucket-long room-covers c.args.arena.now.blocks c.args.bucket c.requires)

pub bounds-words-j : goal.bounds-words-j
bounds-words-j c =
    let e = ap length c.words-words.ensures in
    let size = ap (λ ws. get_or ws 2 0) c.words-words.ensures ∙ c.requires.key.size in
    omega (arith, e, size, bucket-long room-covers c.args.arena.now.blocks c.args.bucket c.requires, c.packed_words-j-end.ensures, c.loop-j-test.true)

pub loop-j-preserved : goal.loop-j-preserved
loop-j-preserved c =
    let ws = c.words-words.result.now in
    let size = ap (λ v. get_or v 2 0) c.words-words.ensures ∙ c.requires.key.size in
    let few = bytes-few c.loop-j.j (drop 3 ws) in
    let long = ap length c.loop-j.invariant in
    let e = ap length c.words-words.ensures in
    let within : 3 + c.loop-j.j < length ws =
    omega (arith, e, size, bucket-long room-covers c.args.arena.now.blocks c.args.bucket c.requires, c.packed_words-j-end.ensures, c.loop-j-test.true) in
    let word = ap length (c.to_be_bytes.ensures ∙ word-bytes (get_or ws (3 + c.loop-j.j) 0)) in
    by c.try_extend_from_slice-fits.result (c.try_extend_from_slice-fits.ensures.variant.1
    (omega (arith, size, few, long, word, c.requires.key.short, c.packed_words-j-end.ensures, c.loop-j-test.true)))
    c.try_extend_from_slice-fits.ensures.ok
    ∙ ap (λ l. l ++ c.to_be_bytes.result) c.loop-j.invariant
    ∙ ap (λ l. bucket_bytes_of (take c.loop-j.j (drop 3 ws)) ++ l) c.to_be_bytes.ensures
    ∙ sym (bytes-more ws c.loop-j.j within)
  where
    by : {E P : Type 0} (r : Result (Unit {0}) E) → IsOk r → OnOk r P → P
    by (Ok x) i p = p
    by (Err e) i p = absurd (not_true i)

pub returns : goal.returns
unfolding bucket_key
returns c =
    let ws = c.words-words.result.now in
    let end : c.loop-j.j ≡ packed_bucket (get_or ws 2 0) = omega (arith, c.loop-j-test.false, c.loop-j.auto.j-end, c.packed_words-j-end.ensures) in
    c.truncate.ensures.items ∙ ap (take (get_or ws 2 0)) c.loop-j.invariant
    ∙ ap (λ n. take (get_or ws 2 0) (bucket_bytes_of (take n (drop 3 ws)))) end
    ∙ ap bucket_key c.words-words.ensures
