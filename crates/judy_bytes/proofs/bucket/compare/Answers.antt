use Rattle.std.proofs.Common.{◌≡◌, ◌∙◌, ◌<◌, min, get_or, length, ap, sym, subst, arith}
use Rattle.std.specs.Ordering.{nat_cmp}
use Rattle.judy_arena.proofs.lemmas.RoomLaws.{room-covers}
use Rattle.judy_model.specs.Contents.{string_order}
use Rattle.judy_bytes.specs.Buckets.{SpellsKey, bucket_key}
use Rattle.judy_bytes.proofs.Buckets.{bucket-long}
use Rattle.judy_bytes.proofs.Compares.{compare-bytes, compare-ends, compare-more, own-byte}
use Rattle.judy_bytes.proofs.bucket.compare.Goals as goal

pub words-words-requires : goal.words-words-requires
words-words-requires c = omega (arith, bucket-long room-covers c.args.arena.now.blocks c.args.bucket c.requires)

pub bounds-words-2 : goal.bounds-words-2
bounds-words-2 c = let e = ap length c.words-words.ensures in omega (arith, e, bucket-long room-covers c.args.arena.now.blocks c.args.bucket c.requires)

pub bounds-words-j : goal.bounds-words-j
bounds-words-j c =
    let e = ap length c.words-words.ensures in
    let size = ap (λ ws. get_or ws 2 0) c.words-words.ensures ∙ c.requires.key.size in
    omega (arith, e, size, bucket-long room-covers c.args.arena.now.blocks c.args.bucket c.requires, c.min-j-end.ensures, c.loop-j-test.true)

pub returns-then-own-key : goal.returns-then-own-key
returns-then-own-key c =
    let ws = c.words-words.result.now in
    let own = bucket_key ws in
    let s = subst (λ v. SpellsKey v (bucket_key v)) (sym c.words-words.ensures) c.requires.key in
    let here : c.loop-j.j < length own = omega (arith, s.size, c.min-j-end.ensures, c.loop-j-test.true) in
    let there : c.loop-j.j < length c.args.key.now = omega (arith, c.min-j-end.ensures, c.loop-j-test.true) in
    let byte = c.byte-own.ensures ∙ own-byte ws own s c.loop-j.j here in
    c.cmp.ensures ∙ ap (λ x. nat_cmp x (get_or c.args.key.now c.loop-j.j 0)) byte
    ∙ sym (compare-bytes own c.args.key.now c.loop-j.j here there (λ e. c.if-own-key.true (byte ∙ e)))
    ∙ sym c.loop-j.invariant ∙ ap (λ v. string_order (bucket_key v) c.args.key.now) c.words-words.ensures

pub loop-j-preserved : goal.loop-j-preserved
loop-j-preserved c =
    let ws = c.words-words.result.now in
    let own = bucket_key ws in
    let s = subst (λ v. SpellsKey v (bucket_key v)) (sym c.words-words.ensures) c.requires.key in
    let here : c.loop-j.j < length own = omega (arith, s.size, c.min-j-end.ensures, c.loop-j-test.true) in
    let there : c.loop-j.j < length c.args.key.now = omega (arith, c.min-j-end.ensures, c.loop-j-test.true) in
    let byte = c.byte-own.ensures ∙ own-byte ws own s c.loop-j.j here in
    c.loop-j.invariant ∙ compare-more own c.args.key.now c.loop-j.j here there (sym byte ∙ c.if-own-key.false)

pub returns : goal.returns
returns c =
    let ws = c.words-words.result.now in
    let own = bucket_key ws in
    let s = subst (λ v. SpellsKey v (bucket_key v)) (sym c.words-words.ensures) c.requires.key in
    let end : c.loop-j.j ≡ min (length own) (length c.args.key.now) =
    omega (arith, s.size, c.min-j-end.ensures, c.loop-j-test.false, c.loop-j.auto.j-end) in
    c.cmp-2.ensures ∙ ap (λ n. nat_cmp n (length c.args.key.now)) s.size
    ∙ sym (compare-ends own c.args.key.now c.loop-j.j end)
    ∙ sym c.loop-j.invariant ∙ ap (λ v. string_order (bucket_key v) c.args.key.now) c.words-words.ensures
