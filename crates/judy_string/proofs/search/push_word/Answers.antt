use Rattle.std.proofs.Common.{rules, ◌≡◌, false, Result, Ok, Err, IsOk, OnOk}
use Rattle.std.proofs.Common.{◌<◌, ◌++◌, ◌∷◌, [], take, length, length-append, append_assoc, ◌∙◌, ap, sym, arith}
use Rattle.std.proofs.lemmas.Bool.{false≢true as not_true}
use Rattle.std.proofs.lemmas.List.{take_all}
use Rattle.arrayvec.specs.ArrayVec.{array_vec_len}
use Rattle.judy_packing.specs.Packing.{word_bytes, is_last}
use Rattle.judy_string.proofs.Joins.{bytes_few}
use Rattle.judy_string.proofs.Spells.{spelt-whole, spelt-more, spelt-end, spelt-in, take-least, zero-test, some-test}
use Rattle.judy_string.proofs.search.push_word.Goals as goal

pub returns-then-not-is_last : goal.returns-then-not-is_last
returns-then-not-is_last c =
    let more : is_last c.args.word ≡ false = search rules in
    let all = c.to_be_bytes.ensures ∙ spelt-whole c.args.word c.requires.spelt more in
    let size = ap length all in
    by c.try_extend_from_slice-fits.result
    (c.try_extend_from_slice-fits.ensures.variant.1 (omega (arith, size, c.requires.fits))) c.try_extend_from_slice-fits.ensures.ok
    ∙ ap (λ l. c.args.buffer.now.items ++ l) all
  where
    by : {E P : Type 0} (r : Result (Unit {0}) E) → IsOk r → OnOk r P → P
    by (Ok x) i p = p
    by (Err e) i p = absurd (not_true i)

pub returns-then-next-eq0 : goal.returns-then-next-eq0
returns-then-next-eq0 c =
    let past = spelt-end c.args.word c.loop-i.i c.byte-next.result c.requires.spelt c.loop-i-test.true c.byte-next.ensures
    (zero-test c.byte-next.result c.if-next-eq0.true) in
    c.loop-i.invariant ∙ ap (λ l. c.args.buffer.now.items ++ l) (take_all c.loop-i.i (word_bytes c.args.word) past)

pub push-requires : goal.push-requires
push-requires c =
    let in_ = spelt-in c.args.word c.loop-i.i c.byte-next.result c.requires.spelt c.loop-i-test.true c.byte-next.ensures
    (some-test c.byte-next.result c.if-next-eq0.false) in
    let size = ap length c.loop-i.invariant ∙ length-append c.args.buffer.now.items (take c.loop-i.i (word_bytes c.args.word)) in
    let few = take-least c.loop-i.i (word_bytes c.args.word) in
    let room : array_vec_len c.loop-i.buffer < 1000 = omega (arith, in_, size, few, c.requires.fits) in
    (omega arith, room)

pub loop-i-preserved : goal.loop-i-preserved
loop-i-preserved c =
    let more = spelt-more c.args.word c.loop-i.i c.byte-next.result c.requires.spelt c.loop-i-test.true c.byte-next.ensures
    (some-test c.byte-next.result c.if-next-eq0.false) in
    c.push.ensures.items ∙ ap (λ l. l ++ c.byte-next.result ∷ []) c.loop-i.invariant ∙ append_assoc c.args.buffer.now.items
    (take c.loop-i.i (word_bytes c.args.word)) (c.byte-next.result ∷ [])
    ∙ ap (λ l. c.args.buffer.now.items ++ l) (sym more)

pub returns : goal.returns
returns c = c.loop-i.invariant ∙ ap (λ l. c.args.buffer.now.items ++ l)
    (take_all c.loop-i.i (word_bytes c.args.word) (let k = bytes_few 8 c.args.word in omega (arith, k, c.loop-i-test.false)))
