use Rattle.std.proofs.Common.{◌≡◌, [], IfOk, map, not, sym, ◌∙◌, ap, subst}
use Rattle.std.specs.Prelude.{is_some}
use Rattle.std.proofs.lemmas.Result.{on_err_weaker}
use Rattle.judy_model.specs.Contents.{string_order, value_of, without_key}
use Rattle.judy_model.specs.Tenant.Reports.{ReportsValue}
use Rattle.judy_model.specs.Tenant.{content_of, insert, keep_over, exchange_over, remove_over, reply_of, value_or_null, delete}
use Rattle.judy_model.specs.Tenant.Answer.{Listed}
use Rattle.judy_model.specs.Walks.{hashed_key, key_words, walk_bytes}
use Rattle.judy_reference.specs.Store.{on_array}
use Rattle.judy_reference.proofs.CallLemmas.{looked, walked}
use Rattle.judy_reference.proofs.store.bytes.bytes_step.Goals as goal
use Rattle.judy_reference.proofs.store.bytes.bytes_step.Goals.{in-Delete, in-DeleteIf, in-Take, in-Free, in-Get, in-First, in-Next}

pub returns-in-Insert-clause-ok : goal.returns-in-Insert-clause-ok
returns-in-Insert-clause-ok c =
    rw c.in-Insert.is
    (subst (λ k. IfOk c.insert.result (λ reply. on_array c.args.maps.now c.args.name.now
    (λ l. insert string_order c.args.room l k c.in-Insert.given ReportsValue) ≡ (reply, c.insert.new.maps)))
    c.of.ensures c.insert.ensures.ok)

pub returns-in-Insert-clause-lacks : goal.returns-in-Insert-clause-lacks
returns-in-Insert-clause-lacks c =
    let same = ap (value_of string_order (content_of c.args.maps.now c.args.name.now)) c.of.ensures in
    rw c.in-Insert.is (on_err_weaker c.insert.result (λ w. (w.0, ap (λ found. not (is_some found)) (sym same ∙ w.1))) c.insert.ensures.lacks)

pub returns-in-Keep-clause-ok : goal.returns-in-Keep-clause-ok
returns-in-Keep-clause-ok c =
    rw c.in-Keep.is
    (subst (λ k. IfOk c.keep.result (λ reply. on_array c.args.maps.now c.args.name.now
    (λ l. keep_over string_order c.args.room l k c.in-Keep.value (value_of string_order l k)) ≡ (reply, c.keep.new.maps)))
    c.of-in-Keep.ensures c.keep.ensures.ok)

pub returns-in-Keep-clause-lacks : goal.returns-in-Keep-clause-lacks
returns-in-Keep-clause-lacks c =
    let same = ap (value_of string_order (content_of c.args.maps.now c.args.name.now)) c.of-in-Keep.ensures in
    rw c.in-Keep.is (on_err_weaker c.keep.result (λ w. (w.0, ap (λ found. not (is_some found)) (sym same ∙ w.1))) c.keep.ensures.lacks)

pub returns-in-Exchange-clause-ok : goal.returns-in-Exchange-clause-ok
returns-in-Exchange-clause-ok c =
    rw c.in-Exchange.is
    (subst (λ k. IfOk c.exchange.result (λ reply. on_array c.args.maps.now c.args.name.now
    (λ l. exchange_over string_order l k c.in-Exchange.from c.in-Exchange.to (value_of string_order l k)) ≡ (reply, c.exchange.new.maps)))
    c.of-in-Exchange.ensures c.exchange.ensures.ok)

-- the kept key is the call's key
pub returns-clause-ok : goal.returns-clause-ok
returns-clause-ok c = elim c.match-call.branch [
  | in-Delete w ↦ rw w.in-Delete.is (rw w.maps-is (rw w.reply-is
      (subst (λ k. on_array c.args.maps.now c.args.name.now (λ l. delete string_order l k)
      ≡ (w.delete-reply.result, w.delete-reply.new.arrays)) w.of-in-Delete.ensures w.delete-reply.ensures)))
  | in-DeleteIf w ↦ rw w.in-DeleteIf.is (rw w.maps-is (rw w.reply-is
      (subst (λ k. on_array c.args.maps.now c.args.name.now (λ l. remove_over string_order l k w.in-DeleteIf.value (value_of string_order l k))
      ≡ (w.delete_if-reply.result, w.delete_if-reply.new.maps)) w.of-in-DeleteIf.ensures w.delete_if-reply.ensures)))
  | in-Take w ↦ rw w.in-Take.is (rw w.maps-is (rw w.reply-is
      (subst (λ k. on_array c.args.maps.now c.args.name.now (λ l. (value_or_null (value_of string_order l k), without_key string_order l k))
      ≡ (w.take-reply.result, w.take-reply.new.maps)) w.of-in-Take.ensures w.take-reply.ensures)))
  | in-Free w ↦ rw w.in-Free.is (rw w.maps-is (rw w.reply-is w.free-reply.ensures))
  | in-Get w ↦ rw w.in-Get.is (rw w.maps-is (rw w.reply-is
      (looked c.args.maps.now c.args.name.now _ _ _ _ w.of-in-Get.ensures w.get.ensures.value w.value_or_null-reply.ensures w.get.ensures.same)))
  | in-First w ↦ rw w.in-First.is (rw w.maps-is (rw w.reply-is
      (walked c.args.maps.now c.args.name.now
      (λ l. reply_of (Listed (map key_words (walk_bytes l [] w.in-First.n)))) _ _ c.content-entries.ensures.value
      w.first_keys-reply.ensures c.content-entries.ensures.same)))
  | in-Next w ↦ rw w.in-Next.is (rw w.maps-is (rw w.reply-is
      (walked c.args.maps.now c.args.name.now
      (λ l. reply_of (Listed (map key_words (walk_bytes l (hashed_key w.in-Next.k) w.in-Next.n)))) _ _ c.content-entries.ensures.value
      w.next_keys-reply.ensures c.content-entries.ensures.same)))
]
