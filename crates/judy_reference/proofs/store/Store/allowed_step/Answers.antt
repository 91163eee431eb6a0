use Rattle.std.proofs.Common.{◌≡◌, ◌+◌, ◌∙◌, sym, ap, subst, arith, length}
use Rattle.std.specs.Prelude.{nat_lt, nat_le, ◌&&◌}
use Rattle.std.specs.Cmp.{nat_cmp_total}
use Rattle.std.specs.Cmp.Lexicographic.{nat_list_cmp_total}
use Rattle.std.specs.FinMap.{nat_cmp-IsAntisymmetric}
use Rattle.judy_model.specs.declared.calls.Call.TheVariants.{One, Long, Str, Bytes}
use Rattle.judy_model.specs.Contents.{word_order, string_order}
use Rattle.judy_model.specs.Pieces.{word_pieces, string_pieces, pieces_of}
use Rattle.judy_model.specs.Tenant.{one_effect, long_effect, string_effect, bytes_effect}
use Rattle.judy_model.specs.Tenant.{content_of, entries_in, pieces_in, used, pieces, new_pieces, one_step, long_step}
use Rattle.judy_model.specs.Tenant.{string_step, bytes_step, one_asks_for_new, long_asks_for_new, string_asks_for_new}
use Rattle.judy_model.specs.Tenant.{State, allowed_step, bytes_asks_for_new}
use Rattle.judy_model.specs.Intersections.{intersect, intersection_reply}
use Rattle.judy_model.proofs.lemmas.FormLemmas.{names_apart}
use Rattle.judy_model.proofs.lemmas.GrowthLemmas.{lengths, sizes, one_each, its_size, effect_grows, words_alike, strings_alike, bytes_alike}
use Rattle.judy_reference.specs.Store.{IsKept}
use Rattle.judy_reference.proofs.KeptLemmas.{content_sorted}
use Rattle.judy_reference.proofs.GrowthLemmas.{stay_words}
use Rattle.judy_reference.proofs.store.Store.allowed_step.Goals as goal

pub invariant_of-self : goal.invariant_of-self
invariant_of-self c =
    let room = c.has_room-room.result in
    let name = c.in-One.name in
    let call = c.in-One.call in
    let arrays = c.self.inside.one in
    let l = content_of arrays name in
    let n = new_pieces (One name call) in
    let kept = (subst IsKept (sym c.self.view_is) c.used-used.ensures.kept).one in
    let sorted = content_sorted word_order arrays name kept in
    let is : room ≡ (nat_lt c.used-used.result c.args.quota.entries && nat_le (c.pieces-pieces.result + n) c.args.quota.pieces)
    = c.has_room-room.ensures ∙ ap (λ d. nat_lt c.used-used.result c.args.quota.entries && nat_le
    (c.pieces-pieces.result + new_pieces d) c.args.quota.pieces) c.in-One.is in
    let both = stay_words word_order word_pieces arrays c.one_step.new.sets name (λ m. one_step room m call) (one_asks_for_new l call) room
    n c.args.quota.entries c.used-used.result c.pieces-pieces.result c.args.quota.pieces
    (entries_in c.self.inside.long + entries_in c.self.inside.string + entries_in c.self.inside.bytes)
    (pieces_in word_pieces c.self.inside.long + pieces_in string_pieces c.self.inside.string + pieces_in string_pieces c.self.inside.bytes)
    c.one_step.result kept
    (effect_grows word_order length (λ k. 1) (lengths word_order nat_cmp_total) room l (one_effect call) 1 sorted (one_each (one_effect call)))
    (effect_grows word_order (pieces_of word_pieces) word_pieces (sizes word_order nat_cmp_total nat_cmp-IsAntisymmetric word_pieces) room l
    (one_effect call) n sorted (its_size word_pieces (one_effect call) (words_alike (one_effect call))))
    c.one_step.ensures.ok c.one_step.ensures.unchanged is
    (omega (arith, c.used-used.ensures.value, ap used c.self.view_is)) (omega (arith, c.pieces-pieces.ensures, ap pieces c.self.view_is))
    (omega arith) (omega arith) (omega arith) (omega arith) in
    (omega (arith, both.0), omega (arith, both.1))

pub invariant_of-self-in-Long : goal.invariant_of-self-in-Long
invariant_of-self-in-Long c =
    let room = c.has_room-room.result in
    let name = c.in-Long.name in
    let call = c.in-Long.call in
    let arrays = c.self.inside.long in
    let l = content_of arrays name in
    let n = new_pieces (Long name call) in
    let kept = (subst IsKept (sym c.self.view_is) c.used-used.ensures.kept).long in
    let sorted = content_sorted word_order arrays name kept in
    let is : room ≡ (nat_lt c.used-used.result c.args.quota.entries && nat_le (c.pieces-pieces.result + n) c.args.quota.pieces)
    = c.has_room-room.ensures ∙ ap (λ d. nat_lt c.used-used.result c.args.quota.entries && nat_le
    (c.pieces-pieces.result + new_pieces d) c.args.quota.pieces) c.in-Long.is in
    let both = stay_words word_order word_pieces arrays c.long_step.new.maps name (λ m. long_step room m call) (long_asks_for_new l call) room
    n c.args.quota.entries c.used-used.result c.pieces-pieces.result c.args.quota.pieces
    (entries_in c.self.inside.one + entries_in c.self.inside.string + entries_in c.self.inside.bytes)
    (pieces_in word_pieces c.self.inside.one + pieces_in string_pieces c.self.inside.string + pieces_in string_pieces c.self.inside.bytes)
    c.long_step.result kept
    (effect_grows word_order length (λ k. 1) (lengths word_order nat_cmp_total) room l (long_effect call) 1 sorted (one_each (long_effect call)))
    (effect_grows word_order (pieces_of word_pieces) word_pieces (sizes word_order nat_cmp_total nat_cmp-IsAntisymmetric word_pieces) room l
    (long_effect call) n sorted (its_size word_pieces (long_effect call) (words_alike (long_effect call))))
    c.long_step.ensures.ok c.long_step.ensures.unchanged is
    (omega (arith, c.used-used.ensures.value, ap used c.self.view_is)) (omega (arith, c.pieces-pieces.ensures, ap pieces c.self.view_is))
    (omega arith) (omega arith) (omega arith) (omega arith) in
    (omega (arith, both.0), omega (arith, both.1))

pub invariant_of-self-in-Str : goal.invariant_of-self-in-Str
invariant_of-self-in-Str c =
    let room = c.has_room-room.result in
    let name = c.in-Str.name in
    let call = c.in-Str.call in
    let arrays = c.self.inside.string in
    let l = content_of arrays name in
    let n = new_pieces (Str name call) in
    let kept = (subst IsKept (sym c.self.view_is) c.used-used.ensures.kept).string in
    let sorted = content_sorted string_order arrays name kept in
    let is : room ≡ (nat_lt c.used-used.result c.args.quota.entries && nat_le (c.pieces-pieces.result + n) c.args.quota.pieces)
    = c.has_room-room.ensures ∙ ap (λ d. nat_lt c.used-used.result c.args.quota.entries && nat_le
    (c.pieces-pieces.result + new_pieces d) c.args.quota.pieces) c.in-Str.is in
    let both = stay_words string_order string_pieces arrays c.string_step.new.maps name (λ m. string_step room m call) (string_asks_for_new l call) room
    n c.args.quota.entries c.used-used.result c.pieces-pieces.result c.args.quota.pieces
    (entries_in c.self.inside.one + entries_in c.self.inside.long + entries_in c.self.inside.bytes)
    (pieces_in word_pieces c.self.inside.one + pieces_in word_pieces c.self.inside.long + pieces_in string_pieces c.self.inside.bytes)
    c.string_step.result kept
    (effect_grows string_order length (λ k. 1) (lengths string_order nat_list_cmp_total) room l (string_effect call) 1 sorted (one_each (string_effect call)))
    (effect_grows string_order (pieces_of string_pieces) string_pieces (sizes string_order nat_list_cmp_total names_apart string_pieces) room l
    (string_effect call) n sorted (its_size string_pieces (string_effect call) (strings_alike call)))
    c.string_step.ensures.ok c.string_step.ensures.unchanged is
    (omega (arith, c.used-used.ensures.value, ap used c.self.view_is)) (omega (arith, c.pieces-pieces.ensures, ap pieces c.self.view_is))
    (omega arith) (omega arith) (omega arith) (omega arith) in
    (omega (arith, both.0), omega (arith, both.1))

pub invariant_of-self-in-Bytes : goal.invariant_of-self-in-Bytes
invariant_of-self-in-Bytes c =
    let room = c.has_room-room.result in
    let name = c.in-Bytes.name in
    let call = c.in-Bytes.call in
    let arrays = c.self.inside.bytes in
    let l = content_of arrays name in
    let n = new_pieces (Bytes name call) in
    let kept = (subst IsKept (sym c.self.view_is) c.used-used.ensures.kept).bytes in
    let sorted = content_sorted string_order arrays name kept in
    let is : room ≡ (nat_lt c.used-used.result c.args.quota.entries && nat_le (c.pieces-pieces.result + n) c.args.quota.pieces)
    = c.has_room-room.ensures ∙ ap (λ d. nat_lt c.used-used.result c.args.quota.entries && nat_le
    (c.pieces-pieces.result + new_pieces d) c.args.quota.pieces) c.in-Bytes.is in
    let both = stay_words string_order string_pieces arrays c.bytes_step.new.maps name (λ m. bytes_step room m call) (bytes_asks_for_new l call) room
    n c.args.quota.entries c.used-used.result c.pieces-pieces.result c.args.quota.pieces
    (entries_in c.self.inside.one + entries_in c.self.inside.long + entries_in c.self.inside.string)
    (pieces_in word_pieces c.self.inside.one + pieces_in word_pieces c.self.inside.long + pieces_in string_pieces c.self.inside.string)
    c.bytes_step.result kept
    (effect_grows string_order length (λ k. 1) (lengths string_order nat_list_cmp_total) room l (bytes_effect call) 1 sorted (one_each (bytes_effect call)))
    (effect_grows string_order (pieces_of string_pieces) string_pieces (sizes string_order nat_list_cmp_total names_apart string_pieces) room l
    (bytes_effect call) n sorted (its_size string_pieces (bytes_effect call) (bytes_alike call)))
    c.bytes_step.ensures.ok c.bytes_step.ensures.unchanged is
    (omega (arith, c.used-used.ensures.value, ap used c.self.view_is)) (omega (arith, c.pieces-pieces.ensures, ap pieces c.self.view_is))
    (omega arith) (omega arith) (omega arith) (omega arith) in
    (omega (arith, both.0), omega (arith, both.1))

pub returns-in-Intersect-clause-ok : goal.returns-in-Intersect-clause-ok
returns-in-Intersect-clause-ok c =
    let s = c.args.self.now in
    let call = c.in-Intersect in
    let one_is : c.self.inside.one ≡ s.one = ap (λ (t : State). t.one) c.self.view_is in
    let entries : c.content-entries.result.now ≡ content_of s.one call.name = c.content-entries.ensures.value ∙ ap (λ sets. content_of sets call.name) one_is in
    let others : c.content-others.result.now ≡ content_of s.one call.other = c.content-others.ensures.value ∙ ap (λ sets. content_of sets call.other) one_is in
    ap (λ d. allowed_step c.args.quota s d) call.is
    ∙ ap (λ r. (r, s)) (sym (c.intersection.ensures
    ∙ ap (λ l. intersection_reply (intersect l c.content-others.result.now call.x call.n)) entries
    ∙ ap (λ m. intersection_reply (intersect (content_of s.one call.name) m call.x call.n)) others))
