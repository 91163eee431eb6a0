-- Calls that change nothing, answered from the content of an array.
use Rattle.std.proofs.Common.{◌≡◌, ℕ, List}
use Rattle.std.specs.Prelude.{Option}
use Rattle.judy_model.specs.declared.replies.Reply.{Reply}
use Rattle.judy_model.specs.Contents.{Entries, string_order, value_of}
use Rattle.judy_model.specs.Tenant.{Arrays, content_of, with_content, value_or_null, value_key_or_null}
use Rattle.judy_reference.specs.Store.{on_array}

-- the value of a key that equals the call's
pub looked : (arrays : Arrays (List ℕ)) (name k key : List ℕ) (reply : Reply) (found : Option ℕ) → k ≡ key → found ≡ value_of
    string_order (content_of arrays name) k → reply ≡ value_or_null found →
    with_content arrays name (content_of arrays name) ≡ arrays → on_array arrays name (λ l. (value_or_null (value_of string_order l key), l)) ≡ (reply, arrays)
looked arrays name k key reply found same value shown written = cc (same, value, shown, written)

-- the entry that a query finds
pub searched : (arrays : Arrays (List ℕ)) (name : List ℕ) (query : Entries (List ℕ) → Option (List ℕ × ℕ))
    (entries : Entries (List ℕ)) (reply : Reply) (found : Option (List ℕ × ℕ)) → entries ≡ content_of arrays name →
    found ≡ query entries → reply ≡ value_key_or_null found → with_content arrays name (content_of arrays name) ≡ arrays
    → on_array arrays name (λ l. (value_key_or_null (query l), l)) ≡ (reply, arrays)
searched arrays name query entries reply found held is shown written = cc (held, is, shown, written)

-- the reply to a walk
pub walked : (arrays : Arrays (List ℕ)) (name : List ℕ) (show : Entries (List ℕ) → Reply) (entries : Entries (List ℕ)) (reply : Reply)
    → entries ≡ content_of arrays name → reply ≡ show entries → with_content arrays name (content_of arrays name) ≡ arrays
    → on_array arrays name (λ l. (show l, l)) ≡ (reply, arrays)
walked arrays name show entries reply held is written = cc (held, is, written)
