-- Orders of the operator, which freeze or thaw a tenant.
--     after head text     what follows these bytes in a text that begins with them
--     Freeze              a tenant's name, and the digest of the one token that may still change it; without
--                         a digest the tenant is thawed
--     order_in text       the order that a text is, if it is one: `FREEZE NAME DIGEST` or `THAW NAME`
use Rattle.std.specs.Prelude.{◌&&◌, ◌==◌, ◌-◌, ℕ, List, Option, Some, None, codes, drop, if◌then◌else◌, length, nat_le, option_map, slice_index, take}
use Rattle.std.specs.Ordering.{eq_by_cmp}
use Rattle.judy_model.specs.Contents.{string_order}
use Rattle.judy_table.specs.Freezes.{digest_in}

abbrev pub after : List ℕ → List ℕ → Option (List ℕ)
after head text =
    if nat_le (length head) (length text) && eq_by_cmp string_order (take (length head) text) head then Some (drop (length head) text) else None

pub record Freeze : Type 0 where
  pub name : List ℕ
  pub frozen : Option (List ℕ)

abbrev pub freeze_of : List ℕ → Option (List ℕ) → Freeze
freeze_of name frozen = record { name = name; frozen = frozen }

-- a space, and the digits of a digest, follow a name
abbrev pub frozen_by : List ℕ → List ℕ → Option Freeze
frozen_by name last = if slice_index last 0 == 32 then option_map (λ digest. freeze_of name (Some digest)) (digest_in (drop 1 last)) else None

-- a name, a space, and the 64 digits of a digest
abbrev pub frozen_in : List ℕ → Option Freeze
frozen_in rest = if nat_le 65 (length rest) then frozen_by (take (length rest - 65) rest) (drop (length rest - 65) rest) else None

abbrev pub order_by : Option (List ℕ) → Option (List ℕ) → Option Freeze
order_by (Some name) rest = Some (freeze_of name None)
order_by None (Some rest) = frozen_in rest
order_by None None = None

unfoldable pub order_in : List ℕ → Option Freeze
order_in text = order_by (after (codes "THAW ") text) (after (codes "FREEZE ") text)
