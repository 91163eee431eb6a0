use Rattle.std.proofs.Common.{◌∙◌, ap, sym}
use Rattle.judy_kinds.specs.Calls.{asks_at}
use Rattle.judy_model.specs.Tenant.{inserts}
use Rattle.judy_tenants.proofs.Nothing.{bytes_ask, string_asks}
use Rattle.judy_tenants.proofs.stock.insertions_ask_of_nothing.Goals as goal

pub returns-in-Str : goal.returns-in-Str
returns-in-Str c = λ b. ap (asks_at b 0) c.in-Str.is
    ∙ string_asks b c.in-Str.field-1 (c.only_nothing_is_empty.ensures (λ k. 0) b).0.string (ap inserts (sym c.in-Str.is) ∙ c.requires)

pub returns-in-Bytes : goal.returns-in-Bytes
returns-in-Bytes c = λ b. ap (asks_at b 0) c.in-Bytes.is
    ∙ bytes_ask b c.in-Bytes.field-1 (c.only_nothing_is_empty.ensures (λ k. 0) b).0.bytes (ap inserts (sym c.in-Bytes.is) ∙ c.requires)
