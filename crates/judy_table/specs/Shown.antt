-- The values of this crate, as definitions see them.
use Rattle.std.specs.Prelude.{option_map}
use Rattle.judy_model.specs.Speakers.{Speaker as Spoken}
use Rattle.judy_table.specs.Tenants.{OtherTexts as OthersTold, Written as Told}
use Rattle.judy_table.specs.declared.written.OtherTexts.{OtherTexts}
use Rattle.judy_table.specs.declared.written.Written.{Written}
use Rattle.judy_table.specs.declared.tenant.Speaker.{Speaker}

-- the bytes of the texts of a tenant's other digests
abbrev pub others_told : OtherTexts → OthersTold
others_told o = record {
  look = option_map (λ s. s.now) o.look;
  former = option_map (λ s. s.now) o.former;
  former_look = option_map (λ s. s.now) o.former_look;
}

-- the values for a tenant, by the bytes of their texts
abbrev pub told_of : Written → Told
told_of w = record { digest = w.digest.now; entries = w.entries; pieces = w.pieces; journal = w.journal; others = others_told w.others }

-- the tenant of a connection and its right
abbrev pub seen : Speaker → Spoken
seen s = record { tenant = s.tenant; right = s.right }
