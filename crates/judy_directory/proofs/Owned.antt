-- The number of a tenant and a kind.
--     owner-tenant    it has the tenant
--     owner-whole     a number that has the tenant is that of the tenant and a kind
use Rattle.std.proofs.Common.{◌≡◌, ℕ, zero, suc, ◌/◌, ◌%◌, ◌<◌, refl, arith}
use Rattle.judy_model.specs.declared.commands.Kind.{Kind}
use Rattle.judy_model.specs.declared.commands.Kind.TheVariants.{One, Long, Str, Bytes}
use Rattle.judy_directory.specs.Kinds.{owner_byte}
use Rattle.judy_model.specs.Commands.{kind_number, kind_with}

-- there are four kinds
few-kinds : (kind : Kind) → kind_number kind < 4
few-kinds One = omega arith
few-kinds Long = omega arith
few-kinds Str = omega arith
few-kinds Bytes = omega arith

-- the number of the kind of a number below 4 is this number
pub number-of-kind : (n : ℕ) → n < 4 → kind_number (kind_with n) ≡ n
number-of-kind zero h = refl
number-of-kind (suc zero) h = refl
number-of-kind (suc (suc zero)) h = refl
number-of-kind (suc (suc (suc zero))) h = refl
number-of-kind (suc (suc (suc (suc n)))) h = absurd (omega (arith, h))

-- the number of a tenant and a kind has the tenant
pub owner-tenant : (tenant : ℕ) (kind : Kind) → owner_byte tenant kind / 4 ≡ tenant
owner-tenant tenant kind = let few = few-kinds kind in omega (arith, few)

-- a number that has the tenant is that of the tenant and a kind
pub owner-whole : (tenant owner : ℕ) → owner / 4 ≡ tenant → owner ≡ owner_byte tenant (kind_with (owner % 4))
owner-whole tenant owner same =
    let few : owner % 4 < 4 = omega arith in
    let number = number-of-kind (owner % 4) few in omega (arith, same, number)
