-- The byte of a tenant and a kind, the first byte of the directory's keys, determines both.
use Rattle.std.proofs.Common.{◌≡◌, ◌≢◌, ℕ, zero, suc, ◌+◌, ◌*◌, false, ◌==◌, ap, sym, ◌∙◌, refl, arith}
use Rattle.judy_directory.specs.Kinds.{owner_byte}
use Rattle.judy_model.specs.Commands.{kind_number}
use Rattle.judy_model.specs.declared.commands.Kind.{Kind}
use Rattle.judy_model.specs.declared.commands.Kind.TheVariants.{One, Long, Str, Bytes}
use Rattle.judy_kinds.specs.Kinds.{kind_at}
use Rattle.judy_arena.proofs.lemmas.BlockLaws.{apart}

-- one more tenant means four more kinds
next_byte : (t k : ℕ) → 4 * suc t + k ≡ suc (suc (suc (suc (4 * t + k))))
next_byte t k = omega arith

-- the byte determines the kind
pub kind_at-owner_byte : (t : ℕ) (kind : Kind) → kind_at (owner_byte t kind) ≡ kind
kind_at-owner_byte zero One = refl
kind_at-owner_byte zero Long = refl
kind_at-owner_byte zero Str = refl
kind_at-owner_byte zero Bytes = refl
kind_at-owner_byte (suc t) kind = ap kind_at (next_byte t (kind_number kind)) ∙ kind_at-owner_byte t kind

pub same_kind : (t u : ℕ) (j k : Kind) → owner_byte t j ≡ owner_byte u k → j ≡ k
same_kind t u j k e = sym (kind_at-owner_byte t j) ∙ ap kind_at e ∙ kind_at-owner_byte u k

-- the byte determines the tenant
pub same_tenant : (t u : ℕ) (j k : Kind) → owner_byte t j ≡ owner_byte u k → t ≡ u
same_tenant t u j k e = let numbers : kind_number j ≡ kind_number k = ap kind_number (same_kind t u j k e) in omega arith

pub tenants_apart : (t u : ℕ) (j k : Kind) → u ≢ t → (owner_byte u j == owner_byte t k) ≡ false
tenants_apart t u j k h = apart (owner_byte u j) (owner_byte t k) (λ e. h (same_tenant u t j k e))

pub kinds_apart : (t : ℕ) (j k : Kind) → j ≢ k → (owner_byte t j == owner_byte t k) ≡ false
kinds_apart t j k h = apart (owner_byte t j) (owner_byte t k) (λ e. h (same_kind t t j k e))

-- the tenant of a byte
abbrev pub tenant_of : ℕ → ℕ
tenant_of zero = 0
tenant_of (suc zero) = 0
tenant_of (suc (suc zero)) = 0
tenant_of (suc (suc (suc zero))) = 0
tenant_of (suc (suc (suc (suc n)))) = suc (tenant_of n)

-- each byte belongs to a tenant and a kind
pub owned_byte : (byte : ℕ) → byte ≡ owner_byte (tenant_of byte) (kind_at byte)
owned_byte zero = refl
owned_byte (suc zero) = refl
owned_byte (suc (suc zero)) = refl
owned_byte (suc (suc (suc zero))) = refl
owned_byte (suc (suc (suc (suc n)))) = ap (λ x. suc (suc (suc (suc x)))) (owned_byte n) ∙ sym (next_byte (tenant_of n) (kind_number (kind_at n)))
