-- What a test implies when it holds.
use Rattle.std.proofs.Math.Dec.{T}
use Rattle.std.proofs.Common.{◌≡◌, Bool, true, false, cond, not, ◌&&◌, Result, Ok, Err, OnErr, refl}
use Rattle.std.specs.declared.cmp.Ordering.{Ordering}
use Rattle.std.specs.declared.cmp.Ordering.TheVariants.{Less, Equal, Greater}
use Rattle.std.specs.Ordering.{is_eq, is_lt}
use Rattle.std.proofs.lemmas.Bool.{and_parts}

-- of two tests, the first holds
pub and_left : (a b : Bool) → (a && b) ≡ true → a ≡ true
and_left a b h = (and_parts a b h).0

-- and the second
pub and_right : (a b : Bool) → (a && b) ≡ true → b ≡ true
and_right a b h = (and_parts a b h).1

-- keys that compare equal are equal
pub is_Equal : (r : Ordering) → is_eq r ≡ true → r ≡ Equal
is_Equal Less e = cc
is_Equal Equal e = refl
is_Equal Greater e = cc

-- an order that tests less is less
pub is_Less : (r : Ordering) → is_lt r ≡ true → r ≡ Less
is_Less Less e = refl
is_Less Equal e = cc
is_Less Greater e = cc

-- a test has one outcome
pub not_both : (b : Bool) → b ≡ true → b ≡ false → ⊥
not_both b h e = cc

-- the two ways to say that a test holds
pub to_T : (b : Bool) → b ≡ true → T b
to_T true h = tt
to_T false h = cc

-- and back
pub from_T : (b : Bool) → T b → b ≡ true
from_T true h = refl
from_T false h = absurd h

-- a choice by the opposite test is turned round
pub turned : {A : Type 0} (b : Bool) (x y : A) → cond (not b) x y ≡ cond b y x
turned true x y = refl
turned false x y = refl

-- what holds anyhow holds of an error
pub on_err : {A E P : Type 0} (r : Result A E) → P → OnErr r P
on_err (Ok x) p = tt
on_err (Err e) p = p
