-- What the answers of the system mean.
--     got_by read       what a read gave
--     put_by wrote      how much a write took
--     later_codes       the numbers of faults of an accept that may pass
--     may_pass code     a later accept may succeed after a fault of this number
use Rattle.std.specs.Prelude.{ℕ, zero, suc, ℤ, pos, Bool, false, List, [], ◌∷◌, Option, Some, None, Result, Ok, Err}
use Rattle.std.specs.IoError.{error_kind}
use Rattle.std.specs.List.{list_any}
use Rattle.std.specs.Ordering.{int_eq}
use Rattle.std.specs.declared.io.ErrorKind.{ErrorKind}
use Rattle.std.specs.declared.io.ErrorKind.TheVariants as kind
use Rattle.std.specs.declared.io.Error.{Error}
use Rattle.judy_many.specs.declared.network.Got.{Got}
use Rattle.judy_many.specs.declared.network.Got.TheVariants as got
use Rattle.judy_many.specs.declared.network.Put.{Put}
use Rattle.judy_many.specs.declared.network.Put.TheVariants as put

-- nothing more has come, or the connection is broken
abbrev pub got_for : ErrorKind → Got
got_for kind.WouldBlock = got.Nothing
got_for _ = got.Fault

-- a read of no byte is the end
abbrev pub got_by : Result ℕ Error → Got
got_by (Ok zero) = got.End
got_by (Ok (suc n)) = got.Bytes (suc n)
got_by (Err e) = got_for (error_kind e)

-- nothing is taken now, or the connection is broken
abbrev pub put_for : ErrorKind → Put
put_for kind.WouldBlock = put.Took 0
put_for _ = put.Fault

abbrev pub put_by : Result ℕ Error → Put
put_by (Ok n) = put.Took n
put_by (Err e) = put_for (error_kind e)

-- EINTR, ENOMEM, ENFILE, EMFILE, EPROTO, ECONNABORTED, ENOBUFS
abbrev pub later_codes : List ℤ
later_codes = pos 4 ∷ pos 12 ∷ pos 23 ∷ pos 24 ∷ pos 71 ∷ pos 103 ∷ pos 105 ∷ []

abbrev pub may_pass : Option ℤ → Bool
may_pass None = false
may_pass (Some code) = list_any (λ other. int_eq other code) later_codes
