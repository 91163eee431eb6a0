-- Whether an accept brought a client.
use Rattle.std.specs.Prelude.{Bool, true, false}
use Rattle.judy_many.specs.declared.arrivals.Arrival.{Arrival}
use Rattle.judy_many.specs.declared.arrivals.Arrival.TheVariants as arrival

abbrev pub has_come : Arrival → Bool
has_come arrival.Came = true
has_come arrival.Nothing = false
has_come arrival.Later = false
has_come arrival.Fault = false
