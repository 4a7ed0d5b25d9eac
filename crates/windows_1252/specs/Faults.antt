-- What going back refuses, and what the call answers of it. Nothing of it has to be believed: the promises of the calls do
-- not cite it.
-- Assumes nothing.
use Rattle.std.specs.Prelude.{Bool, cond, ℕ, Result, Ok, Err}
use Rattle.format.specs.declared.Written.{Written}
use Rattle.windows_1252.specs.declared.Fault.{Fault}
use Rattle.windows_1252.specs.declared.Fault.TheVariants.{Units, Room}

-- what is refused first, by whether the units are right and whether their bytes fit the output
abbrev pub fault_of : Bool → Bool → Result (Unit {0}) Fault
fault_of right fits = cond right (cond fits (Ok tt) (Err Room)) (Err Units)

-- the answer of a call
abbrev pub told : Result ℕ Fault → Written
told (Ok n) = record { refusal = 0; length = n }
told (Err Units) = record { refusal = 18; length = 0 }
told (Err Room) = record { refusal = 15; length = 0 }
