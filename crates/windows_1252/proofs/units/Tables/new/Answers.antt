-- What is made are the two tables. Assumes nothing.
use mathlib.Core.Path.{refl}
use Rattle.windows_1252_table.specs.Table.{table}
use Rattle.windows_1252.specs.Code.{candidate_bytes}
use Rattle.windows_1252.proofs.units.Tables.new.Goals as goal

pub invariant_of-result : goal.invariant_of-result
unfolding table candidate_bytes
invariant_of-result c = record { tables = record { units = refl; candidates = refl } }
