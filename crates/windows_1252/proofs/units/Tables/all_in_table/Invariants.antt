-- The invariant: all units are in the table exactly if those from number i on are. Assumes nothing.
use mathlib.Core.Path.{◌≡◌}
use Rattle.windows_1252_table.specs.Utf16.{units_in, all_in_table}
use Rattle.windows_1252.proofs.Finding.{rest_in_table}
use Rattle.windows_1252.proofs.units.Tables.all_in_table.Given as goal

abbrev pub invariant-loop-i : goal.invariant-loop-i
invariant-loop-i l = all_in_table (units_in l.s) ≡ rest_in_table l.s l.i
