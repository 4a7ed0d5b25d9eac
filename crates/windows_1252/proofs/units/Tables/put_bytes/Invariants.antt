-- The invariant: the bytes of the first i units lie over the start of the output. Assumes nothing.
use mathlib.Core.Path.{◌≡◌}
use Rattle.windows_1252_table.specs.Utf16.{from_utf16}
use Rattle.windows_1252.proofs.Putting.{started}
use Rattle.windows_1252.proofs.units.Tables.put_bytes.Given as goal

abbrev pub invariant-loop-i : goal.invariant-loop-i
invariant-loop-i l = l.out ≡ started (from_utf16 l.s) l.i l.initial.out
