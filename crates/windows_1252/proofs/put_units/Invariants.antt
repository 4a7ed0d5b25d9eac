-- The invariant: the units of the first i bytes lie over the start of the output. Assumes nothing.
use mathlib.Core.Path.{◌≡◌}
use Prim.Native.Nat.{◌*◌}
use Rattle.windows_1252_table.specs.Utf16.{to_utf16}
use Rattle.windows_1252.proofs.Putting.{started}
use Rattle.windows_1252.proofs.put_units.Given as goal

abbrev pub invariant-loop-i : goal.invariant-loop-i
invariant-loop-i l = l.out ≡ started (to_utf16 l.bytes) (2 * l.i) l.initial.out
