-- The invariant: the first j bytes have been put over the output. Assumes nothing.
use mathlib.Core.Path.{◌≡◌}
use lib.ListN.{take}
use Rattle.format.specs.Stores.{over}
use Rattle.stores.proofs.copy.Given as goal

abbrev pub invariant-loop-j : goal.invariant-loop-j
invariant-loop-j l = l.out ≡ over l.initial.out l.at (take l.j l.t)
