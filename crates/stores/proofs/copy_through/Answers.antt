-- What was read is what is written. Assumes nothing.
use native.Mathlib.Omega.{arith}
use Rattle.stores.proofs.Blocks.{stored_through}
use Rattle.stores.proofs.copy_through.Goals as goal

pub returns : goal.returns
returns c =
    stored_through (omega arith) c.copy.ensures c.copy-2.ensures
