-- The block at the end reaches back to the first one. Assumes nothing.
use native.Mathlib.Omega.{arith}
use Rattle.stores.proofs.Blocks.{stored_first, stored_last}
use Rattle.stores.proofs.copy_ends.Goals as goal

pub returns : goal.returns
returns c =
    stored_last c.args.n (stored_first c.copy_block.ensures) c.copy_block-2.ensures
    (omega arith) (omega arith) (omega arith) (omega arith)
