-- What is left over the whole blocks lies in the last one. Assumes nothing.
use Prim.Native.Nat.{◌-◌, ◌%◌}
use native.Mathlib.Omega.{arith}
use lib.ListN.{length}
use Rattle.stores.proofs.Blocks.{stored_last}
use Rattle.stores.proofs.copy_whole.Goals as goal

pub returns : goal.returns
returns c =
    let t = c.args.t.now in
    stored_last (length t - length t % 32) c.copy.ensures c.copy_block.ensures
    (omega arith) (omega arith) (omega arith) (omega arith)
