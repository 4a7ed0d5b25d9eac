-- What does not fit is left, and what fits is copied. Assumes nothing.
use native.Mathlib.Omega.{arith}
use Rattle.stores.specs.Laws.{stored_put, not_put}
use Rattle.stores.proofs.put.Goals as goal

pub returns-then-out-at : goal.returns-then-out-at
returns-then-out-at c = let a = c.args in not_put a.out.now a.at a.t.now (omega arith)

pub returns-then-out-at-2 : goal.returns-then-out-at-2
returns-then-out-at-2 c = let a = c.args in not_put a.out.now a.at a.t.now (omega arith)

pub returns : goal.returns
returns c = stored_put (omega arith) c.copy_blocks.ensures
