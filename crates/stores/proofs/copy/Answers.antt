use mathlib.Core.Path.{sym, ap, ◌∙◌}
use Prim.Native.Nat.{◌+◌}
use native.Mathlib.Omega.{arith}
use lib.ListN.{set}
use Rattle.format.proofs.Laws.Stores.{over_nothing, over_next}
use Rattle.stores.proofs.copy.Goals as goal

pub loop-j-init : goal.loop-j-init
loop-j-init c = sym (over_nothing c.args.out.now c.args.at)

pub loop-j-preserved : goal.loop-j-preserved
loop-j-preserved c =
    let a = c.args in
    let k = c.loop-j.j in
    ap (set c.loop-j.out (a.at + k)) (omega arith)
    ∙ over_next a.out.now c.loop-j.out a.at k a.t.now (omega arith) (omega arith) c.loop-j.invariant
