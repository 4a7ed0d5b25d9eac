-- As many as the greatest power of ten in the number says; 0 has none in it. What the laws ask is worked out from what the
-- logarithm says of its operand, so that a wrong operand fails by its numbers. Assumes nothing.
use mathlib.Core.Bool.{false≢true}
use Prim.Native.Nat.{◌≤◌, ◌<◌}
use native.Mathlib.Omega.{arith}
use Rattle.std.proofs.Common.{lt_of_not-le}
use Rattle.decimal.specs.Laws.{decimal_one, decimal_short, decimal_between}
use Rattle.decimal.proofs.count_digits.Goals as goal

pub returns-in-Some : goal.returns-in-Some
returns-in-Some c =
    let n = c.args.n in
    let e = decimal_between c.in-Some.k n (omega (arith, c.in-Some.ensures.power_le)) (omega (arith, c.in-Some.ensures.next_power_gt)) in
    (omega (arith, e), omega (arith, e, decimal_short n (omega arith)))

pub returns-in-None : goal.returns-in-None
returns-in-None c =
    let n = c.args.n in
    let small : n < 10 = lt_of_not-le (λ (h : 10 ≤ n). false≢true (c.in-None.ensures.variant.1 (omega (arith, h), omega arith))) in
    (omega (arith, decimal_one n small), omega arith)
