use mathlib.Core.Path.{sym, ◌∙◌}
use native.Mathlib.Omega.{arith}
use Rattle.windows_1252.proofs.Finding.{rest_all, rest_none, rest_outside, rest_next}
use Rattle.windows_1252.proofs.units.Tables.all_in_table.Goals as goal

pub loop-i-init : goal.loop-i-init
loop-i-init c = rest_all _

pub returns-then-is_none : goal.returns-then-is_none
returns-then-is_none c =
    rest_outside c.args.s.now c.loop-i.i c.loop-i-test.true c.byte_of.ensures c.unit_in.ensures c.if-is_none.ensures
    ∙ sym c.loop-i.invariant

pub loop-i-preserved : goal.loop-i-preserved
loop-i-preserved c =
    c.loop-i.invariant
    ∙ rest_next c.args.s.now c.loop-i.i c.loop-i-test.true c.byte_of.ensures c.unit_in.ensures c.if-is_none.ensures

pub returns : goal.returns
returns c =
    rest_none c.args.s.now c.loop-i.i (omega arith)
    ∙ sym c.loop-i.invariant
