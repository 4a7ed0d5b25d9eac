use mathlib.Core.Path.{ap}
use Prim.Native.Nat.{◌*◌}
use native.Mathlib.Omega.{arith}
use lib.ListN.{get_or}
use Rattle.windows_1252_table.specs.Utf16.{to_utf16}
use Rattle.windows_1252_table.proofs.Laws.Utf16.{length_to_utf16}
use Rattle.windows_1252.proofs.Putting.{start, next_unit, all}
use Rattle.windows_1252.proofs.put_units.Goals as goal

pub loop-i-init : goal.loop-i-init
loop-i-init c = start (to_utf16 c.args.bytes.now) c.args.out.now

pub loop-i-preserved : goal.loop-i-preserved
loop-i-preserved c =
    let a = c.args in
    let e = c.to_le_bytes.ensures in
    next_unit a.bytes.now a.out.now c.loop-i.out c.loop-i.i _ _ c.unit_of.result (omega arith) (omega arith) c.unit_of.ensures
    (omega (arith, ap (λ l. get_or l 0 0) e)) (omega (arith, ap (λ l. get_or l 1 0) e)) c.loop-i.invariant

pub returns : goal.returns
returns c =
    let a = c.args in
    all (to_utf16 a.bytes.now) a.out.now c.loop-i.out (2 * c.loop-i.i) (omega (arith, length_to_utf16 a.bytes.now)) c.loop-i.invariant
