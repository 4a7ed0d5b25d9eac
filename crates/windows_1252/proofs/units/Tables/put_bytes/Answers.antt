use mathlib.Core.Path.{sym, ap, ◌∙◌}
use native.Mathlib.Omega.{arith}
use Rattle.std.specs.Option.{is_some}
use Rattle.std.proofs.lemmas.Option.{same_Some}
use Rattle.windows_1252_table.specs.Utf16.{from_utf16}
use Rattle.windows_1252_table.proofs.Laws.Utf16.{length_from_utf16}
use Rattle.windows_1252.proofs.Putting.{start, unit_byte, next, all}
use Rattle.windows_1252.proofs.units.Tables.put_bytes.Goals as goal

pub loop-i-init : goal.loop-i-init
loop-i-init c = start _ _

pub unwrap-requires : goal.unwrap-requires
unwrap-requires c =
    ap is_some (unit_byte c.args.s.now c.loop-i.i c.loop-i-test.true c.byte_of.ensures c.unit_in.ensures c.requires.0)

pub loop-i-preserved : goal.loop-i-preserved
loop-i-preserved c =
    let a = c.args in
    let long = length_from_utf16 a.s.now in
    next (from_utf16 a.s.now) a.out.now c.loop-i.out c.loop-i.i c.unwrap.result (omega (arith, long)) (omega (arith, long))
    (same_Some _ _ (sym c.unwrap.ensures ∙ unit_byte a.s.now c.loop-i.i c.loop-i-test.true c.byte_of.ensures c.unit_in.ensures c.requires.0)) c.loop-i.invariant

pub returns : goal.returns
returns c =
    let a = c.args in
    let long = length_from_utf16 a.s.now in
    all (from_utf16 a.s.now) a.out.now c.loop-i.out c.loop-i.i (omega (arith, long)) c.loop-i.invariant
