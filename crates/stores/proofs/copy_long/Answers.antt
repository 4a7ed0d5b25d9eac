use mathlib.Core.Path.{refl, sym, subst}
use Prim.Native.Nat.{◌+◌, ◌-◌}
use native.Mathlib.Nat.{add-sub_cancel_left}
use native.Mathlib.Omega.{arith}
use lib.ListN.{length}
use lib.Seq.{length-take-le}
use Rattle.format.specs.Bytes.{part}
use Rattle.format.specs.Stores.{Stored}
use Rattle.format.proofs.Laws.Stores.{stored_kept, over_nothing}
use Rattle.stores.specs.Laws.{StoredPart}
use Rattle.stores.proofs.Blocks.{stored_next, stored_last}
use Rattle.stores.proofs.copy_long.Goals as goal

pub loop-i-init : goal.loop-i-init
loop-i-init c = (omega arith, refl, record { place = refl; bytes = sym (over_nothing _ _) })

pub loop-i-preserved : goal.loop-i-preserved
loop-i-preserved c =
    let a = c.args in
    let p = c.copy_page in
    let page : Stored c.loop-i.out (a.at + c.loop-i.i) (part c.loop-i.i 65536 a.t.now) p.result p.new.out =
    subst (λ k. Stored c.loop-i.out (a.at + c.loop-i.i) (part c.loop-i.i k a.t.now) p.result p.new.out) (add-sub_cancel_left c.loop-i.i 65536) p.ensures in
    let next = stored_next a.t.now c.loop-i.i 65536 (omega arith) (omega arith) c.loop-i.invariant.2 page in
    (omega arith, stored_kept (omega (arith, length-take-le (c.loop-i.i + 65536) a.t.now (omega arith))) next, next)

pub returns : goal.returns
returns c =
    let a = c.args in
    let p = c.copy_page-2 in
    let rest : StoredPart c.loop-i.out a.at a.t.now c.loop-i.i (length a.t.now - c.loop-i.i) p.result p.new.out =
    record { stored = p.ensures } in
    stored_last c.loop-i.i c.loop-i.invariant.2 rest
    (omega arith) (omega arith) (omega arith) (omega arith)
