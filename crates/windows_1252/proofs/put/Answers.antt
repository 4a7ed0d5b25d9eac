-- What is refused, or the bytes are put. Assumes nothing.
use mathlib.Core.Path.{refl, sym, ◌∙◌}
use Rattle.std.proofs.lemmas.Result.{err_from_is_err_and}
use Rattle.windows_1252_table.specs.Utf16.{from_utf16}
use Rattle.windows_1252_table.proofs.Laws.Utf16.{length_from_utf16}
use Rattle.windows_1252.specs.Theorems.{bytes_written}
use Rattle.windows_1252.proofs.Refusing.{refused_told, not_refused}
use Rattle.windows_1252.proofs.Putting.{put_all}
use Rattle.windows_1252.proofs.put.Goals as goal

pub returns-in_err-judge : goal.returns-in_err-judge
returns-in_err-judge c =
    let a = c.args in
    let p = err_from_is_err_and c.from_residual.result c.from_residual.ensures.1 in
    rw (p.1, p.2) (refused_told a.units.now a.out.now c.accepts-right.ensures refl (sym c.in_err-judge.was ∙ c.judge.ensures))

pub put_bytes-requires : goal.put_bytes-requires
put_bytes-requires c =
    let a = c.args in
    not_refused a.units.now a.out.now c.accepts-right.ensures refl (sym c.in_ok-judge.was ∙ c.judge.ensures)

pub returns : goal.returns
returns c =
    let a = c.args in
    let good = not_refused a.units.now a.out.now c.accepts-right.ensures refl (sym c.in_ok-judge.was ∙ c.judge.ensures) in
    put_all (from_utf16 a.units.now) a.out.now c.put_bytes.new.out (length_from_utf16 a.units.now) c.put_bytes.ensures
    ∙ sym (bytes_written a.units.now a.out.now good.0 good.1)
