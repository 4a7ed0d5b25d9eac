-- The output is too short, or the units are put. Assumes nothing.
use mathlib.Core.Path.{sym, ◌∙◌}
use native.Mathlib.Omega.{arith}
use Rattle.windows_1252_table.specs.Utf16.{to_utf16}
use Rattle.windows_1252.specs.Theorems.{utf16_size, utf16_written, utf16_no_room}
use Rattle.windows_1252.proofs.Putting.{put_all}
use Rattle.windows_1252.proofs.to_utf16.Goals as goal

pub returns-then-out-bytes : goal.returns-then-out-bytes
returns-then-out-bytes c = let a = c.args in sym (utf16_no_room a.bytes.now a.out.now (omega arith))

pub returns : goal.returns
returns c =
    let a = c.args in
    put_all (to_utf16 a.bytes.now) a.out.now c.put_units.new.out (utf16_size a.bytes.now) c.put_units.ensures
    ∙ sym (utf16_written a.bytes.now a.out.now (omega arith))
