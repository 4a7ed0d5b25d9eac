-- A unit from its two bytes. Assumes nothing.
use mathlib.Core.Path.{sym, ◌∙◌}
use Rattle.windows_1252_table.proofs.Laws.Utf16.{unit_at}
use Rattle.windows_1252.proofs.units.unit_in.Goals as goal

pub returns : goal.returns
returns c =
    c.unit.ensures ∙ sym (unit_at c.args.s.now c.args.i c.requires)
