-- The unit at the byte's place. Assumes nothing.
use Rattle.windows_1252.proofs.Putting.{unit_read}
use Rattle.windows_1252.proofs.units.Tables.unit_of.Goals as goal

pub returns : goal.returns
returns c =
    unit_read c.args.self.now.units c.args.self.now.tables.units c.from.ensures
