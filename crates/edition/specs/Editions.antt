-- An edition as a number, and the width of its units (Rule 3.2).
-- Assumes nothing.
use Rattle.std.specs.Prelude.{cond, ℕ, eqb}
use Rattle.format.specs.declared.Edition.{Edition}
use Rattle.format.specs.declared.Edition.TheVariants.{Unicode, Ansi}
use Rattle.format.specs.Text.{width}

-- Rule 3.2: an edition as a number: 0 is Unicode, every other number ANSI
abbrev pub edition_of : ℕ → Edition
edition_of n = cond (eqb n 0) Unicode Ansi

-- Rule 3.2: the width of its units
abbrev pub unit_of : ℕ → ℕ
unit_of n = width (edition_of n)
