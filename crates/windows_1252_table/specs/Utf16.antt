-- Text in windows-1252 and in UTF-16, the low byte of a unit first (Rules 14.4 to 14.7). No word of buffers.
-- Assumes nothing.
use Rattle.std.specs.Prelude.{Bool, true, cond, ◌&&◌, List, [], ◌∷◌, map, ℕ, ◌%◌, length, eqb}
use Rattle.format.specs.Bytes.{le, num, join}
use Rattle.format.specs.Good.{member}
use Rattle.windows_1252_table.specs.Table.{table, unit_of, byte_of}

-- Rule 14.4: units as bytes
unfoldable pub unit_bytes : List ℕ → List ℕ
unit_bytes us = join (map (le 2) us)

-- Rule 14.4: the whole units of some bytes; half a unit at the end is left out
unfoldable pub units_in : List ℕ → List ℕ
units_in [] = []
units_in (a ∷ []) = []
units_in (a ∷ b ∷ s) = num 2 (a ∷ b ∷ []) ∷ units_in s

-- Rule 14.5: bytes of windows-1252 in UTF-16
unfoldable pub to_utf16 : List ℕ → List ℕ
to_utf16 bytes = unit_bytes (map unit_of bytes)

-- every unit is in the table
unfoldable pub all_in_table : List ℕ → Bool
all_in_table [] = true
all_in_table (u ∷ us) = member u table && all_in_table us

-- Rule 14.6: no half unit, and every unit is in the table
abbrev pub whole_test : List ℕ → Bool
whole_test s = eqb (length s % 2) 0 && all_in_table (units_in s)

-- Rule 14.6: the refusal of some bytes as UTF-16, 0 for none
unfoldable pub utf16_refusal : List ℕ → ℕ
utf16_refusal s = cond (whole_test s) 0 18

-- Rule 14.7: UTF-16 in windows-1252
unfoldable pub from_utf16 : List ℕ → List ℕ
from_utf16 s = map byte_of (units_in s)
