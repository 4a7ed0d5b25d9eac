-- The two conversions as calls (Rules 14.5 and 14.8): the answer and the lent output.
-- Assumes nothing.
use Rattle.std.specs.Prelude.{List, ℕ}
use Rattle.format.specs.Writing.{Output, writing_as}
use Rattle.windows_1252_table.specs.Utf16.{to_utf16, utf16_refusal, from_utf16}

-- Rule 14.5: to UTF-16, over the start of the output
unfoldable pub writing_utf16 : List ℕ → List ℕ → Output
writing_utf16 bytes out = writing_as 0 (to_utf16 bytes) out

-- Rule 14.8: from UTF-16, over the start of the output
unfoldable pub writing_bytes : List ℕ → List ℕ → Output
writing_bytes s out = writing_as (utf16_refusal s) (from_utf16 s) out
