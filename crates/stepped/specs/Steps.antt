-- The struct that C is given for a step's answer, in the place of an enum (Rule 4.22).
-- Assumes nothing.
use Rattle.std.specs.Prelude.{ℕ, Result, Ok, Err}
use Rattle.format.specs.declared.Record.{Record}
use Rattle.format.specs.declared.Refused.{Refused}
use Rattle.format.specs.Judge.{no_refusal}
use Rattle.parts.specs.Shown.{empty_record}
use Rattle.stepped.specs.declared.Stepped.{Stepped}

-- Rule 4.22: a step's answer, asked for at a place
abbrev pub stepped : Result Record Refused → ℕ → Stepped
stepped (Ok a) p = record { refusal = no_refusal; at = p; found = a }
stepped (Err x) p = record { refusal = x.refusal; at = p; found = empty_record }
