-- A unit below 128 is its own byte; for others the candidate is looked at. Assumes nothing.
use mathlib.Core.Path.{refl, ◌∙◌}
use native.Mathlib.Omega.{arith}
use Rattle.windows_1252.proofs.Finding.{byte_low, candidate_found, candidate_missing}
use Rattle.windows_1252.proofs.Putting.{unit_read}
use Rattle.windows_1252.proofs.units.Tables.byte_of.Goals as goal

pub returns-then-u-lt-OWN : goal.returns-then-u-lt-OWN
returns-then-u-lt-OWN c = byte_low c.args.u (omega arith)

pub returns-then-self-b : goal.returns-then-self-b
returns-then-self-b c =
    let k = c.candidate-b.ensures in
    let e = unit_read c.args.self.now.units {b = c.candidate-b.result} c.args.self.now.tables.units refl in
    candidate_found c.args.u k.0 k.1 (omega (arith, e, c.if-self-b.true))

pub returns : goal.returns
returns c =
    let e = unit_read c.args.self.now.units {b = c.candidate-b.result} c.args.self.now.tables.units refl in
    candidate_missing c.args.u c.candidate-b.ensures.0 (λ z. c.if-self-b.false (e ∙ z))
