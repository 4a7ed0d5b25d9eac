-- A unit below 256, or one that the remainders tell. Assumes nothing.
use mathlib.Core.Path.{ap, ◌∙◌}
use native.Mathlib.Omega.{arith}
use lib.ListN.{get_or}
use Rattle.windows_1252.proofs.Finding.{candidate_low, candidate_high}
use Rattle.windows_1252.proofs.units.Tables.candidate.Goals as goal

pub returns-then-u-lt256 : goal.returns-then-u-lt256
returns-then-u-lt256 c = (c.from.ensures ∙ candidate_low c.args.u (omega arith), omega (arith, c.from.ensures))

pub returns : goal.returns
returns c =
    let t = c.args.self.now in
    (c.from-3.ensures ∙ ap (λ k. get_or t.candidates k 0) c.from-2.ensures ∙ candidate_high t.candidates c.args.u t.tables.candidates (omega arith), omega arith)
