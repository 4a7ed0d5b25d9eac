-- The number's digits, and one byte after them. Assumes nothing.
use Rattle.decimal.specs.Decimal.{decimal, field}
use Rattle.decimal.specs.Laws.{each_then}
use Rattle.decimal.proofs.put_field.Goals as goal

pub returns : goal.returns
unfolding field
returns c =
    let a = c.args in
    each_then a.out.now a.at (decimal a.n) a.after c.put_decimal-p.ensures c.put.ensures
