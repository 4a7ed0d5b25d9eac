use Rattle.decimal.specs.Laws.{digit_put, digits_put}
use Rattle.decimal.proofs.+put_decimal.Goals as goal

pub returns-then-n-lt10 : goal.returns-then-n-lt10
returns-then-n-lt10 t c =
    let a = c.args in
    digit_put a.out.now a.at a.n c.if-n-lt10.true c.put.ensures

pub returns : goal.returns
returns t c =
    let a = c.args in
    digits_put a.out.now a.at a.n c.if-n-lt10.false c.put_decimal-p.ensures c.put-2.ensures
