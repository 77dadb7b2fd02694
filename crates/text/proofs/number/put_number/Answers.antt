use Rattle.text.proofs.Digits.{front_decimal}
use Rattle.text.proofs.number.put_number.Goals as goal

pub returns-clause-put : goal.returns-clause-put
returns-clause-put c =
    let spelt = front_decimal _ c.decimal-k.ensures.len c.decimal-k.ensures.digits in
    rw spelt at c.put.ensures
