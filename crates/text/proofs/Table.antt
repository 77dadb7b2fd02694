-- The table, by evaluation.
use mathlib.Core.Path.{refl}
use Rattle.text.specs.Decimal.{decimal_in, decimal, signed_decimal}
use Rattle.text.specs.Table.{DecimalTable}

pub table : DecimalTable
unfolding decimal_in decimal signed_decimal
table = record { zero_text = refl; tens_text = refl; most_text = refl; no_sign_text = refl; minus_text = refl }
