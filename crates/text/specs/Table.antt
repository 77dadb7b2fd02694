-- Examples of numbers as text, as one statement.
use Rattle.std.specs.Prelude.{◌≡◌, pos, negsuc}
use Rattle.text.specs.Ascii.{ascii}
use Rattle.text.specs.Decimal.{decimal, signed_decimal}

pub record DecimalTable : Type 0 where
  pub zero_text : decimal 0 ≡ ascii "0"
  pub tens_text : decimal 1020 ≡ ascii "1020"
  pub most_text : decimal 18446744073709551615 ≡ ascii "18446744073709551615"
  pub no_sign_text : signed_decimal (pos 0) ≡ ascii "0"
  pub minus_text : signed_decimal (negsuc 9) ≡ ascii "-10"
