use Rattle.std.proofs.Common.{◌≡◌, ℤ, pos, negsuc, true, false, ◌∷◌, [], ◌++◌, refl, sym, ap, ◌∙◌, arith, ltb-true}
use Rattle.std.proofs.lemmas.Int.{to_z-of_z}
use Rattle.std.specs.Prelude.{int_lt, unsigned_abs}
use Rattle.text.specs.Decimal.{decimal, signed_decimal}
use Rattle.text.proofs.number.put_signed.Goals as goal

below_zero : (z : ℤ) → int_lt z (pos 0) ≡ true → signed_decimal z ≡ (45 ∷ []) ++ decimal (unsigned_abs z)
unfolding signed_decimal
below_zero (pos n) e = absurd (omega (arith, ltb-true n 0 e))
below_zero (negsuc n) e = refl

from_zero : (z : ℤ) → int_lt z (pos 0) ≡ false → signed_decimal z ≡ decimal (unsigned_abs z)
unfolding signed_decimal
from_zero (pos n) e = refl
from_zero (negsuc n) e = cc

pub returns-then-n-lt0-clause-put : goal.returns-then-n-lt0-clause-put
returns-then-n-lt0-clause-put c =
    let n = to_z-of_z _ _ c.ranges.n in
    let digits = rw n at c.unsigned_abs.ensures.value in
    let text = below_zero c.args.n (rw n at c.if-n-lt0.true) in
    rw (text ∙ ap (λ d. (45 ∷ []) ++ decimal d) (sym digits)) c.put_labelled.ensures.put

pub returns-else-n-lt0-clause-put : goal.returns-else-n-lt0-clause-put
returns-else-n-lt0-clause-put c =
    let n = to_z-of_z _ _ c.ranges.n in
    let digits = rw n at c.unsigned_abs-else-n-lt0.ensures.value in
    let text = from_zero c.args.n (rw n at c.if-n-lt0.false) in
    rw (text ∙ ap decimal (sym digits)) c.put_number.ensures.put
