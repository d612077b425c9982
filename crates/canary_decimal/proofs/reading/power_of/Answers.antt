use Rattle.std.proofs.Common.{◌∙◌, sym}
use Rattle.canary_decimal.proofs.ReadsAll.{power_is}
use Rattle.canary_decimal.proofs.reading.power_of.Goals as goal

pub returns-then-digits-le-MAX_EXPONENT_DIGITS-clause-power :
    goal.returns-then-digits-le-MAX_EXPONENT_DIGITS-clause-power
returns-then-digits-le-MAX_EXPONENT_DIGITS-clause-power c = (power_is c.args.digits.now c.leading.result (sym c.is_digits.ensures ∙ c.if-is_digits.true) c.if-digits-le-MAX_EXPONENT_DIGITS.true c.leading.ensures).0

pub returns-then-digits-le-MAX_EXPONENT_DIGITS-clause-few :
    goal.returns-then-digits-le-MAX_EXPONENT_DIGITS-clause-few
returns-then-digits-le-MAX_EXPONENT_DIGITS-clause-few c = (power_is c.args.digits.now c.leading.result (sym c.is_digits.ensures ∙ c.if-is_digits.true) c.if-digits-le-MAX_EXPONENT_DIGITS.true c.leading.ensures).1
