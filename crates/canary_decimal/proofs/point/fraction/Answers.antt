use Rattle.std.proofs.Common.{◌<◌, ap, ◌∙◌, rules, arith}
use Rattle.arrayvec.specs.ArrayString.{ArrayString}
use Rattle.canary_decimal.proofs.PointLemmas.{all_digits_found, digit_below, digit_taken, none_taken}
use Rattle.canary_decimal.proofs.point.fraction.Goals as goal
use Rattle.canary_decimal.proofs.point.fraction.Goals.{then-rest-ne0, else-rest-ne0}

pub loop-preserved : goal.loop-preserved
loop-preserved c =
    let below : c.loop.rest < c.unit-unit.result = omega (arith, c.loop.invariant.below, c.unit-unit.ensures.value) in
    let small = digit_below c.loop.rest c.unit-unit.result c.unit-unit.ensures.some below in
    elim c.if-rest-ne0.branch [
      | then-rest-ne0 w ↦
          digit_taken c.loop.text.bytes c.if-rest-ne0.text.bytes c.loop.rest c.if-rest-ne0.rest c.args.part c.args.places c.loop.counter c.unit-unit.result w.digit.result
          c.unit-unit.ensures.value c.unit-unit.ensures.some c.loop.invariant (omega (arith, w.if-rest-ne0.true)) w.digit.ensures (ap (λ (t : ArrayString). t.bytes) w.text-is ∙ w.push.ensures.ascii (omega (arith, w.digit.ensures))) w.rest-is
      | else-rest-ne0 w ↦
          none_taken c.loop.text.bytes c.if-rest-ne0.text.bytes c.loop.rest c.if-rest-ne0.rest c.args.part c.args.places c.loop.counter
          c.loop.invariant (omega (arith, w.if-rest-ne0.false)) (search rules) w.rest-is
    ]

pub returns : goal.returns
returns c =
    all_digits_found c.loop.text.bytes c.loop.rest c.args.part c.args.places c.loop.counter c.loop.invariant (omega (arith, c.loop-test.false, c.loop.auto.counter-end))
