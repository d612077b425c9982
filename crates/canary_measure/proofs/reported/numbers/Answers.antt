use Rattle.std.proofs.Common.{◌≡◌, ◌++◌, [], ◌∷◌, ℤ, ap, ◌∙◌, rules}
use Rattle.std.specs.Int.{w64}
use mir.Val.{to_z, of_z}
use Rattle.canary_measure.proofs.Lists.{one_more, none_at}
use Rattle.canary_measure.proofs.reported.numbers.Goals as goal

pub returns-in_default-clause-stand : goal.returns-in_default-clause-stand
returns-in_default-clause-stand c =
    none_at c.args.form.beside c.args.form.places c.args.values.now c.loop-given.given-index c.given-item.result c.loop-given-test.true c.given-item.is c.in_default.ensures

pub loop-given-preserved : goal.loop-given-preserved
loop-given-preserved c =
    let z = c.in-Some.number in
    let back : to_z w64 (of_z w64 z) ≡ z = search rules in
    let pushed : c.push.new.self.items ≡ c.loop-given.numbers.items ++ z ∷ [] = c.push.ensures.items ∙ ap (λ (y : ℤ). c.loop-given.numbers.items ++ y ∷ []) back in
    record {
      stand = one_more c.args.form.beside c.args.form.places c.args.values.now c.loop-given.given-index c.given-item.result c.loop-given.numbers.items c.push.new.self.items z c.loop-given-test.true c.given-item.is c.loop-given.invariant.stand c.in-Some.ensures pushed;
      count = search rules;
    }
