use Rattle.std.proofs.Common.{◌≡◌, true, false, rules, subst}
use Rattle.std.specs.Prelude.{string_bytes}
use Rattle.canary_condition.specs.Reading.{IsConditionText}
use Rattle.canary_argo.specs.Grouping.{are_closed}
use Rattle.canary_argo.proofs.SameValues.{translated as is_translated}
use Rattle.canary_argo.proofs.translation.translated.Goals as goal

pub returns : goal.returns
returns c =
    let closed : are_closed false c.args.items.now ≡ true = search rules in
    let signs = c.in_ok-check_signs.ensures in
    let other = c.in_ok-check.ensures in
    let condition = subst (λ r. IsConditionText r other.0) c.as_str.ensures.value other.1 in
    is_translated c.compares_as_decimals.ensures c.short_constants.ensures c.args.form c.args.items.now signs.0 other.0 (string_bytes c.in_ok-text.text) closed signs.1 c.in_ok-text.ensures.fits c.in_ok-text.ensures.text condition
