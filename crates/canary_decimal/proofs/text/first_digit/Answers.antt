use Rattle.std.proofs.Common.{ℕ, Option, length, ap, ◌∙◌}
use Rattle.std.specs.Prelude.{unwrap_or}
use Rattle.canary_decimal.specs.Texts.{is_some_digit}
use Rattle.canary_decimal.proofs.ReadsAll.{place_is}
use Rattle.canary_decimal.proofs.text.first_digit.Goals as goal

pub returns-clause-place : goal.returns-clause-place
returns-clause-place c = c.unwrap_or.ensures ∙ ap (λ (o : Option ℕ). unwrap_or o (length c.args.digits.now)) c.found_digit.ensures ∙ place_is is_some_digit c.args.digits.now
