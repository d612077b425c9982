use Rattle.std.proofs.Common.{ℕ, Option, length, ap, ◌∙◌}
use Rattle.std.specs.Prelude.{unwrap_or}
use Rattle.canary_decimal.specs.Reader.{is_either}
use Rattle.canary_decimal.proofs.ReadsAll.{place_is}
use Rattle.canary_decimal.proofs.reading.place_of.Goals as goal

pub returns-clause-place : goal.returns-clause-place
returns-clause-place c = c.unwrap_or.ensures ∙ ap (λ (o : Option ℕ). unwrap_or o (length c.args.text.now)) c.found.ensures ∙ place_is (is_either c.args.first c.args.second) c.args.text.now
