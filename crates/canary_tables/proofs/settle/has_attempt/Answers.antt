use Rattle.std.proofs.lemmas.Result.{IfOk-weaker}
use Rattle.canary_tables.proofs.settle.has_attempt.Goals as goal

pub returns-then-begins-clause-found : goal.returns-then-begins-clause-found
returns-then-begins-clause-found g c usable t stored = IfOk-weaker c.has_rows.result _ _ (λ has e _. e) (c.has_rows.ensures.found usable t stored)
