use Rattle.std.proofs.Common.{sym, ap, subst}
use Rattle.std.specs.FinMap as map
use Rattle.canary_once.specs.Contents.{HaveReceipts}
use Rattle.canary_once.proofs.CallerMaps.{none_have}
use Rattle.canary_once.proofs.callers.Callers.new.Goals as goal

pub invariant_of-result : goal.invariant_of-result
invariant_of-result c = subst HaveReceipts (sym (ap map.from_entries c.new.ensures.empty)) none_have
