use Rattle.std.proofs.Common.{ap, ◌∙◌}
use Rattle.canary_tables.specs.CacheMaps.{weights}
use Rattle.canary_tables.proofs.EntryLemmas.{weights_entered}
use Rattle.canary_tables.proofs.cache_map.enter.Goals as goal

pub returns-in-Ok-clause-weights : goal.returns-in-Ok-clause-weights
returns-in-Ok-clause-weights g c = ap weights c.in-Ok.ensures.entries ∙ weights_entered c.args.entries.now.entries c.args.name (record { value = c.args.value; weight = c.args.weight }) c.requires.free
