use Rattle.std.proofs.Common.{sym, ap, ◌∙◌}
use Rattle.std.specs.FinMap as map
use Rattle.canary_tables.specs.CacheMaps.{value_if}
use Rattle.canary_tables.proofs.EntryLemmas.{get_held}
use Rattle.canary_tables.proofs.cache_map.CacheMap.get.Goals as goal

pub returns-in-Some : goal.returns-in-Some
returns-in-Some g c =
    ap value_if c.in-Some.ensures ∙ sym (get_held c.self.inside.recent.entries c.self.inside.earlier.entries c.args.name)
    ∙ ap (λ m. map.get m c.args.name) c.self.view_is

pub returns-in-None : goal.returns-in-None
returns-in-None g c =
    ap value_if c.in-None.ensures ∙ sym (get_held c.self.inside.recent.entries c.self.inside.earlier.entries c.args.name)
    ∙ ap (λ m. map.get m c.args.name) c.self.view_is
