use Rattle.canary_tables.proofs.EntryLemmas.{less_is_within, same_is_within}
use Rattle.std.proofs.Common.{ap, ◌∙◌}
use Rattle.canary_tables.specs.CacheMaps.{first_of}
use Rattle.canary_tables.proofs.cache_map.CacheMap.evict.Goals as goal

pub returns-in-Some : goal.returns-in-Some
returns-in-Some g c =
    less_is_within c.args.self.now c.self.inside.recent.entries c.self.inside.earlier.entries c.turn.new.recent.entries c.turn.new.earlier.entries c.pop_first.new.self.entries c.in-Some.field-0-0
    c.self.view_is c.turn.ensures.same c.in-Some.ensures.updates.0

pub returns-in_default : goal.returns-in_default
returns-in_default g c =
    same_is_within c.args.self.now c.self.inside.recent.entries c.self.inside.earlier.entries c.turn.new.recent.entries c.pop_first.new.self.entries
    c.self.view_is (λ q. ap (λ es. first_of c.turn.new.recent.entries es q) c.in_default.ensures.unchanged ∙ c.turn.ensures.same q)
