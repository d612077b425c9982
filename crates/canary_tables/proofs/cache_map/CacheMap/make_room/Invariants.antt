use Rattle.canary_tables.specs.CacheMaps.{IsWithin}
use Rattle.canary_tables.proofs.cache_map.CacheMap.make_room.Given as goal

abbrev pub invariant-loop : goal.invariant-loop
invariant-loop g l = IsWithin l.self l.initial.self
