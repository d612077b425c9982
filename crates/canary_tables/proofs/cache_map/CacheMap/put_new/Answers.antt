use Rattle.canary_tables.proofs.EntryLemmas.{absent, entered_there, entered_within, not_in_first, kept_within, put_there}
use Rattle.canary_tables.proofs.cache_map.CacheMap.put_new.Goals as goal

pub enter-requires-clause-free : goal.enter-requires-clause-free
enter-requires-clause-free g c =
    not_in_first c.make_room.new.self c.self.inside.recent.entries c.self.inside.earlier.entries c.args.name c.self.view_is
    (absent c.make_room.new.self c.args.self.now c.args.name c.make_room.ensures c.requires)

pub returns-then-weight-self-clause-within : goal.returns-then-weight-self-clause-within
returns-then-weight-self-clause-within g c = kept_within c.make_room.new.self c.args.self.now c.args.name c.args.value c.make_room.ensures c.requires

pub returns-clause-within : goal.returns-clause-within
returns-clause-within g c =
    entered_within c.args.self.now c.make_room.new.self c.enter.result c.self.inside.recent.entries c.self.inside.earlier.entries c.enter.new.entries.entries c.args.name (record { value = c.args.value; weight = c.args.weight })
    c.self.view_is c.make_room.ensures c.requires c.enter.ensures.entered c.enter.ensures.refused

pub returns-clause-kept : goal.returns-clause-kept
returns-clause-kept g c = λ is.
    put_there c.self.inside.earlier.entries c.enter.new.entries.entries c.args.name (record { value = c.args.value; weight = c.args.weight })
    (entered_there c.self.inside.recent.entries c.enter.new.entries.entries c.args.name (record { value = c.args.value; weight = c.args.weight }) (c.enter.ensures.entered is))
