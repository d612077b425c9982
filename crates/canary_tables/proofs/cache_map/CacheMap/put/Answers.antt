use Rattle.std.proofs.Common.{ap, subst, ◌∙◌}
use Rattle.std.specs.FinMap as map
use Rattle.canary_tables.specs.CacheMaps.{IsWithin}
use Rattle.canary_tables.proofs.EntryLemmas.{held, none_there, put_anew, replaced_within, replaced_there}
use Rattle.canary_tables.proofs.cache_map.CacheMap.put.Goals as goal

pub put_new-requires : goal.put_new-requires
put_new-requires g c = ap (λ m. map.get m c.args.name) c.take.ensures.rest ∙ none_there (held c.replace.new.entries.entries c.self.inside.earlier.entries) c.args.name

pub returns-in-Some-clause-within : goal.returns-in-Some-clause-within
returns-in-Some-clause-within g c =
    subst (IsWithin c.put_new.new.self)
    (ap (λ m. map.insert m c.args.name c.in-Some.value) (c.take.ensures.rest ∙ ap (λ es. map.remove (held es c.self.inside.earlier.entries) c.args.name) c.in-Some.ensures.back.1 ∙ ap (λ m. map.remove m c.args.name) c.self.view_is)
    ∙ put_anew c.args.self.now c.args.name c.in-Some.value
    ∙ ap (map.insert c.args.self.now c.args.name) c.in-Some.ensures.back.0)
    c.put_new.ensures.within

pub returns-in-None-clause-within : goal.returns-in-None-clause-within
returns-in-None-clause-within g c =
    replaced_within c.args.self.now c.self.inside.recent.entries c.self.inside.earlier.entries c.replace.new.entries.entries c.args.name c.args.value c.self.view_is c.in-None.ensures.put

pub returns-in-None-clause-kept : goal.returns-in-None-clause-kept
returns-in-None-clause-kept g c = λ _.
    replaced_there c.args.self.now c.self.inside.recent.entries c.self.inside.earlier.entries c.replace.new.entries.entries c.args.name c.args.value c.self.view_is c.in-None.ensures.put
