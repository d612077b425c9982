use Rattle.std.proofs.Common.{subst}
use Rattle.canary_tables.specs.CacheMaps.{IsWithin}
use Rattle.canary_tables.specs.Caches.{with_told}
use Rattle.canary_tables.proofs.HistoryLemmas.{lines_so}
use Rattle.canary_tables.proofs.cache.Cache.keep_lines.Goals as goal

pub returns-in-Service-clause-histories : goal.returns-in-Service-clause-histories
returns-in-Service-clause-histories c =
    let old = c.args.self.now.histories in
    let new = c.add_lines.new.self.histories in
    lines_so old new c.args.change.now c.in-Service.service c.in-Service.effects c.name.result c.in-Service.is c.name.ensures.value
    (subst (λ effects. IsWithin new (with_told old c.name.result effects)) c.as_slice.ensures c.add_lines.ensures.histories)
