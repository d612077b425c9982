use Rattle.std.proofs.Common.{subst}
use Rattle.std.specs.FinMap.{insert}
use Rattle.canary_tables.specs.CacheMaps.{IsWithin}
use Rattle.canary_tables.proofs.EntryLemmas.{kept_within}
use Rattle.canary_tables.proofs.cache.Cache.keep_history.Goals as goal

pub returns-in-Ok-clause-histories : goal.returns-in-Ok-clause-histories
returns-in-Ok-clause-histories c = subst (λ lines. IsWithin c.put.new.self (insert c.args.self.now.histories c.args.name lines)) c.in-Ok.ensures c.put.ensures.within

pub returns-in_default-clause-histories : goal.returns-in_default-clause-histories
returns-in_default-clause-histories c = kept_within c.args.self.now.histories c.args.self.now.histories c.args.name c.args.history.now (λ q lines is. is) c.requires
