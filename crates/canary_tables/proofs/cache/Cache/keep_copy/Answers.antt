use Rattle.std.proofs.Common.{ap}
use Rattle.std.specs.Prelude.{option_copied}
use Rattle.canary_tables.proofs.KeptLemmas.{nothing_put, found_put}
use Rattle.canary_tables.proofs.cache.Cache.keep_copy.Goals as goal

pub returns-in-Ok-clause-services : goal.returns-in-Ok-clause-services
returns-in-Ok-clause-services c = found_put c.args.self.now.services c.put.new.self c.args.name (option_copied c.args.found) c.in-Some.service.now c.in-Ok.copy (ap option_copied c.in-Some.is) c.in-Ok.ensures c.put.ensures.within

pub returns-in_default-copy-clause-services : goal.returns-in_default-copy-clause-services
returns-in_default-copy-clause-services c = nothing_put c.args.self.now.services c.args.name (option_copied c.args.found) c.requires
