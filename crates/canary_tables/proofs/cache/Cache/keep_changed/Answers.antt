use Rattle.canary_tables.proofs.KeptLemmas.{changed_so}
use Rattle.canary_tables.proofs.cache.Cache.keep_changed.Goals as goal

pub returns-in-Service-clause-services : goal.returns-in-Service-clause-services
returns-in-Service-clause-services c = changed_so c.args.self.now.services c.put.new.self c.args.change c.in-Service.service c.in-Service.effects c.name.result c.in-Service.is c.name.ensures.value c.put.ensures.within
