use Rattle.std.proofs.Common.{ap}
use Rattle.std.specs.Prelude.{option_copied}
use Rattle.canary_tables.proofs.KeptLemmas.{nothing_put, found_put}
use Rattle.canary_tables.proofs.cache.Cache.keep_template.Goals as goal

pub returns-in-Ok-clause-templates : goal.returns-in-Ok-clause-templates
returns-in-Ok-clause-templates c = found_put c.args.self.now.templates c.put.new.self c.args.name (option_copied c.args.found) c.in-Some.template.now c.in-Ok.copy (ap option_copied c.in-Some.is) c.in-Ok.ensures c.put.ensures.within

pub returns-in_default-copy-clause-templates : goal.returns-in_default-copy-clause-templates
returns-in_default-copy-clause-templates c = nothing_put c.args.self.now.templates c.args.name (option_copied c.args.found) c.requires
