use Rattle.std.proofs.Common.{rules}
use Rattle.canary_tables_contents.specs.Values.{stand_of}
use Rattle.canary_tables.proofs.FoundServices.{parts_broken}
use Rattle.canary_tables.proofs.load_services.service_of.Goals as goal

pub returns-in-Err-clause-storage : goal.returns-in-Err-clause-storage
returns-in-Err-clause-storage c is parts same =
    parts_broken c.args.row.now c.args.open_runs (stand_of c.args.row.now.name c.args.strategy.now c.args.bound.now c.args.row.now.standing) c.in_ok-service.service parts (search rules) (search rules) same
