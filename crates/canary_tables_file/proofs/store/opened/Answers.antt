use Rattle.canary_tables_file.proofs.Found.{opened_from, reads_pages}
use Rattle.canary_tables_file.proofs.store.opened.Goals as goal

pub returns-in-Ok-clause-found : goal.returns-in-Ok-clause-found
returns-in-Ok-clause-found g c = λ clean.
    opened_from c.args.unopened c.in-Ok.store (c.in-Ok.ensures.honest clean) (c.in-Ok.ensures.kept clean) (c.in-Ok.ensures.found clean)

pub returns-in-Ok-clause-reads : goal.returns-in-Ok-clause-reads
returns-in-Ok-clause-reads g c = reads_pages c.in-Ok.store c.in-Ok.ensures.ready c.in-Ok.ensures.numbered
