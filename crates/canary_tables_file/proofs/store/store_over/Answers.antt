use Rattle.canary_tables_file.proofs.Found.{all_before}
use Rattle.canary_tables_file.proofs.store.store_over.Goals as goal

pub returns-in-Ok-clause-found : goal.returns-in-Ok-clause-found
returns-in-Ok-clause-found g c =
    all_before c.args.unopened c.list.new.files c.opened.result c.in-Ok.ensures.stands c.opened.ensures.found
