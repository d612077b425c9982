use Rattle.canary_tables_file.proofs.Connected.{all_found_before}
use Rattle.canary_tables_file.proofs.connect.connection.Goals as goal

pub returns-in-Ok-clause-found : goal.returns-in-Ok-clause-found
returns-in-Ok-clause-found g c =
    let read = c.page_size.ensures in
    all_found_before c.args.files c.page_size.new.files read.same_log read.same_db read.clean c.connection_by.result c.connection_by.ensures.found
