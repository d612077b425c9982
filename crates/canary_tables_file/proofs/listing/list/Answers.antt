use Rattle.canary_tables_file.proofs.Found.{stands}
use Rattle.canary_tables_file.proofs.listing.list.Goals as goal

pub returns-clause-stands : goal.returns-clause-stands
returns-clause-stands g c =
    stands c.args.files.now c.read_catalog.new.self c.list_rows.new.files c.in_ok-rows.rows.items c.in_ok-rows.ensures.ok c.in_ok-rows.ensures.kept c.list_rows.ensures.same c.list_rows.result
