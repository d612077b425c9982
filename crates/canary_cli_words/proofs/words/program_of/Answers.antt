use Rattle.std.proofs.Common.{codes}
use Rattle.clap.specs.Words.{found_of, rows_of, subcommand_rows_of}
use Rattle.canary_cli_words.proofs.Spelled.{further_left, given_for, met_by, missed, program_so}
use Rattle.canary_cli_words.proofs.words.program_of.Goals as goal

pub pipe_of-requires : goal.pipe_of-requires
pipe_of-requires c =
    let met = met_by c.args.matches.now (codes "pipe") c.subcommand_matches.result c.in-Some.pipe c.subcommand_matches.ensures.found c.subcommand_matches.ensures.rows c.in-Some.is in
    given_for (subcommand_rows_of c.args.matches.now) (codes "pipe") (rows_of (found_of c.in-Some.pipe.now)) c.requires met

pub returns-in-Some : goal.returns-in-Some
returns-in-Some c =
    let met = met_by c.args.matches.now (codes "pipe") c.subcommand_matches.result c.in-Some.pipe c.subcommand_matches.ensures.found c.subcommand_matches.ensures.rows c.in-Some.is in
    program_so (subcommand_rows_of c.args.matches.now) (codes "pipe") (rows_of (found_of c.in-Some.pipe.now)) c.pipe_of.result met c.pipe_of.ensures

pub serve_of-requires : goal.serve_of-requires
serve_of-requires c =
    let met = met_by c.args.matches.now (codes "serve") c.subcommand_matches-2.result c.in-Some-subcommand_matches.serve c.subcommand_matches-2.ensures.found c.subcommand_matches-2.ensures.rows c.in-Some-subcommand_matches.is in
    given_for (subcommand_rows_of c.args.matches.now) (codes "serve") (rows_of (found_of c.in-Some-subcommand_matches.serve.now)) c.requires met

pub returns-in-Some-subcommand_matches : goal.returns-in-Some-subcommand_matches
returns-in-Some-subcommand_matches c =
    let met = met_by c.args.matches.now (codes "serve") c.subcommand_matches-2.result c.in-Some-subcommand_matches.serve c.subcommand_matches-2.ensures.found c.subcommand_matches-2.ensures.rows c.in-Some-subcommand_matches.is in
    program_so (subcommand_rows_of c.args.matches.now) (codes "serve") (rows_of (found_of c.in-Some-subcommand_matches.serve.now)) c.serve_of.result met c.serve_of.ensures

pub import_of-requires : goal.import_of-requires
import_of-requires c =
    let met = met_by c.args.matches.now (codes "import") c.subcommand_matches-3.result c.in-Some-subcommand_matches-2.import c.subcommand_matches-3.ensures.found c.subcommand_matches-3.ensures.rows c.in-Some-subcommand_matches-2.is in
    given_for (subcommand_rows_of c.args.matches.now) (codes "import") (rows_of (found_of c.in-Some-subcommand_matches-2.import.now)) c.requires met

pub returns-in-Some-subcommand_matches-2 : goal.returns-in-Some-subcommand_matches-2
returns-in-Some-subcommand_matches-2 c =
    let met = met_by c.args.matches.now (codes "import") c.subcommand_matches-3.result c.in-Some-subcommand_matches-2.import c.subcommand_matches-3.ensures.found c.subcommand_matches-3.ensures.rows c.in-Some-subcommand_matches-2.is in
    program_so (subcommand_rows_of c.args.matches.now) (codes "import") (rows_of (found_of c.in-Some-subcommand_matches-2.import.now)) c.import_of.result met c.import_of.ensures

pub history_of-requires : goal.history_of-requires
history_of-requires c =
    let met = met_by c.args.matches.now (codes "history") c.subcommand_matches-4.result c.in-Some-subcommand_matches-3.history c.subcommand_matches-4.ensures.found c.subcommand_matches-4.ensures.rows c.in-Some-subcommand_matches-3.is in
    given_for (subcommand_rows_of c.args.matches.now) (codes "history") (rows_of (found_of c.in-Some-subcommand_matches-3.history.now)) c.requires met

pub returns-in-Some-subcommand_matches-3 : goal.returns-in-Some-subcommand_matches-3
returns-in-Some-subcommand_matches-3 c =
    let met = met_by c.args.matches.now (codes "history") c.subcommand_matches-4.result c.in-Some-subcommand_matches-3.history c.subcommand_matches-4.ensures.found c.subcommand_matches-4.ensures.rows c.in-Some-subcommand_matches-3.is in
    program_so (subcommand_rows_of c.args.matches.now) (codes "history") (rows_of (found_of c.in-Some-subcommand_matches-3.history.now)) c.history_of.result met c.history_of.ensures

pub export_of-requires : goal.export_of-requires
export_of-requires c =
    let met = met_by c.args.matches.now (codes "export") c.subcommand_matches-5.result c.in-Some-subcommand_matches-4.export c.subcommand_matches-5.ensures.found c.subcommand_matches-5.ensures.rows c.in-Some-subcommand_matches-4.is in
    given_for (subcommand_rows_of c.args.matches.now) (codes "export") (rows_of (found_of c.in-Some-subcommand_matches-4.export.now)) c.requires met

pub returns-in-Some-subcommand_matches-4 : goal.returns-in-Some-subcommand_matches-4
returns-in-Some-subcommand_matches-4 c =
    let met = met_by c.args.matches.now (codes "export") c.subcommand_matches-5.result c.in-Some-subcommand_matches-4.export c.subcommand_matches-5.ensures.found c.subcommand_matches-5.ensures.rows c.in-Some-subcommand_matches-4.is in
    program_so (subcommand_rows_of c.args.matches.now) (codes "export") (rows_of (found_of c.in-Some-subcommand_matches-4.export.now)) c.export_of.result met c.export_of.ensures

pub status_of-requires : goal.status_of-requires
status_of-requires c =
    let met = met_by c.args.matches.now (codes "status") c.subcommand_matches-6.result c.in-Some-subcommand_matches-5.status c.subcommand_matches-6.ensures.found c.subcommand_matches-6.ensures.rows c.in-Some-subcommand_matches-5.is in
    given_for (subcommand_rows_of c.args.matches.now) (codes "status") (rows_of (found_of c.in-Some-subcommand_matches-5.status.now)) c.requires met

pub returns-in-Some-subcommand_matches-5 : goal.returns-in-Some-subcommand_matches-5
returns-in-Some-subcommand_matches-5 c =
    let met = met_by c.args.matches.now (codes "status") c.subcommand_matches-6.result c.in-Some-subcommand_matches-5.status c.subcommand_matches-6.ensures.found c.subcommand_matches-6.ensures.rows c.in-Some-subcommand_matches-5.is in
    program_so (subcommand_rows_of c.args.matches.now) (codes "status") (rows_of (found_of c.in-Some-subcommand_matches-5.status.now)) c.status_of.result met c.status_of.ensures

pub page_of-requires : goal.page_of-requires
page_of-requires c =
    let met = met_by c.args.matches.now (codes "page") c.subcommand_matches-7.result c.in-Some-subcommand_matches-6.page c.subcommand_matches-7.ensures.found c.subcommand_matches-7.ensures.rows c.in-Some-subcommand_matches-6.is in
    given_for (subcommand_rows_of c.args.matches.now) (codes "page") (rows_of (found_of c.in-Some-subcommand_matches-6.page.now)) c.requires met

pub returns-in-Some-subcommand_matches-6 : goal.returns-in-Some-subcommand_matches-6
returns-in-Some-subcommand_matches-6 c =
    let met = met_by c.args.matches.now (codes "page") c.subcommand_matches-7.result c.in-Some-subcommand_matches-6.page c.subcommand_matches-7.ensures.found c.subcommand_matches-7.ensures.rows c.in-Some-subcommand_matches-6.is in
    program_so (subcommand_rows_of c.args.matches.now) (codes "page") (rows_of (found_of c.in-Some-subcommand_matches-6.page.now)) c.page_of.result met c.page_of.ensures

pub backup_of-requires : goal.backup_of-requires
backup_of-requires c =
    let met = met_by c.args.matches.now (codes "backup") c.subcommand_matches-8.result c.in-Some-subcommand_matches-7.backup c.subcommand_matches-8.ensures.found c.subcommand_matches-8.ensures.rows c.in-Some-subcommand_matches-7.is in
    given_for (subcommand_rows_of c.args.matches.now) (codes "backup") (rows_of (found_of c.in-Some-subcommand_matches-7.backup.now)) c.requires met

pub returns-in-Some-subcommand_matches-7 : goal.returns-in-Some-subcommand_matches-7
returns-in-Some-subcommand_matches-7 c =
    let met = met_by c.args.matches.now (codes "backup") c.subcommand_matches-8.result c.in-Some-subcommand_matches-7.backup c.subcommand_matches-8.ensures.found c.subcommand_matches-8.ensures.rows c.in-Some-subcommand_matches-7.is in
    program_so (subcommand_rows_of c.args.matches.now) (codes "backup") (rows_of (found_of c.in-Some-subcommand_matches-7.backup.now)) c.backup_of.result met c.backup_of.ensures

pub migrate_of-requires : goal.migrate_of-requires
migrate_of-requires c =
    let met = met_by c.args.matches.now (codes "migrate") c.subcommand_matches-9.result c.in-Some-subcommand_matches-8.migrate c.subcommand_matches-9.ensures.found c.subcommand_matches-9.ensures.rows c.in-Some-subcommand_matches-8.is in
    given_for (subcommand_rows_of c.args.matches.now) (codes "migrate") (rows_of (found_of c.in-Some-subcommand_matches-8.migrate.now)) c.requires met

pub returns-in-Some-subcommand_matches-8 : goal.returns-in-Some-subcommand_matches-8
returns-in-Some-subcommand_matches-8 c =
    let met = met_by c.args.matches.now (codes "migrate") c.subcommand_matches-9.result c.in-Some-subcommand_matches-8.migrate c.subcommand_matches-9.ensures.found c.subcommand_matches-9.ensures.rows c.in-Some-subcommand_matches-8.is in
    program_so (subcommand_rows_of c.args.matches.now) (codes "migrate") (rows_of (found_of c.in-Some-subcommand_matches-8.migrate.now)) c.migrate_of.result met c.migrate_of.ensures

pub succeed_of-requires : goal.succeed_of-requires
succeed_of-requires c =
    let met = met_by c.args.matches.now (codes "succeed") c.subcommand_matches-10.result c.in-Some-subcommand_matches-9.succeed c.subcommand_matches-10.ensures.found c.subcommand_matches-10.ensures.rows c.in-Some-subcommand_matches-9.is in
    given_for (subcommand_rows_of c.args.matches.now) (codes "succeed") (rows_of (found_of c.in-Some-subcommand_matches-9.succeed.now)) c.requires met

pub returns-in-Some-subcommand_matches-9 : goal.returns-in-Some-subcommand_matches-9
returns-in-Some-subcommand_matches-9 c =
    let met = met_by c.args.matches.now (codes "succeed") c.subcommand_matches-10.result c.in-Some-subcommand_matches-9.succeed c.subcommand_matches-10.ensures.found c.subcommand_matches-10.ensures.rows c.in-Some-subcommand_matches-9.is in
    program_so (subcommand_rows_of c.args.matches.now) (codes "succeed") (rows_of (found_of c.in-Some-subcommand_matches-9.succeed.now)) c.succeed_of.result met c.succeed_of.ensures

pub further_program_of-requires : goal.further_program_of-requires
further_program_of-requires c =
    let m = c.args.matches.now in
    further_left m c.requires (
      missed m (codes "pipe") c.subcommand_matches.result c.subcommand_matches.ensures.found c.in_default.is,
      missed m (codes "serve") c.subcommand_matches-2.result c.subcommand_matches-2.ensures.found c.in_default-subcommand_matches.is,
      missed m (codes "import") c.subcommand_matches-3.result c.subcommand_matches-3.ensures.found c.in_default-subcommand_matches-2.is,
      missed m (codes "history") c.subcommand_matches-4.result c.subcommand_matches-4.ensures.found c.in_default-subcommand_matches-3.is,
      missed m (codes "export") c.subcommand_matches-5.result c.subcommand_matches-5.ensures.found c.in_default-subcommand_matches-4.is,
      missed m (codes "status") c.subcommand_matches-6.result c.subcommand_matches-6.ensures.found c.in_default-subcommand_matches-5.is,
      missed m (codes "page") c.subcommand_matches-7.result c.subcommand_matches-7.ensures.found c.in_default-subcommand_matches-6.is,
      missed m (codes "backup") c.subcommand_matches-8.result c.subcommand_matches-8.ensures.found c.in_default-subcommand_matches-7.is,
      missed m (codes "migrate") c.subcommand_matches-9.result c.subcommand_matches-9.ensures.found c.in_default-subcommand_matches-8.is,
      missed m (codes "succeed") c.subcommand_matches-10.result c.subcommand_matches-10.ensures.found c.in_default-subcommand_matches-9.is,
    )
