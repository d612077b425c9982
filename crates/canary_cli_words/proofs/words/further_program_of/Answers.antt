use Rattle.std.proofs.Common.{codes}
use Rattle.clap.specs.Words.{found_of, rows_of, subcommand_rows_of}
use Rattle.canary_cli_words.proofs.Spelled.{client_left, further_given_for, met_by, missed, program_so}
use Rattle.canary_cli_words.proofs.words.further_program_of.Goals as goal

pub check_of-requires : goal.check_of-requires
check_of-requires c =
    let met = met_by c.args.matches.now (codes "check") c.subcommand_matches.result c.in-Some.check c.subcommand_matches.ensures.found c.subcommand_matches.ensures.rows c.in-Some.is in
    further_given_for (subcommand_rows_of c.args.matches.now) (codes "check") (rows_of (found_of c.in-Some.check.now)) c.requires met

pub returns-in-Some : goal.returns-in-Some
returns-in-Some c =
    let met = met_by c.args.matches.now (codes "check") c.subcommand_matches.result c.in-Some.check c.subcommand_matches.ensures.found c.subcommand_matches.ensures.rows c.in-Some.is in
    program_so (subcommand_rows_of c.args.matches.now) (codes "check") (rows_of (found_of c.in-Some.check.now)) c.check_of.result met c.check_of.ensures

pub argo_of-requires : goal.argo_of-requires
argo_of-requires c =
    let met = met_by c.args.matches.now (codes "argo") c.subcommand_matches-2.result c.in-Some-subcommand_matches.argo c.subcommand_matches-2.ensures.found c.subcommand_matches-2.ensures.rows c.in-Some-subcommand_matches.is in
    further_given_for (subcommand_rows_of c.args.matches.now) (codes "argo") (rows_of (found_of c.in-Some-subcommand_matches.argo.now)) c.requires met

pub returns-in-Some-subcommand_matches : goal.returns-in-Some-subcommand_matches
returns-in-Some-subcommand_matches c =
    let met = met_by c.args.matches.now (codes "argo") c.subcommand_matches-2.result c.in-Some-subcommand_matches.argo c.subcommand_matches-2.ensures.found c.subcommand_matches-2.ensures.rows c.in-Some-subcommand_matches.is in
    program_so (subcommand_rows_of c.args.matches.now) (codes "argo") (rows_of (found_of c.in-Some-subcommand_matches.argo.now)) c.argo_of.result met c.argo_of.ensures

pub client_program_of-requires : goal.client_program_of-requires
client_program_of-requires c =
    let m = c.args.matches.now in
    client_left m c.requires (
      missed m (codes "check") c.subcommand_matches.result c.subcommand_matches.ensures.found c.in_default.is,
      missed m (codes "argo") c.subcommand_matches-2.result c.subcommand_matches-2.ensures.found c.in_default-subcommand_matches.is,
    )
