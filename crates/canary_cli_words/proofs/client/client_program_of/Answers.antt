use Rattle.std.proofs.Common.{codes}
use Rattle.clap.specs.Words.{found_of, rows_of, subcommand_rows_of}
use Rattle.canary_cli_words.proofs.Spelled.{client_given_for, met_by, program_so}
use Rattle.canary_cli_words.proofs.client.client_program_of.Goals as goal

pub do_of-requires : goal.do_of-requires
do_of-requires c =
    let met = met_by c.args.matches.now (codes "do") c.subcommand_matches.result c.in-Some.asked c.subcommand_matches.ensures.found c.subcommand_matches.ensures.rows c.in-Some.is in
    client_given_for (subcommand_rows_of c.args.matches.now) (codes "do") (rows_of (found_of c.in-Some.asked.now)) c.requires met

pub returns-in-Some : goal.returns-in-Some
returns-in-Some c =
    let met = met_by c.args.matches.now (codes "do") c.subcommand_matches.result c.in-Some.asked c.subcommand_matches.ensures.found c.subcommand_matches.ensures.rows c.in-Some.is in
    program_so (subcommand_rows_of c.args.matches.now) (codes "do") (rows_of (found_of c.in-Some.asked.now)) c.do_of.result met c.do_of.ensures

pub get_of-requires : goal.get_of-requires
get_of-requires c =
    let met = met_by c.args.matches.now (codes "get") c.subcommand_matches-2.result c.in-Some-subcommand_matches.get c.subcommand_matches-2.ensures.found c.subcommand_matches-2.ensures.rows c.in-Some-subcommand_matches.is in
    client_given_for (subcommand_rows_of c.args.matches.now) (codes "get") (rows_of (found_of c.in-Some-subcommand_matches.get.now)) c.requires met

pub returns-in-Some-subcommand_matches : goal.returns-in-Some-subcommand_matches
returns-in-Some-subcommand_matches c =
    let met = met_by c.args.matches.now (codes "get") c.subcommand_matches-2.result c.in-Some-subcommand_matches.get c.subcommand_matches-2.ensures.found c.subcommand_matches-2.ensures.rows c.in-Some-subcommand_matches.is in
    program_so (subcommand_rows_of c.args.matches.now) (codes "get") (rows_of (found_of c.in-Some-subcommand_matches.get.now)) c.get_of.result met c.get_of.ensures

pub watch_of-requires : goal.watch_of-requires
watch_of-requires c =
    let met = met_by c.args.matches.now (codes "watch") c.subcommand_matches-3.result c.in-Some-subcommand_matches-2.watch c.subcommand_matches-3.ensures.found c.subcommand_matches-3.ensures.rows c.in-Some-subcommand_matches-2.is in
    client_given_for (subcommand_rows_of c.args.matches.now) (codes "watch") (rows_of (found_of c.in-Some-subcommand_matches-2.watch.now)) c.requires met

pub returns-in-Some-subcommand_matches-2 : goal.returns-in-Some-subcommand_matches-2
returns-in-Some-subcommand_matches-2 c =
    let met = met_by c.args.matches.now (codes "watch") c.subcommand_matches-3.result c.in-Some-subcommand_matches-2.watch c.subcommand_matches-3.ensures.found c.subcommand_matches-3.ensures.rows c.in-Some-subcommand_matches-2.is in
    program_so (subcommand_rows_of c.args.matches.now) (codes "watch") (rows_of (found_of c.in-Some-subcommand_matches-2.watch.now)) c.watch_of.result met c.watch_of.ensures

pub send_of-requires : goal.send_of-requires
send_of-requires c =
    let met = met_by c.args.matches.now (codes "send") c.subcommand_matches-4.result c.in-Some-subcommand_matches-3.send c.subcommand_matches-4.ensures.found c.subcommand_matches-4.ensures.rows c.in-Some-subcommand_matches-3.is in
    client_given_for (subcommand_rows_of c.args.matches.now) (codes "send") (rows_of (found_of c.in-Some-subcommand_matches-3.send.now)) c.requires met

pub returns-in-Some-subcommand_matches-3 : goal.returns-in-Some-subcommand_matches-3
returns-in-Some-subcommand_matches-3 c =
    let met = met_by c.args.matches.now (codes "send") c.subcommand_matches-4.result c.in-Some-subcommand_matches-3.send c.subcommand_matches-4.ensures.found c.subcommand_matches-4.ensures.rows c.in-Some-subcommand_matches-3.is in
    program_so (subcommand_rows_of c.args.matches.now) (codes "send") (rows_of (found_of c.in-Some-subcommand_matches-3.send.now)) c.send_of.result met c.send_of.ensures

pub due_of-requires : goal.due_of-requires
due_of-requires c =
    let met = met_by c.args.matches.now (codes "due") c.subcommand_matches-5.result c.in-Some-subcommand_matches-4.due c.subcommand_matches-5.ensures.found c.subcommand_matches-5.ensures.rows c.in-Some-subcommand_matches-4.is in
    client_given_for (subcommand_rows_of c.args.matches.now) (codes "due") (rows_of (found_of c.in-Some-subcommand_matches-4.due.now)) c.requires met

pub returns-in-Some-subcommand_matches-4 : goal.returns-in-Some-subcommand_matches-4
returns-in-Some-subcommand_matches-4 c =
    let met = met_by c.args.matches.now (codes "due") c.subcommand_matches-5.result c.in-Some-subcommand_matches-4.due c.subcommand_matches-5.ensures.found c.subcommand_matches-5.ensures.rows c.in-Some-subcommand_matches-4.is in
    program_so (subcommand_rows_of c.args.matches.now) (codes "due") (rows_of (found_of c.in-Some-subcommand_matches-4.due.now)) c.due_of.result met c.due_of.ensures

pub agent_of-requires : goal.agent_of-requires
agent_of-requires c =
    let met = met_by c.args.matches.now (codes "agent") c.subcommand_matches-6.result c.unwrap.result c.subcommand_matches-6.ensures.found c.subcommand_matches-6.ensures.rows c.unwrap.ensures in
    client_given_for (subcommand_rows_of c.args.matches.now) (codes "agent") (rows_of (found_of c.unwrap.result.now)) c.requires met

pub returns : goal.returns
returns c =
    let met = met_by c.args.matches.now (codes "agent") c.subcommand_matches-6.result c.unwrap.result c.subcommand_matches-6.ensures.found c.subcommand_matches-6.ensures.rows c.unwrap.ensures in
    program_so (subcommand_rows_of c.args.matches.now) (codes "agent") (rows_of (found_of c.unwrap.result.now)) c.agent_of.result met c.agent_of.ensures
