use Rattle.std.proofs.Common.{◌∙◌, [], None, ap, sym}
use Rattle.std.proofs.lemmas.List.{drop_all}
use Rattle.clap.specs.Words.{app_of}
use Rattle.canary_cli_words.specs.declared.commands.CommandSpec.{CommandSpec}
use Rattle.canary_cli_words.specs.CommandLine.{with_commands}
use Rattle.canary_cli_words.proofs.Chains.{one_command}
use Rattle.canary_cli_words.proofs.commands.with_commands.Goals as goal

pub loop-spec-preserved : goal.loop-spec-preserved
loop-spec-preserved c = λ above is.
    let other : CommandSpec = record { name = record { ref_ptr = (0, 0); now = [] }; about = record { ref_ptr = (0, 0); now = [] }; help = record { ref_ptr = (0, 0); now = [] }; usage = None; parts = record { ref_ptr = (0, 0); now = [] } } in
    one_command (app_of c.loop-spec.desk) (app_of c.in_ok-desk-2.desk) c.args.specs.now c.loop-spec.spec-index other c.loop-spec-test.true c.in_ok-desk-2.ensures
    ∙ c.loop-spec.invariant above is

pub returns : goal.returns
returns c = λ above is.
    ap (with_commands (app_of c.loop-spec.desk)) (sym (drop_all c.loop-spec.spec-index c.args.specs.now c.loop-spec-test.false)) ∙ c.loop-spec.invariant above is
