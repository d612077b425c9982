use Rattle.std.proofs.Common.{◌∙◌, [], ap, sym}
use Rattle.std.proofs.lemmas.List.{drop_all}
use Rattle.clap.specs.Words.{app_of, with_rule}
use Rattle.canary_cli_words.specs.declared.commands.ArgumentSpec.{ArgumentSpec}
use Rattle.canary_cli_words.specs.declared.commands.ArgumentSpec.TheVariants.{Moment}
use Rattle.canary_cli_words.specs.CommandLine.{with_parts}
use Rattle.canary_cli_words.proofs.Chains.{one_part}
use Rattle.canary_cli_words.proofs.commands.with_parts.Goals as goal

pub loop-part-preserved : goal.loop-part-preserved
loop-part-preserved c =
    let other : ArgumentSpec = Moment (record { ref_ptr = (0, 0); now = [] }) (record { ref_ptr = (0, 0); now = [] }) in
    let now = app_of c.loop-part.command in
    let made = c.in_ok-command.ensures.shape c.arg_of.ensures.local ∙ ap (with_rule now) c.arg_of.ensures.rule in
    one_part now (app_of c.in_ok-command.command) c.args.parts.now c.loop-part.part-index other c.loop-part-test.true made
    ∙ c.loop-part.invariant

pub returns : goal.returns
returns c = ap (with_parts (app_of c.loop-part.command)) (sym (drop_all c.loop-part.part-index c.args.parts.now c.loop-part-test.false)) ∙ c.loop-part.invariant
