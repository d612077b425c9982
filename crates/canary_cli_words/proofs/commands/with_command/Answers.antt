use Rattle.std.proofs.Common.{◌∙◌, ap}
use Rattle.clap.specs.Words.{app_of, with_subcommand}
use Rattle.canary_cli_words.proofs.Chains.{none_global, ok_then, parts_plain}
use Rattle.canary_cli_words.proofs.commands.with_command.Goals as goal

pub returns : goal.returns
returns c =
    let made = c.in_ok-command.ensures in
    let local = none_global _ _ _ _ (ap (λ a. a.top.is_plain) made ∙ parts_plain _ c.args.spec.now.parts.now) in
    ok_then c.subcommand.result _ _ (λ d added. added.shape local ∙ ap (λ a. with_subcommand (app_of c.args.desk) a.top) made) c.subcommand.ensures
