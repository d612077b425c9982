use Rattle.std.proofs.Common.{◌∙◌, string_bytes, ap, codes}
use Rattle.serde_json.specs.View.{view}
use Rattle.std.proofs.lemmas.Result.{IfOk-weaker}
use Rattle.canary_plan.specs.declared.command.Command.TheVariants as command
use Rattle.canary_canonical.specs.Texts.{command_data, only}
use Rattle.canary_canonical.proofs.Backwards.{written_text}
use Rattle.canary_canonical.proofs.writing.start_text.Goals as goal

pub returns-clause-value : goal.returns-clause-value
unfolding command_data
returns-clause-value c =
    IfOk-weaker c.to_string.result _ _ (λ text h. written_text (string_bytes text) (view c.in_ok-value.value) (command.Start c.args.service.now c.args.version.now) (c.in_ok-value.ensures ∙ ap (only (codes "start")) c.in_ok-start_value.ensures.value) h) c.to_string.ensures.text
