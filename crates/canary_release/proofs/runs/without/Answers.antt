use Rattle.std.proofs.Common.{rules, filter, ap, ◌∙◌}
use Rattle.std.proofs.lemmas.Fn.{filter_same}
use Rattle.canary_release.specs.Watching.{is_other}
use Rattle.canary_release.proofs.runs.without.Goals as goal

pub returns : goal.returns
returns c = c.of.ensures ∙ filter_same _ _ _ (λ x b f' k. search rules) _ _ c.retain.ensures.filtered ∙ ap (filter (is_other c.args.number)) c.into_vec-runs.ensures
