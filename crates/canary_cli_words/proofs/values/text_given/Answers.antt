use Rattle.std.proofs.Common.{◌∙◌, Some, ap, refl, subst, sym}
use Rattle.std.specs.Prelude.{IsSome, unwrap_or}
use Rattle.clap.specs.Words.{found_of}
use Rattle.canary_cli_words.proofs.Getting.{text_met}
use Rattle.canary_cli_words.proofs.values.text_given.Goals as goal

pub unwrap-text-requires : goal.unwrap-text-requires
unwrap-text-requires c =
    let met = text_met (found_of c.args.matches.now) c.args.name.now c.get_str.result c.requires c.get_str.ensures in
    subst IsSome (sym met.1) refl

pub returns : goal.returns
returns c =
    let met = text_met (found_of c.args.matches.now) c.args.name.now c.get_str.result c.requires c.get_str.ensures in
    let same = ap (λ o. (unwrap_or o met.0).now) (sym met.1 ∙ c.unwrap-text.ensures) in
    met.2 ∙ ap (λ t. Some t) (same ∙ (sym c.in_ok-from_str.ensures.ok ∙ sym c.of.ensures))
