use Rattle.std.proofs.Common.{◌∙◌, Some, ap, refl, subst, sym}
use Rattle.std.specs.Prelude.{IsSome, map, unwrap_or}
use Rattle.clap.specs.Words.{found_of}
use Rattle.canary_cli_words.proofs.Chains.{ok_then}
use Rattle.canary_cli_words.proofs.Getting.{texts_met}
use Rattle.canary_cli_words.proofs.values.texts_given.Goals as goal

pub unwrap-requires : goal.unwrap-requires
unwrap-requires c =
    let met = texts_met (found_of c.args.matches.now) c.args.name.now c.get_strs.result c.requires c.get_strs.ensures in
    subst IsSome (sym met.1) refl

pub returns : goal.returns
returns c =
    let met = texts_met (found_of c.args.matches.now) c.args.name.now c.get_strs.result c.requires c.get_strs.ensures in
    let same = ap (λ o. map (λ v. v.now) (unwrap_or o met.0).now) (sym met.1 ∙ c.unwrap.ensures) in
    ok_then c.copies.result _ _ (λ ts is. met.2 ∙ ap (λ t. Some t) (same ∙ sym is)) c.copies.ensures
