use Rattle.std.proofs.Common.{◌∙◌, [], ap, sym}
use Rattle.std.specs.Prelude.{map, option_map, unwrap_or}
use Rattle.clap.specs.Words.{found_of}
use Rattle.canary_cli_words.proofs.Chains.{ok_then}
use Rattle.canary_cli_words.proofs.Getting.{texts_or_left_out}
use Rattle.canary_cli_words.proofs.values.texts_or_none.Goals as goal

pub returns-in-Some : goal.returns-in-Some
returns-in-Some c =
    let got = texts_or_left_out (found_of c.args.matches.now) c.args.name.now c.get_strs.result c.get_strs.ensures in
    let same = ap (λ o. unwrap_or (option_map (λ s. map (λ v. v.now) s.now) o) []) (sym c.in-Some.is) in
    ok_then c.copies.result _ _ (λ ts is. is ∙ (same ∙ got)) c.copies.ensures

pub returns-in-None : goal.returns-in-None
returns-in-None c =
    let got = texts_or_left_out (found_of c.args.matches.now) c.args.name.now c.get_strs.result c.get_strs.ensures in
    let same = ap (λ o. unwrap_or (option_map (λ s. map (λ v. v.now) s.now) o) []) (sym c.in-None.is) in
    c.of.ensures ∙ (c.new.ensures.items ∙ (same ∙ got))
