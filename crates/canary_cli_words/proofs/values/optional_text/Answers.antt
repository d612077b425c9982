use Rattle.std.proofs.Common.{◌∙◌, Some, ap, sym}
use Rattle.std.specs.Prelude.{option_map}
use Rattle.clap.specs.Words.{found_of}
use Rattle.canary_cli_words.proofs.Getting.{text_or_none}
use Rattle.canary_cli_words.proofs.values.optional_text.Goals as goal

pub returns-in_ok-from_str-in-Some : goal.returns-in_ok-from_str-in-Some
returns-in_ok-from_str-in-Some c =
    let got = text_or_none (found_of c.args.matches.now) c.args.name.now c.get_str.result c.get_str.ensures in
    let same = ap (option_map (λ s. s.now)) c.in-Some.is in
    ap (λ t. Some t) (c.of.ensures ∙ c.in_ok-from_str-in-Some.ensures.ok) ∙ (sym same ∙ got)

pub returns-in-None : goal.returns-in-None
returns-in-None c =
    let got = text_or_none (found_of c.args.matches.now) c.args.name.now c.get_str.result c.get_str.ensures in
    ap (option_map (λ s. s.now)) (sym c.in-None.is) ∙ got
