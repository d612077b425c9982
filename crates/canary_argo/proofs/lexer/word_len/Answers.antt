use Rattle.std.proofs.Common.{ℕ, Option, length, ap, ◌∙◌}
use Rattle.std.specs.Prelude.{unwrap_or}
use Rattle.canary_argo.specs.Tokens.{ends_word}
use Rattle.canary_argo.proofs.Words.{place_is}
use Rattle.canary_argo.proofs.lexer.word_len.Goals as goal

pub returns-clause-place : goal.returns-clause-place
returns-clause-place c = c.unwrap_or.ensures ∙ ap (λ (o : Option ℕ). unwrap_or o (length c.args.text.now)) c.end_of_word.ensures ∙ place_is ends_word c.args.text.now
