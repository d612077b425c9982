use Rattle.std.proofs.Common.{◌≡◌, drop}
use Rattle.std.specs.Prelude.{IfOk}
use Rattle.clap.specs.Words.{App, app_of}
use Rattle.canary_cli_words.specs.CommandLine.{with_commands}
use Rattle.canary_cli_words.proofs.commands.with_commands.Given as goal

-- what is left leads to where all lead
abbrev pub invariant-loop-spec : goal.invariant-loop-spec
invariant-loop-spec l = (above : App) → IfOk l.fn.desk (λ c. app_of c ≡ above) → with_commands (app_of l.desk) (drop l.spec-index l.specs) ≡ with_commands above l.specs
