use Rattle.std.proofs.Common.{◌≡◌, drop}
use Rattle.clap.specs.Words.{app_of}
use Rattle.canary_cli_words.specs.CommandLine.{with_parts}
use Rattle.canary_cli_words.proofs.commands.with_parts.Given as goal

-- what is left leads to where all parts lead
abbrev pub invariant-loop-part : goal.invariant-loop-part
invariant-loop-part l = with_parts (app_of l.command) (drop l.part-index l.parts) ≡ with_parts (app_of l.fn.command) l.parts
