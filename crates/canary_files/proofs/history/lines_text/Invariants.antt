use Rattle.std.proofs.Common.{◌≡◌, ◌++◌, drop}
use Rattle.std.specs.Prelude.{string_bytes}
use Rattle.canary_plan.specs.Lines.{history_text}
use Rattle.canary_files.proofs.history.lines_text.Given as goal

-- the text so far, with the text of the lines that are left, is that of all lines
abbrev pub invariant-loop-line : goal.invariant-loop-line
invariant-loop-line l = string_bytes l.text ++ history_text (drop l.line-index l.lines) ≡ history_text l.lines
