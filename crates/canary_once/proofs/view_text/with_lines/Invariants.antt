use Rattle.std.proofs.Common.{◌≡◌, ◌++◌, map, take}
use Rattle.std.specs.Prelude.{string_bytes}
use Rattle.std.specs.List.{join_with_byte}
use Rattle.canary_once.specs.Views.{quoted_line}
use Rattle.canary_once.proofs.view_text.with_lines.Given as goal

-- the lines so far, after the text
abbrev pub invariant-loop-i : goal.invariant-loop-i
invariant-loop-i l = string_bytes l.all ≡ string_bytes l.fn.text ++ join_with_byte 44 (map quoted_line (take l.i l.lines))
