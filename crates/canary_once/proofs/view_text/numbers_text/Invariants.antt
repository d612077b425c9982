use Rattle.std.proofs.Common.{◌≡◌, ◌∷◌, map, take}
use Rattle.std.specs.Prelude.{string_bytes}
use Rattle.std.specs.List.{join_with_byte}
use Rattle.canary_once.specs.Views.{number_text}
use Rattle.canary_once.proofs.view_text.numbers_text.Given as goal

-- the numbers so far, after the bracket
abbrev pub invariant-loop-i : goal.invariant-loop-i
invariant-loop-i l = string_bytes l.text ≡ 91 ∷ join_with_byte 44 (map number_text (take l.i l.runs))
