use Rattle.std.proofs.Common.{◌≡◌, ◌∷◌, ◌++◌, map, take}
use Rattle.std.specs.Prelude.{string_bytes}
use Rattle.std.specs.List.{join_with_byte}
use Rattle.canary_release.specs.Replies.{quoted_phase}
use Rattle.canary_release.proofs.report_reply.with_phases.Given as goal

-- the phases so far, after the bracket
abbrev pub invariant-loop-i : goal.invariant-loop-i
invariant-loop-i l = string_bytes l.text ≡ string_bytes l.fn.front ++ 91 ∷ join_with_byte 44 (map quoted_phase (take l.i l.phases))
