use Rattle.std.proofs.Common.{◌≡◌, ◌++◌, take}
use Rattle.std.specs.List.{flat_map}
use Rattle.canary_argo.specs.Tokens.{kept, begun, has_point}
use Rattle.canary_argo.proofs.lexer.written.Given as goal

-- the text so far
abbrev pub invariant-loop-byte : goal.invariant-loop-byte
invariant-loop-byte l = l.text.items ≡ begun l.minus (has_point l.word) ++ flat_map kept (take l.byte-index l.word)
