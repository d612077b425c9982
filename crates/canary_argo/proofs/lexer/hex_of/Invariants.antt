use Rattle.std.proofs.Common.{◌≡◌, drop}
use Rattle.canary_argo.specs.Tokens.{hex_after}
use Rattle.canary_argo.proofs.lexer.hex_of.Given as goal

-- the number so far and the digits that are left come to the whole
abbrev pub invariant-loop-byte : goal.invariant-loop-byte
invariant-loop-byte l = hex_after l.number (drop l.byte-index l.digits) ≡ hex_after l.initial.number l.digits
