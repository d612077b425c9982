use Rattle.std.proofs.Common.{◌≡◌, ◌+◌, drop}
use Rattle.canary_argo.specs.Tokens.{number_len}
use Rattle.canary_argo.proofs.lexer.number_len.Given as goal

-- so many bytes are of the number, and what is left goes on from the last one
abbrev pub invariant-loop-byte : goal.invariant-loop-byte
invariant-loop-byte l = record {
  counted : l.count ≡ l.byte-index;
  goes : number_len 0 l.text ≡ l.byte-index + number_len l.previous (drop l.byte-index l.text);
}
