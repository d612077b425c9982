use Rattle.std.proofs.Common.{◌≡◌, ◌+◌, length}
use Rattle.canary_client_records.specs.Texts.{from_gate, records}
use Rattle.canary_client_records.proofs.TextLemmas.{with_front}
use Rattle.canary_client_records.proofs.texts.from_gate.Given as goal

abbrev pub invariant-loop-text : goal.invariant-loop-text
invariant-loop-text l = record {
  read : with_front l.texts.items (from_gate l.rest) ≡ from_gate l.bytes;
  size : length (records l.texts.items) + length l.rest ≡ length l.bytes;
}

abbrev pub decreases-loop-text : goal.decreases-loop-text
decreases-loop-text l = length l.rest
