use Rattle.std.proofs.Common.{◌≡◌, None, drop}
use Rattle.canary_base.specs.Durations.{read_from}
use Rattle.canary_base.proofs.durations.read_groups.Given as goal

-- the rest comes to what the whole text comes to
abbrev pub invariant-loop-byte : goal.invariant-loop-byte
invariant-loop-byte l =
    read_from (drop l.byte-index l.byte-items) l.total l.number ≡ read_from l.text 0 None
