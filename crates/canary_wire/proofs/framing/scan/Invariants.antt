use Rattle.std.proofs.Common.{map, take}
use Rattle.httparse.specs.Spans.{header_bytes}
use Rattle.canary_wire.specs.Heads.{values_named}
use Rattle.canary_wire.specs.FramingFields.{Shows}
use Rattle.canary_wire.proofs.framing.scan.Given as goal

abbrev pub invariant-loop-h : goal.invariant-loop-h
invariant-loop-h l = Shows l.buf l.found (values_named l.name (map (header_bytes l.buf) (take l.h-index l.headers)))
