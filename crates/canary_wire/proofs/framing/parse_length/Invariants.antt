use Rattle.std.proofs.Common.{◌≡◌, true, take, min}
use Rattle.std.specs.List.{list_all}
use Rattle.std.specs.Char.{is_ascii_digit}
use Rattle.std.specs.Str.Parse.{digits_value}
use Rattle.canary_wire.proofs.framing.parse_length.Given as goal

abbrev pub invariant-loop-b : goal.invariant-loop-b
invariant-loop-b l =
    (l.n ≡ min (digits_value 10 (take l.b-index l.digits)) 65537) × (list_all is_ascii_digit (take l.b-index l.digits) ≡ true)
