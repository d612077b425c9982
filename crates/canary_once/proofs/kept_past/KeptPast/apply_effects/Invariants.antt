use Rattle.std.proofs.Common.{◌≡◌}
use Rattle.std.specs.Vec.Iter.{into_iter_items}
use Rattle.canary_once.specs.Kept.{keeps_all}
use Rattle.canary_once.specs.KeptRooms.{kept_in, HasRoom}
use Rattle.canary_once.proofs.kept_past.KeptPast.apply_effects.Given as goal

-- what is left, kept after what was kept so far, makes the whole; and there is room for it
abbrev pub invariant-loop-effect : goal.invariant-loop-effect
invariant-loop-effect l =
    (keeps_all (kept_in l.self) (into_iter_items l.effect-iterator) ≡ keeps_all (kept_in l.fn.self) l.fn.effects) × HasRoom l.self (into_iter_items l.effect-iterator)
