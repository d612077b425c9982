use Rattle.std.proofs.Common.{◌≡◌, take}
use Rattle.std.specs.Prelude.{string_bytes}
use Rattle.canary_argo.specs.Translating.{skeleton_of}
use Rattle.canary_argo.proofs.printing.skeleton_of.Given as goal

-- the text so far
abbrev pub invariant-loop-item : goal.invariant-loop-item
invariant-loop-item l = string_bytes l.out ≡ skeleton_of (take l.item-index l.items)
