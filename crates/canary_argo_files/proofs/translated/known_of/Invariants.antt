use Rattle.std.proofs.Common.{◌≡◌, drop}
use Rattle.std.specs.FinMap as map
use Rattle.canary_argo_files.specs.Taken.{known_of}
use Rattle.canary_argo_files.proofs.translated.known_of.Given as goal

-- with those that are left it is what it is to be
abbrev pub invariant-loop-manifest : goal.invariant-loop-manifest
invariant-loop-manifest l =
    known_of l.known (drop l.manifest-index l.made) ≡ known_of map.empty l.made
