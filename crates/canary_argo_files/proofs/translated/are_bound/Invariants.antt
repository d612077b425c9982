use Rattle.std.proofs.Common.{◌≡◌, drop}
use Rattle.canary_argo_files.specs.Taken.{are_bound}
use Rattle.canary_argo_files.proofs.translated.are_bound.Given as goal

abbrev pub invariant-loop-manifest : goal.invariant-loop-manifest
invariant-loop-manifest l =
    are_bound l.known (drop l.manifest-index l.made) ≡ are_bound l.known l.made
