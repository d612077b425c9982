use Rattle.std.proofs.Common.{◌≡◌, drop}
use Rattle.canary_argo_files.specs.Taken.{are_taken}
use Rattle.canary_argo_files.proofs.translated.are_taken.Given as goal

abbrev pub invariant-loop-manifest : goal.invariant-loop-manifest
invariant-loop-manifest l = are_taken (drop l.manifest-index l.made) ≡ are_taken l.made
