use Rattle.std.proofs.Common.{◌∙◌, ◌<◌, ℕ, length, ap, arith}
use Rattle.std.specs.Prelude.{slice_set}
use Rattle.canary_release.specs.Pasts.{change_at}
use Rattle.canary_release.specs.Watching.{counted}
use Rattle.canary_release.proofs.Counting.{set_here}
use Rattle.canary_release.proofs.runs.with_counted.Goals as goal

pub returns : goal.returns
returns c =
    let k : ℕ = c.args.recorded.now.metric in
    let ts = c.into_vec-tallies.result.items in
    let f = counted c.args.recorded.now in
    let below = c.if-place-len.false in
    let len = c.len.ensures in
    let within : k < length ts = omega arith in
    c.of-2.ensures
    ∙ ap (slice_set ts k) (c.counted.ensures ∙ ap f c.index.ensures)
    ∙ set_here k f ts c.index.result.now within
    ∙ ap (change_at k f) c.into_vec-tallies.ensures
