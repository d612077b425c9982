use Rattle.std.proofs.Common.{ℕ, ◌<◌, length, arith, refl, sym, ap, ◌∙◌}
use Rattle.std.specs.Prelude.{slice_set}
use Rattle.canary_release.specs.Pasts.{change_at}
use Rattle.canary_release.specs.Watching.{counted}
use Rattle.canary_tables_contents.specs.contracts.counts.RunCounts.{the_view}
use Rattle.canary_tables_contents.proofs.CountLemmas.{set_here, change_past_end}
use Rattle.canary_tables_contents.proofs.counts.RunCounts.count.Goals.{in-Some, in_default}
use Rattle.canary_tables_contents.proofs.counts.RunCounts.count.Goals as goal

pub returns : goal.returns
returns c =
    let k : ℕ = c.args.measurement.now.metric in
    let f = counted c.args.measurement.now in
    let tallies = c.self.inside.tallies.items in
    elim c.match-get_mut.branch [
      | in-Some w ↦
          let within : k < length tallies = omega (arith, w.in-Some.ensures.variant.0 refl, c.self.inside.tallies.ok.0) in
          ap the_view w.self-inside-is
          ∙ ap (slice_set tallies k) (w.add.ensures.value ∙ ap f w.in-Some.ensures.value)
          ∙ set_here k f tallies w.in-Some.tally.now within
          ∙ ap (change_at k f) c.self.view_is
      | in_default w ↦
          ap the_view w.self-inside-is ∙ sym (change_past_end k f tallies w.in_default.ensures.item.3) ∙ ap (change_at k f) c.self.view_is
    ]
