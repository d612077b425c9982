use Rattle.std.proofs.Common.{◌≡◌, ℕ, suc, ◌-◌, ◌<◌, length, arith, refl, sym, ap, ◌∙◌}
use Rattle.std.specs.Prelude.{slice_set}
use Rattle.canary_release.specs.Pasts.{change_at}
use Rattle.canary_release.specs.Watching.{counted}
use Rattle.canary_tables_contents.specs.contracts.counts.Counts.{the_view}
use Rattle.canary_tables_contents.proofs.CountLemmas.{set_here, change_past_end, run_changed}
use Rattle.canary_tables_contents.proofs.counts.Counts.count.Goals.{in-Some, in_default}
use Rattle.canary_tables_contents.proofs.counts.Counts.count.Goals as goal

pub returns : goal.returns
returns c =
    let run : ℕ = c.args.measurement.now.run in
    let place : ℕ = run - 1 in
    let is : run ≡ suc place = omega (arith, c.if-measurement-eq0.false) in
    let f = change_at c.args.measurement.now.metric (counted c.args.measurement.now) in
    let runs = c.self.inside.runs.items in
    elim c.match-get_mut.branch [
      | in-Some w ↦
          let within : place < length runs = omega (arith, w.in-Some.ensures.variant.0 refl, c.self.inside.runs.ok.0) in
          ap the_view w.self-inside-is
          ∙ ap (slice_set runs place) (w.count.ensures ∙ ap f w.in-Some.ensures.value)
          ∙ set_here place f runs w.in-Some.run'.now within
          ∙ ap (change_at place f) c.self.view_is
          ∙ sym (run_changed run place f c.args.self.now is)
      | in_default w ↦
          ap the_view w.self-inside-is
          ∙ sym (change_past_end place f runs w.in_default.ensures.item.3)
          ∙ ap (change_at place f) c.self.view_is
          ∙ sym (run_changed run place f c.args.self.now is)
    ]
