use Rattle.std.proofs.Common.{ℕ, ◌<◌, length, arith, refl, sym, ap, ◌∙◌}
use Rattle.std.specs.Prelude.{slice_set}
use Rattle.canary_release.specs.Pasts.{change_at}
use Rattle.canary_once.specs.declared.kept_run.KeptRun.{KeptRun}
use Rattle.canary_once.specs.Kept.{closed_by}
use Rattle.canary_once.proofs.KeptPasts.{set_here, change_past_end}
use Rattle.canary_once.proofs.kept_past.close.Goals as goal

pub returns-in-Some-clause-items : goal.returns-in-Some-clause-items
returns-in-Some-clause-items c =
    let place : ℕ = c.saturating_sub-place.result in
    let runs = c.args.runs.now.items in
    let within : place < length runs = omega (arith, c.in-Some.ensures.variant.0 refl, c.args.runs.now.ok.0) in
    ap (λ (r : KeptRun). slice_set runs place (closed_by c.args.closed r)) c.in-Some.ensures.value
    ∙ set_here place (closed_by c.args.closed) runs c.in-Some.run'.now within
    ∙ ap (λ p. change_at p (closed_by c.args.closed) runs) c.saturating_sub-place.ensures

pub returns-in_default-clause-items : goal.returns-in_default-clause-items
returns-in_default-clause-items c =
    let runs = c.args.runs.now.items in
    sym (change_past_end c.saturating_sub-place.result (closed_by c.args.closed) runs c.in_default.ensures.item.3)
    ∙ ap (λ p. change_at p (closed_by c.args.closed) runs) c.saturating_sub-place.ensures
