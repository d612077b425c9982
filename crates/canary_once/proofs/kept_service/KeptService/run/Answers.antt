use Rattle.std.proofs.Common.{◌≡◌, ap, ◌∙◌}
use Rattle.std.proofs.lemmas.Result.{IfOk-weaker}
use Rattle.std.specs.Prelude.{Option}
use Rattle.canary_release.specs.Desks.{ModelService}
use Rattle.canary_once.specs.declared.kept_run.KeptRun.{KeptRun}
use Rattle.canary_once.specs.Records.{record_numbered}
use Rattle.canary_once.specs.Kept.{kept_numbered, record_among}
use Rattle.canary_once.specs.KeptRooms.{kept_in}
use Rattle.canary_once.proofs.KeptRecords.{told_by}
use Rattle.canary_once.proofs.kept_service.KeptService.run.Goals as goal
use Rattle.canary_once.proofs.kept_service.KeptService.run.Goals.{After-run}

told : (c : After-run) → record_among (kept_numbered c.self.inside.past.runs.items c.args.number) c.self.inside.service.runs.open_runs ≡ record_numbered c.args.self.now.past c.args.number
told c = told_by (kept_in c.self.inside.past) c.self.inside.service.runs c.args.self.now.past c.args.number c.self.invariant.kept c.self.invariant.runs (ap (λ (m : ModelService). m.past) c.self.view_is)

pub returns-in-Some : goal.returns-in-Some
returns-in-Some c =
    IfOk-weaker c.record.result _ _ (λ found e. e ∙ (λ i. record_among (c.in-Some.ensures i) (c.open_runs.ensures.value i)) ∙ told (goal.at.returns-in-Some c).After-run) c.record.ensures

pub returns-in-None : goal.returns-in-None
returns-in-None c = ap (λ (o : Option KeptRun). record_among o c.self.inside.service.runs.open_runs) c.in-None.ensures ∙ told (goal.at.returns-in-None c).After-run
