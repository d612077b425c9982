-- Soundness: each verdict is that of its run's recorded measurements, each judged by its metric's
-- conditions.
use Rattle.std.specs.Prelude.{◌≡◌, ℕ, Bool, true, false, List, [], ◌∷◌, map, Option, Some, None}
use Rattle.std.specs.FinMap.{get}
use Rattle.std.specs.List.{AllByRecursion}
use Rattle.canary_condition.specs.declared.outcome.Phase.{Phase}
use Rattle.canary_condition.specs.declared.outcome.Phase.TheVariants.{Running}
use Rattle.canary_condition.specs.Phases.{phase_of}
use Rattle.canary_metric.specs.Metrics.{MetricValue}
use Rattle.canary_metric.specs.MetricPhases.{is_completed}
use Rattle.canary_metric.specs.Verdicts.{verdict}
use Rattle.canary_plan.specs.declared.command.Command.{Command}
use Rattle.canary_release.specs.declared.effect.Recorded.{Recorded}
use Rattle.canary_release.specs.declared.effect.Closing.{Closing}
use Rattle.canary_release.specs.Pasts.{Run, measurement_of}
use Rattle.canary_release.specs.Desks.{ModelService, Desk, machine}
use Rattle.canary_release.specs.Order.{AreInOrder}

-- a measurement has the phase that its metric's conditions give its outcome
abbrev pub IsJudgedBy : MetricValue → Recorded → Type 0
IsJudgedBy m x = x.phase ≡ phase_of m.success m.failure x.outcome

abbrev pub AreJudged : List MetricValue → List (List Recorded) → Type 0
AreJudged [] lists = Unit {0}
AreJudged (m ∷ ms) [] = Unit {0}
AreJudged (m ∷ ms) (list ∷ lists) = AllByRecursion (IsJudgedBy m) list × AreJudged ms lists

-- the verdict of a run's whole lists, ended from outside or not
abbrev pub verdict_on : Run → Bool → Phase
verdict_on r outside = verdict r.analysis.metrics (map (map measurement_of) r.lists) outside

-- a run is closed exactly if its verdict isn't Running: an open run is Running, and a closed one
-- was closed at its verdict, a completed phase
abbrev pub HasVerdict : Run → Option Closing → Type 0
HasVerdict r None = verdict_on r false ≡ Running
HasVerdict r (Some x) =
    (x.run ≡ r.number) × (x.verdict ≡ verdict_on r x.outside) × (is_completed x.verdict ≡ true)

abbrev pub IsSoundRun : Run → Type 0
IsSoundRun r = AreJudged r.analysis.metrics r.lists × HasVerdict r r.closed

abbrev pub AreSound : Desk → Type 0
AreSound desk =
    (name : List ℕ) (s : ModelService) → get desk.services name ≡ Some s
    → AllByRecursion IsSoundRun s.past.runs

-- the law: the machine keeps a desk in order sound
abbrev pub StaySound : Type 0
StaySound =
    (desk : Desk) (xs : List (ℕ × Command)) → AreInOrder desk → AreSound desk
    → AreSound (machine desk xs).desk
