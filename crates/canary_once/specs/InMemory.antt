-- What a change of the desk in memory has to be.
use Rattle.std.specs.Prelude.{◌≡◌, ℕ, List, [], Option}
use Rattle.std.specs.FinMap.{get}
use Rattle.canary_plan.specs.declared.strategy.CheckedStrategy.{CheckedStrategy}
use Rattle.canary_release.specs.declared.decide.DeskChange.{DeskChange}
use Rattle.canary_release.specs.declared.decide.DeskChange.TheVariants as change
use Rattle.canary_release.specs.declared.effect.Effect.{Effect}
use Rattle.canary_release.specs.declared.runs.Runs.{Runs}
use Rattle.canary_release.specs.declared.service.ServiceParts.{ServiceParts}
use Rattle.canary_release.specs.Pasts.{tracked}
use Rattle.canary_release.specs.Desks.{ModelService, RevisionMap, Desk, before, after}
use Rattle.canary_release.specs.Stored.{stored_form}
use Rattle.canary_release.specs.Effects.{AreAllowed}

-- effects may happen to a service of this strategy, of which this is tracked, over some templates
abbrev pub MayHappen : CheckedStrategy → Runs → List Effect → Type 0
MayHappen st w xs = (templates : RevisionMap) × AreAllowed templates st w xs

-- a service as it was found, or a new one, becomes this one: its strategy stays, what happens may
-- happen, and what the change brings is what is kept of it afterwards
pub record IsKeptAs (found : Option ModelService) (s : ServiceParts)
    (effects : List Effect) : Type 0 where
  pub strategy : s.service.strategy ≡ (before found s.service).service.strategy
  pub allowed : MayHappen s.service.strategy (tracked (before found s.service).past) effects
  pub service : s ≡ stored_form (after found s.service effects)

-- the name of what a change brings
abbrev pub name_in : DeskChange → List ℕ
name_in change.Nothing = []
name_in (change.Template t) = t.spec.name
name_in (change.Service s effects) = s.service.name

-- the service that a change brings, if it brings one, can be kept under that name
abbrev pub IsKept : Desk → List ℕ → DeskChange → Type 0
IsKept desk name change.Nothing = Unit {0}
IsKept desk name (change.Template t) = Unit {0}
IsKept desk name (change.Service s effects) = IsKeptAs (get desk.services name) s effects
