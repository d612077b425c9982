-- A service of the model, from what a book in memory keeps of it.
use Rattle.std.specs.Prelude.{◌≡◌, ℕ, List}
use Rattle.canary_plan.specs.declared.service.ServiceSpec.{ServiceSpec}
use Rattle.canary_release.specs.declared.service.ServiceParts.{ServiceParts}
use Rattle.canary_release.specs.Pasts.{tracked}
use Rattle.canary_release.specs.Desks.{ModelService, made_as}
use Rattle.canary_once.specs.Kept.{Kept, past_kept, AreKept}
use Rattle.canary_once.specs.KeptRooms.{kept_in}
use Rattle.canary_once.specs.declared.kept_service.KeptService.TheInside.{Inside}

-- its strategy stays, and so what the command that made it asked for can be read off from it
abbrev pub made_of : List ℕ → List ℕ → ServiceParts → ServiceSpec
made_of name version s = record (made_as s.service) { name = name; version = version }

abbrev pub model_of : List ℕ → List ℕ → ServiceParts → Kept → ModelService
model_of name version s k =
    record { made = made_of name version s; service = s.service; past = past_kept k }

abbrev pub kept_model : Inside → ModelService
kept_model s = model_of s.name s.version s.service (kept_in s.past)

-- what is kept of its past is kept well, and the service's runs are what is tracked of it
pub record IsKeptWell (s : Inside) : Type 0 where
  pub runs : s.service.runs ≡ tracked (past_kept (kept_in s.past))
  pub kept : AreKept (kept_in s.past)
