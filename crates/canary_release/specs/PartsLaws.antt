-- The machine keeps parts accepted.
use Rattle.std.specs.Prelude.{◌≡◌, ℕ, false, IsTrue, Ok}
use Rattle.canary_plan.specs.declared.service.ServiceSpec.{ServiceSpec}
use Rattle.canary_plan.specs.declared.command.Command.{Command}
use Rattle.canary_plan.specs.Plans.{Templates, is_accepted, are_fit}
use Rattle.canary_release.specs.declared.service.ServiceParts.{ServiceParts}
use Rattle.canary_release.specs.Rules.Passing.{pass}
use Rattle.canary_release.specs.Rules.Commands.{ModelResult}
use Rattle.canary_release.specs.Desks.{act_passed, new_service}
use Rattle.canary_release.specs.Stored.{stored_evolution, stored_after}
use Rattle.canary_release.specs.Parts.{is_broken}

-- parts stay unbroken as time passes
abbrev pub PassingKeepsParts : Type 0
PassingKeepsParts =
    (s : ServiceParts) (t : ℕ) → IsTrue (is_accepted s.service.strategy)
    → IsTrue (are_fit s.service.bound) → is_broken s ≡ false
    → is_broken (stored_after (pass (stored_evolution s) t)) ≡ false

-- a command that is accepted leads unbroken parts to unbroken parts, with the same strategy, if
-- what it is then bound to is fit for runs
abbrev pub ActingKeepsParts : Type 0
ActingKeepsParts =
    (known : Templates) (command : Command) (s : ServiceParts) (now : ℕ) (a : ModelResult)
    → IsTrue (is_accepted s.service.strategy) → IsTrue (are_fit s.service.bound)
    → is_broken s ≡ false → act_passed known command (stored_evolution s) now ≡ Ok a
    → IsTrue (are_fit a.evolution.service.bound)
    → (is_broken (stored_after a.evolution) ≡ false)
    × (a.evolution.service.strategy ≡ s.service.strategy)

-- a new service's parts are unbroken
abbrev pub NewPartsAreUnbroken : Type 0
NewPartsAreUnbroken =
    (spec : ServiceSpec) (now : ℕ) → is_broken (stored_after (new_service spec now)) ≡ false
