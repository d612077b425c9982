use Rattle.std.proofs.Common.{◌∙◌}
use Rattle.canary_release.specs.Desks.{after}
use Rattle.std.specs.Prelude.{None}
use Rattle.canary_once.specs.KeptRooms.{kept_in}
use Rattle.canary_once.specs.KeptServices.{model_of}
use Rattle.canary_once.proofs.KeptChanges.{AreThat, made}
use Rattle.canary_once.proofs.kept_service.KeptService.new.Goals as goal
use Rattle.canary_once.proofs.kept_service.KeptService.new.Goals.{After-apply_effects}

it_is : (c : After-apply_effects) → AreThat (after None c.args.service.service c.args.effects) c.args.service.service.name c.args.service.service.version c.args.service (kept_in c.apply_effects.new.self)
it_is c = made c.watching.ensures c.args.service (kept_in c.reserve.new.self) (kept_in c.apply_effects.new.self) c.args.effects (c.in_ok-reserve.ensures.same ∙ c.new-past.ensures) c.apply_effects.ensures c.requires

pub invariant_of-result : goal.invariant_of-result
invariant_of-result c = let it = it_is (goal.at.invariant_of-result c).After-apply_effects in record { runs = it.runs; kept = it.kept }

pub returns : goal.returns
returns c =
    (λ i. model_of (c.name.ensures.value i) (c.version.ensures.value i) c.args.service (kept_in c.apply_effects.new.self))
    ∙ (it_is (goal.at.returns c).After-apply_effects).model
