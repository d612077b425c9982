use Rattle.std.proofs.Common.{ap, ◌∙◌}
use Rattle.canary_release.specs.Desks.{after}
use Rattle.std.specs.Prelude.{Some}
use Rattle.canary_once.specs.Kept.{Kept, keeps_all}
use Rattle.canary_once.specs.KeptRooms.{kept_in}
use Rattle.canary_once.proofs.KeptChanges.{AreThat, changed}
use Rattle.canary_once.proofs.kept_service.KeptService.change.Goals as goal
use Rattle.canary_once.proofs.kept_service.KeptService.change.Goals.{After-apply_effects}

it_is : (c : After-apply_effects) → AreThat (after (Some c.args.self.now) c.args.service.service c.args.effects) c.self.inside.name c.self.inside.version c.args.service (kept_in c.apply_effects.new.self)
it_is c = changed c.watching.ensures c.args.self.now c.self.inside.name c.self.inside.version c.self.inside.service c.args.service (kept_in c.self.inside.past) (kept_in c.apply_effects.new.self) c.args.effects c.self.view_is c.self.invariant.kept (c.apply_effects.ensures ∙ ap (λ (k : Kept). keeps_all k c.args.effects) c.in_ok-reserve.ensures.same) c.requires

pub invariant_of-self-2 : goal.invariant_of-self-2
invariant_of-self-2 c = let it = it_is (goal.at.invariant_of-self-2 c).After-apply_effects in record { runs = it.runs; kept = it.kept }

pub returns-clause-ok : goal.returns-clause-ok
returns-clause-ok c = (it_is (goal.at.returns-clause-ok c).After-apply_effects).model
