use Rattle.std.proofs.Common.{ap, sym, ◌∙◌}
use Rattle.std.proofs.lemmas.Map.Iter.{rest_more}
use Rattle.std.specs.Map.Iter.{deref_pair}
use Rattle.std.specs.FinMap as map
use Rattle.canary_plan.proofs.Copying.{filled, filled_all}
use Rattle.canary_plan.proofs.templates.Templates.copy.Goals as goal

pub loop-name-init : goal.loop-name-init
loop-name-init c =
    ap (λ m. filled m c.into_iter-name-iterator.result) c.new-copies.ensures
    ∙ ap (filled map.empty) c.into_iter-name-iterator.ensures.into_iter_gives.0
    ∙ filled_all c.self.inside.templates.entries c.into_iter-name-iterator.ensures.into_iter_gives.6
    ∙ c.self.view_is

pub loop-name-preserved : goal.loop-name-preserved
loop-name-preserved c =
    ap (λ m. filled m c.next.new.self) (c.in_ok-insert.ensures.ok ∙ ap (map.insert c.loop-name.copies c.in-Some.name.now) c.in_ok-copy.ensures)
    ∙ sym (ap (filled c.loop-name.copies) (rest_more deref_pair _ _ _ _ c.in-Some.is c.next.ensures.steps))
    ∙ c.loop-name.invariant

pub returns : goal.returns
returns c = sym (ap (filled c.loop-name.copies) c.in-None.ensures.steps.0) ∙ c.loop-name.invariant
