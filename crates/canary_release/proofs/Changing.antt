-- What commands change of a desk in order.
use Rattle.std.proofs.Common.{◌≡◌, ◌+◌, length, Option, Some, None, refl, ap, subst, sym, ◌∙◌}
use Rattle.std.specs.FinMap.{get}
use Rattle.canary_plan.specs.declared.command.Command.{Command}
use Rattle.canary_plan.specs.Commands.{subject_of}
use Rattle.canary_plan.specs.declared.strategy.CheckedStrategy.{CheckedStrategy}
use Rattle.canary_plan.specs.declared.template.Template.{Template}
use Rattle.canary_release.specs.Laws.{WatchesAlike}
use Rattle.canary_release.specs.PartsLaws.{PassingKeepsParts, ActingKeepsParts, NewPartsAreUnbroken}
use Rattle.canary_release.specs.Order.{AreInOrder}
use Rattle.canary_release.specs.Pasts.{tracked}
use Rattle.canary_release.specs.Evolutions.{Evolution}
use Rattle.canary_release.specs.Desks.{ModelService, RevisionMap, revisions_of, Desk, Change, ruling_on}
use Rattle.canary_release.specs.Desks.Change.{Nothing, Adds, Becomes}
use Rattle.canary_release.specs.Stored.{change_of, stored_after}
use Rattle.canary_release.specs.Effects.{AreAllowed, Changes, IsChange, CommandsChange}
use Rattle.canary_release.proofs.Ordering.{HasCome, newest_counts, came_on}

service_changes : (ts : RevisionMap) (found : Option ModelService) (command : Command) (c : Evolution) → HasCome ts found command (Becomes c) → Changes ts found command (stored_after c) c.effects
service_changes ts None command c h = record { named = h.order.shown; strategy = refl; bound = h.bound; allowed = h.allowed }
service_changes ts (Some m) command c h =
    let f = h.following in
    record {
      named = h.order.shown;
      strategy = f.strategy;
      bound = h.bound;
      allowed = subst (λ (st : CheckedStrategy). AreAllowed ts st (tracked m.past) c.effects) (sym f.strategy) f.allowed;
    }

template_next : (desk : Desk) → AreInOrder desk → (found : Option ModelService) (command : Command) (t : Template) → HasCome desk.templates found command (Adds t) → (t.spec.name ≡ subject_of command) × (t.revision ≡ length (revisions_of desk.templates (subject_of command)) + 1)
template_next desk o None command t h = (h.order.named, ap (λ (x : Template). x.revision) h.order.bound ∙ ap (λ n. n + 1) (newest_counts desk o (subject_of command)))
template_next desk o (Some m) command t h = (h.order.named, ap (λ (x : Template). x.revision) h.order.bound ∙ ap (λ n. n + 1) (newest_counts desk o (subject_of command)))

change_is : (desk : Desk) → AreInOrder desk → (command : Command) (x : Change) → HasCome desk.templates (get desk.services (subject_of command)) command x → IsChange desk command (change_of x)
change_is desk o command Nothing h = tt
change_is desk o command (Adds t) h = template_next desk o (get desk.services (subject_of command)) command t h
change_is desk o command (Becomes c) h = service_changes desk.templates (get desk.services (subject_of command)) command c h

pub commands_change : WatchesAlike → PassingKeepsParts → ActingKeepsParts → NewPartsAreUnbroken → CommandsChange
commands_change alike passing acting adding desk now command o = change_is desk o command (ruling_on desk now command).change (came_on alike passing acting adding desk now command o)
