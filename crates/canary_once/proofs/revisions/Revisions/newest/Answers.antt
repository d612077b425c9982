use Rattle.std.proofs.Common.{None, ap, ◌∙◌}
use Rattle.std.specs.List.{last_or}
use Rattle.canary_once.proofs.NameMaps.{found_there, found_none}
use Rattle.canary_once.proofs.revisions.Revisions.newest.Goals as goal

pub returns-in-Some : goal.returns-in-Some
returns-in-Some c =
    c.newest.ensures ∙ ap (last_or None) (found_there c.self.inside.templates.entries c.args.self.now c.args.name.now c.in-Some.revisions.now c.self.view_is c.in-Some.ensures.value)

pub returns-in-None : goal.returns-in-None
returns-in-None c = ap (last_or None) (found_none c.self.inside.templates.entries c.args.self.now c.args.name.now c.self.view_is c.in-None.ensures.value)
