use Rattle.std.proofs.Common.{Some}
use Rattle.canary_once.proofs.NameMaps.{written_with, updated_with, pushed_result, refused_result, first_there}
use Rattle.canary_once.proofs.revisions.Revisions.push.Goals as goal

pub returns-in-Some-clause-ok : goal.returns-in-Some-clause-ok
returns-in-Some-clause-ok c =
    pushed_result c.push.result c.self.inside.templates.entries (c.get_mut.follows.lender c.push.new.self).entries c.args.self.now c.args.name c.in-Some.revisions.now c.push.new.self c.args.template c.self.view_is c.in-Some.ensures.value
    (written_with c.self.inside.templates (c.get_mut.follows.lender c.push.new.self) c.args.name c.in-Some.revisions.now c.push.new.self c.in-Some.ensures.value (c.get_mut.follows.holds c.push.new.self))
    c.push.ensures.ok

pub returns-in-Some-clause-err : goal.returns-in-Some-clause-err
returns-in-Some-clause-err c =
    refused_result c.push.result c.self.inside.templates.entries (c.get_mut.follows.lender c.push.new.self).entries c.args.self.now c.args.name c.in-Some.revisions.now c.push.new.self c.self.view_is c.in-Some.ensures.value
    (written_with c.self.inside.templates (c.get_mut.follows.lender c.push.new.self) c.args.name c.in-Some.revisions.now c.push.new.self c.in-Some.ensures.value (c.get_mut.follows.holds c.push.new.self))
    c.push.ensures.err

pub returns-in_ok-insert-in-None-clause-ok : goal.returns-in_ok-insert-in-None-clause-ok
returns-in_ok-insert-in-None-clause-ok c =
    first_there c.self.inside.templates.entries c.insert.new.self.entries c.args.self.now c.args.name c.in_ok-first-in-None.first c.args.template c.self.view_is c.in-None.ensures.value
    (updated_with c.get_mut.follows.lender-at-none c.insert.new.self c.self.inside.templates c.args.name (Some c.in_ok-first-in-None.first) c.get_mut.follows.holds-at-none c.in_ok-insert-in-None.ensures.updates)
    c.in_ok-first-in-None.ensures
