use Rattle.std.proofs.Common.{sym, ap, ◌∙◌}
use Rattle.std.specs.Prelude.{None}
use Rattle.std.specs.Ordering.{nat_cmp}
use Rattle.std.specs.BTreeMap.{get}
use Rattle.canary_listen.specs.Attending.{attendance}
use Rattle.canary_listen.specs.Crowd.{clients_attendance}
use Rattle.canary_listen.proofs.Attended.{keeps_same, keeps_then, goes_keeps}
use Rattle.canary_listen.proofs.CrowdMaps.{Map, crowd_in, updated}
use Rattle.canary_listen.proofs.clients.Clients.remove.Goals as goal

pub returns-in-Some-clause-keeps : goal.returns-in-Some-clause-keeps
returns-in-Some-clause-keeps c =
    let s = c.args.self.now in
    let gone = attendance (crowd_in c.remove.new.self) s.next in
    let kept = clients_attendance c.keep.new.self in
    keeps_then (attendance (crowd_in s.by_number) s.next) gone kept
    (goes_keeps c.crowds.ensures.goes (crowd_in s.by_number) (crowd_in c.remove.new.self) c.args.number s.next
    (updated s.by_number c.remove.new.self c.args.number None c.remove.ensures.updates))
    (keeps_same gone kept (sym c.keep.ensures.same))

pub returns-in-Some-clause-gone : goal.returns-in-Some-clause-gone
returns-in-Some-clause-gone c = ap (λ (m : Map). get nat_cmp m c.args.number) c.keep.ensures.clients ∙ c.remove.ensures.updates.1

pub returns-in_default-clause-keeps : goal.returns-in_default-clause-keeps
returns-in_default-clause-keeps c =
    let s = c.args.self.now in
    goes_keeps c.crowds.ensures.goes (crowd_in s.by_number) (crowd_in c.remove.new.self) c.args.number s.next
    (updated s.by_number c.remove.new.self c.args.number None c.remove.ensures.updates)

pub returns-in_default-clause-gone : goal.returns-in_default-clause-gone
returns-in_default-clause-gone c = c.remove.ensures.updates.1
