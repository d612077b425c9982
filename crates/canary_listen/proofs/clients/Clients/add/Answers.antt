use Rattle.std.proofs.Common.{◌≡◌, ◌+◌, rules, subst}
use Rattle.canary_listen.specs.Attending.{KeepsServed, attendance}
use Rattle.canary_listen.proofs.Attended.{keeps_same, comes_keeps}
use Rattle.canary_listen.proofs.CrowdMaps.{crowd_in, unchanged, comes_in}
use Rattle.canary_listen.proofs.clients.Clients.add.Goals as goal

pub returns-in_err-insert : goal.returns-in_err-insert
returns-in_err-insert c =
    let s = c.args.self.now in
    keeps_same (attendance (crowd_in s.by_number) s.next) (attendance (crowd_in c.insert.new.self) s.next) (unchanged s.by_number c.insert.new.self s.next c.in_err-insert.ensures.err)

pub returns : goal.returns
returns c =
    let s = c.args.self.now in
    let next : s.next + 1 ≡ c.in-Some.next = search rules in
    subst (λ n. KeepsServed (attendance (crowd_in s.by_number) s.next) (attendance (crowd_in c.insert.new.self) n)) next
    (comes_keeps c.crowds.ensures.comes (crowd_in s.by_number) (crowd_in c.insert.new.self) s.next
    (comes_in s.by_number c.insert.new.self s.next c.args.client c.requires c.in_ok-insert.ensures.updates))
