use Rattle.std.proofs.Common.{sym, ap, ◌∙◌}
use Rattle.canary_listen.specs.Attending.{attendance}
use Rattle.canary_listen.proofs.Attended.{keeps_same}
use Rattle.canary_listen.proofs.CrowdMaps.{Map, crowd_in, alike, written_same, written_reported}
use Rattle.canary_listen.proofs.clients.Clients.report.Goals as goal

pub returns-in-Some-clause-keeps : goal.returns-in-Some-clause-keeps
returns-in-Some-clause-keeps c =
    let s = c.args.self.now in
    let new = c.report.new.self in
    let map : Map = c.get_mut.follows.lender new in
    keeps_same (attendance (crowd_in s.by_number) s.next) (attendance (crowd_in map) s.next)
    (alike (crowd_in s.by_number) (crowd_in map) s.next
    (written_same s.by_number map c.args.number c.in-Some.client.now new c.in-Some.ensures.value c.report.ensures.same (c.get_mut.follows.holds new)))

pub returns-in-Some-clause-reported : goal.returns-in-Some-clause-reported
returns-in-Some-clause-reported c is =
    let s = c.args.self.now in
    let new = c.report.new.self in
    let map : Map = c.get_mut.follows.lender new in
    written_reported s.by_number map c.args.number c.in-Some.client.now new c.in-Some.ensures.value (c.report.ensures.reported ∙ is) (c.get_mut.follows.holds new)

pub returns-in-None-clause-keeps : goal.returns-in-None-clause-keeps
returns-in-None-clause-keeps c =
    let s = c.args.self.now in
    keeps_same (attendance (crowd_in s.by_number) s.next) (attendance (crowd_in c.get_mut.follows.lender-at-none) s.next)
    (ap (λ (m : Map). attendance (crowd_in m) s.next) (sym c.get_mut.follows.holds-at-none))
