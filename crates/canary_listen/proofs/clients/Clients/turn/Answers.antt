use Rattle.std.proofs.Common.{sym, ap, ◌∙◌}
use Rattle.canary_once.specs.Messages.{desk_state}
use Rattle.canary_listen.specs.Attending.{attendance}
use Rattle.canary_listen.specs.Crowd.{client_talk}
use Rattle.canary_listen.specs.Sums.{in_place_of}
use Rattle.canary_listen.proofs.Attended.{keeps_same, attends_kept, turn_attends}
use Rattle.canary_listen.proofs.CrowdMaps.{Map, crowd_in, there_is, written, owed_there}
use Rattle.canary_listen.proofs.clients.Clients.turn.Goals as goal

pub returns-in_default-clause-attends : goal.returns-in_default-clause-attends
returns-in_default-clause-attends g c =
    let s = c.args.self.now in
    attends_kept (desk_state (g.C.Clock.tells c.args.clock.now) (g.B.Book.state c.args.book.now))
    (attendance (crowd_in s.by_number) s.next) (attendance (crowd_in c.get_mut.follows.lender-at-none) s.next)
    (c.going_on.ensures.none c.args.clock.now c.args.book.now)
    (keeps_same (attendance (crowd_in s.by_number) s.next) (attendance (crowd_in c.get_mut.follows.lender-at-none) s.next)
    (ap (λ (m : Map). attendance (crowd_in m) s.next) (sym c.get_mut.follows.holds-at-none)))

pub returns-clause-attends : goal.returns-clause-attends
returns-clause-attends g c =
    let s = c.args.self.now in
    let old = c.in-Some.client.now in
    let new = c.turn-fate.new.self in
    let map : Map = c.get_mut.follows.lender new in
    turn_attends c.crowds.ensures.turn (desk_state (g.C.Clock.tells c.args.clock.now) (g.B.Book.state c.args.book.now))
    (desk_state (g.C.Clock.tells c.turn-fate.new.clock) (g.B.Book.state c.turn-fate.new.book))
    (crowd_in s.by_number) (crowd_in map) c.args.number s.next (client_talk old) (client_talk new)
    (there_is s.by_number c.args.number old c.in-Some.ensures.value) c.turn-fate.ensures.turn
    (written s.by_number map c.args.number old new c.in-Some.ensures.value (c.get_mut.follows.holds new))

pub returns-clause-unsent : goal.returns-clause-unsent
returns-clause-unsent g c =
    let s = c.args.self.now in
    let old = c.in-Some.client.now in
    let new = c.turn-fate.new.self in
    let map : Map = c.get_mut.follows.lender new in
    let was = there_is s.by_number c.args.number old c.in-Some.ensures.value in
    let is = (written s.by_number map c.args.number old new c.in-Some.ensures.value (c.get_mut.follows.holds new)).changed in
    c.in_place_of-self.ensures
    ∙ (λ i. in_place_of s.unsent ((c.unsent-before.ensures ∙ owed_there (crowd_in s.by_number) c.args.number (client_talk old) was) i) ((c.unsent.ensures ∙ owed_there (crowd_in map) c.args.number (client_talk new) is) i))
