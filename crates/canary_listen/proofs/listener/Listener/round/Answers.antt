use Rattle.std.proofs.Common.{◌∙◌, sym}
use Rattle.canary_once.specs.Messages.{desk_state}
use Rattle.canary_listen.specs.Crowd.{attendance_of}
use Rattle.canary_listen.proofs.Attended.{attends_kept, attends_none, attends_then, keeps_same, went_unchanged}
use Rattle.canary_listen.proofs.listener.Listener.round.Goals as goal

pub returns-then-is_err : goal.returns-then-is_err
returns-then-is_err g c =
    let a = attendance_of c.args.self.now in
    let b = attendance_of c.wait.new.self in
    attends_kept (desk_state (g.C.Clock.tells c.args.clock.now) (g.B.Book.state c.args.book.now)) a b (c.going_on.ensures.none c.args.clock.now c.args.book.now)
    (keeps_same a b (sym c.wait.ensures))

pub returns-then-has_lost : goal.returns-then-has_lost
returns-then-has_lost g c =
    let a = attendance_of c.args.self.now in
    let b = attendance_of c.has_lost.new.self in
    let tells = g.C.Clock.tells c.args.clock.now in
    let old = g.B.Book.state c.args.book.now in
    let new = g.B.Book.state c.has_lost.new.book in
    attends_none (desk_state tells old) (desk_state tells new) a b (went_unchanged tells old new (c.going_on.ensures.none c.args.clock.now c.args.book.now) c.has_lost.ensures.book)
    (keeps_same a b (sym (c.has_lost.ensures.attendance ∙ c.look_at_clock.ensures ∙ c.wait.ensures)))

pub returns : goal.returns
returns g c =
    let a = attendance_of c.args.self.now in
    let b = attendance_of c.has_lost.new.self in
    let tells = g.C.Clock.tells c.args.clock.now in
    let old = g.B.Book.state c.args.book.now in
    let mid = g.B.Book.state c.has_lost.new.book in
    let looked = attends_none (desk_state tells old) (desk_state tells mid) a b (went_unchanged tells old mid (c.going_on.ensures.none c.args.clock.now c.args.book.now) c.has_lost.ensures.book)
    (keeps_same a b (sym (c.has_lost.ensures.attendance ∙ c.look_at_clock.ensures ∙ c.wait.ensures))) in
    attends_then (desk_state tells old) (desk_state tells mid) (desk_state (g.C.Clock.tells c.attend_ready.new.clock) (g.B.Book.state c.attend_ready.new.book)) a b (attendance_of c.attend_ready.new.self)
    (c.going_on.ensures.then c.args.clock.now c.args.clock.now c.attend_ready.new.clock c.args.book.now c.has_lost.new.book c.attend_ready.new.book)
    looked c.attend_ready.ensures
