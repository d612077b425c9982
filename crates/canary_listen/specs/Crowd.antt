-- The clients of the code as conversations.
use Rattle.std.specs.Prelude.{◌≡◌, ℕ, length, true, Some, option_map, unwrap_or, IfSome}
use Rattle.std.specs.Ordering.{nat_cmp}
use Rattle.std.specs.BTreeMap.{get, btree_map_len}
use Rattle.canary_wire.specs.Conversing.{Talk}
use Rattle.canary_wire.specs.Crowds.{Crowd}
use Rattle.canary_wire.specs.Talks.{talk_of}
use Rattle.canary_listen.specs.declared.event_loop.EventLoop.{EventLoop}
use Rattle.canary_listen.specs.declared.client.Client.{Client}
use Rattle.canary_listen.specs.declared.clients.Clients.{Clients}
use Rattle.canary_listen.specs.declared.listener.Listener.{Listener}
use Rattle.canary_listen.specs.Attending.{Attendance, attendance}

abbrev pub client_talk : Client → Talk
client_talk c = talk_of c.conversation

abbrev pub crowd_of : Clients → Crowd
crowd_of c = λ client. option_map client_talk (get nat_cmp c.by_number client)

abbrev pub clients_attendance : Clients → Attendance
clients_attendance c = attendance (crowd_of c) c.next

-- how many bytes a client has still to take; none if there is no such client
abbrev pub owed_to : Crowd → ℕ → ℕ
owed_to crowd client = unwrap_or (option_map (λ t. length t.unsent) (crowd client)) 0

-- if there is such a client, the system reports its connection once that is ready
abbrev pub IsReported : Clients → ℕ → Type 0
IsReported c client = IfSome (get nat_cmp c.by_number client) (λ x. x.is_reported ≡ true)

abbrev pub attendance_of : Listener → Attendance
attendance_of l = clients_attendance l.attendant.clients

-- as many as were to come were accepted, and all have gone
abbrev pub AreAllServed : EventLoop → Type 0
AreAllServed a = (a.left ≡ Some 0) × (btree_map_len a.clients.by_number ≡ 0)

abbrev pub IsDone : Listener → Type 0
IsDone l = AreAllServed l.attendant
