-- Many clients, each answered in order.
use Rattle.std.specs.Prelude.{◌≡◌, ℕ, ◌<◌, ◌≤◌, List, ◌++◌, None}
use Rattle.std.specs.List.{AllByRecursion}
use Rattle.canary_wire.specs.Conversing.{Talk}
use Rattle.canary_wire.specs.Crowds.{Turn, Crowd, all_held, InOrderBy, IsCrowd}
use Rattle.canary_once.specs.Messages.{DeskState, HandledAll, AnsweredInOrder}
use Rattle.canary_wire.specs.Dispositions.{IsExchange}

-- ---- what is served

-- the conversation of each client is in order, by its own turns alone, also if it has ended:
-- what was written to it, with what is owed to it, are the replies to the messages that were read
abbrev pub AreInOrder : List Turn → Type 0
AreInOrder turns = (client : ℕ) → (t : Talk) × InOrderBy turns client t

-- from one point of the desk to another clients had these turns, in this order: each conversation
-- is in order, and all exchanges together were held by the desk, one after another
pub record ServesAll (old new : DeskState) : Type 0 where
  pub turns : List Turn
  pub order : AreInOrder turns
  pub holds : AnsweredInOrder IsExchange old new (all_held turns)

-- ---- step by step

-- the conversations under way, by the numbers of their clients, and the number of the next client
pub record Attendance : Type 0 where
  pub crowd : Crowd
  pub next : ℕ

abbrev pub attendance : Crowd → ℕ → Attendance
attendance crowd next = record { crowd = crowd; next = next }

abbrev pub nobody : Attendance
nobody = attendance (λ client. None) 0

-- after these turns all conversations are in order, under way or ended, and no turn or conversation
-- is that of a number still to be given
pub record IsServed (turns : List Turn) (a : Attendance) : Type 0 where
  pub crowd : IsCrowd turns a.crowd
  pub given : AllByRecursion (λ t. t.client < a.next) turns
  pub free : (client : ℕ) → a.next ≤ client → a.crowd client ≡ None

-- clients came or went, and had no turn
abbrev pub KeepsServed : Attendance → Attendance → Type 0
KeepsServed old new = (turns : List Turn) → IsServed turns old → IsServed turns new

-- clients came, had turns or went
pub record Attends (p q : DeskState) (old new : Attendance) : Type 0 where
  pub turns : List Turn
  pub went : HandledAll IsExchange p q (all_held turns)
  pub keeps : (before : List Turn) → IsServed before old → IsServed (before ++ turns) new
