-- Rows that have their lines for good, and a file that is imported again.
use Rattle.std.specs.Prelude.{◌≡◌, ℕ, ◌≤◌, List, [], ◌∷◌, Some, Result, Ok, Err}
use Rattle.std.specs.List.{AllByRecursion}
use Rattle.canary_plan.specs.declared.command.Command.TheVariants.{Report}
use Rattle.canary_release.specs.declared.reply.Reply.{Reply}
use Rattle.canary_once.specs.declared.event.Answer.TheVariants.{Replied, Unavailable}
use Rattle.canary_once.specs.Contents.{Contents, count_of, receipt_at, KeepsReceipts}
use Rattle.canary_once.specs.Answers.{repeat_reply, ahead_reply}
use Rattle.canary_files.specs.declared.row.RowRefusal.{RowRefusal}
use Rattle.canary_files.specs.declared.row.Row.{Row}
use Rattle.canary_files.specs.declared.answer.RowReply.{RowReply}
use Rattle.canary_files.specs.declared.answer.RowReply.TheVariants.{Refused, Answered}
use Rattle.canary_base.specs.Writes.{Known}
use Rattle.canary_files.specs.Rows.{row_of}
use Rattle.canary_once.specs.Messages.{rejected, no_memory, answered, DeskState, AnsweredInOrder}
use Rattle.canary_files.specs.RowExchanges.{IsExchange, RowDisposition, told_of, RowExchange, rows_of, lines}
use Rattle.canary_files.specs.Taking.{Fields}
use Rattle.canary_files.specs.Importing.{ImportsAll}

-- the reply says that a request is ahead of its turn
abbrev pub IsAhead : Reply → Type 0
IsAhead reply = (expected : ℕ) × (reply ≡ ahead_reply expected)

-- a row has its line for good: it is neither ahead of its turn nor answered 503
abbrev pub IsLasting : RowDisposition → Type 0
IsLasting (rejected refusal) = Unit {0}
IsLasting no_memory = ⊥
IsLasting (answered event (Replied reply)) = IsAhead reply → ⊥
IsLasting (answered event (Unavailable fault)) = ⊥

-- it is not answered 503
abbrev pub IsHeard : RowDisposition → Type 0
IsHeard (rejected refusal) = Unit {0}
IsHeard no_memory = ⊥
IsHeard (answered event (Replied reply)) = Unit {0}
IsHeard (answered event (Unavailable fault)) = ⊥

abbrev pub AllLasting : List RowExchange → Type 0
AllLasting xs = AllByRecursion (λ x. IsLasting x.disposition) xs

abbrev pub AllHeard : List RowExchange → Type 0
AllHeard xs = AllByRecursion (λ x. IsHeard x.disposition) xs

-- ---- what the register says of a row

-- why it is refused, or the reply that is kept under its number, if it is of the same command
abbrev pub told_by : Contents → Result Row RowRefusal → RowReply
told_by c (Err refusal) = Refused refusal
told_by c (Ok row) =
    Answered (Replied (repeat_reply (receipt_at c row.caller row.number) (Report row.report)))

abbrev pub told_in : Contents → Fields → RowReply
told_in c fields = told_by c (row_of fields)

-- its number is settled, if it reads
abbrev pub IsSettledBy : Contents → Result Row RowRefusal → Type 0
IsSettledBy c (Err refusal) = Unit {0}
IsSettledBy c (Ok row) = row.number ≤ count_of c row.caller

abbrev pub IsSettledRow : Contents → Fields → Type 0
IsSettledRow c fields = IsSettledBy c (row_of fields)

-- ---- the laws

-- each row that has its line for good has that of the register of these contents, in which its
-- number is settled
abbrev pub AreTold : Contents → List RowExchange → Type 0
AreTold c xs =
    AllByRecursion
    (λ x. IsLasting x.disposition
    → (told_of x.disposition ≡ told_in c x.message) × IsSettledRow c x.message) xs

-- so it is of the contents after rows that were answered
abbrev pub TellsAfterwards : DeskState → DeskState → Type 0
TellsAfterwards p q =
    (xs : List RowExchange) → AnsweredInOrder IsExchange p q xs → q.book.is_honest
    → AreTold q.book.contents xs

-- rows whose numbers are settled, or that do not read, change nothing, and have the lines of the
-- register of the contents, 503 aside
abbrev pub TellsSettled : DeskState → DeskState → Type 0
TellsSettled p q =
    (xs : List RowExchange) → AnsweredInOrder IsExchange p q xs → q.book.is_honest
    → AllByRecursion (λ x. IsSettledRow p.book.contents x.message) xs
    → (q.book.contents ≡ p.book.contents)
    × AllByRecursion
    (λ x. IsHeard x.disposition → told_of x.disposition ≡ told_in p.book.contents x.message) xs

-- row by row: if a row had its line for good, it has it again, 503 aside
abbrev pub SameLines : List RowExchange → List RowExchange → Type 0
SameLines [] ys = Unit {0}
SameLines (x ∷ xs) [] = ⊥
SameLines (x ∷ xs) (y ∷ ys) =
    (IsLasting x.disposition → IsHeard y.disposition → told_of y.disposition
    ≡ told_of x.disposition)
    × SameLines xs ys

-- rows that were answered twice, the second time from these contents to those
pub record IsAgain (c new : Contents) (first second : List RowExchange) : Type 0 where
  pub rows : rows_of second ≡ rows_of first
  pub each : SameLines first second
  pub unchanged : AllLasting first → new ≡ c
  pub lines : AllLasting first → AllHeard second → lines second ≡ lines first

-- a file that was imported to its end from p to q is imported to its end again, from r to s, the
-- receipts of q being kept in r (part 5 of an import is what came of its rows)
abbrev pub ImportsAgain : DeskState → DeskState → DeskState → DeskState → Type 0
ImportsAgain p q r s =
    (bytes : List ℕ) (u v w x : Known) (m n : ℕ) (first : ImportsAll (Some bytes) u v p q m)
    (second : ImportsAll (Some bytes) w x r s n)
    → q.book.is_honest → s.book.is_honest → KeepsReceipts q.book.contents r.book.contents
    → IsAgain r.book.contents s.book.contents first.5.exchanges second.5.exchanges
