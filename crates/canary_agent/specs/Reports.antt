-- What a report says of what was measured, and which messages go out for it.
use Rattle.std.specs.Prelude.{⊤, ◌≡◌, ◌⊎◌, ℕ, ◌≤◌, List, [], ◌∷◌, ◌++◌, length, IsTrue, false, Option, Some, None, Result, Ok, Err}
use Rattle.canary_condition.specs.declared.outcome.Outcome.{Outcome}
use Rattle.canary_condition.specs.declared.outcome.Outcome.TheVariants as outcome
use Rattle.canary_plan.specs.declared.command.Command.{Command}
use Rattle.canary_plan.specs.declared.command.Command.TheVariants as command
use Rattle.canary_plan.specs.declared.report.Entry.{Entry}
use Rattle.canary_plan.specs.declared.report.Report.{Report}
use Rattle.canary_canonical.specs.Texts.{command_text}
use Rattle.canary_client_journal.specs.declared.entry.Wish.{Wish}
use Rattle.canary_client_journal.specs.Journals.{JournalValue, asks}
use Rattle.canary_client_journal.specs.declared.network.Heard.{Heard}
use Rattle.canary_client_journal.specs.Sending.{IsAskedBy}
use Rattle.canary_client.specs.Beginning.{IsSettledSo}
use Rattle.canary_measure.specs.declared.measured.Measured.{Measured}
use Rattle.canary_measure.specs.Measures.{measured_of}
use Rattle.canary_measure.specs.Results.{IsOutcomeOf}
use Rattle.canary_fetch.specs.declared.fault.ExchangeFault.{ExchangeFault}
use Rattle.canary_fetch.specs.declared.reply.HttpReply.{HttpReply}
use Rattle.canary_fetch.specs.Locals.{is_local}
use Rattle.canary_provider.specs.declared.plan.ReplyFormat.{ReplyFormat}
use Rattle.canary_provider.specs.Answers.{IsMeasured}
use Rattle.canary_agent.specs.declared.plan.Served.{Served}
use Rattle.canary_agent.specs.declared.taken.Came.{Came}
use Rattle.canary_agent.specs.declared.taken.Came.TheVariants as came
use Rattle.canary_agent.specs.declared.taken.Taken.{Taken}
use Rattle.canary_agent.specs.Plans.{IsPlanned}

-- What came of a provider's reply.

-- what its body says was measured; or nothing, if it says nothing
abbrev pub IsCame : ReplyFormat → ℕ → List ℕ → Came → Type 0
IsCame answer status body (came.Measured m) = IsMeasured answer status body m
IsCame answer status body (came.Failed text) =
    (m : Measured) → IsMeasured answer status body m → ⊥

-- nothing was measured
abbrev pub IsFailed : Came → Type 0
IsFailed (came.Measured m) = ⊥
IsFailed (came.Failed text) = ⊤

-- without a reply nothing was measured; and a fault of this machine is no failure
abbrev pub IsCameOfFault : ExchangeFault → Option Came → Type 0
IsCameOfFault fault None = IsTrue (is_local fault)
IsCameOfFault fault (Some c) = (is_local fault ≡ false) × IsFailed c

-- what came of a message: that of its reply
abbrev pub IsCameOf : ReplyFormat → Result HttpReply ExchangeFault → Option Came → Type 0
IsCameOf answer (Ok reply) None = ⊥
IsCameOf answer (Ok reply) (Some c) = IsCame answer reply.status reply.body.items c
IsCameOf answer (Err fault) c = IsCameOfFault fault c

-- What is reported.

-- under a label, of what came: what canary_measure makes of what was measured, or the failure
abbrev pub IsOutcomeFor : List ℕ → Came → Outcome → Type 0
IsOutcomeFor label (came.Measured m) said = IsOutcomeOf label (measured_of m) said
IsOutcomeFor label (came.Failed text) said = said ≡ outcome.Failure text

-- an entry is that of a measurement that was taken, of a metric that the plan has
pub record IsEntryOf (served : Served) (t : Taken) (e : Entry) : Type 0 where
  pub planned : IsPlanned served t.metric
  pub metric : e.metric ≡ t.metric
  pub ordinal : e.ordinal ≡ t.ordinal
  pub taken : e.taken ≡ t.moment
  pub outcome : IsOutcomeFor t.metric t.came e.outcome

-- the entries are those of some of these measurements, each once, in their order
abbrev pub AreEntriesOf : Served → List Taken → List Entry → Type 0
AreEntriesOf served taken [] = ⊤
AreEntriesOf served [] (e ∷ es) = ⊥
AreEntriesOf served (t ∷ taken) (e ∷ es) =
    (IsEntryOf served t e × AreEntriesOf served taken es) ⊎ AreEntriesOf served taken (e ∷ es)

-- the entries are these, or one of this measurement stands after them
abbrev pub IsWithEntry : Served → Taken → List Entry → List Entry → Type 0
IsWithEntry served t es new =
    (new ≡ es) ⊎ ((e : Entry) × IsEntryOf served t e × (new ≡ es ++ e ∷ []))

-- a report of that run of the service has entries of some of these alone, each once: at least one,
-- and no more than a desk takes
pub record IsReportOf (served : Served) (run : ℕ) (taken : List Taken) (r : Report) : Type 0 where
  pub service : r.service ≡ served.name
  pub run_of : r.run ≡ run
  pub entries : AreEntriesOf served taken r.entries
  pub some : 1 ≤ length r.entries
  pub few : length r.entries ≤ 32

-- What is asked.

-- the wish of a command, under no key: its canonical text is what is meant, and what is sent
abbrev pub wish_of : Command → Wish
wish_of c = record { intent = command_text c; key = None; body = command_text c }

-- the journal has a command as what is pending
abbrev pub with_command : JournalValue → Command → JournalValue
with_command j c = asks j (wish_of c)

-- a command was settled by a reply of the desk to it, which the journal has
abbrev pub IsCommandSettled : (List ℕ → Heard → Type 0) → JournalValue → Command → JournalValue
    → Type 0
IsCommandSettled was_told old c new = IsSettledSo was_told (with_command old c) new

-- a message of a command
abbrev pub IsSentFor : (List ℕ → Heard → Type 0) → JournalValue → Command → List ℕ → Type 0
IsSentFor was_told j c m = IsAskedBy was_told (with_command j c) m

-- a message of a report of these
abbrev pub IsSentForReport : (List ℕ → Heard → Type 0) → JournalValue → Served → ℕ → List Taken
    → List ℕ → Type 0
IsSentForReport was_told j served run taken m =
    (r : Report) × IsReportOf served run taken r × IsSentFor was_told j (command.Report r) m

-- a report of these was settled
abbrev pub IsReported : (List ℕ → Heard → Type 0) → JournalValue → Served → ℕ → List Taken
    → JournalValue → Type 0
IsReported was_told old served run taken new =
    (r : Report) × IsReportOf served run taken r
    × IsCommandSettled was_told old (command.Report r) new
