-- What a desk answers to a request is understood: by canary_client_journal no reply of a desk is
-- foreign, and each means what the desk answered.
use Rattle.std.specs.Prelude.{◌≡◌, ℕ, ◌<◌, ◌≤◌, ◌^◌, IsTrue, List, ⊤}
use Rattle.canary_base.specs.Names.{is_name}
use Rattle.canary_plan.specs.declared.refusal.Refusal.{Refusal}
use Rattle.canary_plan.specs.declared.refusal.Refusal.TheVariants.{UnknownMetric, RepeatedMetric, MetricClosed, AlreadyRecorded, OutOfTurn, Spent, Future, TooEarly}
use Rattle.canary_release.specs.declared.reply.Reply.{Reply}
use Rattle.canary_release.specs.declared.reply.Reported.{Reported}
use Rattle.canary_release.specs.declared.state.ServiceState.{ServiceState}
use Rattle.canary_release.specs.Services.{weight}
use Rattle.canary_release.specs.Replies.{status_code, accepted, refused, template_text, service_text, report_text}
use Rattle.canary_once.specs.Answers.{reused_reply, ahead_reply}
use Rattle.canary_client_journal.specs.declared.meaning.Meaning.{Meaning}
use Rattle.canary_client_journal.specs.declared.meaning.Meaning.TheVariants.{Settled, Reused, Ahead}
use Rattle.canary_client_journal.specs.Meanings.{meaning_of}

-- a word of 64 bits holds it, as it holds each number of a program
abbrev pub IsWord : ℕ → Type 0
IsWord n = n < 2 ^ 64

-- what a reply means to whoever hears its bytes
abbrev pub meaning_to : Reply → Meaning
meaning_to reply = meaning_of (status_code reply.status) reply.body

-- the numbers of a refusal
abbrev pub HasWords : Refusal → Type 0
HasWords (UnknownMetric at) = IsWord at
HasWords (RepeatedMetric at) = IsWord at
HasWords (MetricClosed at) = IsWord at
HasWords (AlreadyRecorded at) = IsWord at
HasWords (OutOfTurn at expected) = IsWord at × IsWord expected
HasWords (Spent at) = IsWord at
HasWords (Future at) = IsWord at
HasWords (TooEarly at due) = IsWord at × IsWord due
HasWords refusal = ⊤

-- the name and the numbers that are shown of a service
abbrev pub IsShown : ServiceState → Type 0
IsShown s = IsTrue (is_name s.name) × (IsWord s.step × IsWord (weight s))

-- each refusal settles its number
abbrev pub RefusalsSettle : Type 0
RefusalsSettle = (r : Refusal) → HasWords r → meaning_to (refused r) ≡ Settled

-- so does what was done: the reply shows a template, a service, or what a report adds to one
abbrev pub TemplatesSettle : Type 0
TemplatesSettle =
    (name : List ℕ) (revision : ℕ) → IsTrue (is_name name) → IsWord revision
    → meaning_to (accepted (template_text name revision)) ≡ Settled

abbrev pub ServicesSettle : Type 0
ServicesSettle = (s : ServiceState) → IsShown s → meaning_to (accepted (service_text s)) ≡ Settled

abbrev pub ReportsSettle : Type 0
ReportsSettle =
    (r : Reported) (s : ServiceState) → IsWord r.run → IsShown s
    → meaning_to (accepted (report_text r s)) ≡ Settled

-- the two conflicts are what they say
abbrev pub ReusedIsReused : Type 0
ReusedIsReused = meaning_to reused_reply ≡ Reused

abbrev pub AheadIsAhead : Type 0
AheadIsAhead = (n : ℕ) → n ≤ 4294967295 → meaning_to (ahead_reply n) ≡ Ahead n
