-- What the statements of one settled request make of the tables, and what they ask of them.
use Rattle.std.specs.Prelude.{◌≡◌, ◌==◌, ℕ, Bool, true, false, if◌then◌else◌, List, [], ◌∷◌, length, Some, None}
use Rattle.std.specs.List.{AllByRecursion, list_any}
use Rattle.canary_condition.specs.PhaseTexts.{phase_of_number}
use Rattle.canary_plan.specs.declared.analysis_parts.Revision.{Revision}
use Rattle.canary_plan.specs.declared.command.Command.{Command}
use Rattle.canary_plan.specs.declared.command.CommandKind.{CommandKind}
use Rattle.canary_plan.specs.declared.command.CommandKind.TheVariants as kind
use Rattle.canary_plan.specs.Commands.{kind_of}
use Rattle.canary_plan.specs.Plans.{all_revisions, distinct}
use Rattle.canary_canonical.specs.Texts.{command_text}
use Rattle.canary_release.specs.declared.effect.Effect.{Effect}
use Rattle.canary_release.specs.declared.effect.Effect.TheVariants.{LineAdded, RunOpened, MeasurementRecorded, RunClosed}
use Rattle.canary_release.specs.declared.effect.Opening.{Opening}
use Rattle.canary_release.specs.declared.service.ServiceParts.{ServiceParts}
use Rattle.canary_release.specs.declared.decide.DeskChange.{DeskChange}
use Rattle.canary_release.specs.declared.decide.DeskChange.TheVariants.{Nothing, Template as AddsTemplate, Service as Updates}
use Rattle.canary_once.specs.declared.book.Settlement.{Settlement}
use Rattle.canary_tables_rows.specs.Tables.{Tables, is_binding_of}
use Rattle.canary_tables_rows.specs.Changes.{with_caller, with_settled, with_kept, with_revision, with_service, with_standing, with_binding, with_bound, with_run, with_measurement, with_counted, with_ending, with_line, tallies_opened, HasCaller, HasService, HasBinding, HasRun, HasTally}
use Rattle.canary_tables_contents.specs.Numbers.{phase_column}
use Rattle.canary_tables_contents.specs.Values.{caller_row, kept_row, binding_row, standing_of, ending_of, measurement_row, history_row}
use Rattle.canary_tables_contents.specs.Tables.{IsReadableCommand, IsReadableMeasurement, IsReadableLine}

-- so many requests of the caller are settled now
abbrev pub caller_settled : List ℕ → ℕ → Tables → Tables
caller_settled name number t =
    if number == 1 then with_caller (caller_row name 1) t else with_settled name number t

-- a run of a service is bound to these revisions, each by a row of its own
abbrev pub all_bound : List ℕ → ℕ → List Revision → Tables → Tables
all_bound name number [] t = t
all_bound name number (r ∷ rs) t =
    all_bound name number rs (with_binding (binding_row name number r) t)

-- and is bound to these in place of others
abbrev pub all_rebound : List ℕ → ℕ → List Revision → Tables → Tables
all_rebound name number [] t = t
all_rebound name number (r ∷ rs) t =
    all_rebound name number rs (with_bound name number r.template r.number t)

abbrev pub run_opened : List ℕ → Opening → Tables → Tables
run_opened name x t =
    all_bound name x.run (distinct x.analysis.revisions)
    (tallies_opened name x.run 0 (length x.analysis.metrics)
    (with_run
    (record {
      service = name;
      number = x.run;
      step = x.step;
      started = x.started;
      ending = ending_of None;
    }) t))

-- one thing happens to the service of that name
abbrev pub happened : List ℕ → Effect → Tables → Tables
happened name (LineAdded line) t = with_line (history_row name line) t
happened name (RunOpened x) t = run_opened name x t
happened name (MeasurementRecorded x) t =
    with_counted name x.run x.metric x.phase x.taken (with_measurement (measurement_row name x) t)
happened name (RunClosed x tallies) t = with_ending name x.run (ending_of (Some x)) t

abbrev pub all_happened : List ℕ → List Effect → Tables → Tables
all_happened name [] t = t
all_happened name (x ∷ xs) t = all_happened name xs (happened name x t)

abbrev pub is_making : CommandKind → Bool
is_making kind.Service = true
is_making other = false

-- the command makes a service; another one is on a service that is there
abbrev pub makes_service : Command → Bool
makes_service command = is_making (kind_of command)

-- the service stands so: it is made by this command, or was there
abbrev pub service_put : Command → ServiceParts → Tables → Tables
service_put command s t =
    let name = s.service.name in
    let standing = standing_of s.service s.runs.count in
    if makes_service command
    then with_service (record { name = name; spec = command_text command; standing = standing }) t
    else with_standing name standing t

abbrev pub is_beginning : CommandKind → Bool
is_beginning kind.Start = true
is_beginning kind.Retry = true
is_beginning other = false

-- a command that begins an attempt binds it
abbrev pub begins : Command → Bool
begins command = is_beginning (kind_of command)

abbrev pub has_bindings : List ℕ → Tables → Bool
has_bindings name t = list_any (is_binding_of name 0) t.bindings

-- the present attempt is bound to these: it is bound to others, or to none
abbrev pub attempt_bound : List ℕ → List Revision → Tables → Tables
attempt_bound name revisions t =
    if has_bindings name t then all_rebound name 0 revisions t else all_bound name 0 revisions t

-- what a command that begins an attempt binds
abbrev pub bindings_put : Command → ServiceParts → Tables → Tables
bindings_put command s t =
    if begins command then attempt_bound s.service.name (distinct (all_revisions s.service.bound)) t
    else t

-- what a command changes of the desk
abbrev pub desk_changed : Command → DeskChange → Tables → Tables
desk_changed command Nothing t = t
desk_changed command (AddsTemplate template) t =
    with_revision
    (record
    { name = template.spec.name; revision = template.revision; spec = command_text command }) t
desk_changed command (Updates s effects) t =
    all_happened s.service.name effects (bindings_put command s (service_put command s t))

-- the tables after a settled request
abbrev pub request_settled : Settlement → Tables → Tables
request_settled s t =
    desk_changed s.receipt.command s.change
    (with_kept (kept_row s.caller s.number s.receipt) (caller_settled s.caller s.number t))

-- What the statements ask of the tables that they come to.

abbrev pub Asks : List ℕ → Effect → Tables → Type 0
Asks name (LineAdded line) t = Unit {0}
Asks name (RunOpened x) t = Unit {0}
Asks name (MeasurementRecorded x) t = HasTally name x.run x.metric t
Asks name (RunClosed x tallies) t = HasRun name x.run t

abbrev pub AllAsk : List ℕ → List Effect → Tables → Type 0
AllAsk name [] t = Unit {0}
AllAsk name (x ∷ xs) t = Asks name x t × AllAsk name xs (happened name x t)

abbrev pub AllRebind : List ℕ → ℕ → List Revision → Tables → Type 0
AllRebind name number [] t = Unit {0}
AllRebind name number (r ∷ rs) t =
    HasBinding name number r.template t
    × AllRebind name number rs (with_bound name number r.template r.number t)

-- if the present attempt is bound, it is bound to a revision of each of these templates
abbrev pub BindingsAsk : Command → ServiceParts → Tables → Type 0
BindingsAsk command s t =
    begins command ≡ true → has_bindings s.service.name t ≡ true
    → AllRebind s.service.name 0 (distinct (all_revisions s.service.bound)) t

abbrev pub CallerAsks : List ℕ → ℕ → Tables → Type 0
CallerAsks name number t = (number == 1) ≡ false → HasCaller name t

pub record ServiceAsks (command : Command) (s : ServiceParts) (effects : List Effect)
    (t : Tables) : Type 0 where
  pub service : makes_service command ≡ false → HasService s.service.name t
  pub bindings : BindingsAsk command s (service_put command s t)
  pub effects_ask : AllAsk s.service.name effects (bindings_put command s (service_put command s t))

abbrev pub DeskAsks : Command → DeskChange → Tables → Type 0
DeskAsks command Nothing t = Unit {0}
DeskAsks command (AddsTemplate template) t = Unit {0}
DeskAsks command (Updates s effects) t = ServiceAsks command s effects t

pub record RequestAsks (s : Settlement) (t : Tables) : Type 0 where
  pub caller : CallerAsks s.caller s.number t
  pub desk : DeskAsks s.receipt.command s.change
      (with_kept (kept_row s.caller s.number s.receipt) (caller_settled s.caller s.number t))

-- What of a request must be read back.

abbrev pub IsReadableEffect : Effect → Type 0
IsReadableEffect (LineAdded line) = IsReadableLine line
IsReadableEffect (RunOpened x) = Unit {0}
IsReadableEffect (MeasurementRecorded x) = IsReadableMeasurement x
IsReadableEffect (RunClosed x tallies) = phase_of_number (phase_column x.verdict) ≡ Some x.verdict

abbrev pub IsReadableChange : DeskChange → Type 0
IsReadableChange Nothing = Unit {0}
IsReadableChange (AddsTemplate template) = Unit {0}
IsReadableChange (Updates s effects) = AllByRecursion IsReadableEffect effects

pub record IsReadableSettlement (s : Settlement) : Type 0 where
  pub command : IsReadableCommand s.receipt.command
  pub change : IsReadableChange s.change
