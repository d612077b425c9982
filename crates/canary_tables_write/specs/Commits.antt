-- What the statements of a commit ask of the tables.
use Rattle.std.specs.Prelude.{◌≡◌, Bool, true, false, List, ℕ, length, None}
use Rattle.canary_plan.specs.declared.analysis_parts.Revision.{Revision}
use Rattle.canary_plan.specs.declared.command.Command.{Command}
use Rattle.canary_plan.specs.Plans.{all_revisions, distinct}
use Rattle.canary_release.specs.declared.effect.Effect.{Effect}
use Rattle.canary_release.specs.declared.effect.Opening.{Opening}
use Rattle.canary_release.specs.declared.service.ServiceParts.{ServiceParts}
use Rattle.canary_release.specs.declared.decide.DeskChange.{DeskChange}
use Rattle.canary_release.specs.declared.decide.DeskChange.TheVariants.{Nothing, Template as AddsTemplate, Service as Updates}
use Rattle.canary_once.specs.declared.book.Settlement.{Settlement}
use Rattle.canary_tables_rows.specs.Tables.{Tables}
use Rattle.canary_tables_rows.specs.Changes.{HasService, with_run, tallies_opened}
use Rattle.canary_tables_contents.specs.Values.{ending_of}
use Rattle.canary_tables_contents.specs.Settling.{makes_service, has_bindings, begins, AllRebind, RequestAsks, DeskAsks}

-- unless the command makes the service of that name, it is there
abbrev pub PutAsks : Command → List ℕ → Tables → Type 0
PutAsks command name t = makes_service command ≡ false → HasService name t

-- it is said rightly whether the present attempt of the service is bound; if it is, then to one
-- revision of each of these templates
pub record BindAsks (is_bound : Bool) (name : List ℕ) (revisions : List Revision)
    (t : Tables) : Type 0 where
  pub said : is_bound ≡ has_bindings name t
  pub rows : has_bindings name t ≡ true → AllRebind name 0 revisions t

-- so, if the command begins an attempt
abbrev pub BeginAsks : Bool → Command → ServiceParts → Tables → Type 0
BeginAsks is_bound command s t =
    begins command ≡ true
    → BindAsks is_bound s.service.name (distinct (all_revisions s.service.bound)) t

-- if the command begins an attempt, it is said rightly whether that before it is bound
abbrev pub IsBoundSaid : Bool → Command → DeskChange → Tables → Type 0
IsBoundSaid is_bound command Nothing t = Unit {0}
IsBoundSaid is_bound command (AddsTemplate template) t = Unit {0}
IsBoundSaid is_bound command (Updates s effects) t =
    begins command ≡ true → is_bound ≡ has_bindings s.service.name t

abbrev pub ChangeAsks : Bool → Command → DeskChange → Tables → Type 0
ChangeAsks is_bound command change t =
    IsBoundSaid is_bound command change t × DeskAsks command change t

abbrev pub CommitAsks : Bool → Settlement → Tables → Type 0
CommitAsks is_bound s t = IsBoundSaid is_bound s.receipt.command s.change t × RequestAsks s t

-- a run is added, and a tally for each of its metrics
abbrev pub run_added : List ℕ → Opening → Tables → Tables
run_added name x t =
    tallies_opened name x.run 0 (length x.analysis.metrics)
    (with_run
    (record {
      service = name;
      number = x.run;
      step = x.step;
      started = x.started;
      ending = ending_of None;
    }) t)
