-- If services are judged, they and all that is theirs are those of sound contents.
use Rattle.std.proofs.Common.{◌≡◌, inl, inr, ℕ, List, [], Some, None, sym, subst}
use Rattle.std.specs.Prelude.{filter}
use Rattle.std.specs.List.{AllByRecursion}
use Rattle.std.specs.FinMap.{get}
use Rattle.canary_plan.specs.declared.command.Command.TheVariants as command
use Rattle.canary_release.specs.Desks.{ModelService}
use Rattle.canary_release.specs.Order.{IsInOrder}
use Rattle.canary_release.specs.Sound.{IsSoundRun}
use Rattle.canary_once.specs.Records.{past_of}
use Rattle.canary_tables_rows.specs.declared.rows.ServiceRow.{ServiceRow}
use Rattle.canary_tables_rows.specs.Tables.{Tables, is_service}
use Rattle.canary_tables_contents.specs.Tables.{IsReadableCommand, IsReadablePast}
use Rattle.canary_tables_contents.specs.Reading.{contents_of}
use Rattle.canary_tables_contents.specs.Judged.{HoldTemplates}
use Rattle.canary_tables_contents.specs.Counting.{CountingIsExact, RunsAreTallied}
use Rattle.canary_tables_contents.specs.Services.{IsServiceJudged, AreServicesJudged, HoldServices}
use Rattle.canary_tables_contents.proofs.ServicesHoldRows.{service_judged, made_readable}
use Rattle.canary_tables_contents.proofs.ServicesHoldRuns.{none_or_service, service_gone, past_gone, service_there, past_there, services_hold_at, runs_hold_at}
use Rattle.canary_tables_contents.proofs.ServicesHoldLists.{measurements_hold_at, history_holds_at}
use Rattle.canary_tables_contents.proofs.ServicesHoldTallies.{tallies_hold_at}
use Rattle.canary_tables_contents.proofs.ServicesHoldBindings.{bindings_hold_at}
use Rattle.canary_tables_contents.proofs.ServicesHoldSound.{past_readable, in_order, runs_sound}

-- what holds of a service of contents
record IsGood (t : Tables) (q : List ℕ) (m : ModelService) : Type 0 where
  made : IsReadableCommand (command.Service m.made)
  in_order : IsInOrder (contents_of t).desk.templates q m
  sound : AllByRecursion IsSoundRun m.past.runs

-- under a name
record AtService (t : Tables) (q : List ℕ) : Type 0 where
  past : IsReadablePast (past_of (contents_of t) q)
  good : (m : ModelService) → get (contents_of t).desk.services q ≡ Some m → IsGood t q m

none_at : (t : Tables) (q : List ℕ) → filter (is_service q) t.services ≡ [] → AtService t q
none_at t q none =
    let gone : get (contents_of t).desk.services q ≡ None = service_gone t q none in
    record { past = subst IsReadablePast (sym (past_gone t q none)) (record { runs = tt; measurements = tt; history = tt }); good = λ m e. absurd (cc) }

one_at : CountingIsExact → RunsAreTallied → (t : Tables) → HoldTemplates t → (row : ServiceRow) → IsServiceJudged t row → AtService t row.name
one_at exact tallied t hold row j =
    let there : get (contents_of t).desk.services row.name ≡ Some (service_judged j) = service_there t row j in
    let good : IsGood t row.name (service_judged j) = record { made = made_readable t row j; in_order = in_order exact tallied t hold row j; sound = runs_sound exact tallied t row j } in
    record {
      past = subst IsReadablePast (sym (past_there t row j)) (past_readable exact tallied t row j);
      good = λ m e. let same : service_judged j ≡ m = cc in subst (IsGood t row.name) same good;
    }

at_service : CountingIsExact → RunsAreTallied → (t : Tables) → HoldTemplates t → AreServicesJudged t → (q : List ℕ) → AtService t q
at_service exact tallied t hold judged q =
    elim (none_or_service t judged q) as (λ x. AtService t q) [
      | inl none ↦ none_at t q none
      | inr one ↦ subst (AtService t) one.named (one_at exact tallied t hold one.row one.has.judged)
    ]

pub services_hold : CountingIsExact → RunsAreTallied → (t : Tables) → HoldTemplates t → AreServicesJudged t → HoldServices t
services_hold exact tallied t hold judged = record {
  services = services_hold_at t judged;
  bindings = bindings_hold_at t judged;
  runs = runs_hold_at t judged;
  tallies = tallies_hold_at exact tallied t judged;
  measurements = measurements_hold_at t judged;
  history = history_holds_at t judged;
  made = λ q m e. ((at_service exact tallied t hold judged q).good m e).made;
  pasts = λ q. (at_service exact tallied t hold judged q).past;
  in_order = λ q m e. ((at_service exact tallied t hold judged q).good m e).in_order;
  sound = λ q m e. ((at_service exact tallied t hold judged q).good m e).sound;
}
