-- Tables are judged exactly if they are those of sound contents.
use Rattle.canary_tables_rows.specs.Tables.{Tables}
use Rattle.canary_tables_contents.specs.Soundness.{AreSoundTables}
use Rattle.canary_tables_contents.specs.Judged.{HoldTemplates, CallersAreJudged, TemplatesAreJudged}
use Rattle.canary_tables_contents.specs.Counting.{CountingIsExact, RunsAreTallied}
use Rattle.canary_tables_contents.specs.Services.{IsJudged, HoldParts, PartsMakeThemSound}
use Rattle.canary_tables_contents.specs.JudgedLaws.{ServicesAreJudged, JudgingIsExact}
use Rattle.canary_tables_contents.proofs.ServicesHold.{services_hold}
use Rattle.canary_tables_contents.proofs.ServicesJudged.{services_judged}

pub services_are_judged : CountingIsExact → RunsAreTallied → ServicesAreJudged
services_are_judged exact tallied t templates = (services_hold exact tallied t templates, services_judged exact tallied t)

hold : CallersAreJudged → TemplatesAreJudged → ServicesAreJudged → (t : Tables) → IsJudged t → HoldParts t
hold callers templates services t j =
    let held : HoldTemplates t = (templates t).0 j.templates in
    record { callers = (callers t).0 j.callers; templates = held; services = (services t held).0 j.services }

judge : CallersAreJudged → TemplatesAreJudged → ServicesAreJudged → (t : Tables) → HoldParts t → IsJudged t
judge callers templates services t h = record { callers = (callers t).1 h.callers; templates = (templates t).1 h.templates; services = (services t h.templates).1 h.services }

pub judging_is_exact : CallersAreJudged → TemplatesAreJudged → ServicesAreJudged → PartsMakeThemSound → JudgingIsExact
judging_is_exact callers templates services parts t =
    (λ (j : IsJudged t). (parts t).0 (hold callers templates services t j), λ (sound : AreSoundTables t). judge callers templates services t ((parts t).1 sound))
