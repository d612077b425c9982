-- The code of a service of the model, by which proofs distinguish such values.
use Rattle.std.specs.Prelude.{ℕ, List, Option, refl}
use Rattle.std.specs.Coded.{Coded, code_by, coded×, coded_ℕ, coded_list, coded_option}
use Rattle.canary_plan.specs.declared.analysis_parts.AnalysisParts.{AnalysisParts}
use Rattle.canary_plan.specs.declared.line.Line.{Line}
use Rattle.canary_plan.specs.declared.service.ServiceSpec.{ServiceSpec}
use Rattle.canary_plan.specs.contracts.analysis_parts.AnalysisParts as analysis
use Rattle.canary_plan.specs.contracts.line.Line as line
use Rattle.canary_plan.specs.contracts.service.ServiceSpec as spec
use Rattle.canary_release.specs.declared.effect.Closing.{Closing}
use Rattle.canary_release.specs.declared.effect.Recorded.{Recorded}
use Rattle.canary_release.specs.declared.state.ServiceState.{ServiceState}
use Rattle.canary_release.specs.contracts.effect.Closing as closing
use Rattle.canary_release.specs.contracts.effect.Recorded as recorded
use Rattle.canary_release.specs.contracts.state.ServiceState as service
use Rattle.canary_release.specs.Pasts.{Run, Past}
use Rattle.canary_release.specs.Desks.{ModelService}

-- each is coded as the tuple of its fields

abbrev pub run_code : Coded Run
run_code =
    code_by (ℕ × (Option ℕ × (AnalysisParts × (ℕ × (Option Closing × List (List Recorded))))))
    (coded× coded_ℕ
    (coded× (coded_option coded_ℕ)
    (coded× analysis.the_row.coded
    (coded× coded_ℕ
    (coded× (coded_option closing.the_row.coded)
    (coded_list (coded_list recorded.the_row.coded)))))))
    (λ r. (r.number, (r.step, (r.analysis, (r.started, (r.closed, r.lists))))))
    (λ p. record {
      number = p.0;
      step = p.1.0;
      analysis = p.1.1.0;
      started = p.1.1.1.0;
      closed = p.1.1.1.1.0;
      lists = p.1.1.1.1.1;
    })
    (λ _. refl)

abbrev pub past_code : Coded Past
past_code =
    code_by (List Run × (List Recorded × List Line))
    (coded× (coded_list run_code)
    (coded× (coded_list recorded.the_row.coded) (coded_list line.the_row.coded)))
    (λ p. (p.runs, (p.measurements, p.history)))
    (λ t. record { runs = t.0; measurements = t.1.0; history = t.1.1 })
    (λ _. refl)

abbrev pub service_code : Coded ModelService
service_code =
    code_by (ServiceSpec × (ServiceState × Past))
    (coded× spec.the_row.coded (coded× service.the_row.coded past_code))
    (λ m. (m.made, (m.service, m.past)))
    (λ t. record { made = t.0; service = t.1.0; past = t.1.1 })
    (λ _. refl)
