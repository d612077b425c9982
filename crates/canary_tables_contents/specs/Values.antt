-- The row of a value, and the value of a row.
use Rattle.std.specs.Prelude.{ℕ, zero, suc, ◌==◌, ◌&&◌, if◌then◌else◌, Bool, List, [], ◌∷◌, length, filter, Option, Some, None, option_map}
use Rattle.canary_condition.specs.declared.outcome.Outcome.{Outcome}
use Rattle.canary_condition.specs.declared.outcome.Phase.{Phase}
use Rattle.canary_condition.specs.PhaseTexts.{phase_of_number}
use Rattle.canary_metric.specs.Counts.{Counts}
use Rattle.canary_plan.specs.declared.service.ServiceSpec.{ServiceSpec}
use Rattle.canary_plan.specs.declared.template.Template.{Template}
use Rattle.canary_plan.specs.declared.analysis_parts.Revision.{Revision}
use Rattle.canary_plan.specs.declared.analysis_parts.AnalysisParts.{AnalysisParts}
use Rattle.canary_plan.specs.declared.bound.BoundParts.{BoundParts}
use Rattle.canary_plan.specs.declared.strategy.CheckedStrategy.{CheckedStrategy}
use Rattle.canary_plan.specs.declared.command.Command.{Command}
use Rattle.canary_plan.specs.declared.command.Command.TheVariants as command
use Rattle.canary_plan.specs.declared.line.Line.{Line}
use Rattle.canary_plan.specs.Lines.{words, line_at}
use Rattle.canary_plan.specs.LineReading.{event_of}
use Rattle.canary_plan.specs.Plans.{Templates, template_of, bound_of, analysis_or_none}
use Rattle.canary_canonical.specs.Texts.{command_text}
use Rattle.canary_canonical.specs.Readings.{canonical_in}
use Rattle.canary_release.specs.declared.effect.Recorded.{Recorded}
use Rattle.canary_release.specs.declared.effect.Closing.{Closing}
use Rattle.canary_release.specs.declared.reply.ReplyStatus.{ReplyStatus}
use Rattle.canary_release.specs.declared.state.ReleaseState.{ReleaseState}
use Rattle.canary_release.specs.declared.state.ServiceState.{ServiceState}
use Rattle.canary_release.specs.Replies.{status_code}
use Rattle.canary_release.specs.Order.{is_of}
use Rattle.canary_release.specs.Pasts.{Run}
use Rattle.canary_release.specs.Desks.{ModelService}
use Rattle.canary_once.specs.declared.book.Receipt.{Receipt}
use Rattle.canary_tables_rows.specs.declared.rows.CallerRow.{CallerRow}
use Rattle.canary_tables_rows.specs.declared.rows.KeptRow.{KeptRow}
use Rattle.canary_tables_rows.specs.declared.rows.RevisionRow.{RevisionRow}
use Rattle.canary_tables_rows.specs.declared.rows.BindingRow.{BindingRow}
use Rattle.canary_tables_rows.specs.declared.rows.ServiceColumns.{ServiceColumns}
use Rattle.canary_tables_rows.specs.declared.rows.ServiceRow.{ServiceRow}
use Rattle.canary_tables_rows.specs.declared.rows.ClosingColumns.{ClosingColumns}
use Rattle.canary_tables_rows.specs.declared.rows.RunRow.{RunRow}
use Rattle.canary_tables_rows.specs.declared.rows.TallyRow.{TallyRow}
use Rattle.canary_tables_rows.specs.declared.rows.MeasurementRow.{MeasurementRow}
use Rattle.canary_tables_rows.specs.declared.rows.HistoryRow.{HistoryRow}
use Rattle.canary_tables_contents.specs.Numbers.{state_number, state_of, bit, truth_of, hold_number, hold_of, phase_column, status_of}
use Rattle.canary_condition.specs.OutcomeTexts.{outcome_text, outcome_in}

-- The row of a value.

abbrev pub caller_row : List ℕ → ℕ → CallerRow
caller_row name settled = record { name = name; settled = settled }

abbrev pub kept_row : List ℕ → ℕ → Receipt → KeptRow
kept_row caller number receipt =
    record {
      caller = caller;
      number = number;
      command = command_text receipt.command;
      status = status_code receipt.reply.status;
      body = receipt.reply.body;
    }

-- a revision of a template, and a service are kept by the command that made them

abbrev pub revision_row : List ℕ → Template → RevisionRow
revision_row name template =
    record {
      name = name;
      revision = template.revision;
      spec = command_text (command.Template template.spec);
    }

-- a run of a service is bound to that revision; run 0 stands for its present attempt
abbrev pub binding_row : List ℕ → ℕ → Revision → BindingRow
binding_row service run r =
    record { service = service; run = run; template = r.template; revision = r.number }

abbrev pub standing_of : ServiceState → ℕ → ServiceColumns
standing_of s runs = record {
  stable = s.stable;
  version = s.version;
  state = state_number s.state;
  step = s.step;
  entered = s.entered;
  hold = hold_number s.step_hold s.background_hold;
  background = bit s.background;
  runs = runs;
  last = s.last;
}

abbrev pub service_row : List ℕ → ModelService → ServiceRow
service_row name m =
    record {
      name = name;
      spec = command_text (command.Service m.made);
      standing = standing_of m.service (length m.past.runs);
    }

abbrev pub ending_of : Option Closing → ClosingColumns
ending_of None = record { closed = None; outside = 0; verdict = 0 }
ending_of (Some x) =
    record { closed = Some x.at; outside = bit x.outside; verdict = phase_column x.verdict }

abbrev pub run_row : List ℕ → Run → RunRow
run_row name r =
    record {
      service = name;
      number = r.number;
      step = r.step;
      started = r.started;
      ending = ending_of r.closed;
    }

abbrev pub tally_row : List ℕ → ℕ → ℕ → Counts → TallyRow
tally_row name run metric counts =
    record { service = name; run = run; metric = metric; counts = counts }

abbrev pub measurement_row : List ℕ → Recorded → MeasurementRow
measurement_row name x =
    record {
      service = name;
      run = x.run;
      metric = x.metric;
      ordinal = x.ordinal;
      taken = x.taken;
      phase = phase_column x.phase;
      outcome = outcome_text x.outcome;
    }

abbrev pub history_row : List ℕ → Line → HistoryRow
history_row name line = record { service = name; moment = line.moment; line = words line.event }

-- The value of a row, if its texts and numbers are those of one.

abbrev pub receipt_from : KeptRow → Option Command → Option ReplyStatus → Option Receipt
receipt_from row (Some command) (Some status) =
    Some (record { command = command; reply = record { status = status; body = row.body } })
receipt_from row command status = None

abbrev pub receipt_of_row : KeptRow → Option Receipt
receipt_of_row row = receipt_from row (canonical_in row.command) (status_of row.status)

abbrev pub revision_from : ℕ → Option Command → Option Template
revision_from revision (Some (command.Template spec)) = Some (template_of spec revision)
revision_from revision command = None

abbrev pub revision_of_row : RevisionRow → Option Template
revision_of_row row = revision_from row.revision (canonical_in row.spec)

abbrev pub made_from : Option Command → Option ServiceSpec
made_from (Some (command.Service spec)) = Some spec
made_from command = None

abbrev pub stand_from : List ℕ → CheckedStrategy → BoundParts → ServiceColumns → Option ReleaseState
    → Option (Bool × Bool) → Option Bool → Option ServiceState
stand_from name strategy bound s (Some state) (Some hold) (Some background) = Some (record {
  name = name;
  strategy = strategy;
  bound = bound;
  stable = s.stable;
  version = s.version;
  state = state;
  step = s.step;
  entered = s.entered;
  step_hold = hold.0;
  background_hold = hold.1;
  background = background;
  last = s.last;
})
stand_from name strategy bound s state hold background = None

-- a service of that name and strategy, bound so, that stands so
abbrev pub stand_of : List ℕ → CheckedStrategy → BoundParts → ServiceColumns → Option ServiceState
stand_of name strategy bound s =
    stand_from name strategy bound s (state_of s.state) (hold_of s.hold) (truth_of s.background)

abbrev pub closing_from : ℕ → ℕ → Option Bool → Option Phase → Option (Option Closing)
closing_from number at (Some outside) (Some verdict) =
    Some (Some (record { run = number; at = at; outside = outside; verdict = verdict }))
closing_from number at outside verdict = None

abbrev pub closing_at : ℕ → Option ℕ → ℕ → ℕ → Option (Option Closing)
closing_at number None outside verdict =
    if (outside == 0) && (verdict == 0) then Some None else None
closing_at number (Some at) outside verdict =
    closing_from number at (truth_of outside) (phase_of_number verdict)

-- how the run of that number was closed, if it was
abbrev pub closing_of : ℕ → ClosingColumns → Option (Option Closing)
closing_of number ending = closing_at number ending.closed ending.outside ending.verdict

-- a run's lists, from this metric on, so many of them
abbrev pub lists_in : List Recorded → ℕ → ℕ → ℕ → List (List Recorded)
lists_in measurements run metric zero = []
lists_in measurements run metric (suc n) =
    filter (is_of run metric) measurements ∷ lists_in measurements run (suc metric) n

abbrev pub run_from : List Recorded → AnalysisParts → RunRow → Option (Option Closing)
    → Option Run
run_from measurements analysis row (Some closed) =
    Some (record {
      number = row.number;
      step = row.step;
      analysis = analysis;
      started = row.started;
      closed = closed;
      lists = lists_in measurements row.number 0 (length analysis.metrics);
    })
run_from measurements analysis row None = None

-- a run of a service with this strategy, which is bound to these templates and has had these
-- measurements; its analysis is that at its step
abbrev pub run_of_row : CheckedStrategy → Templates → List Recorded → RunRow → Option Run
run_of_row strategy known measurements row =
    run_from measurements (analysis_or_none (bound_of known strategy) row.step) row
    (closing_of row.number row.ending)

abbrev pub measurement_from : MeasurementRow → Option Phase → Option Outcome → Option Recorded
measurement_from row (Some phase) (Some outcome) =
    Some (record {
      run = row.run;
      metric = row.metric;
      ordinal = row.ordinal;
      taken = row.taken;
      outcome = outcome;
      phase = phase;
    })
measurement_from row phase outcome = None

abbrev pub measurement_of_row : MeasurementRow → Option Recorded
measurement_of_row row = measurement_from row (phase_of_number row.phase) (outcome_in row.outcome)

abbrev pub line_of_row : HistoryRow → Option Line
line_of_row row = option_map (line_at row.moment) (event_of row.line)
