-- The exact bytes of replies.
use Rattle.std.specs.Prelude.{ℕ, List, [], ◌∷◌, ◌++◌, map, Option, Some, None, codes, decimal}
use Rattle.std.specs.List.{join_with_byte}
use Rattle.canary_condition.specs.declared.outcome.Phase.{Phase}
use Rattle.canary_plan.specs.declared.refusal.Refusal.{Refusal}
use Rattle.canary_plan.specs.declared.refusal.Refusal.TheVariants.{UnknownMetric, RepeatedMetric, MetricClosed, AlreadyRecorded, OutOfTurn, Spent, Future, TooEarly}
use Rattle.canary_plan.specs.Refusals.{code_of}
use Rattle.canary_condition.specs.PhaseTexts.{phase_text}
use Rattle.canary_release.specs.declared.reply.Reply.{Reply}
use Rattle.canary_release.specs.declared.reply.ReplyStatus.{ReplyStatus}
use Rattle.canary_release.specs.declared.reply.ReplyStatus.TheVariants as reply_status
use Rattle.canary_release.specs.declared.reply.Reported.{Reported}
use Rattle.canary_release.specs.declared.state.Status.{Status}
use Rattle.canary_release.specs.declared.state.Status.TheVariants.{Healthy, Degraded, Paused, Progressing}
use Rattle.canary_release.specs.declared.state.ServiceState.{ServiceState}
use Rattle.canary_release.specs.Services.{status, weight}

abbrev pub status_text : Status → List ℕ
status_text Healthy = codes "Healthy"
status_text Degraded = codes "Degraded"
status_text Paused = codes "Paused"
status_text Progressing = codes "Progressing"

-- a text in quotes
abbrev pub quoted : List ℕ → List ℕ
quoted text = 34 ∷ (text ++ 34 ∷ [])

-- texts in square brackets
abbrev pub bracketed : List (List ℕ) → List ℕ
bracketed items = 91 ∷ (join_with_byte 44 items ++ 93 ∷ [])

-- (RFC 9110, section 15)
abbrev pub status_code : ReplyStatus → ℕ
status_code reply_status.Accepted = 200
status_code reply_status.Refused = 422
status_code reply_status.Conflict = 409
status_code reply_status.NotFound = 404

abbrev pub accepted : List ℕ → Reply
accepted body = record { status = reply_status.Accepted; body = body }

-- {"code":"ok","revision":R,"template":NAME}
abbrev pub template_text : List ℕ → ℕ → List ℕ
template_text name revision =
    codes "{\"code\":\"ok\",\"revision\":"
    ++ (decimal revision ++ (codes ",\"template\":\"" ++ (name ++ codes "\"}")))

-- "service":NAME,"status":STATUS,"step":STEP
abbrev pub place_text : ServiceState → List ℕ
place_text s =
    codes "\"service\":"
    ++ (quoted s.name
    ++ (codes ",\"status\":"
    ++ (quoted (status_text (status s)) ++ (codes ",\"step\":" ++ decimal s.step))))

-- ,"weight":WEIGHT}
abbrev pub weight_text : ServiceState → List ℕ
weight_text s = codes ",\"weight\":" ++ (decimal (weight s) ++ codes "}")

-- {"code":"ok","service":NAME,"status":STATUS,"step":STEP,"weight":WEIGHT}
abbrev pub service_text : ServiceState → List ℕ
service_text s =
    codes "{\"code\":\"ok\",\"service\":\""
    ++ (s.name
    ++ (codes "\",\"status\":\""
    ++ (status_text (status s)
    ++ (codes "\",\"step\":"
    ++ (decimal s.step ++ (codes ",\"weight\":" ++ (decimal (weight s) ++ codes "}")))))))

abbrev pub quoted_phase : Phase → List ℕ
quoted_phase p = quoted (phase_text p)

--
-- {"code":"ok","phases":[..],"run":RUN,"service":NAME,"status":STATUS,"step":STEP,
-- "verdict":PHASE,"weight":WEIGHT}
abbrev pub report_text : Reported → ServiceState → List ℕ
report_text r s =
    codes "{\"code\":\"ok\",\"phases\":"
    ++ (bracketed (map quoted_phase r.phases) ++ (codes ",\"run\":" ++ (decimal r.run
    ++ (codes ","
    ++ (place_text s
    ++ (codes ",\"verdict\":" ++ (quoted_phase r.verdict ++ weight_text s)))))))

-- the text that shows a service, with what a report adds
abbrev pub shown_by : Option Reported → ServiceState → List ℕ
shown_by None = service_text
shown_by (Some r) = report_text r

-- {"code":CODE}
abbrev pub code_alone : List ℕ → List ℕ
code_alone code = codes "{\"code\":" ++ (quoted code ++ codes "}")

-- {"at":AT,"code":CODE}
abbrev pub code_at : ℕ → List ℕ → List ℕ
code_at at code =
    codes "{\"at\":" ++ (decimal at ++ (codes ",\"code\":" ++ (quoted code ++ codes "}")))

-- {"at":AT,"code":CODE,KEY:NUMBER}
abbrev pub code_at_with : ℕ → List ℕ → List ℕ → ℕ → List ℕ
code_at_with at code key number =
    codes "{\"at\":"
    ++ (decimal at
    ++ (codes ",\"code\":"
    ++ (quoted code
    ++ (codes "," ++ (quoted key ++ (codes ":" ++ (decimal number ++ codes "}")))))))

-- the code, and if a refusal has a place, that too
abbrev pub refusal_text : Refusal → List ℕ
refusal_text (UnknownMetric at) = code_at at (codes "unknown-metric")
refusal_text (RepeatedMetric at) = code_at at (codes "repeated-metric")
refusal_text (MetricClosed at) = code_at at (codes "metric-closed")
refusal_text (AlreadyRecorded at) = code_at at (codes "recorded")
refusal_text (OutOfTurn at expected) =
    code_at_with at (codes "out-of-turn") (codes "expected") expected
refusal_text (Spent at) = code_at at (codes "spent")
refusal_text (Future at) = code_at at (codes "future")
refusal_text (TooEarly at due) = code_at_with at (codes "too-early") (codes "due") due
refusal_text refusal = code_alone (code_of refusal)

abbrev pub refused : Refusal → Reply
refused refusal = record { status = reply_status.Refused; body = refusal_text refusal }
