-- Worked bodies, computed on the definitions, so that a wrong rule in a definition does not check.
use Rattle.std.proofs.Common.{◌≡◌, ℕ, pos, negsuc, List, [], ◌∷◌, ◌++◌, refl}
use Rattle.std.specs.Prelude.{Option, Some, None, codes}
use Rattle.std.specs.Str.{is_utf8, chars}
use Rattle.serde_json.proofs.OnLiterals.{serde_json_on_literals}
use Rattle.canary_base.specs.Durations.{seconds_of}
use Rattle.canary_condition.specs.declared.outcome.Outcome.{Outcome}
use Rattle.canary_condition.specs.declared.outcome.Outcome.TheVariants.{Result as Brought, Failure}
use Rattle.canary_condition.specs.declared.outcome.Value.TheVariants.{Whole, List as ListResult}
use Rattle.canary_plan.specs.declared.step.Step.{Step}
use Rattle.canary_plan.specs.declared.step.Step.TheVariants.{SetWeight, Pause, Analysis}
use Rattle.canary_plan.specs.declared.service.Background.{Background}
use Rattle.canary_plan.specs.declared.report.Entry.{Entry}
use Rattle.canary_plan.specs.declared.command.Command.{Command}
use Rattle.canary_plan.specs.declared.command.Command.TheVariants.{Service, Start, Promote, Report}
use Rattle.canary_canonical.specs.Readings.{plain_of_kind, start_in, report_in, entry_in}
use Rattle.canary_manifest.specs.Readings.{unsupported, unreadable, readable}
use Rattle.canary_manifest.specs.Rollouts.{step_in, background_in, is_unsupported_step, is_unsupported_rollout}
use Rattle.canary_manifest.specs.Commands.{service_of, reading_of_kind, body_reading}

-- ---- commands that name a service

promotes : body_reading (codes "{\"promote\":{\"service\":\"web\"}}") ≡ readable (Promote (codes "web"))
unfolding serde_json_on_literals is_utf8 chars reading_of_kind plain_of_kind
promotes = refl

starts_in_other_words : body_reading (codes "{ \"start\" : {\"version\":\"v2\", \"service\":\"web\"} }") ≡ readable (Start (codes "web") (codes "v2"))
unfolding serde_json_on_literals is_utf8 chars reading_of_kind plain_of_kind start_in
starts_in_other_words = refl

foreign_even_where_null : body_reading (codes "{\"promote\":{\"service\":\"web\",\"x\":null}}") ≡ unreadable
unfolding serde_json_on_literals is_utf8 chars reading_of_kind plain_of_kind
foreign_even_where_null = refl

no_json : body_reading (codes "aaaa") ≡ unreadable
unfolding serde_json_on_literals is_utf8 chars
no_json = refl

-- ---- services

-- a body that asks for the service web at v1, whose Rollout has this spec
abbrev asks_for : List ℕ → List ℕ
asks_for spec = codes "{\"service\":{\"manifest\":{\"metadata\":{\"name\":\"web\"},\"spec\":" ++ spec ++ codes "},\"version\":\"v1\"}}"

-- the same, of its canary strategy
abbrev asks_for_canary : List ℕ → List ℕ
asks_for_canary canary = asks_for (codes "{\"strategy\":{\"canary\":" ++ canary ++ codes "}}")

abbrev web_with : List Step → Option Background → Command
web_with steps background = Service (record { name = codes "web"; version = codes "v1"; steps = steps; background = background })

registers : body_reading (asks_for_canary (codes "{\"steps\":[{\"setWeight\":20},{\"pause\":{}},{\"setWeight\":50},{\"pause\":{}}]}"))
    ≡ readable (web_with (SetWeight 20 ∷ Pause None ∷ SetWeight 50 ∷ Pause None ∷ []) None)
unfolding serde_json_on_literals is_utf8 chars reading_of_kind service_of step_in is_unsupported_step is_unsupported_rollout
registers = refl

three_ways_to_pause : body_reading (asks_for_canary (codes "{\"steps\":[{\"pause\":{\"duration\":\"300\"}},{\"pause\":{\"duration\":300}},{\"pause\":{\"duration\":\"5m\"}}]}"))
    ≡ readable (web_with (Pause (Some 300) ∷ Pause (Some 300) ∷ Pause (Some 300) ∷ []) None)
unfolding serde_json_on_literals is_utf8 chars reading_of_kind service_of step_in is_unsupported_step is_unsupported_rollout seconds_of
three_ways_to_pause = refl

analyses : body_reading (asks_for_canary (codes "{\"steps\":[{\"analysis\":{\"templates\":[{\"templateName\":\"t\"}]}}],\"analysis\":{\"templates\":[{\"templateName\":\"u\"}],\"startingStep\":1}}"))
    ≡ readable (web_with (Analysis (codes "t" ∷ []) ∷ []) (Some (record { templates = codes "u" ∷ []; starting_step = 1 })))
unfolding serde_json_on_literals is_utf8 chars reading_of_kind service_of step_in background_in is_unsupported_step is_unsupported_rollout
analyses = refl

analysis_of_nothing : body_reading (asks_for_canary (codes "{\"analysis\":{}}")) ≡ unreadable
unfolding serde_json_on_literals is_utf8 chars reading_of_kind service_of background_in is_unsupported_rollout
analysis_of_nothing = refl

null_as_if_absent : body_reading (asks_for (codes "{\"paused\":null,\"strategy\":{\"blueGreen\":null,\"canary\":{\"steps\":null}}}")) ≡ readable (web_with [] None)
unfolding serde_json_on_literals is_utf8 chars reading_of_kind service_of is_unsupported_rollout
null_as_if_absent = refl

-- ---- what the desk does not do

unsupported_goes_first : body_reading (codes "{\"service\":{\"manifest\":{\"kind\":\"Deployment\"},\"x\":0}}") ≡ unsupported
unfolding serde_json_on_literals is_utf8 chars reading_of_kind is_unsupported_rollout
unsupported_goes_first = refl

paused : body_reading (asks_for (codes "{\"paused\":true,\"strategy\":{\"canary\":{}}}")) ≡ unsupported
unfolding serde_json_on_literals is_utf8 chars reading_of_kind is_unsupported_rollout
paused = refl

blue_green : body_reading (asks_for (codes "{\"strategy\":{\"blueGreen\":{}}}")) ≡ unsupported
unfolding serde_json_on_literals is_utf8 chars reading_of_kind is_unsupported_rollout
blue_green = refl

other_step : body_reading (asks_for_canary (codes "{\"steps\":[{\"setCanaryScale\":{}}]}")) ≡ unsupported
unfolding serde_json_on_literals is_utf8 chars reading_of_kind is_unsupported_step is_unsupported_rollout
other_step = refl

-- ---- reports

-- a body that reports these entries of run 2 of the service web
abbrev tells : List ℕ → List ℕ
tells entries = codes "{\"report\":{\"service\":\"web\",\"run\":2,\"entries\":[" ++ entries ++ codes "]}}"

abbrev measurement : ℕ → Outcome → Entry
measurement taken outcome = record { metric = codes "m"; ordinal = 1; taken = taken; outcome = outcome; within = refl }

three_outcomes : body_reading (tells (codes "{\"metric\":\"m\",\"ordinal\":1,\"taken\":60,\"result\":-5},{\"metric\":\"m\",\"ordinal\":1,\"taken\":61,\"result\":[1,0]},{\"metric\":\"m\",\"ordinal\":1,\"taken\":62,\"failure\":\"no\"}"))
    ≡ readable (Report (record {
      service = codes "web";
      run = 2;
      entries = measurement 60 (Brought (Whole (negsuc 4))) ∷ measurement 61 (Brought (ListResult (pos 1 ∷ pos 0 ∷ []))) ∷ measurement 62 (Failure (codes "no")) ∷ [];
      within = refl;
    }))
unfolding serde_json_on_literals is_utf8 chars reading_of_kind plain_of_kind report_in entry_in
three_outcomes = refl

null_is_no_result : body_reading (tells (codes "{\"metric\":\"m\",\"ordinal\":1,\"taken\":60,\"result\":null}")) ≡ unreadable
unfolding serde_json_on_literals is_utf8 chars reading_of_kind plain_of_kind report_in entry_in
null_is_no_result = refl

result_too_great : body_reading (tells (codes "{\"metric\":\"m\",\"ordinal\":1,\"taken\":60,\"result\":9223372036854775808}")) ≡ unreadable
unfolding serde_json_on_literals is_utf8 chars reading_of_kind plain_of_kind report_in entry_in
result_too_great = refl
