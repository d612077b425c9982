-- What the code says of a report.
use Rattle.std.specs.Prelude.{ℕ, Bool, true, false, List, ◌∷◌, Result, Ok, Err}
use Rattle.canary_condition.specs.declared.outcome.Phase.{Phase}
use Rattle.canary_plan.specs.declared.refusal.Refusal.{Refusal}
use Rattle.canary_release.specs.declared.transition.Transition.{Transition}
use Rattle.canary_release.specs.declared.reply.Reported.{Reported}
use Rattle.canary_release.specs.Rules.Commands.{ModelResult}
use Rattle.canary_release.specs.Replies.{quoted_phase, report_text}
use Rattle.canary_release.specs.Stored.{evolution_of}

-- what a report leads to, as the definitions see it
abbrev pub reported_as : Result (Transition × Reported) Refusal → Result ModelResult Refusal
reported_as (Ok done) = Ok (record { evolution = evolution_of done.0; shows = report_text done.1 })
reported_as (Err refusal) = Err refusal

-- what a phase adds to the text of a list, by whether phases stand before it
abbrev pub phase_words : Bool → Phase → List ℕ
phase_words false p = quoted_phase p
phase_words true p = 44 ∷ quoted_phase p
