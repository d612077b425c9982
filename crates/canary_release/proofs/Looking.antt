-- A decision looks only at the templates that its command looks up.
use Rattle.std.proofs.Common.{◌≡◌, ℕ, List, ap, refl, sym, subst}
use Rattle.std.specs.Prelude.{false, Option, Some, None}
use Rattle.canary_plan.specs.declared.service.ServiceSpec.{ServiceSpec}
use Rattle.canary_plan.specs.declared.strategy.CheckedStrategy.{CheckedStrategy}
use Rattle.canary_plan.specs.declared.bound.BoundParts.{BoundParts}
use Rattle.canary_plan.specs.declared.command.Command.TheVariants.{Template, Service, Start, Retry}
use Rattle.canary_plan.specs.declared.line.LineEvent.{LineEvent}
use Rattle.canary_plan.specs.declared.line.LineEvent.TheVariants.{Started, Retried}
use Rattle.canary_plan.specs.Plans.{Templates, Agree}
use Rattle.canary_plan.specs.Refusals.{or_refusal}
use Rattle.canary_plan.specs.PlanRefusals.{analyses_in, analyses}
use Rattle.canary_plan.specs.Commands.{all_names}
use Rattle.canary_plan.proofs.BoundAlike.{refusal_alike, bound_refusal_alike, bound_alike}
use Rattle.canary_release.specs.declared.state.ReleaseState.TheVariants.{InProgress}
use Rattle.canary_release.specs.Evolutions.{Evolution, with_service_state, tell}
use Rattle.canary_release.specs.Rules.Entering.{enter, without_holds}
use Rattle.canary_release.specs.Rules.Passing.{pass, judged_at}
use Rattle.canary_release.specs.Rules.Commands.{unless, succeeds_with, started_at, start_refusal_at, retry_refusal_at, act}
use Rattle.canary_release.specs.Desks.{rules, rule_template, passed_on, new_service, rule_service}
use Rattle.canary_release.specs.Laws.{LooksOnlyAt}
use Rattle.canary_release.proofs.Keeping.{passed_keeps}

-- templates that agree on all names of a strategy
abbrev AgreeFor : Templates → Templates → CheckedStrategy → Type 0
AgreeFor known other s = Agree known other (all_names (analyses_in s.steps s.background))

found_alike : (known other : Templates) (found : Option Evolution) (now : ℕ) (spec : ServiceSpec) → Agree known other (all_names (analyses spec)) → rule_service known found now (Service spec) ≡ rule_service other found now (Service spec)
found_alike known other None now spec h = ap (λ o. rules (unless o (succeeds_with (new_service spec now)))) (refusal_alike known other spec h)
found_alike known other (Some c) now spec h = refl

-- an attempt with that version, bound so, from that step
abbrev begun_with : Evolution → List ℕ → BoundParts → ℕ → LineEvent → ℕ → Evolution
begun_with c version bound t event i = enter (tell (with_service_state c (record (without_holds c.service) { bound = bound; version = version; state = InProgress; background = false })) t event) i t

start_alike : (known other : Templates) (c : Evolution) (t : ℕ) (name version : List ℕ) → AgreeFor known other c.service.strategy → act known (Start name version) c t ≡ act other (Start name version) c t
start_alike known other c t name version h =
    let refusal = bound_refusal_alike known other c.service.strategy h in
    let bound = bound_alike known other c.service.strategy h in
    λ i. unless (or_refusal (refusal i) (start_refusal_at c version)) (succeeds_with (begun_with c version (bound i) t (Started version) (started_at c.service version)))

retry_alike : (known other : Templates) (c : Evolution) (t : ℕ) (name : List ℕ) → AgreeFor known other c.service.strategy → act known (Retry name) c t ≡ act other (Retry name) c t
retry_alike known other c t name h =
    let refusal = bound_refusal_alike known other c.service.strategy h in
    let bound = bound_alike known other c.service.strategy h in
    λ i. unless (or_refusal (refusal i) (retry_refusal_at c)) (succeeds_with (begun_with c c.service.version (bound i) t (Retried c.service.version) 0))

-- a service that is passed keeps its strategy
after_passing : (known other : Templates) (c : Evolution) (now : ℕ) → AgreeFor known other c.service.strategy → AgreeFor known other (pass c now).service.strategy
after_passing known other c now h = subst (AgreeFor known other) (sym (passed_keeps c now).0) h

pub looks_only_at : LooksOnlyAt
looks_only_at known other found now (Template spec) h = ap (λ o. rule_template o spec) h.0
looks_only_at known other found now (Service spec) h = found_alike known other found now spec h
looks_only_at known other None now command h = refl
looks_only_at known other (Some c) now (Start name version) h = ap (λ r. rules (passed_on r (judged_at c.service now))) (start_alike known other (pass c now) (judged_at c.service now) name version (after_passing known other c now h))
looks_only_at known other (Some c) now (Retry name) h = ap (λ r. rules (passed_on r (judged_at c.service now))) (retry_alike known other (pass c now) (judged_at c.service now) name (after_passing known other c now h))
looks_only_at known other (Some c) now command h = refl
