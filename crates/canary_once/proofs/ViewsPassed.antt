-- What the code shows of a service that was passed is what the model's service shows, passed to the same moment.
use Rattle.std.proofs.Common.{◌≡◌, ℕ, List, refl, sym, ap, ◌∙◌, arith}
use Rattle.std.specs.Prelude.{◌≤◌, true, cond, Option, Some, None, option_map, Result, IfOk}
use Rattle.std.proofs.lemmas.Result.{IfOk-weaker}
use Rattle.std.specs.Ordering.{nat_cmp, eq_by_cmp}
use Rattle.std.specs.Cmp.Lexicographic.{slice_cmp, nat_list_cmp_total}
use Rattle.std.specs.FinMap.{get, get-insert}
use Rattle.std.proofs.lemmas.Cmp.{eq_by_cmp_equiv}
use Rattle.canary_plan.specs.declared.command.Command.TheVariants.{Tick}
use Rattle.canary_release.specs.declared.reply.Reply.{Reply}
use Rattle.canary_release.specs.declared.service.ServiceParts.{ServiceParts}
use Rattle.canary_release.specs.declared.service.Passed.{Passed}
use Rattle.canary_release.specs.Evolutions.{Evolution, evolution_from}
use Rattle.canary_release.specs.Rules.Passing.{pass, judged_at, followed, with_last, PassesInSteps}
use Rattle.canary_release.specs.Desks.{ModelService, Desk, ModelDecision, newest, model_evolution, after, model_decision, rules, act_passed, ruling_on, desk_after}
use Rattle.canary_release.specs.Stored.{stored_evolution, stored_after, stored_form, change_of, stored_by, stored_service, IsPassing, KeepsWhatIsSeen}
use Rattle.canary_release.specs.Effects.{TimeMeasuresNothing}
use Rattle.canary_release.specs.Laws.{WatchesAlike, passed_to}
use Rattle.canary_once.specs.declared.event.Query.{Query}
use Rattle.canary_once.specs.declared.event.Query.TheVariants.{Service, History, Run}
use Rattle.canary_once.specs.Contents.{Contents}
use Rattle.canary_once.specs.Records.{past_in, past_of}
use Rattle.canary_once.specs.Views.{found, history_view, run_reply, view_passed, view_service, asked_of, view_of}
use Rattle.canary_once.specs.Showing.{shown}
use Rattle.canary_once.proofs.Histories.{lines_grow}
use Rattle.canary_once.proofs.ViewsAfter.{record_grow}

-- a service of the model is, as time passes, what is kept of it
kept_is : WatchesAlike → (m : ModelService) → stored_evolution (stored_form m) ≡ model_evolution m
kept_is alike m = λ i. evolution_from m.service (λ xs. sym (alike m.past xs) i)

-- time passed twice to one moment is time passed once
twice : PassesInSteps → (c : Evolution) (t : ℕ) → pass (pass c t) (judged_at c.service t) ≡ pass c t
twice steps c t =
    let at = judged_at c.service t in
    let later : t ≤ at = omega arith in
    let same : judged_at c.service at ≡ at = omega arith in
    steps c t at later ∙ ap (λ u. with_last (followed c u) u) same

same_name : (name : List ℕ) → eq_by_cmp (slice_cmp nat_cmp) name name ≡ true
same_name name = (eq_by_cmp_equiv nat_list_cmp_total).refl name

some_of : (a b : ServiceParts) → ◌≡◌ {A = Option ServiceParts} (Some a) (Some b) → a ≡ b
some_of a b e = cc e

-- what is kept of a service that was passed is what is kept of the model's, passed: a Tick shows it
kept_passed : KeepsWhatIsSeen → PassesInSteps → (desk : Desk) (name : List ℕ) (m : ModelService) (t : ℕ) → get desk.services name ≡ Some m → stored_after (pass (model_evolution m) t) ≡ stored_form (passed_to t m)
kept_passed keeps steps desk name m t is =
    let c : Evolution = model_evolution m in
    let end' : Evolution = pass (pass c t) (judged_at c.service t) in
    let ruled : ruling_on desk t (Tick name) ≡ rules (act_passed (newest desk.templates) (Tick name) c t) = ap (λ (o : Option ModelService). model_decision (newest desk.templates) (option_map model_evolution o) t (Tick name)) is in
    let brings : stored_by (change_of (ruling_on desk t (Tick name)).change) ≡ Some (stored_after end') = ap (λ (r : ModelDecision). stored_by (change_of r.change)) ruled in
    let told = keeps desk t (Tick name) (stored_after end') brings in
    let found_there : stored_service (desk_after desk (Tick name) (ruling_on desk t (Tick name)).change) name ≡ Some (stored_form (after (Some m) end'.service end'.effects)) =
    ap (λ (r : ModelDecision). stored_service (desk_after desk (Tick name) r.change) name) ruled
    ∙ ap (option_map stored_form) (get-insert nat_list_cmp_total desk.services name (after (get desk.services name) end'.service end'.effects) name
    ∙ ap (λ b. cond b (Some (after (get desk.services name) end'.service end'.effects)) (get desk.services name)) (same_name name)
    ∙ ap (λ (o : Option ModelService). Some (after o end'.service end'.effects)) is) in
    let both : stored_after end' ≡ stored_form (after (Some m) end'.service end'.effects) = some_of (stored_after end') (stored_form (after (Some m) end'.service end'.effects)) (sym told ∙ found_there) in
    let once = twice steps c t in
    sym (ap stored_after once) ∙ both ∙ ap (λ (d : Evolution). stored_form (after (Some m) d.service d.effects)) once

-- what the code passed to is the model's
passed_is : WatchesAlike → KeepsWhatIsSeen → PassesInSteps → (desk : Desk) (name : List ℕ) (m : ModelService) (t : ℕ) (s : ServiceParts) (p : Passed) → get desk.services name ≡ Some m → s ≡ stored_form m → IsPassing s t p
    → p ≡ (record { service = stored_form (passed_to t m); effects = (pass (model_evolution m) t).effects })
passed_is alike keeps steps desk name m t s p is same passing =
    passing
    ∙ ap (λ (c : Evolution). let d = pass c t in let q : Passed = record { service = stored_after d; effects = d.effects } in q) (ap stored_evolution same ∙ kept_is alike m)
    ∙ ap (λ (x : ServiceParts). let q : Passed = record { service = x; effects = (pass (model_evolution m) t).effects } in q) (kept_passed keeps steps desk name m t is)

shown_is : TimeMeasuresNothing → (m : ModelService) (t : ℕ) (q : Query) → shown (record { service = stored_form (passed_to t m); effects = (pass (model_evolution m) t).effects }) q m.past ≡ view_passed (passed_to t m) q
shown_is quiet m t (Service name) = refl
shown_is quiet m t (History name) = ap (λ ls. found (history_view (passed_to t m).service.name ls)) (lines_grow m.past (pass (model_evolution m) t).effects)
shown_is quiet m t (Run name number) = ap (run_reply (passed_to t m).service) (record_grow number m.past (pass (model_evolution m) t).effects (quiet m t))

-- the reply on a service that was found
pub there : WatchesAlike → KeepsWhatIsSeen → PassesInSteps → TimeMeasuresNothing → (desk : Desk) (name : List ℕ) (o : Option ModelService) (t : ℕ) (q : Query) (s : ServiceParts) (p : Passed) (reply : Reply) → get desk.services name ≡ o
    → ◌≡◌ {A = Option ServiceParts} (Some s) (option_map stored_form o) → IsPassing s t p → reply ≡ shown p q (past_in o) → reply ≡ view_service o t q
there alike keeps steps quiet desk name None t q s p reply is found passing told = cc found
there alike keeps steps quiet desk name (Some m) t q s p reply is found passing told =
    told
    ∙ ap (λ (x : Passed). shown x q m.past) (passed_is alike keeps steps desk name m t s p is (some_of s (stored_form m) found) passing)
    ∙ shown_is quiet m t q

-- and if none was found
pub gone : (o : Option ModelService) (t : ℕ) (q : Query) (reply : Reply) → reply ≡ view_service None t q → ◌≡◌ {A = Option ServiceParts} None (option_map stored_form o) → reply ≡ view_service o t q
gone None t q reply is e = is
gone (Some m) t q reply is e = cc e

-- and so from what the book found, and then reported
pub looked : {E : Type 0} → WatchesAlike → KeepsWhatIsSeen → PassesInSteps → TimeMeasuresNothing → (old mid new : Contents) (t : ℕ) (q : Query) (s : ServiceParts) (p : Passed) (given : Result Reply E) → Some s ≡ stored_service old.desk (asked_of q) → IsPassing s t p → mid ≡ old → new ≡ mid
    → IfOk given (λ r. r ≡ shown p q (past_of mid (asked_of q))) → IfOk given (λ r. (r ≡ view_of old.desk t q) × (new ≡ old))
looked {E = E} alike keeps steps quiet old mid new t q s p given found passing same stays told =
    IfOk-weaker given (λ r. r ≡ shown p q (past_of mid (asked_of q))) (λ r. (r ≡ view_of old.desk t q) × (new ≡ old))
    (λ r e. (there alike keeps steps quiet old.desk (asked_of q) (get old.desk.services (asked_of q)) t q s p r refl found passing (e ∙ ap (λ (c : Contents). shown p q (past_of c (asked_of q))) same), stays ∙ same))
    told
