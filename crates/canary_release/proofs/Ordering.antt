-- The machine keeps a desk in order.
use Rattle.std.proofs.Common.{◌≡◌, ℕ, suc, ◌+◌, List, [], ◌∷◌, ◌++◌, length-append, Bool, true, false, refl, ap, sym, ◌∙◌, subst}
use Rattle.std.specs.Prelude.{length, cond, nat_lt, nat_le, unwrap_or, IsTrue, Option, Some, None, option_map, Result, Ok, Err}
use Rattle.std.specs.List.{AllByRecursion, list_any, last_or}
use Rattle.std.specs.Ordering.{nat_cmp}
use Rattle.std.specs.Cmp.Lexicographic.{slice_cmp, nat_list_cmp_total}
use Rattle.std.specs.Str.{bytes_eq}
use Rattle.std.specs.FinMap.{FinMap, get, insert, get-insert, get-empty}
use Rattle.std.proofs.lemmas.Map.Text.{is_eq-slice_cmp}
use Rattle.std.proofs.lemmas.Slice.Eq.{bytes_eq-Decides}
use Rattle.std.proofs.lemmas.Bool.Decides.{nat_tests}
use Rattle.std.proofs.Common.{◌≤◌, arith, ◌==◌}
use Rattle.canary_plan.specs.declared.service.ServiceSpec.{ServiceSpec}
use Rattle.canary_plan.specs.declared.template_spec.TemplateSpec.{TemplateSpec}
use Rattle.canary_plan.specs.declared.template.Template.{Template}
use Rattle.canary_plan.specs.declared.strategy.CheckedStrategy.{CheckedStrategy}
use Rattle.canary_plan.specs.declared.command.Command.{Command}
use Rattle.canary_plan.specs.declared.command.Command.TheVariants.{Template as AddTemplate, Service as AddService}
use Rattle.canary_plan.specs.declared.refusal.Refusal.{Refusal}
use Rattle.canary_plan.specs.Plans.{Templates, template_of, bound_of, analysis_at, is_accepted, are_fit}
use Rattle.canary_plan.specs.Refusals.{first_that_holds}
use Rattle.canary_plan.specs.declared.refusal.Refusal.TheVariants.{RevisionsSpent}
use Rattle.canary_plan.specs.PlanRefusals.{template_refusal, strategy_refusal}
use Rattle.canary_plan.specs.Commands.{subject_of}
use Rattle.canary_release.specs.declared.runs.OpenRun.{OpenRun}
use Rattle.canary_release.specs.declared.runs.Runs.{Runs}
use Rattle.canary_release.specs.declared.service.ServiceParts.{ServiceParts}
use Rattle.canary_release.specs.Pasts.{Run, Past, no_past, past_with_all, tracked}
use Rattle.canary_release.specs.Watching.{after_all}
use Rattle.canary_release.specs.Evolutions.{Evolution, RunView, evolution_from, runs_now, has_number}
use Rattle.canary_release.specs.Rules.Commands.{ModelResult, unless, succeeds_with}
use Rattle.canary_release.specs.Desks.{ModelService, Desk, no_desk, Change, model_evolution, watch_of, rules, act_passed, act_new, new_service, RevisionMap, revisions_of, newest, with_revision, newest_number, revision_refusal, adds_unless, rule_service, model_decision, ruling_on, after, desk_after, apply}
use Rattle.canary_release.specs.Desks.Change.{Nothing, Adds, Becomes}
use Rattle.canary_release.specs.Stored.{stored_evolution, stored_after, stored_form}
use Rattle.canary_release.specs.Parts.{is_misnumbered, repeats_number, is_judged, is_broken}
use Rattle.canary_release.specs.Rules.Passing.{pass}
use Rattle.canary_release.specs.PartsLaws.{PassingKeepsParts, ActingKeepsParts, NewPartsAreUnbroken}
use Rattle.canary_release.specs.Laws.{WatchesAlike}
use Rattle.canary_release.specs.Order.{IsRun, IsInOrder, IsTemplate, AreRevisions, IsInRevisions, AreInOrder, StayInOrder}
use Rattle.canary_release.proofs.Alike.{one_watch}
use Rattle.canary_release.proofs.BoundAfter.{binds}
use Rattle.canary_release.proofs.OrderingBasics.{both_none, neither, each, none_passes, some_same}
use Rattle.canary_release.specs.Effects.{AreAllowed, bound_after}
use Rattle.canary_release.proofs.OrderingAllowed.{IsNumbered, AreDistinct, IsAtMost, IsFollowing}
use Rattle.canary_release.proofs.OrderingReports.{follows}
use Rattle.canary_release.proofs.OrderingPasts.{HasLists, IsOrdered, ordered_after_all}
use Rattle.canary_release.proofs.OrderingTemplates.{AllBound, Extends, KnowsAll, restricted, same_known, still_bound, one_more_extends, knows_all, revision_bound, fit_in, stays_accepted, strategy_accepted}
use Rattle.canary_release.proofs.PartsKept.{fit_of}
use Rattle.canary_release.proofs.PartsPassing.{bound_going}

-- What unbroken parts say of the open runs.

distinct_runs : (rs : List OpenRun) → repeats_number rs ≡ false → AreDistinct rs
distinct_runs [] e = tt
distinct_runs (r ∷ rs) e =
    let h = neither (list_any (has_number r.number) rs) (repeats_number rs) e in
    (none_passes (has_number r.number) rs h.0, distinct_runs rs h.1)

runs_within : (n : ℕ) (rs : List OpenRun) → list_any (is_misnumbered n) rs ≡ false → AllByRecursion (IsAtMost n) rs
runs_within n rs e = each (λ (r : OpenRun). is_misnumbered n r ≡ false) (IsAtMost n) (λ r h. at_most r.number ((neither (r.number == 0) (nat_lt n r.number) h).1)) rs (none_passes (is_misnumbered n) rs e)
  where
    at_most : (k : ℕ) → nat_lt n k ≡ false → k ≤ n
    at_most k h = grind (arith, nat_tests, h)

pub record PartsSay (p : ServiceParts) : Type 0 where
  pub numbered : IsNumbered p.runs
  pub unjudged : list_any is_judged p.runs.open_runs ≡ false

pub parts_say : (p : ServiceParts) → is_broken p ≡ false → PartsSay p
parts_say p e =
    let fit = fit_of p e in
    record {
      numbered = record { most = runs_within p.runs.count p.runs.open_runs fit.0.numbered; distinct = distinct_runs p.runs.open_runs fit.0.distinct };
      unjudged = fit.1;
    }

-- A service.

to_lists : (ts : RevisionMap) (s : ModelService) (rs : List Run) → AllByRecursion (IsRun ts s) rs → AllByRecursion (HasLists ts s.service.strategy s.past.measurements) rs
to_lists ts s rs h = each (IsRun ts s) (HasLists ts s.service.strategy s.past.measurements) (λ r k. record { binding = k.binding; analysis = k.analysis; one_each = k.one_each; lists = k.lists }) rs h

from_lists : (ts : RevisionMap) (s : ModelService) (rs : List Run) → AllByRecursion (HasLists ts s.service.strategy s.past.measurements) rs → AllByRecursion (IsRun ts s) rs
from_lists ts s rs h = each (HasLists ts s.service.strategy s.past.measurements) (IsRun ts s) (λ r k. record { binding = k.binding; analysis = k.analysis; one_each = k.one_each; lists = k.lists }) rs h

pub past_ordered : (ts : RevisionMap) (name : List ℕ) (m : ModelService) → IsInOrder ts name m → IsOrdered ts m.service.strategy m.past
past_ordered ts name m o = record { numbered = o.numbered; runs = to_lists ts m m.past.runs o.runs; measured = o.measured }

-- the change of a service that was found, and what came of it
pub record HasBecome (ts : RevisionMap) (name : List ℕ) (m : ModelService) (command : Command) (c : Evolution) : Type 0 where
  pub order : IsInOrder ts name (after (Some m) c.service c.effects)
  pub following : IsFollowing ts m.service (tracked m.past) c
  pub bound : c.service.bound ≡ bound_after (newest ts) command (Some m) c.service.strategy

service_becomes : WatchesAlike → PassingKeepsParts → ActingKeepsParts → (ts : RevisionMap) → AllBound ts → (name : List ℕ) (m : ModelService) (command : Command) (now : ℕ) (a : ModelResult) → IsInOrder ts name m → act_passed (newest ts) command (model_evolution m) now ≡ Ok a → HasBecome ts name m command a.evolution
service_becomes alike passing acting ts all name m command now a o e =
    let w : Runs = tracked m.past in
    let accepted : IsTrue (is_accepted m.service.strategy) = subst (λ (st : CheckedStrategy). IsTrue (is_accepted st)) (sym o.strategy) (strategy_accepted (newest ts) m.made o.accepted) in
    let fit : IsTrue (are_fit m.service.bound) = fit_in ts m.service all o.bound in
    let same : watch_of m.past ≡ after_all w = one_watch alike m.past w refl in
    let kept : act_passed (newest ts) command (stored_evolution (stored_form m)) now ≡ Ok a = ap (λ (v : RunView). act_passed (newest ts) command (evolution_from m.service v) now) (sym same) ∙ e in
    let f0 : IsFollowing ts m.service w (stored_evolution (stored_form m)) = record { strategy = refl; name = refl; watch = refl; bound = o.bound; wholly = λ g. (bound_going m.service (fit_of (stored_form m) o.parts).0 g).0; allowed = tt } in
    let idle = (fit_of (stored_after (pass (stored_evolution (stored_form m)) now)) (passing (stored_form m) now accepted fit o.parts)).0.idle in
    let f : IsFollowing ts m.service w a.evolution = follows ts m.service w (parts_say (stored_form m) o.parts).numbered command (stored_evolution (stored_form m)) now a idle f0 kept in
    let unbroken : is_broken (stored_after a.evolution) ≡ false = (acting (newest ts) command (stored_form m) now a accepted fit o.parts kept (fit_in ts a.evolution.service all f.bound)).0 in
    let grown : Past = past_with_all m.past a.evolution.effects in
    let now_watched : runs_now a.evolution ≡ tracked grown = (λ i. f.watch i a.evolution.effects) ∙ sym (alike m.past a.evolution.effects) in
    let ordered : IsOrdered ts a.evolution.service.strategy grown = subst (λ (st : CheckedStrategy). IsOrdered ts st grown) (sym f.strategy) (ordered_after_all alike ts m.service.strategy m.past a.evolution.effects f.allowed (past_ordered ts name m o)) in
    record {
      order =
          record {
            named = o.named;
            shown = f.name ∙ o.shown;
            strategy = f.strategy ∙ o.strategy;
            accepted = o.accepted;
            bound = f.bound;
            numbered = ordered.numbered;
            runs = from_lists ts (after (Some m) a.evolution.service a.evolution.effects) grown.runs ordered.runs;
            measured = ordered.measured;
            parts = ap (λ (v : Runs). is_broken (record { service = a.evolution.service; runs = v })) (sym now_watched) ∙ unbroken;
          };
      following = f;
      bound = binds (newest ts) m command (model_evolution m) now a refl refl e ∙ ap (bound_after (newest ts) command (Some m)) (sym f.strategy);
    }

service_begins : NewPartsAreUnbroken → (ts : RevisionMap) (spec : ServiceSpec) (now : ℕ) → strategy_refusal (newest ts) spec ≡ None → IsInOrder ts spec.name (after None (new_service spec now).service (new_service spec now).effects)
service_begins adding ts spec now none =
    record {
      named = refl;
      shown = refl;
      strategy = refl;
      accepted = none;
      bound = record { binding = λ name. None; bound = refl };
      numbered = tt;
      runs = tt;
      measured = refl;
      parts = adding spec now;
    }

-- What a command brings, from the service of its name as it was found.

abbrev pub OrderIf : RevisionMap → List ℕ → Option ModelService → Type 0
OrderIf ts name None = Unit {0}
OrderIf ts name (Some m) = IsInOrder ts name m

-- a new service is bound as its command binds it, it has no runs, and what happened to it may
-- happen
pub record HasBegun (ts : RevisionMap) (command : Command) (c : Evolution) : Type 0 where
  pub order : IsInOrder ts (subject_of command) (after None c.service c.effects)
  pub bound : c.service.bound ≡ bound_after (newest ts) command None c.service.strategy
  pub no_runs : (past_with_all no_past c.effects).runs ≡ []
  pub allowed : AreAllowed ts c.service.strategy (tracked no_past) c.effects

-- the next revision of a template, which has room
pub record HasAdded (ts : RevisionMap) (name : List ℕ) (t : Template) : Type 0 where
  pub order : IsTemplate name (newest_number (newest ts name) + 1) t
  pub room : nat_le 1000000 (newest_number (newest ts name)) ≡ false

abbrev pub HasCome : RevisionMap → Option ModelService → Command → Change → Type 0
HasCome ts found command Nothing = Unit {0}
HasCome ts found command (Adds t) = HasAdded ts (subject_of command) t
HasCome ts None command (Becomes c) = HasBegun ts command c
HasCome ts (Some m) command (Becomes c) = HasBecome ts (subject_of command) m command c

no_more_rows : (b : Bool) → first_that_holds ((b, RevisionsSpent) ∷ []) ≡ None → b ≡ false
no_more_rows true h = cc h
no_more_rows false h = refl

module _ (alike : WatchesAlike) (passing : PassingKeepsParts) (acting : ActingKeepsParts) (adding : NewPartsAreUnbroken) (ts : RevisionMap) (all : AllBound ts) where
  came_old : (m : ModelService) (command : Command) (now : ℕ) → IsInOrder ts (subject_of command) m → (r : Result ModelResult Refusal) → act_passed (newest ts) command (model_evolution m) now ≡ r → HasCome ts (Some m) command (rules r).change
  came_old m command now o (Ok a) e = service_becomes alike passing acting ts all (subject_of command) m command now a o e
  came_old m command now o (Err refusal) e = tt

  came_new : (spec : ServiceSpec) (now : ℕ) (refusal : Option Refusal) → strategy_refusal (newest ts) spec ≡ refusal → HasCome ts None (AddService spec) (rules (unless refusal (succeeds_with (new_service spec now)))).change
  came_new spec now None e = record { order = service_begins adding ts spec now e; bound = refl; no_runs = refl; allowed = (tt, tt) }
  came_new spec now (Some refusal) e = tt

  came_to_none : (command : Command) (now : ℕ) → HasCome ts None command (rules (act_new (newest ts) command now)).change
  came_to_none (AddService spec) now = came_new spec now (strategy_refusal (newest ts) spec) refl
  came_to_none command now = tt

  came_to_service : (found : Option ModelService) (now : ℕ) (command : Command) → OrderIf ts (subject_of command) found → HasCome ts found command (rule_service (newest ts) (option_map model_evolution found) now command).change
  came_to_service None now command o = came_to_none command now
  came_to_service (Some m) now command o = came_old m command now o (act_passed (newest ts) command (model_evolution m) now) refl

  came_adds : (found : Option ModelService) (spec : TemplateSpec) (refusal : Option Refusal) → revision_refusal (newest_number (newest ts spec.name)) spec ≡ refusal → HasCome ts found (AddTemplate spec) (adds_unless refusal (template_of spec (newest_number (newest ts spec.name) + 1))).change
  came_adds found spec None e =
      let n = newest_number (newest ts spec.name) in
      let h = both_none (template_refusal spec) (first_that_holds ((nat_le 1000000 n, RevisionsSpent) ∷ [])) e in
      record { order = record { named = refl; accepted = h.0; bound = refl }; room = no_more_rows (nat_le 1000000 n) h.1 }
  came_adds found spec (Some refusal) e = tt

  pub came : (found : Option ModelService) (now : ℕ) (command : Command) → OrderIf ts (subject_of command) found → HasCome ts found command (model_decision (newest ts) (option_map model_evolution found) now command).change
  came found now (AddTemplate spec) o = came_adds found spec (revision_refusal (newest_number (newest ts spec.name)) spec) refl
  came found now command o = came_to_service found now command o

-- The desk.

pub inserted : {A : Type 0} (m : FinMap (slice_cmp nat_cmp) A) (name : List ℕ) (a : A) (q : List ℕ) → get (insert m name a) q ≡ cond (bytes_eq q name) (Some a) (get m q)
inserted m name a q = get-insert nat_list_cmp_total m name a q ∙ ap (λ b. cond b (Some a) (get m q)) (is_eq-slice_cmp q name)

-- what is found after an insertion is what was inserted, or was there
pub found_inserted : {A : Type 0} (P : List ℕ → A → Type 0) (m : FinMap (slice_cmp nat_cmp) A) (name : List ℕ) (a : A) → P name a → ((q : List ℕ) (x : A) → get m q ≡ Some x → P q x) → (q : List ℕ) (x : A) → get (insert m name a) q ≡ Some x → P q x
found_inserted {A} P m name a new old q x e =
    elim (bytes_eq q name)
    as (λ b. bytes_eq q name ≡ b → ◌≡◌ {A = Option A} (cond b (Some a) (get m q)) (Some x) → P q x) [
      | true ↦ λ b f. let same : q ≡ name = (bytes_eq-Decides q name).0 b in subst (λ (n : List ℕ). P n x) (sym same) (subst (P name) (some_same a x f) new)
      | false ↦ λ b f. old q x f
    ] refl (sym (inserted m name a q) ∙ e)

run_kept : (ts other : RevisionMap) (s : ModelService) → Extends ts other → (r : Run) → IsRun ts s r → IsRun other s r
run_kept ts other s more r h =
    record {
      binding = restricted ts h.binding;
      analysis = ap (λ (known : Templates). analysis_at (bound_of known s.service.strategy) r.step) (sym (same_known ts other h.binding more)) ∙ h.analysis;
      one_each = h.one_each;
      lists = h.lists;
    }

order_kept : (ts other : RevisionMap) (name : List ℕ) (s : ModelService) → Extends ts other → KnowsAll (newest ts) (newest other) → IsInOrder ts name s → IsInOrder other name s
order_kept ts other name s more knows o =
    record {
      named = o.named;
      shown = o.shown;
      strategy = o.strategy;
      accepted = stays_accepted (newest ts) (newest other) s.made knows o.accepted;
      bound = still_bound ts other s.service more o.bound;
      numbered = o.numbered;
      runs = each (IsRun ts s) (IsRun other s) (run_kept ts other s more) s.past.runs o.runs;
      measured = o.measured;
      parts = o.parts;
    }

-- a template's revisions in order, with the next one
revisions_more : (name : List ℕ) (n : ℕ) (xs : List Template) (t : Template) → AreRevisions name n xs → IsTemplate name (n + length xs) t → AreRevisions name n (xs ++ t ∷ [])
revisions_more name n [] t h k = (subst (λ m. IsTemplate name m t) (omega arith) k, tt)
revisions_more name n (x ∷ xs) t h k = (h.0, revisions_more name (suc n) xs t h.1 (subst (λ m. IsTemplate name m t) (omega arith) k))

-- the newest of revisions in order has the number of revisions
newest_is : (name : List ℕ) (n : ℕ) (xs : List Template) (o : Option Template) → newest_number o + 1 ≡ n → AreRevisions name n xs → newest_number (last_or o xs) + 1 ≡ n + length xs
newest_is name n [] o e h = e ∙ omega arith
newest_is name n (x ∷ xs) o e h =
    let is : x.revision ≡ n = ap (λ (t : Template). t.revision) h.0.bound in
    newest_is name (suc n) xs (Some x) (omega (arith, is)) h.1 ∙ omega arith

revisions_in_order : (desk : Desk) → AreInOrder desk → (name : List ℕ) → AreRevisions name 1 (revisions_of desk.templates name)
revisions_in_order desk o name = by (get desk.templates name) refl
  where
    by : (found : Option (List Template)) → get desk.templates name ≡ found → AreRevisions name 1 (unwrap_or found [])
    by None e = tt
    by (Some xs) e = (o.templates name xs e).each

pub all_bound : (desk : Desk) → AreInOrder desk → AllBound desk.templates
all_bound desk o name k t e = revision_bound name 1 k (revisions_of desk.templates name) t (revisions_in_order desk o name) e

pub order_of : (desk : Desk) → AreInOrder desk → (name : List ℕ) → OrderIf desk.templates name (get desk.services name)
order_of desk o name = by (get desk.services name) refl
  where
    by : (found : Option ModelService) → get desk.services name ≡ found → OrderIf desk.templates name found
    by None e = tt
    by (Some s) e = o.services name s e

becomes_order : (ts : RevisionMap) (found : Option ModelService) (command : Command) (c : Evolution) → HasCome ts found command (Becomes c) → IsInOrder ts (subject_of command) (after found c.service c.effects)
becomes_order ts None command c h = h.order
becomes_order ts (Some m) command c h = h.order

added_of : (desk : Desk) (command : Command) (t : Template) (found : Option ModelService) → HasCome desk.templates found command (Adds t) → HasAdded desk.templates (subject_of command) t
added_of desk command t None h = h
added_of desk command t (Some m) h = h

-- how many revisions there are, by the number of the newest
pub newest_counts : (desk : Desk) → AreInOrder desk → (name : List ℕ) → newest_number (newest desk.templates name) ≡ length (revisions_of desk.templates name)
newest_counts desk o name =
    let h : newest_number (newest desk.templates name) + 1 ≡ 1 + length (revisions_of desk.templates name) = newest_is name 1 (revisions_of desk.templates name) None refl (revisions_in_order desk o name) in
    omega (arith, h)

below : (n : ℕ) → nat_le 1000000 n ≡ false → n + 1 ≤ 1000000
below n h = grind (arith, nat_tests, h)

revisions_added : (desk : Desk) → AreInOrder desk → (name : List ℕ) (t : Template) → HasAdded desk.templates name t → IsInRevisions name (revisions_of desk.templates name ++ t ∷ [])
revisions_added desk o name t h =
    let xs = revisions_of desk.templates name in
    let many : length (xs ++ t ∷ []) ≡ length xs + 1 = length-append xs (t ∷ []) in
    let counts = newest_counts desk o name in
    let few : newest_number (newest desk.templates name) + 1 ≤ 1000000 = below (newest_number (newest desk.templates name)) h.room in
    record {
      some = omega (arith, many);
      most = omega (arith, many, counts, few);
      each = revisions_more name 1 xs t (revisions_in_order desk o name) (subst (λ n. IsTemplate name n t) (omega (arith, counts)) h.order);
    }

order_after : (desk : Desk) (command : Command) (x : Change) → AreInOrder desk → HasCome desk.templates (get desk.services (subject_of command)) command x → AreInOrder (desk_after desk command x)
order_after desk command Nothing o h = o
order_after desk command (Adds t) o h =
    let name = subject_of command in
    let added : HasAdded desk.templates name t = added_of desk command t (get desk.services name) h in
    record {
      templates = found_inserted IsInRevisions desk.templates name (revisions_of desk.templates name ++ t ∷ []) (revisions_added desk o name t added) o.templates;
      services = λ q s e. order_kept desk.templates (with_revision desk.templates name t) q s (one_more_extends desk.templates name t) (knows_all desk.templates name t) (o.services q s e);
    }
order_after desk command (Becomes c) o h =
    let name = subject_of command in
    record {
      templates = o.templates;
      services = found_inserted (IsInOrder desk.templates) desk.services name (after (get desk.services name) c.service c.effects) (becomes_order desk.templates (get desk.services name) command c h) o.services;
    }

pub came_on : WatchesAlike → PassingKeepsParts → ActingKeepsParts → NewPartsAreUnbroken → (desk : Desk) (now : ℕ) (command : Command) → AreInOrder desk → HasCome desk.templates (get desk.services (subject_of command)) command (ruling_on desk now command).change
came_on alike passing acting adding desk now command o = came alike passing acting adding desk.templates (all_bound desk o) (get desk.services (subject_of command)) now command (order_of desk o (subject_of command))

pub order_applied : WatchesAlike → PassingKeepsParts → ActingKeepsParts → NewPartsAreUnbroken → (desk : Desk) (now : ℕ) (command : Command) → AreInOrder desk → AreInOrder (apply desk now command).desk
order_applied alike passing acting adding desk now command o = order_after desk command (ruling_on desk now command).change o (came_on alike passing acting adding desk now command o)

pub stay_in_order : WatchesAlike → PassingKeepsParts → ActingKeepsParts → NewPartsAreUnbroken → StayInOrder
stay_in_order alike passing acting adding desk [] o = o
stay_in_order alike passing acting adding desk (x ∷ xs) o = stay_in_order alike passing acting adding (apply desk x.0 x.1).desk xs (order_applied alike passing acting adding desk x.0 x.1 o)

pub no_desk_in_order : AreInOrder no_desk
no_desk_in_order =
    record {
      templates = λ q t e. let gone : ◌≡◌ {A = Option (List Template)} None (Some t) = sym (get-empty (slice_cmp nat_cmp) q) ∙ e in cc gone;
      services = λ q s e. let gone : ◌≡◌ {A = Option ModelService} None (Some s) = sym (get-empty (slice_cmp nat_cmp) q) ∙ e in cc gone;
    }
