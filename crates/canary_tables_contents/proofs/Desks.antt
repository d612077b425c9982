-- The rows of the desk after a change.
use Rattle.std.proofs.Common.{◌≡◌, ℕ, suc, List, Bool, true, false, Some, None, refl, sym, ap, ◌∙◌, subst, arith}
use Rattle.std.specs.Prelude.{Option, cond, ◌&&◌, ◌==◌, filter}
use Rattle.std.specs.Str.{bytes_eq}
use Rattle.std.specs.FinMap.{get, insert}
use Rattle.canary_plan.specs.declared.template.Template.{Template}
use Rattle.canary_plan.specs.declared.analysis_parts.Revision.{Revision}
use Rattle.canary_plan.specs.declared.command.Command.{Command}
use Rattle.canary_plan.specs.Commands.{subject_of}
use Rattle.canary_plan.specs.Plans.{all_revisions}
use Rattle.canary_release.specs.declared.effect.Effect.{Effect}
use Rattle.canary_release.specs.declared.service.ServiceParts.{ServiceParts}
use Rattle.canary_release.specs.declared.decide.DeskChange.{DeskChange}
use Rattle.canary_release.specs.declared.decide.DeskChange.TheVariants as change
use Rattle.canary_release.specs.Pasts.{Past}
use Rattle.canary_release.specs.Desks.{ModelService, RevisionMap, Desk, revisions_of, with_revision, before, after, with_service, ruling_on, apply}
use Rattle.canary_release.specs.Stored.{change_of, desk_with, KeepsWhatIsSeen}
use Rattle.canary_release.specs.Effects.{CommandsChange}
use Rattle.canary_release.specs.Order.{AreNumbered, IsInOrder, AreInOrder}
use Rattle.canary_once.specs.Records.{past_in}
use Rattle.canary_tables_rows.specs.Tables.{Tables, is_revision, is_service, is_binding, is_run, is_tally, is_measurement_of, is_line_of}
use Rattle.canary_tables_contents.specs.Values.{service_row}
use Rattle.canary_tables_contents.specs.Tables.{row_if, revision_rows, binding_rows}
use Rattle.canary_tables_contents.specs.Settling.{service_put, bindings_put, all_happened, desk_changed, DeskAsks}
use Rattle.canary_tables_contents.proofs.PastRows.{ArePastRows, AreOthersRows, AreElseSame, Happens, EffectsHappen}
use Rattle.canary_tables_contents.proofs.Filters.{not_both}
use Rattle.canary_tables_contents.proofs.SettledKeys.{NameMap, equal_names, at_name}
use Rattle.canary_tables_contents.proofs.SettledPasts.{others_kept, pasts_kept}
use Rattle.canary_tables_contents.proofs.DesksRuled.{IsAdding, adding, IsUpdate, updating}
use Rattle.canary_tables_contents.proofs.DesksPut.{revision_added, HaveSameElse, put_leaves, service_puts, service_asks}
use Rattle.canary_tables_contents.proofs.Rebound.{AttemptBound, attempt_puts}

-- the tables have the rows of this desk, and of each service's past
pub record AreDeskRows (t : Tables) (desk : Desk) : Type 0 where
  pub revisions : (name : List ℕ) (number : ℕ) → filter (is_revision name number) t.revisions ≡ revision_rows name number (revisions_of desk.templates name)
  pub services : (name : List ℕ) → filter (is_service name) t.services ≡ row_if (service_row name) (get desk.services name)
  pub attempts : (name template : List ℕ) → filter (is_binding name 0 template) t.bindings ≡ binding_rows name 0 template (get desk.services name)
  pub pasts : (name : List ℕ) → ArePastRows t name (past_in (get desk.services name))

-- and after a change those of the next; its statements find what they ask for; and the tables of callers and kept requests stay
pub record DeskSettles (asked : Command) (made : DeskChange) (t : Tables) (desk : Desk) : Type 0 where
  pub rows : AreDeskRows (desk_changed asked made t) desk
  pub asks : DeskAsks asked made t
  pub callers : (desk_changed asked made t).callers ≡ t.callers
  pub kept : (desk_changed asked made t).kept ≡ t.kept

-- A template.

pub template_settles : (t : Tables) (desk : Desk) (asked : Command) (template : Template) → AreDeskRows t desk → IsAdding desk.templates asked template
    → DeskSettles asked (change.Template template) t (record desk { templates = with_revision desk.templates template.spec.name template })
template_settles t desk asked template are is = record {
  rows = record {
    revisions = λ q number. revision_added t desk.templates template asked q number is.asked_for is.number (are.revisions q number);
    services = are.services;
    attempts = are.attempts;
    pasts = λ q. let past = are.pasts q in record { runs = past.runs; bindings = past.bindings; tallies = past.tallies; measurements = past.measurements; history = past.history };
  };
  asks = tt;
  callers = refl;
  kept = refl;
}

-- A service.

pub past_before : (found : Option ModelService) (s : ServiceParts) → past_in found ≡ (before found s.service).past
past_before None s = refl
past_before (Some m) s = refl

numbered_before : (found : Option ModelService) (s : ServiceParts) → ((m : ModelService) → found ≡ Some m → AreNumbered 1 m.past.runs) → AreNumbered 1 (before found s.service).past.runs
numbered_before None s numbered = tt
numbered_before (Some m) s numbered = numbered m refl

and_never : (b : Bool) → (b && false) ≡ false
and_never true = refl
and_never false = refl

-- what binds the present attempt leaves the rows of runs
not_present : (q name : List ℕ) (place : ℕ) → (bytes_eq q name && (suc place == 0)) ≡ false
not_present q name place = ap (λ b. bytes_eq q name && b) (not_both (suc place) 0 (λ e. absurd (omega (arith, e)))) ∙ and_never (bytes_eq q name)

past_of_bound : (name : List ℕ) (rs : List Revision) (put bound : Tables) (q : List ℕ) (p : Past) → AttemptBound name rs put bound → ArePastRows put q p → ArePastRows bound q p
past_of_bound name rs put bound q p is are = record {
  runs = λ number. ap (filter (is_run q number)) is.runs ∙ are.runs number;
  bindings = λ place template. is.others q (suc place) template (not_present q name place) ∙ are.bindings place template;
  tallies = λ number metric. ap (filter (is_tally q number metric)) is.tallies ∙ are.tallies number metric;
  measurements = ap (filter (is_measurement_of q)) is.measurements ∙ are.measurements;
  history = ap (filter (is_line_of q)) is.history ∙ are.history;
}

past_after : (name q : List ℕ) (t new : Tables) (m : ModelService) (o : Option ModelService) (b : Bool) → bytes_eq q name ≡ b → ArePastRows new name m.past → (bytes_eq q name ≡ false → AreOthersRows t new q) → ArePastRows t q (past_in o)
    → ArePastRows new q (past_in (cond b (Some m) o))
past_after name q t new m o true e own others are = subst (λ (n : List ℕ). ArePastRows new n m.past) (sym (equal_names q name e)) own
past_after name q t new m o false e own others are = others_kept t new q (past_in o) (others e) are

-- the present attempt of a service, and those of the others
attempt_after : (name q template : List ℕ) (put bound : Tables) (m : ModelService) (o : Option ModelService) (b : Bool) → bytes_eq q name ≡ b → AttemptBound name (all_revisions m.service.bound) put bound → filter (is_binding q 0 template) put.bindings ≡ binding_rows q 0 template o
    → filter (is_binding q 0 template) bound.bindings ≡ binding_rows q 0 template (cond b (Some m) o)
attempt_after name q template put bound m o true e is are =
    let same : q ≡ name = equal_names q name e in
    subst (λ (n : List ℕ). filter (is_binding n 0 template) bound.bindings ≡ binding_rows n 0 template (Some m)) (sym same) (is.own template)
attempt_after name q template put bound m o false e is are = is.others q 0 template (ap (λ b. b && (0 == 0)) e) ∙ are

-- what happens to a service, once its row and its bindings are there
happens_to : EffectsHappen → (templates : RevisionMap) (t put bound : Tables) (services : NameMap ModelService) (asked : Command) (s : ServiceParts) (effects : List Effect) → IsUpdate templates (get services s.service.name) asked s effects
    → ((m : ModelService) → get services s.service.name ≡ Some m → AreNumbered 1 m.past.runs) → HaveSameElse t put → AttemptBound s.service.name (all_revisions s.service.bound) put bound → ArePastRows t s.service.name (past_in (get services s.service.name))
    → Happens s.service.name effects bound (before (get services s.service.name) s.service).past
happens_to law templates t put bound services asked s effects is numbered same attempt are =
    let name : List ℕ = s.service.name in
    let p : Past = (before (get services name) s.service).past in
    law name templates s.service.strategy effects bound p
    (subst (ArePastRows bound name) (past_before (get services name) s)
    (past_of_bound name (all_revisions s.service.bound) put bound name (past_in (get services name)) attempt (pasts_kept t put name (past_in (get services name)) same.pasts are)))
    (numbered_before (get services name) s numbered)
    is.changes.allowed

-- Tables in which a service is put, its attempt is bound, and effects happen.
record Steps (name : List ℕ) (m : ModelService) (t put bound new : Tables) : Type 0 where
  same : HaveSameElse t put
  attempt : AttemptBound name (all_revisions m.service.bound) put bound
  rest : AreElseSame bound new
  own : ArePastRows new name m.past
  others : (q : List ℕ) → bytes_eq q name ≡ false → AreOthersRows bound new q

pasts_after : (t put bound new : Tables) (services : NameMap ModelService) (name : List ℕ) (m : ModelService) (q : List ℕ) → Steps name m t put bound new → ArePastRows t q (past_in (get services q)) → ArePastRows new q (past_in (get (insert services name m) q))
pasts_after t put bound new services name m q steps are =
    subst (λ (o : Option ModelService). ArePastRows new q (past_in o)) (sym (at_name services name m q))
    (past_after name q bound new m (get services q) (bytes_eq q name) refl steps.own (steps.others q)
    (past_of_bound name (all_revisions m.service.bound) put bound q (past_in (get services q)) steps.attempt (pasts_kept t put q (past_in (get services q)) steps.same.pasts are)))

attempts_after : (t put bound new : Tables) (services : NameMap ModelService) (name : List ℕ) (m : ModelService) (q template : List ℕ) → Steps name m t put bound new → filter (is_binding q 0 template) t.bindings ≡ binding_rows q 0 template (get services q)
    → filter (is_binding q 0 template) new.bindings ≡ binding_rows q 0 template (get (insert services name m) q)
attempts_after t put bound new services name m q template steps are =
    steps.rest.attempts q template
    ∙ attempt_after name q template put bound m (get services q) (bytes_eq q name) refl steps.attempt (ap (filter (is_binding q 0 template)) steps.same.pasts.bindings ∙ are)
    ∙ ap (binding_rows q 0 template) (sym (at_name services name m q))

service_settled : (t put bound new : Tables) (desk : Desk) (name : List ℕ) (m : ModelService) → AreDeskRows t desk → Steps name m t put bound new
    → ((q : List ℕ) → filter (is_service q) put.services ≡ row_if (service_row q) (get (insert desk.services name m) q))
    → AreDeskRows new (record desk { services = insert desk.services name m })
service_settled t put bound new desk name m are steps services = record {
  revisions = λ q number. ap (filter (is_revision q number)) (steps.rest.revisions ∙ steps.attempt.revisions ∙ steps.same.revisions) ∙ are.revisions q number;
  services = λ q. ap (filter (is_service q)) (steps.rest.services ∙ steps.attempt.services) ∙ services q;
  attempts = λ q template. attempts_after t put bound new desk.services name m q template steps (are.attempts q template);
  pasts = λ q. pasts_after t put bound new desk.services name m q steps (are.pasts q);
}

pub service_settles : EffectsHappen → (t : Tables) (desk : Desk) (asked : Command) (s : ServiceParts) (effects : List Effect) → AreDeskRows t desk → ((m : ModelService) → get desk.services s.service.name ≡ Some m → IsInOrder desk.templates s.service.name m)
    → IsUpdate desk.templates (get desk.services s.service.name) asked s effects
    → DeskSettles asked (change.Service s effects) t (with_service desk s.service.name s.service effects)
service_settles law t desk asked s effects are order is =
    let name : List ℕ = s.service.name in
    let found : Option ModelService = get desk.services name in
    let put : Tables = service_put asked s t in
    let bound : Tables = bindings_put asked s put in
    let m : ModelService = after found s.service effects in
    let same : HaveSameElse t put = put_leaves asked s t in
    let attempt = attempt_puts desk.templates found asked s effects put is order (λ template. ap (filter (is_binding name 0 template)) same.pasts.bindings ∙ are.attempts name template) in
    let applied : Happens name effects bound (before found s.service).past = happens_to law desk.templates t put bound desk.services asked s effects is (λ m at. (order m at).numbered) same attempt.0 (are.pasts name) in
    record {
      rows =
          service_settled t put bound (all_happened name effects bound) desk name m are
          (record { same = same; attempt = attempt.0; rest = applied.rest; own = applied.rows; others = applied.others })
          (λ q. service_puts desk.templates t desk.services asked s effects q is are.services);
      asks = record {
        service = service_asks desk.templates t desk.services asked s effects is (are.services name);
        bindings = attempt.1;
        effects_ask = applied.asks;
      };
      callers = applied.rest.callers ∙ attempt.0.callers ∙ same.callers;
      kept = applied.rest.kept ∙ attempt.0.kept ∙ same.kept;
    }

-- Any change.

pub desk_settles : EffectsHappen → CommandsChange → KeepsWhatIsSeen → (t : Tables) (desk : Desk) (now : ℕ) (asked : Command) (made : DeskChange) → AreDeskRows t desk → AreInOrder desk → made ≡ change_of (ruling_on desk now asked).change → desk_with desk asked made ≡ (apply desk now asked).desk
    → DeskSettles asked made t (desk_with desk asked made)
desk_settles law commands keeps t desk now asked change.Nothing are order is stands = record { rows = are; asks = tt; callers = refl; kept = refl }
desk_settles law commands keeps t desk now asked (change.Template template) are order is stands =
    let adds : IsAdding desk.templates asked template = adding commands desk now asked template order is in
    subst (λ (k : List ℕ). DeskSettles asked (change.Template template) t (record desk { templates = with_revision desk.templates k template })) (sym (ap subject_of adds.asked_for))
    (template_settles t desk asked template are adds)
desk_settles law commands keeps t desk now asked (change.Service s effects) are order is stands =
    let update = updating commands keeps desk now asked s effects order is stands in
    subst (λ (k : List ℕ). DeskSettles asked (change.Service s effects) t (with_service desk k s.service effects)) (sym update.0)
    (service_settles law t desk asked s effects are (λ m at. order.services s.service.name m at) update.1)
