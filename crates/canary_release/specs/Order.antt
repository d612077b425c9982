-- What holds of each service that commands have made.
use Rattle.std.specs.Prelude.{◌≡◌, ℕ, zero, suc, ◌≤◌, ◌==◌, nat_lt, ◌&&◌, IsTrue, false, Bool, List, [], ◌∷◌, length, filter, slice_get, Option, Some, None}
use Rattle.std.specs.FinMap.{get}
use Rattle.std.specs.List.{AllByRecursion, list_all, list_any}
use Rattle.canary_plan.specs.declared.template.Template.{Template}
use Rattle.canary_plan.specs.declared.command.Command.{Command}
use Rattle.canary_plan.specs.Plans.{Templates, template_of, strategy_of, bound_of, analysis_at}
use Rattle.canary_plan.specs.PlanRefusals.{template_refusal, strategy_refusal}
use Rattle.canary_release.specs.declared.effect.Recorded.{Recorded}
use Rattle.canary_release.specs.Pasts.{Run}
use Rattle.canary_release.specs.Parts.{is_broken}
use Rattle.canary_release.specs.declared.state.ServiceState.{ServiceState}
use Rattle.canary_release.specs.Desks.{ModelService, RevisionMap, revisions_of, newest, Desk, machine}
use Rattle.canary_release.specs.Stored.{stored_form}

-- runs are numbered from 1 on, the first of these having this number
abbrev pub AreNumbered : ℕ → List Run → Type 0
AreNumbered n [] = Unit {0}
AreNumbered n (r ∷ rs) = (r.number ≡ n) × AreNumbered (suc n) rs

-- measurement k of a list has ordinal k, and is of this metric of the run
abbrev pub AreOrdered : ℕ → ℕ → ℕ → List Recorded → Type 0
AreOrdered run metric n [] = Unit {0}
AreOrdered run metric n (x ∷ xs) =
    (x.run ≡ run) × (x.metric ≡ metric) × (x.ordinal ≡ n) × AreOrdered run metric (suc n) xs

-- the lists of a run, of which the first is that of this metric: in order, no longer than
-- 1,000,000, and among all measurements in the same order
abbrev pub is_of : ℕ → ℕ → Recorded → Bool
is_of run metric x = x.run == run && x.metric == metric

abbrev pub AreLists : List Recorded → ℕ → ℕ → List (List Recorded) → Type 0
AreLists all run metric [] = Unit {0}
AreLists all run metric (list ∷ lists) =
    AreOrdered run metric 1 list × (length list ≤ 1000000) × (list ≡ filter (is_of run metric) all)
    × AreLists all run (suc metric) lists

-- What a service and its runs are bound to.

-- a revision of a template, from its list
abbrev pub at_revision : List Template → Option ℕ → Option Template
at_revision ts None = None
at_revision ts (Some zero) = None
at_revision ts (Some (suc place)) = slice_get ts place

-- the templates of the revisions to which names are bound
abbrev pub known_by : RevisionMap → (List ℕ → Option ℕ) → Templates
known_by templates binding name = at_revision (revisions_of templates name) (binding name)

-- a service is bound to revisions that there are
pub record IsBoundIn (templates : RevisionMap) (s : ServiceState) : Type 0 where
  pub binding : List ℕ → Option ℕ
  pub bound : s.bound ≡ bound_of (known_by templates binding) s.strategy

-- a run's analysis is one of the strategy's, bound to revisions that there are, and the run has a
-- list for each of its metrics
pub record IsRun (templates : RevisionMap) (s : ModelService) (r : Run) : Type 0 where
  pub binding : List ℕ → Option ℕ
  pub analysis : analysis_at (bound_of (known_by templates binding) s.service.strategy) r.step
      ≡ Some r.analysis
  pub one_each : length r.lists ≡ length r.analysis.metrics
  pub lists : AreLists s.past.measurements r.number 0 r.lists

-- a measurement is of this run, and of a metric of it
abbrev pub is_measured_by : Recorded → Run → Bool
is_measured_by x r = x.run == r.number && nat_lt x.metric (length r.lists)

abbrev pub is_of_some : List Run → Recorded → Bool
is_of_some runs x = list_any (is_measured_by x) runs

-- a service under a name: the name is its command's and its own; its strategy is its command's,
-- which these templates accept; it is bound to revisions of them; its runs are numbered from 1,
-- each with the lists of an analysis; each measurement is of one of them; and its parts are
-- accepted
pub record IsInOrder (templates : RevisionMap) (name : List ℕ) (s : ModelService) : Type 0 where
  pub named : s.made.name ≡ name
  pub shown : s.service.name ≡ name
  pub strategy : s.service.strategy ≡ strategy_of s.made
  pub accepted : strategy_refusal (newest templates) s.made ≡ None
  pub bound : IsBoundIn templates s.service
  pub numbered : AreNumbered 1 s.past.runs
  pub runs : AllByRecursion (IsRun templates s) s.past.runs
  pub measured : IsTrue (list_all (is_of_some s.past.runs) s.past.measurements)
  pub parts : is_broken (stored_form s) ≡ false

-- a revision of a template under a name: it is its command's, which is accepted
pub record IsTemplate (name : List ℕ) (revision : ℕ) (t : Template) : Type 0 where
  pub named : t.spec.name ≡ name
  pub accepted : template_refusal t.spec ≡ None
  pub bound : t ≡ template_of t.spec revision

-- revisions are numbered from 1 on, the first of these having this number
abbrev pub AreRevisions : List ℕ → ℕ → List Template → Type 0
AreRevisions name n [] = Unit {0}
AreRevisions name n (t ∷ ts) = IsTemplate name n t × AreRevisions name (suc n) ts

-- the revisions of a template: 1 to 1,000,000 of them
pub record IsInRevisions (name : List ℕ) (ts : List Template) : Type 0 where
  pub some : 1 ≤ length ts
  pub most : length ts ≤ 1000000
  pub each : AreRevisions name 1 ts

pub record AreInOrder (desk : Desk) : Type 0 where
  pub templates : (name : List ℕ) (ts : List Template) → get desk.templates name ≡ Some ts
      → IsInRevisions name ts
  pub services : (name : List ℕ) (s : ModelService) → get desk.services name ≡ Some s
      → IsInOrder desk.templates name s

-- the law: the machine keeps a desk in order
abbrev pub StayInOrder : Type 0
StayInOrder =
    (desk : Desk) (xs : List (ℕ × Command)) → AreInOrder desk → AreInOrder (machine desk xs).desk
