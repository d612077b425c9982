-- What a command is in JSON has no float, its keys in order, and no depth that a reader refuses.
use Rattle.std.proofs.Common.{◌≡◌, ℕ, ℤ, pos, negsuc, ◌≤◌, suc, List, [], ◌∷◌, map, false, Option, Some, None, refl, arith}
use Rattle.std.specs.Prelude.{⊤}
use Rattle.serde_json.specs.Data.{Data, string, object, Members, no_members, member, depth, items_depth, members_depth}
use Rattle.serde_json.specs.Read.{max_depth}
use Rattle.serde_json.specs.View.{items_of}
use Rattle.serde_json.specs.Written.{has_float, items_have_float, members_have_float}
use Rattle.canary_condition.specs.declared.outcome.Value.{Value}
use Rattle.canary_condition.specs.declared.outcome.Value.TheVariants.{Whole, List as ListResult}
use Rattle.canary_condition.specs.declared.outcome.Outcome.{Outcome}
use Rattle.canary_condition.specs.declared.outcome.Outcome.TheVariants.{Result as Brought, Failure}
use Rattle.canary_plan.specs.declared.step.Step.{Step}
use Rattle.canary_plan.specs.declared.step.Step.TheVariants.{SetWeight, Pause, Analysis}
use Rattle.canary_plan.specs.declared.service.Background.{Background}
use Rattle.canary_plan.specs.declared.service.ServiceSpec.{ServiceSpec}
use Rattle.canary_plan.specs.declared.template_spec.MetricSpec.{MetricSpec}
use Rattle.canary_plan.specs.declared.template_spec.TemplateSpec.{TemplateSpec}
use Rattle.canary_plan.specs.declared.report.Entry.{Entry}
use Rattle.canary_plan.specs.declared.report.Report.{Report}
use Rattle.canary_plan.specs.declared.command.Command.{Command}
use Rattle.canary_plan.specs.declared.command.Command.TheVariants as command
use Rattle.canary_plan.specs.Commands.{subject_of}
use Rattle.canary_canonical.specs.Texts.{whole_data, signed_data, data_or_null, list_data, only, passing, metric_data, metric_object, template_data, step_data, background_data, service_data, result_data, entry_with, entry_data, report_data, start_data, service_alone, command_data}
use Rattle.canary_canonical.proofs.Regular.{rebuilt, IsInOrder, ItemsInOrder, MembersInOrder}

-- no float, in order, and at most so deep
pub record IsPlain (most : ℕ) (d : Data) : Type 0 where
  pub floatless : has_float d ≡ false
  pub in_order : IsInOrder d
  pub shallow : depth d ≤ most

abbrev ArePlain : ℕ → Members → Type 0
ArePlain most no_members = ⊤
ArePlain most (member key d ms) = IsPlain most d × ArePlain most ms

members_floatless : (most : ℕ) (ms : Members) → ArePlain most ms → members_have_float ms ≡ false
members_floatless most no_members h = refl
members_floatless most (member key d ms) h = rw h.0.floatless (members_floatless most ms h.1)

members_in_order : (most : ℕ) (ms : Members) → ArePlain most ms → MembersInOrder ms
members_in_order most no_members h = tt
members_in_order most (member key d ms) h = (h.0.in_order, members_in_order most ms h.1)

members_shallow : (most : ℕ) (ms : Members) → ArePlain most ms → members_depth ms ≤ most
members_shallow most no_members h = omega arith
members_shallow most (member key d ms) h = omega (arith, h.0.shallow, members_shallow most ms h.1)

plain_object : (most : ℕ) (ms : Members) → rebuilt ms no_members ≡ ms → ArePlain most ms → IsPlain (suc most) (object ms)
plain_object most ms sorted h = record { floatless = members_floatless most ms h; in_order = (sorted, members_in_order most ms h); shallow = omega (arith, members_shallow most ms h) }

deeper : (less most : ℕ) (d : Data) → less ≤ most → IsPlain less d → IsPlain most d
deeper less most d h p = record { floatless = p.floatless; in_order = p.in_order; shallow = omega (arith, p.shallow) }

-- ---- parts

plain_text : (most : ℕ) (s : List ℕ) → IsPlain most (string s)
plain_text most s = record { floatless = refl; in_order = tt; shallow = omega arith }

plain_whole : (most n : ℕ) → IsPlain most (whole_data n)
plain_whole most n = record { floatless = refl; in_order = tt; shallow = omega arith }

plain_signed : (most : ℕ) (z : ℤ) → IsPlain most (signed_data z)
plain_signed most (pos n) = record { floatless = refl; in_order = tt; shallow = omega arith }
plain_signed most (negsuc n) = record { floatless = refl; in_order = tt; shallow = omega arith }

plain_or_null : {A : Type 0} (most : ℕ) (form : A → Data) → ((a : A) → IsPlain most (form a)) → (o : Option A) → IsPlain most (data_or_null form o)
plain_or_null most form h None = record { floatless = refl; in_order = tt; shallow = omega arith }
plain_or_null most form h (Some a) = h a

items_floatless : {A : Type 0} (most : ℕ) (form : A → Data) → ((a : A) → IsPlain most (form a)) → (xs : List A) → items_have_float (items_of (map form xs)) ≡ false
items_floatless most form h [] = refl
items_floatless most form h (x ∷ xs) = rw (h x).floatless (items_floatless most form h xs)

items_in_order : {A : Type 0} (most : ℕ) (form : A → Data) → ((a : A) → IsPlain most (form a)) → (xs : List A) → ItemsInOrder (items_of (map form xs))
items_in_order most form h [] = tt
items_in_order most form h (x ∷ xs) = ((h x).in_order, items_in_order most form h xs)

items_shallow : {A : Type 0} (most : ℕ) (form : A → Data) → ((a : A) → IsPlain most (form a)) → (xs : List A) → items_depth (items_of (map form xs)) ≤ most
items_shallow most form h [] = omega arith
items_shallow most form h (x ∷ xs) = omega (arith, (h x).shallow, items_shallow most form h xs)

plain_list : {A : Type 0} (most : ℕ) (form : A → Data) → ((a : A) → IsPlain most (form a)) → (xs : List A) → IsPlain (suc most) (list_data form xs)
plain_list most form h xs = record { floatless = items_floatless most form h xs; in_order = items_in_order most form h xs; shallow = omega (arith, items_shallow most form h xs) }

plain_only : (most : ℕ) (key : List ℕ) (d : Data) → IsPlain most d → IsPlain (suc most) (only key d)
plain_only most key d h = plain_object most _ refl (h, tt)

-- ---- templates

passing_plain : (o : Option ℕ) (rest : Members) → ArePlain 0 rest → ArePlain 0 (passing o rest)
passing_plain None rest h = h
passing_plain (Some n) rest h = (plain_whole 0 n, h)

-- the keys of a metric stand in order, with a number of successes in a row and without one
abbrev members_of : Data → Members
members_of (object ms) = ms
members_of d = no_members

metric_sorted : (o : Option ℕ) (m : MetricSpec) → rebuilt (members_of (metric_object o m)) no_members ≡ members_of (metric_object o m)
unfolding metric_object
metric_sorted None m = refl
metric_sorted (Some n) m = refl

plain_metric : (m : MetricSpec) → IsPlain 1 (metric_data m)
unfolding metric_object
plain_metric m =
    let number = plain_whole 0 in
    let text = plain_text 0 in
    plain_object 0 _ (metric_sorted m.pass_after m) (
      number _,
      (
        plain_or_null 0 whole_data number m.count,
        (
          plain_or_null 0 string text m.failure,
          (
            number _,
            (
              number _,
              (
                number _,
                (plain_or_null 0 whole_data number m.interval, (text _, passing_plain m.pass_after _ (plain_or_null 0 string text m.success, tt))),
              ),
            ),
          ),
        ),
      ),
    )

plain_template : (t : TemplateSpec) → IsPlain 3 (template_data t)
unfolding template_data
plain_template t = plain_object 2 _ refl (plain_list 1 string (plain_text 1) t.dry_run, (plain_list 1 metric_data plain_metric t.metrics, (plain_text 2 _, tt)))

-- ---- services

plain_step : (s : Step) → IsPlain 2 (step_data s)
unfolding step_data
plain_step (SetWeight percent) = plain_only 1 _ _ (plain_whole 1 percent)
plain_step (Pause seconds) = plain_only 1 _ _ (plain_or_null 1 whole_data (plain_whole 1) seconds)
plain_step (Analysis names) = plain_only 1 _ _ (plain_list 0 string (plain_text 0) names)

plain_background : (b : Background) → IsPlain 2 (background_data b)
unfolding background_data
plain_background b = plain_object 1 _ refl (plain_whole 1 _, (plain_list 0 string (plain_text 0) b.templates, tt))

plain_service : (s : ServiceSpec) → IsPlain 4 (service_data s)
unfolding service_data
plain_service s =
    plain_object 3 _ refl (
      plain_or_null 3 background_data (λ b. deeper 2 3 _ (omega arith) (plain_background b)) s.background,
      (
        plain_text 3 _,
        (plain_list 2 step_data plain_step s.steps, (plain_text 3 _, tt)),
      ),
    )

-- ---- reports

plain_result : (v : Value) → IsPlain 1 (result_data v)
plain_result (Whole z) = plain_signed 1 z
plain_result (ListResult values) = plain_list 0 signed_data (plain_signed 0) values

plain_entry_with : (metric : List ℕ) (ordinal taken : ℕ) (o : Outcome) → IsPlain 2 (entry_with metric ordinal taken o)
plain_entry_with metric ordinal taken (Brought value) = plain_object 1 _ refl (plain_text 1 _, (plain_whole 1 _, (plain_result value, (plain_whole 1 _, tt))))
plain_entry_with metric ordinal taken (Failure text) = plain_object 1 _ refl (plain_text 1 _, (plain_text 1 _, (plain_whole 1 _, (plain_whole 1 _, tt))))

pub plain_entry : (e : Entry) → IsPlain 2 (entry_data e)
unfolding entry_data
plain_entry e = plain_entry_with e.metric e.ordinal e.taken e.outcome

plain_report : (r : Report) → IsPlain 4 (report_data r)
unfolding report_data
plain_report r = plain_object 3 _ refl (plain_list 2 entry_data plain_entry r.entries, (plain_whole 3 _, (plain_text 3 _, tt)))

-- ---- commands

plain_start : (service version : List ℕ) → IsPlain 1 (start_data service version)
unfolding start_data
plain_start service version = plain_object 0 _ refl (plain_text 0 _, (plain_text 0 _, tt))

plain_alone : (service : List ℕ) → IsPlain 1 (service_alone service)
plain_alone service = plain_only 0 _ _ (plain_text 0 service)

pub plain_command : (c : Command) → IsPlain max_depth (command_data c)
unfolding command_data
plain_command (command.Template spec) = deeper 4 max_depth _ (omega arith) (plain_only 3 _ _ (plain_template spec))
plain_command (command.Service spec) = deeper 5 max_depth _ (omega arith) (plain_only 4 _ _ (plain_service spec))
plain_command (command.Start service version) = deeper 2 max_depth _ (omega arith) (plain_only 1 _ _ (plain_start service version))
plain_command (command.Report report) = deeper 5 max_depth _ (omega arith) (plain_only 4 _ _ (plain_report report))
plain_command other = deeper 2 max_depth _ (omega arith) (plain_only 1 _ _ (plain_alone (subject_of other)))
