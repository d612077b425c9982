-- The numbers of a command that keeps its limits fit 64 bits.
use Rattle.std.proofs.Common.{ℕ, ℤ, pos, negsuc, ◌<◌, ◌^◌, List, [], ◌∷◌, map, Bool, Option, Some, None, IsTrue, refl, arith}
use Rattle.std.specs.Prelude.{nat_le, ◌&&◌}
use Rattle.std.specs.List.{list_all}
use Rattle.std.proofs.lemmas.Bool.{and_parts}
use Rattle.serde_json.specs.Data.{Data, Members, string}
use Rattle.serde_json.specs.View.{items_of}
use Rattle.canary_condition.specs.declared.outcome.Value.TheVariants.{Whole, List as ListResult}
use Rattle.canary_condition.specs.declared.outcome.Outcome.{Outcome}
use Rattle.canary_condition.specs.declared.outcome.Outcome.TheVariants.{Result as Brought, Failure}
use Rattle.canary_plan.specs.declared.step.Step.{Step}
use Rattle.canary_plan.specs.declared.step.Step.TheVariants.{SetWeight, Pause, Analysis}
use Rattle.canary_plan.specs.declared.service.Background.{Background}
use Rattle.canary_plan.specs.declared.service.ServiceSpec.{ServiceSpec}
use Rattle.canary_plan.specs.declared.template_spec.MetricSpec.{MetricSpec}
use Rattle.canary_plan.specs.declared.template_spec.TemplateSpec.{TemplateSpec}
use Rattle.canary_plan.specs.declared.report.Entry.{Entry}
use Rattle.canary_plan.specs.declared.report.Report.{Report}
use Rattle.canary_plan.specs.declared.command.Command.{Command}
use Rattle.canary_plan.specs.declared.command.Command.TheVariants as command
use Rattle.canary_plan.specs.Limits.{is_limit, is_count}
use Rattle.canary_canonical.specs.Texts.{whole_data, signed_data, data_or_null, list_data, passing, metric_data, metric_object, template_data, step_data, background_data, service_data, entry_with, entry_data, report_data, start_data, command_data}
use Rattle.canary_canonical.specs.Laws.{is_duration, is_weight, is_starting_step, is_signed_word, all_of, keeps_metric, keeps_template, keeps_step, keeps_background, keeps_service, keeps_outcome, keeps_entry, keeps_report, keeps_limits, KeepsLimits}
use Rattle.canary_canonical.proofs.Regular.{NumbersFit, ItemsFit, MembersFit}

-- ---- tests

pub both : {a b : Bool} → IsTrue (a && b) → IsTrue a × IsTrue b
both {a} {b} h = and_parts a b h

-- what is at most a lesser number is at most a greater one
pub weaker : (n less most : ℕ) → IsTrue (nat_le n less) → IsTrue (nat_le less most) → IsTrue (nat_le n most)
weaker n less most h k = grind (arith, h, k)

-- ---- numbers of 32 bits

abbrev pub is_word : ℕ → Bool
is_word n = nat_le n 4294967295

-- ---- what the types of a metric, an entry and a report promise

-- the numbers of a metric, at most a million each
pub record MetricNumbers (m : MetricSpec) : Type 0 where
  pub count : IsTrue (all_of is_word m.count)
  pub passes : IsTrue (all_of is_word m.pass_after)
  pub failed : IsTrue (is_word m.failure_limit)
  pub inconclusive : IsTrue (is_word m.inconclusive_limit)
  pub errors : IsTrue (is_word m.consecutive_error_limit)

limit_is_word : (n : ℕ) → IsTrue (is_limit n) → IsTrue (is_word n)
limit_is_word n h = weaker n 1000000 4294967295 h refl

count_is_word : (o : Option ℕ) → IsTrue (is_count o) → IsTrue (all_of is_word o)
count_is_word None h = refl
count_is_word (Some n) h = limit_is_word n (both h).1

pub metric_numbers : (m : MetricSpec) → MetricNumbers m
metric_numbers m =
    let counts = (both (both m.within).1).1 in
    let passes = (both counts).1 in
    let failed = (both passes).1 in
    let rest = (both failed).1 in
    record {
      count = count_is_word m.count (both counts).0;
      passes = count_is_word m.pass_after (both passes).0;
      failed = limit_is_word _ (both failed).0;
      inconclusive = limit_is_word _ (both rest).0;
      errors = limit_is_word _ (both rest).1;
    }

pub ordinal_is_word : (e : Entry) → IsTrue (is_word e.ordinal)
ordinal_is_word e = weaker e.ordinal 1000000000 4294967295 (both e.within).1 refl

pub run_is_word : (r : Report) → IsTrue (is_word r.run)
run_is_word r = weaker r.run 1000000000 4294967295 (both (both r.within).0).1 refl

-- ---- parts

word_fits : (n : ℕ) → IsTrue (is_word n) → n < 2 ^ 64
word_fits n h = grind (arith, h)

weight_fits : (n : ℕ) → IsTrue (is_weight n) → n < 2 ^ 64
weight_fits n h = grind (arith, h)

starting_step_fits : (n : ℕ) → IsTrue (is_starting_step n) → n < 2 ^ 64
starting_step_fits n h = grind (arith, h)

moment_fits : (n : ℕ) → IsTrue (nat_le n 253370764799) → n < 2 ^ 64
moment_fits n h = grind (arith, h)

duration_fits : (n : ℕ) → IsTrue (is_duration n) → n < 2 ^ 64
duration_fits n h = grind (arith, h)

signed_fits : (z : ℤ) → IsTrue (is_signed_word z) → NumbersFit (signed_data z)
signed_fits (pos n) h = grind (arith, h)
signed_fits (negsuc n) h = grind (arith, h)

or_null_fits : {A : Type 0} (form : A → Data) (test : A → Bool) → ((a : A) → IsTrue (test a) → NumbersFit (form a)) → (o : Option A) → IsTrue (all_of test o) → NumbersFit (data_or_null form o)
or_null_fits form test h None k = tt
or_null_fits form test h (Some a) k = h a k

text_or_null_fits : (o : Option (List ℕ)) → NumbersFit (data_or_null string o)
text_or_null_fits None = tt
text_or_null_fits (Some s) = tt

items_fit : {A : Type 0} (form : A → Data) (test : A → Bool) → ((a : A) → IsTrue (test a) → NumbersFit (form a)) → (xs : List A) → IsTrue (list_all test xs) → ItemsFit (items_of (map form xs))
items_fit form test h [] k = tt
items_fit form test h (x ∷ xs) k = (h x (both k).0, items_fit form test h xs (both k).1)

texts_fit : (xs : List (List ℕ)) → NumbersFit (list_data string xs)
texts_fit [] = tt
texts_fit (x ∷ xs) = (tt, texts_fit xs)

-- ---- templates

passing_fits : (o : Option ℕ) (rest : Members) → IsTrue (all_of is_word o) → MembersFit rest → MembersFit (passing o rest)
passing_fits None rest h fit = fit
passing_fits (Some n) rest h fit = (word_fits n h, fit)

metric_fits : (m : MetricSpec) → IsTrue (keeps_metric m) → NumbersFit (metric_data m)
unfolding metric_object keeps_metric
metric_fits m h =
    let numbers = metric_numbers m in
    let times = both (both h).1 in (
      word_fits _ numbers.errors,
      (
        or_null_fits whole_data is_word word_fits m.count numbers.count,
        (
          text_or_null_fits m.failure,
          (
            word_fits _ numbers.failed,
            (
              word_fits _ numbers.inconclusive,
              (
                duration_fits _ times.1,
                (or_null_fits whole_data is_duration duration_fits m.interval times.0, (tt, passing_fits m.pass_after _ numbers.passes (text_or_null_fits m.success, tt))),
              ),
            ),
          ),
        ),
      ),
    )

template_fits : (t : TemplateSpec) → IsTrue (keeps_template t) → NumbersFit (template_data t)
unfolding template_data keeps_template
template_fits t h = (texts_fit t.dry_run, (items_fit metric_data keeps_metric metric_fits t.metrics (both (both h).1).0, (tt, tt)))

-- ---- services

step_fits : (s : Step) → IsTrue (keeps_step s) → NumbersFit (step_data s)
unfolding step_data keeps_step
step_fits (SetWeight percent) h = (weight_fits percent h, tt)
step_fits (Pause seconds) h = (or_null_fits whole_data is_duration duration_fits seconds h, tt)
step_fits (Analysis names) h = (texts_fit names, tt)

background_fits : (b : Background) → IsTrue (keeps_background b) → NumbersFit (background_data b)
unfolding background_data keeps_background
background_fits b h = (starting_step_fits _ (both h).1, (texts_fit b.templates, tt))

service_fits : (s : ServiceSpec) → IsTrue (keeps_service s) → NumbersFit (service_data s)
unfolding service_data keeps_service
service_fits s h =
    let parts = both (both (both h).1).1 in
    (or_null_fits background_data keeps_background background_fits s.background parts.1, (tt, (items_fit step_data keeps_step step_fits s.steps parts.0, (tt, tt))))

-- ---- reports

entry_with_fits : (metric : List ℕ) (ordinal taken : ℕ) (o : Outcome) → ordinal < 2 ^ 64 → taken < 2 ^ 64 → IsTrue (keeps_outcome o) → NumbersFit (entry_with metric ordinal taken o)
unfolding keeps_outcome
entry_with_fits metric ordinal taken (Brought (Whole number)) p q h = (tt, (p, (signed_fits number h, (q, tt))))
entry_with_fits metric ordinal taken (Brought (ListResult values)) p q h = (tt, (p, (items_fit signed_data is_signed_word signed_fits values (both h).1, (q, tt))))
entry_with_fits metric ordinal taken (Failure text) p q h = (tt, (tt, (p, (q, tt))))

entry_fits : (e : Entry) → IsTrue (keeps_entry e) → NumbersFit (entry_data e)
unfolding entry_data keeps_entry
entry_fits e h =
    let rest = both (both h).1 in
    entry_with_fits e.metric e.ordinal e.taken e.outcome (word_fits _ (ordinal_is_word e)) (moment_fits _ rest.0) rest.1

report_fits : (r : Report) → IsTrue (keeps_report r) → NumbersFit (report_data r)
unfolding report_data keeps_report
report_fits r h = (items_fit entry_data keeps_entry entry_fits r.entries (both h).1, (word_fits _ (run_is_word r), (tt, tt)))

-- ---- commands

start_fits : (service version : List ℕ) → NumbersFit (start_data service version)
unfolding start_data
start_fits service version = (tt, (tt, tt))

pub command_fits : (c : Command) → KeepsLimits c → NumbersFit (command_data c)
unfolding command_data keeps_limits
command_fits (command.Template spec) h = (template_fits spec h, tt)
command_fits (command.Service spec) h = (service_fits spec h, tt)
command_fits (command.Start service version) h = (start_fits service version, tt)
command_fits (command.Report report) h = (report_fits report h, tt)
command_fits other h = ((tt, tt), tt)
